-- What a unit must be for its image to be clean and runnable.
use Rattle.std.specs.Prelude.{ℕ, ◌+◌, ◌*◌, ◌≤◌, ◌<◌, ⊤, length, Option, Some, None}
use Rattle.std.specs.List.{AllByRecursion}
use Rattle.eh_bytes.specs.Listed.{ListedUnit}
use Rattle.image_forms.specs.Function.{FunctionFits, StandInRow}
use Rattle.image_forms.specs.Room.{unit_room, symbols_room}

-- a base is the row of a type
abbrev pub BaseIsThere : ℕ → Option ℕ → Type 0
BaseIsThere rows None = ⊤
BaseIsThere rows (Some base) = base < rows

-- Of at most 65,536 tokens; few words and bytes for them, its symbols counted; functions in a row, each as the writers of tables and frames need it; the record
-- of `std::bad_exception` is there.
pub record IsLinkable (u : ListedUnit) : Type 0 where
  pub source : u.tokens ≤ 65536
  pub words : length u.code ≤ 128 * u.tokens + 2048
  pub room : unit_room u + symbols_room u ≤ 768 * u.tokens + 65536
  pub row : StandInRow 0 (length u.code) u.functions
  pub functions : AllByRecursion (FunctionFits (length u.types)) u.functions
  pub bases : AllByRecursion (λ t. BaseIsThere (length u.types) t.base) u.types
  pub bad_exception : 1 < length u.types
