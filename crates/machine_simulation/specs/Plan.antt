-- Where a unit's code stands, and where that stands which addresses of linear code begin at.
use Rattle.std.specs.Prelude.{ℕ, ◌+◌, ◌&&◌, not, Bool, length}
use Rattle.region_forms.specs.Form.{Kinds, kinds_of}
use Rattle.region_forms.specs.World.{Base}
use Rattle.linear_forms.specs.Linear.{FunctionCode, UnitCode}
use Rattle.linear_forms.specs.UnitRun.{code_at}
use Rattle.machine_forms.specs.Shape.{Shape}
use Rattle.machine_forms.specs.Routine.{Routine}
use Rattle.machine_forms.specs.StubCode.{stub_words}
use Rattle.machine_forms.specs.Emitted.{shape_of, function_routine, function_first, target_byte}
use Rattle.machine_pieces.specs.Standing.{Ground}
use Rattle.machine_pieces.specs.Frames.{Setting}
use Rattle.machine_pieces.specs.UnitAt.{routine_ground}

-- A unit and the address of its first word; of what an address begins at, the first byte, whether it is live, how many bytes it has, and
-- whether these are ints that addresses reach. A variable that is kept in a register is not live: no address means its bytes. A global, a variable and an exception have such ints, any other slot of a call has not. The
-- address of each function's table of exceptions; and how many bytes lie between the frame of terminate, where it runs, and those of the calls
-- below it: what a forced unwind has left that came to a call without a site.
pub record Plan : Type 0 where
  pub unit : UnitCode
  pub base : ℕ
  pub at : Base → ℕ
  pub live : Base → Bool
  pub size : Base → ℕ
  pub ints : Base → Bool
  pub tables : ℕ → ℕ
  pub hidden : ℕ

-- a function of the unit, its frame, the kinds of its slots, and its code
abbrev pub function : Plan → ℕ → FunctionCode
function p n = code_at p.unit n

abbrev pub shape : Plan → ℕ → Shape
shape p n = shape_of (function p n)

abbrev pub slot_kinds : Plan → ℕ → Kinds
slot_kinds p n = kinds_of (function p n).slots

abbrev pub routine : Plan → ℕ → Routine
routine p n = function_routine (function p n)

-- its first word
abbrev pub first_word : Plan → ℕ → ℕ
first_word p n = stub_words + function_first p.unit n

-- some of what was live is over
abbrev pub narrowed : Plan → (over : Base → Bool) → Plan
narrowed p over = record p { live = λ b. p.live b && not (over b) }

-- where things stand for code with places of its own
abbrev pub setting_on : Plan → (ground : Ground) → Setting
setting_on p g = record { ground = g; at = p.at; live = p.live; globals = length p.unit.globals }

-- where things stand for a function's code
abbrev pub setting : Plan → ℕ → Setting
setting p n = setting_on p (routine_ground p.unit p.base (target_byte p.unit) (first_word p n) (routine p n))
