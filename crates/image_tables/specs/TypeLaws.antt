-- The type records of a linked image, as the runtime reads them (Itanium C++ ABI, "Run-Time Type Information").
use Rattle.std.specs.Prelude.{◌≡◌, ◌<◌, ℕ, length, map, Some}
use Rattle.rv64_isa.specs.State.{State}
use Rattle.elf_image.specs.Clean.{CleanImage}
use Rattle.cxa_runtime.specs.Types.{type_records}
use Rattle.linear_forms.specs.Linear.{UnitCode}
use Rattle.image_forms.specs.Placed.{record_at}
use Rattle.table_verdicts.specs.Types.{with_bases, ChainEnds}
use Rattle.image_tables.specs.Read.{IsImageOf}
use Rattle.image_tables.specs.Functions.{records_end}
use Rattle.image_tables.specs.TableLaws.{IsRunOf}

-- behind the record of a type the runtime finds those of all its bases, whatever has been written where memory may be written
abbrev pub TypesAreRead : Type 0
TypesAreRead = (u : UnitCode) (i : CleanImage) (s : State) (t : ℕ) → IsImageOf u i → IsRunOf i s → t < length u.types → ChainEnds u.types t →
    type_records s (record_at (records_end u) t) ≡ Some (map (record_at (records_end u)) (with_bases u.types t))
