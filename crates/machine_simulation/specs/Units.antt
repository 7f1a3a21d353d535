-- What is asked of a unit, where its words stand.
use Rattle.std.specs.Prelude.{◌^◌, ◌<◌, List, ◌++◌}
use Rattle.std.specs.List.{AllByRecursion}
use Rattle.rv64_isa.specs.State.{Part}
use Rattle.machine_forms.specs.Bounds.{LinearFits}
use Rattle.machine_forms.specs.Routine.{routine_words}
use Rattle.machine_forms.specs.Emitted.{function_routine, unit_words, emitted_stubs}
use Rattle.machine_pieces.specs.Standing.{WordsAt}
use Rattle.machine_pieces.specs.UnitAt.{whole_words}
use Rattle.machine_simulation.specs.Plan.{Plan}
use Rattle.machine_simulation.specs.Matches.{FrameIs, UnitStands}

-- Where the words of a unit stand, with those of the runtime's own functions in front of them, all of it stands as the simulation asks, if
-- there are few words, no function is long, frames are as they are laid out, and registers suffice.
abbrev pub UnitsStand : Type 0
UnitsStand = (p : Plan) (memory : List Part) → whole_words p.unit < 2 ^ 28 → AllByRecursion (λ g. routine_words (function_routine g) < 2 ^ 18) p.unit.functions → AllByRecursion FrameIs p.unit.functions →
    AllByRecursion (λ g. AllByRecursion LinearFits g.ops) p.unit.functions → WordsAt memory p.base (emitted_stubs.code ++ unit_words p.unit) → UnitStands p memory
