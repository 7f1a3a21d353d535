use Rattle.std.proofs.Common.{◌++◌, List, drop}
use Rattle.linear_forms.specs.Linear.{UnitCode}
use Rattle.machine_forms.specs.Emitted.{target_byte}
use Rattle.machine_forms.specs.Routine.{Routine, routines_code}
use Rattle.rv64_emit.specs.Body.{AllStandFor}
use Rattle.rv64_emit.specs.Places.{HasTargets}
use Rattle.rv64_emit.proofs.Bodies.{Left}
use Rattle.rv64_emit.proofs.unit.put_bodies.Given as goal

-- the words so far, and those of what is left
abbrev pub invariant-loop-body : goal.invariant-loop-body
invariant-loop-body l =
    (u : UnitCode) (rs : List Routine) → HasTargets l.targets u → AllStandFor l.bodies rs →
    Left (drop l.body-index l.bodies) (target_byte u) l.words.items l.here (l.initial.words.items ++ routines_code (target_byte u) l.first rs)
