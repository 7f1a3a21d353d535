use Rattle.std.proofs.Common.{◌≡◌, ◌++◌, drop, map}
use Rattle.linear_forms.specs.Linear.{UnitCode}
use Rattle.machine_forms.specs.Emitted.{target_byte}
use Rattle.machine_forms.specs.Piece.{words_from}
use Rattle.machine_forms.specs.Routine.{Routine, routine_places}
use Rattle.rv64_emit.specs.Body.{StandsFor}
use Rattle.rv64_emit.specs.Places.{HasTargets}
use Rattle.rv64_emit.specs.View.{piece_of}
use Rattle.rv64_emit.proofs.words.put_body.Given as goal

-- the words so far, and those of what is left
abbrev pub invariant-loop-piece : goal.invariant-loop-piece
invariant-loop-piece l =
    (u : UnitCode) (r : Routine) → HasTargets l.targets u → StandsFor l.body r →
    l.words.items ++ words_from (routine_places (target_byte u) l.first r) l.here (map piece_of (drop l.piece-index l.piece-items))
    ≡ l.initial.words.items ++ words_from (routine_places (target_byte u) l.first r) l.first (map piece_of l.piece-items)
