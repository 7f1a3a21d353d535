use Rattle.std.proofs.Common.{◌∙◌, ◌+◌, ◌++◌, ap, refl}
use Rattle.machine_forms.specs.Emitted.{main_jump, target_byte, unit_routines}
use Rattle.machine_forms.specs.Piece.{Places, words_from}
use Rattle.machine_forms.specs.Routine.{routines_code}
use Rattle.machine_forms.specs.StubCode.{stub_words}
use Rattle.rv64_emit.proofs.unit.unit_words.Goals as goal

pub returns : goal.returns
returns c u h s m =
    let places : Places = record { target = target_byte u; label = λ l. l } in
    let jump = c.in_ok-put_main_jump.ensures u h m places refl ∙ ap (λ l. l ++ words_from places stub_words (main_jump u)) c.new-words.ensures.items in
    c.in_ok-put_bodies.ensures u (unit_routines u) h s ∙ ap (λ l. l ++ routines_code (target_byte u) (stub_words + 2) (unit_routines u)) jump
