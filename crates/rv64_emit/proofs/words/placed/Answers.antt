use Rattle.std.proofs.Common.{◌∙◌, ap, refl, sym}
use Rattle.rv64_isa.specs.declared.instr.Instr.TheVariants.{Addi, Jalr, Lw, Sw}
use Rattle.machine_forms.specs.Emitted.{target_byte}
use Rattle.machine_forms.specs.Piece.{placed}
use Rattle.machine_forms.specs.Routine.{routine_places}
use Rattle.rv64_emit.specs.View.{piece_of}
use Rattle.rv64_emit.proofs.words.placed.Goals as goal

pub returns-in-AddRest : goal.returns-in-AddRest
returns-in-AddRest c u r h s =
    let places = routine_places (target_byte u) c.args.first r in
    ap (λ n. Addi c.in-AddRest.rd c.in-AddRest.rd n) (c.rest.ensures u h places refl) ∙ ap (λ p. placed places c.args.here (piece_of p)) (sym c.in-AddRest.is)

pub returns-in-LoadRest : goal.returns-in-LoadRest
returns-in-LoadRest c u r h s =
    let places = routine_places (target_byte u) c.args.first r in
    ap (λ n. Lw c.in-LoadRest.rd c.in-LoadRest.rd n) (c.rest-in-LoadRest.ensures u h places refl) ∙ ap (λ p. placed places c.args.here (piece_of p)) (sym c.in-LoadRest.is)

pub returns-in-StoreRest : goal.returns-in-StoreRest
returns-in-StoreRest c u r h s =
    let places = routine_places (target_byte u) c.args.first r in
    ap (λ n. Sw c.in-StoreRest.base c.in-StoreRest.value n) (c.rest-in-StoreRest.ensures u h places refl) ∙ ap (λ p. placed places c.args.here (piece_of p)) (sym c.in-StoreRest.is)

pub returns-in-JumpRest : goal.returns-in-JumpRest
returns-in-JumpRest c u r h s =
    let places = routine_places (target_byte u) c.args.first r in
    ap (λ n. Jalr c.in-JumpRest.link c.in-JumpRest.base n) (c.rest-in-JumpRest.ensures u h places refl) ∙ ap (λ p. placed places c.args.here (piece_of p)) (sym c.in-JumpRest.is)
