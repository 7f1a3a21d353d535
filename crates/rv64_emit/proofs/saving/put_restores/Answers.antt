use Rattle.std.proofs.Common.{◌≡◌, ◌∙◌, ◌+◌, ◌++◌, [], ◌∷◌, drop, get_or, ap, pos, refl, sym}
use Rattle.std.proofs.lemmas.List.{drop_more}
use Rattle.rv64_isa.specs.declared.instr.Instr.TheVariants.{Ld}
use Rattle.machine_forms.specs.Immediate.{immediate}
use Rattle.machine_forms.specs.KeptCode.{restores}
use Rattle.machine_forms.specs.Piece.{Piece, instruction}
use Rattle.machine_forms.specs.Registers.{saved_registers, sp}
use Rattle.machine_forms.specs.Shape.{slot_offset}
use Rattle.rv64_emit.proofs.Saved.{last, next, no_restores, over}
use Rattle.rv64_emit.proofs.saving.put_restores.Goals.{in-Some+in_ok-put, in_default}
use Rattle.rv64_emit.proofs.saving.put_restores.Goals as goal

pub loop-place-preserved : goal.loop-place-preserved
loop-place-preserved c =
    let f = c.args.frame.now in
    let ks = c.kept-kept.result.now in
    let i = c.loop-place.place in
    let s = get_or ks i 0 in
    let old = c.loop-place.code in
    let new = c.match-saved.code in
    let all = c.args.code.now ++ restores f saved_registers ks in
    elim c.match-saved.branch [
      | in-Some+in_ok-put w ↦
          let r = w.in-Some.register in
          let is : instruction (Ld r w.sp.result w.offset_of.result) ≡ instruction (Ld r sp (immediate (pos (slot_offset f s)))) = cc in
          next {X = Piece} ks i all (restores f) (restores f) (instruction (Ld r sp (immediate (pos (slot_offset f s)))) ∷ []) old new r s refl
          (sym c.saved.ensures ∙ w.in-Some.is) (drop_more ks i 0 c.loop-place-test.true) c.loop-place.invariant
          (w.code-is ∙ (w.in_ok-put.ensures ∙ ap (λ p. old ++ p ∷ []) is))
      | in_default w ↦
          ap (λ a. a ++ restores f (drop (i + 1) saved_registers) (drop (i + 1) ks)) w.code-is
          ∙ over {X = Piece} ks i all (restores f) (restores f) old (λ xs. refl) (λ xs. refl) (sym c.saved.ensures ∙ w.in_default.is) c.loop-place.invariant
    ]

pub returns : goal.returns
returns c =
    let f = c.args.frame.now in
    let ks = c.kept-kept.result.now in
    let old = c.args.code.now in
    last {X = Piece} ks c.loop-place.place (old ++ restores f saved_registers ks) (restores f) c.loop-place.code (no_restores f) c.loop-place-test.false c.loop-place.invariant
    ∙ ap (λ l. old ++ restores f saved_registers l) c.kept-kept.ensures
