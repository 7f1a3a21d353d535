use Rattle.std.proofs.Common.{◌∙◌, ◌+◌, ◌++◌, drop, get_or, ap, pos, refl, sym}
use Rattle.std.proofs.lemmas.List.{drop_more}
use Rattle.machine_forms.specs.Immediate.{immediate}
use Rattle.machine_forms.specs.KeptCode.{one_saved, saves}
use Rattle.machine_forms.specs.Piece.{Piece}
use Rattle.machine_forms.specs.Registers.{saved_registers}
use Rattle.machine_forms.specs.Shape.{slot_offset}
use Rattle.rv64_emit.proofs.Saved.{last, next, no_saves, over}
use Rattle.rv64_emit.proofs.saving.put_saves.Goals.{in-Some+in_ok-put_saved, in_default}
use Rattle.rv64_emit.proofs.saving.put_saves.Goals as goal

pub loop-place-preserved : goal.loop-place-preserved
loop-place-preserved c =
    let f = c.args.frame.now in
    let n = c.args.parameters in
    let ks = c.kept-kept.result.now in
    let i = c.loop-place.place in
    let s = get_or ks i 0 in
    let old = c.loop-place.code in
    let new = c.match-saved.code in
    let all = c.args.code.now ++ saves f n saved_registers ks in
    elim c.match-saved.branch [
      | in-Some+in_ok-put_saved w ↦
          let r = w.in-Some.register in
          next {X = Piece} ks i all (saves f n) (saves f n) (one_saved n (immediate (pos (slot_offset f s))) r s) old new r s refl (sym c.saved.ensures ∙ w.in-Some.is)
          (drop_more ks i 0 c.loop-place-test.true) c.loop-place.invariant (w.code-is ∙ (w.in_ok-put_saved.ensures ∙ ap (λ o. old ++ one_saved n o r s) w.offset_of.ensures))
      | in_default w ↦
          ap (λ a. a ++ saves f n (drop (i + 1) saved_registers) (drop (i + 1) ks)) w.code-is
          ∙ over {X = Piece} ks i all (saves f n) (saves f n) old (λ xs. refl) (λ xs. refl) (sym c.saved.ensures ∙ w.in_default.is) c.loop-place.invariant
    ]

pub returns : goal.returns
returns c =
    let f = c.args.frame.now in
    let n = c.args.parameters in
    let ks = c.kept-kept.result.now in
    let old = c.args.code.now in
    last {X = Piece} ks c.loop-place.place (old ++ saves f n saved_registers ks) (saves f n) c.loop-place.code (no_saves f n) c.loop-place-test.false c.loop-place.invariant
    ∙ ap (λ l. old ++ saves f n saved_registers l) c.kept-kept.ensures
