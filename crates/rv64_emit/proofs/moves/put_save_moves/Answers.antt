use Rattle.std.proofs.Common.{◌≡◌, ◌∙◌, ◌+◌, ◌*◌, ◌++◌, [], ◌∷◌, ◌-ℤ◌, ℕ, drop, get_or, ap, length, pos, refl, sym}
use Rattle.std.specs.Prelude.{nat_lt, if◌then◌else◌}
use Rattle.std.proofs.lemmas.List.{drop_more}
use Rattle.eh_bytes.specs.declared.frames.FrameMove.{FrameMove}
use Rattle.eh_bytes.specs.declared.frames.FrameChange.TheVariants.{Saved}
use Rattle.machine_forms.specs.Immediate.{immediate}
use Rattle.machine_forms.specs.KeptCode.{one_saved, save_moves}
use Rattle.machine_forms.specs.Registers.{saved_registers}
use Rattle.machine_forms.specs.Shape.{move_at, slot_offset}
use Rattle.rv64_emit.proofs.Saved.{last, next, no_moves, over}
use Rattle.rv64_emit.proofs.moves.put_save_moves.Goals.{in-Some+in_ok-stored+in_ok-push+in_ok-next, in_default}
use Rattle.rv64_emit.proofs.moves.put_save_moves.Goals as goal

pub loop-place-preserved : goal.loop-place-preserved
loop-place-preserved c =
    let f = c.args.frame.now in
    let n = c.args.parameters in
    let ks = c.kept-kept.result.now in
    let i = c.loop-place.place in
    let s = get_or ks i 0 in
    let at = c.loop-place.next in
    let old = c.loop-place.moves.items in
    let all = c.args.moves.now.items ++ save_moves f n c.args.first saved_registers ks in
    elim c.match-saved.branch [
      | in-Some+in_ok-stored+in_ok-push+in_ok-next w ↦
          let r = w.in-Some.register in
          let place = immediate (pos (slot_offset f s)) in
          let moved : ℕ → FrameMove = λ k. move_at (4 * k) (Saved r (pos (slot_offset f s) -ℤ pos f.size)) in
          let one : FrameMove = moved (at + (if nat_lt s n then 2 else 1)) in
          let is : w.saved_move.result ≡ one = w.saved_move.ensures ∙ ap moved (w.in_ok-stored.ensures ∙ ap (λ k. at + k) w.words_to_store.ensures) in
          let on : c.match-saved.next ≡ at + length (one_saved n place r s) = w.next-is ∙ (w.in_ok-next.ensures ∙ ap (λ k. at + k) (w.words_to_save.ensures place r)) in
          next {X = FrameMove} ks i all (save_moves f n at) (save_moves f n c.match-saved.next) (one ∷ []) old c.match-saved.moves.items r s
          (ap (λ m. one ∷ save_moves f n m (drop (i + 1) saved_registers) (drop (i + 1) ks)) (sym on)) (sym c.saved.ensures ∙ w.in-Some.is)
          (drop_more ks i 0 c.loop-place-test.true) c.loop-place.invariant (ap (λ v. v.items) w.moves-is ∙ (w.in_ok-push.ensures.items ∙ ap (λ m. old ++ m ∷ []) is))
      | in_default w ↦
          ap (λ a. a ++ save_moves f n c.match-saved.next (drop (i + 1) saved_registers) (drop (i + 1) ks)) (ap (λ v. v.items) w.moves-is)
          ∙ (ap (λ m. old ++ save_moves f n m (drop (i + 1) saved_registers) (drop (i + 1) ks)) w.next-is
          ∙ over {X = FrameMove} ks i all (save_moves f n at) (save_moves f n at) old (λ xs. refl) (λ xs. refl) (sym c.saved.ensures ∙ w.in_default.is) c.loop-place.invariant)
    ]

pub returns : goal.returns
returns c =
    let f = c.args.frame.now in
    let n = c.args.parameters in
    let ks = c.kept-kept.result.now in
    let old = c.args.moves.now.items in
    last {X = FrameMove} ks c.loop-place.place (old ++ save_moves f n c.args.first saved_registers ks) (save_moves f n c.loop-place.next) c.loop-place.moves.items (no_moves f n c.loop-place.next) c.loop-place-test.false c.loop-place.invariant
    ∙ ap (λ l. old ++ save_moves f n c.args.first saved_registers l) c.kept-kept.ensures
