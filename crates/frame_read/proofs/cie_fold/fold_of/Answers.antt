use Rattle.std.proofs.Common.{rules, ◌≡◌, refl, ◌∙◌, subst}
use Rattle.arrayvec.specs.ArrayVec.{array_vec_len}
use Rattle.eh_bytes.specs.Memory.{part_of}
use Rattle.table_forms.specs.Cie.{Cie}
use Rattle.frame_read.specs.CieFold.{AllStay}
use Rattle.frame_read.proofs.Kept.{all_left, is_fold, reads_as}
use Rattle.frame_read.proofs.cie_fold.fold_of.Goals as goal

pub stays_over-requires-clause-whole : goal.stays_over-requires-clause-whole
stays_over-requires-clause-whole c =
    let part = part_of c.args.segment.now in let cie = c.args.cie.now in
    let r = reads_as part cie c.requires.whole.0 c.requires.whole.1 in
    (r.list.list, r.list.states, all_left part cie c.requires.whole.0 r (array_vec_len c.begun-folding.result.states) c.begun-folding.ensures.states)

pub returns-then-not-stays_over : goal.returns-then-not-stays_over
returns-then-not-stays_over c = λ cie e stay.
    let part = part_of c.args.segment.now in let h = c.args.cie.now in
    let r = reads_as part h cie e in
    c.stays_over.ensures.moves c.if-not-stays_over.true r.list.list r.list.states (all_left part h cie r (array_vec_len c.begun-folding.result.states) c.begun-folding.ensures.states)
    (subst (λ (x : Cie). AllStay x.instructions) r.same stay)

pub returns : goal.returns
returns c = λ cie e.
    let part = part_of c.args.segment.now in let h = c.args.cie.now in
    let r = reads_as part h cie e in
    let b = c.begun-folding.result in let t = c.stays_over.new.folding in
    let over = c.stays_over.ensures.over c.if-not-stays_over.false r.list.list r.list.states (all_left part h cie r (array_vec_len b.states) c.begun-folding.ensures.states) in
    let same : c.in_ok-states.states.items ≡ c.as_slice.result.now = search rules in
    is_fold part h cie r b t _ (array_vec_len t.states) c.begun-folding.ensures.seen over.0 c.stays_over.ensures.goes over.1 refl (rw (← c.as_slice.ensures.value) c.as_slice.ensures.fits) refl
    (same ∙ c.as_slice.ensures.value)
