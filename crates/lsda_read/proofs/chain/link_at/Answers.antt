use Rattle.std.proofs.lemmas.Int.{to_z-of_z}
use mir.Val.{SFits}
use Rattle.std.proofs.Common.{rules, w64, ◌∷◌, ap, sym, ◌∙◌}
use Rattle.eh_bytes.specs.Memory.{part_of}
use Rattle.lsda_read.specs.Heads.{head_seen}
use Rattle.lsda_read.specs.Left.{filters_left}
use Rattle.lsda_read.proofs.Steps.{filter_first, filter_outside, filter_ranged}
use Rattle.lsda_read.proofs.chain.link_at.Goals as goal

pub returns-in-Record : goal.returns-in-Record
returns-in-Record c = λ n.
    let s = part_of c.args.segment.now in let h = head_seen c.args.head.now in
    let fits : SFits w64 c.in-Record.filter = search rules in
    filter_first s h c.args.place n c.in-Record.filter c.in-Record.next (sym c.in-Record.ensures.action) ∙
    ap (λ o. c.in-Record.filter ∷ filters_left s h n o) (sym c.next_place.ensures) ∙
    ap (λ z. z ∷ filters_left s h n c.next_place.result) (sym (to_z-of_z w64 c.in-Record.filter fits))

pub returns-in-Outside : goal.returns-in-Outside
returns-in-Outside c = λ n. filter_outside (part_of c.args.segment.now) (head_seen c.args.head.now) c.args.place n (sym c.in-Outside.ensures.action)

pub returns-in-Ranged : goal.returns-in-Ranged
returns-in-Ranged c = λ n. filter_ranged (part_of c.args.segment.now) (head_seen c.args.head.now) c.args.place n c.in-Ranged.field-0 (sym c.in-Ranged.ensures.action)
