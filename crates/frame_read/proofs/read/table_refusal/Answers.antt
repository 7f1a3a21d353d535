use Rattle.std.proofs.Common.{List, ap, sym, ◌∙◌, option_map}
use Rattle.eh_bytes.specs.declared.frames.HdrRow.{HdrRow}
use Rattle.table_forms.specs.Frames.{sorted, disagreement, table_disagreement}
use Rattle.frame_read.specs.Order.{disagrees}
use Rattle.frame_read.proofs.Orders.{disagrees_listed}
use Rattle.frame_read.proofs.read.table_refusal.Goals as goal

pub returns-in-Some : goal.returns-in-Some
returns-in-Some c = λ fs e.
    let place = c.args.place in let rows = c.deref.result.now in
    let same = ap (λ o. table_disagreement place (option_map (λ v. v.items) o) fs) c.in-Some.is ∙
    ap (λ (xs : List HdrRow). disagreement place xs (sorted fs)) (sym c.deref.ensures.value) in
    c.disagreement.ensures ∙ ap (disagrees place rows) e ∙ sym (disagrees_listed place rows (sorted fs)) ∙ sym same
