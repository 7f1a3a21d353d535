use Rattle.std.proofs.Common.{◌+◌, nat_le, option_map, ap, sym, ◌∙◌, ◌++◌, ◌==◌, ◌||◌}
use Rattle.eh_bytes.specs.Memory.{memory_of, is_code}
use Rattle.table_forms.specs.declared.reason.Reason.TheVariants.{SiteOrder, SiteOutside, PadOutside}
use Rattle.table_forms.specs.Fault.{least, joined, unless}
use Rattle.table_forms.specs.Seen.{fault_of}
use Rattle.lsda_read.proofs.Records.{three}
use Rattle.lsda_read.proofs.table.site_refusal.Goals as goal

pub returns : goal.returns
returns c =
    let place = c.args.file_at + c.args.row.now.at in
    let start = c.args.region.start + c.args.row.now.start in
    let A = unless (nat_le c.args.before start) SiteOrder place in
    let B = unless (nat_le (start + c.args.row.now.length) (c.args.region.start + c.args.region.length)) SiteOutside place in
    let C = unless c.is_pad.result PadOutside place in
    c.joined-2.ensures ∙
    ap (λ o. joined o (option_map fault_of c.unless-pad.result)) (c.joined.ensures ∙ ap (λ o. joined o (option_map fault_of c.unless-inside.result)) c.unless-order.ensures ∙ ap (joined (least A)) c.unless-inside.ensures) ∙
    ap (joined (joined (least A) (least B))) c.unless-pad.ensures ∙ sym (three A B C) ∙
    ap (λ b. least (A ++ B ++ unless b PadOutside place)) (c.is_pad.ensures ∙ ap (λ x. x == 0 || is_code (memory_of c.args.memory.now) x) c.pad_of.ensures)
