use Rattle.std.proofs.Common.{◌+◌, ◌++◌, ◌==◌, ◌||◌, option_map, ap, sym, ◌∙◌}
use Rattle.table_forms.specs.declared.reason.Reason.TheVariants.{Encoding}
use Rattle.table_forms.specs.Fault.{least, joined, unless}
use Rattle.table_forms.specs.Header.{is_bare}
use Rattle.table_forms.specs.Seen.{fault_of}
use Rattle.frame_read.specs.SeenHeader.{encodings_seen}
use Rattle.frame_read.proofs.Joined.{three}
use Rattle.frame_read.proofs.header.encodings_refusal.Goals as goal

pub returns : goal.returns
returns c =
    let at = c.args.segment.now.file_at in let p = c.args.place in let e = encodings_seen c.args.encodings in
    let A = unless (e.pointer == 0x1b) Encoding (at + (p + 1)) in
    let B = unless c.is_count_known.result Encoding (at + (p + 2)) in
    let C = unless c.is_table_known.result Encoding (at + (p + 3)) in
    c.joined-2.ensures ∙
    ap (λ o. joined o (option_map fault_of c.unless-table.result)) (c.joined.ensures ∙ ap (λ o. joined o (option_map fault_of c.unless-count.result)) c.unless-pointer.ensures ∙ ap (joined (least A)) c.unless-count.ensures) ∙
    ap (joined (joined (least A) (least B))) c.unless-table.ensures ∙ sym (three A B C) ∙
    ap (λ b. least (A ++ unless b Encoding (at + (p + 2)) ++ C)) c.is_count_known.ensures ∙
    ap (λ b. least (A ++ unless (is_bare e || e.count == 0x03) Encoding (at + (p + 2)) ++ unless b Encoding (at + (p + 3)))) c.is_table_known.ensures
