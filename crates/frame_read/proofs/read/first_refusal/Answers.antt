use Rattle.std.proofs.Common.{ap, sym, ◌∙◌, option_map}
use Rattle.table_forms.specs.Fault.{least, joined}
use Rattle.table_forms.specs.Seen.{fault_of}
use Rattle.table_forms.proofs.Least.{least-append}
use Rattle.frame_read.proofs.read.first_refusal.Goals as goal

pub returns : goal.returns
returns c = λ h p e f.
    c.joined.ensures ∙ ap (λ o. joined o (option_map fault_of c.args.parts.now.least)) (ap (λ x. x.least) e) ∙ ap (joined (least h.faults)) (ap (λ x. x.least) f) ∙
    sym (least-append h.faults p.faults)
