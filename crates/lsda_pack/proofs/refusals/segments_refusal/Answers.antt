use Rattle.std.proofs.Common.{◌≡◌, ◌∙◌, ap, []}
use Rattle.std.proofs.lemmas.Result.{IfOk-weaker}
use Rattle.std.specs.Prelude.{option_map}
use Rattle.table_forms.specs.Fault.{least}
use Rattle.table_forms.specs.Seen.{fault_of}
use Rattle.lsda_pack.specs.Reaches.{file_taken}
use Rattle.lsda_pack.specs.SharedFile.{file_faults}
use Rattle.lsda_pack.proofs.FileApart.{files_are}
use Rattle.lsda_pack.proofs.refusals.segments_refusal.Goals as goal

pub returns : goal.returns
returns c =
    IfOk-weaker c.file_refusal.result
    (λ first. option_map fault_of first ≡ least (file_taken [] c.as_slice.result.now))
    (λ first. option_map fault_of first ≡ least (file_faults [] c.args.loads.now))
    (λ first e. e ∙ ap (λ ps. least (file_taken [] ps)) (c.as_slice.ensures.value ∙ c.in_ok-parts.ensures) ∙ ap least (files_are c.args.loads.now))
    c.file_refusal.ensures
