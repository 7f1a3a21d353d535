use Rattle.std.proofs.Common.{◌∙◌, ap}
use Rattle.machine_forms.specs.Emitted.{function_moves}
use Rattle.rv64_emit.proofs.Listed.{same_function}
use Rattle.rv64_emit.proofs.unit.emitted_function.Goals as goal

pub returns : goal.returns
returns c =
    same_function c.args.first (c.new.ensures ∙ (c.in_ok-from_slice.ensures.items ∙ c.as_bytes.ensures)) c.requires.body.starts.end c.in_ok-table_of.ensures
    (c.in_ok-function_moves.ensures ∙ ap (λ f. function_moves f c.args.function.now.params) c.requires.frame)
