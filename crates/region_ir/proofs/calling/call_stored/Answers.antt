use Rattle.std.proofs.Common.{◌≡◌, ◌∙◌, ap}
use Rattle.region_forms.specs.Form.{Value, arguments_from, call_value}
use Rattle.region_forms.specs.LowerExpression.{stored_in}
use Rattle.region_ir.specs.View.{value_of}
use Rattle.region_ir.proofs.Behind.{put_behind}
use Rattle.region_ir.proofs.Callees.{called_so}
use Rattle.region_ir.proofs.calling.call_stored.Goals as goal

pub returns : goal.returns
returns c x others h =
    let old = c.args.before.now.items in
    let called = call_value x.callee (arguments_from x.arguments) in
    let value : value_of c.call_value-value.result ≡ called =
    c.call_value-value.ensures ∙ called_so Value call_value x others old c.args.call.callee c.args.call.arguments.items h in
    record {
      put = rw c.in_ok-put.ensures (put_behind others x.before (stored_in c.args.slot called) old c.stored_in.result h.put
          (c.stored_in.ensures ∙ ap (stored_in c.args.slot) value));
      same = c.in_slot.ensures;
      behind = c.in_ok-next.ensures;
    }
