use Rattle.region_forms.specs.Form.{Region, op, call}
use Rattle.region_forms.specs.Form.{arguments_from}
use Rattle.region_ir.proofs.Behind.{put_behind}
use Rattle.region_ir.proofs.Callees.{called_so}
use Rattle.region_ir.proofs.calling.call_dropped.Goals as goal

pub returns : goal.returns
returns c x others h =
    let old = c.args.before.now.items in
    rw c.in_ok-put.ensures (put_behind others x.before (op (call x.callee (arguments_from x.arguments))) old _ h.put
    (called_so Region (λ f args. op (call f args)) x others old c.args.call.callee c.args.call.arguments.items h))
