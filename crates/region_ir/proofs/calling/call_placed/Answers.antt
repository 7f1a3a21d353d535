use Rattle.std.proofs.Common.{◌≡◌, ◌∙◌, ap}
use Rattle.region_forms.specs.Form.{Region, Value, arguments_from, call_value, op, store}
use Rattle.region_ir.specs.View.{place_of, value_of}
use Rattle.region_ir.proofs.Behind.{put_behind}
use Rattle.region_ir.proofs.Callees.{called_so}
use Rattle.region_ir.proofs.calling.call_placed.Goals as goal

pub returns : goal.returns
returns c x others h =
    let old = c.args.before.now.items in
    let called = call_value x.callee (arguments_from x.arguments) in
    let value : value_of c.call_value-value.result ≡ called =
    c.call_value-value.ensures ∙ called_so Value call_value x others old c.args.call.callee c.args.call.arguments.items h in
    rw c.in_ok-put.ensures (put_behind others x.before (op (store (place_of c.args.place) called)) old _ h.put
    (ap {B = Region} (λ y. op (store (place_of c.args.place) y)) value))
