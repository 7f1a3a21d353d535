use Rattle.std.proofs.Common.{◌∙◌, ap, get_or, map, arith}
use Rattle.std.specs.Option.{unwrap_or}
use Rattle.region_ir.specs.View.{slot_of}
use Rattle.machine_forms.specs.Shape.{slot_offset}
use Rattle.rv64_emit.proofs.Offset.{offset_of}
use Rattle.rv64_emit.proofs.shape.Frame.offset.Goals as goal

pub returns : goal.returns
returns c =
    let f = c.self.inside in
    let s = c.args.slot in
    c.unwrap_or.ensures ∙ (ap (λ o. unwrap_or o f.lowest) c.copied.ensures ∙ (c.get.ensures.lookup.4 (omega arith) f.lowest ∙ (ap (λ l. get_or l s f.lowest) c.deref.ensures.value
    ∙ (offset_of f.function.now.frame (map slot_of f.function.now.slots.items) f.offsets.items f.lowest s c.self.invariant.offsets c.self.invariant.lowest
    ∙ ap (λ x. slot_offset x s) c.self.view_is))))
