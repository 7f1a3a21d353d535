use Rattle.std.proofs.Common.{refl, sym, ap, ◌∙◌}
use Rattle.std.specs.Prelude.{slice_get}
use Rattle.rv64_machine.specs.Bytes.{size_of}
use Rattle.rv64_machine.specs.Parts.{part_of}
use Rattle.rv64_machine.proofs.Serving.{served, slots_serve, stack_serves, segment_serves}
use Rattle.rv64_machine.proofs.memory.Memory.near.Goals as goal

pub returns-in-Some-clause-value : goal.returns-in-Some-clause-value
returns-in-Some-clause-value c =
    let inside = c.self.inside in
    let size = size_of c.args.size in
    served c.args.size c.args.self.now _ 1 inside.stack c.args.address size c.in-Some.access c.self.view_is refl
    (stack_serves inside.slots inside.stack inside.segments.parts.items c.args.address size c.self.invariant c.in-Some.ensures.spans) c.in-Some.ensures.value

pub returns-in-Some-near-clause-value : goal.returns-in-Some-near-clause-value
returns-in-Some-near-clause-value c =
    let inside = c.self.inside in
    let size = size_of c.args.size in
    served c.args.size c.args.self.now _ 0 inside.slots c.args.address size c.in-Some-near.access c.self.view_is refl
    (slots_serve inside.slots inside.stack inside.segments.parts.items c.args.address size c.in-Some-near.ensures.spans) c.in-Some-near.ensures.value

pub returns-then-spans-clause-value : goal.returns-then-spans-clause-value
returns-then-spans-clause-value c =
    let inside = c.self.inside in
    served c.args.size c.args.self.now _ _ (part_of c.in_ok-part.part.now) c.args.address c.bytes.result c.access_in.result c.self.view_is c.bytes.ensures
    (segment_serves inside.slots inside.stack inside.segments.parts.items c.args.address c.bytes.result c.args.hint c.in_ok-part.part.now c.self.invariant inside.segments.apart
    (sym (c.in_ok-part.ensures ∙ ap (λ parts. slice_get parts c.args.hint) c.deref.ensures.value)) c.if-spans.ensures) c.access_in.ensures.value
