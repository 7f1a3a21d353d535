use Rattle.std.proofs.Common.{◌∙◌, ap, sym, refl, subst, ◌<◌}
use Rattle.std.specs.Prelude.{length, slice_get, position, IfSome}
use Rattle.rv64_isa.specs.State.{covers}
use Rattle.rv64_machine.specs.Parts.{Spans, part_of}
use Rattle.rv64_machine.proofs.Serving.{slots_put, stack_put, segment_put, spans_1, byte_nowhere}
use Rattle.rv64_machine.proofs.memory.Memory.put_byte.Goals as goal

pub returns-then-covers : goal.returns-then-covers
returns-then-covers c =
    let inside = c.self.inside in
    slots_put inside.slots inside.stack c.put.new.self inside.segments.parts.items c.args.self.now c.args.address 1 1 c.args.value c.self.view_is refl
    (spans_1 inside.slots c.args.address (sym c.covers.ensures ∙ c.if-covers.true)) c.put.ensures.bytes

pub returns-then-covers-2 : goal.returns-then-covers-2
returns-then-covers-2 c =
    let inside = c.self.inside in
    stack_put inside.slots inside.stack c.put-then-covers-2.new.self inside.segments.parts.items c.args.self.now c.args.address 1 1 c.args.value c.self.invariant c.self.view_is refl
    (spans_1 inside.stack c.args.address (sym c.covers-2.ensures ∙ c.if-covers-2.true)) c.put-then-covers-2.ensures.bytes

pub returns-in-Some : goal.returns-in-Some
returns-in-Some c =
    let inside = c.self.inside in
    segment_put inside.slots inside.stack inside.segments.parts.items c.put_in_segment.new.segments.parts.items c.args.self.now c.args.address 1 1 c.in-Some.i c.args.value
    c.self.invariant inside.segments.apart c.self.view_is refl
    (subst (λ parts. c.in-Some.i < length parts) c.deref.ensures.value c.in-Some.ensures.inside)
    (subst (λ parts. IfSome (slice_get parts c.in-Some.i) (λ part. Spans (part_of part) c.args.address 1)) c.deref.ensures.value c.in-Some.ensures.spans)
    c.put_in_segment.ensures.bytes

pub returns-in-None : goal.returns-in-None
returns-in-None c =
    let inside = c.self.inside in
    byte_nowhere inside.slots inside.stack inside.segments.parts.items c.args.self.now c.args.address c.args.value c.self.view_is
    (sym c.covers.ensures ∙ c.if-covers.false) (sym c.covers-2.ensures ∙ c.if-covers-2.false)
    (sym (c.in-None.ensures.place ∙ ap (λ parts. position (λ part. covers (part_of part) c.args.address) parts) c.deref.ensures.value))
