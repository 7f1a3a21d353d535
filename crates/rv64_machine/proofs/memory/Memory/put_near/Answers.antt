use Rattle.std.proofs.Common.{subst, ◌<◌}
use Rattle.std.specs.Prelude.{length, slice_get, IfSome}
use Rattle.rv64_machine.specs.Bytes.{size_of}
use Rattle.rv64_machine.specs.Parts.{Spans, part_of}
use Rattle.rv64_machine.proofs.Serving.{slots_put, stack_put, segment_put}
use Rattle.rv64_machine.proofs.memory.Memory.put_near.Goals as goal

pub returns-then-spans-clause-put : goal.returns-then-spans-clause-put
returns-then-spans-clause-put c =
    let inside = c.self.inside in
    stack_put inside.slots inside.stack c.put.new.self inside.segments.parts.items c.args.self.now c.args.address c.bytes-length.result (size_of c.args.size) c.args.value
    c.self.invariant c.self.view_is c.bytes-length.ensures c.if-spans.ensures c.put.ensures.bytes

pub returns-then-spans-2-clause-put : goal.returns-then-spans-2-clause-put
returns-then-spans-2-clause-put c =
    let inside = c.self.inside in
    slots_put inside.slots inside.stack c.put-then-spans-2.new.self inside.segments.parts.items c.args.self.now c.args.address c.bytes-length.result (size_of c.args.size) c.args.value
    c.self.view_is c.bytes-length.ensures c.if-spans-2.ensures c.put-then-spans-2.ensures.bytes

pub returns-then-segment_spans-clause-put : goal.returns-then-segment_spans-clause-put
returns-then-segment_spans-clause-put c =
    let inside = c.self.inside in
    segment_put inside.slots inside.stack inside.segments.parts.items c.put_in_segment.new.segments.parts.items c.args.self.now c.args.address c.bytes-length.result (size_of c.args.size)
    c.args.hint c.args.value c.self.invariant inside.segments.apart c.self.view_is c.bytes-length.ensures
    (subst (λ parts. c.args.hint < length parts) c.deref.ensures.value c.if-segment_spans.ensures.inside)
    (subst (λ parts. IfSome (slice_get parts c.args.hint) (λ part. Spans (part_of part) c.args.address c.bytes-length.result)) c.deref.ensures.value c.if-segment_spans.ensures.spans)
    c.put_in_segment.ensures.bytes
