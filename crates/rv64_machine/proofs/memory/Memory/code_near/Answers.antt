use Rattle.std.proofs.Common.{sym, ap, ◌∙◌, ◌-◌}
use Rattle.std.specs.Prelude.{slice_get}
use Rattle.rv64_machine.specs.Bytes.{number_at}
use Rattle.rv64_machine.specs.Parts.{part_of}
use Rattle.rv64_machine.proofs.Serving.{code_served, segment_serves}
use Rattle.rv64_machine.proofs.memory.Memory.code_near.Goals as goal

pub returns-then-spans : goal.returns-then-spans
returns-then-spans c =
    let inside = c.self.inside in
    code_served c.args.self.now _ _ (part_of c.in_ok-part.part.now) c.args.address c.word_at.result c.self.view_is
    (segment_serves inside.slots inside.stack inside.segments.parts.items c.args.address 4 c.args.hint c.in_ok-part.part.now c.self.invariant inside.segments.apart
    (sym (c.in_ok-part.ensures ∙ ap (λ parts. slice_get parts c.args.hint) c.deref.ensures.value)) c.if-spans.ensures) c.if-part.true
    (c.word_at.ensures ∙ ap (λ bytes. number_at bytes (c.args.address - c.in_ok-part.part.now.address) 4) c.deref-then-spans.ensures.value)
