use Rattle.std.proofs.Common.{◌∙◌, ap, sym, map, Some, option_map}
use Rattle.rv64_isa.specs.State.{part_with}
use Rattle.rv64_machine.specs.Parts.{access_in, byte_accessed, part_of}
use Rattle.rv64_machine.proofs.Serving.{part_behind}
use Rattle.rv64_machine.proofs.memory.Memory.byte.Goals as goal

pub returns-clause-value : goal.returns-clause-value
returns-clause-value c =
    let inside = c.self.inside in
    let off = sym c.covers.ensures ∙ c.if-covers.false in
    let off' = sym c.covers-2.ensures ∙ c.if-covers-2.false in
    ap Some c.access_in.ensures.value ∙ ap (option_map (λ p. access_in p c.args.address 1)) c.in_ok-part.ensures.first ∙
    ap (λ parts. option_map (λ p. access_in p c.args.address 1) (part_with (map part_of parts) c.args.address)) c.deref.ensures.value ∙
    ap (option_map (λ p. access_in p c.args.address 1)) (sym (part_behind inside.slots inside.stack inside.segments.parts.items c.args.address off off')) ∙
    ap (λ memory. byte_accessed memory c.args.address) c.self.view_is
