use Rattle.std.proofs.Common.{rules}
use Rattle.meaning_forms.specs.Construct.{copy_object}
use Rattle.meaning_forms.specs.Context.{barrier, guarded_by}
use Rattle.scope_world.specs.Objects.{part_of, reference_of}
use Rattle.scope_flow.proofs.Entering.{copied, copy_halted}
use Rattle.cxx_ast.specs.View.{checked_of}
use Rattle.scope_world.specs.Inward.{context_of}
use Rattle.scope_world.specs.Seen.{world_of}
use Rattle.scope_flow.specs.Always.{always}
use Rattle.scope_flow.proofs.handler.new_copy.Goals as goal

pub returns : goal.returns
returns g c =
    let d = c.args.c.now.depth in
    let r = always (checked_of c.args.c.now.program.now) in
    let k = context_of c.args.c.now in
    let w = world_of g.G.Outside.told d c.args.w.now in
    let x = reference_of c.whole-target.result in
    let s = reference_of c.args.source.now in
    let u = world_of g.G.Outside.told d c.new_object.new.self in
    copied r c.args.class s k w u (world_of g.G.Outside.told d c.after_barrier.new.w) c.in_ok-object.object (part_of c.in_ok-part.part) x c.in_ok-part.ensures (c.in_ok-object.ensures d) c.whole-target.ensures (c.in_ok-after_barrier.ensures (copy_object r c.args.class x s (guarded_by barrier k) u) c.copy_object-outcome.ensures)

pub returns-in_err-after_barrier : goal.returns-in_err-after_barrier
returns-in_err-after_barrier g c =
    let d = c.args.c.now.depth in
    let r = always (checked_of c.args.c.now.program.now) in
    let k = context_of c.args.c.now in
    let w = world_of g.G.Outside.told d c.args.w.now in
    let x = reference_of c.whole-target.result in
    let s = reference_of c.args.source.now in
    let u = world_of g.G.Outside.told d c.new_object.new.self in
    let halted = copy_halted r c.args.class s k w u (world_of g.G.Outside.told d c.after_barrier.new.w) c.in_ok-object.object (part_of c.in_ok-part.part) x c.in_err-after_barrier.field-0.0 c.in_ok-part.ensures (c.in_ok-object.ensures d) c.whole-target.ensures (c.in_err-after_barrier.ensures (copy_object r c.args.class x s (guarded_by barrier k) u) c.copy_object-outcome.ensures) in
    search (rules, halted)
