use Rattle.std.proofs.Common.{rules}
use Rattle.scope_world.specs.Objects.{part_of, reference_of}
use Rattle.scope_flow.proofs.Unexpected.{bad_made, bad_halted}
use Rattle.cxx_ast.specs.View.{checked_of}
use Rattle.scope_world.specs.Inward.{context_of}
use Rattle.scope_world.specs.Seen.{world_of}
use Rattle.scope_flow.specs.Always.{always}
use Rattle.scope_flow.proofs.specification.new_bad_exception.Goals as goal

pub returns : goal.returns
returns g c =
    let d = c.args.c.now.depth in
    let r = always (checked_of c.args.c.now.program.now) in
    let k = context_of c.args.c.now in
    let w = world_of g.G.Outside.told d c.args.w.now in
    bad_made r k w (world_of g.G.Outside.told d c.new_object.new.self) (world_of g.G.Outside.told d c.default_object.new.w) c.in_ok-object.object (part_of c.in_ok-part.part) (reference_of c.whole.result) c.in_ok-part.ensures (c.in_ok-object.ensures d) c.whole.ensures c.in_ok-default_object.ensures

pub returns-in_err-default_object : goal.returns-in_err-default_object
returns-in_err-default_object g c =
    let d = c.args.c.now.depth in
    let r = always (checked_of c.args.c.now.program.now) in
    let k = context_of c.args.c.now in
    let w = world_of g.G.Outside.told d c.args.w.now in
    let halted = bad_halted r k w (world_of g.G.Outside.told d c.new_object.new.self) (world_of g.G.Outside.told d c.default_object.new.w) c.in_ok-object.object (part_of c.in_ok-part.part) (reference_of c.whole.result) c.in_err-default_object.field-0.0 c.in_ok-part.ensures (c.in_ok-object.ensures d) c.whole.ensures c.in_err-default_object.ensures in
    search (rules, halted)
