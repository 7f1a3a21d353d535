use Rattle.cxx_ast.specs.View.{checked_of}
use Rattle.scope_world.specs.Inward.{context_of}
use Rattle.scope_world.specs.Objects.{reference_of}
use Rattle.scope_world.specs.Seen.{world_of}
use Rattle.scope_flow.specs.Always.{always}
use Rattle.scope_meaning.proofs.Parted.{zero_set}
use Rattle.scope_meaning.proofs.parts.default_part.Goals as goal

pub returns-in-Int : goal.returns-in-Int
returns-in-Int g c = λ this i e.
    let d = c.args.c.now.depth in
    let r = always (checked_of c.args.c.now.program.now) in
    let w = world_of g.G.Outside.told d c.args.w.now in
    let v = world_of g.G.Outside.told d c.write.new.self in
    rw c.in-Int.is (zero_set r this (reference_of c.args.target.now) (context_of c.args.c.now) i w v e (c.write.ensures d))
