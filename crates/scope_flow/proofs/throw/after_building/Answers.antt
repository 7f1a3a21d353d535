use Rattle.std.proofs.Common.{◌≡◌, true, rules}
use Rattle.scope_world.specs.Gives.{unwinds}
use Rattle.scope_world.specs.Seen.{world_of}
use Rattle.scope_flow.proofs.Passing.{freed}
use Rattle.scope_flow.proofs.throw.after_building.Goals as goal

pub returns-then-unwinds : goal.returns-then-unwinds
returns-then-unwinds g c = λ d m h.
    let halt = c.in-Err.halt in
    let stopped_so = rw c.in-Err.is at h in
    let u : unwinds halt ≡ true = search rules in
    freed c.args.number m halt (world_of g.G.Outside.told d c.args.w.now) (world_of g.G.Outside.told d c.free.new.self) u stopped_so (c.in_ok-free-in-Err.ensures d)
