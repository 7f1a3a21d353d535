use Rattle.std.proofs.Common.{◌≡◌, map}
use Rattle.meaning_forms.specs.Class.{object_type}
use Rattle.meaning_forms.specs.Outcome.{stopped, thrown}
use Rattle.scope_flow.proofs.Outward.{extent_allowed, extent_stops}
use Rattle.cxx_ast.specs.View.{checked_of}
use Rattle.scope_world.specs.Inward.{context_of}
use Rattle.scope_world.specs.Seen.{world_of}
use Rattle.scope_flow.specs.Always.{always}
use Rattle.scope_flow.proofs.specification.after_extent.Goals as goal

pub returns-then-is_allowed : goal.returns-then-is_allowed
returns-then-is_allowed g c = λ m h.
    let d = c.args.c.now.depth in
    let r = always (checked_of c.args.c.now.program.now) in
    let k = context_of c.args.c.now in
    let w = world_of g.G.Outside.told d c.args.w.now in
    let types = map object_type c.args.types.now in
    let e : m ≡ stopped (thrown c.in-Thrown.number) w = rw c.in-Thrown.is at (rw c.in-Err.is at h) in
    extent_allowed r types k m c.in-Thrown.number w c.is_allowed.result e (c.is_allowed.ensures d) c.if-is_allowed.true

pub returns-else-is_allowed : goal.returns-else-is_allowed
returns-else-is_allowed g c = λ m h.
    let d = c.args.c.now.depth in
    let r = always (checked_of c.args.c.now.program.now) in
    let k = context_of c.args.c.now in
    let w = world_of g.G.Outside.told d c.args.w.now in
    let types = map object_type c.args.types.now in
    let e : m ≡ stopped (thrown c.in-Thrown.number) w = rw c.in-Thrown.is at (rw c.in-Err.is at h) in
    extent_stops r types k m c.in-Thrown.number w (world_of g.G.Outside.told d c.unexpected.new.w) c.unexpected.result c.is_allowed.result e (c.is_allowed.ensures d) c.if-is_allowed.false c.unexpected.ensures
