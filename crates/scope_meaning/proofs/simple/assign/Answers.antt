use mir.Syntax.{w32}
use mir.Val.{SFits}
use Rattle.std.proofs.lemmas.Int.{to_z-of_z}
use Rattle.std.proofs.Common.{◌≡◌, subst, rules}
use Rattle.meaning_forms.specs.World.{written}
use Rattle.scope_world.specs.Objects.{reference_of}
use Rattle.scope_meaning.proofs.Declared.{assigned_so}
use Rattle.cxx_ast.specs.View.{checked_of, expression_of}
use Rattle.scope_world.specs.Inward.{context_of, frame_of}
use Rattle.scope_world.specs.Seen.{world_of}
use Rattle.scope_flow.specs.Always.{always}
use Rattle.scope_meaning.proofs.simple.assign.Goals as goal

pub returns : goal.returns
returns g c =
    let d = c.args.c.now.depth in
    let r = always (checked_of c.args.c.now.program.now) in
    let f = frame_of c.args.frame.now in
    let k = context_of c.args.c.now in
    let w = world_of g.G.Outside.told d c.args.w.now in
    let e = expression_of c.args.e.now in
    let fits : SFits w32 c.in_ok-value.value = search rules in
    let u = world_of g.G.Outside.told d c.value_of.new.w in
    let v = world_of g.G.Outside.told d c.write.new.self in
    let x = reference_of c.in_ok-at.at in
    let set = subst (λ n. v ≡ written u x n) (to_z-of_z w32 c.in_ok-value.value fits) (c.write.ensures d) in
    assigned_so r c.args.names.now e f k w u v c.in_ok-value.value x c.in_ok-value.ensures (c.in_ok-at.ensures d) set
