use mir.Syntax.{w32}
use mir.Val.{SFits}
use Rattle.std.proofs.lemmas.Int.{to_z-of_z}
use Rattle.std.proofs.Common.{◌≡◌, rules}
use Rattle.cxx_ast.specs.View.{checked_of, expressions_of}
use Rattle.meaning_forms.specs.World.{written}
use Rattle.scope_world.specs.Inward.{context_of, frame_of}
use Rattle.scope_world.specs.Objects.{reference_of}
use Rattle.scope_world.specs.Seen.{world_of}
use Rattle.scope_flow.specs.Always.{always}
use Rattle.scope_meaning.proofs.Parted.{int_initialised}
use Rattle.scope_meaning.proofs.parts.initial_part.Goals as goal

pub returns-in_ok-value-in-Some-Int : goal.returns-in_ok-value-in-Some-Int
returns-in_ok-value-in-Some-Int g c = λ i e.
    let d = c.args.c.now.depth in
    let r = always (checked_of c.args.c.now.program.now) in
    let f = frame_of c.args.frame.now in
    let k = context_of c.args.c.now in
    let w = world_of g.G.Outside.told d c.args.w.now in
    let u = world_of g.G.Outside.told d c.initial_value.new.w in
    let v = world_of g.G.Outside.told d c.write.new.self in
    let x = reference_of c.args.target.now in
    let es = expressions_of c.in-Some-Int.arguments.now in
    let n = c.in_ok-value-in-Some-Int.value in
    let fits : SFits w32 n = search rules in
    let set : v ≡ written u x n = rw (to_z-of_z w32 n fits) at (c.write.ensures d) in
    rw (c.in-Some-Int.is-0, c.in-Some-Int.is-1) (int_initialised r f x k i es w u v n e c.in_ok-value-in-Some-Int.ensures set)
