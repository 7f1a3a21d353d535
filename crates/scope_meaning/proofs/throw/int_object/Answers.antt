use mir.Syntax.{w32}
use mir.Val.{SFits}
use Rattle.std.proofs.lemmas.Int.{to_z-of_z}
use Rattle.std.proofs.Common.{◌≡◌, Some, Ok, subst, rules}
use Rattle.meaning_forms.specs.Part.{cell}
use Rattle.meaning_forms.specs.Outcome.{done, new_object}
use Rattle.meaning_forms.specs.Expression.{value_of}
use Rattle.scope_flow.proofs.Passing.{gives_next}
use Rattle.cxx_ast.specs.View.{checked_of, expression_of}
use Rattle.scope_world.specs.Inward.{context_of, frame_of}
use Rattle.scope_world.specs.Seen.{world_of}
use Rattle.scope_flow.specs.Always.{always}
use Rattle.scope_meaning.proofs.throw.int_object.Goals as goal

pub returns : goal.returns
returns g c =
    let d = c.args.c.now.depth in
    let r = always (checked_of c.args.c.now.program.now) in
    let f = frame_of c.args.frame.now in
    let k = context_of c.args.c.now in
    let w = world_of g.G.Outside.told d c.args.w.now in
    let e = expression_of c.args.e.now in
    let fits : SFits w32 c.in_ok-value.value = search rules in
    let u = world_of g.G.Outside.told d c.value_of.new.w in
    let v = world_of g.G.Outside.told d c.new_object.new.self in
    let made = subst (λ n. new_object (cell (Some n)) u ≡ done c.in_ok-new_object.field-0 v) (to_z-of_z w32 c.in_ok-value.value fits) (c.in_ok-new_object.ensures d) in
    gives_next (value_of r f e k w) (λ n. new_object (cell (Some n))) c.in_ok-value.value u v (Ok c.in_ok-new_object.field-0) c.in_ok-value.ensures made
