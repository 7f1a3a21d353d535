use mir.Syntax.{w32}
use mir.Val.{SFits}
use Rattle.std.proofs.lemmas.Int.{to_z-of_z}
use Rattle.std.proofs.Common.{◌≡◌, rules, map}
use Rattle.cxx_ast.specs.View.{checked_of, expression_of, expressions_of}
use Rattle.run_items.specs.declared.item.Item.TheVariants.{Line}
use Rattle.meaning_forms.specs.Arithmetic.{binary_value, decided, unary_value}
use Rattle.meaning_forms.specs.Expression.{arguments, value_at, value_of}
use Rattle.meaning_forms.specs.Outcome.{emit, done}
use Rattle.scope_world.specs.Gives.{Gives}
use Rattle.scope_world.specs.Inward.{argument_of, context_of, frame_of}
use Rattle.scope_world.specs.Seen.{world_of}
use Rattle.scope_flow.specs.Always.{always}
use Rattle.scope_flow.specs.Asked.{parameter_types_of}
use Rattle.scope_flow.proofs.Passing.{gives_next}
use Rattle.scope_meaning.proofs.Evaluated.{line_written, undecided}
use Rattle.scope_meaning.proofs.expression.+expressions.Goals as goal

pub builtin-returns-in_ok-emit-in-WriteInt : goal.builtin-returns-in_ok-emit-in-WriteInt
builtin-returns-in_ok-emit-in-WriteInt g t c =
    let d = c.args.c.now.depth in
    let r = always (checked_of c.args.c.now.program.now) in
    let k = context_of c.args.c.now in
    let w = world_of g.G.Outside.told d c.args.w.now in
    let u = world_of g.G.Outside.told d c.arguments.new.w in
    let v = world_of g.G.Outside.told d c.emit.new.self in
    let es = expressions_of c.args.es.now in
    let given = arguments r (frame_of c.args.frame.now) es (parameter_types_of c.args.parameters) k in
    let vs = map argument_of c.in_ok-given-in-WriteInt.given.items in
    let x = c.value_at.result in
    let fits : SFits w32 x = search rules in
    let written : emit (Line x) u ≡ done tt v = rw (to_z-of_z w32 x fits) at (c.in_ok-emit-in-WriteInt.ensures d) in
    let first : x ≡ value_at vs 0 = rw c.as_slice.ensures.value at c.value_at.ensures in
    rw c.in-WriteInt.is (line_written r es given k w u v vs x c.in_ok-given-in-WriteInt.ensures first written)

pub value_of-returns-in_ok-x-in-Unary : goal.value_of-returns-in_ok-x-in-Unary
value_of-returns-in_ok-x-in-Unary g t c =
    let d = c.args.c.now.depth in
    let r = always (checked_of c.args.c.now.program.now) in
    let f = frame_of c.args.frame.now in
    let k = context_of c.args.c.now in
    let w = world_of g.G.Outside.told d c.args.w.now in
    let u = world_of g.G.Outside.told d c.value_of-in-Unary.new.w in
    let op = c.in-Unary.op in
    let a = expression_of c.in-Unary.inner.value in
    let x = c.in_ok-x-in-Unary.x in
    let fits : SFits w32 x = search rules in
    let given : value_of r f a k w ≡ done x u = rw c.deref-in-Unary.ensures at c.in_ok-x-in-Unary.ensures in
    let applied : Gives (unary_value op x u) c.unary_value.result u = rw (to_z-of_z w32 x fits) at (c.unary_value.ensures u) in
    rw c.in-Unary.is (gives_next (value_of r f a k w) (λ y. unary_value op y) x u u c.unary_value.result given applied)

pub operated-returns-in_ok-y-in-None : goal.operated-returns-in_ok-y-in-None
operated-returns-in_ok-y-in-None g t c =
    let d = c.args.c.now.depth in
    let r = always (checked_of c.args.c.now.program.now) in
    let f = frame_of c.args.frame.now in
    let k = context_of c.args.c.now in
    let w = world_of g.G.Outside.told d c.args.w.now in
    let u = world_of g.G.Outside.told d c.value_of.new.w in
    let v = world_of g.G.Outside.told d c.value_of-in-None.new.w in
    let op = c.args.op in
    let a = expression_of c.args.left.now in
    let b = expression_of c.args.right.now in
    let x = c.in_ok-x.x in
    let y = c.in_ok-y-in-None.y in
    let fits : SFits w32 x = search rules in
    let fits_too : SFits w32 y = search rules in
    let settled : c.decided.result ≡ decided op x = rw (to_z-of_z w32 x fits) at c.decided.ensures in
    let applied : Gives (binary_value op x y v) c.binary_value.result v = rw (to_z-of_z w32 x fits, to_z-of_z w32 y fits_too) at (c.binary_value.ensures v) in
    undecided r f op a b k w u v x y c.decided.result c.binary_value.result c.in_ok-x.ensures settled c.in-None.is c.in_ok-y-in-None.ensures applied
