use mir.Syntax.{w32}
use mir.Val.{SFits}
use Rattle.std.proofs.Common.{◌≡◌, Some, subst, rules}
use Rattle.std.proofs.lemmas.Int.{to_z-of_z}
use Rattle.meaning_forms.specs.Outcome.{done, new_object}
use Rattle.meaning_forms.specs.Part.{cell}
use Rattle.scope_world.specs.Objects.{reference_of}
use Rattle.scope_flow.proofs.Entering.{caught_int, caught_copy, copy_stopped, caught_bound}
use Rattle.cxx_ast.specs.View.{checked_of}
use Rattle.scope_world.specs.Inward.{context_of}
use Rattle.scope_world.specs.Seen.{world_of}
use Rattle.scope_flow.specs.Always.{always}
use Rattle.scope_flow.proofs.handler.parameter_of.Goals as goal

pub returns-in_ok-object-in-Int : goal.returns-in_ok-object-in-Int
returns-in_ok-object-in-Int g c =
    let d = c.args.c.now.depth in
    let r = always (checked_of c.args.c.now.program.now) in
    let k = context_of c.args.c.now in
    let w = world_of g.G.Outside.told d c.args.w.now in
    let s = reference_of c.args.source in
    let t = c.args.ty.now in
    let fits : SFits w32 c.in_ok-value-in-Int.value = search rules in
    let v = world_of g.G.Outside.told d c.new_object.new.self in
    let made = subst (λ n. new_object (cell (Some n)) w ≡ done c.in_ok-object-in-Int.object v) (to_z-of_z w32 c.in_ok-value-in-Int.value fits) (c.in_ok-object-in-Int.ensures d) in
    caught_int r t s (reference_of c.whole.result) k w v c.in_ok-value-in-Int.value c.in_ok-object-in-Int.object c.in-Int.is (c.in_ok-value-in-Int.ensures d) made c.whole.ensures

pub returns-in_err-object-in-Object : goal.returns-in_err-object-in-Object
returns-in_err-object-in-Object g c =
    let d = c.args.c.now.depth in
    let r = always (checked_of c.args.c.now.program.now) in
    let k = context_of c.args.c.now in
    let w = world_of g.G.Outside.told d c.args.w.now in
    let s = reference_of c.args.source in
    let t = c.args.ty.now in
    let halted = copy_stopped r t s (reference_of c.in_ok-source-in-Object.source) k w (world_of g.G.Outside.told d c.new_copy.new.w) c.in-Object.name c.class_named-class.result c.in_err-object-in-Object.field-0.0 c.in-Object.is c.class_named-class.ensures (c.in_ok-source-in-Object.ensures d) c.in_err-object-in-Object.ensures in
    search (rules, halted)

pub returns-in_ok-object-in-Object : goal.returns-in_ok-object-in-Object
returns-in_ok-object-in-Object g c =
    let d = c.args.c.now.depth in
    let r = always (checked_of c.args.c.now.program.now) in
    let k = context_of c.args.c.now in
    let w = world_of g.G.Outside.told d c.args.w.now in
    let s = reference_of c.args.source in
    let t = c.args.ty.now in
    caught_copy r t s (reference_of c.whole-in-Object.result) (reference_of c.in_ok-source-in-Object.source) k w (world_of g.G.Outside.told d c.new_copy.new.w) c.in-Object.name c.class_named-class.result c.in_ok-object-in-Object.object c.in-Object.is c.class_named-class.ensures (c.in_ok-source-in-Object.ensures d) c.in_ok-object-in-Object.ensures c.whole-in-Object.ensures

pub returns-in_ok-bound_as-in_default : goal.returns-in_ok-bound_as-in_default
returns-in_ok-bound_as-in_default g c =
    let d = c.args.c.now.depth in
    let r = always (checked_of c.args.c.now.program.now) in
    let k = context_of c.args.c.now in
    let w = world_of g.G.Outside.told d c.args.w.now in
    let s = reference_of c.args.source in
    let t = c.args.ty.now in
    caught_bound r t s (reference_of c.in_ok-bound_as-in_default.field-0) k w c.in_default.not-Int c.in_default.not-Object (c.in_ok-bound_as-in_default.ensures d)
