use Rattle.std.proofs.Common.{◌≡◌, [], sym, subst, map}
use Rattle.std.specs.Prelude.{option_map}
use Rattle.cxx_ast.specs.View.{checked_of}
use Rattle.meaning_forms.specs.Outcome.{done}
use Rattle.meaning_forms.specs.Frame.{with_arguments}
use Rattle.scope_world.specs.Gives.{flow_of}
use Rattle.scope_world.specs.Inward.{argument_of, context_of, first_frame}
use Rattle.scope_world.specs.Objects.{reference_of}
use Rattle.scope_world.specs.Program.{function_or_none}
use Rattle.scope_world.specs.Seen.{world_of}
use Rattle.scope_flow.specs.Always.{always}
use Rattle.scope_meaning.proofs.Called.{ran}
use Rattle.scope_meaning.proofs.calls.run_function.Goals as goal

pub returns : goal.returns
returns g c =
    let d = c.args.c.now.depth in
    let r = always (checked_of c.args.c.now.program.now) in
    let k = context_of c.args.c.now in
    let w = world_of g.G.Outside.told d c.args.w.now in
    let u = world_of g.G.Outside.told d c.parameters_bound.new.w in
    let v = world_of g.G.Outside.told d c.under_specification.new.w in
    let f = function_or_none (option_map (λ x. x.now) c.args.function) in
    let x = reference_of c.args.this.now in
    let given = map argument_of c.args.given.now in
    let ps = c.parameters_of.result.now in
    let bound = subst (λ z. with_arguments ps given (record { this = x; variables = [] }) w ≡ done (first_frame x z) u) (sym c.as_slice.ensures.value) (c.in_ok-parameters.ensures d x) in
    ran r c.args.is_main f x given k w u v ps (first_frame x c.as_slice.result.now) (flow_of c.in_ok-flow.flow) c.value_returned.result c.parameters_of.ensures bound c.in_ok-flow.ensures (c.value_returned.ensures v)
