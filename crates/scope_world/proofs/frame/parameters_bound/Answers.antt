use Rattle.std.proofs.Common.{◌∙◌, sym, ap, map}
use Rattle.meaning_forms.specs.Frame.{with_arguments}
use Rattle.scope_world.specs.Inward.{argument_of, first_frame}
use Rattle.scope_world.specs.Seen.{world_of}
use Rattle.scope_world.proofs.frame.parameters_bound.Goals as goal

pub returns : goal.returns
returns g c = λ d this.
    ap (λ xs. with_arguments c.args.parameters.now (map argument_of c.args.given.now) (first_frame this xs) (world_of g.G.Outside.told d c.args.w.now)) (sym c.new-variables.ensures.items)
    ∙ c.in_ok-bind_all.ensures d this
