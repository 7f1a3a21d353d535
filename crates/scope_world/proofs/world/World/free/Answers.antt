use Rattle.std.proofs.Common.{◌∙◌, sym, ap}
use Rattle.meaning_forms.specs.World.{without_exception}
use Rattle.meaning_forms.specs.Outcome.{done, continued, change}
use Rattle.scope_world.proofs.world.World.free.Goals as goal

pub returns : goal.returns
returns g c = λ d.
    ap (λ m. continued m (λ a. change (λ w. without_exception w c.args.number))) (c.in_ok-emit.ensures d)
    ∙ ap (done tt) (sym (c.in_ok-remove.ensures d))
