use Rattle.std.proofs.Common.{ap, ◌∙◌}
use Rattle.eh_outer.specs.Module.{cleaned}
use Rattle.eh_outer.proofs.module.BoxDynModuleModule.cleanup.Goals as goal

pub returns : goal.returns
returns g c = c.cleanup.ensures ∙ ap (λ p. cleaned ((g.dyn-1.0.entry p.0).1.view p.1) c.args.token) c.deref_box_mut-1.ensures.value.1
