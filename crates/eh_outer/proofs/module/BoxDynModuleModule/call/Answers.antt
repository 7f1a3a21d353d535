use Rattle.std.proofs.Common.{ap, ◌∙◌}
use Rattle.eh_outer.specs.Module.{replied, reply_of}
use Rattle.eh_outer.proofs.module.BoxDynModuleModule.call.Goals as goal

pub returns-clause-reply : goal.returns-clause-reply
returns-clause-reply g c = c.call.ensures.0 ∙ ap (λ p. reply_of ((g.dyn-1.0.entry p.0).1.view p.1).rest) c.deref_box_mut-1.ensures.value.1

pub returns-clause-rest : goal.returns-clause-rest
returns-clause-rest g c = c.call.ensures.1 ∙ ap (λ p. replied ((g.dyn-1.0.entry p.0).1.view p.1)) c.deref_box_mut-1.ensures.value.1
