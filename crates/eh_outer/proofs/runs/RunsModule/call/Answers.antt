use Rattle.std.proofs.Common.{ap}
use Rattle.eh_outer.proofs.Given.{one_fewer, one_replied}
use Rattle.eh_outer.proofs.runs.RunsModule.call.Goals as goal

pub returns-clause-rest : goal.returns-clause-rest
returns-clause-rest c =
    let fewer = one_fewer _ _ _ _ c.loop-self-test.false c.loop-self.invariant.0 in
    one_replied _ _ _ c.args.self.now.seen fewer c.loop-self.invariant.1 (ap (λ v. v.seen.cleaned) c.self.view_is) (ap (λ v. v.seen.room) c.self.view_is)
