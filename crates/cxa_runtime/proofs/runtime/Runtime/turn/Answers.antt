use Rattle.std.proofs.Common.{subst, sym}
use Rattle.run_items.specs.Line.{lines_of}
use Rattle.run_items.specs.Output.{TakesAll}
use Rattle.cxa_runtime.proofs.Stepping.{written}
use Rattle.cxa_runtime.proofs.runtime.Runtime.turn.Goals as goal

pub returns-in-Ok-clause-writes : goal.returns-in-Ok-clause-writes
returns-in-Ok-clause-writes g c =
    let old = g.S.Sink.view c.args.sink.now in
    let new = g.S.Sink.view c.put_items.new.sink in
    written c.args.trace c.take_step-turn.new.self.shown old new c.take_step-turn.result c.take_step-turn.ensures.own
    (subst (λ shown. TakesAll (lines_of c.args.trace shown) old new) (sym c.items-first.ensures) (c.in-Ok.ensures {u = tt}))
