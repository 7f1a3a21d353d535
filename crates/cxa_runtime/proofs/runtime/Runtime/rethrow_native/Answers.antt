use Rattle.std.proofs.Common.{subst, arith, ◌-◌}
use Rattle.table_forms.specs.Verdict.{native}
use Rattle.personality.specs.Seen.{types_of}
use Rattle.cxa_runtime.specs.Kept.{MakesOver}
use Rattle.cxa_runtime.specs.Raising.{raises}
use Rattle.cxa_runtime.proofs.Handlers.{rethrown_may}
use Rattle.cxa_runtime.proofs.runtime.Runtime.rethrow_native.Goals as goal

pub raise_native-requires-clause-may : goal.raise_native-requires-clause-may
raise_native-requires-clause-may c =
    let few = c.requires.fresh.few in
    rw c.fly.ensures (rethrown_may (c.args.self.now.turns - 1) c.args.self.now.exceptions c.args.object.now.slot (omega arith) c.requires.fresh.handlers c.requires.newest)

pub returns-clause-made : goal.returns-clause-made
returns-clause-made c =
    let old = c.args.self.now in
    subst (λ k. MakesOver (λ image w. raises image old.exceptions c.args.object.now (native (types_of c.args.types)) w) k c.raise_native.new.self c.raise_native.result) c.fly.ensures (c.raise_native.ensures.made old.exceptions)
