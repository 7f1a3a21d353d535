use Rattle.std.proofs.Common.{◌∙◌, ap, subst, Some, rules}
use mir.Val.{SFits}
use mir.Syntax.{w32}
use Rattle.std.proofs.lemmas.Int.{to_z-of_z}
use Rattle.cxa_runtime.specs.Kept.{MakesOver}
use Rattle.cxa_runtime.specs.Number.{as_int}
use Rattle.cxa_runtime.specs.Cancel.{unwinds}
use Rattle.cxa_runtime.proofs.runtime.Runtime.cancel.Goals as goal

pub returns-clause-made : goal.returns-clause-made
returns-clause-made c =
    let old = c.args.self.now in
    let fits : SFits w32 c.as_int-n.result = search rules in
    let same = to_z-of_z w32 c.as_int-n.result fits in
    let made = rw same at c.unwind.ensures.made in
    let kept = rw same at c.set_unwinding.ensures in
    let here = subst (λ k. MakesOver (λ image w. unwinds image c.as_int-n.result w) k c.unwind.new.self c.unwind.result) kept made in
    subst (λ n. MakesOver (λ image w. unwinds image n w) (record old { unwinding = Some n }) c.unwind.new.self c.unwind.result) (c.as_int-n.ensures ∙ ap as_int c.argument.ensures) here
