use Rattle.std.proofs.Common.{◌∙◌, sym, rules}
use mir.Val.{SFits}
use mir.Syntax.{w32}
use Rattle.std.proofs.lemmas.Int.{to_z-of_z}
use Rattle.cxa_runtime.specs.Kept.{image_of, world_of}
use Rattle.cxa_runtime.proofs.Raised.{resume_zero}
use Rattle.cxa_runtime.proofs.runtime.Runtime.resume.Goals as goal

pub returns-in-Some-clause-made : goal.returns-in-Some-clause-made
returns-in-Some-clause-made c = λ t input replies.
    let fits : SFits w32 c.in-Some.n = search rules in
    let made = rw (to_z-of_z w32 c.in-Some.n fits) at c.unwind.ensures.made in
    made t input replies
    ∙ resume_zero (image_of t.read.fdes c.args.self.now) (world_of c.args.self.now input replies) c.in-Some.n (sym c.argument-address.ensures ∙ c.if-address-ne0.false) (sym c.exit_number.ensures ∙ c.in-Some.is)
