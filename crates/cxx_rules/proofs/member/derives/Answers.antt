use Rattle.std.proofs.Common.{◌≡◌, suc, ◌-◌, ◌+◌, ◌==◌, false, sym, ◌∙◌, ap, arith}
use Rattle.std.proofs.lemmas.Bool.Decides.{nat_tests}
use Rattle.cxx_ast.specs.Lookup.{derives_within}
use Rattle.cxx_rules.proofs.MemberLaws.{derives_next}
use Rattle.cxx_rules.proofs.member.derives.Goals as goal

pub loop-preserved : goal.loop-preserved
loop-preserved c =
    let n = c.class_count-count.result - (c.loop.counter + 1) in
    let left : c.class_count-count.result - c.loop.counter ≡ suc n = omega arith in
    let other : (c.loop.class == c.args.from) ≡ false = grind (arith, nat_tests) in
    sym (derives_next n c.args.env.now c.loop.class c.args.from c.in-Some.next other (sym c.base.ensures ∙ c.in-Some.is))
    ∙ ap (λ k. derives_within k c.args.env.now c.loop.class c.args.from) (sym left) ∙ c.loop.invariant
