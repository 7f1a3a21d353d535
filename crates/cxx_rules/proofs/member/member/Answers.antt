use Rattle.std.proofs.Common.{length, ◌≡◌, suc, ◌-◌, ◌+◌, sym, ◌∙◌, ap, arith}
use Rattle.cxx_ast.specs.Lookup.{member_of}
use Rattle.cxx_rules.specs.MeaningOf.{told}
use Rattle.cxx_rules.proofs.MemberNames.{means_nothing}
use Rattle.cxx_rules.proofs.member.member.Goals as goal

pub loop-preserved : goal.loop-preserved
loop-preserved c =
    let n = c.class_count-count.result - (c.loop.counter + 1) in
    let left : c.class_count-count.result - c.loop.counter ≡ suc n = omega arith in
    sym (c.step_in.ensures n ∙ ap (told (λ b. member_of n c.args.env.now b c.args.limit c.args.text.now)) c.in-Base.is)
    ∙ ap (λ k. member_of k c.args.env.now c.loop.class c.args.limit c.args.text.now) (sym left) ∙ c.loop.invariant

pub returns-then-has_no_member : goal.returns-then-has_no_member
returns-then-has_no_member c =
    sym (means_nothing (length c.args.env.now.classes) c.args.env.now c.args.class c.args.limit c.args.text.now (c.has_no_member.ensures c.if-has_no_member.true))
