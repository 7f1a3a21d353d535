use Rattle.std.proofs.Common.{rules, ◌≡◌, ◌+◌, ◌-◌, suc, sym, ap, ◌∙◌, drop, ◌++◌, arith}
use Rattle.cxx_rules.specs.SizeOf.{number_of, added}
use Rattle.cxx_rules.proofs.SizeLaws.{added_is, digit_more}
use Rattle.cxx_rules.proofs.size.sum.Goals as goal

pub loop-i-preserved : goal.loop-i-preserved
loop-i-preserved c =
    let i = c.loop-i.i in
    let left : c.max-count.result - i ≡ suc (c.max-count.result - (i + 1)) = omega arith in
    let s = c.digit.result + c.digit-in-loop-i.result + c.loop-i.carry in
    record {
      sum =
          digit_more (c.max-count.result - (i + 1)) c.loop-i.carry i s c.args.a.now c.args.b.now c.loop-i.digits.items c.push.new.self.items (added c.max-count.result 0 c.args.a.now c.args.b.now)
          c.in_ok-push.ensures.items (search rules)
          (ap (λ n. c.loop-i.digits.items ++ added n c.loop-i.carry (drop i c.args.a.now) (drop i c.args.b.now)) (sym left) ∙ c.loop-i.invariant.sum);
      small = omega (arith, c.digit.ensures.small, c.digit-in-loop-i.ensures.small);
    }

pub returns : goal.returns
returns c =
    let none : c.max-count.result - c.loop-i.i ≡ 0 = omega arith in
    let a = c.args.a.now in
    let b = c.args.b.now in
    ap number_of
    (c.in_ok-all.ensures
    ∙ ap (λ n. c.loop-i.digits.items ++ added n c.loop-i.carry (drop c.loop-i.i a) (drop c.loop-i.i b)) (sym none)
    ∙ c.loop-i.invariant.sum)
    ∙ added_is c.max-count.result 0 a b (search rules) (search rules) ∙ omega arith
