use Rattle.std.proofs.Common.{◌+◌, ℕ, List, sym, subst, ap, ◌∙◌, arith}
use Rattle.frame_walk.proofs.Rules.{HasRulesBefore, without_rule, with_rule, all_before}
use Rattle.frame_walk.proofs.placing.changed_by.Goals as goal
use Rattle.frame_walk.proofs.placing.changed_by.Goals.{in-Unspecified, in_default}

pub registers-preserved : goal.registers-preserved
registers-preserved c = elim c.match-rules-number.branch [
  | in-Unspecified w ↦
      subst (λ (l : List ℕ). HasRulesBefore c.args.rules.now l (c.registers.number + 1)) (sym (ap (λ v. v.items) w.changed-is))
      (without_rule c.args.rules.now c.registers.changed.items c.registers.number w.in-Unspecified.is c.registers.invariant)
  | in_default w ↦
      subst (λ (l : List ℕ). HasRulesBefore c.args.rules.now l (c.registers.number + 1)) (sym (ap (λ v. v.items) w.changed-is ∙ w.push.ensures.items))
      (with_rule c.args.rules.now c.registers.changed.items c.registers.number c.registers.invariant)
]

pub returns : goal.returns
returns c = let ended = c.registers-test.false in all_before c.args.rules.now c.registers.changed.items c.registers.number (omega (arith, ended)) c.registers.auto.number-end c.registers.invariant
