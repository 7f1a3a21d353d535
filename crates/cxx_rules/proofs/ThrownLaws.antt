-- A call as an expression.
use Rattle.std.proofs.Common.{◌≡◌, ℕ, None, ap, ◌∙◌}
use Rattle.cxx_ast.specs.Environment.{Environment}
use Rattle.cxx_ast.specs.Calls.{Valued}
use Rattle.cxx_ast.specs.ExpressionRules.{no_lvalue}
use Rattle.cxx_rules.specs.Seen.{SeenValue, SeenJudgement, value_seen, judgement_seen}

pub no_lvalue_seen : (env : Environment) (v : Valued) (j : SeenJudgement) (w : SeenValue) (p q : ℕ) →
    j ≡ record { kind = w.kind; found = w.found; place = p; target = None } → w ≡ value_seen env v → p ≡ q →
    j ≡ judgement_seen env (no_lvalue q v)
no_lvalue_seen env v j w p q e h i =
    e ∙ ap (λ x. record { kind = x.kind; found = x.found; place = p; target = None }) h
    ∙ ap (λ x. record { kind = (value_seen env v).kind; found = (value_seen env v).found; place = x; target = None }) i
