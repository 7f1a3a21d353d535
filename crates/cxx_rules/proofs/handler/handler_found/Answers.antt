use Rattle.std.proofs.Common.{◌≡◌, ap, ◌∙◌, ℕ, List, [], ◌∷◌, length, get_or, arith}
use Rattle.cxx_ast.specs.Environment.{Environment, Scope}
use Rattle.cxx_ast.specs.Calls.{handler_found}
use Rattle.cxx_ast.specs.Reference.{Judgement}
use Rattle.cxx_rules.specs.declared.found.Found.{Found}
use Rattle.cxx_rules.specs.Seen.{SeenJudgement, judgement_seen, judgements_seen}
use Rattle.cxx_rules.specs.Summary.{seen}
use Rattle.cxx_rules.proofs.handler.handler_found.Goals as goal

one_of : (env : Environment) (sc : Scope) (place : ℕ) (gs : List SeenJudgement) (js : List Judgement) (g : SeenJudgement) (r : Found) →
    length gs ≡ 1 → g ≡ get_or gs 0 g → gs ≡ judgements_seen env js →
    ((j : Judgement) (place : ℕ) → g ≡ judgement_seen env j → r ≡ seen env (handler_found env sc place (j ∷ []))) →
    r ≡ seen env (handler_found env sc place js)
one_of env sc place gs [] g r n i e h = absurd (omega (arith, n, ap length e))
one_of env sc place gs (j ∷ []) g r n i e h = h j place (i ∙ ap (λ xs. get_or xs 0 g) e)
one_of env sc place gs (j ∷ k ∷ js) g r n i e h = absurd (omega (arith, n, ap length e))

pub returns-in-len1 : goal.returns-in-len1
returns-in-len1 c js e =
    let n : length c.args.given.now ≡ 1 = omega arith in
    one_of c.args.env.now c.args.scope.now c.args.place c.args.given.now js c.one-item.result c.one_handler.result n c.one-item.is e c.one_handler.ensures
