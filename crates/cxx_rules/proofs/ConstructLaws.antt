-- What is broken in constructions.
use Rattle.std.proofs.Common.{◌≡◌, ℕ, List, [], ◌∷◌, Some, None, ap, ◌∙◌, sym, length, ◌⊎◌, inl, inr}
use Rattle.cxx_ast.specs.Environment.{Environment}
use Rattle.cxx_ast.specs.Finding.{Finding, breaks}
use Rattle.cxx_ast.specs.Rule.{arity}
use Rattle.cxx_ast.specs.Reference.{Judgement, arguments_found, all_found}
use Rattle.cxx_ast.specs.Construct.{constructor_parameters, by_number_found, single_found}
use Rattle.cxx_rules.specs.declared.found.Found.{Found}
use Rattle.cxx_rules.specs.declared.kind.Kind.{Kind}
use Rattle.cxx_rules.specs.declared.kind.Kind.TheVariants.{Int, Truth, Void}
use Rattle.cxx_rules.specs.KindOf.{kind_of}
use Rattle.cxx_rules.specs.Summary.{both, broken_at, seen}
use Rattle.cxx_rules.proofs.FoundLaws.{summary_broken}

-- a rule is broken, and others behind it
pub broken_then : (env : Environment) (number place : ℕ) (f g : Found) (xs : List Finding) →
    f ≡ broken_at number place → g ≡ seen env xs → both f g ≡ seen env (breaks number place ∷ xs)
broken_then env number place f g xs e h =
    ap (λ x. both x g) e ∙ ap (both (broken_at number place)) h ∙ sym (summary_broken env.definitions number place xs)

-- no constructor has the number of arguments
pub by_number_none : (env : Environment) (k : ℕ) (js : List Judgement) (called : ℕ) → constructor_parameters env k (length js) ≡ None →
    breaks arity called ∷ all_found js ≡ by_number_found env k js called
by_number_none env k js called e =
    ap (λ o. elim o [ None ↦ breaks arity called ∷ all_found js | Some ps ↦ arguments_found env ps js ]) (sym e)

-- a single argument that is no object
pub single_plain : (env : Environment) (k : ℕ) (j : Judgement) (called : ℕ) (kind : Kind) → (kind ≡ Int) ⊎ ((kind ≡ Truth) ⊎ (kind ≡ Void)) →
    by_number_found env k (j ∷ []) called ≡ single_found env k j called (kind_of kind)
single_plain env k j called kind (inl e) = ap (λ x. single_found env k j called (kind_of x)) (sym e)
single_plain env k j called kind (inr (inl e)) = ap (λ x. single_found env k j called (kind_of x)) (sym e)
single_plain env k j called kind (inr (inr e)) = ap (λ x. single_found env k j called (kind_of x)) (sym e)
