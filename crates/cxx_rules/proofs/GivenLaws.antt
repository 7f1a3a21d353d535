-- What is broken in arguments, by what the code keeps of them.
use Rattle.std.proofs.Common.{◌≡◌, ℕ, Bool, true, false, List, [], ◌∷◌, ◌++◌, Some, None, Option, refl, ap, ◌∙◌, sym, if◌then◌else◌, length, drop, min, nat_le, arith}
use Rattle.std.proofs.lemmas.Bool.Decides.{nat_tests}
use Rattle.std.proofs.lemmas.List.{length-map, drop_all}
use Rattle.cxx_ast.specs.Environment.{Passing, Environment}
use Rattle.cxx_ast.specs.Finding.{Finding}
use Rattle.cxx_ast.specs.Reference.{Target, Judgement, bound_found, int_wanted, int_found, argument_found, arguments_found, all_found}
use Rattle.cxx_ast.specs.Calls.{ints_found}
use Rattle.cxx_rules.specs.declared.found.Found.{Found}
use Rattle.cxx_rules.specs.Given.{bound_by, argument_by, argument_seen, arguments_behind, int_seen, ints_behind, all_behind}
use Rattle.cxx_rules.specs.Seen.{SeenJudgement, judgement_seen, judgements_seen}
use Rattle.cxx_rules.specs.Summary.{nothing_found, both, seen}
use Rattle.cxx_rules.proofs.FoundLaws.{summary_append, summary_none, both_both, both_nothing, nothing_both}

-- two parts that are each as the definition says
pub seen_both : (env : Environment) (f g : Found) (xs ys : List Finding) → f ≡ seen env xs → g ≡ seen env ys → both f g ≡ seen env (xs ++ ys)
seen_both env f g xs ys e h = ap (λ x. both x g) e ∙ ap (both (seen env xs)) h ∙ sym (summary_append env.definitions xs ys)

-- nothing more was found
pub end_of : (env : Environment) (f : Found) → f ≡ both f (seen env [])
end_of env f = sym (ap (both f) (summary_none env.definitions) ∙ both_nothing f)

-- one more, and others behind it
pub next_of : (env : Environment) (f g : Found) (xs ys : List Finding) → g ≡ seen env xs → both (both f g) (seen env ys) ≡ both f (seen env (xs ++ ys))
next_of env f g xs ys e = sym (both_both f g (seen env ys)) ∙ ap (both f) (seen_both env g (seen env ys) xs ys e refl)

bound_is : (env : Environment) (p : Passing) (j : Judgement) → bound_found env p j ≡ j.found ++ bound_by env p j.kind j.place j.target
bound_is env p j = by j.target
  where
    by : (t : Option Target) → bound_found env p (record j { target = t }) ≡ j.found ++ bound_by env p j.kind j.place t
    by None = refl
    by (Some t) = refl

argument_is : (env : Environment) (p : Passing) (j : Judgement) → argument_found env p j ≡ j.found ++ argument_by env p j.kind j.place j.target
argument_is env p j = by p.is_reference
  where
    by : (b : Bool) → (if b then bound_found env p j else int_found j) ≡ j.found ++ (if b then bound_by env p j.kind j.place j.target else int_wanted j.kind j.place)
    by true = bound_is env p j
    by false = refl

pub argument_seen_is : (env : Environment) (p : Passing) (j : Judgement) → argument_seen env p (judgement_seen env j) ≡ seen env (argument_found env p j)
argument_seen_is env p j = sym (summary_append env.definitions j.found (argument_by env p j.kind j.place j.target)) ∙ ap (seen env) (sym (argument_is env p j))

pub arguments_behind_is : (env : Environment) (f : Found) (ps : List Passing) (js : List Judgement) →
    arguments_behind env f ps (judgements_seen env js) ≡ both f (seen env (arguments_found env ps js))
arguments_behind_is env f [] [] = end_of env f
arguments_behind_is env f [] (j ∷ js) = end_of env f
arguments_behind_is env f (p ∷ ps) [] = end_of env f
arguments_behind_is env f (p ∷ ps) (j ∷ js) =
    arguments_behind_is env (both f (argument_seen env p (judgement_seen env j))) ps js
    ∙ next_of env f (argument_seen env p (judgement_seen env j)) (argument_found env p j) (arguments_found env ps js) (argument_seen_is env p j)

pub int_seen_is : (env : Environment) (j : Judgement) → int_seen env (judgement_seen env j) ≡ seen env (int_found j)
int_seen_is env j = sym (summary_append env.definitions j.found (int_wanted j.kind j.place))

pub ints_behind_is : (env : Environment) (f : Found) (js : List Judgement) → ints_behind env f (judgements_seen env js) ≡ both f (seen env (ints_found js))
ints_behind_is env f [] = end_of env f
ints_behind_is env f (j ∷ js) =
    ints_behind_is env (both f (int_seen env (judgement_seen env j))) js
    ∙ next_of env f (int_seen env (judgement_seen env j)) (int_found j) (ints_found js) (int_seen_is env j)

pub all_behind_is : (env : Environment) (f : Found) (js : List Judgement) → all_behind f (judgements_seen env js) ≡ both f (seen env (all_found js))
all_behind_is env f [] = end_of env f
all_behind_is env f (j ∷ js) =
    all_behind_is env (both f (seen env j.found)) js ∙ next_of env f (seen env j.found) j.found (all_found js) refl

-- the same of arguments that are as the definition says
pub arguments_by : (env : Environment) (ps : List Passing) (gs : List SeenJudgement) (js : List Judgement) →
    gs ≡ judgements_seen env js → arguments_behind env nothing_found ps gs ≡ seen env (arguments_found env ps js)
arguments_by env ps gs js e =
    ap (arguments_behind env nothing_found ps) e ∙ arguments_behind_is env nothing_found ps js ∙ nothing_both (seen env (arguments_found env ps js))

pub int_by : (env : Environment) (g : SeenJudgement) (j : Judgement) → g ≡ judgement_seen env j → int_seen env g ≡ seen env (int_found j)
int_by env g j e = ap (int_seen env) e ∙ int_seen_is env j

pub ints_by : (env : Environment) (gs : List SeenJudgement) (js : List Judgement) → gs ≡ judgements_seen env js → ints_behind env nothing_found gs ≡ seen env (ints_found js)
ints_by env gs js e = ap (ints_behind env nothing_found) e ∙ ints_behind_is env nothing_found js ∙ nothing_both (seen env (ints_found js))

pub all_by : (env : Environment) (gs : List SeenJudgement) (js : List Judgement) → gs ≡ judgements_seen env js → all_behind nothing_found gs ≡ seen env (all_found js)
all_by env gs js e = ap (all_behind nothing_found) e ∙ all_behind_is env nothing_found js ∙ nothing_both (seen env (all_found js))

pub counted_by : (env : Environment) (gs : List SeenJudgement) (js : List Judgement) → gs ≡ judgements_seen env js → length gs ≡ length js
counted_by env gs js e = ap length e ∙ length-map js (judgement_seen env)

ended : (env : Environment) (f : Found) (ps : List Passing) → arguments_behind env f ps [] ≡ f
ended env f [] = refl
ended env f (p ∷ ps) = refl

ended_by : (env : Environment) (f : Found) (ps : List Passing) (gs : List SeenJudgement) (n : ℕ) (b : Bool) → nat_le (length ps) n ≡ b →
    n ≡ min (length ps) (length gs) → arguments_behind env f (drop n ps) (drop n gs) ≡ f
ended_by env f ps gs n true e h = ap (λ xs. arguments_behind env f xs (drop n gs)) (drop_all n ps (grind (arith, nat_tests)))
ended_by env f ps gs n false e h = ap (λ xs. arguments_behind env f (drop n ps) xs) (drop_all n gs (grind (arith, nat_tests))) ∙ ended env f (drop n ps)

-- no more arguments where either list has ended
pub arguments_end : (env : Environment) (f : Found) (ps : List Passing) (gs : List SeenJudgement) (n : ℕ) →
    n ≡ min (length ps) (length gs) → arguments_behind env f (drop n ps) (drop n gs) ≡ f
arguments_end env f ps gs n h = ended_by env f ps gs n (nat_le (length ps) n) refl h
