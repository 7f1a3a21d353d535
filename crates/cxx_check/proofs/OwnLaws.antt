-- The parts of a class among themselves, one by one.
use Rattle.std.proofs.Common.{◌≡◌, ℕ, Bool, true, false, ◌||◌, ◌&&◌, List, [], ◌∷◌, ◌++◌, refl, ap, ◌∙◌, sym, flat_map, bytes_eq, cond}
use Rattle.cxx_ast.specs.declared.name.Name.{Name}
use Rattle.cxx_ast.specs.Environment.{Signature, Environment}
use Rattle.cxx_ast.specs.Finding.{breaks_if}
use Rattle.cxx_ast.specs.Rule.{redeclared, unknown_name}
use Rattle.cxx_ast.specs.ClassRules.{clash, clashes, has_class_name, specials_found, twice_among}
use Rattle.cxx_ast.specs.DeclaredNames.{once_found}
use Rattle.cxx_check.specs.Once.{once_in}
use Rattle.cxx_check.specs.OwnParts.{twice_in, special_in, specials_behind}
use Rattle.cxx_rules.specs.declared.found.Found.{Found}
use Rattle.cxx_rules.specs.Folds.{each_behind}
use Rattle.cxx_rules.specs.Summary.{nothing_found, both, seen}
use Rattle.cxx_rules.proofs.FoundLaws.{nothing_both}
use Rattle.cxx_rules.proofs.GivenLaws.{end_of, next_of}
use Rattle.cxx_rules.proofs.ListLaws.{each_found}

twice_each : (all names : List Name) → twice_among all names ≡ flat_map (twice_in all) names
twice_each all [] = refl
twice_each all (n ∷ names) = ap (λ x. twice_in all n ++ x) (twice_each all names)

pub twice_behind_is : (env : Environment) (all names : List Name) → each_behind env (twice_in all) nothing_found names ≡ seen env (twice_among all names)
twice_behind_is env all names = each_found env (twice_in all) names ∙ ap (seen env) (sym (twice_each all names))

-- two lists of functions clash with the same ones
abbrev Alike : ℕ → List ℕ → List Signature → List Signature → Type 0
Alike k text xs ys = (s : Signature) → clashes k text xs s ≡ clashes k text ys s

or_last : (a b : Bool) → (a || b) ≡ (b || a)
or_last true true = refl
or_last true false = refl
or_last false true = refl
or_last false false = refl

or_or : (a b c : Bool) → (a || (b || c)) ≡ ((a || b) || c)
or_or true b c = refl
or_or false b c = refl

abbrev tested_by : ℕ → List ℕ → Signature → Signature → Bool
tested_by k text t s = bytes_eq t.name.text text && clash k t.form s.form t s

clashes_push : (k : ℕ) (text : List ℕ) (xs : List Signature) (t s : Signature) → clashes k text (xs ++ t ∷ []) s ≡ (clashes k text xs s || tested_by k text t s)
clashes_push k text [] t s = or_last (tested_by k text t s) false
clashes_push k text (x ∷ xs) t s =
    ap (λ b. tested_by k text x s || b) (clashes_push k text xs t s) ∙ or_or (tested_by k text x s) (clashes k text xs s) (tested_by k text t s)

alike_next : (k : ℕ) (text : List ℕ) (xs ys : List Signature) (t : Signature) → Alike k text xs ys → Alike k text (xs ++ t ∷ []) (t ∷ ys)
alike_next k text xs ys t h s =
    clashes_push k text xs t s ∙ or_last (clashes k text xs s) (tested_by k text t s) ∙ ap (λ b. tested_by k text t s || b) (h s)

specials_so_far : (env : Environment) (k : ℕ) (text : List ℕ) (f : Found) (xs ys ss : List Signature) → Alike k text xs ys →
    specials_behind env k text f xs ss ≡ both f (seen env (specials_found k text ys ss))
specials_so_far env k text f xs ys [] h = end_of env f
specials_so_far env k text f xs ys (s ∷ ss) h =
    specials_so_far env k text (both f (seen env (special_in k text xs s))) (xs ++ s ∷ []) (s ∷ ys) ss (alike_next k text xs ys s h)
    ∙ next_of env f (seen env (special_in k text xs s)) (special_in k text ys s) (specials_found k text (s ∷ ys) ss)
    (ap (λ b. seen env (cond (bytes_eq s.name.text text) (breaks_if b redeclared s.name.place) (breaks_if (has_class_name s.form) unknown_name s.name.place))) (h s))

pub specials_behind_is : (env : Environment) (k : ℕ) (text : List ℕ) (ss : List Signature) →
    specials_behind env k text nothing_found [] ss ≡ seen env (specials_found k text [] ss)
specials_behind_is env k text ss = specials_so_far env k text nothing_found [] [] ss (λ s. refl) ∙ nothing_both (seen env (specials_found k text [] ss))

once_each : (special : List (List ℕ)) (all names : List Name) → once_found special all names ≡ flat_map (once_in special all) names
once_each special all [] = refl
once_each special all (n ∷ names) = ap (λ x. once_in special all n ++ x) (once_each special all names)

pub once_behind_is : (env : Environment) (special : List (List ℕ)) (all names : List Name) →
    each_behind env (once_in special all) nothing_found names ≡ seen env (once_found special all names)
once_behind_is env special all names = each_found env (once_in special all) names ∙ ap (seen env) (sym (once_each special all names))
