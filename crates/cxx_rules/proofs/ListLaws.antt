-- What is found in each item of a list.
use Rattle.std.proofs.lemmas.List.{drop_all}
use Rattle.std.proofs.Common.{◌≡◌, ◌≤◌, ℕ, length, drop, sym, List, [], ◌∷◌, refl, ap, ◌∙◌, flat_map}
use Rattle.cxx_ast.specs.Environment.{Environment}
use Rattle.cxx_ast.specs.Finding.{Finding}
use Rattle.cxx_rules.specs.declared.found.Found.{Found}
use Rattle.cxx_rules.specs.Folds.{each_behind}
use Rattle.cxx_rules.specs.Summary.{nothing_found, both, seen}
use Rattle.cxx_rules.proofs.FoundLaws.{nothing_both}
use Rattle.cxx_rules.proofs.GivenLaws.{end_of, next_of}

each_so_far : {X : Type 0} (env : Environment) (g : X → List Finding) (f : Found) (xs : List X) → each_behind env g f xs ≡ both f (seen env (flat_map g xs))
each_so_far env g f [] = end_of env f
each_so_far env g f (x ∷ xs) =
    each_so_far env g (both f (seen env (g x))) xs ∙ next_of env f (seen env (g x)) (g x) (flat_map g xs) refl

pub each_found : {X : Type 0} (env : Environment) (g : X → List Finding) (xs : List X) → each_behind env g nothing_found xs ≡ seen env (flat_map g xs)
each_found env g xs = each_so_far env g nothing_found xs ∙ nothing_both (seen env (flat_map g xs))

-- a walk over a list has come to its end
pub each_ended : {X : Type 0} (env : Environment) (g : X → List Finding) (f first : Found) (i : ℕ) (xs : List X) →
    length xs ≤ i → first ≡ nothing_found → each_behind env g f (drop i xs) ≡ each_behind env g first xs → f ≡ seen env (flat_map g xs)
each_ended env g f first i xs over e h =
    sym (ap (each_behind env g f) (drop_all i xs over)) ∙ h ∙ ap (λ x. each_behind env g x xs) e ∙ each_found env g xs
