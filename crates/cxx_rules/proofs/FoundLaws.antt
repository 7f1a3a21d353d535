-- What is found in two parts is what is found here and there.
use Rattle.std.proofs.Common.{◌≡◌, ℕ, Bool, true, false, ◌&&◌, List, [], ◌∷◌, ◌++◌, Some, None, Option, refl, ap, ◌∙◌, sym, arith, if◌then◌else◌}
use Rattle.std.proofs.lemmas.Bool.Decides.{nat_tests}
use Rattle.cxx_ast.specs.declared.name.Name.{Name}
use Rattle.cxx_ast.proofs.FindingLaws.{sound-append}
use Rattle.cxx_ast.specs.Finding.{Finding, breaks, uses, is_sound, breaks_if}
use Rattle.cxx_rules.specs.declared.found.Refusal.{Refusal}
use Rattle.cxx_rules.specs.declared.found.Found.{Found}
use Rattle.cxx_rules.specs.Summary.{refusal, is_before, lesser, joined, unless_defined, least, nothing_found, broken_at, used_by, both, summary}

before_yes : (f g h : Refusal) → is_before f g ≡ true → is_before g h ≡ true → is_before f h ≡ true
unfolding is_before
before_yes f g h fg gh = grind (arith, nat_tests, fg, gh)

before_no : (f g h : Refusal) → is_before f g ≡ false → is_before g h ≡ false → is_before f h ≡ false
unfolding is_before
before_no f g h fg gh = grind (arith, nat_tests, fg, gh)

before_not_both : (f g : Refusal) → is_before f g ≡ true → is_before g f ≡ true → ⊥
unfolding is_before
before_not_both f g fg gf = grind (arith, nat_tests, fg, gf)

lesser_cases : (f g h : Refusal) (a b : Bool) → is_before g f ≡ a → is_before h g ≡ b →
    joined (Some f) (lesser g (Some h)) ≡ joined (lesser f (Some g)) (Some h)
lesser_cases f g h true true gf hg = rw hg (rw gf (rw hg (rw (before_yes h g f hg gf) refl)))
lesser_cases f g h true false gf hg = rw hg (rw gf (rw hg refl))
lesser_cases f g h false true gf hg = rw hg (rw gf refl)
lesser_cases f g h false false gf hg = rw hg (rw gf (rw (before_no h g f hg gf) refl))

pub joined_none : (o : Option Refusal) → joined o None ≡ o
joined_none None = refl
joined_none (Some f) = refl

joined_some : (f : Refusal) (b c : Option Refusal) → joined (Some f) (joined b c) ≡ joined (lesser f b) c
joined_some f None c = refl
joined_some f (Some g) None = sym (joined_none (lesser f (Some g)))
joined_some f (Some g) (Some h) = lesser_cases f g h (is_before g f) (is_before h g) refl refl

pub joined_joined : (a b c : Option Refusal) → joined a (joined b c) ≡ joined (joined a b) c
joined_joined None b c = refl
joined_joined (Some f) b c = joined_some f b c

pub least-append : (d : List (List ℕ)) (xs ys : List Finding) → least d (xs ++ ys) ≡ joined (least d xs) (least d ys)
unfolding least
least-append d [] ys = refl
least-append d (breaks number place ∷ xs) ys =
    ap (joined (Some (refusal number place))) (least-append d xs ys) ∙ joined_some (refusal number place) (least d xs) (least d ys)
least-append d (uses n ∷ xs) ys =
    ap (joined (unless_defined d n)) (least-append d xs ys) ∙ joined_joined (unless_defined d n) (least d xs) (least d ys)

pub summary_append : (d : List (List ℕ)) (xs ys : List Finding) → summary d (xs ++ ys) ≡ both (summary d xs) (summary d ys)
unfolding summary both
summary_append d xs ys = ap (λ l. record { least = l; is_sound = is_sound (xs ++ ys) }) (least-append d xs ys)
    ∙ ap (λ s. record { least = joined (least d xs) (least d ys); is_sound = s }) (sound-append xs ys)

pub summary_none : (d : List (List ℕ)) → summary d [] ≡ nothing_found
unfolding summary least
summary_none d = refl

pub summary_one : (d : List (List ℕ)) (number place : ℕ) → summary d (breaks number place ∷ []) ≡ broken_at number place
unfolding summary least
summary_one d number place = refl

pub summary_breaks : (d : List (List ℕ)) (number place : ℕ) (x : Finding) (xs : List Finding) →
    summary d (breaks number place ∷ x ∷ xs) ≡ both (broken_at number place) (summary d (x ∷ xs))
summary_breaks d number place x xs = summary_append d (breaks number place ∷ []) (x ∷ xs) ∙ ap (λ f. both f (summary d (x ∷ xs))) (summary_one d number place)

pub summary_broken : (d : List (List ℕ)) (number place : ℕ) (xs : List Finding) →
    summary d (breaks number place ∷ xs) ≡ both (broken_at number place) (summary d xs)
summary_broken d number place xs = summary_append d (breaks number place ∷ []) xs ∙ ap (λ f. both f (summary d xs)) (summary_one d number place)

pub summary_uses : (d : List (List ℕ)) (n : Name) (xs : List Finding) → summary d (uses n ∷ xs) ≡ both (used_by d n) (summary d xs)
unfolding summary least both
summary_uses d n xs = refl

pub summary_if : (d : List (List ℕ)) (b : Bool) (number place : ℕ) →
    summary d (breaks_if b number place) ≡ (if b then broken_at number place else nothing_found)
summary_if d true number place = summary_one d number place
summary_if d false number place = summary_none d

pub both_nothing : (f : Found) → both f nothing_found ≡ f
unfolding both
both_nothing f = ap (λ l. record { least = l; is_sound = f.is_sound && true }) (joined_none f.least) ∙ ap (λ s. record { least = f.least; is_sound = s }) (and_true f.is_sound)
  where
    and_true : (b : Bool) → (b && true) ≡ b
    and_true true = refl
    and_true false = refl

pub nothing_both : (f : Found) → both nothing_found f ≡ f
unfolding both
nothing_both f = refl

pub both_both : (f g h : Found) → both f (both g h) ≡ both (both f g) h
unfolding both
both_both f g h = ap (λ l. record { least = l; is_sound = f.is_sound && (g.is_sound && h.is_sound) }) (joined_joined f.least g.least h.least)
    ∙ ap (λ s. record { least = joined (joined f.least g.least) h.least; is_sound = s }) (and_and f.is_sound g.is_sound h.is_sound)
  where
    and_and : (a b c : Bool) → (a && (b && c)) ≡ ((a && b) && c)
    and_and true b c = refl
    and_and false b c = refl

pub sound_of_summary : (d : List (List ℕ)) (xs : List Finding) → (summary d xs).is_sound ≡ is_sound xs
unfolding summary
sound_of_summary d xs = refl

pub ruleset findings = (summary_append, summary_none, summary_one, summary_broken, summary_uses, summary_if, both_both, both_nothing, nothing_both, sound_of_summary)
