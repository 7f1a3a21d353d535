-- Of what was found in some parts the same refusal answers in each order.
use Rattle.std.proofs.Common.{◌≡◌, ℕ, Bool, true, false, ◌&&◌, List, [], ◌∷◌, ◌++◌, Option, Some, None, refl, ap, ◌∙◌, sym, arith, flat_map, option_map, cond}
use Rattle.std.proofs.lemmas.Bool.Decides.{nat_tests}
use Rattle.cxx_ast.specs.declared.name.Name.{Name}
use Rattle.cxx_ast.specs.Environment.{Environment}
use Rattle.cxx_ast.specs.Finding.{Finding, breaks, uses}
use Rattle.cxx_ast.specs.FunctionRules.{has_text}
use Rattle.cxx_ast.specs.Broken.{pairs}
use Rattle.cxx_ast.specs.Refused.{comes_before, first_among, first}
use Rattle.cxx_ast.specs.Rule.{not_defined}
use Rattle.cxx_check.specs.RefusalOf.{pair_of}
use Rattle.cxx_rules.specs.declared.found.Refusal.{Refusal}
use Rattle.cxx_rules.specs.declared.found.Found.{Found}
use Rattle.cxx_rules.specs.Summary.{refusal, is_before, lesser, joined, unless_defined, least, both, seen}
use Rattle.cxx_rules.proofs.FoundLaws.{joined_none, joined_joined, both_both, nothing_both, summary_append, summary_none}

same_refusal : (n m p q : ℕ) → n ≡ m → p ≡ q → refusal n p ≡ refusal m q
same_refusal n m p q e f = cc

both_ways : (f g : Refusal) → is_before f g ≡ true → is_before g f ≡ true → ⊥
unfolding is_before
both_ways f g e h = grind (arith, nat_tests, e, h)

number_same : (f g : Refusal) → is_before f g ≡ false → is_before g f ≡ false → f.number ≡ g.number
unfolding is_before
number_same f g e h = grind (arith, nat_tests, e, h)

place_same : (f g : Refusal) → is_before f g ≡ false → is_before g f ≡ false → f.place ≡ g.place
unfolding is_before
place_same f g e h = grind (arith, nat_tests, e, h)

swapped : (f g : Refusal) (a b : Bool) → is_before g f ≡ a → is_before f g ≡ b → cond a (Some g) (Some f) ≡ cond b (Some f) (Some g)
swapped f g true true e h = absurd (both_ways f g h e)
swapped f g true false e h = refl
swapped f g false true e h = refl
swapped f g false false e h = ap Some (same_refusal f.number g.number f.place g.place (number_same f g h e) (place_same f g h e))

joined_swap : (a b : Option Refusal) → joined a b ≡ joined b a
joined_swap None b = sym (joined_none b)
joined_swap (Some f) None = refl
joined_swap (Some f) (Some g) = swapped f g (is_before g f) (is_before f g) refl refl

and_swap : (a b : Bool) → (a && b) ≡ (b && a)
and_swap true true = refl
and_swap true false = refl
and_swap false true = refl
and_swap false false = refl

pub both_swap : (f g : Found) → both f g ≡ both g f
unfolding both
both_swap f g = ap (λ l. record { least = l; is_sound = f.is_sound && g.is_sound }) (joined_swap f.least g.least)
    ∙ ap (λ s. record { least = joined g.least f.least; is_sound = s }) (and_swap f.is_sound g.is_sound)

-- a part moved behind the next
pub moved_behind : (a b c : Found) → both (both a b) c ≡ both (both a c) b
moved_behind a b c = sym (both_both a b c) ∙ ap (both a) (both_swap b c) ∙ both_both a c b

-- two parts of each item of a list, the first of all items before the second
pub parted : {X : Type 0} (env : Environment) (f g h : X → List Finding) → ((x : X) → seen env (f x) ≡ both (seen env (g x)) (seen env (h x))) → (xs : List X) →
    seen env (flat_map f xs) ≡ both (seen env (flat_map g xs)) (seen env (flat_map h xs))
parted env f g h e [] = sym (ap (λ x. both x (seen env [])) (summary_none env.definitions) ∙ nothing_both (seen env []))
parted env f g h e (x ∷ xs) =
    let d = env.definitions in
    summary_append d (f x) (flat_map f xs) ∙ ap (λ a. both a (seen env (flat_map f xs))) (e x)
    ∙ ap (both (both (seen env (g x)) (seen env (h x)))) (parted env f g h e xs)
    ∙ both_both (both (seen env (g x)) (seen env (h x))) (seen env (flat_map g xs)) (seen env (flat_map h xs))
    ∙ ap (λ a. both a (seen env (flat_map h xs))) (moved_behind (seen env (g x)) (seen env (h x)) (seen env (flat_map g xs)) ∙ ap (λ a. both a (seen env (h x))) (sym (summary_append d (g x) (flat_map g xs))))
    ∙ sym (both_both (seen env (g x ++ flat_map g xs)) (seen env (h x)) (seen env (flat_map h xs)))
    ∙ ap (both (seen env (g x ++ flat_map g xs))) (sym (summary_append d (h x) (flat_map h xs)))

-- the refusal of a pair
abbrev of_pair : ℕ × ℕ → Refusal
of_pair p = refusal p.0 p.1

abbrev least_pair : List (ℕ × ℕ) → Option Refusal
least_pair [] = None
least_pair (p ∷ ps) = joined (Some (of_pair p)) (least_pair ps)

chosen : (a b : ℕ × ℕ) (c : Bool) → joined (Some (cond c (of_pair b) (of_pair a))) None ≡ cond c (Some (of_pair b)) (Some (of_pair a))
chosen a b true = refl
chosen a b false = refl

before_same : (a b : ℕ × ℕ) → comes_before b a ≡ is_before (of_pair b) (of_pair a)
unfolding is_before
before_same a b = refl

first_by : (a b : ℕ × ℕ) (ps : List (ℕ × ℕ)) (c : Bool) → is_before (of_pair b) (of_pair a) ≡ c →
    ((p : ℕ × ℕ) → Some (of_pair (first_among p ps)) ≡ joined (Some (of_pair p)) (least_pair ps)) →
    Some (of_pair (cond c (first_among b ps) (first_among a ps))) ≡ joined (lesser (of_pair a) (Some (of_pair b))) (least_pair ps)
first_by a b ps true e h = h b ∙ ap (λ c. joined (cond c (Some (of_pair b)) (Some (of_pair a))) (least_pair ps)) (sym e)
first_by a b ps false e h = h a ∙ ap (λ c. joined (cond c (Some (of_pair b)) (Some (of_pair a))) (least_pair ps)) (sym e)

first_is : (ps : List (ℕ × ℕ)) (a : ℕ × ℕ) → Some (of_pair (first_among a ps)) ≡ joined (Some (of_pair a)) (least_pair ps)
first_is [] a = refl
first_is (b ∷ ps) a =
    ap (λ c. Some (of_pair (cond c (first_among b ps) (first_among a ps)))) (before_same a b)
    ∙ first_by a b ps (is_before (of_pair b) (of_pair a)) refl (first_is ps)
    ∙ sym (joined_joined (Some (of_pair a)) (Some (of_pair b)) (least_pair ps))

used_is : (d : List (List ℕ)) (n : Name) (b : Bool) (ps : List (ℕ × ℕ)) →
    joined (cond b None (Some (refusal not_defined n.place))) (least_pair ps) ≡ least_pair (cond b [] ((not_defined, n.place) ∷ []) ++ ps)
used_is d n true ps = refl
used_is d n false ps = refl

pairs_least : (d : List (List ℕ)) (fs : List Finding) → least d fs ≡ least_pair (pairs d fs)
unfolding least
pairs_least d [] = refl
pairs_least d (breaks number place ∷ fs) = ap (joined (Some (refusal number place))) (pairs_least d fs)
pairs_least d (uses n ∷ fs) = ap (joined (unless_defined d n)) (pairs_least d fs) ∙ used_is d n (has_text n.text d) (pairs d fs)

pair_first : (ps : List (ℕ × ℕ)) → option_map pair_of (least_pair ps) ≡ first ps
pair_first [] = refl
pair_first (a ∷ ps) = sym (ap (option_map pair_of) (first_is ps a))

-- the refusal that answers is the first of the pairs
pub least_first : (d : List (List ℕ)) (fs : List Finding) → option_map pair_of (least d fs) ≡ first (pairs d fs)
least_first d fs = ap (option_map pair_of) (pairs_least d fs) ∙ pair_first (pairs d fs)
