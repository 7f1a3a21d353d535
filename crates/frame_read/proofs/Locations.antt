-- The locations of rows: a list that rises and has just those that are reached goes on by next locations.
use Rattle.std.proofs.Common.{◌≡◌, ◌⊎◌, inl, inr, ◌+◌, ◌≤◌, ◌<◌, ◌&&◌, ℕ, zero, suc, Bool, true, false, nat_lt, nat_le, List, [], ◌∷◌, ◌++◌, length, Some, None, refl, ap, sym, subst, ◌∙◌, arith, fold, if◌then◌else◌}
use Rattle.std.specs.Prelude.{⊤, min, filter, nat_eq}
use Rattle.std.specs.List.{Contains, dedup, slice_index}
use Rattle.std.specs.List.Sorted.{IsPermutation, IsSorted, IsStrictlyIncreasing}
use Rattle.std.specs.Ordering.{nat_cmp}
use Rattle.std.proofs.lemmas.Bool.Decides.{nat_tests}
use Rattle.std.proofs.lemmas.List.Kept.{Contains-dedup_nat, Contains-from_dedup}
use Rattle.std.proofs.lemmas.List.Sorted.{Contains-permutation, IsPermutation-sym}
use Rattle.std.proofs.lemmas.Map.Keys.{IsStrictlyIncreasing-dedup}
use Rattle.table_forms.specs.Row.{locations_from, least_of, next_location_of}
use Rattle.table_forms.specs.Fde.{Fde, is_in, next_location}
use Rattle.frame_read.specs.Locations.{locations_within, locations, reached_by}
use Rattle.frame_read.proofs.Members.{In, contains_in, in_contains}

-- ---- what a filter keeps
in_filter : (p : ℕ → Bool) (ls : List ℕ) (l : ℕ) → In l (filter p ls) → In l ls × (p l ≡ true)
in_filter p [] l here = absurd here
in_filter p (m ∷ ms) l here = by (in_filter p ms l) (p m) refl here
  where
    by : (In l (filter p ms) → In l ms × (p l ≡ true)) → (b : Bool) → p m ≡ b → In l (if b then m ∷ filter p ms else filter p ms) → In l (m ∷ ms) × (p l ≡ true)
    by later true e (inl same) = (inl same, ap p same ∙ e)
    by later true e (inr there) = let r = later there in (inr r.0, r.1)
    by later false e there = let r = later there in (inr r.0, r.1)

filter_in : (p : ℕ → Bool) (ls : List ℕ) (l : ℕ) → In l ls → p l ≡ true → In l (filter p ls)
filter_in p [] l here passes = absurd here
filter_in p (m ∷ ms) l here passes = by (filter_in p ms l) (p m) refl here
  where
    by : (In l ms → p l ≡ true → In l (filter p ms)) → (b : Bool) → p m ≡ b → (l ≡ m) ⊎ In l ms → In l (if b then m ∷ filter p ms else filter p ms)
    by later true e (inl same) = inl same
    by later true e (inr there) = inr (later there passes)
    by later false e (inl same) = let wrong : true ≡ false = sym passes ∙ ap p same ∙ e in absurd cc
    by later false e (inr there) = later there passes

-- ---- the least of a list
fold_least : (n m : ℕ) (ns : List ℕ) → In m (n ∷ ns) → ((l : ℕ) → In l (n ∷ ns) → m ≤ l) → fold min n ns ≡ m
fold_least n m [] (inl e) below = sym e
fold_least n m [] (inr none) below = absurd none
fold_least n m (k ∷ ks) here below = fold_least (min n k) m ks (first here) rest
  where
    first : (m ≡ n) ⊎ ((m ≡ k) ⊎ In m ks) → In m (min n k ∷ ks)
    first (inl e) = let b = below k (inr (inl refl)) in inl (omega (arith, e, b))
    first (inr (inl e)) = let b = below n (inl refl) in inl (omega (arith, e, b))
    first (inr (inr there)) = inr there

    rest : (l : ℕ) → (l ≡ min n k) ⊎ In l ks → m ≤ l
    rest l (inl e) = let a = below n (inl refl) in let b = below k (inr (inl refl)) in omega (arith, e, a, b)
    rest l (inr there) = below l (inr (inr there))

least_some : (ls : List ℕ) (m : ℕ) → In m ls → ((l : ℕ) → In l ls → m ≤ l) → least_of ls ≡ Some m
least_some [] m here below = absurd here
least_some (n ∷ ns) m here below = ap (λ x. Some x) (fold_least n m ns here below)

least_none : (ls : List ℕ) → ((l : ℕ) → In l ls → ⊥) → least_of ls ≡ None
least_none [] none = refl
least_none (n ∷ ns) none = absurd (none n (inl refl))

-- ---- the next location, by what is reached behind a place
abbrev moved_to : Fde → List ℕ
moved_to f = locations_from f.region.start (f.cie.instructions ++ f.instructions)

abbrev is_behind : Fde → ℕ → ℕ → Bool
is_behind f pc l = nat_lt pc l && nat_le f.region.start l && nat_lt l (f.region.start + f.region.length)

next_some : (f : Fde) (pc m : ℕ) → pc < m → In m (moved_to f) → is_in f.region m ≡ true → ((l : ℕ) → pc < l → In l (moved_to f) → is_in f.region l ≡ true → m ≤ l) → next_location f pc ≡ Some m
unfolding next_location_of
next_some f pc m above here inside below =
    let behind : is_behind f pc m ≡ true = grind (arith, nat_tests, above, inside) in
    least_some (filter (is_behind f pc) (moved_to f)) m (filter_in (is_behind f pc) (moved_to f) m here behind) (λ l there.
    let r = in_filter (is_behind f pc) (moved_to f) l there in
    let passes = r.1 in
    below l (grind (arith, nat_tests, passes)) r.0 (grind (arith, nat_tests, passes)))

next_none : (f : Fde) (pc : ℕ) → ((l : ℕ) → pc < l → In l (moved_to f) → is_in f.region l ≡ true → ⊥) → next_location f pc ≡ None
unfolding next_location_of
next_none f pc none =
    least_none (filter (is_behind f pc) (moved_to f)) (λ l there.
    let r = in_filter (is_behind f pc) (moved_to f) l there in
    let passes = r.1 in
    none l (grind (arith, nat_tests, passes)) r.0 (grind (arith, nat_tests, passes)))

-- ---- a list that rises
abbrev Up : ℕ → List ℕ → Type 0
Up x [] = ⊤
Up x (y ∷ ys) = (x < y) × Up y ys

up_from : (x : ℕ) (ys : List ℕ) → IsStrictlyIncreasing (x ∷ ys) → Up x ys
up_from x [] rises = tt
up_from x (y ∷ ys) rises = (
  rises 0 (omega arith),
  up_from y ys (λ k below.
      let more : suc k + 1 ≡ suc (k + 1) = omega arith in
      subst (λ n. slice_index (x ∷ y ∷ ys) (suc k) < slice_index (x ∷ y ∷ ys) n) more (rises (suc k) (omega (arith, below)))),
)

up_above : (x : ℕ) (ys : List ℕ) → Up x ys → (l : ℕ) → In l ys → x < l
up_above x [] up l here = absurd here
up_above x (y ∷ ys) up l (inl e) = let a = up.0 in omega (arith, a, e)
up_above x (y ∷ ys) up l (inr there) = let a = up.0 in let b = up_above y ys up.1 l there in omega (arith, a, b)

-- below an end it is not longer than what lies between
up_few : (end x : ℕ) (ys : List ℕ) → Up x ys → ((l : ℕ) → In l (x ∷ ys) → l < end) → x + length ys < end
up_few end x [] up below = let b = below x (inl refl) in omega (arith, b)
up_few end x (y ∷ ys) up below = let a = up.0 in let b = up_few end y ys up.1 (λ l there. below l (inr there)) in omega (arith, a, b)

-- ---- from a location on
none_within : (n : ℕ) (f : Fde) → locations_within n f None ≡ []
unfolding locations_within
none_within zero f = refl
none_within (suc n) f = refl

goes_on : (f : Fde) (n x : ℕ) (ys : List ℕ) → length ys ≤ n → Up x ys → ((l : ℕ) → In l ys → In l (moved_to f) × (is_in f.region l ≡ true)) →
    ((l : ℕ) → x < l → In l (moved_to f) → is_in f.region l ≡ true → In l ys) → locations_within (suc n) f (Some x) ≡ x ∷ ys
unfolding locations_within
goes_on f n x [] few up from to = ap (λ ls. x ∷ ls) (ap (locations_within n f) (next_none f x to) ∙ none_within n f)
goes_on f zero x (y ∷ ys) few up from to = absurd (omega (arith, few))
goes_on f (suc n) x (y ∷ ys) few up from to =
    let first = from y (inl refl) in
    let above = up.0 in
    ap (λ ls. x ∷ ls) (
    ap (locations_within (suc n) f) (next_some f x y above first.0 first.1 (λ l behind there inside. least l (to l behind there inside))) ∙
    goes_on f n y ys (omega (arith, few)) up.1 (λ l there. from l (inr there)) (λ l behind there inside. later l behind (to l (omega (arith, above, behind)) there inside))
    )
  where
    least : (l : ℕ) → (l ≡ y) ⊎ In l ys → y ≤ l
    least l (inl e) = omega (arith, e)
    least l (inr there) = let a = up_above y ys up.1 l there in omega (arith, a)

    later : (l : ℕ) → y < l → (l ≡ y) ⊎ In l ys → In l ys
    later l behind (inl e) = absurd (omega (arith, behind, e))
    later l behind (inr there) = there

none_more : (f : Fde) → locations_within zero f (Some f.region.start) ≡ []
unfolding locations_within
none_more f = refl

-- ---- the whole list
pub are_locations : (f : Fde) (zs : List ℕ) → IsStrictlyIncreasing zs → ((l : ℕ) → In l zs → In l (reached_by f)) → ((l : ℕ) → In l (reached_by f) → In l zs) → zs ≡ locations f
are_locations f zs rises from to = by f.region.length refl zs rises from to
  where
    reached : (l : ℕ) → In l (reached_by f) → In l (f.region.start ∷ moved_to f) × (is_in f.region l ≡ true)
    reached l there = in_filter (is_in f.region) (f.region.start ∷ moved_to f) l there

    by : (n : ℕ) → f.region.length ≡ n → (zs : List ℕ) → IsStrictlyIncreasing zs → ((l : ℕ) → In l zs → In l (reached_by f)) → ((l : ℕ) → In l (reached_by f) → In l zs) → zs ≡ locations_within n f (Some f.region.start)
    by zero none [] rises from to = sym (none_more f)
    by zero none (z ∷ ys) rises from to =
        let inside = (reached z (from z (inl refl))).1 in absurd (grind (arith, nat_tests, inside, none))
    by (suc n) some [] rises from to =
        let inside : is_in f.region f.region.start ≡ true = grind (arith, nat_tests, some) in
        absurd (to f.region.start (filter_in (is_in f.region) (f.region.start ∷ moved_to f) f.region.start (inl refl) inside))
    by (suc n) some (z ∷ ys) rises from to =
        let up = up_from z ys rises in
        let inside : is_in f.region f.region.start ≡ true = grind (arith, nat_tests, some) in
        let here = to f.region.start (filter_in (is_in f.region) (f.region.start ∷ moved_to f) f.region.start (inl refl) inside) in
        let low = (reached z (from z (inl refl))).1 in
        let first : z ≡ f.region.start = start here low up in
        let few = up_few (f.region.start + f.region.length) z ys up (λ l there. let r = (reached l (from l there)).1 in grind (arith, nat_tests, r)) in
        sym (ap (λ x. locations_within (suc n) f (Some x)) (sym first) ∙ goes_on f n z ys (omega (arith, few, first, some)) up (λ l there. own l first (up_above z ys up l there) (reached l (from l (inr there))))
        (λ l above there within. rest l above (to l (filter_in (is_in f.region) (f.region.start ∷ moved_to f) l (inr there) within))))
      where
        start : (f.region.start ≡ z) ⊎ In f.region.start ys → is_in f.region z ≡ true → Up z ys → z ≡ f.region.start
        start (inl e) low up = sym e
        start (inr there) low up = let above = up_above z ys up f.region.start there in absurd (grind (arith, nat_tests, low, above))

        own : (l : ℕ) → z ≡ f.region.start → z < l → In l (f.region.start ∷ moved_to f) × (is_in f.region l ≡ true) → In l (moved_to f) × (is_in f.region l ≡ true)
        own l first above (inl e, within) = absurd (omega (arith, first, above, e))
        own l first above (inr there, within) = (there, within)

        rest : (l : ℕ) → z < l → (l ≡ z) ⊎ In l ys → In l ys
        rest l above (inl e) = absurd (omega (arith, above, e))
        rest l above (inr there) = there

-- what was reached, in order and each once
pub sorted_locations : (f : Fde) (xs ys zs : List ℕ) → xs ≡ reached_by f → IsPermutation xs ys → IsSorted nat_cmp ys → zs ≡ dedup nat_eq ys → zs ≡ locations f
sorted_locations f xs ys zs is moved sorted once =
    are_locations f zs (subst IsStrictlyIncreasing (sym once) (IsStrictlyIncreasing-dedup ys sorted)) (λ l there. subst (In l) is (contains_in xs l (from l (in_contains zs l there))))
    (λ l there. contains_in zs l (to l (in_contains xs l (subst (In l) (sym is) there))))
  where
    from : (l : ℕ) → Contains zs l → Contains xs l
    from l there = Contains-permutation ys xs l (IsPermutation-sym xs ys moved) (Contains-from_dedup nat_eq ys l (subst (λ ls. Contains ls l) once there))

    to : (l : ℕ) → Contains xs l → Contains zs l
    to l there = subst (λ ls. Contains ls l) (sym once) (Contains-dedup_nat ys l (Contains-permutation xs ys l moved there))
