-- A stable sort by location and place gives the order of the definition.
use Rattle.std.proofs.Common.{◌≡◌, ◌+◌, ◌<◌, ◌==◌, ◌&&◌, ◌||◌, ℕ, suc, Bool, true, false, nat_lt, nat_le, List, [], ◌∷◌, map, filter, length, slice_index_or, refl, ap, sym, subst, ◌∙◌, arith, if◌then◌else◌}
use Rattle.std.specs.Prelude.{not, cond}
use Rattle.std.specs.Bool.{⊤}
use Rattle.std.specs.List.{AllByRecursion}
use Rattle.std.specs.List.Sorted.{ties, IsSortedBy, IsStableBy, IsSortedByKey, IsStableByKey}
use Rattle.std.specs.declared.cmp.Ordering.{Ordering}
use Rattle.std.specs.declared.cmp.Ordering.TheVariants.{Less, Equal, Greater}
use Rattle.std.specs.Ordering.{nat_cmp, ordering_then, is_lt}
use Rattle.std.proofs.lemmas.Bool.Decides.{nat_tests}
use Rattle.table_forms.specs.Fde as forms
use Rattle.table_forms.specs.Frames.{is_earlier, put_in, sorted}
use Rattle.frame_read.specs.Listed.{fde_listed}
use Rattle.frame_read.specs.declared.listed.Fde.{Fde}

-- the lesser location, or the same and the lesser place
abbrev pub less : Fde → Fde → Bool
less f g = nat_lt f.region.start g.region.start || (f.region.start == g.region.start && nat_lt f.place g.place)

abbrev tie : Fde → Fde → Bool
tie f g = ties less f g

tie_self : (f : Fde) → tie f f ≡ true
tie_self f = grind (arith, nat_tests)

tie_sym : (f g : Fde) → tie f g ≡ false → tie g f ≡ false
tie_sym f g e = grind (arith, nat_tests, e)

not_tied : (f g : Fde) → tie f g ≡ false → less f g ≡ false → less g f ≡ false → ⊥
not_tied f g e a b = grind (arith, nat_tests, e, a, b)

-- none is less than one before it
abbrev Up : List Fde → Type 0
Up [] = ⊤
Up (f ∷ fs) = AllByRecursion (λ g. less g f ≡ false) fs × Up fs

abbrev SameTies : List Fde → List Fde → Type 0
SameTies fs gs = (x : Fde) → filter (tie x) fs ≡ filter (tie x) gs

filtered : (P : Fde → Type 0) (p : Fde → Bool) (fs : List Fde) → AllByRecursion P fs → AllByRecursion P (filter p fs)
filtered P p [] all = tt
filtered P p (f ∷ fs) all = by (p f) (filtered P p fs all.1)
  where
    by : (b : Bool) → AllByRecursion P (filter p fs) → AllByRecursion P (if b then f ∷ filter p fs else filter p fs)
    by true rest = (all.0, rest)
    by false rest = rest

first_of : (P : Fde → Type 0) (p : Fde → Bool) (fs : List Fde) (f : Fde) (rest : List Fde) → f ∷ rest ≡ filter p fs → AllByRecursion P fs → P f
first_of P p fs f rest e all = (subst (AllByRecursion P) (sym e) (filtered P p fs all)).0

heads : (f g : Fde) (fs gs : List Fde) → f ∷ fs ≡ g ∷ gs → f ≡ g
heads f g fs gs e = cc

tails : (f g : Fde) (fs gs : List Fde) → f ∷ fs ≡ g ∷ gs → fs ≡ gs
tails f g fs gs e = cc

-- a list behind the same element
behind : (x f : Fde) (fs gs : List Fde) → filter (tie x) (f ∷ fs) ≡ filter (tie x) (f ∷ gs) → filter (tie x) fs ≡ filter (tie x) gs
behind x f fs gs e = by (tie x f) e
  where
    by : (b : Bool) → (if b then f ∷ filter (tie x) fs else filter (tie x) fs) ≡ (if b then f ∷ filter (tie x) gs else filter (tie x) gs) → filter (tie x) fs ≡ filter (tie x) gs
    by true e = tails f f (filter (tie x) fs) (filter (tie x) gs) e
    by false e = e

kept : (x f : Fde) (fs : List Fde) → tie x f ≡ true → filter (tie x) (f ∷ fs) ≡ f ∷ filter (tie x) fs
kept x f fs e = ap (λ b. if b then f ∷ filter (tie x) fs else filter (tie x) fs) e

left_out : (x f : Fde) (fs : List Fde) → tie x f ≡ false → filter (tie x) (f ∷ fs) ≡ filter (tie x) fs
left_out x f fs e = ap (λ b. if b then f ∷ filter (tie x) fs else filter (tie x) fs) e

same_first : (f g : Fde) (fs gs : List Fde) → Up (f ∷ fs) → Up (g ∷ gs) → SameTies (f ∷ fs) (g ∷ gs) → f ≡ g
same_first f g fs gs up up' same = by (tie f g) refl
  where
    from : f ∷ filter (tie f) fs ≡ filter (tie f) (g ∷ gs)
    from = sym (kept f f fs (tie_self f)) ∙ same f

    back : g ∷ filter (tie g) gs ≡ filter (tie g) (f ∷ fs)
    back = sym (kept g g gs (tie_self g)) ∙ sym (same g)

    by : (b : Bool) → tie f g ≡ b → f ≡ g
    by true e = heads f g (filter (tie f) fs) (filter (tie f) gs) (from ∙ kept f g gs e)
    by false e =
        let later = first_of (λ h. less h g ≡ false) (tie f) gs f (filter (tie f) fs) (from ∙ left_out f g gs e) up'.0 in
        let earlier = first_of (λ h. less h f ≡ false) (tie g) fs g (filter (tie g) gs) (back ∙ left_out g f fs (tie_sym f g e)) up.0 in
        absurd (not_tied f g e later earlier)

-- two such lists whose ties stand in the same order are the same
same_lists : (fs gs : List Fde) → Up fs → Up gs → SameTies fs gs → fs ≡ gs
same_lists [] [] up up' same = refl
same_lists [] (g ∷ gs) up up' same = absurd (let e = same g ∙ kept g g gs (tie_self g) in none e)
  where
    none : [] ≡ g ∷ filter (tie g) gs → ⊥
    none e = cc
same_lists (f ∷ fs) [] up up' same = absurd (let e = sym (kept f f fs (tie_self f)) ∙ same f in none e)
  where
    none : f ∷ filter (tie f) fs ≡ [] → ⊥
    none e = cc
same_lists (f ∷ fs) (g ∷ gs) up up' same =
    let first = same_first f g fs gs up up' same in
    let rest : SameTies fs gs = λ x. behind x f fs gs (same x ∙ ap (λ h. filter (tie x) (h ∷ gs)) (sym first)) in
    ap (λ h. h ∷ fs) first ∙ ap (λ hs. g ∷ hs) (same_lists fs gs up.1 up'.1 rest)

-- ---- the order of the definition
abbrev earlier : Fde → Fde → Bool
earlier f g = nat_lt f.region.start g.region.start || (f.region.start == g.region.start && nat_le f.place g.place)

abbrev put : Fde → List Fde → List Fde
put f [] = f ∷ []
put f (g ∷ gs) = if earlier f g then f ∷ g ∷ gs else g ∷ put f gs

abbrev inserted : List Fde → List Fde
inserted [] = []
inserted (f ∷ fs) = put f (inserted fs)

put_listed : (f : forms.Fde) (fs : List forms.Fde) → map fde_listed (put_in f fs) ≡ put (fde_listed f) (map fde_listed fs)
put_listed f [] = refl
put_listed f (g ∷ fs) = by (is_earlier f g) (put_listed f fs)
  where
    by : (b : Bool) → map fde_listed (put_in f fs) ≡ put (fde_listed f) (map fde_listed fs) →
        map fde_listed (if b then f ∷ g ∷ fs else g ∷ put_in f fs) ≡ (if b then fde_listed f ∷ fde_listed g ∷ map fde_listed fs else fde_listed g ∷ put (fde_listed f) (map fde_listed fs))
    by true more = refl
    by false more = ap (λ hs. fde_listed g ∷ hs) more

sorted_listed : (fs : List forms.Fde) → map fde_listed (sorted fs) ≡ inserted (map fde_listed fs)
sorted_listed [] = refl
sorted_listed (f ∷ fs) = put_listed f (sorted fs) ∙ ap (put (fde_listed f)) (sorted_listed fs)

not_before : (f g : Fde) → earlier f g ≡ true → less g f ≡ false
not_before f g e = grind (arith, nat_tests, e)

not_behind : (f g : Fde) → earlier f g ≡ false → less f g ≡ false
not_behind f g e = grind (arith, nat_tests, e)

on : (f g h : Fde) → earlier f g ≡ true → less h g ≡ false → less h f ≡ false
on f g h e d = grind (arith, nat_tests, e, d)

all_on : (f g : Fde) (gs : List Fde) → earlier f g ≡ true → AllByRecursion (λ h. less h g ≡ false) gs → AllByRecursion (λ h. less h f ≡ false) gs
all_on f g [] e all = tt
all_on f g (h ∷ gs) e all = (on f g h e all.0, all_on f g gs e all.1)

put_all : (P : Fde → Type 0) (f : Fde) (gs : List Fde) → P f → AllByRecursion P gs → AllByRecursion P (put f gs)
put_all P f [] one all = (one, tt)
put_all P f (g ∷ gs) one all = by (earlier f g) (put_all P f gs one all.1)
  where
    by : (b : Bool) → AllByRecursion P (put f gs) → AllByRecursion P (if b then f ∷ g ∷ gs else g ∷ put f gs)
    by true more = (one, all)
    by false more = (all.0, more)

put_up : (f : Fde) (gs : List Fde) → Up gs → Up (put f gs)
put_up f [] up = (tt, tt)
put_up f (g ∷ gs) up = by (earlier f g) refl (put_up f gs up.1)
  where
    by : (b : Bool) → earlier f g ≡ b → Up (put f gs) → Up (if b then f ∷ g ∷ gs else g ∷ put f gs)
    by true e more = ((not_before f g e, all_on f g gs e up.0), up)
    by false e more = (put_all (λ h. less h g ≡ false) f gs (not_behind f g e) up.0, more)

inserted_up : (fs : List Fde) → Up (inserted fs)
inserted_up [] = tt
inserted_up (f ∷ fs) = put_up f (inserted fs) (inserted_up fs)

apart : (x f g : Fde) → earlier f g ≡ false → tie x f ≡ true → tie x g ≡ true → ⊥
apart x f g e a b = grind (arith, nat_tests, e, a, b)

put_ties : (x f : Fde) (gs : List Fde) → filter (tie x) (put f gs) ≡ filter (tie x) (f ∷ gs)
put_ties x f [] = refl
put_ties x f (g ∷ gs) = by (earlier f g) refl (put_ties x f gs)
  where
    swapped : (a b : Bool) → tie x f ≡ a → tie x g ≡ b → earlier f g ≡ false →
        (if b then g ∷ (if a then f ∷ filter (tie x) gs else filter (tie x) gs) else (if a then f ∷ filter (tie x) gs else filter (tie x) gs)) ≡
        (if a then f ∷ (if b then g ∷ filter (tie x) gs else filter (tie x) gs) else (if b then g ∷ filter (tie x) gs else filter (tie x) gs))
    swapped true true ta tb e = absurd (apart x f g e ta tb)
    swapped true false ta tb e = refl
    swapped false true ta tb e = refl
    swapped false false ta tb e = refl

    by : (c : Bool) → earlier f g ≡ c → filter (tie x) (put f gs) ≡ filter (tie x) (f ∷ gs) → filter (tie x) (if c then f ∷ g ∷ gs else g ∷ put f gs) ≡ filter (tie x) (f ∷ g ∷ gs)
    by true e more = refl
    by false e more = ap (λ hs. if tie x g then g ∷ hs else hs) more ∙ swapped (tie x f) (tie x g) refl refl e

inserted_ties : (x : Fde) (fs : List Fde) → filter (tie x) (inserted fs) ≡ filter (tie x) fs
inserted_ties x [] = refl
inserted_ties x (f ∷ fs) = put_ties x f (inserted fs) ∙ ap (λ hs. if tie x f then f ∷ hs else hs) (inserted_ties x fs)

-- ---- the order of a sort
further : (f g h : Fde) → less g f ≡ false → less h g ≡ false → less h f ≡ false
further f g h a b = grind (arith, nat_tests, a, b)

all_further : (f g : Fde) (gs : List Fde) → less g f ≡ false → AllByRecursion (λ h. less h g ≡ false) gs → AllByRecursion (λ h. less h f ≡ false) gs
all_further f g [] e all = tt
all_further f g (h ∷ gs) e all = (further f g h e all.0, all_further f g gs e all.1)

up_from : (fs : List Fde) → ((k : ℕ) (d : Fde) → suc k < length fs → less (slice_index_or fs (suc k) d) (slice_index_or fs k d) ≡ false) → Up fs
up_from [] step = tt
up_from (f ∷ []) step = (tt, tt)
up_from (f ∷ g ∷ fs) step =
    let rest = up_from (g ∷ fs) (λ k d inside. step (suc k) d (omega (arith, inside))) in
    let first = step 0 f (omega arith) in
    ((first, all_further f g fs first rest.0), rest)

sorted_up : (fs : List Fde) → IsSortedBy less fs → Up fs
sorted_up fs s =
    up_from fs (λ k d inside. let next : k + 1 ≡ suc k = omega arith in
    subst (λ n. less (slice_index_or fs n d) (slice_index_or fs k d) ≡ false) next (s k d (omega arith) (omega (arith, inside))))

same_order : (fs : List forms.Fde) (order : List Fde) → IsSortedBy less order → IsStableBy less (map fde_listed fs) order → order ≡ map fde_listed (sorted fs)
same_order fs order s stable =
    same_lists order (inserted (map fde_listed fs)) (sorted_up order s) (inserted_up (map fde_listed fs)) (λ x. stable x ∙ sym (inserted_ties x (map fde_listed fs))) ∙
    sym (sorted_listed fs)

-- ---- the same by a sort's keys
abbrev pub key : Fde → ℕ × ℕ
key f = (f.region.start, f.place)

abbrev pub below : ℕ × ℕ → ℕ × ℕ → Ordering
below a b = ordering_then (nat_cmp a.0 b.0) (nat_cmp a.1 b.1)

less_by : (f g : Fde) → is_lt (below (key f) (key g)) ≡ less f g
less_by f g = by (nat_lt f.region.start g.region.start) (f.region.start == g.region.start) (nat_lt f.place g.place) (f.place == g.place)
  where
    by : (a b c d : Bool) → is_lt (ordering_then (cond a Less (cond b Equal Greater)) (cond c Less (cond d Equal Greater))) ≡ (a || (b && c))
    by true b c d = refl
    by false false c d = refl
    by false true true d = refl
    by false true false true = refl
    by false true false false = refl

same_filter : (p q : Fde → Bool) (fs : List Fde) → ((f : Fde) → p f ≡ q f) → filter p fs ≡ filter q fs
same_filter p q [] e = refl
same_filter p q (f ∷ fs) e = ap (λ b. if b then f ∷ filter p fs else filter p fs) (e f) ∙ ap (λ hs. if q f then f ∷ hs else hs) (same_filter p q fs e)

ties_by : (x f : Fde) → ties (λ y z. is_lt (below (key y) (key z))) x f ≡ tie x f
ties_by x f = ap (λ b. not b && not (is_lt (below (key f) (key x)))) (less_by x f) ∙ ap (λ b. not (less x f) && not b) (less_by f x)

pub order_by_key : (fs : List forms.Fde) (order : List Fde) → IsSortedByKey key below order → IsStableByKey key below (map fde_listed fs) order → order ≡ map fde_listed (sorted fs)
order_by_key fs order s stable =
    same_order fs order (λ k d low inside. sym (less_by (slice_index_or order (k + 1) d) (slice_index_or order k d)) ∙ s k d low inside)
    (λ x. sym (same_filter (ties (λ y z. is_lt (below (key y) (key z))) x) (tie x) order (ties_by x)) ∙ stable x ∙
    same_filter (ties (λ y z. is_lt (below (key y) (key z))) x) (tie x) (map fde_listed fs) (ties_by x))
