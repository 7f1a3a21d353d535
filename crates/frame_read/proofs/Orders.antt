-- The order of the definition is the one in which FDEs are sorted by rank.
use Rattle.std.proofs.Common.{◌≡◌, ◌⊎◌, inl, inr, ◌+◌, ◌≤◌, ◌<◌, ◌==◌, ◌&&◌, ◌||◌, ℕ, zero, suc, Bool, true, false, nat_lt, nat_le, List, [], ◌∷◌, map, length, Option, Some, refl, ap, sym, subst, ◌∙◌, arith, if◌then◌else◌, IsPermutation, slice_index_or, sum_by}
use Rattle.std.specs.Bool.{⊤}
use Rattle.std.specs.List.Sorted.{IsNonDecreasingBy, IsSortedByKey, IsStableByKey}
use Rattle.std.specs.Ordering.{nat_cmp, is_lt}
use Rattle.std.proofs.lemmas.Bool.Decides.{nat_tests}
use Rattle.std.proofs.lemmas.List.Sorted.{IsPermutation-sym, sum_by-IsPermutation, ties_still_rise}
use Rattle.std.proofs.lemmas.List.Sums.{sum_by-cons}
use Rattle.eh_bytes.specs.declared.frames.HdrRow.{HdrRow}
use Rattle.table_forms.specs.Fault.{Fault}
use Rattle.table_forms.specs.Fde as forms
use Rattle.table_forms.specs.Frames.{is_earlier, put_in, sorted, differs, disagreement}
use Rattle.frame_read.specs.Listed.{fde_listed}
use Rattle.frame_read.specs.Order.{disagrees, PlacesRise}
use Rattle.frame_read.specs.declared.listed.Fde.{Fde}
use Rattle.frame_read.proofs.Members.{In, in_permutation}

-- ---- the table is compared with what is listed
pub disagrees_listed : (place : ℕ) (rows : List HdrRow) (fdes : List forms.Fde) → disagreement place rows fdes ≡ disagrees place rows (map fde_listed fdes)
disagrees_listed place [] [] = refl
disagrees_listed place [] (f ∷ fs) = refl
disagrees_listed place (r ∷ rs) [] = refl
disagrees_listed place (r ∷ rs) (f ∷ fs) =
    ap (λ (o : Option Fault). if r.location == f.region.start && r.fde == f.address then o else Some (differs place r.location f.region.start)) (disagrees_listed (place + 8) rs fs)

-- ---- the earlier of two FDEs has the lesser location, or the same and the lesser place
abbrev pub Earlier : Fde → Fde → Type 0
Earlier f g = (f.region.start < g.region.start) ⊎ ((f.region.start ≡ g.region.start) × (f.place ≤ g.place))

earlier_on : (f g h : Fde) → Earlier f g → Earlier g h → Earlier f h
earlier_on f g h (inl a) (inl b) = inl (omega (arith, a, b))
earlier_on f g h (inl a) (inr b) = inl (omega (arith, a, b.0))
earlier_on f g h (inr a) (inl b) = inl (omega (arith, a.0, b))
earlier_on f g h (inr a) (inr b) = inr (a.0 ∙ b.0, omega (arith, a.1, b.1))

-- each is earlier than all behind it
abbrev pub Chain : List Fde → Type 0
Chain [] = ⊤
Chain (f ∷ fs) = ((g : Fde) → In g fs → Earlier f g) × Chain fs

-- each place stands there once at most
abbrev pub at_place : ℕ → Fde → ℕ
at_place n f = if f.place == n then 1 else 0

abbrev pub Once : List Fde → Type 0
Once fs = (n : ℕ) → sum_by (at_place n) fs ≤ 1

here_one : (f : Fde) → at_place f.place f ≡ 1
here_one f = let t : (f.place == f.place) ≡ true = grind (arith, nat_tests) in ap (λ b. if b then 1 else 0) t

some_there : (n : ℕ) (fs : List Fde) (g : Fde) → g.place ≡ n → In g fs → 1 ≤ sum_by (at_place n) fs
some_there n [] g same there = absurd there
some_there n (f ∷ fs) g same (inl e) =
    let c = sum_by-cons (at_place n) f fs in
    let t : (f.place == n) ≡ true = let p = ap (λ (x : Fde). x.place) e in grind (arith, nat_tests, p, same) in
    let one : at_place n f ≡ 1 = ap (λ b. if b then 1 else 0) t in omega (arith, c, one)
some_there n (f ∷ fs) g same (inr there) = let c = sum_by-cons (at_place n) f fs in let d = some_there n fs g same there in omega (arith, c, d)

once_apart : (f g : Fde) (fs : List Fde) → Once (f ∷ fs) → In g fs → g.place ≡ f.place → ⊥
once_apart f g fs once there same =
    let c = sum_by-cons (at_place f.place) f fs in let d = some_there f.place fs g same there in let a = once f.place in let o = here_one f in omega (arith, a, c, d, o)

once_rest : (f : Fde) (fs : List Fde) → Once (f ∷ fs) → Once fs
once_rest f fs once n = let c = sum_by-cons (at_place n) f fs in let a = once n in omega (arith, a, c)

-- two such lists are the same where their members are
pub chain_same : (xs ys : List Fde) → Chain xs → Chain ys → Once xs → Once ys → ((f : Fde) → In f xs → In f ys) → ((f : Fde) → In f ys → In f xs) → xs ≡ ys
chain_same [] [] up up' once once' there back = refl
chain_same [] (y ∷ ys) up up' once once' there back = absurd (back y (inl refl))
chain_same (x ∷ xs) [] up up' once once' there back = absurd (there x (inl refl))
chain_same (x ∷ xs) (y ∷ ys) up up' once once' there back =
    ap (λ (z : Fde). z ∷ xs) first ∙ ap (λ (zs : List Fde). y ∷ zs) (chain_same xs ys up.1 up'.1 (once_rest x xs once) (once_rest y ys once') on_there on_back)
  where
    both : Earlier x y → Earlier y x → x.place ≡ y.place
    both (inl a) (inl b) = absurd (omega (arith, a, b))
    both (inl a) (inr b) = absurd (omega (arith, a, b.0))
    both (inr a) (inl b) = absurd (omega (arith, a.0, b))
    both (inr a) (inr b) = omega (arith, a.1, b.1)

    by : (x ≡ y) ⊎ In x ys → (y ≡ x) ⊎ In y xs → x ≡ y
    by (inl e) r = e
    by (inr l) (inl e) = sym e
    by (inr l) (inr r) = absurd (once_apart y x ys once' l (both (up.0 y r) (up'.0 x l)))

    first : x ≡ y
    first = by (there x (inl refl)) (back y (inl refl))

    on_there : (z : Fde) → In z xs → In z ys
    on_there z here = pick (there z (inr here))
      where
        pick : (z ≡ y) ⊎ In z ys → In z ys
        pick (inr l) = l
        pick (inl e) = absurd (once_apart x z xs once here (ap (λ (f : Fde). f.place) (e ∙ sym first)))

    on_back : (z : Fde) → In z ys → In z xs
    on_back z here = pick (back z (inr here))
      where
        pick : (z ≡ x) ⊎ In z xs → In z xs
        pick (inr l) = l
        pick (inl e) = absurd (once_apart y z ys once' here (ap (λ (f : Fde). f.place) (e ∙ first)))

-- ---- the order of the definition
abbrev pub in_order : List forms.Fde → List Fde
in_order fdes = map fde_listed (sorted fdes)

put_members : (f : forms.Fde) (fs : List forms.Fde) (g : Fde) → In g (map fde_listed (put_in f fs)) → In g (map fde_listed (f ∷ fs))
put_members f [] g here = here
put_members f (h ∷ fs) g here = by (put_members f fs g) (is_earlier f h) here
  where
    by : (In g (map fde_listed (put_in f fs)) → In g (map fde_listed (f ∷ fs))) → (b : Bool) → In g (map fde_listed (if b then f ∷ h ∷ fs else h ∷ put_in f fs)) → In g (map fde_listed (f ∷ h ∷ fs))
    by later true here = here
    by later false (inl e) = inr (inl e)
    by later false (inr there) = move (later there)
      where
        move : In g (map fde_listed (f ∷ fs)) → In g (map fde_listed (f ∷ h ∷ fs))
        move (inl e) = inl e
        move (inr there) = inr (inr there)

put_back : (f : forms.Fde) (fs : List forms.Fde) (g : Fde) → In g (map fde_listed (f ∷ fs)) → In g (map fde_listed (put_in f fs))
put_back f [] g here = here
put_back f (h ∷ fs) g here = by (put_back f fs g) (is_earlier f h) here
  where
    by : (In g (map fde_listed (f ∷ fs)) → In g (map fde_listed (put_in f fs))) → (b : Bool) → In g (map fde_listed (f ∷ h ∷ fs)) → In g (map fde_listed (if b then f ∷ h ∷ fs else h ∷ put_in f fs))
    by later true here = here
    by later false (inl e) = inr (later (inl e))
    by later false (inr (inl e)) = inl e
    by later false (inr (inr there)) = inr (later (inr there))

put_counts : (n : ℕ) (f : forms.Fde) (fs : List forms.Fde) → sum_by (at_place n) (map fde_listed (put_in f fs)) ≡ sum_by (at_place n) (map fde_listed (f ∷ fs))
put_counts n f [] = refl
put_counts n f (h ∷ fs) = by (put_counts n f fs) (is_earlier f h)
  where
    by : sum_by (at_place n) (map fde_listed (put_in f fs)) ≡ sum_by (at_place n) (map fde_listed (f ∷ fs)) → (b : Bool) →
        sum_by (at_place n) (map fde_listed (if b then f ∷ h ∷ fs else h ∷ put_in f fs)) ≡ sum_by (at_place n) (map fde_listed (f ∷ h ∷ fs))
    by later true = refl
    by later false =
        let a = sum_by-cons (at_place n) (fde_listed h) (map fde_listed (put_in f fs)) in
        let b = sum_by-cons (at_place n) (fde_listed f) (map fde_listed fs) in
        let c = sum_by-cons (at_place n) (fde_listed f) (map fde_listed (h ∷ fs)) in
        let d = sum_by-cons (at_place n) (fde_listed h) (map fde_listed fs) in omega (arith, later, a, b, c, d)

yes_earlier : (f g : forms.Fde) → is_earlier f g ≡ true → Earlier (fde_listed f) (fde_listed g)
yes_earlier f g e = by (nat_lt f.region.start g.region.start) refl e
  where
    by : (b : Bool) → nat_lt f.region.start g.region.start ≡ b → (b || (f.region.start == g.region.start && nat_le f.place g.place)) ≡ true → Earlier (fde_listed f) (fde_listed g)
    by true less any = inl (grind (arith, nat_tests, less))
    by false less any = inr (grind (arith, nat_tests, any), grind (arith, nat_tests, any))

no_earlier : (f g : forms.Fde) → is_earlier f g ≡ false → Earlier (fde_listed g) (fde_listed f)
no_earlier f g e = by (nat_lt g.region.start f.region.start) refl
  where
    by : (b : Bool) → nat_lt g.region.start f.region.start ≡ b → Earlier (fde_listed g) (fde_listed f)
    by true less = inl (grind (arith, nat_tests, less))
    by false less = inr (grind (arith, nat_tests, less, e), grind (arith, nat_tests, less, e))

put_chain : (f : forms.Fde) (fs : List forms.Fde) → Chain (map fde_listed fs) → Chain (map fde_listed (put_in f fs))
put_chain f [] chain = (λ g there. absurd there, tt)
put_chain f (h ∷ fs) chain = by (put_chain f fs chain.1) (is_earlier f h) refl
  where
    by : Chain (map fde_listed (put_in f fs)) → (b : Bool) → is_earlier f h ≡ b → Chain (map fde_listed (if b then f ∷ h ∷ fs else h ∷ put_in f fs))
    by later true e = (first, chain)
      where
        first : (g : Fde) → In g (map fde_listed (h ∷ fs)) → Earlier (fde_listed f) g
        first g (inl same) = subst (Earlier (fde_listed f)) (sym same) (yes_earlier f h e)
        first g (inr there) = earlier_on (fde_listed f) (fde_listed h) g (yes_earlier f h e) (chain.0 g there)
    by later false e = (λ g there. first g (put_members f fs g there), later)
      where
        first : (g : Fde) → In g (map fde_listed (f ∷ fs)) → Earlier (fde_listed h) g
        first g (inl same) = subst (Earlier (fde_listed h)) (sym same) (no_earlier f h e)
        first g (inr there) = chain.0 g there

pub order_chain : (fdes : List forms.Fde) → Chain (in_order fdes)
order_chain [] = tt
order_chain (f ∷ fs) = put_chain f (sorted fs) (order_chain fs)

pub order_members : (fdes : List forms.Fde) (g : Fde) → In g (in_order fdes) → In g (map fde_listed fdes)
order_members [] g here = here
order_members (f ∷ fs) g here = move (order_members fs g) (put_members f (sorted fs) g here)
  where
    move : (In g (in_order fs) → In g (map fde_listed fs)) → In g (map fde_listed (f ∷ sorted fs)) → In g (map fde_listed (f ∷ fs))
    move later (inl e) = inl e
    move later (inr there) = inr (later there)

pub order_back : (fdes : List forms.Fde) (g : Fde) → In g (map fde_listed fdes) → In g (in_order fdes)
order_back [] g here = here
order_back (f ∷ fs) g here = put_back f (sorted fs) g (move (order_back fs g) here)
  where
    move : (In g (map fde_listed fs) → In g (in_order fs)) → In g (map fde_listed (f ∷ fs)) → In g (map fde_listed (f ∷ sorted fs))
    move later (inl e) = inl e
    move later (inr there) = inr (later there)

pub order_counts : (n : ℕ) (fdes : List forms.Fde) → sum_by (at_place n) (in_order fdes) ≡ sum_by (at_place n) (map fde_listed fdes)
order_counts n [] = refl
order_counts n (f ∷ fs) =
    let a = put_counts n f (sorted fs) in let b = order_counts n fs in
    let c = sum_by-cons (at_place n) (fde_listed f) (in_order fs) in let d = sum_by-cons (at_place n) (fde_listed f) (map fde_listed fs) in omega (arith, a, b, c, d)

-- ---- the order of a sort by locations
-- a list in which each is earlier than the next
chain_goes : (f g : Fde) (fs : List Fde) → Earlier f g → Chain (g ∷ fs) → (h : Fde) → In h (g ∷ fs) → Earlier f h
chain_goes f g fs e chain h (inl same) = subst (Earlier f) (sym same) e
chain_goes f g fs e chain h (inr there) = earlier_on f g h e (chain.0 h there)

pub chain_from : (fs : List Fde) → ((k : ℕ) (d : Fde) → suc k < length fs → Earlier (slice_index_or fs k d) (slice_index_or fs (suc k) d)) → Chain fs
chain_from [] up = tt
chain_from (f ∷ []) up = (λ g there. absurd there, tt)
chain_from (f ∷ g ∷ fs) up =
    let rest = chain_from (g ∷ fs) (λ k d inside. up (suc k) d (omega (arith, inside))) in
    (chain_goes f g fs (up 0 f (omega arith)) rest, rest)

-- ---- places that rise
count_none : (k n : ℕ) (fs : List Fde) → k < n → PlacesRise n fs → sum_by (at_place k) fs ≡ 0
count_none k n [] below rise = refl
count_none k n (f ∷ fs) below rise =
    let e = sum_by-cons (at_place k) f fs in let g = count_none k (f.place + 1) fs (omega (arith, below, rise.0)) rise.1 in
    let no : at_place k f ≡ 0 = let t : (f.place == k) ≡ false = grind (arith, nat_tests, below, rise.0) in ap (λ b. if b then 1 else 0) t in
    omega (arith, e, g, no)

pub rise_once : (n : ℕ) (fs : List Fde) → PlacesRise n fs → Once fs
rise_once n [] rise k = omega arith
rise_once n (f ∷ fs) rise k = by (rise_once (f.place + 1) fs rise.1 k) (f.place == k) refl
  where
    by : sum_by (at_place k) fs ≤ 1 → (b : Bool) → (f.place == k) ≡ b → sum_by (at_place k) (f ∷ fs) ≤ 1
    by later true t =
        let e = sum_by-cons (at_place k) f fs in
        let g = count_none k (f.place + 1) fs (grind (arith, nat_tests, t)) rise.1 in
        let one : at_place k f ≡ 1 = ap (λ b. if b then 1 else 0) t in omega (arith, e, g, one)
    by later false t =
        let e = sum_by-cons (at_place k) f fs in
        let no : at_place k f ≡ 0 = ap (λ b. if b then 1 else 0) t in omega (arith, e, later, no)

rise_next : (n : ℕ) (fs : List Fde) → PlacesRise n fs → (k : ℕ) (d : Fde) → suc k < length fs → (slice_index_or fs k d).place < (slice_index_or fs (suc k) d).place
rise_next n [] rise k d inside = absurd (omega (arith, inside))
rise_next n (f ∷ []) rise k d inside = absurd (omega (arith, inside))
rise_next n (f ∷ g ∷ fs) rise zero d inside = let a = rise.1.0 in omega (arith, a)
rise_next n (f ∷ g ∷ fs) rise (suc k) d inside = rise_next (f.place + 1) (g ∷ fs) rise.1 k d (omega (arith, inside))

-- as the sort's lemma asks
pub rise_sorted : (n : ℕ) (fs : List Fde) → PlacesRise n fs → IsSortedByKey (λ (f : Fde). f.place) nat_cmp fs
rise_sorted n fs rise k d low inside =
    let next : k + 1 ≡ suc k = omega arith in
    let up = rise_next n fs rise k d (omega (arith, inside)) in
    rw next (by (slice_index_or fs k d).place (slice_index_or fs (suc k) d).place up)
  where
    by : (a b : ℕ) → a < b → is_lt (nat_cmp b a) ≡ false
    by a b less =
        let x : nat_lt b a ≡ false = grind (arith, nat_tests, less) in
        let y : (b == a) ≡ false = grind (arith, nat_tests, less) in rw (x, y) refl

-- the order of a stable sort by location of a list whose places rise
pub sort_chain : (n : ℕ) (fs order : List Fde) → PlacesRise n fs → IsNonDecreasingBy (λ (f : Fde). f.region.start) order → IsStableByKey (λ (f : Fde). f.region.start) nat_cmp fs order → Chain order
sort_chain n fs order rise up stable = chain_from order step
  where
    step : (k : ℕ) (d : Fde) → suc k < length order → Earlier (slice_index_or order k d) (slice_index_or order (suc k) d)
    step k d inside = by (nat_lt (slice_index_or order k d).region.start (slice_index_or order (suc k) d).region.start) refl
      where
        at_most : (slice_index_or order k d).region.start ≤ (slice_index_or order (suc k) d).region.start
        at_most = up k (suc k) d (omega arith) inside

        by : (b : Bool) → nat_lt (slice_index_or order k d).region.start (slice_index_or order (suc k) d).region.start ≡ b → Earlier (slice_index_or order k d) (slice_index_or order (suc k) d)
        by true less = inl (grind (arith, nat_tests, less))
        by false less =
            let same : (slice_index_or order k d).region.start ≡ (slice_index_or order (suc k) d).region.start = grind (arith, nat_tests, less, at_most) in
            let next : k + 1 ≡ suc k = omega arith in
            let tie = ties_still_rise (λ (f : Fde). f.place) (λ (f : Fde). f.region.start) fs order (rise_sorted n fs rise) stable k d (omega (arith, inside)) in
            inr (same, (rw next at tie) same)

-- the order of the definition is that of such a sort
pub same_order : (n : ℕ) (fdes : List forms.Fde) (order : List Fde) → PlacesRise n (map fde_listed fdes) → IsPermutation (map fde_listed fdes) order →
    IsNonDecreasingBy (λ (f : Fde). f.region.start) order → IsStableByKey (λ (f : Fde). f.region.start) nat_cmp (map fde_listed fdes) order → in_order fdes ≡ order
same_order n fdes order rise moved up stable =
    chain_same (in_order fdes) order (order_chain fdes) (sort_chain n (map fde_listed fdes) order rise up stable)
    (λ k. let a = rise_once n (map fde_listed fdes) rise k in let b = order_counts k fdes in omega (arith, a, b))
    (λ k. let a = rise_once n (map fde_listed fdes) rise k in let b = sum_by-IsPermutation (at_place k) (map fde_listed fdes) order moved in omega (arith, a, b))
    (λ f here. in_permutation order (map fde_listed fdes) (IsPermutation-sym (map fde_listed fdes) order moved) f (order_members fdes f here))
    (λ f here. order_back fdes f (in_permutation (map fde_listed fdes) order moved f here))

pub order_is : (n : ℕ) (fs : List forms.Fde) (fdes order : List Fde) → fdes ≡ map fde_listed fs → PlacesRise n (map fde_listed fs) → IsPermutation fdes order →
    IsNonDecreasingBy (λ (f : Fde). f.region.start) order → IsStableByKey (λ (f : Fde). f.region.start) nat_cmp fdes order → order ≡ map fde_listed (sorted fs)
order_is n fs fdes order listed rise moved up stable =
    sym (same_order n fs order rise (subst (λ (xs : List Fde). IsPermutation xs order) listed moved) up
    (subst (λ (xs : List Fde). IsStableByKey (λ (f : Fde). f.region.start) nat_cmp xs order) listed stable))
