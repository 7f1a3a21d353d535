-- The first overlap of the definition is the one that a sweep finds.
use Rattle.std.proofs.Common.{◌≡◌, ◌⊎◌, inl, inr, ◌+◌, ◌≤◌, ◌<◌, ◌==◌, ◌||◌, ℕ, Bool, true, false, List, [], ◌∷◌, ◌++◌, Option, Some, None, option_map, refl, ap, sym, subst, ◌∙◌, arith, if◌then◌else◌, IsPermutation, sum_by, map, length, slice_index_or, suc}
use Rattle.std.specs.List.{list_any}
use Rattle.std.proofs.lemmas.Bool.Decides.{nat_tests}
use Rattle.std.proofs.lemmas.List.Sums.{sum_by-cons}
use Rattle.std.proofs.lemmas.List.Sorted.{sum_by-IsPermutation, IsPermutation-sym}
use Rattle.eh_bytes.specs.declared.frames.Region64.{Region64}
use Rattle.eh_bytes.specs.Memory.{Part}
use Rattle.table_forms.specs.Fault.{Fault, is_before, lesser, least}
use Rattle.table_forms.specs.Fde.{overlap}
use Rattle.table_forms.specs.Parts.{overlaps}
use Rattle.frame_read.specs.Rises.{RisesBy}
use Rattle.frame_read.specs.Sweep.{first_overlap, meets_at}
use Rattle.frame_read.specs.SeenParts.{placed_seen}
use Rattle.frame_read.specs.declared.gather.Placed as found
use Rattle.std.specs.List.Sorted.{IsNonDecreasingBy}
use Rattle.frame_read.proofs.Members.{In, in_permutation}
use Rattle.frame_read.proofs.Sweeps.{Placed, AtMost, From, Apart, at_place, Meets, Holds, Knows, finds_all, only_all}

-- places rise, and the first is above n or at it
abbrev pub Rising : ℕ → List Placed → Type 0
Rising n xs = RisesBy (λ (x : Placed). x.0) n xs

rises : (n : ℕ) (xs : List Placed) (x : Placed) → Rising n xs → In x xs → n ≤ x.0
rises n [] x rising here = absurd here
rises n (y ∷ ys) x rising (inl e) = let a = ap (λ (w : Placed). w.0) e in omega (arith, a, rising.0)
rises n (y ∷ ys) x rising (inr there) = let b = rises (y.0 + 1) ys x rising.1 there in omega (arith, b, rising.0)

count_none : (k n : ℕ) (xs : List Placed) → k < n → Rising n xs → sum_by (at_place k) xs ≡ 0
count_none k n [] below rising = refl
count_none k n (x ∷ xs) below rising =
    let e = sum_by-cons (at_place k) x xs in let f = count_none k (x.0 + 1) xs (omega (arith, below, rising.0)) rising.1 in
    let no : at_place k x ≡ 0 = let t : (x.0 == k) ≡ false = grind (arith, nat_tests, below, rising.0) in ap (λ b. if b then 1 else 0) t in
    omega (arith, e, f, no)

rising_apart : (n : ℕ) (xs : List Placed) → Rising n xs → Apart xs
rising_apart n [] rising k = omega arith
rising_apart n (x ∷ xs) rising k = by (rising_apart (x.0 + 1) xs rising.1 k) (x.0 == k) refl
  where
    by : sum_by (at_place k) xs ≤ 1 → (b : Bool) → (x.0 == k) ≡ b → sum_by (at_place k) (x ∷ xs) ≤ 1
    by ih true t =
        let e = sum_by-cons (at_place k) x xs in
        let f = count_none k (x.0 + 1) xs (grind (arith, nat_tests, t)) rising.1 in
        let one : at_place k x ≡ 1 = ap (λ b. if b then 1 else 0) t in omega (arith, e, f, one)
    by ih false t =
        let e = sum_by-cons (at_place k) x xs in let no : at_place k x ≡ 0 = ap (λ b. if b then 1 else 0) t in omega (arith, e, ih, no)

-- it is a refusal of an overlap at or below n
pub record Hits (part : Part) (o : Option Fault) (n : ℕ) : Type 0 where
  pub place : ℕ
  pub is : o ≡ Some (meets_at part place)
  pub below : place ≤ n

-- it is nothing, or such a refusal
abbrev pub Shaped : Part → Option Fault → Type 0
Shaped part o = (o ≡ None) ⊎ ((a : ℕ) × (o ≡ Some (meets_at part a)))

hits_front : (part : Part) (n : ℕ) (o : Option Fault) → Shaped part o → Hits part (lesser (meets_at part n) o) n
unfolding is_before
hits_front part n o (inl e) = record { place = n; is = ap (lesser (meets_at part n)) e; below = omega arith }
hits_front part n o (inr (a, e)) = by (is_before (meets_at part n) (meets_at part a)) refl
  where
    by : (b : Bool) → is_before (meets_at part n) (meets_at part a) ≡ b → Hits part (lesser (meets_at part n) o) n
    by true t = record { place = n; is = ap (lesser (meets_at part n)) e ∙ ap (λ b. if b then Some (meets_at part n) else Some (meets_at part a)) t; below = omega arith }
    by false t = record { place = a; is = ap (lesser (meets_at part n)) e ∙ ap (λ b. if b then Some (meets_at part n) else Some (meets_at part a)) t; below = grind (arith, nat_tests, t) }

hits_behind : (part : Part) (m n : ℕ) (o : Option Fault) → Hits part o n → Hits part (lesser (meets_at part m) o) n
unfolding is_before
hits_behind part m n o h = by (is_before (meets_at part m) (meets_at part h.place)) refl
  where
    by : (b : Bool) → is_before (meets_at part m) (meets_at part h.place) ≡ b → Hits part (lesser (meets_at part m) o) n
    by true t = record { place = m; is = ap (lesser (meets_at part m)) h.is ∙ ap (λ b. if b then Some (meets_at part m) else Some (meets_at part h.place)) t; below = grind (arith, nat_tests, t, h.below) }
    by false t = record { place = h.place; is = ap (lesser (meets_at part m)) h.is ∙ ap (λ b. if b then Some (meets_at part m) else Some (meets_at part h.place)) t; below = h.below }

abbrev pub met : Part → List Region64 → List Placed → Option Fault
met part earlier regions = least (overlaps part earlier regions)

abbrev pub met_cons : Part → Placed → Bool → Option Fault → Option Fault
met_cons part x meets later = if meets then lesser (meets_at part x.0) later else later

met_first : (part : Part) (earlier : List Region64) (x : Placed) (regions : List Placed) →
    met part earlier (x ∷ regions) ≡ met_cons part x (list_any (overlap x.1) earlier) (met part (x.1 ∷ earlier) regions)
unfolding least
met_first part earlier x regions = by (list_any (overlap x.1) earlier)
  where
    by : (b : Bool) → least ((if b then meets_at part x.0 ∷ [] else []) ++ overlaps part (x.1 ∷ earlier) regions) ≡ met_cons part x b (met part (x.1 ∷ earlier) regions)
    by true = refl
    by false = refl

shaped : (part : Part) (earlier : List Region64) (regions : List Placed) → Shaped part (met part earlier regions)
unfolding least
shaped part earlier [] = inl refl
shaped part earlier (x ∷ regions) =
    subst (Shaped part) (sym (met_first part earlier x regions)) (by (shaped part (x.1 ∷ earlier) regions) (list_any (overlap x.1) earlier))
  where
    by : Shaped part (met part (x.1 ∷ earlier) regions) → (b : Bool) → Shaped part (met_cons part x b (met part (x.1 ∷ earlier) regions))
    by ih true = let h = hits_front part x.0 (met part (x.1 ∷ earlier) regions) ih in inr (h.place, h.is)
    by ih false = ih

-- z overlaps one that stands before it
abbrev pub Witness : List Region64 → List Placed → Placed → Type 0
Witness earlier regions z = ((y : Placed) × In y regions × Meets y z) ⊎ (list_any (overlap z.1) earlier ≡ true)

or_second : (a b : Bool) → b ≡ true → (a || b) ≡ true
or_second true b e = refl
or_second false b e = e

or_first : (a b : Bool) → a ≡ true → (a || b) ≡ true
or_first true b e = refl
or_first false b e = absurd cc

hits : (part : Part) (earlier : List Region64) (n : ℕ) (regions : List Placed) (z : Placed) → Rising n regions → In z regions → Witness earlier regions z →
    Hits part (met part earlier regions) z.0
hits part earlier n [] z rising there w = absurd there
hits part earlier n (x ∷ regions) z rising (inl e) w =
    subst (λ o. Hits part o z.0) (sym (met_first part earlier x regions)) (first w)
  where
    same : z.0 ≡ x.0
    same = ap (λ (v : Placed). v.0) e

    front : list_any (overlap x.1) earlier ≡ true → Hits part (met_cons part x (list_any (overlap x.1) earlier) (met part (x.1 ∷ earlier) regions)) z.0
    front t =
        let h = hits_front part x.0 (met part (x.1 ∷ earlier) regions) (shaped part (x.1 ∷ earlier) regions) in
        let h' : Hits part (lesser (meets_at part x.0) (met part (x.1 ∷ earlier) regions)) z.0 = record { place = h.place; is = h.is; below = omega (arith, h.below, same) } in
        subst (λ b. Hits part (met_cons part x b (met part (x.1 ∷ earlier) regions)) z.0) (sym t) h'

    first : Witness earlier (x ∷ regions) z → Hits part (met_cons part x (list_any (overlap x.1) earlier) (met part (x.1 ∷ earlier) regions)) z.0
    first (inr any) = front (subst (λ (v : Placed). list_any (overlap v.1) earlier ≡ true) e any)
    first (inl (y, inl ey, meets)) = let a = ap (λ (v : Placed). v.0) ey in absurd (omega (arith, a, same, meets.0))
    first (inl (y, inr there, meets)) = let b = rises (x.0 + 1) regions y rising.1 there in absurd (omega (arith, b, same, meets.0))
hits part earlier n (x ∷ regions) z rising (inr there) w =
    subst (λ o. Hits part o z.0) (sym (met_first part earlier x regions)) (behind (list_any (overlap x.1) earlier) (hits part (x.1 ∷ earlier) (x.0 + 1) regions z rising.1 there (later w)))
  where
    later : Witness earlier (x ∷ regions) z → Witness (x.1 ∷ earlier) regions z
    later (inr any) = inr (or_second (overlap z.1 x.1) (list_any (overlap z.1) earlier) any)
    later (inl (y, inl ey, meets)) = inr (or_first (overlap z.1 x.1) (list_any (overlap z.1) earlier) (subst (λ (v : Placed). overlap z.1 v.1 ≡ true) ey meets.1))
    later (inl (y, inr y', meets)) = inl (y, y', meets)

    behind : (b : Bool) → Hits part (met part (x.1 ∷ earlier) regions) z.0 → Hits part (met_cons part x b (met part (x.1 ∷ earlier) regions)) z.0
    behind true h = hits_behind part x.0 z.0 (met part (x.1 ∷ earlier) regions) h
    behind false h = h

-- what holds of each later place that overlaps an earlier one holds of the place that is refused
abbrev pub Refuses : (ℕ → Type 0) → Part → Option Fault → Type 0
Refuses T part o = (f : Fault) → o ≡ Some f → (a : ℕ) × (f ≡ meets_at part a) × T a

refuses_lesser : (T : ℕ → Type 0) (part : Part) (n : ℕ) (o : Option Fault) → T n → Refuses T part o → Refuses T part (lesser (meets_at part n) o)
refuses_lesser T part n None here later f e = (n, sym (some_fault (meets_at part n) f e), here)
  where
    some_fault : (x y : Fault) → (λ (w : Option Fault). w) (Some x) ≡ Some y → x ≡ y
    some_fault x y e = cc
refuses_lesser T part n (Some g) here later f e = by (is_before (meets_at part n) g) e
  where
    some_fault : (x y : Fault) → (λ (w : Option Fault). w) (Some x) ≡ Some y → x ≡ y
    some_fault x y e = cc

    by : (b : Bool) → (if b then Some (meets_at part n) else Some g) ≡ Some f → (a : ℕ) × (f ≡ meets_at part a) × T a
    by true e = (n, sym (some_fault (meets_at part n) f e), here)
    by false e = later f e

refuses : (T : ℕ → Type 0) (part : Part) (earlier : List Region64) (n : ℕ) (regions : List Placed) → Rising n regions → Holds T regions →
    ((z : Placed) → In z regions → list_any (overlap z.1) earlier ≡ true → T z.0) → Refuses T part (met part earlier regions)
unfolding least
refuses T part earlier n [] rising holds any = λ f e. absurd cc
refuses T part earlier n (x ∷ regions) rising holds any =
    subst (Refuses T part) (sym (met_first part earlier x regions)) (by (refuses T part (x.1 ∷ earlier) (x.0 + 1) regions rising.1 (λ y z in_y in_z meets. holds y z (inr in_y) (inr in_z) meets) later_any) (list_any (overlap x.1) earlier) refl)
  where
    later_any : (z : Placed) → In z regions → list_any (overlap z.1) (x.1 ∷ earlier) ≡ true → T z.0
    later_any z there e = by_first (overlap z.1 x.1) refl e
      where
        by_first : (b : Bool) → overlap z.1 x.1 ≡ b → (b || list_any (overlap z.1) earlier) ≡ true → T z.0
        by_first true o e = holds x z (inl refl) (inr there) (let b = rises (x.0 + 1) regions z rising.1 there in omega (arith, b), o)
        by_first false o e = any z (inr there) e

    by : Refuses T part (met part (x.1 ∷ earlier) regions) → (b : Bool) → list_any (overlap x.1) earlier ≡ b → Refuses T part (met_cons part x b (met part (x.1 ∷ earlier) regions))
    by ih true e = refuses_lesser T part x.0 (met part (x.1 ∷ earlier) regions) (any x (inl refl) e) ih
    by ih false e = ih

-- the first overlap, as a refusal
pub overlaps_swept : (part : Part) (n : ℕ) (regions sorted : List Placed) → Rising n regions → IsPermutation regions sorted → From 0 sorted →
    least (overlaps part [] regions) ≡ option_map (meets_at part) (first_overlap sorted)
overlaps_swept part n regions sorted rising moved from =
    by (first_overlap sorted) refl (met part [] regions) refl
  where
    apart : Apart sorted
    apart k = let e = sum_by-IsPermutation (at_place k) regions sorted moved in let a = rising_apart n regions rising k in omega (arith, e, a)

    back : IsPermutation sorted regions
    back = IsPermutation-sym regions sorted moved

    T : ℕ → Type 0
    T k = Hits part (met part [] regions) k

    S : ℕ → Type 0
    S k = AtMost (first_overlap sorted) k

    swept_hits : Knows T (first_overlap sorted)
    swept_hits = only_all T 0 sorted from apart
        (λ y z in_y in_z meets. hits part [] n regions z rising (in_permutation regions sorted moved z in_z) (inl (y, in_permutation regions sorted moved y in_y, meets)))

    refused_swept : Refuses S part (met part [] regions)
    refused_swept = refuses S part [] n regions rising
        (λ y z in_y in_z meets. finds_all 0 sorted from y z (in_permutation sorted regions back y in_y) (in_permutation sorted regions back z in_z) meets)
        (λ z there e. absurd cc)

    by : (s : Option ℕ) → first_overlap sorted ≡ s → (o : Option Fault) → met part [] regions ≡ o → met part [] regions ≡ option_map (meets_at part) (first_overlap sorted)
    by None e None f = f ∙ ap (option_map (meets_at part)) (sym e)
    by None e (Some g) f = let r = refused_swept g f in let no : None ≡ Some r.2.place = sym e ∙ r.2.is in absurd cc
    by (Some a) e o f =
        let h = swept_hits a e in let r = refused_swept (meets_at part h.place) h.is in
        let up : a ≡ r.2.place = some_same a r.2.place (sym e ∙ r.2.is) in
        let same : part.file_at + h.place ≡ part.file_at + r.0 = ap (λ (w : Fault). w.place) r.1 in
        let at_a : h.place ≡ a = omega (arith, h.below, up, same, r.2.below) in
        h.is ∙ ap (λ k. Some (meets_at part k)) at_a ∙ ap (option_map (meets_at part)) (sym e)
      where
        some_same : (x y : ℕ) → (λ (w : Option ℕ). w) (Some x) ≡ Some y → x ≡ y
        some_same x y e = cc

-- sorted by their starts
pub sorted_from : (items : List found.Placed) → IsNonDecreasingBy (λ (p : found.Placed). p.region.start) items → (n : ℕ) →
    ((d : found.Placed) → 0 < length items → n ≤ (slice_index_or items 0 d).region.start) → From n (map placed_seen items)
sorted_from [] up n low = refl
sorted_from (p ∷ items) up n low = (
  low p (omega arith),
  sorted_from items (λ i j d order inside. up (suc i) (suc j) d (omega (arith, order)) (omega (arith, inside))) p.region.start
      (λ d some. up 0 1 d (omega arith) (omega (arith, some))),
)
