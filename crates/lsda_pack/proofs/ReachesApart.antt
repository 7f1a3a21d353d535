-- What a sweep finds apart is apart, in whatever order it stands.
use Rattle.std.proofs.Common.{◌≡◌, ◌≤◌, ◌+◌, ◌*◌, ℕ, Bool, true, false, nat_lt, nat_le, List, [], ◌∷◌, ◌++◌, map, refl, ap, sym, subst, ◌∙◌, arith, if◌then◌else◌, IsPermutation, sum_by}
use Rattle.std.specs.Prelude.{max, min, ◌&&◌, ◌||◌, flat_map}
use Rattle.std.specs.List.{AllByRecursion}
use Rattle.std.proofs.lemmas.Bool.Decides.{nat_tests}
use Rattle.std.proofs.lemmas.List.Sums.{sum_by-cons}
use Rattle.std.proofs.lemmas.List.Sorted.{sum_by-IsPermutation}
use Rattle.table_forms.specs.declared.reason.Reason.TheVariants.{TableShared}
use Rattle.table_forms.specs.Fault.{Fault, fault}
use Rattle.lsda_pack.specs.declared.reach.Reach.{Reach}
use Rattle.lsda_pack.specs.Placed.{Placed}
use Rattle.lsda_pack.specs.declared.reach.Taken.{Taken}
use Rattle.lsda_pack.specs.declared.reach.TableTaken.{TableTaken}
use Rattle.elf_image.specs.Clean.{CleanImage}
use Rattle.lsda_pack.specs.SharedTables.{Extent, InFile, with_table, with_extent, with_file, among_tables, others_in, file_parts, shared_faults}
use Rattle.lsda_pack.specs.Reaches.{meet, AreApart, swept_apart, with_taken, among_taken, beside_taken, shared_taken, table_reach, taken_reach, reaches_of, table_taken, extent_taken, part_taken}

-- one that ends before the other begins, or is empty, does not meet it
ends_before : (x y : Reach) → x.end ≤ y.first → meet x y ≡ false
ends_before x y e = by (x.table || y.table) (let no : nat_lt (max x.first y.first) (min x.end y.end) ≡ false = grind (arith, nat_tests, e) in no)
  where
    by : (b : Bool) → nat_lt (max x.first y.first) (min x.end y.end) ≡ false → (b && nat_lt (max x.first y.first) (min x.end y.end)) ≡ false
    by true e = e
    by false e = refl

empty_first : (x y : Reach) → x.end ≤ x.first → meet x y ≡ false
empty_first x y e = by (x.table || y.table) (let no : nat_lt (max x.first y.first) (min x.end y.end) ≡ false = grind (arith, nat_tests, e) in no)
  where
    by : (b : Bool) → nat_lt (max x.first y.first) (min x.end y.end) ≡ false → (b && nat_lt (max x.first y.first) (min x.end y.end)) ≡ false
    by true e = e
    by false e = refl

empty_second : (x y : Reach) → y.end ≤ y.first → meet x y ≡ false
empty_second x y e = by (x.table || y.table) (let no : nat_lt (max x.first y.first) (min x.end y.end) ≡ false = grind (arith, nat_tests, e) in no)
  where
    by : (b : Bool) → nat_lt (max x.first y.first) (min x.end y.end) ≡ false → (b && nat_lt (max x.first y.first) (min x.end y.end)) ≡ false
    by true e = e
    by false e = refl

empty_all : (x : Reach) (ys : List Reach) → x.end ≤ x.first → AllByRecursion (λ y. meet x y ≡ false) ys
empty_all x [] e = tt
empty_all x (y ∷ ys) e = (empty_first x y e, empty_all x ys e)

-- the end of one that is before the sweep
abbrev Passed : Bool → ℕ → ℕ → ℕ → Type 0
Passed table end tables others = end ≤ (if table then tables else others)

both_true : (a b : Bool) → (a && b) ≡ true → (a ≡ true) × (b ≡ true)
both_true true b e = (refl, e)
both_true false b e = absurd cc

le_true : (a b : ℕ) → nat_le a b ≡ true → a ≤ b
le_true a b e = grind (arith, nat_tests, e)

more_tables : (b : Bool) (end tables others e : ℕ) → Passed b end tables others → Passed b end (max tables e) others
more_tables true end tables others e p = omega (arith, p)
more_tables false end tables others e p = p

more_others : (b : Bool) (end tables others e : ℕ) → Passed b end tables others → Passed b end tables (max others e)
more_others true end tables others e p = p
more_others false end tables others e p = omega (arith, p)

below_both : (b : Bool) (end tables others n : ℕ) → Passed b end tables others → tables ≤ n → others ≤ n → end ≤ n
below_both true end tables others n p t o = omega (arith, p, t)
below_both false end tables others n p t o = omega (arith, p, o)

-- of two that are no tables neither is refused
with_other : (x y : Reach) (tables others : ℕ) → y.table ≡ false → Passed x.table x.end tables others → tables ≤ y.first → meet x y ≡ false
with_other x y tables others is passed t = by x.table refl passed
  where
    by : (b : Bool) → x.table ≡ b → Passed b x.end tables others → meet x y ≡ false
    by true e p = ends_before x y (omega (arith, p, t))
    by false e p = ap (λ b. (b || y.table) && nat_lt (max x.first y.first) (min x.end y.end)) e ∙ ap (λ b. b && nat_lt (max x.first y.first) (min x.end y.end)) is

later : (x : Reach) (ys : List Reach) (tables others : ℕ) → Passed x.table x.end tables others → swept_apart tables others ys ≡ true → AllByRecursion (λ y. meet x y ≡ false) ys
later x [] tables others passed swept = tt
later x (y ∷ ys) tables others passed swept =
    by (nat_le y.end y.first) refl (λ t o p s. later x ys t o p s) swept
  where
    Goal : Type 0
    Goal = (meet x y ≡ false) × AllByRecursion (λ z. meet x z ≡ false) ys

    Rest : Type 0
    Rest = (t o : ℕ) → Passed x.table x.end t o → swept_apart t o ys ≡ true → AllByRecursion (λ z. meet x z ≡ false) ys

    by_kind : (b : Bool) → y.table ≡ b → Rest →
        (if b then nat_le tables y.first && nat_le others y.first && swept_apart (max tables y.end) others ys else nat_le tables y.first && swept_apart tables (max others y.end) ys) ≡ true → Goal
    by_kind true is rest s =
        let outer = both_true (nat_le tables y.first && nat_le others y.first) (swept_apart (max tables y.end) others ys) s in
        let inner = both_true (nat_le tables y.first) (nat_le others y.first) outer.0 in
        let behind = below_both x.table x.end tables others y.first passed (le_true tables y.first inner.0) (le_true others y.first inner.1) in
        (ends_before x y behind, rest (max tables y.end) others (more_tables x.table x.end tables others y.end passed) outer.1)
    by_kind false is rest s =
        let outer = both_true (nat_le tables y.first) (swept_apart tables (max others y.end) ys) s in
        (with_other x y tables others is passed (le_true tables y.first outer.0), rest tables (max others y.end) (more_others x.table x.end tables others y.end passed) outer.1)

    by : (b : Bool) → nat_le y.end y.first ≡ b → Rest →
        (if b then swept_apart tables others ys
        else if y.table then nat_le tables y.first && nat_le others y.first && swept_apart (max tables y.end) others ys
        else nat_le tables y.first && swept_apart tables (max others y.end) ys) ≡ true → Goal
    by true e rest s = (empty_second x y (le_true y.end y.first e), rest tables others passed s)
    by false e rest s = by_kind y.table refl rest s

pub swept : (xs : List Reach) (tables others : ℕ) → swept_apart tables others xs ≡ true → AreApart xs
swept [] tables others s = tt
swept (x ∷ xs) tables others s = by (nat_le x.end x.first) refl (λ t o q. swept xs t o q) s
  where
    Rest : Type 0
    Rest = (t o : ℕ) → swept_apart t o xs ≡ true → AreApart xs

    by_kind : (b : Bool) → x.table ≡ b → Rest →
        (if b then nat_le tables x.first && nat_le others x.first && swept_apart (max tables x.end) others xs else nat_le tables x.first && swept_apart tables (max others x.end) xs) ≡ true →
        AreApart (x ∷ xs)
    by_kind true is rest q =
        let outer = both_true (nat_le tables x.first && nat_le others x.first) (swept_apart (max tables x.end) others xs) q in
        let passed : Passed x.table x.end (max tables x.end) others = subst (λ b. Passed b x.end (max tables x.end) others) (sym is) (let le : x.end ≤ max tables x.end = omega arith in le) in
        (later x xs (max tables x.end) others passed outer.1, rest (max tables x.end) others outer.1)
    by_kind false is rest q =
        let outer = both_true (nat_le tables x.first) (swept_apart tables (max others x.end) xs) q in
        let passed : Passed x.table x.end tables (max others x.end) = subst (λ b. Passed b x.end tables (max others x.end)) (sym is) (let le : x.end ≤ max others x.end = omega arith in le) in
        (later x xs tables (max others x.end) passed outer.1, rest tables (max others x.end) outer.1)

    by : (b : Bool) → nat_le x.end x.first ≡ b → Rest →
        (if b then swept_apart tables others xs
        else if x.table then nat_le tables x.first && nat_le others x.first && swept_apart (max tables x.end) others xs
        else nat_le tables x.first && swept_apart tables (max others x.end) xs) ≡ true → AreApart (x ∷ xs)
    by true e rest q = (empty_all x xs (le_true x.end x.first e), rest tables others q)
    by false e rest q = by_kind x.table refl rest q

abbrev as_count : Bool → ℕ
as_count b = if b then 1 else 0

-- how often one meets another
meets : Reach → Reach → ℕ
meets x y = as_count (meet x y)

turned : (x y : Reach) → meet x y ≡ meet y x
turned x y = by x.table y.table (let same : nat_lt (max x.first y.first) (min x.end y.end) ≡ nat_lt (max y.first x.first) (min y.end x.end) = grind (arith, nat_tests) in same)
  where
    by : (a b : Bool) → nat_lt (max x.first y.first) (min x.end y.end) ≡ nat_lt (max y.first x.first) (min y.end x.end) →
        ((a || b) && nat_lt (max x.first y.first) (min x.end y.end)) ≡ ((b || a) && nat_lt (max y.first x.first) (min y.end x.end))
    by true true e = e
    by true false e = e
    by false true e = e
    by false false e = refl

-- sums
sum_same : (f g : Reach → ℕ) → ((x : Reach) → f x ≡ g x) → (xs : List Reach) → sum_by f xs ≡ sum_by g xs
sum_same f g same [] = refl
sum_same f g same (x ∷ xs) = sum_by-cons f x xs ∙ ap (λ n. n + sum_by f xs) (same x) ∙ ap (λ n. g x + n) (sum_same f g same xs) ∙ sym (sum_by-cons g x xs)

sum_both : (f g : Reach → ℕ) (xs : List Reach) → sum_by (λ x. f x + g x) xs ≡ sum_by f xs + sum_by g xs
sum_both f g [] = refl
sum_both f g (x ∷ xs) =
    let all = sum_by-cons (λ x. f x + g x) x xs in
    let one = sum_by-cons f x xs in
    let two = sum_by-cons g x xs in
    let rest = sum_both f g xs in
    omega (arith, all, one, two, rest)

-- all meetings, those of each with itself, and those with one behind it
crossed : List Reach → List Reach → ℕ
crossed xs ys = sum_by (λ x. sum_by (meets x) ys) xs

alone : List Reach → ℕ
alone xs = sum_by (λ x. meets x x) xs

abbrev paired : List Reach → ℕ
paired [] = 0
paired (x ∷ xs) = sum_by (meets x) xs + paired xs

meets_turned : (x y : Reach) → meets x y ≡ meets y x
unfolding meets
meets_turned x y = ap (λ b. if b then 1 else 0) (turned x y)

counted : (xs : List Reach) → crossed xs xs ≡ alone xs + 2 * paired xs
unfolding crossed alone
counted [] = refl
counted (x ∷ xs) =
    let outer = sum_by-cons (λ z. sum_by (meets z) (x ∷ xs)) x xs in
    let first = sum_by-cons (meets x) x xs in
    let split : sum_by (λ z. sum_by (meets z) (x ∷ xs)) xs ≡ sum_by (λ z. meets z x) xs + sum_by (λ z. sum_by (meets z) xs) xs =
    sum_same (λ z. sum_by (meets z) (x ∷ xs)) (λ z. meets z x + sum_by (meets z) xs) (λ z. sum_by-cons (meets z) x xs) xs ∙ sum_both (λ z. meets z x) (λ z. sum_by (meets z) xs) xs in
    let back : sum_by (λ z. meets z x) xs ≡ sum_by (meets x) xs = sum_same (λ z. meets z x) (meets x) (λ z. meets_turned z x) xs in
    let own = sum_by-cons (λ z. meets z z) x xs in
    let rest = counted xs in
    omega (arith, outer, first, split, back, own, rest)

crossed_moved : (xs ys : List Reach) → IsPermutation xs ys → crossed ys ys ≡ crossed xs xs
unfolding crossed
crossed_moved xs ys moved =
    sum_by-IsPermutation (λ x. sum_by (meets x) ys) xs ys moved ∙
    sum_same (λ x. sum_by (meets x) ys) (λ x. sum_by (meets x) xs) (λ x. sum_by-IsPermutation (meets x) xs ys moved) xs

none_met : (x : Reach) (ys : List Reach) → AllByRecursion (λ y. meet x y ≡ false) ys → sum_by (meets x) ys ≡ 0
unfolding meets
none_met x [] all = refl
none_met x (y ∷ ys) all =
    let here : meets x y ≡ 0 = ap (λ b. if b then 1 else 0) all.0 in
    let cons = sum_by-cons (meets x) y ys in
    let rest = none_met x ys all.1 in
    omega (arith, here, cons, rest)

none_paired : (xs : List Reach) → AreApart xs → paired xs ≡ 0
none_paired [] apart = refl
none_paired (x ∷ xs) apart = let here = none_met x xs apart.0 in let rest = none_paired xs apart.1 in omega (arith, here, rest)

met_none : (x : Reach) (ys : List Reach) → sum_by (meets x) ys ≡ 0 → AllByRecursion (λ y. meet x y ≡ false) ys
unfolding meets
met_none x [] none = tt
met_none x (y ∷ ys) none =
    let cons = sum_by-cons (meets x) y ys in
    let here : meets x y ≡ 0 = omega (arith, cons, none) in
    let rest : sum_by (meets x) ys ≡ 0 = omega (arith, cons, none) in
    (by (meet x y) here, met_none x ys rest)
  where
    by : (b : Bool) → as_count b ≡ 0 → b ≡ false
    by true e = absurd cc
    by false e = refl

paired_none : (xs : List Reach) → paired xs ≡ 0 → AreApart xs
paired_none [] none = tt
paired_none (x ∷ xs) none = (met_none x xs (let here : sum_by (meets x) xs ≡ 0 = omega (arith, none) in here), paired_none xs (let rest : paired xs ≡ 0 = omega (arith, none) in rest))

moved_alone : (xs ys : List Reach) → IsPermutation xs ys → alone ys ≡ alone xs
unfolding alone
moved_alone xs ys moved = sum_by-IsPermutation (λ x. meets x x) xs ys moved

-- the order does not count
pub apart_before : (xs ys : List Reach) → IsPermutation xs ys → swept_apart 0 0 ys ≡ true → AreApart xs
apart_before xs ys moved sweep =
    let none = none_paired ys (swept ys 0 0 sweep) in
    let own : alone ys ≡ alone xs = moved_alone xs ys moved in
    let all = crossed_moved xs ys moved in
    let before = counted xs in
    let after = counted ys in
    paired_none xs (let zero_paired : paired xs ≡ 0 = omega (arith, none, own, all, before, after) in zero_paired)

-- so no table is refused
kept_out : (b : Bool) (f : List Fault) (fs : List Fault) → b ≡ false → fs ≡ [] → ((if b then f else []) ++ fs) ≡ []
kept_out true f fs e none = absurd cc
kept_out false f fs e none = none

joined_none : (xs ys : List Fault) → xs ≡ [] → ys ≡ [] → (xs ++ ys) ≡ []
joined_none xs ys e f = ap (λ zs. zs ++ ys) e ∙ f

with_tables : (t : TableTaken) (ts : List TableTaken) (rs : List Reach) → AllByRecursion (λ y. meet (table_reach t) y ≡ false) (map table_reach ts ++ rs) →
    (flat_map (λ u. with_taken t.memory u.memory) ts ≡ []) × AllByRecursion (λ y. meet (table_reach t) y ≡ false) rs
with_tables t [] rs all = (refl, all)
with_tables t (u ∷ us) rs all =
    let rest = with_tables t us rs all.1 in (
      kept_out (nat_lt (max t.memory.first u.memory.first) (min t.memory.end u.memory.end)) (fault TableShared (max t.memory.place u.memory.place) ∷ [])
          (flat_map (λ u. with_taken t.memory u.memory) us) all.0 rest.0,
      rest.1,
    )

with_others : (t : TableTaken) (es : List Taken) → AllByRecursion (λ y. meet (table_reach t) y ≡ false) (map taken_reach es) → flat_map (with_taken t.memory) es ≡ []
with_others t [] all = refl
with_others t (e ∷ es) all =
    kept_out (nat_lt (max t.memory.first e.first) (min t.memory.end e.end)) (fault TableShared (max t.memory.place e.place) ∷ []) (flat_map (with_taken t.memory) es) all.0 (with_others t es all.1)

among_none : (ts : List TableTaken) (es : List Taken) → AreApart (reaches_of ts es) → among_taken ts ≡ []
among_none [] es apart = refl
among_none (t ∷ ts) es apart = joined_none (flat_map (λ u. with_taken t.memory u.memory) ts) (among_taken ts) (with_tables t ts (map taken_reach es) apart.0).0 (among_none ts es apart.1)

beside_files : (ts : List TableTaken) (es parts : List Taken) → AreApart (reaches_of ts es) → flat_map (beside_taken es parts) ts ≡ flat_map (beside_taken [] parts) ts
beside_files [] es parts apart = refl
beside_files (t ∷ ts) es parts apart =
    let others = with_others t es (with_tables t ts (map taken_reach es) apart.0).1 in
    ap (λ xs. (xs ++ flat_map (with_taken t.file) parts) ++ flat_map (beside_taken es parts) ts) others ∙
    ap (λ xs. flat_map (with_taken t.file) parts ++ xs) (beside_files ts es parts apart.1)

pub shared_files : (ts : List TableTaken) (es parts : List Taken) → AreApart (reaches_of ts es) → shared_taken ts es parts ≡ flat_map (beside_taken [] parts) ts
unfolding shared_taken
shared_files ts es parts apart = ap (λ xs. xs ++ flat_map (beside_taken es parts) ts) (among_none ts es apart) ∙ beside_files ts es parts apart

-- so they are as they are defined
taken_tables : (t : Placed) (us : List Placed) → flat_map (λ u. with_taken (table_taken t).memory u.memory) (map table_taken us) ≡ flat_map (with_table t) us
taken_tables t [] = refl
taken_tables t (u ∷ us) = ap (λ xs. with_table t u ++ xs) (taken_tables t us)

taken_among : (ts : List Placed) → among_taken (map table_taken ts) ≡ among_tables ts
taken_among [] = refl
taken_among (t ∷ ts) = ap (λ xs. xs ++ among_taken (map table_taken ts)) (taken_tables t ts) ∙ ap (λ xs. flat_map (with_table t) ts ++ xs) (taken_among ts)

taken_others : (t : Placed) (es : List Extent) → flat_map (with_taken (table_taken t).memory) (map extent_taken es) ≡ flat_map (with_extent t) es
taken_others t [] = refl
taken_others t (e ∷ es) = ap (λ xs. with_extent t e ++ xs) (taken_others t es)

taken_parts : (t : Placed) (ps : List InFile) → flat_map (with_taken (table_taken t).file) (map part_taken ps) ≡ flat_map (with_file t) ps
taken_parts t [] = refl
taken_parts t ((first, end) ∷ ps) = ap (λ xs. with_file t (first, end) ++ xs) (taken_parts t ps)

taken_beside : (ts : List Placed) (es : List Extent) (ps : List InFile) → flat_map (beside_taken (map extent_taken es) (map part_taken ps)) (map table_taken ts) ≡
    flat_map (λ t. flat_map (with_extent t) es ++ flat_map (with_file t) ps) ts
taken_beside [] es ps = refl
taken_beside (t ∷ ts) es ps =
    let rest = flat_map (beside_taken (map extent_taken es) (map part_taken ps)) (map table_taken ts) in
    ap (λ xs. (xs ++ flat_map (with_taken (table_taken t).file) (map part_taken ps)) ++ rest) (taken_others t es) ∙
    ap (λ xs. (flat_map (with_extent t) es ++ xs) ++ rest) (taken_parts t ps) ∙
    ap (λ xs. (flat_map (with_extent t) es ++ flat_map (with_file t) ps) ++ xs) (taken_beside ts es ps)

pub taken_shared : (file : List ℕ) (i : CleanImage) (ts : List Placed) →
    shared_taken (map table_taken ts) (map extent_taken (others_in i ts)) (map part_taken (file_parts file)) ≡ shared_faults file i ts
unfolding shared_taken shared_faults
taken_shared file i ts =
    ap (λ xs. xs ++ flat_map (beside_taken (map extent_taken (others_in i ts)) (map part_taken (file_parts file))) (map table_taken ts)) (taken_among ts) ∙
    ap (λ xs. among_tables ts ++ xs) (taken_beside ts (others_in i ts) (file_parts file))
