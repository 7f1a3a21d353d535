-- Each index in the lists of a function's tables is that of a type.
use Rattle.std.proofs.Common.{◌≡◌, ℕ, ◌+◌, ◌≤◌, ◌<◌, Bool, true, false, List, [], ◌∷◌, ◌++◌, map, length, arith}
use Rattle.std.specs.Prelude.{◌==◌, ◌||◌, if◌then◌else◌}
use Rattle.std.specs.List.{AllByRecursion}
use Rattle.meaning_forms.specs.Class.{some_of}
use Rattle.region_forms.specs.Form.{Region, seq, op, branch, loop, protect, catch, limit, barrier, leave_region, RegionList, no_regions, region_then, Clauses, no_clauses, clause_then, RegionFunction}
use Rattle.region_forms.specs.Guard.{types_of}
use Rattle.linear_forms.specs.Distinct.{among, added, added_all, same_number, same_list}
use Rattle.linear_forms.specs.Filters.{table_type, type_uses, type_uses_all, type_uses_clauses, list_uses, list_uses_all, list_uses_clauses, index_of, indices_of, types_in}
use Rattle.linear_forms.specs.Unit.{function_code}
use Rattle.linear_forms.proofs.Once.{AllAmong, all_left, all_right, all_among, number_itself}
use Rattle.landing_pads.specs.Named.{TypeIsThere}

-- an index counts from 1 up to the last entry
abbrev IsIndex : List ℕ → ℕ → Type 0
IsIndex types i = (0 < i) × (i ≤ length types)

index_counts : (n : ℕ) (types : List ℕ) → 0 < index_of n types
index_counts n [] = omega arith
index_counts n (m ∷ ms) = go (n == m)
  where
    go : (b : Bool) → 0 < (if b then 1 else index_of n ms + 1)
    go true = omega arith
    go false = omega arith

index_inside : (n : ℕ) (types : List ℕ) → among same_number types n ≡ true → index_of n types ≤ length types
index_inside n [] h = absurd (cc h)
index_inside n (m ∷ ms) h = go (n == m) h (index_inside n ms)
  where
    go : (b : Bool) → (b || some_of (same_number n) ms) ≡ true → (among same_number ms n ≡ true → index_of n ms ≤ length ms)
        → (if b then 1 else index_of n ms + 1) ≤ length (m ∷ ms)
    go true k rest = omega arith
    go false k rest = omega (arith, rest k)

indices_inside : (types ts : List ℕ) → AllAmong same_number types (map (λ t. t + 1) ts) → AllByRecursion (IsIndex types) (indices_of types ts)
indices_inside types [] h = tt
indices_inside types (t ∷ ts) h = ((index_counts (t + 1) types, index_inside (t + 1) types h.0), indices_inside types ts h.1)

-- all lists do
module _ (types : List ℕ) where
  abbrev Inside : List (List ℕ) → Type 0
  Inside lists = AllByRecursion (AllByRecursion (IsIndex types)) lists

  both_inside : (a b : List (List ℕ)) → Inside (map (indices_of types) a) → Inside (map (indices_of types) b) → Inside (map (indices_of types) (a ++ b))
  both_inside [] b h g = g
  both_inside (l ∷ a) b h g = (h.0, both_inside a b h.1 g)

  mutual
    region_inside : (r : Region) → AllAmong same_number types (type_uses r) → Inside (map (indices_of types) (list_uses r))
    region_inside (seq rs) h = all_inside rs h
    region_inside (op o) h = tt
    region_inside (branch v a b) h =
        both_inside (list_uses a) (list_uses b) (region_inside a (all_left same_number types (type_uses a) (type_uses b) h))
        (region_inside b (all_right same_number types (type_uses a) (type_uses b) h))
    region_inside (loop v r) h = region_inside r h
    region_inside (protect r c) h = region_inside r h
    region_inside (catch r cs) h =
        let rest = all_right same_number types (map table_type (types_of cs)) (type_uses_clauses cs ++ type_uses r) h in
        both_inside (list_uses_clauses cs) (list_uses r) (clauses_inside cs (all_left same_number types (type_uses_clauses cs) (type_uses r) rest))
        (region_inside r (all_right same_number types (type_uses_clauses cs) (type_uses r) rest))
    region_inside (limit r ts) h = (
      indices_inside types ts (all_left same_number types (map (λ t. t + 1) ts) (type_uses r) h),
      region_inside r (all_right same_number types (map (λ t. t + 1) ts) (type_uses r) h),
    )
    region_inside (barrier r) h = region_inside r h
    region_inside (leave_region n) h = tt

    all_inside : (rs : RegionList) → AllAmong same_number types (type_uses_all rs) → Inside (map (indices_of types) (list_uses_all rs))
    all_inside no_regions h = tt
    all_inside (region_then r rs) h =
        both_inside (list_uses r) (list_uses_all rs) (region_inside r (all_left same_number types (type_uses r) (type_uses_all rs) h))
        (all_inside rs (all_right same_number types (type_uses r) (type_uses_all rs) h))

    clauses_inside : (cs : Clauses) → AllAmong same_number types (type_uses_clauses cs) → Inside (map (indices_of types) (list_uses_clauses cs))
    clauses_inside no_clauses h = tt
    clauses_inside (clause_then t x r cs) h =
        both_inside (list_uses r) (list_uses_clauses cs) (region_inside r (all_left same_number types (type_uses r) (type_uses_clauses cs) h))
        (clauses_inside cs (all_right same_number types (type_uses r) (type_uses_clauses cs) h))

-- what holds of each item of two lists holds where each stands once
module _ {A : Type 0} (P : A → Type 0) (same : A → A → Bool) where
  both_all : (a b : List A) → AllByRecursion P a → AllByRecursion P b → AllByRecursion P (a ++ b)
  both_all [] b h g = g
  both_all (x ∷ a) b h g = (h.0, both_all a b h.1 g)

  one_added : (xs : List A) (y : A) → AllByRecursion P xs → P y → AllByRecursion P (added same xs y)
  one_added xs y h g = go (among same xs y)
    where
      go : (b : Bool) → AllByRecursion P (if b then xs else xs ++ y ∷ [])
      go true = h
      go false = both_all xs (y ∷ []) h (g, tt)

  all_added : (ys xs : List A) → AllByRecursion P xs → AllByRecursion P ys → AllByRecursion P (added_all same xs ys)
  all_added [] xs h g = h
  all_added (y ∷ ys) xs h g = all_added ys (added same xs y) (one_added xs y h g.0) g.1

pub lists_named : (f : RegionFunction) → AllByRecursion (AllByRecursion (TypeIsThere (function_code f))) (function_code f).lists
lists_named f =
    let types = types_in f.body in
    all_added (AllByRecursion (IsIndex types)) same_list (map (indices_of types) (list_uses f.body)) [] tt
    (region_inside types f.body (all_among same_number number_itself (type_uses f.body) []))
