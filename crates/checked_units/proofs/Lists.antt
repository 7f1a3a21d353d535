-- Each index in the lists of a function's tables names a type.
use Rattle.std.proofs.Common.{◌≡◌, ◌∙◌, refl, ap, arith, ℕ, suc, ◌+◌, ◌-◌, ◌<◌, Bool, true, false, List, [], ◌∷◌, ◌++◌, map, Some}
use Rattle.std.specs.Prelude.{◌==◌, ◌||◌, if◌then◌else◌, slice_get}
use Rattle.std.specs.List.{AllByRecursion}
use Rattle.std.proofs.lemmas.Bool.Decides.{nat_tests}
use Rattle.meaning_forms.specs.Class.{some_of}
use Rattle.region_forms.specs.Form.{Region, seq, op, branch, loop, protect, catch, limit, barrier, leave_region, RegionList, no_regions, region_then, Clauses, no_clauses, clause_then, RegionFunction, Regions}
use Rattle.region_forms.specs.Guard.{types_of}
use Rattle.linear_forms.specs.Distinct.{among, added, added_all, same_number, same_list}
use Rattle.linear_forms.specs.Filters.{table_type, type_uses, type_uses_all, type_uses_clauses, list_uses, list_uses_all, list_uses_clauses, index_of, indices_of, types_in}
use Rattle.linear_forms.specs.Unit.{function_code, unit_of}
use Rattle.linear_forms.proofs.Once.{AllAmong, all_left, all_right, all_among, number_itself}
use Rattle.table_verdicts.specs.Asked.{NamesType, ListsNameTypes}

-- ---- an index
record Found (n : ℕ) (types : List ℕ) (i : ℕ) : Type 0 where
  counts : 0 < i
  there : slice_get types (i - 1) ≡ Some n

found_first : (n m : ℕ) (ms : List ℕ) → (n == m) ≡ true → Found n (m ∷ ms) 1
found_first n m ms e = let same : m ≡ n = grind (arith, nat_tests, e) in record { counts = omega arith; there = ap Some same }

found_later : (n m i : ℕ) (ms : List ℕ) → Found n ms i → Found n (m ∷ ms) (i + 1)
found_later n m i ms f =
    let c = f.counts in
    let at : i + 1 - 1 ≡ suc (i - 1) = omega (arith, c) in
    record { counts = omega arith; there = ap (slice_get (m ∷ ms)) at ∙ f.there }

index_found : (n : ℕ) (types : List ℕ) → among same_number types n ≡ true → Found n types (index_of n types)
index_found n [] h = absurd (cc h)
index_found n (m ∷ ms) h = go (n == m) refl h (index_found n ms)
  where
    go : (b : Bool) → (n == m) ≡ b → (b || some_of (same_number n) ms) ≡ true → (among same_number ms n ≡ true → Found n ms (index_of n ms)) →
        Found n (m ∷ ms) (if b then 1 else index_of n ms + 1)
    go true e k rest = found_first n m ms e
    go false e k rest = found_later n m (index_of n ms) ms (rest k)

indices_named : (types ts : List ℕ) → AllAmong same_number types (map (λ t. t + 1) ts) → AllByRecursion (NamesType types) (indices_of types ts)
indices_named types [] h = tt
indices_named types (t ∷ ts) h =
    let f = index_found (t + 1) types h.0 in
    let next : t + 1 ≡ suc t = omega arith in
    ((t, f.counts, f.there ∙ ap Some next), indices_named types ts h.1)

-- ---- all lists
module _ (types : List ℕ) where
  abbrev Named : List (List ℕ) → Type 0
  Named lists = AllByRecursion (AllByRecursion (NamesType types)) lists

  both_named : (a b : List (List ℕ)) → Named (map (indices_of types) a) → Named (map (indices_of types) b) → Named (map (indices_of types) (a ++ b))
  both_named [] b h g = g
  both_named (l ∷ a) b h g = (h.0, both_named a b h.1 g)

  mutual
    region_named : (r : Region) → AllAmong same_number types (type_uses r) → Named (map (indices_of types) (list_uses r))
    region_named (seq rs) h = all_named rs h
    region_named (op o) h = tt
    region_named (branch v a b) h =
        both_named (list_uses a) (list_uses b) (region_named a (all_left same_number types (type_uses a) (type_uses b) h))
        (region_named b (all_right same_number types (type_uses a) (type_uses b) h))
    region_named (loop v r) h = region_named r h
    region_named (protect r c) h = region_named r h
    region_named (catch r cs) h =
        let rest = all_right same_number types (map table_type (types_of cs)) (type_uses_clauses cs ++ type_uses r) h in
        both_named (list_uses_clauses cs) (list_uses r) (clauses_named cs (all_left same_number types (type_uses_clauses cs) (type_uses r) rest))
        (region_named r (all_right same_number types (type_uses_clauses cs) (type_uses r) rest))
    region_named (limit r ts) h = (
      indices_named types ts (all_left same_number types (map (λ t. t + 1) ts) (type_uses r) h),
      region_named r (all_right same_number types (map (λ t. t + 1) ts) (type_uses r) h),
    )
    region_named (barrier r) h = region_named r h
    region_named (leave_region n) h = tt

    all_named : (rs : RegionList) → AllAmong same_number types (type_uses_all rs) → Named (map (indices_of types) (list_uses_all rs))
    all_named no_regions h = tt
    all_named (region_then r rs) h =
        both_named (list_uses r) (list_uses_all rs) (region_named r (all_left same_number types (type_uses r) (type_uses_all rs) h))
        (all_named rs (all_right same_number types (type_uses r) (type_uses_all rs) h))

    clauses_named : (cs : Clauses) → AllAmong same_number types (type_uses_clauses cs) → Named (map (indices_of types) (list_uses_clauses cs))
    clauses_named no_clauses h = tt
    clauses_named (clause_then t x r cs) h =
        both_named (list_uses r) (list_uses_clauses cs) (region_named r (all_left same_number types (type_uses r) (type_uses_clauses cs) h))
        (clauses_named cs (all_right same_number types (type_uses r) (type_uses_clauses cs) h))

  -- each list once
  one_added : (xs : List (List ℕ)) (y : List ℕ) → Named xs → AllByRecursion (NamesType types) y → Named (added same_list xs y)
  one_added xs y h g = go (among same_list xs y)
    where
      last : (zs : List (List ℕ)) → Named zs → Named (zs ++ y ∷ [])
      last [] k = (g, tt)
      last (z ∷ zs) k = (k.0, last zs k.1)

      go : (b : Bool) → Named (if b then xs else xs ++ y ∷ [])
      go true = h
      go false = last xs h

  all_added : (ys xs : List (List ℕ)) → Named xs → Named ys → Named (added_all same_list xs ys)
  all_added [] xs h g = h
  all_added (y ∷ ys) xs h g = all_added ys (added same_list xs y) (one_added xs y h g.0) g.1

function_named : (f : RegionFunction) → AllByRecursion (AllByRecursion (NamesType (function_code f).types)) (function_code f).lists
function_named f =
    let types = types_in f.body in
    all_added types (map (indices_of types) (list_uses f.body)) [] tt (region_named types f.body (all_among same_number number_itself (type_uses f.body) []))

pub lists_name_types : (r : Regions) → ListsNameTypes (unit_of r)
lists_name_types r = each r.functions
  where
    each : (fs : List RegionFunction) → AllByRecursion (λ g. AllByRecursion (AllByRecursion (NamesType g.types)) g.lists) (map function_code fs)
    each [] = tt
    each (f ∷ fs) = (function_named f, each fs)
