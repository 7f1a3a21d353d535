-- The filters of a function mean by its own tables what they are for.
use Rattle.std.proofs.Common.{◌≡◌, ℕ, suc, ◌+◌, Bool, true, false, List, [], ◌∷◌, ◌++◌, map, length, Option, Some, None, refl, sym, ap, ◌∙◌, arith, add-one}
use Rattle.std.specs.Prelude.{pos, ◌==◌, ◌||◌, slice_get, flat_map, if◌then◌else◌}
use Rattle.std.proofs.lemmas.Bool.Decides.{nat_tests}
use Rattle.eh_bytes.specs.Spelling.{uleb_spelling}
use Rattle.meaning_forms.specs.Class.{some_of}
use Rattle.region_forms.specs.Form.{Region, seq, op, branch, loop, protect, catch, limit, barrier, leave_region, RegionList, no_regions, region_then, Clauses, no_clauses, clause_then}
use Rattle.region_forms.specs.Guard.{types_of}
use Rattle.linear_forms.specs.Tables.{clause, list_of, clause_sense, list_bytes, entry_type, type_at_index, list_sense, sense_in}
use Rattle.linear_forms.specs.Distinct.{among, same_number, same_list}
use Rattle.linear_forms.specs.Filters.{table_type, type_uses, type_uses_all, type_uses_clauses, list_uses, list_uses_all, list_uses_clauses, index_of, indices_of, byte_of_list, filter_for, types_in, lists_in}
use Rattle.linear_forms.specs.Means.{Means, AllMean, FiltersMean, AllFiltersMean, ClauseFiltersMean}
use Rattle.linear_forms.specs.Laws.{FiltersAreRight}
use Rattle.linear_forms.proofs.Once.{AllAmong, all_left, all_right, all_among, number_itself, list_itself, same_list_is}

-- the entry at the index of a number that is there
record Found (n : ℕ) (types : List ℕ) : Type 0 where
  at : ℕ
  index : index_of n types ≡ suc at
  entry : slice_get types at ≡ Some n

number_is : (n m : ℕ) → (n == m) ≡ true → m ≡ n
number_is n m e = grind (arith, nat_tests)

index_found : (n : ℕ) (types : List ℕ) → among same_number types n ≡ true → Found n types
index_found n [] h = absurd (cc h)
index_found n (m ∷ ms) h = go (n == m) refl h (index_found n ms)
  where
    go : (b : Bool) → (n == m) ≡ b → (b || some_of (same_number n) ms) ≡ true → (among same_number ms n ≡ true → Found n ms) → Found n (m ∷ ms)
    go true e k rest = record {
      at = 0;
      index = ap (λ c. if c then 1 else index_of n ms + 1) e;
      entry = ap (λ x. Some x) (number_is n m e);
    }
    go false e k rest =
        let f = rest k in
        record {
          at = suc f.at;
          index = ap (λ c. if c then 1 else index_of n ms + 1) e ∙ ap (λ i. i + 1) f.index ∙ add-one (suc f.at);
          entry = f.entry;
        }

-- a clause's filter
entry_sense : (t : Option ℕ) → clause_sense (Some (table_type t)) ≡ clause t
entry_sense None = refl
entry_sense (Some t) = ap (λ n. clause_sense (Some n)) (add-one t)

clause_means : (types : List ℕ) (lists : List (List ℕ)) (t : Option ℕ) → among same_number types (table_type t) ≡ true
    → Means (sense_in types lists) (filter_for types lists) (clause t)
clause_means types lists t h =
    let f = index_found (table_type t) types h in
    ap (λ i. sense_in types lists (pos i)) f.index ∙ ap clause_sense f.entry ∙ entry_sense t

clauses_mean : (types : List ℕ) (lists : List (List ℕ)) (ts : List (Option ℕ)) → AllAmong same_number types (map table_type ts)
    → AllMean (sense_in types lists) (filter_for types lists) ts
clauses_mean types lists [] h = tt
clauses_mean types lists (t ∷ ts) h = (clause_means types lists t h.0, clauses_mean types lists ts h.1)

-- the types at the indices of types that are there are these
type_found : (types : List ℕ) (t : ℕ) → among same_number types (t + 1) ≡ true → type_at_index types (index_of (t + 1) types) ≡ t
type_found types t h =
    let f = index_found (t + 1) types h in
    ap (type_at_index types) f.index ∙ ap entry_type f.entry ∙ ap (λ n. entry_type (Some n)) (add-one t)

types_found : (types ts : List ℕ) → AllAmong same_number types (map (λ t. t + 1) ts) → map (type_at_index types) (indices_of types ts) ≡ ts
types_found types [] h = refl
types_found types (t ∷ ts) h =
    ap (λ x. x ∷ map (type_at_index types) (indices_of types ts)) (type_found types t h.0) ∙ ap (λ xs. t ∷ xs) (types_found types ts h.1)

-- a list begins where its filter says
at_start : (at n : ℕ) → n ≡ at + 0 → (at == n) ≡ true
at_start at n e = grind (arith, nat_tests)

not_at_start : (at n b c : ℕ) → n ≡ at + ((b + 1) + c) → (at == n) ≡ false
not_at_start at n b c e = grind (arith, nat_tests)

list_found : (types l : List ℕ) (lists : List (List ℕ)) (at n : ℕ) → n ≡ at + byte_of_list l lists → among same_list lists l ≡ true
    → list_sense types lists at n ≡ list_of (map (type_at_index types) l)
list_found types l [] at n e h = absurd (cc h)
list_found types l (m ∷ ms) at n e h = go (same_list l m) refl e h (list_found types l ms (at + list_bytes m) n)
  where
    go : (b : Bool) → same_list l m ≡ b → n ≡ at + (if b then 0 else list_bytes m + byte_of_list l ms)
        → (b || some_of (same_list l) ms) ≡ true
        → (n ≡ at + list_bytes m + byte_of_list l ms → among same_list ms l ≡ true → list_sense types ms (at + list_bytes m) n ≡ list_of (map (type_at_index types) l))
        → (if at == n then list_of (map (type_at_index types) m) else list_sense types ms (at + list_bytes m) n) ≡ list_of (map (type_at_index types) l)
    go true s k i rest =
        ap (λ c. if c then list_of (map (type_at_index types) m) else list_sense types ms (at + list_bytes m) n) (at_start at n k) ∙
        ap (λ x. list_of (map (type_at_index types) x)) (sym (same_list_is l m s))
    go false s k i rest =
        ap (λ c. if c then list_of (map (type_at_index types) m) else list_sense types ms (at + list_bytes m) n)
        (not_at_start at n (length (flat_map uleb_spelling m)) (byte_of_list l ms) k) ∙
        rest (omega (arith, k)) i

list_means : (types : List ℕ) (lists : List (List ℕ)) (ts : List ℕ) → AllAmong same_number types (map (λ t. t + 1) ts)
    → among same_list lists (indices_of types ts) ≡ true → Means (sense_in types lists) (filter_for types lists) (list_of ts)
list_means types lists ts h g =
    list_found types (indices_of types ts) lists 0 (byte_of_list (indices_of types ts) lists) (omega arith) g ∙ ap list_of (types_found types ts h)

-- what two parts of a list of lists use
lists_left : (types : List ℕ) (lists a b : List (List ℕ)) → AllAmong same_list lists (map (indices_of types) (a ++ b)) → AllAmong same_list lists (map (indices_of types) a)
lists_left types lists [] b h = tt
lists_left types lists (l ∷ a) b h = (h.0, lists_left types lists a b h.1)

lists_right : (types : List ℕ) (lists a b : List (List ℕ)) → AllAmong same_list lists (map (indices_of types) (a ++ b)) → AllAmong same_list lists (map (indices_of types) b)
lists_right types lists [] b h = h
lists_right types lists (l ∷ a) b h = lists_right types lists a b h.1

module _ (types : List ℕ) (lists : List (List ℕ)) where
  mutual
    region_means : (r : Region) → AllAmong same_number types (type_uses r) → AllAmong same_list lists (map (indices_of types) (list_uses r))
        → FiltersMean (sense_in types lists) (filter_for types lists) r
    region_means (seq rs) h g = all_mean rs h g
    region_means (op o) h g = tt
    region_means (branch v a b) h g = (
      region_means a (all_left same_number types (type_uses a) (type_uses b) h) (lists_left types lists (list_uses a) (list_uses b) g),
      region_means b (all_right same_number types (type_uses a) (type_uses b) h) (lists_right types lists (list_uses a) (list_uses b) g),
    )
    region_means (loop v r) h g = region_means r h g
    region_means (protect r c) h g = (refl, region_means r h g)
    region_means (catch r cs) h g =
        let own = map table_type (types_of cs) in
        let rest = all_right same_number types own (type_uses_clauses cs ++ type_uses r) h in (
          clauses_mean types lists (types_of cs) (all_left same_number types own (type_uses_clauses cs ++ type_uses r) h),
          region_means r (all_right same_number types (type_uses_clauses cs) (type_uses r) rest) (lists_right types lists (list_uses_clauses cs) (list_uses r) g),
          handlers_mean cs (all_left same_number types (type_uses_clauses cs) (type_uses r) rest) (lists_left types lists (list_uses_clauses cs) (list_uses r) g),
        )
    region_means (limit r ts) h g = (
      list_means types lists ts (all_left same_number types (map (λ t. t + 1) ts) (type_uses r) h) g.0,
      region_means r (all_right same_number types (map (λ t. t + 1) ts) (type_uses r) h) g.1,
    )
    region_means (barrier r) h g = region_means r h g
    region_means (leave_region n) h g = tt

    all_mean : (rs : RegionList) → AllAmong same_number types (type_uses_all rs) → AllAmong same_list lists (map (indices_of types) (list_uses_all rs))
        → AllFiltersMean (sense_in types lists) (filter_for types lists) rs
    all_mean no_regions h g = tt
    all_mean (region_then r rs) h g = (
      region_means r (all_left same_number types (type_uses r) (type_uses_all rs) h) (lists_left types lists (list_uses r) (list_uses_all rs) g),
      all_mean rs (all_right same_number types (type_uses r) (type_uses_all rs) h) (lists_right types lists (list_uses r) (list_uses_all rs) g),
    )

    handlers_mean : (cs : Clauses) → AllAmong same_number types (type_uses_clauses cs) → AllAmong same_list lists (map (indices_of types) (list_uses_clauses cs))
        → ClauseFiltersMean (sense_in types lists) (filter_for types lists) cs
    handlers_mean no_clauses h g = tt
    handlers_mean (clause_then t x r cs) h g = (
      region_means r (all_left same_number types (type_uses r) (type_uses_clauses cs) h) (lists_left types lists (list_uses r) (list_uses_clauses cs) g),
      handlers_mean cs (all_right same_number types (type_uses r) (type_uses_clauses cs) h) (lists_right types lists (list_uses r) (list_uses_clauses cs) g),
    )

pub filters_are_right : FiltersAreRight
filters_are_right r =
    region_means (types_in r) (lists_in r) r
    (all_among same_number number_itself (type_uses r) [])
    (all_among same_list list_itself (map (indices_of (types_in r)) (list_uses r)) [])
