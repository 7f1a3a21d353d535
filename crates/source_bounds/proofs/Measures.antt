-- What weighs in chains bounds what guards with filters, what a table names, and how long a chain is.
use Rattle.std.proofs.Common.{◌≡◌, ℕ, ◌+◌, ◌*◌, ◌≤◌, Bool, true, false, List, [], ◌∷◌, ◌++◌, map, length, if◌then◌else◌, refl, arith}
use Rattle.std.proofs.lemmas.List.{length-append, length-map}
use Rattle.meaning_forms.specs.Class.{some_of}
use Rattle.region_forms.specs.Form.{Region, seq, op, branch, loop, protect, catch, limit, barrier, leave_region, RegionList, no_regions, region_then, Clauses, no_clauses, clause_then}
use Rattle.region_forms.specs.Guard.{types_of}
use Rattle.linear_forms.specs.Distinct.{added, added_all, same_list}
use Rattle.linear_forms.specs.Emission.{Emitting}
use Rattle.linear_forms.specs.Filters.{table_type, type_uses, type_uses_all, type_uses_clauses, list_uses, list_uses_all, list_uses_clauses, index_of, indices_of, types_in, lists_in}
use Rattle.landing_pads.specs.Size.{longest, longest_of_all, longest_of_clauses}
use Rattle.source_bounds.specs.TableWeights.{guards_in, guards_in_all, guards_in_clauses, chain_weight, all_chain_weight, clauses_chain_weight}
use Rattle.source_bounds.proofs.Chains.{pads_in, pads_in_all, pads_in_clauses}

module _ (em : Emitting) where
  mutual
    pub region_weighs : (r : Region) → 3 * pads_in em r + 6 * longest r ≤ chain_weight r
    region_weighs (seq rs) = regions_weigh rs
    region_weighs (op o) = omega arith
    region_weighs (branch v a b) = omega (arith, region_weighs a, region_weighs b)
    region_weighs (loop v r) = region_weighs r
    region_weighs (protect r c) = region_weighs r
    region_weighs (catch r cs) = omega (arith, region_weighs r, clauses_weigh cs)
    region_weighs (limit r types) = omega (arith, region_weighs r)
    region_weighs (barrier r) = region_weighs r
    region_weighs (leave_region n) = omega arith

    regions_weigh : (rs : RegionList) → 3 * pads_in_all em rs + 6 * longest_of_all rs ≤ all_chain_weight rs
    regions_weigh no_regions = omega arith
    regions_weigh (region_then r rs) = omega (arith, region_weighs r, regions_weigh rs)

    clauses_weigh : (cs : Clauses) → 3 * pads_in_clauses em cs + 6 * longest_of_clauses cs + 6 * length (types_of cs) ≤ clauses_chain_weight cs
    clauses_weigh no_clauses = omega arith
    clauses_weigh (clause_then t x r cs) = omega (arith, region_weighs r, clauses_weigh cs)

-- chains depend on no more than what weighs in a table
mutual
  pub weight_within : (r : Region) → chain_weight r ≤ guards_in r
  weight_within (seq rs) = weights_within rs
  weight_within (op o) = omega arith
  weight_within (branch v a b) = omega (arith, weight_within a, weight_within b)
  weight_within (loop v r) = weight_within r
  weight_within (protect r c) = weight_within r
  weight_within (catch r cs) = omega (arith, weight_within r, clause_weights_within cs)
  weight_within (limit r types) = omega (arith, weight_within r)
  weight_within (barrier r) = weight_within r
  weight_within (leave_region n) = omega arith

  pub weights_within : (rs : RegionList) → all_chain_weight rs ≤ guards_in_all rs
  weights_within no_regions = omega arith
  weights_within (region_then r rs) = omega (arith, weight_within r, weights_within rs)

  clause_weights_within : (cs : Clauses) → clauses_chain_weight cs ≤ guards_in_clauses cs
  clause_weights_within no_clauses = omega arith
  clause_weights_within (clause_then t x r cs) = omega (arith, weight_within r, clause_weights_within cs)

-- the types that pads name
mutual
  pub types_weigh : (r : Region) → length (type_uses r) ≤ guards_in r
  types_weigh (seq rs) = all_types_weigh rs
  types_weigh (op o) = omega arith
  types_weigh (branch v a b) = omega (arith, length-append (type_uses a) (type_uses b), types_weigh a, types_weigh b)
  types_weigh (loop v r) = types_weigh r
  types_weigh (protect r c) = types_weigh r
  types_weigh (catch r cs) =
      omega (
        arith,
        length-append (map table_type (types_of cs)) (type_uses_clauses cs ++ type_uses r),
        length-append (type_uses_clauses cs) (type_uses r),
        length-map (types_of cs) table_type,
        clause_types_weigh cs,
        types_weigh r,
      )
  types_weigh (limit r types) = omega (arith, length-append (map (λ t. t + 1) types) (type_uses r), length-map types (λ t. t + 1), types_weigh r)
  types_weigh (barrier r) = types_weigh r
  types_weigh (leave_region n) = omega arith

  all_types_weigh : (rs : RegionList) → length (type_uses_all rs) ≤ guards_in_all rs
  all_types_weigh no_regions = omega arith
  all_types_weigh (region_then r rs) = omega (arith, length-append (type_uses r) (type_uses_all rs), types_weigh r, all_types_weigh rs)

  clause_types_weigh : (cs : Clauses) → length (types_of cs) + length (type_uses_clauses cs) ≤ guards_in_clauses cs
  clause_types_weigh no_clauses = omega arith
  clause_types_weigh (clause_then t x r cs) = omega (arith, length-append (type_uses r) (type_uses_clauses cs), types_weigh r, clause_types_weigh cs)

-- two bytes for each item of a list, and one for its end
abbrev pub list_weight : List (List ℕ) → ℕ
list_weight [] = 0
list_weight (l ∷ ls) = 2 * length l + 1 + list_weight ls

weight-append : (a b : List (List ℕ)) → list_weight (a ++ b) ≡ list_weight a + list_weight b
weight-append [] b = omega arith
weight-append (l ∷ a) b = omega (arith, weight-append a b)

mutual
  lists_weigh : (r : Region) → list_weight (list_uses r) ≤ 2 * guards_in r
  lists_weigh (seq rs) = all_lists_weigh rs
  lists_weigh (op o) = omega arith
  lists_weigh (branch v a b) = omega (arith, weight-append (list_uses a) (list_uses b), lists_weigh a, lists_weigh b)
  lists_weigh (loop v r) = lists_weigh r
  lists_weigh (protect r c) = lists_weigh r
  lists_weigh (catch r cs) = omega (arith, weight-append (list_uses_clauses cs) (list_uses r), clause_lists_weigh cs, lists_weigh r)
  lists_weigh (limit r types) = omega (arith, lists_weigh r)
  lists_weigh (barrier r) = lists_weigh r
  lists_weigh (leave_region n) = omega arith

  all_lists_weigh : (rs : RegionList) → list_weight (list_uses_all rs) ≤ 2 * guards_in_all rs
  all_lists_weigh no_regions = omega arith
  all_lists_weigh (region_then r rs) = omega (arith, weight-append (list_uses r) (list_uses_all rs), lists_weigh r, all_lists_weigh rs)

  clause_lists_weigh : (cs : Clauses) → list_weight (list_uses_clauses cs) ≤ 2 * guards_in_clauses cs
  clause_lists_weigh no_clauses = omega arith
  clause_lists_weigh (clause_then t x r cs) = omega (arith, weight-append (list_uses r) (list_uses_clauses cs), lists_weigh r, clause_lists_weigh cs)

indices_weigh : (types : List ℕ) (ls : List (List ℕ)) → list_weight (map (indices_of types) ls) ≡ list_weight ls
indices_weigh types [] = refl
indices_weigh types (l ∷ ls) = omega (arith, length-map l (λ t. index_of (t + 1) types), indices_weigh types ls)

one_weighs : (xs : List (List ℕ)) (y : List ℕ) → list_weight (added same_list xs y) ≤ list_weight xs + (2 * length y + 1)
one_weighs xs y = go (some_of (same_list y) xs)
  where
    go : (b : Bool) → list_weight (if b then xs else xs ++ y ∷ []) ≤ list_weight xs + (2 * length y + 1)
    go true = omega arith
    go false = omega (arith, weight-append xs (y ∷ []))

added_weigh : (ys xs : List (List ℕ)) → list_weight (added_all same_list xs ys) ≤ list_weight xs + list_weight ys
added_weigh [] xs = omega arith
added_weigh (y ∷ ys) xs = omega (arith, added_weigh ys (added same_list xs y), one_weighs xs y)

pub table_lists_weigh : (r : Region) → list_weight (lists_in r) ≤ 2 * guards_in r
table_lists_weigh r = omega (arith, added_weigh (map (indices_of (types_in r)) (list_uses r)) [], indices_weigh (types_in r) (list_uses r), lists_weigh r)
