-- How much regions hold: what is given to each function of emission holds less than what it was given for.
use Rattle.std.proofs.Common.{ℕ, ◌+◌}
use Rattle.region_forms.specs.Form.{Region, seq, branch, loop, protect, catch, limit, barrier, RegionList, no_regions, region_then, Clauses, no_clauses, clause_then}

abbrev mutual
  pub weight : Region → ℕ
  weight (seq rs) = weight_all rs + 4
  weight (branch v a b) = weight a + weight b + 4
  weight (loop v r) = weight r + 4
  weight (protect r c) = weight r + 4
  weight (catch r cs) = weight_clauses cs + weight r + 4
  weight (limit r types) = weight r + 4
  weight (barrier r) = weight r + 4
  weight _ = 4

  pub weight_all : RegionList → ℕ
  weight_all no_regions = 0
  weight_all (region_then r rs) = weight r + weight_all rs + 1

  pub weight_clauses : Clauses → ℕ
  weight_clauses no_clauses = 0
  weight_clauses (clause_then t x r cs) = weight r + weight_clauses cs + 1
