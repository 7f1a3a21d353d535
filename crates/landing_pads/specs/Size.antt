-- How long the chains of a region's code are at most.
use Rattle.std.specs.Prelude.{ℕ, ◌+◌, max, length}
use Rattle.region_forms.specs.Form.{Region, seq, op, branch, loop, protect, catch, limit, barrier, leave_region, RegionList, no_regions, region_then, Clauses, no_clauses, clause_then}
use Rattle.region_forms.specs.Guard.{types_of}

-- how many filters of clauses and of specifications guard some part of a region at most
abbrev mutual
  pub longest : Region → ℕ
  longest (seq rs) = longest_of_all rs
  longest (op o) = 0
  longest (branch v a b) = max (longest a) (longest b)
  longest (loop v r) = longest r
  longest (protect r c) = longest r
  longest (catch r cs) = max (longest_of_clauses cs) (length (types_of cs) + longest r)
  longest (limit r types) = longest r + 1
  longest (barrier r) = longest r
  longest (leave_region n) = 0

  pub longest_of_all : RegionList → ℕ
  longest_of_all no_regions = 0
  longest_of_all (region_then r rs) = max (longest r) (longest_of_all rs)

  pub longest_of_clauses : Clauses → ℕ
  longest_of_clauses no_clauses = 0
  longest_of_clauses (clause_then t x r cs) = max (longest r) (longest_of_clauses cs)
