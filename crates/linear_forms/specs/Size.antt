-- How much code a region has at most: so many operations for each of its parts, and for each scope one more for each way out of it.
use Rattle.std.specs.Prelude.{ℕ, ◌+◌, length}
use Rattle.region_forms.specs.Form.{Region, seq, op, branch, loop, protect, catch, limit, barrier, leave_region, RegionList, no_regions, region_then, Clauses, no_clauses, clause_then}
use Rattle.linear_forms.specs.Distinct.{distinct}
use Rattle.linear_forms.specs.Exits.{beyond, outs_of}

abbrev mutual
  pub most_ops : Region → ℕ
  most_ops (seq rs) = most_ops_all rs + 1
  most_ops (op o) = 1
  most_ops (branch v a b) = most_ops a + most_ops b + 4
  most_ops (loop v r) = most_ops r + 4
  most_ops (protect r c) = most_ops r + length (distinct (beyond (outs_of r))) + 9
  most_ops (catch r cs) = most_ops r + most_ops_clauses cs + 5
  most_ops (limit r types) = most_ops r + 8
  most_ops (barrier r) = most_ops r + 1
  most_ops (leave_region n) = 2

  pub most_ops_all : RegionList → ℕ
  most_ops_all no_regions = 0
  most_ops_all (region_then r rs) = most_ops r + most_ops_all rs

  -- a test and a handler for each clause
  pub most_ops_clauses : Clauses → ℕ
  most_ops_clauses no_clauses = 0
  most_ops_clauses (clause_then t x r cs) = most_ops r + most_ops_clauses cs + 4
