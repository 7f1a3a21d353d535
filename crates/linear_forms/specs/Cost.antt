-- What a region's code costs, and what a barrier may hold.
use Rattle.std.specs.Prelude.{ℕ, ◌+◌, ◌*◌, Bool, true, ◌&&◌, length}
use Rattle.region_forms.specs.Form.{Region, seq, op, branch, loop, protect, catch, limit, barrier, leave_region, RegionList, no_regions, region_then, Clauses, no_clauses, clause_then}
use Rattle.region_forms.specs.WellFormed.{is_op}
use Rattle.linear_forms.specs.Distinct.{distinct}
use Rattle.linear_forms.specs.Exits.{beyond, outs_of}

-- How many steps a region's code makes at most, but for its turns. Leaving a handler takes those of the runtime's function, and terminate
-- those of its.
abbrev pub op_cost : ℕ
op_cost = 16

abbrev mutual
  pub cost : Region → ℕ
  cost (seq rs) = cost_all rs + 2
  cost (op o) = op_cost
  cost (branch v a b) = cost a + cost b + 4
  cost (loop v r) = cost r + 4
  cost (protect r c) = cost r + op_cost + length (distinct (beyond (outs_of r))) + 12
  cost (catch r cs) = cost r + cost_clauses cs + 6
  cost (limit r types) = cost r + op_cost * 6
  cost (barrier r) = cost r + op_cost + 2
  cost (leave_region n) = 2

  pub cost_all : RegionList → ℕ
  cost_all no_regions = 0
  cost_all (region_then r rs) = cost r + cost_all rs

  pub cost_clauses : Clauses → ℕ
  cost_clauses no_clauses = 0
  cost_clauses (clause_then t x r cs) = cost r + cost_clauses cs + 4

-- a barrier holds one operation, since behind it nothing has a site
abbrev mutual
  pub is_barred : Region → Bool
  is_barred (seq rs) = all_barred rs
  is_barred (op o) = true
  is_barred (branch v a b) = is_barred a && is_barred b
  is_barred (loop v r) = is_barred r
  is_barred (protect r c) = is_barred r
  is_barred (catch r cs) = is_barred r && clauses_barred cs
  is_barred (limit r types) = is_barred r
  is_barred (barrier r) = is_op r
  is_barred (leave_region n) = true

  pub all_barred : RegionList → Bool
  all_barred no_regions = true
  all_barred (region_then r rs) = is_barred r && all_barred rs

  pub clauses_barred : Clauses → Bool
  clauses_barred no_clauses = true
  clauses_barred (clause_then t x r cs) = is_barred r && clauses_barred cs
