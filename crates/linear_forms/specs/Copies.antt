-- How often cleanups stand in a region's code: one of a scope or a handler twice, and one for exceptional exits alone once.
use Rattle.std.specs.Prelude.{ℕ, ◌+◌, List, [], ◌∷◌}
use Rattle.region_forms.specs.Form.{destroy, leave, Cleanup, destroy_scope, destroy_part, free_object, leave_handler, Region, seq, op, branch, loop, protect, catch, limit, barrier, leave_region, RegionList, no_regions, region_then, Clauses, no_clauses, clause_then}
use Rattle.linear_forms.specs.Linear.{LinearOp, plain, free}
use Rattle.linear_forms.specs.Sites.{Placed}

-- 1 for an operation that destroys, that leaves a handler or that frees
abbrev pub cleans : LinearOp → ℕ
cleans (plain (destroy p d)) = 1
cleans (plain leave) = 1
cleans (free s) = 1
cleans _ = 0

-- how many of these code has
abbrev pub cleans_in : List Placed → ℕ
cleans_in [] = 0
cleans_in (x ∷ xs) = cleans x.op + cleans_in xs

-- how many copies a cleanup has
abbrev pub copies_of : Cleanup → ℕ
copies_of (destroy_scope p d) = 2
copies_of (destroy_part p d) = 1
copies_of (free_object s) = 1
copies_of leave_handler = 2

-- how many a region has
abbrev mutual
  pub copies : Region → ℕ
  copies (seq rs) = copies_all rs
  copies (op o) = cleans (plain o)
  copies (branch v a b) = copies a + copies b
  copies (loop v r) = copies r
  copies (protect r c) = copies r + copies_of c
  copies (catch r cs) = copies_clauses cs + copies r
  copies (limit r types) = copies r
  copies (barrier r) = copies r
  copies (leave_region n) = 0

  pub copies_all : RegionList → ℕ
  copies_all no_regions = 0
  copies_all (region_then r rs) = copies r + copies_all rs

  pub copies_clauses : Clauses → ℕ
  copies_clauses no_clauses = 0
  copies_clauses (clause_then t x r cs) = copies r + copies_clauses cs
