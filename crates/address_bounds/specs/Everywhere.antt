-- What is said of all operations of a region, and of all values that it tests.
use Rattle.std.specs.Prelude.{⊤, ℕ, ◌+◌}
use Rattle.region_forms.specs.Form.{Value, Op, destroy, Cleanup, destroy_scope, destroy_part, free_object, leave_handler, Region, seq, op, branch, loop, protect, catch, limit, barrier, leave_region, RegionList, no_regions, region_then, Clauses, no_clauses, clause_then}

-- of an operation, of a value that is tested, of the slot of a clause and of one whose object is freed
pub record Said : Type 1 where
  pub operation : Op → Type 0
  pub test : Value → Type 0
  pub caught : ℕ → Type 0
  pub freed : ℕ → Type 0

abbrev pub CleanupAll : Said → Cleanup → Type 0
CleanupAll said (destroy_scope q n) = said.operation (destroy q n)
CleanupAll said (destroy_part q n) = said.operation (destroy q n)
CleanupAll said (free_object s) = said.freed s
CleanupAll said leave_handler = ⊤

abbrev mutual
  pub RegionAll : Said → Region → Type 0
  RegionAll said (seq rs) = RegionsAll said rs
  RegionAll said (op o) = said.operation o
  RegionAll said (branch v a b) = said.test v × RegionAll said a × RegionAll said b
  RegionAll said (loop v a) = said.test v × RegionAll said a
  RegionAll said (protect a c) = RegionAll said a × CleanupAll said c
  RegionAll said (catch a cs) = RegionAll said a × ClausesAll said cs
  RegionAll said (limit a types) = RegionAll said a
  RegionAll said (barrier a) = RegionAll said a
  RegionAll said (leave_region n) = ⊤

  pub RegionsAll : Said → RegionList → Type 0
  RegionsAll said no_regions = ⊤
  RegionsAll said (region_then a rs) = RegionAll said a × RegionsAll said rs

  pub ClausesAll : Said → Clauses → Type 0
  ClausesAll said no_clauses = ⊤
  ClausesAll said (clause_then t s a cs) = said.caught s × RegionAll said a × ClausesAll said cs

-- how many regions hold others, which is no less than how deep they stand in one another
abbrev mutual
  pub holders : Region → ℕ
  holders (seq rs) = holders_all rs + 1
  holders (op o) = 0
  holders (branch v a b) = holders a + holders b + 1
  holders (loop v a) = holders a + 1
  holders (protect a c) = holders a + 1
  holders (catch a cs) = holders a + holders_clauses cs + 1
  holders (limit a types) = holders a + 1
  holders (barrier a) = holders a + 1
  holders (leave_region n) = 0

  pub holders_all : RegionList → ℕ
  holders_all no_regions = 0
  holders_all (region_then a rs) = holders a + holders_all rs

  pub holders_clauses : Clauses → ℕ
  holders_clauses no_clauses = 0
  holders_clauses (clause_then t s a cs) = holders a + holders_clauses cs
