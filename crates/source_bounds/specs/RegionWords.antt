-- How many words the code of a region has at most, where the exits out of each scope go to at most three places.
use Rattle.std.specs.Prelude.{ℕ, ◌+◌, ◌≤◌, length}
use Rattle.region_forms.specs.Form.{Cleanup, destroy_scope, destroy_part, free_object, leave_handler, Region, seq, op, branch, loop, protect, catch, limit, barrier, leave_region, RegionList, no_regions, region_then, Clauses, no_clauses, clause_then}
use Rattle.linear_forms.specs.Distinct.{distinct}
use Rattle.linear_forms.specs.Exits.{beyond, outs_of}
use Rattle.source_bounds.specs.OperationWords.{value_words, op_words}

-- A cleanup in its pad. One of normal exits stands a second time, with what says at a normal end that no exit goes on, and with a test of
-- where an exit goes on for each of three places.
abbrev pub cleanup_words : Cleanup → ℕ
cleanup_words (destroy_scope p n) = 41
cleanup_words (destroy_part p n) = 5
cleanup_words (free_object s) = 3
cleanup_words leave_handler = 547

abbrev mutual
  pub region_words : Region → ℕ
  region_words (seq rs) = all_words rs
  region_words (op o) = op_words o
  region_words (branch v a b) = region_words a + region_words b + value_words v + 3
  region_words (loop v r) = region_words r + value_words v + 3
  region_words (protect r c) = region_words r + cleanup_words c + 6
  region_words (catch r cs) = region_words r + clauses_words cs + 6
  region_words (limit r types) = region_words r + 273
  region_words (barrier r) = region_words r
  region_words (leave_region n) = 5

  pub all_words : RegionList → ℕ
  all_words no_regions = 0
  all_words (region_then r rs) = region_words r + all_words rs

  -- handlers, with the tests that lead to them
  pub clauses_words : Clauses → ℕ
  clauses_words no_clauses = 0
  clauses_words (clause_then t x r cs) = region_words r + clauses_words cs + 9

-- exits out of each scope and handler go to at most three places
abbrev mutual
  pub HasFewWays : Region → Type 0
  HasFewWays (seq rs) = AllHaveFewWays rs
  HasFewWays (op o) = Unit {0}
  HasFewWays (branch v a b) = HasFewWays a × HasFewWays b
  HasFewWays (loop v r) = HasFewWays r
  HasFewWays (protect r c) = (length (distinct (beyond (outs_of r))) ≤ 3) × HasFewWays r
  HasFewWays (catch r cs) = HasFewWays r × ClausesHaveFewWays cs
  HasFewWays (limit r types) = HasFewWays r
  HasFewWays (barrier r) = HasFewWays r
  HasFewWays (leave_region n) = Unit {0}

  pub AllHaveFewWays : RegionList → Type 0
  AllHaveFewWays no_regions = Unit {0}
  AllHaveFewWays (region_then r rs) = HasFewWays r × AllHaveFewWays rs

  pub ClausesHaveFewWays : Clauses → Type 0
  ClausesHaveFewWays no_clauses = Unit {0}
  ClausesHaveFewWays (clause_then t x r cs) = HasFewWays r × ClausesHaveFewWays cs
