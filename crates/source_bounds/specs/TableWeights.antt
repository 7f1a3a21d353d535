-- How many call sites the code of a region has at most, and how much its handlers and specifications weigh in the chains of filters.
use Rattle.std.specs.Prelude.{ℕ, ◌+◌, length, if◌then◌else◌}
use Rattle.region_forms.specs.Form.{Cleanup, destroy_scope, destroy_part, free_object, leave_handler, Region, seq, op, branch, loop, protect, catch, limit, barrier, leave_region, RegionList, no_regions, region_then, Clauses, no_clauses, clause_then}
use Rattle.linear_forms.specs.Emission.{may_raise}

-- a pad goes on outwards, and so may a cleanup at normal exits
abbrev pub cleanup_sites : Cleanup → ℕ
cleanup_sites (destroy_scope p n) = 2
cleanup_sites (destroy_part p n) = 1
cleanup_sites (free_object s) = 1
cleanup_sites leave_handler = 2

-- operations out of which something may come, each of which has a site
abbrev mutual
  pub sites_in : Region → ℕ
  sites_in (seq rs) = sites_in_all rs
  sites_in (op o) = if may_raise o then 1 else 0
  sites_in (branch v a b) = sites_in a + sites_in b
  sites_in (loop v r) = sites_in r
  sites_in (protect r c) = sites_in r + cleanup_sites c
  sites_in (catch r cs) = sites_in r + sites_in_clauses cs + 1
  sites_in (limit r types) = sites_in r + 2
  sites_in (barrier r) = sites_in r
  sites_in (leave_region n) = 0

  pub sites_in_all : RegionList → ℕ
  sites_in_all no_regions = 0
  sites_in_all (region_then r rs) = sites_in r + sites_in_all rs

  pub sites_in_clauses : Clauses → ℕ
  sites_in_clauses no_clauses = 0
  sites_in_clauses (clause_then t x r cs) = sites_in r + sites_in_clauses cs

-- 3 for what guards with filters, 6 for each filter, and 1 for each type of a list
abbrev mutual
  pub guards_in : Region → ℕ
  guards_in (seq rs) = guards_in_all rs
  guards_in (op o) = 0
  guards_in (branch v a b) = guards_in a + guards_in b
  guards_in (loop v r) = guards_in r
  guards_in (protect r c) = guards_in r
  guards_in (catch r cs) = guards_in r + guards_in_clauses cs + 3
  guards_in (limit r types) = guards_in r + length types + 9
  guards_in (barrier r) = guards_in r
  guards_in (leave_region n) = 0

  pub guards_in_all : RegionList → ℕ
  guards_in_all no_regions = 0
  guards_in_all (region_then r rs) = guards_in r + guards_in_all rs

  pub guards_in_clauses : Clauses → ℕ
  guards_in_clauses no_clauses = 0
  guards_in_clauses (clause_then t x r cs) = guards_in r + guards_in_clauses cs + 6

-- of these what guards and its filters alone, without the types of lists: the length of chains and their number depend on no more
abbrev mutual
  pub chain_weight : Region → ℕ
  chain_weight (seq rs) = all_chain_weight rs
  chain_weight (op o) = 0
  chain_weight (branch v a b) = chain_weight a + chain_weight b
  chain_weight (loop v r) = chain_weight r
  chain_weight (protect r c) = chain_weight r
  chain_weight (catch r cs) = chain_weight r + clauses_chain_weight cs + 3
  chain_weight (limit r types) = chain_weight r + 9
  chain_weight (barrier r) = chain_weight r
  chain_weight (leave_region n) = 0

  pub all_chain_weight : RegionList → ℕ
  all_chain_weight no_regions = 0
  all_chain_weight (region_then r rs) = chain_weight r + all_chain_weight rs

  pub clauses_chain_weight : Clauses → ℕ
  clauses_chain_weight no_clauses = 0
  clauses_chain_weight (clause_then t x r cs) = chain_weight r + clauses_chain_weight cs + 6
