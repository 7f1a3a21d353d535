-- The types and lists of a function's tables, and its filters. The tables have each type and each list once, in the order in which the
-- function's landing pads first name them.
use Rattle.std.specs.Prelude.{ℕ, ◌+◌, ℤ, pos, negsuc, ◌==◌, List, [], ◌∷◌, ◌++◌, map, Option, Some, None, if◌then◌else◌}
use Rattle.region_forms.specs.Form.{Region, seq, op, branch, loop, protect, catch, limit, barrier, leave_region, RegionList, no_regions, region_then, Clauses, no_clauses, clause_then}
use Rattle.region_forms.specs.Guard.{types_of}
use Rattle.linear_forms.specs.Tables.{Sense, cleanup, clause, list_of, no_sense, list_bytes}
use Rattle.linear_forms.specs.Distinct.{distinct, same_list, distinct_lists}

-- a clause's type as a table has it: 0 for `catch (...)`, else one more than its number
abbrev pub table_type : Option ℕ → ℕ
table_type None = 0
table_type (Some t) = t + 1

-- the types that a region's pads name, in the order of the code: a pad's own, those of its handlers, those of what it guards
abbrev mutual
  pub type_uses : Region → List ℕ
  type_uses (seq rs) = type_uses_all rs
  type_uses (op o) = []
  type_uses (branch v a b) = type_uses a ++ type_uses b
  type_uses (loop v r) = type_uses r
  type_uses (protect r c) = type_uses r
  type_uses (catch r cs) = map table_type (types_of cs) ++ (type_uses_clauses cs ++ type_uses r)
  type_uses (limit r types) = map (λ t. t + 1) types ++ type_uses r
  type_uses (barrier r) = type_uses r
  type_uses (leave_region n) = []

  pub type_uses_all : RegionList → List ℕ
  type_uses_all no_regions = []
  type_uses_all (region_then r rs) = type_uses r ++ type_uses_all rs

  pub type_uses_clauses : Clauses → List ℕ
  type_uses_clauses no_clauses = []
  type_uses_clauses (clause_then t x r cs) = type_uses r ++ type_uses_clauses cs

-- the lists of a region's specifications, in the same order
abbrev mutual
  pub list_uses : Region → List (List ℕ)
  list_uses (seq rs) = list_uses_all rs
  list_uses (op o) = []
  list_uses (branch v a b) = list_uses a ++ list_uses b
  list_uses (loop v r) = list_uses r
  list_uses (protect r c) = list_uses r
  list_uses (catch r cs) = list_uses_clauses cs ++ list_uses r
  list_uses (limit r types) = types ∷ list_uses r
  list_uses (barrier r) = list_uses r
  list_uses (leave_region n) = []

  pub list_uses_all : RegionList → List (List ℕ)
  list_uses_all no_regions = []
  list_uses_all (region_then r rs) = list_uses r ++ list_uses_all rs

  pub list_uses_clauses : Clauses → List (List ℕ)
  list_uses_clauses no_clauses = []
  list_uses_clauses (clause_then t x r cs) = list_uses r ++ list_uses_clauses cs

-- the place of a number in a list, counted from 1; that of one that is not there is behind the last
abbrev pub index_of : ℕ → List ℕ → ℕ
index_of n [] = 1
index_of n (m ∷ ms) = if n == m then 1 else index_of n ms + 1

-- a list of types as indices
abbrev pub indices_of : List ℕ → List ℕ → List ℕ
indices_of types ts = map (λ t. index_of (t + 1) types) ts

-- the byte at which a list begins; that of one that is not there is behind the last
abbrev pub byte_of_list : List ℕ → List (List ℕ) → ℕ
byte_of_list l [] = 0
byte_of_list l (m ∷ ms) = if same_list l m then 0 else list_bytes m + byte_of_list l ms

-- the filter for what is meant, by a function's types and lists
abbrev pub filter_for : List ℕ → List (List ℕ) → Sense → ℤ
filter_for types lists cleanup = pos 0
filter_for types lists (clause t) = pos (index_of (table_type t) types)
filter_for types lists (list_of ts) = negsuc (byte_of_list (indices_of types ts) lists)
filter_for types lists no_sense = pos 0

-- the types of a region's tables
abbrev pub types_in : Region → List ℕ
types_in r = distinct (type_uses r)

-- the lists of a region's tables
abbrev pub lists_in : Region → List (List ℕ)
lists_in r = distinct_lists (map (indices_of (types_in r)) (list_uses r))
