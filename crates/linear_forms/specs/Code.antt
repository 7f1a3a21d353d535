-- The linear code of a region.
use Rattle.std.specs.Prelude.{ℕ, ◌+◌, List, [], ◌∷◌, ◌++◌, length}
use Rattle.region_forms.specs.Form.{Region, seq, op, branch, loop, protect, catch, limit, barrier, leave_region, RegionList, no_regions, region_then, Clauses, no_clauses, clause_then}
use Rattle.region_forms.specs.Guard.{types_of}
use Rattle.linear_forms.specs.Linear.{label, jump_filter}
use Rattle.linear_forms.specs.Tables.{Cover, bare, clause, list_of}
use Rattle.linear_forms.specs.Sites.{Placed}
use Rattle.linear_forms.specs.Distinct.{distinct}
use Rattle.linear_forms.specs.Exits.{Exit, exit_to, inner, beyond, outs_of}
use Rattle.linear_forms.specs.Emission.{Emitting, quiet, put, guarded, cleaned, leave_code, protect_exit, protect_code, branch_code, loop_code, catch_code, handler_code, limit_code, filters_of}

-- how many labels a region's code has
abbrev mutual
  pub labels : Region → ℕ
  labels (seq rs) = labels_all rs + 1
  labels (op o) = 0
  labels (branch v a b) = labels a + labels b + 2
  labels (loop v r) = labels r + 2
  labels (protect r c) = labels r + 3
  labels (catch r cs) = labels r + labels_clauses cs + length (types_of cs) + 2
  labels (limit r types) = labels r + 3
  labels (barrier r) = labels r + 1
  labels (leave_region n) = 0

  pub labels_all : RegionList → ℕ
  labels_all no_regions = 0
  labels_all (region_then r rs) = labels r + labels_all rs

  -- of the handlers, without those at which they begin
  pub labels_clauses : Clauses → ℕ
  labels_clauses no_clauses = 0
  labels_clauses (clause_then t x r cs) = labels r + labels_clauses cs

-- a test for each clause, whose handlers begin at labels from l on
abbrev pub clause_tests : Emitting → ℕ → Clauses → List Placed
clause_tests em l no_clauses = []
clause_tests em l (clause_then t x r cs) = quiet (jump_filter em.selector (em.filter (clause t)) l) ∷ clause_tests em (l + 1) cs

-- a region's code: in a cover, inside regions with these exits, with labels from l on, from place p on
abbrev mutual
  pub region_code : Emitting → Cover → List Exit → (l p : ℕ) → Region → List Placed
  region_code em c xs l p (seq rs) = all_code em c (exit_to l ∷ xs) (l + 1) p rs ++ quiet (label l) ∷ []
  region_code em c xs l p (op o) = put o c ∷ []
  region_code em c xs l p (branch v a b) =
      let first = region_code em c (exit_to l ∷ xs) (l + 2) (p + 1) a in
      branch_code v l first (region_code em c (exit_to l ∷ xs) (l + 2 + labels a) (p + 3 + length first) b)
  region_code em c xs l p (loop v r) = loop_code v l (region_code em c (exit_to l ∷ xs) (l + 2) (p + 2) r)
  region_code em c xs l p (protect r cl) =
      protect_code em cl c xs l (distinct (beyond (outs_of r)))
      (region_code em (cleaned em (p + 1) c) (protect_exit cl l ∷ xs) (l + 3) (p + 5) r)
  region_code em c xs l p (catch r cs) =
      let tests = clause_tests em (l + 2) cs in
      let handlers = clauses_code em c (exit_to l ∷ xs) l (l + 2) (l + 2 + length (types_of cs)) (p + 3 + length tests) cs in
      catch_code em c l tests handlers
      (region_code em (guarded (p + 1) (filters_of em (types_of cs)) c) (exit_to l ∷ xs) (l + 2 + length (types_of cs) + labels_clauses cs)
      (p + 4 + length tests + length handlers) r)
  region_code em c xs l p (limit r types) =
      limit_code em (em.filter (list_of types)) c l
      (region_code em (guarded (p + 1) (em.filter (list_of types) ∷ []) c) (exit_to l ∷ xs) (l + 3) (p + 7) r)
  region_code em c xs l p (barrier r) = region_code em bare (exit_to l ∷ xs) (l + 1) p r ++ quiet (label l) ∷ []
  region_code em c xs l p (leave_region n) = leave_code em (inner n) xs

  -- regions one after the other
  pub all_code : Emitting → Cover → List Exit → (l p : ℕ) → RegionList → List Placed
  all_code em c xs l p no_regions = []
  all_code em c xs l p (region_then r rs) =
      let a = region_code em c xs l p r in a ++ all_code em c xs (l + labels r) (p + length a) rs

  -- the handlers of clauses, which begin at labels from `first` on and jump to the end
  pub clauses_code : Emitting → Cover → List Exit → (end first l p : ℕ) → Clauses → List Placed
  clauses_code em c xs end first l p no_clauses = []
  clauses_code em c xs end first l p (clause_then t x r cs) =
      let a = region_code em c xs l (p + 2) r in
      handler_code em x end first a (clauses_code em c xs end (first + 1) (l + labels r) (p + 3 + length a) cs)
