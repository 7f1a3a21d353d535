-- Which guards stand around each operation of a function's code, in the order of that code (ISO/IEC 14882:2003, 15.2, 15.3, 15.4). A list of guards has the
-- innermost first.
use Rattle.std.specs.Prelude.{ℕ, zero, suc, Bool, true, false, ◌||◌, List, [], ◌∷◌, ◌++◌, map, take, Option, Some, None, is_some}
use Rattle.region_forms.specs.Form.{Op, Region, seq, op, branch, loop, protect, catch, limit, barrier, leave_region, RegionList, no_regions, region_then, Clauses, no_clauses, clause_then, RegionFunction}
use Rattle.region_forms.specs.Guard.{Guard, clauses, listed, everything, types_of}
use Rattle.linear_forms.specs.Linear.{LinearOp, plain, resume, unexpected}
use Rattle.linear_forms.specs.Distinct.{distinct}
use Rattle.linear_forms.specs.Exits.{inner, beyond, outs_of}
use Rattle.linear_forms.specs.Emission.{may_raise, exit_cleanup}

-- an exception or a forced unwind may come out of an operation, or goes on outwards from it
abbrev pub goes_out : LinearOp → Bool
goes_out (plain o) = may_raise o
goes_out (resume s) = true
goes_out (unexpected o s) = true
goes_out x = false

-- the same guards around each of some operations, one for each member of a list
abbrev pub each : {A : Type 0} → List Guard → List A → List (List Guard)
each out xs = map (λ x. out) xs

-- An exit leaves the n-th of the regions that hold it. Of each of these, the innermost first, `ways` says whether it has a cleanup at normal exits; one that the
-- exit meets runs.
abbrev pub meets_cleanup : ℕ → List Bool → Bool
meets_cleanup n [] = false
meets_cleanup zero (w ∷ ways) = w
meets_cleanup (suc n) (w ∷ ways) = w || meets_cleanup n ways

-- the jump of an exit, behind the note where it goes on if it meets a cleanup
abbrev pub leaving : List Guard → Bool → List (List Guard)
leaving out true = out ∷ (out ∷ [])
leaving out false = out ∷ []

-- the cleanup at normal exits with its label, behind the note that the end is normal where some exit goes on, and a test for each exit that does
abbrev pub cleaning : List Guard → Option Op → List ℕ → List (List Guard)
cleaning out None outs = []
cleaning out (Some o) outs = each out (take 1 outs) ++ out ∷ out ∷ each out outs

-- The guards around each operation of a region that stands in the guards `out`. A try block stands around what it guards, and not around its handlers; a
-- specification around its body. A cleanup in a landing pad stands in a barrier, since nothing may come out of it; at normal exits it stands in the guards
-- outside. Jumps, labels and what goes on outwards behind a landing pad stand in the guards outside.
abbrev mutual
  pub guards_in : List Guard → List Bool → Region → List (List Guard)
  guards_in out ways (seq rs) = guards_in_all out (false ∷ ways) rs ++ out ∷ []
  guards_in out ways (op o) = out ∷ []
  guards_in out ways (branch v a b) = out ∷ (guards_in out (false ∷ ways) a ++ out ∷ out ∷ (guards_in out (false ∷ ways) b ++ out ∷ []))
  guards_in out ways (loop v a) = out ∷ out ∷ (guards_in out (false ∷ ways) a ++ out ∷ out ∷ [])
  guards_in out ways (protect a cl) =
      out ∷ out ∷ (everything ∷ out) ∷ out ∷ out ∷
      (guards_in out (is_some (exit_cleanup cl) ∷ ways) a ++ (cleaning out (exit_cleanup cl) (distinct (beyond (outs_of a))) ++ out ∷ []))
  guards_in out ways (catch a cs) =
      out ∷ out ∷ (each out (types_of cs) ++ out ∷
      (guards_in_handlers out (false ∷ ways) cs ++ out ∷ (guards_in (clauses (types_of cs) ∷ out) (false ∷ ways) a ++ out ∷ [])))
  guards_in out ways (limit a types) = out ∷ out ∷ out ∷ out ∷ out ∷ out ∷ out ∷ (guards_in (listed types ∷ out) (false ∷ ways) a ++ out ∷ [])
  guards_in out ways (barrier a) = guards_in (everything ∷ out) (false ∷ ways) a ++ out ∷ []
  guards_in out ways (leave_region n) = leaving out (meets_cleanup (inner n) ways)

  pub guards_in_all : List Guard → List Bool → RegionList → List (List Guard)
  guards_in_all out ways no_regions = []
  guards_in_all out ways (region_then a rs) = guards_in out ways a ++ guards_in_all out ways rs

  -- of each handler its label, the binding of its object, its body, and the jump behind it
  pub guards_in_handlers : List Guard → List Bool → Clauses → List (List Guard)
  guards_in_handlers out ways no_clauses = []
  guards_in_handlers out ways (clause_then t s a cs) = out ∷ out ∷ (guards_in out ways a ++ out ∷ guards_in_handlers out ways cs)

-- the guards around each operation of a function, the last of which returns
abbrev pub guards_of : RegionFunction → List (List Guard)
guards_of f = guards_in [] [] f.body ++ [] ∷ []
