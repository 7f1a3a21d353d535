-- No operation of a region's code needs more registers than there are, where none of its values does.
use Rattle.std.proofs.Common.{ℕ, ◌+◌, Bool, true, false, List, [], ◌∷◌, ◌++◌, map, length, if◌then◌else◌, arith}
use Rattle.std.specs.List.{AllByRecursion}
use Rattle.region_forms.specs.Form.{Cleanup, destroy_scope, destroy_part, free_object, leave_handler, Region, seq, op, branch, loop, protect, catch, limit, barrier, leave_region, RegionList, no_regions, region_then, Clauses, no_clauses, clause_then, RegionFunction}
use Rattle.region_forms.specs.Guard.{types_of}
use Rattle.linear_forms.specs.Linear.{jump}
use Rattle.linear_forms.specs.Tables.{Cover, bare, unpadded, list_of}
use Rattle.linear_forms.specs.Sites.{Placed}
use Rattle.linear_forms.specs.Distinct.{distinct}
use Rattle.linear_forms.specs.Exits.{Exit, exit_to, inner, first_label, crosses, name_of, beyond, outs_of}
use Rattle.linear_forms.specs.Emission.{Emitting, quiet, guarded, cleaned, set_way, leave_code, way_tests, pad_cleanup, exit_cleanup, protect_exit, no_way_out, exit_code, filters_of}
use Rattle.linear_forms.specs.Code.{labels, labels_clauses, clause_tests, region_code, all_code, clauses_code}
use Rattle.linear_forms.specs.Unit.{emitting, placed_code, function_code}
use Rattle.machine_forms.specs.Bounds.{LinearFits}
use Rattle.source_bounds.specs.RegisterWeights.{RegionFits, RegionsFit, ClausesFit}

abbrev Fit : List Placed → Type 0
Fit xs = AllByRecursion (λ x. LinearFits x.op) xs

both_fit : (a b : List Placed) → Fit a → Fit b → Fit (a ++ b)
both_fit [] b h k = k
both_fit (x ∷ a) b h k = (h.0, both_fit a b h.1 k)

leave_fits : (em : Emitting) (n : ℕ) (xs : List Exit) → Fit (leave_code em n xs)
leave_fits em n xs = go (crosses n xs)
  where
    go : (b : Bool) → Fit (if b then set_way em (name_of n xs) ∷ quiet (jump (first_label n xs)) ∷ [] else quiet (jump (first_label n xs)) ∷ [])
    go true = (omega arith, (tt, tt))
    go false = (tt, tt)

tests_fit : (em : Emitting) (xs : List Exit) (outs : List ℕ) → Fit (way_tests em xs outs)
tests_fit em xs [] = tt
tests_fit em xs (n ∷ outs) = (omega arith, tests_fit em xs outs)

no_way_fits : (em : Emitting) (outs : List ℕ) → Fit (no_way_out em outs)
no_way_fits em [] = tt
no_way_fits em (n ∷ outs) = (omega arith, tt)

exit_fits : (em : Emitting) (cl : Cleanup) (c : Cover) (xs : List Exit) (l : ℕ) (outs : List ℕ) → Fit (exit_code em (exit_cleanup cl) c xs l outs)
exit_fits em (destroy_scope p n) c xs l outs = both_fit (no_way_out em outs) _ (no_way_fits em outs) (tt, (tt, tests_fit em xs outs))
exit_fits em (destroy_part p n) c xs l outs = tt
exit_fits em (free_object s) c xs l outs = tt
exit_fits em leave_handler c xs l outs = both_fit (no_way_out em outs) _ (no_way_fits em outs) (tt, (tt, tests_fit em xs outs))

pad_fits : (cl : Cleanup) → LinearFits (pad_cleanup cl).op
pad_fits (destroy_scope p n) = tt
pad_fits (destroy_part p n) = tt
pad_fits (free_object s) = tt
pad_fits leave_handler = tt

clause_tests_fit : (em : Emitting) (l : ℕ) (cs : Clauses) → Fit (clause_tests em l cs)
clause_tests_fit em l no_clauses = tt
clause_tests_fit em l (clause_then t s r cs) = (tt, clause_tests_fit em (l + 1) cs)

mutual
  region_fits : (r : Region) (em : Emitting) (c : Cover) (xs : List Exit) (l p : ℕ) → RegionFits r → Fit (region_code em c xs l p r)
  region_fits (seq rs) em c xs l p h = both_fit (all_code em c (exit_to l ∷ xs) (l + 1) p rs) _ (all_fits rs em c (exit_to l ∷ xs) (l + 1) p h) (tt, tt)
  region_fits (op o) em c xs l p h = (h, tt)
  region_fits (branch v a b) em c xs l p h =
      let first = region_code em c (exit_to l ∷ xs) (l + 2) (p + 1) a in
      let second = region_code em c (exit_to l ∷ xs) (l + 2 + labels a) (p + 3 + length first) b in (
        h.0,
        both_fit first _ (region_fits a em c (exit_to l ∷ xs) (l + 2) (p + 1) h.1)
            (tt, (tt, both_fit second _ (region_fits b em c (exit_to l ∷ xs) (l + 2 + labels a) (p + 3 + length first) h.2) (tt, tt))),
      )
  region_fits (loop v r) em c xs l p h =
      (tt, (h.0, both_fit (region_code em c (exit_to l ∷ xs) (l + 2) (p + 2) r) _ (region_fits r em c (exit_to l ∷ xs) (l + 2) (p + 2) h.1) (tt, (tt, tt))))
  region_fits (protect r cl) em c xs l p h =
      let outs = distinct (beyond (outs_of r)) in
      let exits = exit_code em (exit_cleanup cl) c xs l outs in
      let body = region_code em (cleaned em (p + 1) c) (protect_exit cl l ∷ xs) (l + 3) (p + 5) r in (
        tt,
        (
          tt,
          (
            pad_fits cl,
            (
              tt,
              (
                tt,
                both_fit body _ (region_fits r em (cleaned em (p + 1) c) (protect_exit cl l ∷ xs) (l + 3) (p + 5) h)
                    (both_fit exits _ (exit_fits em cl c xs l outs) (tt, tt)),
              ),
            ),
          ),
        ),
      )
  region_fits (catch r cs) em c xs l p h =
      let n = length (types_of cs) in
      let tests = clause_tests em (l + 2) cs in
      let handlers = clauses_code em c (exit_to l ∷ xs) l (l + 2) (l + 2 + n) (p + 3 + length tests) cs in
      let inside = guarded (p + 1) (filters_of em (types_of cs)) c in
      let body = region_code em inside (exit_to l ∷ xs) (l + 2 + n + labels_clauses cs) (p + 4 + length tests + length handlers) r in (
        tt,
        (
          tt,
          both_fit tests _ (clause_tests_fit em (l + 2) cs) (
            tt,
            both_fit handlers _ (clauses_fit cs em c (exit_to l ∷ xs) l (l + 2) (l + 2 + n) (p + 3 + length tests) h.1)
                (tt, both_fit body _ (region_fits r em inside (exit_to l ∷ xs) (l + 2 + n + labels_clauses cs) (p + 4 + length tests + length handlers) h.0) (tt, tt)),
          ),
        ),
      )
  region_fits (limit r types) em c xs l p h =
      let inside = guarded (p + 1) (em.filter (list_of types) ∷ []) c in
      (tt, (tt, (tt, (tt, (tt, (tt, (tt, both_fit (region_code em inside (exit_to l ∷ xs) (l + 3) (p + 7) r) _ (region_fits r em inside (exit_to l ∷ xs) (l + 3) (p + 7) h) (tt, tt))))))))
  region_fits (barrier r) em c xs l p h = both_fit (region_code em bare (exit_to l ∷ xs) (l + 1) p r) _ (region_fits r em bare (exit_to l ∷ xs) (l + 1) p h) (tt, tt)
  region_fits (leave_region n) em c xs l p h = leave_fits em (inner n) xs

  all_fits : (rs : RegionList) (em : Emitting) (c : Cover) (xs : List Exit) (l p : ℕ) → RegionsFit rs → Fit (all_code em c xs l p rs)
  all_fits no_regions em c xs l p h = tt
  all_fits (region_then r rs) em c xs l p h =
      let first = region_code em c xs l p r in
      both_fit first _ (region_fits r em c xs l p h.0) (all_fits rs em c xs (l + labels r) (p + length first) h.1)

  clauses_fit : (cs : Clauses) (em : Emitting) (c : Cover) (xs : List Exit) (end first l p : ℕ) → ClausesFit cs → Fit (clauses_code em c xs end first l p cs)
  clauses_fit no_clauses em c xs end first l p h = tt
  clauses_fit (clause_then t s r cs) em c xs end first l p h =
      let body = region_code em c xs l (p + 2) r in
      (tt, (tt, both_fit body _ (region_fits r em c xs l (p + 2) h.0) (tt, clauses_fit cs em c xs end (first + 1) (l + labels r) (p + 3 + length body) h.1)))

taken_out : (xs : List Placed) → Fit xs → AllByRecursion LinearFits (map (λ x. x.op) xs)
taken_out [] h = tt
taken_out (x ∷ xs) h = (h.0, taken_out xs h.1)

pub function_fits : (f : RegionFunction) → RegionFits f.body → AllByRecursion LinearFits (function_code f).ops
function_fits f h =
    taken_out (placed_code f) (both_fit (region_code (emitting f) unpadded [] 0 0 f.body) _ (region_fits f.body (emitting f) unpadded [] 0 0 h) (tt, tt))
