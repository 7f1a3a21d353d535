-- A region's code is no longer than is said.
use Rattle.std.proofs.Common.{◌≡◌, ℕ, ◌+◌, ◌≤◌, Bool, true, false, List, [], ◌∷◌, ◌++◌, length, length-append, Option, Some, None, refl, arith}
use Rattle.std.specs.Prelude.{if◌then◌else◌}
use Rattle.region_forms.specs.Form.{Op, Region, seq, op, branch, loop, protect, catch, limit, barrier, leave_region, RegionList, no_regions, region_then, Clauses, no_clauses, clause_then}
use Rattle.region_forms.specs.Guard.{types_of}
use Rattle.linear_forms.specs.Linear.{label, jump, resume, return}
use Rattle.linear_forms.specs.Tables.{Cover, bare, unpadded, list_of}
use Rattle.linear_forms.specs.Distinct.{distinct}
use Rattle.linear_forms.specs.Exits.{Exit, exit_to, inner, first_label, crosses, name_of, beyond, outs_of}
use Rattle.linear_forms.specs.Emission.{Emitting, quiet, outward, put, guarded, cleaned, set_way, leave_code, way_tests, exit_cleanup, protect_exit, no_way_out, exit_code, filters_of}
use Rattle.linear_forms.specs.Code.{labels, labels_clauses, clause_tests, region_code, all_code, clauses_code}
use Rattle.linear_forms.specs.Unit.{emitting}
use Rattle.linear_forms.specs.Size.{most_ops, most_ops_all, most_ops_clauses}
use Rattle.linear_forms.specs.Laws.{CodeIsShort}

leave_short : (em : Emitting) (n : ℕ) (xs : List Exit) → length (leave_code em n xs) ≤ 2
leave_short em n xs = go (crosses n xs)
  where
    go : (b : Bool) → length (if b then set_way em (name_of n xs) ∷ quiet (jump (first_label n xs)) ∷ [] else quiet (jump (first_label n xs)) ∷ []) ≤ 2
    go true = omega arith
    go false = omega arith

tests_length : (em : Emitting) (xs : List Exit) (outs : List ℕ) → length (way_tests em xs outs) ≡ length outs
tests_length em xs [] = refl
tests_length em xs (n ∷ outs) = omega (arith, tests_length em xs outs)

no_way_short : (em : Emitting) (outs : List ℕ) → length (no_way_out em outs) ≤ 1
no_way_short em [] = omega arith
no_way_short em (n ∷ outs) = omega arith

exit_short : (em : Emitting) (o : Option Op) (c : Cover) (xs : List Exit) (l : ℕ) (outs : List ℕ) → length (exit_code em o c xs l outs) ≤ length outs + 3
exit_short em None c xs l outs = omega arith
exit_short em (Some o) c xs l outs =
    omega (arith, length-append (no_way_out em outs) (quiet (label (l + 2)) ∷ put o c ∷ way_tests em xs outs), no_way_short em outs, tests_length em xs outs)

-- the tests of clauses are one each
abbrev clause_count : Clauses → ℕ
clause_count no_clauses = 0
clause_count (clause_then t s r cs) = clause_count cs + 1

clause_tests_length : (em : Emitting) (l : ℕ) (cs : Clauses) → length (clause_tests em l cs) ≡ clause_count cs
clause_tests_length em l no_clauses = refl
clause_tests_length em l (clause_then t s r cs) = omega (arith, clause_tests_length em (l + 1) cs)

mutual
  region_short : (r : Region) (em : Emitting) (c : Cover) (xs : List Exit) (l p : ℕ) → length (region_code em c xs l p r) ≤ most_ops r
  region_short (seq rs) em c xs l p =
      omega (arith, length-append (all_code em c (exit_to l ∷ xs) (l + 1) p rs) (quiet (label l) ∷ []), all_short rs em c (exit_to l ∷ xs) (l + 1) p)
  region_short (op o) em c xs l p = omega arith
  region_short (branch v a b) em c xs l p =
      let first = region_code em c (exit_to l ∷ xs) (l + 2) (p + 1) a in
      let second = region_code em c (exit_to l ∷ xs) (l + 2 + labels a) (p + 3 + length first) b in
      omega (
        arith,
        length-append first (quiet (jump l) ∷ quiet (label (l + 1)) ∷ (second ++ quiet (label l) ∷ [])),
        length-append second (quiet (label l) ∷ []),
        region_short a em c (exit_to l ∷ xs) (l + 2) (p + 1),
        region_short b em c (exit_to l ∷ xs) (l + 2 + labels a) (p + 3 + length first),
      )
  region_short (loop v r) em c xs l p =
      omega (
        arith,
        length-append (region_code em c (exit_to l ∷ xs) (l + 2) (p + 2) r) (quiet (jump (l + 1)) ∷ quiet (label l) ∷ []),
        region_short r em c (exit_to l ∷ xs) (l + 2) (p + 2),
      )
  region_short (protect r cl) em c xs l p =
      let outs = distinct (beyond (outs_of r)) in
      let exits = exit_code em (exit_cleanup cl) c xs l outs in
      let body = region_code em (cleaned em (p + 1) c) (protect_exit cl l ∷ xs) (l + 3) (p + 5) r in
      omega (
        arith,
        exit_short em (exit_cleanup cl) c xs l outs,
        length-append body (exits ++ quiet (label l) ∷ []),
        length-append exits (quiet (label l) ∷ []),
        region_short r em (cleaned em (p + 1) c) (protect_exit cl l ∷ xs) (l + 3) (p + 5),
      )
  region_short (catch r cs) em c xs l p =
      let n = length (types_of cs) in
      let tests = clause_tests em (l + 2) cs in
      let handlers = clauses_code em c (exit_to l ∷ xs) l (l + 2) (l + 2 + n) (p + 3 + length tests) cs in
      let inside = guarded (p + 1) (filters_of em (types_of cs)) c in
      let body = region_code em inside (exit_to l ∷ xs) (l + 2 + n + labels_clauses cs) (p + 4 + length tests + length handlers) r in
      omega (
        arith,
        clause_tests_length em (l + 2) cs,
        length-append tests (outward (resume em.object) c ∷ (handlers ++ quiet (label (l + 1)) ∷ (body ++ quiet (label l) ∷ []))),
        length-append handlers (quiet (label (l + 1)) ∷ (body ++ quiet (label l) ∷ [])),
        length-append body (quiet (label l) ∷ []),
        clauses_short cs em c (exit_to l ∷ xs) l (l + 2) (l + 2 + n) (p + 3 + length tests),
        region_short r em inside (exit_to l ∷ xs) (l + 2 + n + labels_clauses cs) (p + 4 + length tests + length handlers),
      )
  region_short (limit r types) em c xs l p =
      let inside = guarded (p + 1) (em.filter (list_of types) ∷ []) c in
      omega (arith, length-append (region_code em inside (exit_to l ∷ xs) (l + 3) (p + 7) r) (quiet (label l) ∷ []), region_short r em inside (exit_to l ∷ xs) (l + 3) (p + 7))
  region_short (barrier r) em c xs l p =
      omega (arith, length-append (region_code em bare (exit_to l ∷ xs) (l + 1) p r) (quiet (label l) ∷ []), region_short r em bare (exit_to l ∷ xs) (l + 1) p)
  region_short (leave_region n) em c xs l p = leave_short em (inner n) xs

  all_short : (rs : RegionList) (em : Emitting) (c : Cover) (xs : List Exit) (l p : ℕ) → length (all_code em c xs l p rs) ≤ most_ops_all rs
  all_short no_regions em c xs l p = omega arith
  all_short (region_then r rs) em c xs l p =
      let first = region_code em c xs l p r in
      omega (
        arith,
        length-append first (all_code em c xs (l + labels r) (p + length first) rs),
        region_short r em c xs l p,
        all_short rs em c xs (l + labels r) (p + length first),
      )

  -- handlers and the tests of their clauses
  clauses_short : (cs : Clauses) (em : Emitting) (c : Cover) (xs : List Exit) (end first l p : ℕ)
      → clause_count cs + length (clauses_code em c xs end first l p cs) ≤ most_ops_clauses cs
  clauses_short no_clauses em c xs end first l p = omega arith
  clauses_short (clause_then t s r cs) em c xs end first l p =
      let body = region_code em c xs l (p + 2) r in
      omega (
        arith,
        length-append body (quiet (jump end) ∷ clauses_code em c xs end (first + 1) (l + labels r) (p + 3 + length body) cs),
        region_short r em c xs l (p + 2),
        clauses_short cs em c xs end (first + 1) (l + labels r) (p + 3 + length body),
      )

pub code_is_short : CodeIsShort
code_is_short f =
    omega (arith, length-append (region_code (emitting f) unpadded [] 0 0 f.body) (quiet (return f.result) ∷ []), region_short f.body (emitting f) unpadded [] 0 0)
