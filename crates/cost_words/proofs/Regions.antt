-- The words of a region's operations are no more than is said, as source_bounds has it of its code.
use Rattle.std.proofs.Common.{◌≡◌, ℕ, ◌+◌, ◌≤◌, Bool, true, false, List, [], ◌∷◌, ◌++◌, length, Option, Some, None, refl, if◌then◌else◌, arith}
use Rattle.region_forms.specs.Form.{Op, Cleanup, destroy_scope, destroy_part, free_object, leave_handler, Region, seq, op, branch, loop, protect, catch, limit, barrier, leave_region, RegionList, no_regions, region_then, Clauses, no_clauses, clause_then}
use Rattle.region_forms.specs.Guard.{types_of}
use Rattle.linear_forms.specs.Linear.{LinearOp, label, jump, resume, return}
use Rattle.linear_forms.specs.Tables.{Cover, bare, list_of}
use Rattle.linear_forms.specs.Sites.{Placed}
use Rattle.linear_forms.specs.Distinct.{distinct}
use Rattle.linear_forms.specs.Exits.{Exit, exit_to, inner, first_label, crosses, name_of, beyond, outs_of}
use Rattle.linear_forms.specs.Emission.{Emitting, quiet, outward, put, guarded, cleaned, set_way, leave_code, way_tests, pad_cleanup, exit_cleanup, protect_exit, no_way_out, exit_code, filters_of}
use Rattle.linear_forms.specs.Code.{labels, labels_clauses, clause_tests, region_code, all_code, clauses_code}
use Rattle.source_bounds.specs.OperationWords.{op_words, linear_words}
use Rattle.source_bounds.specs.RegionWords.{cleanup_words, region_words, all_words, clauses_words, HasFewWays, AllHaveFewWays, ClausesHaveFewWays}

-- the words of an operation, where a return counts as so many
abbrev pub counted_words : ℕ → LinearOp → ℕ
counted_words back (return r) = back
counted_words back o = linear_words o

-- those of operations one behind the other
abbrev pub words : ℕ → List Placed → ℕ
words back [] = 0
words back (x ∷ xs) = counted_words back x.op + words back xs

pub words-append : (back : ℕ) (a b : List Placed) → words back (a ++ b) ≡ words back a + words back b
words-append back [] b = omega arith
words-append back (x ∷ a) b = omega (arith, words-append back a b)

leave_short : (back : ℕ) (em : Emitting) (n : ℕ) (xs : List Exit) → words back (leave_code em n xs) ≤ 5
leave_short back em n xs = go (crosses n xs)
  where
    go : (b : Bool) → words back (if b then set_way em (name_of n xs) ∷ quiet (jump (first_label n xs)) ∷ [] else quiet (jump (first_label n xs)) ∷ []) ≤ 5
    go true = omega arith
    go false = omega arith

tests_short : (back : ℕ) (em : Emitting) (xs : List Exit) (outs : List ℕ) → length outs ≤ 3 → words back (way_tests em xs outs) ≤ 27
tests_short back em xs [] h = omega arith
tests_short back em xs (a ∷ []) h = omega arith
tests_short back em xs (a ∷ b ∷ []) h = omega arith
tests_short back em xs (a ∷ b ∷ c ∷ []) h = omega arith
tests_short back em xs (a ∷ b ∷ c ∷ d ∷ outs) h = absurd (omega (arith, h))

no_way_short : (back : ℕ) (em : Emitting) (outs : List ℕ) → words back (no_way_out em outs) ≤ 4
no_way_short back em [] = omega arith
no_way_short back em (n ∷ outs) = omega arith

-- where a cleanup stands at normal exits
abbrev exit_words : Option Op → ℕ
exit_words None = 0
exit_words (Some o) = op_words o + 31

exit_short : (back : ℕ) (em : Emitting) (o : Option Op) (c : Cover) (xs : List Exit) (l : ℕ) (outs : List ℕ) → length outs ≤ 3 →
    words back (exit_code em o c xs l outs) ≤ exit_words o
exit_short back em None c xs l outs h = omega arith
exit_short back em (Some o) c xs l outs h =
    omega (arith, words-append back (no_way_out em outs) (quiet (label (l + 2)) ∷ put o c ∷ way_tests em xs outs), no_way_short back em outs, tests_short back em xs outs h)

-- in its pad and at normal exits
both_cleanups : (back : ℕ) (cl : Cleanup) → counted_words back (pad_cleanup cl).op + exit_words (exit_cleanup cl) ≤ cleanup_words cl
both_cleanups back (destroy_scope p n) = omega arith
both_cleanups back (destroy_part p n) = omega arith
both_cleanups back (free_object s) = omega arith
both_cleanups back leave_handler = omega arith

-- the tests of clauses have five words each
abbrev test_words : Clauses → ℕ
test_words no_clauses = 0
test_words (clause_then t s r cs) = test_words cs + 5

clause_tests_short : (back : ℕ) (em : Emitting) (l : ℕ) (cs : Clauses) → words back (clause_tests em l cs) ≡ test_words cs
clause_tests_short back em l no_clauses = refl
clause_tests_short back em l (clause_then t s r cs) = omega (arith, clause_tests_short back em (l + 1) cs)

mutual
  pub region_short : (back : ℕ) (r : Region) (em : Emitting) (c : Cover) (xs : List Exit) (l p : ℕ) → HasFewWays r → words back (region_code em c xs l p r) ≤ region_words r
  region_short back (seq rs) em c xs l p h =
      omega (arith, words-append back (all_code em c (exit_to l ∷ xs) (l + 1) p rs) (quiet (label l) ∷ []), all_short back rs em c (exit_to l ∷ xs) (l + 1) p h)
  region_short back (op o) em c xs l p h = omega arith
  region_short back (branch v a b) em c xs l p h =
      let first = region_code em c (exit_to l ∷ xs) (l + 2) (p + 1) a in
      let second = region_code em c (exit_to l ∷ xs) (l + 2 + labels a) (p + 3 + length first) b in
      omega (
        arith,
        words-append back first (quiet (jump l) ∷ quiet (label (l + 1)) ∷ (second ++ quiet (label l) ∷ [])),
        words-append back second (quiet (label l) ∷ []),
        region_short back a em c (exit_to l ∷ xs) (l + 2) (p + 1) h.0,
        region_short back b em c (exit_to l ∷ xs) (l + 2 + labels a) (p + 3 + length first) h.1,
      )
  region_short back (loop v r) em c xs l p h =
      omega (
        arith,
        words-append back (region_code em c (exit_to l ∷ xs) (l + 2) (p + 2) r) (quiet (jump (l + 1)) ∷ quiet (label l) ∷ []),
        region_short back r em c (exit_to l ∷ xs) (l + 2) (p + 2) h,
      )
  region_short back (protect r cl) em c xs l p h =
      let outs = distinct (beyond (outs_of r)) in
      let exits = exit_code em (exit_cleanup cl) c xs l outs in
      let body = region_code em (cleaned em (p + 1) c) (protect_exit cl l ∷ xs) (l + 3) (p + 5) r in
      omega (
        arith,
        exit_short back em (exit_cleanup cl) c xs l outs h.0,
        both_cleanups back cl,
        words-append back body (exits ++ quiet (label l) ∷ []),
        words-append back exits (quiet (label l) ∷ []),
        region_short back r em (cleaned em (p + 1) c) (protect_exit cl l ∷ xs) (l + 3) (p + 5) h.1,
      )
  region_short back (catch r cs) em c xs l p h =
      let n = length (types_of cs) in
      let tests = clause_tests em (l + 2) cs in
      let handlers = clauses_code em c (exit_to l ∷ xs) l (l + 2) (l + 2 + n) (p + 3 + length tests) cs in
      let inside = guarded (p + 1) (filters_of em (types_of cs)) c in
      let body = region_code em inside (exit_to l ∷ xs) (l + 2 + n + labels_clauses cs) (p + 4 + length tests + length handlers) r in
      omega (
        arith,
        clause_tests_short back em (l + 2) cs,
        words-append back tests (outward (resume em.object) c ∷ (handlers ++ quiet (label (l + 1)) ∷ (body ++ quiet (label l) ∷ []))),
        words-append back handlers (quiet (label (l + 1)) ∷ (body ++ quiet (label l) ∷ [])),
        words-append back body (quiet (label l) ∷ []),
        clauses_short back cs em c (exit_to l ∷ xs) l (l + 2) (l + 2 + n) (p + 3 + length tests) h.1,
        region_short back r em inside (exit_to l ∷ xs) (l + 2 + n + labels_clauses cs) (p + 4 + length tests + length handlers) h.0,
      )
  region_short back (limit r types) em c xs l p h =
      let inside = guarded (p + 1) (em.filter (list_of types) ∷ []) c in
      omega (arith, words-append back (region_code em inside (exit_to l ∷ xs) (l + 3) (p + 7) r) (quiet (label l) ∷ []), region_short back r em inside (exit_to l ∷ xs) (l + 3) (p + 7) h)
  region_short back (barrier r) em c xs l p h =
      omega (arith, words-append back (region_code em bare (exit_to l ∷ xs) (l + 1) p r) (quiet (label l) ∷ []), region_short back r em bare (exit_to l ∷ xs) (l + 1) p h)
  region_short back (leave_region n) em c xs l p h = leave_short back em (inner n) xs

  all_short : (back : ℕ) (rs : RegionList) (em : Emitting) (c : Cover) (xs : List Exit) (l p : ℕ) → AllHaveFewWays rs → words back (all_code em c xs l p rs) ≤ all_words rs
  all_short back no_regions em c xs l p h = omega arith
  all_short back (region_then r rs) em c xs l p h =
      let first = region_code em c xs l p r in
      omega (
        arith,
        words-append back first (all_code em c xs (l + labels r) (p + length first) rs),
        region_short back r em c xs l p h.0,
        all_short back rs em c xs (l + labels r) (p + length first) h.1,
      )

  -- handlers and the tests of their clauses
  clauses_short : (back : ℕ) (cs : Clauses) (em : Emitting) (c : Cover) (xs : List Exit) (end first l p : ℕ) → ClausesHaveFewWays cs →
      test_words cs + words back (clauses_code em c xs end first l p cs) ≤ clauses_words cs
  clauses_short back no_clauses em c xs end first l p h = omega arith
  clauses_short back (clause_then t s r cs) em c xs end first l p h =
      let body = region_code em c xs l (p + 2) r in
      omega (
        arith,
        words-append back body (quiet (jump end) ∷ clauses_code em c xs end (first + 1) (l + labels r) (p + 3 + length body) cs),
        region_short back r em c xs l (p + 2) h.0,
        clauses_short back cs em c xs end (first + 1) (l + labels r) (p + 3 + length body) h.1,
      )
