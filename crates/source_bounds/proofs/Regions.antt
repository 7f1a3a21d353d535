-- The words of a region's code are no more than is said.
use Rattle.std.proofs.Common.{◌≡◌, ℕ, ◌+◌, ◌*◌, ◌≤◌, nat_lt, Bool, true, false, List, [], ◌∷◌, ◌++◌, map, flat_map, length, Option, Some, None, refl, if◌then◌else◌, arith}
use Rattle.std.specs.Prelude.{pos}
use Rattle.region_forms.specs.Form.{Op, Cleanup, destroy_scope, destroy_part, free_object, leave_handler, Region, seq, op, branch, loop, protect, catch, limit, barrier, leave_region, RegionList, no_regions, region_then, Clauses, no_clauses, clause_then}
use Rattle.region_forms.specs.Guard.{types_of}
use Rattle.linear_forms.specs.Linear.{label, jump, resume, return}
use Rattle.linear_forms.specs.Tables.{Cover, bare, unpadded, list_of}
use Rattle.linear_forms.specs.Sites.{Placed}
use Rattle.linear_forms.specs.Distinct.{distinct}
use Rattle.linear_forms.specs.Exits.{Exit, exit_to, inner, first_label, crosses, name_of, beyond, outs_of}
use Rattle.linear_forms.specs.Emission.{Emitting, quiet, outward, put, guarded, cleaned, set_way, leave_code, way_tests, pad_cleanup, exit_cleanup, protect_exit, no_way_out, exit_code, filters_of}
use Rattle.linear_forms.specs.Code.{labels, labels_clauses, clause_tests, region_code, all_code, clauses_code}
use Rattle.linear_forms.specs.Unit.{emitting, placed_code, function_code}
use Rattle.machine_forms.specs.Bounds.{counted}
use Rattle.rv64_isa.specs.declared.instr.Instr.TheVariants.{Lw, Sd}
use Rattle.machine_forms.specs.Immediate.{immediate}
use Rattle.machine_forms.specs.KeptCode.{copied, one_saved, saves}
use Rattle.machine_forms.specs.Piece.{instruction}
use Rattle.machine_forms.specs.Registers.{saved_registers, sp, t0}
use Rattle.machine_forms.specs.Shape.{Shape, prologue, slot_offset, stack_tested}
use Rattle.machine_forms.specs.LinearCode.{linear_code}
use Rattle.machine_forms.specs.Emitted.{function_front, shape_of}
use Rattle.source_bounds.specs.OperationWords.{op_words, linear_words}
use Rattle.source_bounds.specs.RegionWords.{cleanup_words, region_words, all_words, clauses_words, HasFewWays, AllHaveFewWays, ClausesHaveFewWays}
use Rattle.source_bounds.specs.WordLaws.{FunctionsAreShort}
use Rattle.source_bounds.proofs.Operations.{counted-append, operations_are_short}

-- the words of operations one behind the other
abbrev words : List Placed → ℕ
words [] = 0
words (x ∷ xs) = linear_words x.op + words xs

words-append : (a b : List Placed) → words (a ++ b) ≡ words a + words b
words-append [] b = omega arith
words-append (x ∷ a) b = omega (arith, words-append a b)

leave_short : (em : Emitting) (n : ℕ) (xs : List Exit) → words (leave_code em n xs) ≤ 5
leave_short em n xs = go (crosses n xs)
  where
    go : (b : Bool) → words (if b then set_way em (name_of n xs) ∷ quiet (jump (first_label n xs)) ∷ [] else quiet (jump (first_label n xs)) ∷ []) ≤ 5
    go true = omega arith
    go false = omega arith

tests_short : (em : Emitting) (xs : List Exit) (outs : List ℕ) → length outs ≤ 3 → words (way_tests em xs outs) ≤ 27
tests_short em xs [] h = omega arith
tests_short em xs (a ∷ []) h = omega arith
tests_short em xs (a ∷ b ∷ []) h = omega arith
tests_short em xs (a ∷ b ∷ c ∷ []) h = omega arith
tests_short em xs (a ∷ b ∷ c ∷ d ∷ outs) h = absurd (omega (arith, h))

no_way_short : (em : Emitting) (outs : List ℕ) → words (no_way_out em outs) ≤ 4
no_way_short em [] = omega arith
no_way_short em (n ∷ outs) = omega arith

-- where a cleanup stands at normal exits
abbrev exit_words : Option Op → ℕ
exit_words None = 0
exit_words (Some o) = op_words o + 31

exit_short : (em : Emitting) (o : Option Op) (c : Cover) (xs : List Exit) (l : ℕ) (outs : List ℕ) → length outs ≤ 3 →
    words (exit_code em o c xs l outs) ≤ exit_words o
exit_short em None c xs l outs h = omega arith
exit_short em (Some o) c xs l outs h =
    omega (arith, words-append (no_way_out em outs) (quiet (label (l + 2)) ∷ put o c ∷ way_tests em xs outs), no_way_short em outs, tests_short em xs outs h)

-- in its pad and at normal exits
both_cleanups : (cl : Cleanup) → linear_words (pad_cleanup cl).op + exit_words (exit_cleanup cl) ≤ cleanup_words cl
both_cleanups (destroy_scope p n) = omega arith
both_cleanups (destroy_part p n) = omega arith
both_cleanups (free_object s) = omega arith
both_cleanups leave_handler = omega arith

-- the tests of clauses have five words each
abbrev test_words : Clauses → ℕ
test_words no_clauses = 0
test_words (clause_then t s r cs) = test_words cs + 5

clause_tests_short : (em : Emitting) (l : ℕ) (cs : Clauses) → words (clause_tests em l cs) ≡ test_words cs
clause_tests_short em l no_clauses = refl
clause_tests_short em l (clause_then t s r cs) = omega (arith, clause_tests_short em (l + 1) cs)

mutual
  region_short : (r : Region) (em : Emitting) (c : Cover) (xs : List Exit) (l p : ℕ) → HasFewWays r → words (region_code em c xs l p r) ≤ region_words r
  region_short (seq rs) em c xs l p h =
      omega (arith, words-append (all_code em c (exit_to l ∷ xs) (l + 1) p rs) (quiet (label l) ∷ []), all_short rs em c (exit_to l ∷ xs) (l + 1) p h)
  region_short (op o) em c xs l p h = omega arith
  region_short (branch v a b) em c xs l p h =
      let first = region_code em c (exit_to l ∷ xs) (l + 2) (p + 1) a in
      let second = region_code em c (exit_to l ∷ xs) (l + 2 + labels a) (p + 3 + length first) b in
      omega (
        arith,
        words-append first (quiet (jump l) ∷ quiet (label (l + 1)) ∷ (second ++ quiet (label l) ∷ [])),
        words-append second (quiet (label l) ∷ []),
        region_short a em c (exit_to l ∷ xs) (l + 2) (p + 1) h.0,
        region_short b em c (exit_to l ∷ xs) (l + 2 + labels a) (p + 3 + length first) h.1,
      )
  region_short (loop v r) em c xs l p h =
      omega (
        arith,
        words-append (region_code em c (exit_to l ∷ xs) (l + 2) (p + 2) r) (quiet (jump (l + 1)) ∷ quiet (label l) ∷ []),
        region_short r em c (exit_to l ∷ xs) (l + 2) (p + 2) h,
      )
  region_short (protect r cl) em c xs l p h =
      let outs = distinct (beyond (outs_of r)) in
      let exits = exit_code em (exit_cleanup cl) c xs l outs in
      let body = region_code em (cleaned em (p + 1) c) (protect_exit cl l ∷ xs) (l + 3) (p + 5) r in
      omega (
        arith,
        exit_short em (exit_cleanup cl) c xs l outs h.0,
        both_cleanups cl,
        words-append body (exits ++ quiet (label l) ∷ []),
        words-append exits (quiet (label l) ∷ []),
        region_short r em (cleaned em (p + 1) c) (protect_exit cl l ∷ xs) (l + 3) (p + 5) h.1,
      )
  region_short (catch r cs) em c xs l p h =
      let n = length (types_of cs) in
      let tests = clause_tests em (l + 2) cs in
      let handlers = clauses_code em c (exit_to l ∷ xs) l (l + 2) (l + 2 + n) (p + 3 + length tests) cs in
      let inside = guarded (p + 1) (filters_of em (types_of cs)) c in
      let body = region_code em inside (exit_to l ∷ xs) (l + 2 + n + labels_clauses cs) (p + 4 + length tests + length handlers) r in
      omega (
        arith,
        clause_tests_short em (l + 2) cs,
        words-append tests (outward (resume em.object) c ∷ (handlers ++ quiet (label (l + 1)) ∷ (body ++ quiet (label l) ∷ []))),
        words-append handlers (quiet (label (l + 1)) ∷ (body ++ quiet (label l) ∷ [])),
        words-append body (quiet (label l) ∷ []),
        clauses_short cs em c (exit_to l ∷ xs) l (l + 2) (l + 2 + n) (p + 3 + length tests) h.1,
        region_short r em inside (exit_to l ∷ xs) (l + 2 + n + labels_clauses cs) (p + 4 + length tests + length handlers) h.0,
      )
  region_short (limit r types) em c xs l p h =
      let inside = guarded (p + 1) (em.filter (list_of types) ∷ []) c in
      omega (arith, words-append (region_code em inside (exit_to l ∷ xs) (l + 3) (p + 7) r) (quiet (label l) ∷ []), region_short r em inside (exit_to l ∷ xs) (l + 3) (p + 7) h)
  region_short (barrier r) em c xs l p h =
      omega (arith, words-append (region_code em bare (exit_to l ∷ xs) (l + 1) p r) (quiet (label l) ∷ []), region_short r em bare (exit_to l ∷ xs) (l + 1) p h)
  region_short (leave_region n) em c xs l p h = leave_short em (inner n) xs

  all_short : (rs : RegionList) (em : Emitting) (c : Cover) (xs : List Exit) (l p : ℕ) → AllHaveFewWays rs → words (all_code em c xs l p rs) ≤ all_words rs
  all_short no_regions em c xs l p h = omega arith
  all_short (region_then r rs) em c xs l p h =
      let first = region_code em c xs l p r in
      omega (
        arith,
        words-append first (all_code em c xs (l + labels r) (p + length first) rs),
        region_short r em c xs l p h.0,
        all_short rs em c xs (l + labels r) (p + length first) h.1,
      )

  -- handlers and the tests of their clauses
  clauses_short : (cs : Clauses) (em : Emitting) (c : Cover) (xs : List Exit) (end first l p : ℕ) → ClausesHaveFewWays cs →
      test_words cs + words (clauses_code em c xs end first l p cs) ≤ clauses_words cs
  clauses_short no_clauses em c xs end first l p h = omega arith
  clauses_short (clause_then t s r cs) em c xs end first l p h =
      let body = region_code em c xs l (p + 2) r in
      omega (
        arith,
        words-append body (quiet (jump end) ∷ clauses_code em c xs end (first + 1) (l + labels r) (p + 3 + length body) cs),
        region_short r em c xs l (p + 2) h.0,
        clauses_short cs em c xs end (first + 1) (l + labels r) (p + 3 + length body) h.1,
      )

-- operations in a frame
pieces_short : (f : Shape) (code : List Placed) → counted (flat_map (λ b. b) (map (linear_code f) (map (λ x. x.op) code))) ≤ words code
pieces_short f [] = omega arith
pieces_short f (x ∷ code) =
    omega (arith, counted-append (linear_code f x.op) (flat_map (λ b. b) (map (linear_code f) (map (λ y. y.op) code))), operations_are_short f x.op, pieces_short f code)

-- a function's beginning

one_saved_short : (parameters offset r s : ℕ) → counted (one_saved parameters offset r s) ≤ 3
one_saved_short parameters offset r s = go (nat_lt s parameters)
  where
    go : (b : Bool) → counted (if b then instruction (Lw t0 sp offset) ∷ instruction (Sd sp r offset) ∷ instruction (copied r t0) ∷ [] else instruction (Sd sp r offset) ∷ []) ≤ 3
    go true = omega arith
    go false = omega arith

saves_short : (f : Shape) (parameters : ℕ) (rs ks : List ℕ) → counted (saves f parameters rs ks) ≤ 3 * length rs
saves_short f parameters [] ks = omega arith
saves_short f parameters (r ∷ rs) [] = omega arith
saves_short f parameters (r ∷ rs) (s ∷ ks) =
    let offset = immediate (pos (slot_offset f s)) in
    omega (arith, counted-append (one_saved parameters offset r s) (saves f parameters rs ks), one_saved_short parameters offset r s, saves_short f parameters rs ks)

test_short : (leaf : Bool) → counted (stack_tested leaf) ≤ 4
test_short true = omega arith
test_short false = omega arith

pub front_short : (f : Shape) (parameters : ℕ) → counted (function_front f parameters) ≤ 36
front_short f parameters =
    omega (arith, counted-append (prologue f) (saves f parameters saved_registers f.kept), test_short f.leaf, saves_short f parameters saved_registers f.kept)

pub functions_are_short : FunctionsAreShort
functions_are_short f few =
    let g = function_code f in
    let body = region_code (emitting f) unpadded [] 0 0 f.body in
    omega (
      arith,
      front_short (shape_of g) g.parameters,
      counted-append (function_front (shape_of g) g.parameters) (flat_map (λ b. b) (map (linear_code (shape_of g)) g.ops)),
      pieces_short (shape_of g) (placed_code f),
      words-append body (quiet (return f.result) ∷ []),
      region_short f.body (emitting f) unpadded [] 0 0 few,
    )
