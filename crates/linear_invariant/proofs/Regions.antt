-- The operations around the pads of a region's code stand so.
use Rattle.std.proofs.Common.{◌≡◌, ℕ, ◌+◌, pos, Bool, true, false, ◌==◌, List, [], ◌∷◌, ◌++◌, length, Option, refl, if◌then◌else◌, arith}
use Rattle.std.proofs.lemmas.Bool.Decides.{nat_tests}
use Rattle.meaning_forms.specs.Arithmetic.{int_equal}
use Rattle.region_forms.specs.Form.{Op, evaluate, store, bind, call, construct, destroy, make, throw, rethrow, enter, leave, Cleanup, destroy_scope, destroy_part, free_object, leave_handler, Region, seq, op, branch, loop, protect, catch, limit, barrier, leave_region, RegionList, no_regions, region_then, Clauses, no_clauses, clause_then, RegionFunction}
use Rattle.region_forms.specs.Guard.{types_of}
use Rattle.linear_forms.specs.Linear.{label, jump, resume, return}
use Rattle.linear_forms.specs.Tables.{Cover, bare, unpadded, clause, list_of}
use Rattle.linear_forms.specs.Sites.{Placed}
use Rattle.linear_forms.specs.Distinct.{distinct}
use Rattle.linear_forms.specs.Filters.{table_type, index_of, types_in}
use Rattle.linear_forms.specs.Exits.{Exit, exit_to, inner, first_label, crosses, name_of, beyond, outs_of}
use Rattle.linear_forms.specs.Emission.{Emitting, quiet, put, outward, set_way, leave_code, way_tests, no_way_out, pad_cleanup, exit_cleanup, exit_code, cleaned as cleaned_cover, guarded, protect_exit, filters_of}
use Rattle.linear_forms.specs.Code.{labels, labels_clauses, clause_tests, region_code, all_code, clauses_code}
use Rattle.linear_forms.specs.Unit.{emitting, placed_code}
use Rattle.linear_invariant.specs.Phases.{off, opened, tested}
use Rattle.linear_invariant.proofs.Phases.{Shaped, behind_end, both_shaped}

-- an operation of a region
op_first : (o : Op) (c : Cover) (xs : List Placed) → Shaped off xs → Shaped off (put o c ∷ xs)
op_first (evaluate v) c xs h = (refl, tt, tt, h)
op_first (store p v) c xs h = (refl, tt, tt, h)
op_first (bind s p) c xs h = (refl, tt, tt, h)
op_first (call b args) c xs h = (refl, tt, tt, h)
op_first (construct p n args) c xs h = (refl, tt, tt, h)
op_first (destroy p n) c xs h = (refl, tt, tt, h)
op_first (make s) c xs h = (refl, tt, tt, h)
op_first (throw s t d) c xs h = (refl, tt, tt, h)
op_first rethrow c xs h = (refl, tt, tt, h)
op_first (enter s) c xs h = (refl, tt, tt, h)
op_first leave c xs h = (refl, tt, tt, h)

module _ (em : Emitting) (clauses_named : (t : Option ℕ) → int_equal (pos 0) (em.filter (clause t)) ≡ false) (lists_named : (types : List ℕ) → int_equal (pos 0) (em.filter (list_of types)) ≡ false) where
  leaves : (n : ℕ) (xs : List Exit) → Shaped off (leave_code em n xs)
  leaves n xs = go (crosses n xs)
    where
      go : (b : Bool) → Shaped off (if b then set_way em (name_of n xs) ∷ quiet (jump (first_label n xs)) ∷ [] else quiet (jump (first_label n xs)) ∷ [])
      go true = (refl, tt, tt, (refl, tt, tt, refl))
      go false = (refl, tt, tt, refl)

  ways : (xs : List Exit) (outs : List ℕ) → Shaped off (way_tests em xs outs)
  ways xs [] = refl
  ways xs (n ∷ outs) = (refl, tt, tt, ways xs outs)

  no_ways : (outs : List ℕ) → Shaped off (no_way_out em outs)
  no_ways [] = refl
  no_ways (n ∷ outs) = (refl, tt, tt, refl)

  exits_shaped : (cl : Cleanup) (c : Cover) (xs : List Exit) (l : ℕ) (outs : List ℕ) → Shaped off (exit_code em (exit_cleanup cl) c xs l outs)
  exits_shaped (destroy_scope p d) c xs l outs = both_shaped off (no_way_out em outs) (quiet (label (l + 2)) ∷ put (destroy p d) c ∷ way_tests em xs outs) (no_ways outs) (refl, tt, tt, (refl, tt, tt, ways xs outs))
  exits_shaped (destroy_part p d) c xs l outs = refl
  exits_shaped (free_object s) c xs l outs = refl
  exits_shaped leave_handler c xs l outs = both_shaped off (no_way_out em outs) (quiet (label (l + 2)) ∷ put leave c ∷ way_tests em xs outs) (no_ways outs) (refl, tt, tt, (refl, tt, tt, ways xs outs))

  -- a pad's cleanup, and what goes on outwards
  cleanup_shaped : (cl : Cleanup) (s : ℕ) (c : Cover) (rest : List Placed) → Shaped off rest → Shaped opened (pad_cleanup cl ∷ outward (resume s) c ∷ rest)
  cleanup_shaped (destroy_scope p d) s c rest h = (refl, refl, tt, (refl, tt, tt, behind_end rest h))
  cleanup_shaped (destroy_part p d) s c rest h = (refl, refl, tt, (refl, tt, tt, behind_end rest h))
  cleanup_shaped (free_object t) s c rest h = (refl, refl, tt, (refl, tt, tt, behind_end rest h))
  cleanup_shaped leave_handler s c rest h = (refl, refl, tt, (refl, tt, tt, behind_end rest h))

  -- the tests of clauses
  module _ (s : ℕ) (c : Cover) (rest : List Placed) (h : Shaped off rest) where
    tests_on : (l : ℕ) (cs : Clauses) → Shaped tested (clause_tests em l cs ++ outward (resume s) c ∷ rest)
    tests_on l no_clauses = (refl, tt, tt, behind_end rest h)
    tests_on l (clause_then t x r cs) = (refl, tt, clauses_named t, tests_on (l + 1) cs)

    tests_shaped : (l : ℕ) (cs : Clauses) → Shaped opened (clause_tests em l cs ++ outward (resume s) c ∷ rest)
    tests_shaped l no_clauses = (refl, tt, tt, behind_end rest h)
    tests_shaped l (clause_then t x r cs) = (refl, tt, clauses_named t, tests_on (l + 1) cs)

  mutual
    region_shaped : (x : Region) (c : Cover) (xs : List Exit) (l p : ℕ) → Shaped off (region_code em c xs l p x)
    region_shaped (seq rs) c xs l p = both_shaped off (all_code em c (exit_to l ∷ xs) (l + 1) p rs) (quiet (label l) ∷ []) (all_shaped rs c (exit_to l ∷ xs) (l + 1) p) (refl, tt, tt, refl)
    region_shaped (op o) c xs l p = op_first o c [] refl
    region_shaped (branch v a b) c xs l p =
        let first = region_code em c (exit_to l ∷ xs) (l + 2) (p + 1) a in
        let second = region_code em c (exit_to l ∷ xs) (l + 2 + labels a) (p + 3 + length first) b in
        let last = both_shaped off second (quiet (label l) ∷ []) (region_shaped b c (exit_to l ∷ xs) (l + 2 + labels a) (p + 3 + length first)) (refl, tt, tt, refl) in
        (refl, tt, tt, both_shaped off first (quiet (jump l) ∷ quiet (label (l + 1)) ∷ (second ++ quiet (label l) ∷ [])) (region_shaped a c (exit_to l ∷ xs) (l + 2) (p + 1)) (refl, tt, tt, (refl, tt, tt, last)))
    region_shaped (loop v a) c xs l p =
        let body = region_code em c (exit_to l ∷ xs) (l + 2) (p + 2) a in
        (refl, tt, tt, (refl, tt, tt, both_shaped off body (quiet (jump (l + 1)) ∷ quiet (label l) ∷ []) (region_shaped a c (exit_to l ∷ xs) (l + 2) (p + 2)) (refl, tt, tt, (refl, tt, tt, refl))))
    region_shaped (protect a cl) c xs l p =
        let inside = cleaned_cover em (p + 1) c in
        let exits = exit_code em (exit_cleanup cl) c xs l (distinct (beyond (outs_of a))) in
        let body = region_code em inside (protect_exit cl l ∷ xs) (l + 3) (p + 5) a in
        let last = both_shaped off exits (quiet (label l) ∷ []) (exits_shaped cl c xs l (distinct (beyond (outs_of a)))) (refl, tt, tt, refl) in
        let all = both_shaped off body (exits ++ quiet (label l) ∷ []) (region_shaped a inside (protect_exit cl l ∷ xs) (l + 3) (p + 5)) last in
        (refl, tt, tt, (refl, tt, tt, cleanup_shaped cl em.object c (quiet (label (l + 1)) ∷ (body ++ (exits ++ quiet (label l) ∷ []))) (refl, tt, tt, all)))
    region_shaped (catch a cs) c xs l p =
        let tests = clause_tests em (l + 2) cs in
        let n = length (types_of cs) in
        let handlers = clauses_code em c (exit_to l ∷ xs) l (l + 2) (l + 2 + n) (p + 3 + length tests) cs in
        let inside = guarded (p + 1) (filters_of em (types_of cs)) c in
        let body = region_code em inside (exit_to l ∷ xs) (l + 2 + n + labels_clauses cs) (p + 4 + length tests + length handlers) a in
        let last = both_shaped off body (quiet (label l) ∷ []) (region_shaped a inside (exit_to l ∷ xs) (l + 2 + n + labels_clauses cs) (p + 4 + length tests + length handlers)) (refl, tt, tt, refl) in
        let all = both_shaped off handlers (quiet (label (l + 1)) ∷ (body ++ quiet (label l) ∷ [])) (clauses_shaped cs c (exit_to l ∷ xs) l (l + 2) (l + 2 + n) (p + 3 + length tests)) (refl, tt, tt, last) in
        (refl, tt, tt, (refl, tt, tt, tests_shaped em.object c (handlers ++ quiet (label (l + 1)) ∷ (body ++ quiet (label l) ∷ [])) all (l + 2) cs))
    region_shaped (limit a types) c xs l p =
        let inside = guarded (p + 1) (em.filter (list_of types) ∷ []) c in
        let body = region_code em inside (exit_to l ∷ xs) (l + 3) (p + 7) a in
        let last = both_shaped off body (quiet (label l) ∷ []) (region_shaped a inside (exit_to l ∷ xs) (l + 3) (p + 7)) (refl, tt, tt, refl) in
        (refl, tt, tt, (refl, tt, tt, (refl, tt, lists_named types, (refl, tt, tt, (refl, tt, tt, (refl, tt, tt, (refl, tt, tt, last)))))))
    region_shaped (barrier a) c xs l p = both_shaped off (region_code em bare (exit_to l ∷ xs) (l + 1) p a) (quiet (label l) ∷ []) (region_shaped a bare (exit_to l ∷ xs) (l + 1) p) (refl, tt, tt, refl)
    region_shaped (leave_region n) c xs l p = leaves (inner n) xs

    all_shaped : (rs : RegionList) (c : Cover) (xs : List Exit) (l p : ℕ) → Shaped off (all_code em c xs l p rs)
    all_shaped no_regions c xs l p = refl
    all_shaped (region_then a rs) c xs l p =
        let first = region_code em c xs l p a in both_shaped off first (all_code em c xs (l + labels a) (p + length first) rs) (region_shaped a c xs l p) (all_shaped rs c xs (l + labels a) (p + length first))

    clauses_shaped : (cs : Clauses) (c : Cover) (xs : List Exit) (end first l p : ℕ) → Shaped off (clauses_code em c xs end first l p cs)
    clauses_shaped no_clauses c xs end first l p = refl
    clauses_shaped (clause_then t s a cs) c xs end first l p =
        let body = region_code em c xs l (p + 2) a in (
          refl,
          tt,
          tt,
          (
            refl,
            tt,
            tt,
            both_shaped off body (quiet (jump end) ∷ clauses_code em c xs end (first + 1) (l + labels a) (p + 3 + length body) cs) (region_shaped a c xs l (p + 2))
                (refl, tt, tt, clauses_shaped cs c xs end (first + 1) (l + labels a) (p + 3 + length body)),
          ),
        )

not_zero : (m : ℕ) → int_equal (pos 0) (pos (m + 1)) ≡ false
not_zero m = grind (arith, nat_tests)

-- a type's filter is no less than 1
index_named : (n : ℕ) (ms : List ℕ) → int_equal (pos 0) (pos (index_of n ms)) ≡ false
index_named n [] = refl
index_named n (m ∷ ms) = go (n == m)
  where
    go : (b : Bool) → int_equal (pos 0) (pos (if b then 1 else index_of n ms + 1)) ≡ false
    go true = refl
    go false = not_zero (index_of n ms)

pub function_shaped : (f : RegionFunction) → Shaped off (placed_code f)
function_shaped f =
    both_shaped off (region_code (emitting f) unpadded [] 0 0 f.body) (quiet (return f.result) ∷ [])
    (region_shaped (emitting f) (λ t. index_named (table_type t) (types_in f.body)) (λ types. refl) f.body unpadded [] 0 0) (refl, tt, tt, refl)
