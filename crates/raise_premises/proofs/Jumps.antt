-- The number of each jump on a filter is one of those that code is made with.
use Rattle.std.proofs.Common.{◌≡◌, ℕ, zero, suc, ◌+◌, ℤ, Bool, true, false, List, [], ◌∷◌, ◌++◌, map, length, Option, Some, None, subst}
use Rattle.std.specs.Prelude.{⊤, slice_get, if◌then◌else◌}
use Rattle.std.specs.List.{AllByRecursion}
use Rattle.region_forms.specs.Form.{Op, Cleanup, destroy_scope, destroy_part, free_object, leave_handler, Region, seq, op, branch, loop, protect, catch, limit, barrier, leave_region, RegionList, no_regions, region_then, Clauses, no_clauses, clause_then}
use Rattle.region_forms.specs.Guard.{types_of}
use Rattle.linear_forms.specs.Linear.{LinearOp, label, jump, jump_filter}
use Rattle.linear_forms.specs.Tables.{Cover, bare, clause, list_of}
use Rattle.linear_forms.specs.Sites.{Placed}
use Rattle.linear_forms.specs.Distinct.{distinct}
use Rattle.linear_forms.specs.Exits.{Exit, exit_to, inner, first_label, crosses, name_of, beyond, outs_of}
use Rattle.linear_forms.specs.Emission.{Emitting, quiet, put, set_way, leave_code, way_tests, no_way_out, pad_cleanup, exit_cleanup, exit_code, cleaned, guarded, protect_exit, filters_of}
use Rattle.linear_forms.specs.Code.{labels, labels_clauses, clause_tests, region_code, all_code, clauses_code}
use Rattle.source_bounds.proofs.Lists.{both_all}

-- of an operation: if it is a jump on a filter, its number is as is asked
abbrev pub JumpIs : (ℤ → Type 0) → LinearOp → Type 0
JumpIs Ok (jump_filter s filter l) = Ok filter
JumpIs Ok o = ⊤

module _ (Ok : ℤ → Type 0) where
  abbrev Is : Placed → Type 0
  Is x = JumpIs Ok x.op

  abbrev pub JumpsAre : List Placed → Type 0
  JumpsAre = AllByRecursion Is

  -- the jump at a place of code
  pub jump_at : (xs : List Placed) (i s l : ℕ) (filter : ℤ) → JumpsAre xs → slice_get (map (λ x. x.op) xs) i ≡ Some (jump_filter s filter l) → Ok filter
  jump_at [] i s l filter h e = absurd (cc e)
  jump_at (x ∷ xs) zero s l filter h e = let same : x.op ≡ jump_filter s filter l = cc e in subst (JumpIs Ok) same h.0
  jump_at (x ∷ xs) (suc i) s l filter h e = jump_at xs i s l filter h.1 e

  both : (a b : List Placed) → JumpsAre a → JumpsAre b → JumpsAre (a ++ b)
  both a b h k = both_all Is a b h k

  module _ (em : Emitting) (clauses : (t : Option ℕ) → Ok (em.filter (clause t))) (lists : (types : List ℕ) → Ok (em.filter (list_of types))) where
    leaves : (n : ℕ) (xs : List Exit) → JumpsAre (leave_code em n xs)
    leaves n xs = go (crosses n xs)
      where
        go : (b : Bool) → JumpsAre (if b then set_way em (name_of n xs) ∷ quiet (jump (first_label n xs)) ∷ [] else quiet (jump (first_label n xs)) ∷ [])
        go true = (tt, (tt, tt))
        go false = (tt, tt)

    ways : (xs : List Exit) (outs : List ℕ) → JumpsAre (way_tests em xs outs)
    ways xs [] = tt
    ways xs (n ∷ outs) = (tt, ways xs outs)

    no_ways : (outs : List ℕ) → JumpsAre (no_way_out em outs)
    no_ways [] = tt
    no_ways (n ∷ outs) = (tt, tt)

    exits_are : (o : Option Op) (c : Cover) (xs : List Exit) (l : ℕ) (outs : List ℕ) → JumpsAre (exit_code em o c xs l outs)
    exits_are None c xs l outs = tt
    exits_are (Some o) c xs l outs = both (no_way_out em outs) (quiet (label (l + 2)) ∷ put o c ∷ way_tests em xs outs) (no_ways outs) (tt, (tt, ways xs outs))

    cleanup_is : (cl : Cleanup) → Is (pad_cleanup cl)
    cleanup_is (destroy_scope p d) = tt
    cleanup_is (destroy_part p d) = tt
    cleanup_is (free_object s) = tt
    cleanup_is leave_handler = tt

    tests_are : (l : ℕ) (cs : Clauses) → JumpsAre (clause_tests em l cs)
    tests_are l no_clauses = tt
    tests_are l (clause_then t s x cs) = (clauses t, tests_are (l + 1) cs)

    mutual
      pub region_is : (x : Region) (c : Cover) (xs : List Exit) (l p : ℕ) → JumpsAre (region_code em c xs l p x)
      region_is (seq rs) c xs l p = both (all_code em c (exit_to l ∷ xs) (l + 1) p rs) (quiet (label l) ∷ []) (all_are rs c (exit_to l ∷ xs) (l + 1) p) (tt, tt)
      region_is (op o) c xs l p = (tt, tt)
      region_is (branch v a b) c xs l p =
          let first = region_code em c (exit_to l ∷ xs) (l + 2) (p + 1) a in
          let second = region_code em c (exit_to l ∷ xs) (l + 2 + labels a) (p + 3 + length first) b in (
            tt,
            both first (quiet (jump l) ∷ quiet (label (l + 1)) ∷ (second ++ quiet (label l) ∷ [])) (region_is a c (exit_to l ∷ xs) (l + 2) (p + 1))
                (tt, (tt, both second (quiet (label l) ∷ []) (region_is b c (exit_to l ∷ xs) (l + 2 + labels a) (p + 3 + length first)) (tt, tt))),
          )
      region_is (loop v a) c xs l p =
          let body = region_code em c (exit_to l ∷ xs) (l + 2) (p + 2) a in
          (tt, (tt, both body (quiet (jump (l + 1)) ∷ quiet (label l) ∷ []) (region_is a c (exit_to l ∷ xs) (l + 2) (p + 2)) (tt, (tt, tt))))
      region_is (protect a cl) c xs l p =
          let inside = cleaned em (p + 1) c in
          let outs = distinct (beyond (outs_of a)) in
          let exits = exit_code em (exit_cleanup cl) c xs l outs in
          let body = region_code em inside (protect_exit cl l ∷ xs) (l + 3) (p + 5) a in
          let last = both exits (quiet (label l) ∷ []) (exits_are (exit_cleanup cl) c xs l outs) (tt, tt) in
          (tt, (tt, (cleanup_is cl, (tt, (tt, both body (exits ++ quiet (label l) ∷ []) (region_is a inside (protect_exit cl l ∷ xs) (l + 3) (p + 5)) last)))))
      region_is (catch a cs) c xs l p =
          let tests = clause_tests em (l + 2) cs in
          let n = length (types_of cs) in
          let handlers = clauses_code em c (exit_to l ∷ xs) l (l + 2) (l + 2 + n) (p + 3 + length tests) cs in
          let inside = guarded (p + 1) (filters_of em (types_of cs)) c in
          let body = region_code em inside (exit_to l ∷ xs) (l + 2 + n + labels_clauses cs) (p + 4 + length tests + length handlers) a in
          let last = both body (quiet (label l) ∷ []) (region_is a inside (exit_to l ∷ xs) (l + 2 + n + labels_clauses cs) (p + 4 + length tests + length handlers)) (tt, tt) in
          let all = both handlers (quiet (label (l + 1)) ∷ (body ++ quiet (label l) ∷ [])) (clauses_are cs c (exit_to l ∷ xs) l (l + 2) (l + 2 + n) (p + 3 + length tests)) (tt, last) in
          (tt, (tt, both tests _ (tests_are (l + 2) cs) (tt, all)))
      region_is (limit a types) c xs l p =
          let inside = guarded (p + 1) (em.filter (list_of types) ∷ []) c in
          let body = region_code em inside (exit_to l ∷ xs) (l + 3) (p + 7) a in
          let last = both body (quiet (label l) ∷ []) (region_is a inside (exit_to l ∷ xs) (l + 3) (p + 7)) (tt, tt) in
          (tt, (tt, (lists types, (tt, (tt, (tt, (tt, last)))))))
      region_is (barrier a) c xs l p = both (region_code em bare (exit_to l ∷ xs) (l + 1) p a) (quiet (label l) ∷ []) (region_is a bare (exit_to l ∷ xs) (l + 1) p) (tt, tt)
      region_is (leave_region n) c xs l p = leaves (inner n) xs

      all_are : (rs : RegionList) (c : Cover) (xs : List Exit) (l p : ℕ) → JumpsAre (all_code em c xs l p rs)
      all_are no_regions c xs l p = tt
      all_are (region_then a rs) c xs l p =
          let first = region_code em c xs l p a in both first (all_code em c xs (l + labels a) (p + length first) rs) (region_is a c xs l p) (all_are rs c xs (l + labels a) (p + length first))

      clauses_are : (cs : Clauses) (c : Cover) (xs : List Exit) (end first l p : ℕ) → JumpsAre (clauses_code em c xs end first l p cs)
      clauses_are no_clauses c xs end first l p = tt
      clauses_are (clause_then t s a cs) c xs end first l p =
          let body = region_code em c xs l (p + 2) a in
          let rest = both body (quiet (jump end) ∷ clauses_code em c xs end (first + 1) (l + labels a) (p + 3 + length body) cs) (region_is a c xs l (p + 2))
          (tt, clauses_are cs c xs end (first + 1) (l + labels a) (p + 3 + length body)) in
          (tt, (tt, rest))
