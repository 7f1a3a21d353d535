-- What holds of the covers that emission makes holds of each cover of the code.
use Rattle.std.proofs.Common.{ℕ, ◌+◌, Bool, true, false, List, [], ◌∷◌, ◌++◌, length, Option, Some, None}
use Rattle.std.specs.Prelude.{if◌then◌else◌}
use Rattle.region_forms.specs.Form.{Op, Cleanup, destroy_scope, destroy_part, free_object, leave_handler, Region, seq, op, branch, loop, protect, catch, limit, barrier, leave_region, RegionList, no_regions, region_then, Clauses, no_clauses, clause_then}
use Rattle.region_forms.specs.Guard.{types_of}
use Rattle.linear_forms.specs.Linear.{label, jump, resume}
use Rattle.linear_forms.specs.Tables.{Cover, bare, list_of}
use Rattle.linear_forms.specs.Distinct.{distinct}
use Rattle.linear_forms.specs.Exits.{Exit, exit_to, inner, first_label, crosses, name_of, beyond, outs_of}
use Rattle.linear_forms.specs.Emission.{Emitting, may_raise, quiet, outward, put, guarded, cleaned, set_way, leave_code, way_tests, pad_cleanup, exit_cleanup, protect_exit, no_way_out, exit_code, filters_of}
use Rattle.linear_forms.specs.Code.{labels, labels_clauses, clause_tests, region_code, all_code, clauses_code}
use Rattle.landing_pads.proofs.Sited.{AllCovers, both_covers}

module _ (em : Emitting) (P : Cover → Type 0) where
  -- it holds of each cover that emission makes of a region in a cover, whatever the places of its pads
  abbrev mutual
    pub Inside : Region → Cover → Type 0
    Inside (seq rs) c = AllInside rs c
    Inside (op o) c = P c
    Inside (branch v a b) c = Inside a c × Inside b c
    Inside (loop v r) c = Inside r c
    Inside (protect r cl) c = P c × ((p : ℕ) → Inside r (cleaned em p c))
    Inside (catch r cs) c = P c × ClausesInside cs c × ((p : ℕ) → Inside r (guarded p (filters_of em (types_of cs)) c))
    Inside (limit r types) c = P c × ((p : ℕ) → Inside r (guarded p (em.filter (list_of types) ∷ []) c))
    Inside (barrier r) c = Inside r bare
    Inside (leave_region n) c = Unit {0}

    pub AllInside : RegionList → Cover → Type 0
    AllInside no_regions c = Unit {0}
    AllInside (region_then r rs) c = Inside r c × AllInside rs c

    pub ClausesInside : Clauses → Cover → Type 0
    ClausesInside no_clauses c = Unit {0}
    ClausesInside (clause_then t x r cs) c = Inside r c × ClausesInside cs c

  module _ (none : P bare) where
    -- pieces in which only the surroundings' cover stands

    leave_covered : (n : ℕ) (xs : List Exit) → AllCovers P (leave_code em n xs)
    leave_covered n xs = go (crosses n xs)
      where
        go : (b : Bool) → AllCovers P (if b then set_way em (name_of n xs) ∷ quiet (jump (first_label n xs)) ∷ [] else quiet (jump (first_label n xs)) ∷ [])
        go true = (none, (none, tt))
        go false = (none, tt)

    tests_covered : (xs : List Exit) (outs : List ℕ) → AllCovers P (way_tests em xs outs)
    tests_covered xs [] = tt
    tests_covered xs (n ∷ outs) = (none, tests_covered xs outs)

    clause_tests_covered : (l : ℕ) (cs : Clauses) → AllCovers P (clause_tests em l cs)
    clause_tests_covered l no_clauses = tt
    clause_tests_covered l (clause_then t s r cs) = (none, clause_tests_covered (l + 1) cs)

    no_way_covered : (outs : List ℕ) → AllCovers P (no_way_out em outs)
    no_way_covered [] = tt
    no_way_covered (n ∷ outs) = (none, tt)

    put_covered : (o : Op) (c : Cover) → P c → P (put o c).cover
    put_covered o c h = go (may_raise o)
      where
        go : (b : Bool) → P (if b then c else bare)
        go true = h
        go false = none

    pad_covered : (cl : Cleanup) → P (pad_cleanup cl).cover
    pad_covered (destroy_scope p d) = none
    pad_covered (destroy_part p d) = none
    pad_covered (free_object s) = none
    pad_covered leave_handler = none

    exit_covered : (o : Option Op) (c : Cover) (xs : List Exit) (l : ℕ) (outs : List ℕ) → P c → AllCovers P (exit_code em o c xs l outs)
    exit_covered None c xs l outs h = tt
    exit_covered (Some o) c xs l outs h =
        both_covers P (no_way_out em outs) (quiet (label (l + 2)) ∷ put o c ∷ way_tests em xs outs) (no_way_covered outs)
        (none, (put_covered o c h, tests_covered xs outs))

    mutual
      pub region_covered : (r : Region) (c : Cover) (xs : List Exit) (l p : ℕ) → Inside r c → AllCovers P (region_code em c xs l p r)
      region_covered (seq rs) c xs l p h =
          both_covers P (all_code em c (exit_to l ∷ xs) (l + 1) p rs) (quiet (label l) ∷ []) (all_covered rs c (exit_to l ∷ xs) (l + 1) p h) (none, tt)
      region_covered (op o) c xs l p h = (put_covered o c h, tt)
      region_covered (branch v a b) c xs l p h =
          let first = region_code em c (exit_to l ∷ xs) (l + 2) (p + 1) a in
          let second = region_code em c (exit_to l ∷ xs) (l + 2 + labels a) (p + 3 + length first) b in
          let end = quiet (label l) ∷ [] in (
            none,
            both_covers P first (quiet (jump l) ∷ quiet (label (l + 1)) ∷ (second ++ end)) (region_covered a c (exit_to l ∷ xs) (l + 2) (p + 1) h.0)
                (none, (none, both_covers P second end (region_covered b c (exit_to l ∷ xs) (l + 2 + labels a) (p + 3 + length first) h.1) (none, tt))),
          )
      region_covered (loop v r) c xs l p h = (
        none,
        (
          none,
          both_covers P (region_code em c (exit_to l ∷ xs) (l + 2) (p + 2) r) (quiet (jump (l + 1)) ∷ quiet (label l) ∷ [])
              (region_covered r c (exit_to l ∷ xs) (l + 2) (p + 2) h) (none, (none, tt)),
        ),
      )
      region_covered (protect r cl) c xs l p h =
          let inside = cleaned em (p + 1) c in
          let exits = exit_code em (exit_cleanup cl) c xs l (distinct (beyond (outs_of r))) in
          let end = quiet (label l) ∷ [] in (
            none,
            (
              none,
              (
                pad_covered cl,
                (
                  h.0,
                  (
                    none,
                    both_covers P (region_code em inside (protect_exit cl l ∷ xs) (l + 3) (p + 5) r) (exits ++ end)
                        (region_covered r inside (protect_exit cl l ∷ xs) (l + 3) (p + 5) (h.1 (p + 1)))
                        (both_covers P exits end (exit_covered (exit_cleanup cl) c xs l (distinct (beyond (outs_of r))) h.0) (none, tt)),
                  ),
                ),
              ),
            ),
          )
      region_covered (catch r cs) c xs l p h =
          let tests = clause_tests em (l + 2) cs in
          let n = length (types_of cs) in
          let q = p + 3 + length tests in
          let handlers = clauses_code em c (exit_to l ∷ xs) l (l + 2) (l + 2 + n) q cs in
          let inside = guarded (p + 1) (filters_of em (types_of cs)) c in
          let t = p + 4 + length tests + length handlers in
          let body = region_code em inside (exit_to l ∷ xs) (l + 2 + n + labels_clauses cs) t r in
          let end = quiet (label l) ∷ [] in (
            none,
            (
              none,
              both_covers P tests (outward (resume em.object) c ∷ (handlers ++ quiet (label (l + 1)) ∷ (body ++ end))) (clause_tests_covered (l + 2) cs) (
                h.0,
                both_covers P handlers (quiet (label (l + 1)) ∷ (body ++ end)) (clauses_covered cs c (exit_to l ∷ xs) l (l + 2) (l + 2 + n) q h.1)
                    (none, both_covers P body end (region_covered r inside (exit_to l ∷ xs) (l + 2 + n + labels_clauses cs) t (h.2 (p + 1))) (none, tt)),
              ),
            ),
          )
      region_covered (limit r types) c xs l p h =
          let inside = guarded (p + 1) (em.filter (list_of types) ∷ []) c in (
            none,
            (
              none,
              (
                none,
                (
                  h.0,
                  (
                    none,
                    (
                      h.0,
                      (
                        none,
                        both_covers P (region_code em inside (exit_to l ∷ xs) (l + 3) (p + 7) r) (quiet (label l) ∷ [])
                            (region_covered r inside (exit_to l ∷ xs) (l + 3) (p + 7) (h.1 (p + 1))) (none, tt),
                      ),
                    ),
                  ),
                ),
              ),
            ),
          )
      region_covered (barrier r) c xs l p h =
          both_covers P (region_code em bare (exit_to l ∷ xs) (l + 1) p r) (quiet (label l) ∷ []) (region_covered r bare (exit_to l ∷ xs) (l + 1) p h) (none, tt)
      region_covered (leave_region n) c xs l p h = leave_covered (inner n) xs

      all_covered : (rs : RegionList) (c : Cover) (xs : List Exit) (l p : ℕ) → AllInside rs c → AllCovers P (all_code em c xs l p rs)
      all_covered no_regions c xs l p h = tt
      all_covered (region_then r rs) c xs l p h =
          let a = region_code em c xs l p r in
          both_covers P a (all_code em c xs (l + labels r) (p + length a) rs) (region_covered r c xs l p h.0) (all_covered rs c xs (l + labels r) (p + length a) h.1)

      clauses_covered : (cs : Clauses) (c : Cover) (xs : List Exit) (end first l p : ℕ) → ClausesInside cs c → AllCovers P (clauses_code em c xs end first l p cs)
      clauses_covered no_clauses c xs end first l p h = tt
      clauses_covered (clause_then t x r cs) c xs end first l p h =
          let a = region_code em c xs l (p + 2) r in
          let q = p + 3 + length a in (
            none,
            (
              none,
              both_covers P a (quiet (jump end) ∷ clauses_code em c xs end (first + 1) (l + labels r) q cs) (region_covered r c xs l (p + 2) h.0)
                  (none, clauses_covered cs c xs end (first + 1) (l + labels r) q h.1),
            ),
          )
