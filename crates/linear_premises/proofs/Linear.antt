-- What regions give, their linear code gives.
use Rattle.std.proofs.Common.{◌≡◌, ℕ, zero, suc, ◌+◌, Bool, true, false, List, [], ◌∷◌, ◌++◌, map, length, Some, subst}
use Rattle.std.specs.Prelude.{⊤, slice_get, if◌then◌else◌}
use Rattle.region_forms.specs.Form.{Op, destroy, leave, Cleanup, destroy_scope, destroy_part, free_object, leave_handler, Region, seq, op, branch, loop, protect, catch, limit, barrier, leave_region, RegionList, no_regions, region_then, Clauses, no_clauses, clause_then, RegionFunction}
use Rattle.region_forms.specs.Guard.{types_of}
use Rattle.linear_forms.specs.Linear.{LinearOp, plain, label, jump, return}
use Rattle.linear_forms.specs.Tables.{Cover, bare, unpadded, list_of}
use Rattle.linear_forms.specs.Sites.{Placed}
use Rattle.linear_forms.specs.Distinct.{distinct}
use Rattle.linear_forms.specs.Exits.{Exit, exit_to, inner, first_label, crosses, name_of, beyond, outs_of}
use Rattle.linear_forms.specs.Emission.{Emitting, quiet, put, set_way, leave_code, way_tests, no_way_out, pad_cleanup, exit_cleanup, exit_code, cleaned, guarded, protect_exit, filters_of}
use Rattle.linear_forms.specs.Code.{labels, labels_clauses, clause_tests, region_code, all_code, clauses_code}
use Rattle.linear_forms.specs.Unit.{emitting, placed_code, function_code}
use Rattle.address_bounds.specs.Everywhere.{RegionAll, RegionsAll, ClausesAll}
use Rattle.flight_homes.specs.Lives.{OpKnown, anything}
use Rattle.linear_premises.proofs.Expressions.{gives}

abbrev Gives : LinearOp → Type 0
Gives (plain o) = OpKnown anything o
Gives o = Unit {0}

abbrev AllGive : List Placed → Type 0
AllGive [] = ⊤
AllGive (x ∷ xs) = Gives x.op × AllGive xs

both : (a b : List Placed) → AllGive a → AllGive b → AllGive (a ++ b)
both [] b h i = i
both (x ∷ a) b h i = (h.0, both a b h.1 i)

module _ (em : Emitting) where
  leaves : (n : ℕ) (xs : List Exit) → AllGive (leave_code em n xs)
  leaves n xs = go (crosses n xs)
    where
      go : (b : Bool) → AllGive (if b then set_way em (name_of n xs) ∷ quiet (jump (first_label n xs)) ∷ [] else quiet (jump (first_label n xs)) ∷ [])
      go true = (tt, (tt, tt))
      go false = (tt, tt)

  ways : (xs : List Exit) (outs : List ℕ) → AllGive (way_tests em xs outs)
  ways xs [] = tt
  ways xs (n ∷ outs) = (tt, ways xs outs)

  no_ways : (outs : List ℕ) → AllGive (no_way_out em outs)
  no_ways [] = tt
  no_ways (n ∷ outs) = (tt, tt)

  exits_give : (cl : Cleanup) (c : Cover) (xs : List Exit) (l : ℕ) (outs : List ℕ) → AllGive (exit_code em (exit_cleanup cl) c xs l outs)
  exits_give (destroy_scope p d) c xs l outs = both (no_way_out em outs) (quiet (label (l + 2)) ∷ put (destroy p d) c ∷ way_tests em xs outs) (no_ways outs) (tt, (tt, ways xs outs))
  exits_give (destroy_part p d) c xs l outs = tt
  exits_give (free_object s) c xs l outs = tt
  exits_give leave_handler c xs l outs = both (no_way_out em outs) (quiet (label (l + 2)) ∷ put leave c ∷ way_tests em xs outs) (no_ways outs) (tt, (tt, ways xs outs))

  cleanup_gives : (cl : Cleanup) → Gives (pad_cleanup cl).op
  cleanup_gives (destroy_scope p d) = tt
  cleanup_gives (destroy_part p d) = tt
  cleanup_gives (free_object s) = tt
  cleanup_gives leave_handler = tt

  tests_give : (l : ℕ) (cs : Clauses) → AllGive (clause_tests em l cs)
  tests_give l no_clauses = tt
  tests_give l (clause_then t s x cs) = (tt, tests_give (l + 1) cs)

  mutual
    region_gives : (x : Region) (c : Cover) (xs : List Exit) (l p : ℕ) → RegionAll gives x → AllGive (region_code em c xs l p x)
    region_gives (seq rs) c xs l p h = both (all_code em c (exit_to l ∷ xs) (l + 1) p rs) (quiet (label l) ∷ []) (all_give rs c (exit_to l ∷ xs) (l + 1) p h) (tt, tt)
    region_gives (op o) c xs l p h = (h, tt)
    region_gives (branch v a b) c xs l p h =
        let first = region_code em c (exit_to l ∷ xs) (l + 2) (p + 1) a in
        let second = region_code em c (exit_to l ∷ xs) (l + 2 + labels a) (p + 3 + length first) b in (
          tt,
          both first (quiet (jump l) ∷ quiet (label (l + 1)) ∷ (second ++ quiet (label l) ∷ [])) (region_gives a c (exit_to l ∷ xs) (l + 2) (p + 1) h.1)
              (tt, (tt, both second (quiet (label l) ∷ []) (region_gives b c (exit_to l ∷ xs) (l + 2 + labels a) (p + 3 + length first) h.2) (tt, tt))),
        )
    region_gives (loop v a) c xs l p h =
        let body = region_code em c (exit_to l ∷ xs) (l + 2) (p + 2) a in
        (tt, (tt, both body (quiet (jump (l + 1)) ∷ quiet (label l) ∷ []) (region_gives a c (exit_to l ∷ xs) (l + 2) (p + 2) h.1) (tt, (tt, tt))))
    region_gives (protect a cl) c xs l p h =
        let inside = cleaned em (p + 1) c in
        let exits = exit_code em (exit_cleanup cl) c xs l (distinct (beyond (outs_of a))) in
        let body = region_code em inside (protect_exit cl l ∷ xs) (l + 3) (p + 5) a in (
          tt,
          (
            tt,
            (
              cleanup_gives cl,
              (
                tt,
                (
                  tt,
                  both body (exits ++ quiet (label l) ∷ []) (region_gives a inside (protect_exit cl l ∷ xs) (l + 3) (p + 5) h.0)
                      (both exits (quiet (label l) ∷ []) (exits_give cl c xs l (distinct (beyond (outs_of a)))) (tt, tt)),
                ),
              ),
            ),
          ),
        )
    region_gives (catch a cs) c xs l p h =
        let tests = clause_tests em (l + 2) cs in
        let n = length (types_of cs) in
        let handlers = clauses_code em c (exit_to l ∷ xs) l (l + 2) (l + 2 + n) (p + 3 + length tests) cs in
        let inside = guarded (p + 1) (filters_of em (types_of cs)) c in
        let body = region_code em inside (exit_to l ∷ xs) (l + 2 + n + labels_clauses cs) (p + 4 + length tests + length handlers) a in (
          tt,
          (
            tt,
            both tests _ (tests_give (l + 2) cs) (
              tt,
              both handlers _ (clauses_give cs c (exit_to l ∷ xs) l (l + 2) (l + 2 + n) (p + 3 + length tests) h.1)
                  (tt, both body (quiet (label l) ∷ []) (region_gives a inside (exit_to l ∷ xs) (l + 2 + n + labels_clauses cs) (p + 4 + length tests + length handlers) h.0) (tt, tt)),
            ),
          ),
        )
    region_gives (limit a types) c xs l p h =
        let inside = guarded (p + 1) (em.filter (list_of types) ∷ []) c in
        let body = region_code em inside (exit_to l ∷ xs) (l + 3) (p + 7) a in
        (tt, (tt, (tt, (tt, (tt, (tt, (tt, both body (quiet (label l) ∷ []) (region_gives a inside (exit_to l ∷ xs) (l + 3) (p + 7) h) (tt, tt))))))))
    region_gives (barrier a) c xs l p h = both (region_code em bare (exit_to l ∷ xs) (l + 1) p a) (quiet (label l) ∷ []) (region_gives a bare (exit_to l ∷ xs) (l + 1) p h) (tt, tt)
    region_gives (leave_region n) c xs l p h = leaves (inner n) xs

    all_give : (rs : RegionList) (c : Cover) (xs : List Exit) (l p : ℕ) → RegionsAll gives rs → AllGive (all_code em c xs l p rs)
    all_give no_regions c xs l p h = tt
    all_give (region_then a rs) c xs l p h =
        let first = region_code em c xs l p a in both first (all_code em c xs (l + labels a) (p + length first) rs) (region_gives a c xs l p h.0) (all_give rs c xs (l + labels a) (p + length first) h.1)

    clauses_give : (cs : Clauses) (c : Cover) (xs : List Exit) (end first l p : ℕ) → ClausesAll gives cs → AllGive (clauses_code em c xs end first l p cs)
    clauses_give no_clauses c xs end first l p h = tt
    clauses_give (clause_then t s a cs) c xs end first l p h =
        let body = region_code em c xs l (p + 2) a in (
          tt,
          (
            tt,
            both body (quiet (jump end) ∷ clauses_code em c xs end (first + 1) (l + labels a) (p + 3 + length body) cs) (region_gives a c xs l (p + 2) h.1)
                (tt, clauses_give cs c xs end (first + 1) (l + labels a) (p + 3 + length body) h.2),
          ),
        )

gives_at : (is : List Placed) (p : ℕ) (o : LinearOp) → AllGive is → slice_get (map (λ x. x.op) is) p ≡ Some o → Gives o
gives_at [] p o h e = absurd (cc e)
gives_at (x ∷ is) zero o h e = let same : x.op ≡ o = cc e in subst Gives same h.0
gives_at (x ∷ is) (suc p) o h e = gives_at is p o h.1 e

pub function_gives : (f : RegionFunction) → RegionAll gives f.body → (p : ℕ) (o : Op) → slice_get (function_code f).ops p ≡ Some (plain o) → OpKnown anything o
function_gives f h p o e =
    let body = region_code (emitting f) unpadded [] 0 0 f.body in
    gives_at (placed_code f) p (plain o) (both body (quiet (return f.result) ∷ []) (region_gives (emitting f) f.body unpadded [] 0 0 h) (tt, tt)) e
