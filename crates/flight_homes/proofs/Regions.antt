-- The code of each region fits: its tests go to handlers or are a specification's, and its pads let on what their surroundings let on.
use Rattle.std.proofs.Common.{◌≡◌, inl, ℕ, ◌+◌, ℤ, Bool, true, false, List, [], ◌∷◌, ◌++◌, length, Option, Some, None, refl, ap, ◌∙◌, arith}
use Rattle.std.specs.Prelude.{slice_get, if◌then◌else◌, nat_lt, ◌&&◌}
use Rattle.std.proofs.lemmas.Bool.{and_parts}
use Rattle.region_forms.specs.Form.{through, bind, Slot, Op, Cleanup, destroy_scope, destroy_part, free_object, leave_handler, Region, seq, op, branch, loop, protect, catch, limit, barrier, leave_region, RegionList, no_regions, region_then, Clauses, no_clauses, clause_then, Regions}
use Rattle.region_forms.specs.Guard.{types_of}
use Rattle.region_forms.specs.WellFormed.{every, slot_test, is_help, is_op, pure_value, cleanup_test, clause_type_test, region_test, regions_test, clauses_test}
use Rattle.linear_forms.specs.Linear.{FunctionCode, label, jump, jump_zero, plain, pad, jump_filter, resume, unexpected}
use Rattle.linear_forms.specs.Tables.{Cover, bare, Sense, list_of}
use Rattle.linear_forms.specs.Sites.{Placed}
use Rattle.linear_forms.specs.CodeRuns.{HasAt}
use Rattle.linear_forms.specs.Distinct.{distinct}
use Rattle.linear_forms.specs.Exits.{Exit, exit_to, inner, first_label, crosses, name_of, beyond, outs_of}
use Rattle.linear_forms.specs.Means.{FiltersMean, AllFiltersMean, ClauseFiltersMean}
use Rattle.linear_forms.specs.Agrees.{IsSited}
use Rattle.linear_forms.specs.Emission.{Emitting, quiet, outward, put, set_way, leave_code, way_tests, no_way_out, pad_cleanup, exit_cleanup, exit_code, cleaned, guarded, protect_exit, filters_of}
use Rattle.linear_forms.specs.Code.{labels, labels_clauses, clause_tests, region_code, all_code, clauses_code}
use Rattle.cost_paths.proofs.Ranks.{alone, has_front, has_back}
use Rattle.flight_homes.proofs.Fits.{IsSpecified, TestFits, CoverFits, AllFit, both_fit, put_fits, AreHandlers, tests_fit}
use Rattle.flight_homes.proofs.Chains.{cleaned_fits, tested, caught_fits, limited_fits}

module _ (r : Regions) (slots : List Slot) (senses : ℤ → Sense) (g : FunctionCode) (em : Emitting) where
  abbrev Fit : ℕ → List Placed → Type 0
  Fit = AllFit r.types senses g

  abbrev Covers : Cover → Type 0
  Covers = CoverFits r.types senses g

  abbrev Has : ℕ → List Placed → Type 0
  Has = HasAt (alone g) 0

  both : (p q : ℕ) (a b : List Placed) → q ≡ p + length a → Fit p a → Fit q b → Fit p (a ++ b)
  both = both_fit r.types senses g

  leave_fits : (n p : ℕ) (xs : List Exit) → Fit p (leave_code em n xs)
  leave_fits n p xs = go (crosses n xs)
    where
      go : (b : Bool) → Fit p (if b then set_way em (name_of n xs) ∷ quiet (jump (first_label n xs)) ∷ [] else quiet (jump (first_label n xs)) ∷ [])
      go true = ((tt, tt), ((tt, tt), tt))
      go false = ((tt, tt), tt)

  ways_fit : (xs : List Exit) (p : ℕ) (outs : List ℕ) → Fit p (way_tests em xs outs)
  ways_fit xs p [] = tt
  ways_fit xs p (n ∷ outs) = ((tt, tt), ways_fit xs (p + 1) outs)

  no_way_fits : (p : ℕ) (outs : List ℕ) → Fit p (no_way_out em outs)
  no_way_fits p [] = tt
  no_way_fits p (n ∷ outs) = ((tt, tt), tt)

  exit_fits : (o : Option Op) (c : Cover) (xs : List Exit) (l p : ℕ) (outs : List ℕ) → Covers c → Fit p (exit_code em o c xs l outs)
  exit_fits None c xs l p outs h = tt
  exit_fits (Some o) c xs l p outs h =
      let front = no_way_out em outs in
      let q = p + length front in
      both p q front (quiet (label (l + 2)) ∷ put o c ∷ way_tests em xs outs) refl (no_way_fits p outs) ((tt, tt), ((tt, put_fits r.types senses g o c h), ways_fit xs (q + 1 + 1) outs))

  cleanup_fits : (cl : Cleanup) (p : ℕ) → TestFits r.types senses g p (pad_cleanup cl).op × Covers (pad_cleanup cl).cover
  cleanup_fits (destroy_scope q d) p = (tt, tt)
  cleanup_fits (destroy_part q d) p = (tt, tt)
  cleanup_fits (free_object s) p = (tt, tt)
  cleanup_fits leave_handler p = (tt, tt)

  -- each handler begins with the object
  handlers_begin : (cs : Clauses) (c : Cover) (xs : List Exit) (end first l p : ℕ) → Has p (clauses_code em c xs end first l p cs) → AreHandlers r.types senses g first cs
  handlers_begin no_clauses c xs end first l p has = tt
  handlers_begin (clause_then t x a cs) c xs end first l p has =
      let body = region_code em c xs l (p + 2) a in
      let q = p + 3 + length body in
      let rest = clauses_code em c xs end (first + 1) (l + labels a) q cs in
      let behind = has_back g (p + 1 + 1) (p + 1 + 1 + length body) body (quiet (jump end) ∷ rest) refl has.3.3 in
      let others = has_back g (p + 1 + 1 + length body) q (quiet (jump end) ∷ []) rest (omega arith) behind in (
        record {
          begins = ap (slice_get g.ops) has.2 ∙ has.0;
          slot = x;
          object = record { root = through em.object; offset = 0 };
          binds = ap (λ k. slice_get g.ops (k + 1)) has.2 ∙ has.3.0;
        },
        handlers_begin cs c xs end (first + 1) (l + labels a) q others,
      )

  mutual
    pub region_fits : (x : Region) (d : ℕ) (c : Cover) (xs : List Exit) (l p : ℕ) → region_test r slots d x ≡ true → FiltersMean senses em.filter x → IsSited c → Covers c → Has p (region_code em c xs l p x) →
        Fit p (region_code em c xs l p x)
    region_fits (seq rs) d c xs l p h m s k has =
        let body = all_code em c (exit_to l ∷ xs) (l + 1) p rs in
        both p (p + length body) body (quiet (label l) ∷ []) refl (all_fit rs (d + 1) c (exit_to l ∷ xs) (l + 1) p h m s k (has_front g p body (quiet (label l) ∷ []) has)) ((tt, tt), tt)
    region_fits (op o) d c xs l p h m s k has = ((tt, put_fits r.types senses g o c k), tt)
    region_fits (branch v a b) d c xs l p h m s k has =
        let sides = and_parts (region_test r slots (d + 1) a) (region_test r slots (d + 1) b) (and_parts (pure_value r slots v) _ h).1 in
        let first = region_code em c (exit_to l ∷ xs) (l + 2) (p + 1) a in
        let q = p + 3 + length first in
        let second = region_code em c (exit_to l ∷ xs) (l + 2 + labels a) q b in
        let end = quiet (label l) ∷ [] in
        let middle = quiet (jump l) ∷ quiet (label (l + 1)) ∷ [] in
        let j = p + 1 + length first in
        let has_j = has_back g (p + 1) j first (middle ++ (second ++ end)) refl has.3 in
        let has_q = has_back g j q middle (second ++ end) (omega arith) has_j in (
          (tt, tt),
          both (p + 1) j first (middle ++ (second ++ end)) refl (region_fits a (d + 1) c (exit_to l ∷ xs) (l + 2) (p + 1) sides.0 m.0 s k (has_front g (p + 1) first (middle ++ (second ++ end)) has.3))
              (both j q middle (second ++ end) (omega arith) ((tt, tt), ((tt, tt), tt))
              (both q (q + length second) second end refl (region_fits b (d + 1) c (exit_to l ∷ xs) (l + 2 + labels a) q sides.1 m.1 s k (has_front g q second end has_q)) ((tt, tt), tt))),
        )
    region_fits (loop v a) d c xs l p h m s k has =
        let body = region_code em c (exit_to l ∷ xs) (l + 2) (p + 2) a in
        let head = quiet (label (l + 1)) ∷ quiet (jump_zero v l) ∷ [] in
        let end = quiet (jump (l + 1)) ∷ quiet (label l) ∷ [] in
        let has_body = has_back g p (p + 2) head (body ++ end) refl has in
        both p (p + 2) head (body ++ end) refl ((tt, tt), ((tt, tt), tt))
        (both (p + 2) (p + 2 + length body) body end refl (region_fits a (d + 1) c (exit_to l ∷ xs) (l + 2) (p + 2) (and_parts (pure_value r slots v) _ h).1 m s k (has_front g (p + 2) body end has_body)) ((tt, tt), ((tt, tt), tt)))
    region_fits (protect a cl) d c xs l p h m s k has =
        let inside = cleaned em (p + 1) c in
        let outs = distinct (beyond (outs_of a)) in
        let exits = exit_code em (exit_cleanup cl) c xs l outs in
        let body = region_code em inside (protect_exit cl l ∷ xs) (l + 3) (p + 5) a in
        let end = quiet (label l) ∷ [] in
        let tail = exits ++ end in
        let head = quiet (jump (l + 1)) ∷ quiet (pad em.object em.selector) ∷ pad_cleanup cl ∷ outward (resume em.object) c ∷ quiet (label (l + 1)) ∷ [] in
        let has_body = has_back g p (p + 5) head (body ++ tail) refl has in
        let covered = cleaned_fits r.types senses g em c cl (p + 1) em.object s m.0 has.3.3.0 has.3.3.3.0 has.3.3.3.1 in
        let j = p + 5 + length body in
        both p (p + 5) head (body ++ tail) refl ((tt, tt), ((tt, tt), (cleanup_fits cl (p + 1 + 1), ((tt, k), ((tt, tt), tt)))))
        (both (p + 5) j body tail refl
        (region_fits a (d + 1) inside (protect_exit cl l ∷ xs) (l + 3) (p + 5) (and_parts (cleanup_test r slots cl) _ h).1 m.1 tt covered (has_front g (p + 5) body tail has_body))
        (both j (j + length exits) exits end refl (exit_fits (exit_cleanup cl) c xs l j outs k) ((tt, tt), tt)))
    region_fits (catch a cs) d c xs l p h m s k has =
        let sides = and_parts (region_test r slots (d + 1) a) (clauses_test r slots (d + 1) cs) h in
        let tests = clause_tests em (l + 2) cs in
        let n = length (types_of cs) in
        let q = p + 3 + length tests in
        let handlers = clauses_code em c (exit_to l ∷ xs) l (l + 2) (l + 2 + n) q cs in
        let inside = guarded (p + 1) (filters_of em (types_of cs)) c in
        let t = p + 4 + length tests + length handlers in
        let body = region_code em inside (exit_to l ∷ xs) (l + 2 + n + labels_clauses cs) t a in
        let end = quiet (label l) ∷ [] in
        let begin = quiet (label (l + 1)) ∷ [] in
        let going = outward (resume em.object) c ∷ [] in
        let later = handlers ++ (begin ++ (body ++ end)) in
        let u = p + 1 + 1 + length tests in
        let v = q + length handlers in
        let has_u = has_back g (p + 1 + 1) u tests (going ++ later) refl has.3.3 in
        let has_q = has_back g u q going later (omega arith) has_u in
        let has_v = has_back g q v handlers (begin ++ (body ++ end)) refl has_q in
        let has_t = has_back g v t begin (body ++ end) (omega arith) has_v in
        let has_handlers = has_front g q handlers (begin ++ (body ++ end)) has_q in
        let begins = handlers_begin cs c (exit_to l ∷ xs) l (l + 2) (l + 2 + n) q has_handlers in
        let covered = caught_fits r.types senses g em c cs (p + 1) em.object s m.0 (tested r.types senses g em cs c (l + 2) (p + 1 + 1) em.object later has.3.3) in (
          (tt, tt),
          (
            (tt, tt),
            both (p + 1 + 1) u tests (going ++ later) refl (tests_fit r.types senses g em cs (l + 2) (p + 1 + 1) begins)
                (both u q going later (omega arith) ((tt, k), tt)
                (both q v handlers (begin ++ (body ++ end)) refl (clauses_fit cs (d + 1) c (exit_to l ∷ xs) l (l + 2) (l + 2 + n) q sides.1 m.2 s k has_handlers)
                (both v t begin (body ++ end) (omega arith) ((tt, tt), tt)
                (both t (t + length body) body end refl
                (region_fits a (d + 1) inside (exit_to l ∷ xs) (l + 2 + n + labels_clauses cs) t sides.0 m.1 tt covered (has_front g t body end has_t)) ((tt, tt), tt))))),
          ),
        )
    region_fits (limit a types) d c xs l p h m s k has =
        let f = em.filter (list_of types) in
        let inside = guarded (p + 1) (f ∷ []) c in
        let body = region_code em inside (exit_to l ∷ xs) (l + 3) (p + 7) a in
        let end = quiet (label l) ∷ [] in
        let head = quiet (jump (l + 1)) ∷ quiet (pad em.object em.selector) ∷ quiet (jump_filter em.selector f (l + 2)) ∷ outward (resume em.object) c ∷ quiet (label (l + 2)) ∷ outward (unexpected em.object em.selector) c ∷ quiet (label (l + 1)) ∷ [] in
        let has_body = has_back g p (p + 7) head (body ++ end) refl has in
        let covered = limited_fits r.types senses g em c types (p + 1) em.object (l + 2) s m.0 has.3.3.0 has.3.3.3.0 has.3.3.3.1 in
        let test : IsSpecified r.types senses g (p + 1 + 1) (l + 2) = record {
          place = has.3.3.3.3.2;
          slot = em.object;
          on = has.3.3.3.0;
          begins = has.3.3.3.3.0;
          object = em.object;
          selector = em.selector;
          stops = has.3.3.3.3.3.0;
        } in
        both p (p + 7) head (body ++ end) refl ((tt, tt), ((tt, tt), ((inl test, tt), ((tt, k), ((tt, tt), ((tt, k), ((tt, tt), tt)))))))
        (both (p + 7) (p + 7 + length body) body end refl
        (region_fits a (d + 1) inside (exit_to l ∷ xs) (l + 3) (p + 7) (and_parts (every (λ t. nat_lt t (length r.types)) types) _ h).1 m.1 tt covered (has_front g (p + 7) body end has_body)) ((tt, tt), tt))
    region_fits (barrier a) d c xs l p h m s k has = barred a (and_parts (is_op a) _ h).0
      where
        -- a barrier holds one operation, out of which nothing comes
        barred : (a : Region) → is_op a ≡ true → Fit p (region_code em bare (exit_to l ∷ xs) (l + 1) p a ++ quiet (label l) ∷ [])
        barred (seq rs) e = absurd (cc e)
        barred (op o) e = ((tt, put_fits r.types senses g o bare tt), ((tt, tt), tt))
        barred (branch v a b) e = absurd (cc e)
        barred (loop v a) e = absurd (cc e)
        barred (protect a cl) e = absurd (cc e)
        barred (catch a cs) e = absurd (cc e)
        barred (limit a types) e = absurd (cc e)
        barred (barrier a) e = absurd (cc e)
        barred (leave_region n) e = absurd (cc e)
    region_fits (leave_region n) d c xs l p h m s k has = leave_fits (inner n) p xs

    all_fit : (rs : RegionList) (d : ℕ) (c : Cover) (xs : List Exit) (l p : ℕ) → regions_test r slots d rs ≡ true → AllFiltersMean senses em.filter rs → IsSited c → Covers c → Has p (all_code em c xs l p rs) →
        Fit p (all_code em c xs l p rs)
    all_fit no_regions d c xs l p h m s k has = tt
    all_fit (region_then a rs) d c xs l p h m s k has =
        let sides = and_parts (region_test r slots d a) (regions_test r slots d rs) h in
        let first = region_code em c xs l p a in
        let q = p + length first in
        let rest = all_code em c xs (l + labels a) q rs in
        both p q first rest refl (region_fits a d c xs l p sides.0 m.0 s k (has_front g p first rest has)) (all_fit rs d c xs (l + labels a) q sides.1 m.1 s k (has_back g p q first rest refl has))

    clauses_fit : (cs : Clauses) (d : ℕ) (c : Cover) (xs : List Exit) (end first l p : ℕ) → clauses_test r slots d cs ≡ true → ClauseFiltersMean senses em.filter cs → IsSited c → Covers c →
        Has p (clauses_code em c xs end first l p cs) → Fit p (clauses_code em c xs end first l p cs)
    clauses_fit no_clauses d c xs end first l p h m s k has = tt
    clauses_fit (clause_then t x a cs) d c xs end first l p h m s k has =
        let own = and_parts (slot_test is_help slots x) (region_test r slots d a && clauses_test r slots d cs) (and_parts (clause_type_test r t) _ h).1 in
        let sides = and_parts (region_test r slots d a) (clauses_test r slots d cs) own.1 in
        let body = region_code em c xs l (p + 2) a in
        let j = p + 2 + length body in
        let q = p + 3 + length body in
        let rest = clauses_code em c xs end (first + 1) (l + labels a) q cs in
        let going = quiet (jump end) ∷ [] in
        let head = quiet (label first) ∷ quiet (plain (bind x (record { root = through em.object; offset = 0 }))) ∷ [] in
        let has_body = has_back g p (p + 2) head (body ++ (going ++ rest)) refl has in
        let has_j = has_back g (p + 2) j body (going ++ rest) refl has_body in
        let has_q = has_back g j q going rest (omega arith) has_j in
        both p (p + 2) head (body ++ (going ++ rest)) refl ((tt, tt), ((tt, tt), tt))
        (both (p + 2) j body (going ++ rest) refl (region_fits a d c xs l (p + 2) sides.0 m.0 s k (has_front g (p + 2) body (going ++ rest) has_body))
        (both j q going rest (omega arith) ((tt, tt), tt) (clauses_fit cs d c xs end (first + 1) (l + labels a) q sides.1 m.1 s k has_q)))
