-- The code of each region in step goes on with no more handlers than there are.
use Rattle.std.proofs.Common.{◌≡◌, ℕ, ◌+◌, ◌≤◌, Bool, true, false, List, [], ◌∷◌, ◌++◌, length, Some, refl, sym, ap, ◌∙◌, arith}
use Rattle.std.specs.Prelude.{slice_get, ◌&&◌}
use Rattle.std.proofs.lemmas.Bool.{and_parts}
use Rattle.region_forms.specs.Form.{Region, seq, op, branch, loop, protect, catch, limit, barrier, leave_region, RegionList, no_regions, region_then, Clauses, no_clauses, clause_then}
use Rattle.region_forms.specs.Guard.{types_of}
use Rattle.linear_forms.specs.Linear.{FunctionCode, LinearOp, label, jump, jump_zero, pad, jump_filter, resume, unexpected}
use Rattle.linear_forms.specs.Tables.{Cover, bare, list_of}
use Rattle.linear_forms.specs.Sites.{Placed}
use Rattle.linear_forms.specs.Distinct.{distinct}
use Rattle.linear_forms.specs.Exits.{Exit, exit_to, inner, beyond, outs_of}
use Rattle.linear_forms.specs.Emission.{Emitting, quiet, outward, pad_cleanup, exit_cleanup, exit_code, cleaned, guarded, protect_exit, filters_of}
use Rattle.linear_forms.specs.Code.{labels, labels_clauses, clause_tests, region_code, all_code, clauses_code}
use Rattle.cost_paths.specs.Control.{place_of}
use Rattle.cost_paths.proofs.Ranks.{has_front, has_back}
use Rattle.kept_handlers.specs.Left.{opens_one, leaves_one, is_even, region_in_step, regions_in_step, clauses_in_step}
use Rattle.kept_handlers.proofs.Scanning.{Scan, caught, elsewhere, after, after_all, with_open, even_parts, list_parts, tests_resume, region_after, regions_after, clauses_after}
use Rattle.kept_handlers.proofs.Opening.{held, begins_held, goes_held, cleaned_has, held_left, Has, depth, moved, comes_to, AllOpen, both_open, Around, covered_at, has_many, label_has, to_label, inside, put_opens, leave_opens, cleanup_opens}
use Rattle.kept_handlers.proofs.Exits.{exits_open, exits_guarded, tests_open, tests_have}
use Rattle.kept_handlers.proofs.Behind.{even_after, as_open, clause_labels}

module _ (g : FunctionCode) (at : ℕ → Scan) (moves : (p : ℕ) (o : LinearOp) → slice_get g.ops p ≡ Some o → at (p + 1) ≡ after (at p) o) (em : Emitting) where
  abbrev H : ℕ → List Placed → Type 0
  H = Has g at moves

  abbrev All : ℕ → List Placed → Type 0
  All = AllOpen g at moves

  abbrev A : ℕ → Cover → List Exit → Type 0
  A = Around g at moves

  abbrev both : (p q : ℕ) (a b : List Placed) → q ≡ p + length a → All p a → All q b → All p (a ++ b)
  both = both_open g at moves

  mutual
    pub region_opens : (a : Region) (c : Cover) (xs : List Exit) (l p q n : ℕ) → q ≡ p → region_in_step a ≡ true → H q (region_code em c xs l p a) → at q ≡ with_open (leaves_one a) n → A n c xs → All q (region_code em c xs l p a)
    region_opens (seq rs) c xs l p q n e step has here around =
        let body = all_code em c (exit_to l ∷ xs) (l + 1) p rs in
        let end = quiet (label l) ∷ [] in
        let z = q + length body in
        let has_z = has_back g q z body end refl has in
        let in_body = has_front g q body end has in
        let at_z = comes_to g at moves q z (elsewhere n) (elsewhere n) body refl in_body here (regions_after em rs false c (exit_to l ∷ xs) (l + 1) p n step) in
        both q z body end refl (regions_open rs false c (exit_to l ∷ xs) (l + 1) p q n e step in_body here (inside g at moves l z n c c xs has_z.2 at_z around.cover around)) ((tt, tt, tt), tt)
    region_opens (op o) c xs l p q n e step has here around = (put_opens g at moves q n o c step (has_many g at moves q (elsewhere n) here) around.cover, tt)
    region_opens (branch v a b) c xs l p q n e step has here around =
        let parts = and_parts (is_even a && region_in_step a) (is_even b && region_in_step b) step in
        let one = even_parts a parts.0 in
        let other = even_parts b parts.1 in
        let first = region_code em c (exit_to l ∷ xs) (l + 2) (p + 1) a in
        let second = region_code em c (exit_to l ∷ xs) (l + 2 + labels a) (p + 3 + length first) b in
        let end = quiet (label l) ∷ [] in
        let later = quiet (jump l) ∷ quiet (label (l + 1)) ∷ (second ++ end) in
        let j = q + 1 + length first in
        let r = j + 1 + 1 in
        let z = r + length second in
        let in_first = has_front g (q + 1) first later has.3 in
        let has_j = has_back g (q + 1) j first later refl has.3 in
        let in_second = has_front g r second end has_j.3.3 in
        let has_z = has_back g r z second end refl has_j.3.3 in
        let s = elsewhere n in
        let next = moved g at moves q s (jump_zero v (l + 1)) here has.0 in
        let at_j = even_after g at moves em a c (exit_to l ∷ xs) (l + 2) (p + 1) n (q + 1) j one refl in_first next in
        let at_label = moved g at moves j s (jump l) at_j has_j.0 in
        let at_r = moved g at moves (j + 1) s (label (l + 1)) at_label has_j.3.0 in
        let at_z = even_after g at moves em b c (exit_to l ∷ xs) (l + 2 + labels a) (p + 3 + length first) n r z other refl in_second at_r in
        let within = inside g at moves l z n c c xs has_z.2 at_z around.cover around in (
          (tt, to_label g at moves (l + 1) (j + 1) n q has_j.3.2 at_label (has_many g at moves q s here), tt),
          both (q + 1) j first later refl (region_opens a c (exit_to l ∷ xs) (l + 2) (p + 1) (q + 1) n (omega (arith, e)) one.steps in_first (as_open g at moves em a n (q + 1) one next) within) (
            (tt, to_label g at moves l z n j has_z.2 at_z (has_many g at moves j s at_j), tt),
            (
              (tt, tt, tt),
              both r z second end refl
                  (region_opens b c (exit_to l ∷ xs) (l + 2 + labels a) (p + 3 + length first) r n (omega (arith, e)) other.steps in_second (as_open g at moves em b n r other at_r) within)
                  ((tt, tt, tt), tt),
            ),
          ),
        )
    region_opens (loop v a) c xs l p q n e step has here around =
        let one = even_parts a step in
        let body = region_code em c (exit_to l ∷ xs) (l + 2) (p + 2) a in
        let end = quiet (jump (l + 1)) ∷ quiet (label l) ∷ [] in
        let s = elsewhere n in
        let r = q + 1 + 1 in
        let j = r + length body in
        let in_body = has_front g r body end has.3.3 in
        let has_j = has_back g r j body end refl has.3.3 in
        let at_test = moved g at moves q s (label (l + 1)) here has.0 in
        let at_r = moved g at moves (q + 1) s (jump_zero v l) at_test has.3.0 in
        let at_j = even_after g at moves em a c (exit_to l ∷ xs) (l + 2) (p + 2) n r j one refl in_body at_r in
        let at_z = moved g at moves j s (jump (l + 1)) at_j has_j.0 in
        let within = inside g at moves l (j + 1) n c c xs has_j.3.2 at_z around.cover around in (
          (tt, tt, tt),
          (
            (tt, to_label g at moves l (j + 1) n (q + 1) has_j.3.2 at_z (has_many g at moves (q + 1) s at_test), tt),
            both r j body end refl (region_opens a c (exit_to l ∷ xs) (l + 2) (p + 2) r n (omega (arith, e)) one.steps in_body (as_open g at moves em a n r one at_r) within)
                ((tt, to_label g at moves (l + 1) q n j has.2 here (has_many g at moves j s at_j), tt), ((tt, tt, tt), tt)),
          ),
        )
    region_opens (protect a cl) c xs l p q n e step has here around =
        let one = even_parts a step in
        let cover = cleaned em (p + 1) c in
        let outs = distinct (beyond (outs_of a)) in
        let body = region_code em cover (protect_exit cl l ∷ xs) (l + 3) (p + 5) a in
        let exits = exit_code em (exit_cleanup cl) c xs l outs in
        let end = quiet (label l) ∷ [] in
        let tail = exits ++ end in
        let m = held cl n in
        let s = elsewhere m in
        let u = q + 1 + 1 in
        let t = u + 1 + 1 in
        let r = t + 1 in
        let j = r + length body in
        let z = j + length exits in
        let start : at q ≡ s = here ∙ begins_held a cl n in
        let at_pad = moved g at moves q s (jump (l + 1)) start has.0 in
        let at_u = moved g at moves (q + 1) s (pad em.object em.selector) at_pad has.3.0 in
        let at_resume = moved g at moves u (record { phase = caught; many = m }) (pad_cleanup cl).op at_u has.3.3.0 in
        let at_t = moved g at moves (u + 1) _ (resume em.object) at_resume has.3.3.3.0 ∙ goes_held cl n em.object in
        let at_r = moved g at moves t s (label (l + 1)) at_t has.3.3.3.3.0 in
        let has_r = has.3.3.3.3.3 in
        let in_body = has_front g r body tail has_r in
        let has_j = has_back g r j body tail refl has_r in
        let at_j = even_after g at moves em a cover (protect_exit cl l ∷ xs) (l + 3) (p + 5) m r j one refl in_body at_r in
        let in_exits = has_front g j exits end has_j in
        let has_z = has_back g j z exits end refl has_j in
        let at_z = comes_to g at moves j z s (elsewhere n) exits refl in_exits at_j (held_left em cl n l c xs outs) in
        let own = label_has g at moves l z n has_z.2 at_z in
        let pad_has = has_many g at moves u _ at_u in
        let same = ap (λ k. depth g at moves (k + 1 + 1)) e in
        let within : A m cover (protect_exit cl l ∷ xs) = record { exits = exits_guarded g at moves em n j l c xs outs cl in_exits at_j own around; cover = omega (arith, pad_has, same) } in (
          (tt, to_label g at moves (l + 1) t m q has.3.3.3.3.2 at_t (has_many g at moves q s start), tt),
          (
            (tt, tt, tt),
            (
              cleanup_opens g at moves em u n cl pad_has,
              (
                (tt, tt, covered_at g at moves (u + 1) n c (has_many g at moves (u + 1) _ at_resume ∙ cleaned_has cl n) around.cover),
                (
                  (tt, tt, tt),
                  both r j body tail refl (region_opens a cover (protect_exit cl l ∷ xs) (l + 3) (p + 5) r m (omega (arith, e)) one.steps in_body (as_open g at moves em a m r one at_r) within)
                      (both j z exits end refl (exits_open g at moves em n j l c xs outs cl in_exits at_j around) ((tt, tt, tt), tt)),
                ),
              ),
            ),
          ),
        )
    region_opens (catch a cs) c xs l p q n e step has here around =
        let parts = and_parts (is_even a && region_in_step a) (clauses_in_step cs) step in
        let one = even_parts a parts.0 in
        let tests = clause_tests em (l + 2) cs in
        let k = length (types_of cs) in
        let handlers = clauses_code em c (exit_to l ∷ xs) l (l + 2) (l + 2 + k) (p + 3 + length tests) cs in
        let cover = guarded (p + 1) (filters_of em (types_of cs)) c in
        let body = region_code em cover (exit_to l ∷ xs) (l + 2 + k + labels_clauses cs) (p + 4 + length tests + length handlers) a in
        let end = quiet (label l) ∷ [] in
        let later = quiet (label (l + 1)) ∷ (body ++ end) in
        let s = elsewhere n in
        let u = q + 1 + 1 in
        let w = u + length tests in
        let r = w + 1 in
        let v = r + length handlers in
        let t = v + 1 in
        let z = t + length body in
        let at_pad = moved g at moves q s (jump (l + 1)) here has.0 in
        let at_u = moved g at moves (q + 1) s (pad em.object em.selector) at_pad has.3.0 in
        let in_tests = has_front g u tests (outward (resume em.object) c ∷ (handlers ++ later)) has.3.3 in
        let has_w = has_back g u w tests (outward (resume em.object) c ∷ (handlers ++ later)) refl has.3.3 in
        let pad_has = has_many g at moves u _ at_u in
        let at_w = comes_to g at moves u w (record { phase = caught; many = n }) (after_all (record { phase = caught; many = n }) tests) tests refl in_tests at_u refl in
        let at_r = moved g at moves w _ (resume em.object) at_w has_w.0 ∙ tests_resume em n (l + 2) em.object cs in
        let in_handlers = has_front g r handlers later has_w.3 in
        let has_v = has_back g r v handlers later refl has_w.3 in
        let at_v = comes_to g at moves r v s s handlers refl in_handlers at_r (clauses_after em cs c (exit_to l ∷ xs) l (l + 2) (l + 2 + k) (p + 3 + length tests) n parts.1) in
        let at_t = moved g at moves v s (label (l + 1)) at_v has_v.0 in
        let in_body = has_front g t body end has_v.3 in
        let has_z = has_back g t z body end refl has_v.3 in
        let at_z = even_after g at moves em a cover (exit_to l ∷ xs) (l + 2 + k + labels_clauses cs) (p + 4 + length tests + length handlers) n t z one refl in_body at_t in
        let same = ap (λ i. depth g at moves (i + 1 + 1)) e in
        let labelled = clause_labels g at moves em cs c (exit_to l ∷ xs) l (l + 2) (l + 2 + k) (p + 3 + length tests) r n parts.1 in_handlers at_r in
        let outside = inside g at moves l z n c c xs has_z.2 at_z around.cover around in
        let within = inside g at moves l z n c cover xs has_z.2 at_z (omega (arith, pad_has, same)) around in (
          (tt, to_label g at moves (l + 1) v n q has_v.2 at_v (has_many g at moves q s here), tt),
          (
            (tt, tt, tt),
            both u w tests (outward (resume em.object) c ∷ (handlers ++ later)) refl (tests_open g at moves em cs n (l + 2) u in_tests pad_has labelled) (
              (tt, tt, covered_at g at moves w n c (tests_have g at moves em cs n (l + 2) u w refl in_tests pad_has) around.cover),
              both r v handlers later refl
                  (clauses_open cs c (exit_to l ∷ xs) l (l + 2) (l + 2 + k) (p + 3 + length tests) r n (omega (arith, e)) parts.1 in_handlers at_r (label_has g at moves l z n has_z.2 at_z) outside) (
                    (tt, tt, tt),
                    both t z body end refl
                        (region_opens a cover (exit_to l ∷ xs) (l + 2 + k + labels_clauses cs) (p + 4 + length tests + length handlers) t n (omega (arith, e)) one.steps in_body (as_open g at moves em a n t one at_t) within)
                        ((tt, tt, tt), tt),
                  ),
            ),
          ),
        )
    region_opens (limit a types) c xs l p q n e step has here around =
        let one = even_parts a step in
        let f = em.filter (list_of types) in
        let cover = guarded (p + 1) (f ∷ []) c in
        let body = region_code em cover (exit_to l ∷ xs) (l + 3) (p + 7) a in
        let end = quiet (label l) ∷ [] in
        let s = elsewhere n in
        let u = q + 1 + 1 in
        let w = u + 1 in
        let t = w + 1 in
        let v = t + 1 in
        let x = v + 1 in
        let r = x + 1 in
        let z = r + length body in
        let at_pad = moved g at moves q s (jump (l + 1)) here has.0 in
        let at_u = moved g at moves (q + 1) s (pad em.object em.selector) at_pad has.3.0 in
        let at_w = moved g at moves u (record { phase = caught; many = n }) (jump_filter em.selector f (l + 2)) at_u has.3.3.0 in
        let at_t = moved g at moves w s (resume em.object) at_w has.3.3.3.0 in
        let at_v = moved g at moves t s (label (l + 2)) at_t has.3.3.3.3.0 in
        let at_x = moved g at moves v s (unexpected em.object em.selector) at_v has.3.3.3.3.3.0 in
        let at_r = moved g at moves x s (label (l + 1)) at_x has.3.3.3.3.3.3.0 in
        let has_r = has.3.3.3.3.3.3.3 in
        let in_body = has_front g r body end has_r in
        let has_z = has_back g r z body end refl has_r in
        let at_z = even_after g at moves em a cover (exit_to l ∷ xs) (l + 3) (p + 7) n r z one refl in_body at_r in
        let pad_has = has_many g at moves u _ at_u in
        let same = ap (λ i. depth g at moves (i + 1 + 1)) e in
        let within = inside g at moves l z n c cover xs has_z.2 at_z (omega (arith, pad_has, same)) around in (
          (tt, to_label g at moves (l + 1) x n q has.3.3.3.3.3.3.2 at_x (has_many g at moves q s here), tt),
          (
            (tt, tt, tt),
            (
              (tt, to_label g at moves (l + 2) t n u has.3.3.3.3.2 at_t pad_has, tt),
              (
                (tt, tt, covered_at g at moves w n c (has_many g at moves w s at_w) around.cover),
                (
                  (tt, tt, tt),
                  (
                    (tt, tt, covered_at g at moves v n c (has_many g at moves v s at_v) around.cover),
                    (
                      (tt, tt, tt),
                      both r z body end refl (region_opens a cover (exit_to l ∷ xs) (l + 3) (p + 7) r n (omega (arith, e)) one.steps in_body (as_open g at moves em a n r one at_r) within) ((tt, tt, tt), tt),
                    ),
                  ),
                ),
              ),
            ),
          ),
        )
    region_opens (barrier a) c xs l p q n e step has here around =
        let one = even_parts a step in
        let body = region_code em bare (exit_to l ∷ xs) (l + 1) p a in
        let end = quiet (label l) ∷ [] in
        let z = q + length body in
        let has_z = has_back g q z body end refl has in
        let in_body = has_front g q body end has in
        let at_z = even_after g at moves em a bare (exit_to l ∷ xs) (l + 1) p n q z one refl in_body here in
        both q z body end refl (region_opens a bare (exit_to l ∷ xs) (l + 1) p q n e one.steps in_body (as_open g at moves em a n q one here) (inside g at moves l z n c bare xs has_z.2 at_z tt around)) ((tt, tt, tt), tt)
    region_opens (leave_region m) c xs l p q n e step has here around = leave_opens g at moves em (inner m) q n c xs has here around

    regions_open : (rs : RegionList) (b : Bool) (c : Cover) (xs : List Exit) (l p q n : ℕ) → q ≡ p → regions_in_step b rs ≡ true → H q (all_code em c xs l p rs) → at q ≡ with_open b n → A n c xs → All q (all_code em c xs l p rs)
    regions_open no_regions b c xs l p q n e step has here around = tt
    regions_open (region_then a rs) b c xs l p q n e step has here around =
        let parts = list_parts a rs b step in
        let first = region_code em c xs l p a in
        let rest = all_code em c xs (l + labels a) (p + length first) rs in
        let r = q + length first in
        let in_first = has_front g q first rest has in
        let start : at q ≡ with_open (leaves_one a) n = here ∙ ap (λ x. with_open x n) (sym parts.leaves) in
        let at_r = comes_to g at moves q r (with_open (leaves_one a) n) (with_open (opens_one a) n) first refl in_first start (region_after em a c xs l p n parts.steps) in
        both q r first rest refl (region_opens a c xs l p q n e parts.steps in_first start around)
        (regions_open rs (opens_one a) c xs (l + labels a) (p + length first) r n (omega (arith, e)) parts.rest (has_back g q r first rest refl has) at_r around)

    clauses_open : (cs : Clauses) (c : Cover) (xs : List Exit) (end first l p q n : ℕ) → q ≡ p → clauses_in_step cs ≡ true → H q (clauses_code em c xs end first l p cs) → at q ≡ elsewhere n →
        depth g at moves (place_of g end) ≤ n → A n c xs → All q (clauses_code em c xs end first l p cs)
    clauses_open no_clauses c xs end first l p q n e step has here own around = tt
    clauses_open (clause_then t x a cs) c xs end first l p q n e step has here own around =
        let parts = and_parts (is_even a && region_in_step a) (clauses_in_step cs) step in
        let one = even_parts a parts.0 in
        let body = region_code em c xs l (p + 2) a in
        let rest = clauses_code em c xs end (first + 1) (l + labels a) (p + 3 + length body) cs in
        let later = quiet (jump end) ∷ rest in
        let s = elsewhere n in
        let u = q + 1 + 1 in
        let j = u + length body in
        let in_body = has_front g u body later has.3.3 in
        let has_j = has_back g u j body later refl has.3.3 in
        let at_u = moved g at moves (q + 1) s _ (moved g at moves q s (label first) here has.0) has.3.0 in
        let at_j = even_after g at moves em a c xs l (p + 2) n u j one refl in_body at_u in
        let many = has_many g at moves j s at_j in (
          (tt, tt, tt),
          (
            (tt, tt, tt),
            both u j body later refl (region_opens a c xs l (p + 2) u n (omega (arith, e)) one.steps in_body (as_open g at moves em a n u one at_u) around)
                ((tt, omega (arith, own, many), tt), clauses_open cs c xs end (first + 1) (l + labels a) (p + 3 + length body) (j + 1) n (omega (arith, e)) parts.1 has_j.3 (moved g at moves j s (jump end) at_j has_j.0) own around),
          ),
        )
