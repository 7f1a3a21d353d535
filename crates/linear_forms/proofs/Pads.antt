-- Each pad that covers an operation stands where the tables say.
use Rattle.std.proofs.Common.{◌≡◌, ℕ, zero, suc, ◌+◌, Bool, true, false, List, [], ◌∷◌, ◌++◌, length, Option, Some, None, refl, ◌∙◌, subst, arith}
use Rattle.std.specs.Prelude.{slice_get, if◌then◌else◌}
use Rattle.region_forms.specs.Form.{Op, Cleanup, destroy_scope, destroy_part, free_object, leave_handler, Region, seq, op, branch, loop, protect, catch, limit, barrier, leave_region, RegionList, no_regions, region_then, Clauses, no_clauses, clause_then, RegionFunction}
use Rattle.region_forms.specs.Guard.{types_of}
use Rattle.linear_forms.specs.Linear.{label, jump, pad, resume, return}
use Rattle.linear_forms.specs.Tables.{Cover, bare, unpadded, padded, list_of}
use Rattle.linear_forms.specs.Sites.{Placed, cover_in}
use Rattle.linear_forms.specs.Distinct.{distinct}
use Rattle.linear_forms.specs.Exits.{Exit, exit_to, inner, first_label, crosses, name_of, beyond, outs_of}
use Rattle.linear_forms.specs.Emission.{Emitting, may_raise, quiet, outward, put, guarded, cleaned, set_way, leave_code, way_tests, pad_cleanup, exit_cleanup, protect_exit, no_way_out, exit_code, filters_of}
use Rattle.linear_forms.specs.Code.{labels, labels_clauses, clause_tests, region_code, all_code, clauses_code}
use Rattle.linear_forms.specs.Unit.{emitting, placed_code}
use Rattle.linear_forms.specs.Laws.{PadsStand}
use Rattle.linear_forms.proofs.Lists.{mapped, found_in_front, behind}

module _ (whole : List Placed) (em : Emitting) where
  -- a pad begins at a place of the whole code
  abbrev PadAt : ℕ → Type 0
  PadAt q = slice_get whole q ≡ Some (quiet (pad em.object em.selector))

  -- the pad of a cover, if it has one, stands
  abbrev Stands : Cover → Type 0
  Stands bare = Unit {0}
  Stands unpadded = Unit {0}
  Stands (padded q chain) = PadAt q

  -- so do those of operations
  abbrev AllStand : List Placed → Type 0
  AllStand [] = Unit {0}
  AllStand (x ∷ xs) = Stands x.cover × AllStand xs

  both_stand : (a b : List Placed) → AllStand a → AllStand b → AllStand (a ++ b)
  both_stand [] b h g = g
  both_stand (x ∷ a) b h g = (h.0, both_stand a b h.1 g)

  -- a piece of code stands in the whole from a place on
  record From (p : ℕ) (code : List Placed) : Type 0 where
    at : (k : ℕ) (x : Placed) → slice_get code k ≡ Some x → slice_get whole (p + k) ≡ Some x

  front : {p : ℕ} (a b : List Placed) → From p (a ++ b) → From p a
  front a b f = record { at = λ k x e. f.at k x (found_in_front a b k x e) }

  back : {p : ℕ} (q : ℕ) (a b : List Placed) → q ≡ p + length a → From p (a ++ b) → From q b
  back {p} q a b e f = record {
    at = λ k x h. subst (λ n. slice_get whole n ≡ Some x) (omega (arith, e)) (f.at (length a + k) x (behind a b (length a + k) k refl ∙ h));
  }

  rest : {p : ℕ} (q : ℕ) (y : Placed) (xs : List Placed) → q ≡ p + 1 → From p (y ∷ xs) → From q xs
  rest {p} q y xs e f = record { at = λ k x h. subst (λ n. slice_get whole n ≡ Some x) (omega (arith, e)) (f.at (suc k) x h) }

  -- pieces without pads

  leave_stands : (n : ℕ) (xs : List Exit) → AllStand (leave_code em n xs)
  leave_stands n xs = go (crosses n xs)
    where
      go : (b : Bool) → AllStand (if b then set_way em (name_of n xs) ∷ quiet (jump (first_label n xs)) ∷ [] else quiet (jump (first_label n xs)) ∷ [])
      go true = (tt, (tt, tt))
      go false = (tt, tt)

  tests_stand : (xs : List Exit) (outs : List ℕ) → AllStand (way_tests em xs outs)
  tests_stand xs [] = tt
  tests_stand xs (n ∷ outs) = (tt, tests_stand xs outs)

  clause_tests_stand : (l : ℕ) (cs : Clauses) → AllStand (clause_tests em l cs)
  clause_tests_stand l no_clauses = tt
  clause_tests_stand l (clause_then t s r cs) = (tt, clause_tests_stand (l + 1) cs)

  no_way_stands : (outs : List ℕ) → AllStand (no_way_out em outs)
  no_way_stands [] = tt
  no_way_stands (n ∷ outs) = (tt, tt)

  put_stands : (o : Op) (c : Cover) → Stands c → Stands (put o c).cover
  put_stands o c s = go (may_raise o)
    where
      go : (b : Bool) → Stands (if b then c else bare)
      go true = s
      go false = tt

  pad_cleanup_stands : (cl : Cleanup) → Stands (pad_cleanup cl).cover
  pad_cleanup_stands (destroy_scope p d) = tt
  pad_cleanup_stands (destroy_part p d) = tt
  pad_cleanup_stands (free_object s) = tt
  pad_cleanup_stands leave_handler = tt

  exit_stands : (o : Option Op) (c : Cover) (xs : List Exit) (l : ℕ) (outs : List ℕ) → Stands c → AllStand (exit_code em o c xs l outs)
  exit_stands None c xs l outs s = tt
  exit_stands (Some o) c xs l outs s =
      both_stand (no_way_out em outs) (quiet (label (l + 2)) ∷ put o c ∷ way_tests em xs outs) (no_way_stands outs)
      (tt, (put_stands o c s, tests_stand xs outs))

  mutual
    region_stands : (r : Region) (c : Cover) (xs : List Exit) (l p : ℕ) → Stands c → From p (region_code em c xs l p r) → AllStand (region_code em c xs l p r)
    region_stands (seq rs) c xs l p s f =
        let body = all_code em c (exit_to l ∷ xs) (l + 1) p rs in
        both_stand body (quiet (label l) ∷ []) (all_regions_stand rs c (exit_to l ∷ xs) (l + 1) p s (front body (quiet (label l) ∷ []) f)) (tt, tt)
    region_stands (op o) c xs l p s f = (put_stands o c s, tt)
    region_stands (branch v a b) c xs l p s f =
        let first = region_code em c (exit_to l ∷ xs) (l + 2) (p + 1) a in
        let q = p + 3 + length first in
        let second = region_code em c (exit_to l ∷ xs) (l + 2 + labels a) q b in
        let end = quiet (label l) ∷ [] in
        let tail = quiet (jump l) ∷ quiet (label (l + 1)) ∷ (second ++ end) in
        let g = rest (p + 1) _ (first ++ tail) refl f in
        let h = rest q _ (second ++ end) (omega arith) (rest (p + 2 + length first) _ (quiet (label (l + 1)) ∷ (second ++ end)) (omega arith) (back (p + 1 + length first) first tail refl g)) in (
          tt,
          both_stand first tail (region_stands a c (exit_to l ∷ xs) (l + 2) (p + 1) s (front first tail g))
              (tt, (tt, both_stand second end (region_stands b c (exit_to l ∷ xs) (l + 2 + labels a) q s (front second end h)) (tt, tt))),
        )
    region_stands (loop v r) c xs l p s f =
        let body = region_code em c (exit_to l ∷ xs) (l + 2) (p + 2) r in
        let tail = quiet (jump (l + 1)) ∷ quiet (label l) ∷ [] in
        let g = rest (p + 2) _ (body ++ tail) (omega arith) (rest (p + 1) _ (_ ∷ (body ++ tail)) refl f) in (
          tt,
          (tt, both_stand body tail (region_stands r c (exit_to l ∷ xs) (l + 2) (p + 2) s (front body tail g)) (tt, (tt, tt))),
        )
    region_stands (protect r cl) c xs l p s f =
        let exits = exit_code em (exit_cleanup cl) c xs l (distinct (beyond (outs_of r))) in
        let tail = exits ++ quiet (label l) ∷ [] in
        let body = region_code em (cleaned em (p + 1) c) (protect_exit cl l ∷ xs) (l + 3) (p + 5) r in
        let head = quiet (jump (l + 1)) ∷ quiet (pad em.object em.selector) ∷ pad_cleanup cl ∷ outward (resume em.object) c ∷ quiet (label (l + 1)) ∷ [] in
        let g = back (p + 5) head (body ++ tail) refl f in (
          tt,
          (
            tt,
            (
              pad_cleanup_stands cl,
              (
                s,
                (
                  tt,
                  both_stand body tail (region_stands r (cleaned em (p + 1) c) (protect_exit cl l ∷ xs) (l + 3) (p + 5) (f.at 1 (quiet (pad em.object em.selector)) refl) (front body tail g))
                      (both_stand exits (quiet (label l) ∷ []) (exit_stands (exit_cleanup cl) c xs l (distinct (beyond (outs_of r))) s) (tt, tt)),
                ),
              ),
            ),
          ),
        )
    region_stands (catch r cs) c xs l p s f =
        let tests = clause_tests em (l + 2) cs in
        let q = p + 3 + length tests in
        let n = length (types_of cs) in
        let handlers = clauses_code em c (exit_to l ∷ xs) l (l + 2) (l + 2 + n) q cs in
        let inside = guarded (p + 1) (filters_of em (types_of cs)) c in
        let t = p + 4 + length tests + length handlers in
        let body = region_code em inside (exit_to l ∷ xs) (l + 2 + n + labels_clauses cs) t r in
        let end = quiet (label l) ∷ [] in
        let guarded_part = quiet (label (l + 1)) ∷ (body ++ end) in
        let after = outward (resume em.object) c ∷ (handlers ++ guarded_part) in
        let f2 = back (p + 2) (quiet (jump (l + 1)) ∷ quiet (pad em.object em.selector) ∷ []) (tests ++ after) refl f in
        let f3 = rest q _ (handlers ++ guarded_part) (omega arith) (back (p + 2 + length tests) tests after refl f2) in
        let f4 = rest t _ (body ++ end) (omega arith) (back (q + length handlers) handlers guarded_part refl f3) in (
          tt,
          (
            tt,
            both_stand tests after (clause_tests_stand (l + 2) cs) (
              s,
              both_stand handlers guarded_part (clauses_stand cs c (exit_to l ∷ xs) l (l + 2) (l + 2 + n) q s (front handlers guarded_part f3)) (
                tt,
                both_stand body end (region_stands r inside (exit_to l ∷ xs) (l + 2 + n + labels_clauses cs) t (f.at 1 (quiet (pad em.object em.selector)) refl) (front body end f4)) (tt, tt),
              ),
            ),
          ),
        )
    region_stands (limit r types) c xs l p s f =
        let inside = guarded (p + 1) (em.filter (list_of types) ∷ []) c in
        let body = region_code em inside (exit_to l ∷ xs) (l + 3) (p + 7) r in
        let end = quiet (label l) ∷ [] in
        let g = rest (p + 7) _ (body ++ end) (omega arith) (rest (p + 6) _ (_ ∷ (body ++ end)) (omega arith) (rest (p + 5) _ (_ ∷ _ ∷ (body ++ end)) (omega arith)
        (rest (p + 4) _ (_ ∷ _ ∷ _ ∷ (body ++ end)) (omega arith) (rest (p + 3) _ (_ ∷ _ ∷ _ ∷ _ ∷ (body ++ end)) (omega arith)
        (rest (p + 2) _ (_ ∷ _ ∷ _ ∷ _ ∷ _ ∷ (body ++ end)) (omega arith) (rest (p + 1) _ (_ ∷ _ ∷ _ ∷ _ ∷ _ ∷ _ ∷ (body ++ end)) refl f)))))) in (
          tt,
          (
            tt,
            (
              tt,
              (
                s,
                (
                  tt,
                  (
                    s,
                    (
                      tt,
                      both_stand body end (region_stands r inside (exit_to l ∷ xs) (l + 3) (p + 7) (f.at 1 (quiet (pad em.object em.selector)) refl) (front body end g)) (tt, tt),
                    ),
                  ),
                ),
              ),
            ),
          ),
        )
    region_stands (barrier r) c xs l p s f =
        let body = region_code em bare (exit_to l ∷ xs) (l + 1) p r in
        both_stand body (quiet (label l) ∷ []) (region_stands r bare (exit_to l ∷ xs) (l + 1) p tt (front body (quiet (label l) ∷ []) f)) (tt, tt)
    region_stands (leave_region n) c xs l p s f = leave_stands (inner n) xs

    all_regions_stand : (rs : RegionList) (c : Cover) (xs : List Exit) (l p : ℕ) → Stands c → From p (all_code em c xs l p rs) → AllStand (all_code em c xs l p rs)
    all_regions_stand no_regions c xs l p s f = tt
    all_regions_stand (region_then r rs) c xs l p s f =
        let a = region_code em c xs l p r in
        let b = all_code em c xs (l + labels r) (p + length a) rs in
        both_stand a b (region_stands r c xs l p s (front a b f)) (all_regions_stand rs c xs (l + labels r) (p + length a) s (back (p + length a) a b refl f))

    clauses_stand : (cs : Clauses) (c : Cover) (xs : List Exit) (end first l p : ℕ) → Stands c → From p (clauses_code em c xs end first l p cs) → AllStand (clauses_code em c xs end first l p cs)
    clauses_stand no_clauses c xs end first l p s f = tt
    clauses_stand (clause_then t x r cs) c xs end first l p s f =
        let a = region_code em c xs l (p + 2) r in
        let q = p + 3 + length a in
        let b = clauses_code em c xs end (first + 1) (l + labels r) q cs in
        let tail = quiet (jump end) ∷ b in
        let g = rest (p + 2) _ (a ++ tail) (omega arith) (rest (p + 1) _ (_ ∷ (a ++ tail)) refl f) in (
          tt,
          (
            tt,
            both_stand a tail (region_stands r c xs l (p + 2) s (front a tail g))
                (tt, clauses_stand cs c xs end (first + 1) (l + labels r) q s (rest q _ b (omega arith) (back (p + 2 + length a) a tail refl g))),
          ),
        )

  -- what covers an operation of code whose pads stand
  cover_stands : (code : List Placed) → AllStand code → (p : ℕ) → Stands (cover_in code p)
  cover_stands [] h p = tt
  cover_stands (x ∷ xs) h zero = h.0
  cover_stands (x ∷ xs) h (suc p) = cover_stands xs h.1 p

function_stands : (f : RegionFunction) → AllStand (placed_code f) (emitting f) (placed_code f)
function_stands f =
    let body = region_code (emitting f) unpadded [] 0 0 f.body in
    let whole = placed_code f in
    both_stand whole (emitting f) body (quiet (return f.result) ∷ [])
    (region_stands whole (emitting f) f.body unpadded [] 0 0 tt
    (record { at = λ k x e. subst (λ n. slice_get whole n ≡ Some x) (omega arith) (found_in_front body (quiet (return f.result) ∷ []) k x e) }))
    (tt, tt)

pub pads_stand : PadsStand
pads_stand f p q chain e =
    mapped (λ x. x.op) (placed_code f) q (quiet (pad (length f.slots) (length f.slots + 1)))
    (subst (λ c. Stands (placed_code f) (emitting f) c) e (cover_stands (placed_code f) (emitting f) (placed_code f) (function_stands f) p))
