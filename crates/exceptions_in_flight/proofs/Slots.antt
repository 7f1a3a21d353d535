-- In a well-formed function no operation writes a slot of a pad, but the pads.
use Rattle.std.proofs.Common.{◌≡◌, ℕ, zero, suc, ◌+◌, ◌<◌, Bool, true, false, List, [], ◌∷◌, ◌++◌, map, length, Some, inl, inr, refl, subst, arith}
use Rattle.std.specs.Prelude.{slice_get, nat_lt, nat_le, ◌&&◌, if◌then◌else◌}
use Rattle.std.proofs.lemmas.Bool.{and_parts}
use Rattle.std.proofs.lemmas.Bool.Decides.{nat_tests}
use Rattle.region_forms.specs.Form.{SlotKind, Slot, Root, in_slot, through, in_global, Op, evaluate, store, bind, call, construct, destroy, make, throw, rethrow, enter, leave, Cleanup, destroy_scope, destroy_part, free_object, leave_handler, Region, seq, op, branch, loop, protect, catch, limit, barrier, leave_region, RegionList, no_regions, region_then, Clauses, no_clauses, clause_then, Regions}
use Rattle.region_forms.specs.Guard.{types_of}
use Rattle.region_forms.specs.WellFormed.{every, slot_test, int_place, address_place, holds_ints, is_reference, is_help, is_op, pure_value, op_test, cleanup_test, clause_type_test, result_test, region_test, regions_test, clauses_test}
use Rattle.linear_forms.specs.Linear.{LinearOp, plain, label, jump, return}
use Rattle.linear_forms.specs.Tables.{Cover, bare, unpadded, list_of}
use Rattle.linear_forms.specs.Sites.{Placed}
use Rattle.linear_forms.specs.Distinct.{distinct}
use Rattle.linear_forms.specs.Exits.{Exit, exit_to, inner, first_label, crosses, name_of, beyond, outs_of}
use Rattle.linear_forms.specs.Emission.{Emitting, quiet, put, set_way, leave_code, way_tests, no_way_out, pad_cleanup, exit_cleanup, exit_code, cleaned, guarded, protect_exit, filters_of}
use Rattle.linear_forms.specs.Code.{labels, labels_clauses, clause_tests, region_code, all_code, clauses_code}
use Rattle.linear_forms.specs.Unit.{emitting, placed_code}
use Rattle.exceptions_in_flight.specs.Slots.{RootKeeps, Keeps, SlotsAreKept}

module _ (r : Regions) (slots : List Slot) (em : Emitting) where
  abbrev AllKeep : List Placed → Type 0
  AllKeep [] = Unit {0}
  AllKeep (x ∷ xs) = Keeps (length slots) em x.op × AllKeep xs

  both_keep : (a b : List Placed) → AllKeep a → AllKeep b → AllKeep (a ++ b)
  both_keep [] b h k = k
  both_keep (x ∷ a) b h k = (h.0, both_keep a b h.1 k)

  below : (test : SlotKind → Bool) (s : ℕ) → slot_test test slots s ≡ true → s < length slots
  below test s h = let inside = (and_parts (nat_lt s (length slots)) _ h).0 in grind (arith, nat_tests, inside)

  root_keeps : (x : Root) (n : ℕ) → int_place r slots (record { root = x; offset = n }) ≡ true → RootKeeps (length slots) em x
  root_keeps (in_slot s) n h = inl (below holds_ints s (and_parts (slot_test holds_ints slots s) _ h).0)
  root_keeps (through s) n h = tt
  root_keeps (in_global g) n h = tt

  op_keeps : (o : Op) → op_test r slots o ≡ true → Keeps (length slots) em (plain o)
  op_keeps (evaluate v) h = tt
  op_keeps (store p v) h = root_keeps p.root p.offset (and_parts (int_place r slots p) _ h).0
  op_keeps (bind s p) h = below is_reference s (and_parts (slot_test is_reference slots s) (address_place r slots p) h).0
  op_keeps (call c args) h = tt
  op_keeps (construct p n args) h = tt
  op_keeps (destroy p n) h = tt
  op_keeps (make s) h = below is_help s h
  op_keeps (throw s t d) h = tt
  op_keeps rethrow h = tt
  op_keeps (enter s) h = tt
  op_keeps leave h = tt

  leave_keeps : (n : ℕ) (xs : List Exit) → AllKeep (leave_code em n xs)
  leave_keeps n xs = go (crosses n xs)
    where
      go : (b : Bool) → AllKeep (if b then set_way em (name_of n xs) ∷ quiet (jump (first_label n xs)) ∷ [] else quiet (jump (first_label n xs)) ∷ [])
      go true = (inr refl, (tt, tt))
      go false = (tt, tt)

  tests_keep : (xs : List Exit) (outs : List ℕ) → AllKeep (way_tests em xs outs)
  tests_keep xs [] = tt
  tests_keep xs (n ∷ outs) = (tt, tests_keep xs outs)

  no_way_keeps : (outs : List ℕ) → AllKeep (no_way_out em outs)
  no_way_keeps [] = tt
  no_way_keeps (n ∷ outs) = (inr refl, tt)

  -- a cleanup writes no slot
  exit_keeps : (cl : Cleanup) (c : Cover) (xs : List Exit) (l : ℕ) (outs : List ℕ) → AllKeep (exit_code em (exit_cleanup cl) c xs l outs)
  exit_keeps (destroy_scope p d) c xs l outs = both_keep (no_way_out em outs) (quiet (label (l + 2)) ∷ put (destroy p d) c ∷ way_tests em xs outs) (no_way_keeps outs) (tt, (tt, tests_keep xs outs))
  exit_keeps (destroy_part p d) c xs l outs = tt
  exit_keeps (free_object s) c xs l outs = tt
  exit_keeps leave_handler c xs l outs = both_keep (no_way_out em outs) (quiet (label (l + 2)) ∷ put leave c ∷ way_tests em xs outs) (no_way_keeps outs) (tt, (tt, tests_keep xs outs))

  pad_keeps : (cl : Cleanup) → Keeps (length slots) em (pad_cleanup cl).op
  pad_keeps (destroy_scope p d) = tt
  pad_keeps (destroy_part p d) = tt
  pad_keeps (free_object s) = tt
  pad_keeps leave_handler = tt

  clause_tests_keep : (l : ℕ) (cs : Clauses) → AllKeep (clause_tests em l cs)
  clause_tests_keep l no_clauses = tt
  clause_tests_keep l (clause_then t s x cs) = (tt, clause_tests_keep (l + 1) cs)

  mutual
    region_keeps : (x : Region) (d : ℕ) (c : Cover) (xs : List Exit) (l p : ℕ) → region_test r slots d x ≡ true → AllKeep (region_code em c xs l p x)
    region_keeps (seq rs) d c xs l p h =
        both_keep (all_code em c (exit_to l ∷ xs) (l + 1) p rs) (quiet (label l) ∷ []) (all_keep rs (d + 1) c (exit_to l ∷ xs) (l + 1) p h) (tt, tt)
    region_keeps (op o) d c xs l p h = (op_keeps o h, tt)
    region_keeps (branch v a b) d c xs l p h =
        let sides = and_parts (region_test r slots (d + 1) a) (region_test r slots (d + 1) b) (and_parts (pure_value r slots v) _ h).1 in
        let first = region_code em c (exit_to l ∷ xs) (l + 2) (p + 1) a in
        let second = region_code em c (exit_to l ∷ xs) (l + 2 + labels a) (p + 3 + length first) b in (
          tt,
          both_keep first (quiet (jump l) ∷ quiet (label (l + 1)) ∷ (second ++ quiet (label l) ∷ [])) (region_keeps a (d + 1) c (exit_to l ∷ xs) (l + 2) (p + 1) sides.0)
              (tt, (tt, both_keep second (quiet (label l) ∷ []) (region_keeps b (d + 1) c (exit_to l ∷ xs) (l + 2 + labels a) (p + 3 + length first) sides.1) (tt, tt))),
        )
    region_keeps (loop v a) d c xs l p h =
        let body = region_code em c (exit_to l ∷ xs) (l + 2) (p + 2) a in (
          tt,
          (
            tt,
            both_keep body (quiet (jump (l + 1)) ∷ quiet (label l) ∷ []) (region_keeps a (d + 1) c (exit_to l ∷ xs) (l + 2) (p + 2) (and_parts (pure_value r slots v) _ h).1) (tt, (tt, tt)),
          ),
        )
    region_keeps (protect a cl) d c xs l p h =
        let inside = cleaned em (p + 1) c in
        let exits = exit_code em (exit_cleanup cl) c xs l (distinct (beyond (outs_of a))) in
        let body = region_code em inside (protect_exit cl l ∷ xs) (l + 3) (p + 5) a in (
          tt,
          (
            (refl, refl),
            (
              pad_keeps cl,
              (
                tt,
                (
                  tt,
                  both_keep body (exits ++ quiet (label l) ∷ []) (region_keeps a (d + 1) inside (protect_exit cl l ∷ xs) (l + 3) (p + 5) (and_parts (cleanup_test r slots cl) _ h).1)
                      (both_keep exits (quiet (label l) ∷ []) (exit_keeps cl c xs l (distinct (beyond (outs_of a)))) (tt, tt)),
                ),
              ),
            ),
          ),
        )
    region_keeps (catch a cs) d c xs l p h =
        let both = and_parts (region_test r slots (d + 1) a) (clauses_test r slots (d + 1) cs) h in
        let tests = clause_tests em (l + 2) cs in
        let n = length (types_of cs) in
        let handlers = clauses_code em c (exit_to l ∷ xs) l (l + 2) (l + 2 + n) (p + 3 + length tests) cs in
        let inside = guarded (p + 1) (filters_of em (types_of cs)) c in
        let body = region_code em inside (exit_to l ∷ xs) (l + 2 + n + labels_clauses cs) (p + 4 + length tests + length handlers) a in (
          tt,
          (
            (refl, refl),
            both_keep tests _ (clause_tests_keep (l + 2) cs) (
              tt,
              both_keep handlers _ (clauses_keep cs (d + 1) c (exit_to l ∷ xs) l (l + 2) (l + 2 + n) (p + 3 + length tests) both.1) (
                tt,
                both_keep body (quiet (label l) ∷ [])
                    (region_keeps a (d + 1) inside (exit_to l ∷ xs) (l + 2 + n + labels_clauses cs) (p + 4 + length tests + length handlers) both.0) (tt, tt),
              ),
            ),
          ),
        )
    region_keeps (limit a types) d c xs l p h =
        let inside = guarded (p + 1) (em.filter (list_of types) ∷ []) c in
        let body = region_code em inside (exit_to l ∷ xs) (l + 3) (p + 7) a in (
          tt,
          (
            (refl, refl),
            (
              tt,
              (
                tt,
                (
                  tt,
                  (
                    tt,
                    (
                      tt,
                      both_keep body (quiet (label l) ∷ []) (region_keeps a (d + 1) inside (exit_to l ∷ xs) (l + 3) (p + 7) (and_parts (every (λ t. nat_lt t (length r.types)) types) _ h).1) (tt, tt),
                    ),
                  ),
                ),
              ),
            ),
          ),
        )
    region_keeps (barrier a) d c xs l p h =
        both_keep (region_code em bare (exit_to l ∷ xs) (l + 1) p a) (quiet (label l) ∷ []) (region_keeps a (d + 1) bare (exit_to l ∷ xs) (l + 1) p (and_parts (is_op a) _ h).1) (tt, tt)
    region_keeps (leave_region n) d c xs l p h = leave_keeps (inner n) xs

    all_keep : (rs : RegionList) (d : ℕ) (c : Cover) (xs : List Exit) (l p : ℕ) → regions_test r slots d rs ≡ true → AllKeep (all_code em c xs l p rs)
    all_keep no_regions d c xs l p h = tt
    all_keep (region_then a rs) d c xs l p h =
        let both = and_parts (region_test r slots d a) (regions_test r slots d rs) h in
        let first = region_code em c xs l p a in
        both_keep first (all_code em c xs (l + labels a) (p + length first) rs) (region_keeps a d c xs l p both.0) (all_keep rs d c xs (l + labels a) (p + length first) both.1)

    clauses_keep : (cs : Clauses) (d : ℕ) (c : Cover) (xs : List Exit) (end first l p : ℕ) → clauses_test r slots d cs ≡ true → AllKeep (clauses_code em c xs end first l p cs)
    clauses_keep no_clauses d c xs end first l p h = tt
    clauses_keep (clause_then t s a cs) d c xs end first l p h =
        let own = and_parts (slot_test is_help slots s) (region_test r slots d a && clauses_test r slots d cs) (and_parts (clause_type_test r t) _ h).1 in
        let both = and_parts (region_test r slots d a) (clauses_test r slots d cs) own.1 in
        let body = region_code em c xs l (p + 2) a in (
          tt,
          (
            below is_help s own.0,
            both_keep body (quiet (jump end) ∷ clauses_code em c xs end (first + 1) (l + labels a) (p + 3 + length body) cs) (region_keeps a d c xs l (p + 2) both.0)
                (tt, clauses_keep cs d c xs end (first + 1) (l + labels a) (p + 3 + length body) both.1),
          ),
        )

  kept_at : (is : List Placed) (p : ℕ) (o : LinearOp) → AllKeep is → slice_get (map (λ x. x.op) is) p ≡ Some o → Keeps (length slots) em o
  kept_at [] p o h e = absurd (cc e)
  kept_at (x ∷ is) zero o h e = let same : x.op ≡ o = cc e in subst (Keeps (length slots) em) same h.0
  kept_at (x ∷ is) (suc p) o h e = kept_at is p o h.1 e

pub slots_are_kept : SlotsAreKept
slots_are_kept r f h p o e =
    let tested = and_parts (result_test f.slots f.result) (region_test r f.slots 0 f.body) (and_parts (nat_le f.parameters (length f.slots)) _ h).1 in
    let body = region_code (emitting f) unpadded [] 0 0 f.body in
    let all = both_keep r f.slots (emitting f) body (quiet (return f.result) ∷ []) (region_keeps r f.slots (emitting f) f.body 0 unpadded [] 0 0 tested.1) (tt, tt) in
    kept_at r f.slots (emitting f) (placed_code f) p o all e
