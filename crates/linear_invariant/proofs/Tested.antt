-- What the operations of well-formed linear code call.
use Rattle.std.proofs.Common.{◌≡◌, ℕ, zero, suc, ◌+◌, Bool, true, false, List, [], ◌∷◌, ◌++◌, map, length, Some, subst}
use Rattle.std.specs.Prelude.{⊤, slice_get, nat_lt, nat_le, ◌&&◌, if◌then◌else◌}
use Rattle.std.proofs.lemmas.Bool.{and_parts}
use Rattle.region_forms.specs.Form.{Slot, Callee, defined, builtin, Value, number, load, unary, binary, call_value, Arguments, no_arguments, Op, evaluate, store, bind, call, construct, destroy, make, throw, rethrow, enter, leave, Cleanup, destroy_scope, destroy_part, free_object, leave_handler, Region, seq, op, branch, loop, protect, catch, limit, barrier, leave_region, RegionList, no_regions, region_then, Clauses, no_clauses, clause_then, RegionFunction, Regions}
use Rattle.region_forms.specs.Guard.{types_of}
use Rattle.region_forms.specs.WellFormed.{every, slot_test, int_place, address_place, is_help, is_op, pure_value, arguments_test, call_test, takes_object, callee_test, value_test, op_test, cleanup_test, clause_type_test, result_test, region_test, regions_test, clauses_test, function_test}
use Rattle.linear_forms.specs.Linear.{LinearOp, plain, label, jump, return}
use Rattle.linear_forms.specs.Tables.{Cover, bare, unpadded, list_of}
use Rattle.linear_forms.specs.Sites.{Placed}
use Rattle.linear_forms.specs.Distinct.{distinct}
use Rattle.linear_forms.specs.Exits.{Exit, exit_to, inner, first_label, crosses, name_of, beyond, outs_of}
use Rattle.linear_forms.specs.Emission.{Emitting, quiet, put, set_way, leave_code, way_tests, no_way_out, pad_cleanup, exit_cleanup, exit_code, cleaned, guarded, protect_exit, filters_of}
use Rattle.linear_forms.specs.Code.{labels, labels_clauses, clause_tests, region_code, all_code, clauses_code}
use Rattle.linear_forms.specs.Unit.{emitting, placed_code, function_code}

-- a function is called with arguments that fit its slots
abbrev pub CalleeCalls : Regions → Callee → Arguments → Type 0
CalleeCalls r (defined n) args = call_test r n 0 args ≡ true
CalleeCalls r (builtin b) args = ⊤

abbrev pub ValueCalls : Regions → Value → Type 0
ValueCalls r (call_value c args) = CalleeCalls r c args
ValueCalls r v = ⊤

abbrev pub OpCalls : Regions → Op → Type 0
OpCalls r (evaluate v) = ValueCalls r v
OpCalls r (store p v) = ValueCalls r v
OpCalls r (call c args) = CalleeCalls r c args
OpCalls r (construct p n args) = takes_object r n args ≡ true
OpCalls r (destroy p n) = takes_object r n no_arguments ≡ true
OpCalls r o = ⊤

module _ (r : Regions) (slots : List Slot) (em : Emitting) where
  abbrev Calls : LinearOp → Type 0
  Calls (plain o) = OpCalls r o
  Calls o = Unit {0}

  abbrev AllCall : List Placed → Type 0
  AllCall [] = ⊤
  AllCall (x ∷ xs) = Calls x.op × AllCall xs

  both_call : (a b : List Placed) → AllCall a → AllCall b → AllCall (a ++ b)
  both_call [] b h i = i
  both_call (x ∷ a) b h i = (h.0, both_call a b h.1 i)

  callee_calls : (c : Callee) (args : Arguments) → callee_test r c args ≡ true → CalleeCalls r c args
  callee_calls (defined n) args h = h
  callee_calls (builtin b) args h = tt

  value_calls : (v : Value) → value_test r slots v ≡ true → ValueCalls r v
  value_calls (number z) h = tt
  value_calls (load p) h = tt
  value_calls (unary o v) h = tt
  value_calls (binary o a b) h = tt
  value_calls (call_value c args) h = callee_calls c args (and_parts (arguments_test r slots args) (callee_test r c args) h).1

  op_calls : (o : Op) → op_test r slots o ≡ true → Calls (plain o)
  op_calls (evaluate v) h = value_calls v h
  op_calls (store p v) h = value_calls v (and_parts (int_place r slots p) (value_test r slots v) h).1
  op_calls (bind s p) h = tt
  op_calls (call c args) h = callee_calls c args (and_parts (arguments_test r slots args) (callee_test r c args) h).1
  op_calls (construct p n args) h =
      (and_parts (arguments_test r slots args) (takes_object r n args) (and_parts (address_place r slots p) (arguments_test r slots args && takes_object r n args) h).1).1
  op_calls (destroy p n) h = (and_parts (address_place r slots p) (takes_object r n no_arguments) h).1
  op_calls (make s) h = tt
  op_calls (throw s t d) h = tt
  op_calls rethrow h = tt
  op_calls (enter s) h = tt
  op_calls leave h = tt

  leave_calls : (n : ℕ) (xs : List Exit) → AllCall (leave_code em n xs)
  leave_calls n xs = go (crosses n xs)
    where
      go : (b : Bool) → AllCall (if b then set_way em (name_of n xs) ∷ quiet (jump (first_label n xs)) ∷ [] else quiet (jump (first_label n xs)) ∷ [])
      go true = (tt, (tt, tt))
      go false = (tt, tt)

  ways_call : (xs : List Exit) (outs : List ℕ) → AllCall (way_tests em xs outs)
  ways_call xs [] = tt
  ways_call xs (n ∷ outs) = (tt, ways_call xs outs)

  no_way_calls : (outs : List ℕ) → AllCall (no_way_out em outs)
  no_way_calls [] = tt
  no_way_calls (n ∷ outs) = (tt, tt)

  exit_calls : (cl : Cleanup) (c : Cover) (xs : List Exit) (l : ℕ) (outs : List ℕ) → cleanup_test r slots cl ≡ true → AllCall (exit_code em (exit_cleanup cl) c xs l outs)
  exit_calls (destroy_scope p d) c xs l outs h =
      both_call (no_way_out em outs) (quiet (label (l + 2)) ∷ put (destroy p d) c ∷ way_tests em xs outs) (no_way_calls outs) (tt, ((and_parts (address_place r slots p) (takes_object r d no_arguments) h).1, ways_call xs outs))
  exit_calls (destroy_part p d) c xs l outs h = tt
  exit_calls (free_object s) c xs l outs h = tt
  exit_calls leave_handler c xs l outs h = both_call (no_way_out em outs) (quiet (label (l + 2)) ∷ put leave c ∷ way_tests em xs outs) (no_way_calls outs) (tt, (tt, ways_call xs outs))

  pad_calls : (cl : Cleanup) → cleanup_test r slots cl ≡ true → Calls (pad_cleanup cl).op
  pad_calls (destroy_scope p d) h = (and_parts (address_place r slots p) (takes_object r d no_arguments) h).1
  pad_calls (destroy_part p d) h = (and_parts (address_place r slots p) (takes_object r d no_arguments) h).1
  pad_calls (free_object s) h = tt
  pad_calls leave_handler h = tt

  tests_call : (l : ℕ) (cs : Clauses) → AllCall (clause_tests em l cs)
  tests_call l no_clauses = tt
  tests_call l (clause_then t s x cs) = (tt, tests_call (l + 1) cs)

  mutual
    region_calls : (x : Region) (d : ℕ) (c : Cover) (xs : List Exit) (l p : ℕ) → region_test r slots d x ≡ true → AllCall (region_code em c xs l p x)
    region_calls (seq rs) d c xs l p h =
        both_call (all_code em c (exit_to l ∷ xs) (l + 1) p rs) (quiet (label l) ∷ []) (all_call rs (d + 1) c (exit_to l ∷ xs) (l + 1) p h) (tt, tt)
    region_calls (op o) d c xs l p h = (op_calls o h, tt)
    region_calls (branch v a b) d c xs l p h =
        let sides = and_parts (region_test r slots (d + 1) a) (region_test r slots (d + 1) b) (and_parts (pure_value r slots v) _ h).1 in
        let first = region_code em c (exit_to l ∷ xs) (l + 2) (p + 1) a in
        let second = region_code em c (exit_to l ∷ xs) (l + 2 + labels a) (p + 3 + length first) b in (
          tt,
          both_call first (quiet (jump l) ∷ quiet (label (l + 1)) ∷ (second ++ quiet (label l) ∷ [])) (region_calls a (d + 1) c (exit_to l ∷ xs) (l + 2) (p + 1) sides.0)
              (tt, (tt, both_call second (quiet (label l) ∷ []) (region_calls b (d + 1) c (exit_to l ∷ xs) (l + 2 + labels a) (p + 3 + length first) sides.1) (tt, tt))),
        )
    region_calls (loop v a) d c xs l p h =
        let body = region_code em c (exit_to l ∷ xs) (l + 2) (p + 2) a in (
          tt,
          (
            tt,
            both_call body (quiet (jump (l + 1)) ∷ quiet (label l) ∷ []) (region_calls a (d + 1) c (exit_to l ∷ xs) (l + 2) (p + 2) (and_parts (pure_value r slots v) _ h).1) (tt, (tt, tt)),
          ),
        )
    region_calls (protect a cl) d c xs l p h =
        let both = and_parts (cleanup_test r slots cl) (region_test r slots (d + 1) a) h in
        let inside = cleaned em (p + 1) c in
        let exits = exit_code em (exit_cleanup cl) c xs l (distinct (beyond (outs_of a))) in
        let body = region_code em inside (protect_exit cl l ∷ xs) (l + 3) (p + 5) a in (
          tt,
          (
            tt,
            (
              pad_calls cl both.0,
              (
                tt,
                (
                  tt,
                  both_call body (exits ++ quiet (label l) ∷ []) (region_calls a (d + 1) inside (protect_exit cl l ∷ xs) (l + 3) (p + 5) both.1)
                      (both_call exits (quiet (label l) ∷ []) (exit_calls cl c xs l (distinct (beyond (outs_of a))) both.0) (tt, tt)),
                ),
              ),
            ),
          ),
        )
    region_calls (catch a cs) d c xs l p h =
        let both = and_parts (region_test r slots (d + 1) a) (clauses_test r slots (d + 1) cs) h in
        let tests = clause_tests em (l + 2) cs in
        let n = length (types_of cs) in
        let handlers = clauses_code em c (exit_to l ∷ xs) l (l + 2) (l + 2 + n) (p + 3 + length tests) cs in
        let inside = guarded (p + 1) (filters_of em (types_of cs)) c in
        let body = region_code em inside (exit_to l ∷ xs) (l + 2 + n + labels_clauses cs) (p + 4 + length tests + length handlers) a in (
          tt,
          (
            tt,
            both_call tests _ (tests_call (l + 2) cs) (
              tt,
              both_call handlers _ (clauses_call cs (d + 1) c (exit_to l ∷ xs) l (l + 2) (l + 2 + n) (p + 3 + length tests) both.1) (
                tt,
                both_call body (quiet (label l) ∷ [])
                    (region_calls a (d + 1) inside (exit_to l ∷ xs) (l + 2 + n + labels_clauses cs) (p + 4 + length tests + length handlers) both.0) (tt, tt),
              ),
            ),
          ),
        )
    region_calls (limit a types) d c xs l p h =
        let inside = guarded (p + 1) (em.filter (list_of types) ∷ []) c in
        let body = region_code em inside (exit_to l ∷ xs) (l + 3) (p + 7) a in (
          tt,
          (
            tt,
            (
              tt,
              (
                tt,
                (
                  tt,
                  (
                    tt,
                    (
                      tt,
                      both_call body (quiet (label l) ∷ []) (region_calls a (d + 1) inside (exit_to l ∷ xs) (l + 3) (p + 7) (and_parts (every (λ t. nat_lt t (length r.types)) types) _ h).1) (tt, tt),
                    ),
                  ),
                ),
              ),
            ),
          ),
        )
    region_calls (barrier a) d c xs l p h =
        both_call (region_code em bare (exit_to l ∷ xs) (l + 1) p a) (quiet (label l) ∷ []) (region_calls a (d + 1) bare (exit_to l ∷ xs) (l + 1) p (and_parts (is_op a) _ h).1) (tt, tt)
    region_calls (leave_region n) d c xs l p h = leave_calls (inner n) xs

    all_call : (rs : RegionList) (d : ℕ) (c : Cover) (xs : List Exit) (l p : ℕ) → regions_test r slots d rs ≡ true → AllCall (all_code em c xs l p rs)
    all_call no_regions d c xs l p h = tt
    all_call (region_then a rs) d c xs l p h =
        let both = and_parts (region_test r slots d a) (regions_test r slots d rs) h in
        let first = region_code em c xs l p a in
        both_call first (all_code em c xs (l + labels a) (p + length first) rs) (region_calls a d c xs l p both.0) (all_call rs d c xs (l + labels a) (p + length first) both.1)

    clauses_call : (cs : Clauses) (d : ℕ) (c : Cover) (xs : List Exit) (end first l p : ℕ) → clauses_test r slots d cs ≡ true → AllCall (clauses_code em c xs end first l p cs)
    clauses_call no_clauses d c xs end first l p h = tt
    clauses_call (clause_then t s a cs) d c xs end first l p h =
        let own = and_parts (slot_test is_help slots s) (region_test r slots d a && clauses_test r slots d cs) (and_parts (clause_type_test r t) _ h).1 in
        let both = and_parts (region_test r slots d a) (clauses_test r slots d cs) own.1 in
        let body = region_code em c xs l (p + 2) a in (
          tt,
          (
            tt,
            both_call body (quiet (jump end) ∷ clauses_code em c xs end (first + 1) (l + labels a) (p + 3 + length body) cs) (region_calls a d c xs l (p + 2) both.0)
                (tt, clauses_call cs d c xs end (first + 1) (l + labels a) (p + 3 + length body) both.1),
          ),
        )

  called_at : (is : List Placed) (p : ℕ) (o : LinearOp) → AllCall is → slice_get (map (λ x. x.op) is) p ≡ Some o → Calls o
  called_at [] p o h e = absurd (cc e)
  called_at (x ∷ is) zero o h e = let same : x.op ≡ o = cc e in subst Calls same h.0
  called_at (x ∷ is) (suc p) o h e = called_at is p o h.1 e

pub function_calls : (r : Regions) (f : RegionFunction) → function_test r f ≡ true → (p : ℕ) (o : Op) → slice_get (function_code f).ops p ≡ Some (plain o) → OpCalls r o
function_calls r f h p o e =
    let tested = and_parts (result_test f.slots f.result) (region_test r f.slots 0 f.body) (and_parts (nat_le f.parameters (length f.slots)) _ h).1 in
    let body = region_code (emitting f) unpadded [] 0 0 f.body in
    let all = both_call r f.slots (emitting f) body (quiet (return f.result) ∷ []) (region_calls r f.slots (emitting f) f.body 0 unpadded [] 0 0 tested.1) (tt, tt) in
    called_at r f.slots (emitting f) (placed_code f) p (plain o) all e
