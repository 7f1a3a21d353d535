-- Well-formed regions are sound: their exits stay inside, and the slots that they mention are there.
use Rattle.std.proofs.Common.{◌≡◌, ℕ, zero, suc, ◌+◌, ◌<◌, ◌≤◌, Bool, true, false, List, [], ◌∷◌, ◌++◌, length, Option, Some, None, refl, sym, ap, ◌∙◌, arith}
use Rattle.std.specs.Prelude.{max, nat_lt, nat_le, ◌==◌, ◌&&◌, ◌||◌, slice_get}
use Rattle.std.proofs.lemmas.Bool.Decides.{nat_tests}
use Rattle.meaning_forms.specs.Class.{contains}
use Rattle.region_forms.specs.Form.{SlotKind, Slot, Root, in_slot, through, in_global, Value, number, load, unary, binary, call_value, Argument, int_argument, address_argument, handler_argument, Arguments, no_arguments, argument_then, Op, evaluate, store, bind, call, construct, destroy, make, throw, rethrow, enter, leave, Cleanup, destroy_scope, destroy_part, free_object, leave_handler, Region, seq, op, branch, loop, protect, catch, limit, barrier, leave_region, RegionList, no_regions, region_then, Clauses, no_clauses, clause_then, RegionFunction, Regions, kinds_of}
use Rattle.region_forms.specs.Mentioned.{slots_of_root, slots_of_value, slots_of_argument, slots_of_arguments, slots_of_op, slots_of_cleanup, slots_of, slots_of_all, slots_of_clauses}
use Rattle.region_forms.specs.WellFormed.{every, holds_ints, holds_address, is_reference, is_variable, is_help, slot_test, within, within_object, int_place, address_place, pure_value, argument_test, arguments_test, callee_test, takes_object, value_test, destructor_test, op_test, cleanup_test, is_op, clause_type_test, region_test, regions_test, clauses_test, result_test, function_test, rows_test}
use Rattle.linear_forms.specs.Exits.{beyond, outs_of, outs_of_all, outs_of_clauses}
use Rattle.linear_forms.specs.Cost.{cost, is_barred, all_barred, clauses_barred}
use Rattle.linear_forms.proofs.Integers.{both_hold}
use Rattle.linear_simulation.specs.Simulates.{has_clauses, GoInside}
use Rattle.linear_simulation.specs.FunctionsRun.{ResultIn, IsSound, cost_bound, SoundWhereWellFormed}

less : (a b : ℕ) → nat_lt a b ≡ true → a < b
less a b e = grind (arith, nat_tests)

no_more : (a b : ℕ) → nat_le a b ≡ true → a ≤ b
no_more a b e = grind (arith, nat_tests)

greatest : (a b n : ℕ) → a ≤ n → b ≤ n → max a b ≤ n
greatest a b n g h = omega (arith, g, h)

both : (a b : Bool) → a ≡ true → b ≡ true → (a && b) ≡ true
both true b e h = h
both false b e h = absurd (cc e)

-- exits of two parts, and exits that the region outside counts
or_later : (c e : Bool) → e ≡ true → (c || e) ≡ true
or_later true e q = refl
or_later false e q = q

inside_tail : (d x : ℕ) (a : List ℕ) → GoInside d (x ∷ a) → GoInside d a
inside_tail d x a g k h = g k (or_later (x == k) (contains a k) h)

inside_both : (d : ℕ) (a b : List ℕ) → GoInside d a → GoInside d b → GoInside d (a ++ b)
inside_both d [] b g h k e = h k e
inside_both d (x ∷ a) b g h k e = go (x == k) refl e (inside_both d a b (inside_tail d x a g) h k)
  where
    go : (c : Bool) → (x == k) ≡ c → (c || contains (a ++ b) k) ≡ true → (contains (a ++ b) k ≡ true → k < d) → k < d
    go true q r f = g k (ap (λ z. z || contains a k) q)
    go false q r f = f r

of_beyond : (outs : List ℕ) (k : ℕ) → contains (beyond outs) k ≡ true → contains outs (suc k) ≡ true
of_beyond [] k h = absurd (cc h)
of_beyond (zero ∷ outs) k h = or_later (zero == suc k) (contains outs (suc k)) (of_beyond outs k h)
of_beyond (suc m ∷ outs) k h = go (m == k) refl h (of_beyond outs k)
  where
    same : (b : Bool) → (m == k) ≡ b → (suc m == suc k) ≡ b
    same b e = grind (arith, nat_tests)

    go : (c : Bool) → (m == k) ≡ c → (c || contains (beyond outs) k) ≡ true → (contains (beyond outs) k ≡ true → contains outs (suc k) ≡ true)
        → ((suc m == suc k) || contains outs (suc k)) ≡ true
    go true q e f = ap (λ b. b || contains outs (suc k)) (same true q)
    go false q e f = ap (λ b. b || contains outs (suc k)) (same false q) ∙ f e

inside_out : (d : ℕ) (outs : List ℕ) → GoInside (d + 1) outs → GoInside d (beyond outs)
inside_out d outs g k h = let lt = g (suc k) (of_beyond outs k h) in omega (arith, lt)

inside_one : (d m : ℕ) → m < d → GoInside d (m ∷ [])
inside_one d m lt k h = go (m == k) refl h
  where
    same : (m == k) ≡ true → k ≡ m
    same e = grind (arith, nat_tests)

    go : (c : Bool) → (m == k) ≡ c → (c || false) ≡ true → k < d
    go true q e = let s = same q in omega (arith, s, lt)
    go false q e = absurd (cc e)

inside_none : (d : ℕ) → GoInside d []
inside_none d k h = absurd (cc h)

module _ (p : Regions) (slots : List Slot) where
  abbrev n : ℕ
  n = length slots

  slot_in : (test : SlotKind → Bool) (s : ℕ) → slot_test test slots s ≡ true → s + 1 ≤ n
  slot_in test s h = let lt = less s (length slots) (both_hold (nat_lt s (length slots)) (test (kinds_of slots s)) h).0 in omega (arith, lt)

  int_in : (r : Root) (o : ℕ) → int_place p slots (record { root = r; offset = o }) ≡ true → slots_of_root r ≤ n
  int_in (in_slot s) o h = slot_in holds_ints s (both_hold (slot_test holds_ints slots s) (within (slice_get slots s) o) h).0
  int_in (through s) o h = slot_in holds_address s (both_hold (slot_test holds_address slots s) (within_object o) h).0
  int_in (in_global g) o h = omega arith

  address_in : (r : Root) (o : ℕ) → address_place p slots (record { root = r; offset = o }) ≡ true → slots_of_root r ≤ n
  address_in (in_slot s) o h = slot_in is_variable s (both_hold (slot_test is_variable slots s) (within (slice_get slots s) o) h).0
  address_in (through s) o h = slot_in holds_address s (both_hold (slot_test holds_address slots s) (within_object o) h).0
  address_in (in_global g) o h = omega arith

  value_in : (v : Value) → pure_value p slots v ≡ true → slots_of_value v ≤ n
  value_in (number z) h = omega arith
  value_in (load q) h = int_in q.root q.offset h
  value_in (unary o v) h = value_in v h
  value_in (binary o a b) h =
      let x = both_hold (pure_value p slots a) (pure_value p slots b) h in greatest (slots_of_value a) (slots_of_value b) n (value_in a x.0) (value_in b x.1)
  value_in (call_value c args) h = absurd (cc h)

  argument_in : (a : Argument) → argument_test p slots a ≡ true → slots_of_argument a ≤ n
  argument_in (int_argument v) h = value_in v h
  argument_in (address_argument q) h = address_in q.root q.offset h
  argument_in (handler_argument m) h = omega arith

  arguments_in : (args : Arguments) → arguments_test p slots args ≡ true → slots_of_arguments args ≤ n
  arguments_in no_arguments h = omega arith
  arguments_in (argument_then a args) h =
      let x = both_hold (argument_test p slots a) (arguments_test p slots args) h in
      greatest (slots_of_argument a) (slots_of_arguments args) n (argument_in a x.0) (arguments_in args x.1)

  called_in : (v : Value) → value_test p slots v ≡ true → slots_of_value v ≤ n
  called_in (number z) h = omega arith
  called_in (load q) h = value_in (load q) h
  called_in (unary o v) h = value_in (unary o v) h
  called_in (binary o a b) h = value_in (binary o a b) h
  called_in (call_value c args) h = arguments_in args (both_hold (arguments_test p slots args) (callee_test p c args) h).0

  op_in : (o : Op) → op_test p slots o ≡ true → slots_of_op o ≤ n
  op_in (evaluate v) h = called_in v h
  op_in (store q v) h =
      let x = both_hold (int_place p slots q) (value_test p slots v) h in greatest (slots_of_root q.root) (slots_of_value v) n (int_in q.root q.offset x.0) (called_in v x.1)
  op_in (bind s q) h =
      let x = both_hold (slot_test is_reference slots s) (address_place p slots q) h in greatest (s + 1) (slots_of_root q.root) n (slot_in is_reference s x.0) (address_in q.root q.offset x.1)
  op_in (call c args) h = arguments_in args (both_hold (arguments_test p slots args) (callee_test p c args) h).0
  op_in (construct q m args) h =
      let x = both_hold (address_place p slots q) (arguments_test p slots args && takes_object p m args) h in
      greatest (slots_of_root q.root) (slots_of_arguments args) n (address_in q.root q.offset x.0) (arguments_in args (both_hold (arguments_test p slots args) (takes_object p m args) x.1).0)
  op_in (destroy q m) h = address_in q.root q.offset (both_hold (address_place p slots q) (takes_object p m no_arguments) h).0
  op_in (make s) h = slot_in is_help s h
  op_in (throw s t d) h = slot_in is_help s (both_hold (slot_test is_help slots s) (nat_lt t (length p.types) && destructor_test p d) h).0
  op_in rethrow h = omega arith
  op_in (enter s) h = slot_in is_help s h
  op_in leave h = omega arith

  cleanup_in : (c : Cleanup) → cleanup_test p slots c ≡ true → slots_of_cleanup c ≤ n
  cleanup_in (destroy_scope q m) h = op_in (destroy q m) h
  cleanup_in (destroy_part q m) h = op_in (destroy q m) h
  cleanup_in (free_object s) h = slot_in is_help s h
  cleanup_in leave_handler h = omega arith

  -- what is shown of a region that d regions hold
  record Fine (d : ℕ) (barred : Bool) (outs : List ℕ) (mentioned : ℕ) : Type 0 where
    bars : barred ≡ true
    inside : GoInside d outs
    few : mentioned ≤ n

  mutual
    region_fine : (d : ℕ) (r : Region) → region_test p slots d r ≡ true → Fine d (is_barred r) (outs_of r) (slots_of r)
    region_fine d (seq rs) h = let x = rows_fine (d + 1) rs h in record { bars = x.bars; inside = inside_out d (outs_of_all rs) x.inside; few = x.few }
    region_fine d (op o) h = record { bars = refl; inside = inside_none d; few = op_in o h }
    region_fine d (branch v a b) h =
        let x = both_hold (pure_value p slots v) (region_test p slots (d + 1) a && region_test p slots (d + 1) b) h in
        let y = both_hold (region_test p slots (d + 1) a) (region_test p slots (d + 1) b) x.1 in
        let s = region_fine (d + 1) a y.0 in
        let t = region_fine (d + 1) b y.1 in
        record {
          bars = both (is_barred a) (is_barred b) s.bars t.bars;
          inside = inside_out d (outs_of a ++ outs_of b) (inside_both (d + 1) (outs_of a) (outs_of b) s.inside t.inside);
          few = greatest (slots_of_value v) (max (slots_of a) (slots_of b)) n (value_in v x.0) (greatest (slots_of a) (slots_of b) n s.few t.few);
        }
    region_fine d (loop v a) h =
        let x = both_hold (pure_value p slots v) (region_test p slots (d + 1) a) h in
        let s = region_fine (d + 1) a x.1 in
        record { bars = s.bars; inside = inside_out d (outs_of a) s.inside; few = greatest (slots_of_value v) (slots_of a) n (value_in v x.0) s.few }
    region_fine d (protect a c) h =
        let x = both_hold (cleanup_test p slots c) (region_test p slots (d + 1) a) h in
        let s = region_fine (d + 1) a x.1 in
        record { bars = s.bars; inside = inside_out d (outs_of a) s.inside; few = greatest (slots_of a) (slots_of_cleanup c) n s.few (cleanup_in c x.0) }
    region_fine d (catch a cs) h =
        let x = both_hold (region_test p slots (d + 1) a) (clauses_test p slots (d + 1) cs) h in
        let s = region_fine (d + 1) a x.0 in
        let t = clauses_fine (d + 1) cs x.1 in
        record {
          bars = both (is_barred a) (clauses_barred cs) s.bars t.bars;
          inside = inside_out d (outs_of_clauses cs ++ outs_of a) (inside_both (d + 1) (outs_of_clauses cs) (outs_of a) t.inside s.inside);
          few = greatest (slots_of a) (slots_of_clauses cs) n s.few t.few;
        }
    region_fine d (limit a types) h =
        let x = both_hold (every (λ t. nat_lt t (length p.types)) types) (region_test p slots (d + 1) a) h in
        let s = region_fine (d + 1) a x.1 in
        record { bars = s.bars; inside = inside_out d (outs_of a) s.inside; few = s.few }
    region_fine d (barrier a) h =
        let x = both_hold (is_op a) (region_test p slots (d + 1) a) h in
        let s = region_fine (d + 1) a x.1 in
        record { bars = x.0; inside = inside_out d (outs_of a) s.inside; few = s.few }
    region_fine d (leave_region zero) h = let x = both_hold (nat_le 1 0) (nat_le 0 d) h in let no = no_more 1 0 x.0 in absurd (omega (arith, no))
    region_fine d (leave_region (suc m)) h =
        let x = both_hold (nat_le 1 (suc m)) (nat_le (suc m) d) h in
        let le = no_more (suc m) d x.1 in
        record { bars = refl; inside = inside_one d m (omega (arith, le)); few = omega arith }

    rows_fine : (d : ℕ) (rs : RegionList) → regions_test p slots d rs ≡ true → Fine d (all_barred rs) (outs_of_all rs) (slots_of_all rs)
    rows_fine d no_regions h = record { bars = refl; inside = inside_none d; few = omega arith }
    rows_fine d (region_then a rs) h =
        let x = both_hold (region_test p slots d a) (regions_test p slots d rs) h in
        let s = region_fine d a x.0 in
        let t = rows_fine d rs x.1 in
        record {
          bars = both (is_barred a) (all_barred rs) s.bars t.bars;
          inside = inside_both d (outs_of a) (outs_of_all rs) s.inside t.inside;
          few = greatest (slots_of a) (slots_of_all rs) n s.few t.few;
        }

    clauses_fine : (d : ℕ) (cs : Clauses) → clauses_test p slots d cs ≡ true → Fine d (clauses_barred cs) (outs_of_clauses cs) (slots_of_clauses cs)
    clauses_fine d no_clauses h = record { bars = refl; inside = inside_none d; few = omega arith }
    clauses_fine d (clause_then t y a cs) h =
        let x = both_hold (clause_type_test p t) (slot_test is_help slots y && (region_test p slots d a && clauses_test p slots d cs)) h in
        let z = both_hold (slot_test is_help slots y) (region_test p slots d a && clauses_test p slots d cs) x.1 in
        let w = both_hold (region_test p slots d a) (clauses_test p slots d cs) z.1 in
        let s = region_fine d a w.0 in
        let u = clauses_fine d cs w.1 in
        record {
          bars = both (is_barred a) (clauses_barred cs) s.bars u.bars;
          inside = inside_both d (outs_of a) (outs_of_clauses cs) s.inside u.inside;
          few = greatest (y + 1) (max (slots_of a) (slots_of_clauses cs)) n (slot_in is_help y z.0) (greatest (slots_of a) (slots_of_clauses cs) n s.few u.few);
        }

result_in : (slots : List Slot) (o : Option ℕ) → result_test slots o ≡ true → ResultIn (length slots) o
result_in slots None h = tt
result_in slots (Some s) h = less s (length slots) (both_hold (nat_lt s (length slots)) (is_help (kinds_of slots s)) h).0

function_sound : (p : Regions) (f : RegionFunction) → function_test p f ≡ true → has_clauses f.body ≡ true → IsSound f
function_sound p f h c =
    let x = both_hold (nat_le f.parameters (length f.slots)) (result_test f.slots f.result && region_test p f.slots 0 f.body) h in
    let y = both_hold (result_test f.slots f.result) (region_test p f.slots 0 f.body) x.1 in
    let s = region_fine p f.slots 0 f.body y.1 in
    record { barred = s.bars; clauses = c; inside = s.inside; slots = s.few; result = result_in f.slots f.result y.0 }

every_one : {A : Type 0} (test : A → Bool) (xs : List A) (n : ℕ) (x : A) → every test xs ≡ true → slice_get xs n ≡ Some x → test x ≡ true
every_one test [] n x h e = absurd (cc e)
every_one test (y ∷ ys) zero x h e = ap test (sym (same e)) ∙ (both_hold (test y) (every test ys) h).0
  where
    same : Some y ≡ Some x → y ≡ x
    same q = cc q
every_one test (y ∷ ys) (suc n) x h e = every_one test ys n x (both_hold (test y) (every test ys) h).1 e

cheap_one : (fs : List RegionFunction) (n : ℕ) (f : RegionFunction) → slice_get fs n ≡ Some f → cost f.body + 2 ≤ cost_bound fs
cheap_one [] n f e = absurd (cc e)
cheap_one (g ∷ fs) zero f e = let q = ap (λ y. cost y.body) (same e) in omega (arith, q)
  where
    same : Some g ≡ Some f → g ≡ f
    same q = cc q
cheap_one (g ∷ fs) (suc n) f e = let h = cheap_one fs n f e in omega (arith, h)

bound_room : (fs : List RegionFunction) → 1 ≤ cost_bound fs
bound_room [] = omega arith
bound_room (f ∷ fs) = let h = bound_room fs in omega (arith, h)

pub sound_where_well_formed : SoundWhereWellFormed
sound_where_well_formed p h c =
    let x = both_hold _ _ h in
    let y = both_hold _ _ x.1 in
    let z = both_hold (rows_test 0 p.types) (every (function_test p) p.functions) y.1 in
    record {
      sound = λ n f e. function_sound p f (every_one (function_test p) p.functions n f z.1 e) (every_one (λ g. has_clauses g.body) p.functions n f c e);
      cheap = λ n f e. cheap_one p.functions n f e;
      room = bound_room p.functions;
    }
