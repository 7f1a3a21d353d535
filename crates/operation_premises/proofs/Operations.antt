-- What operations of well-formed regions ask is there.
use Rattle.std.proofs.Common.{◌≡◌, ◌≢◌, ◌∙◌, refl, sym, ap, subst, arith, ℕ, zero, suc, ◌+◌, ◌<◌, ◌≤◌, ◌==◌, nat_lt, nat_le, true, List, [], ◌∷◌, ◌++◌, length, Option, Some, None, if◌then◌else◌}
use Rattle.std.specs.Prelude.{map, slice_get, unwrap_or}
use Rattle.std.proofs.lemmas.Bool.Decides.{nat_tests}
use Rattle.std.proofs.lemmas.List.{length-map, length-append}
use Rattle.region_forms.specs.Form.{Slot, SlotKind, int_slot, address_slot, object_slot, help_slot, kinds_of, kind_of, Callee, defined, builtin, Value, number, load, unary, binary, call_value, Argument, int_argument, address_argument, handler_argument, Arguments, no_arguments, argument_then, Op, evaluate, store, bind, call, construct, destroy, make, throw, rethrow, enter, leave, RegionFunction, Regions, function_at, no_function}
use Rattle.region_forms.specs.WellFormed.{every, holds_address, is_reference, is_help, slot_test, int_place, address_place, pure_value, argument_test, arguments_test, fits, fit, count_of, call_test, takes_object, callee_test, value_test, destructor_test, op_test, function_test}
use Rattle.linear_forms.specs.Frame.{code_slots, has_pad}
use Rattle.region_forms.specs.LowerProgram.{help}
use Rattle.linear_forms.specs.Unit.{function_code, unit_of}
use Rattle.linear_forms.specs.UnitRun.{code_at, no_code}
use Rattle.machine_simulation.specs.Matches.{FrameIs}
use Rattle.address_bounds.specs.Rooms.{Reach}
use Rattle.address_bounds.specs.Reaches.{Needs, callee_needs, ValueReaches, ArgumentReaches, ArgumentsReach, OpReaches}
use Rattle.operation_premises.specs.Static.{ValueStatic, ArgumentStatic, ArgumentsStatic, BuiltinArgument, BuiltinArguments, CallStatic, CalleeStatic, ObjectStatic, TopStatic, DestructorStatic, OpStatic}
use Rattle.operation_premises.specs.Ints.{HasInts, ArgumentHasInts, HaveInts, OpHasInts}
use Rattle.operation_premises.proofs.Tests.{both_left, both_right, in_front, help_word, reference_word, int_static, address_static}

-- a function by its number
pub code_there : (fs : List RegionFunction) (d : RegionFunction) (m : ℕ) → m < length fs → slice_get (map function_code fs) m ≡ Some (function_code (unwrap_or (slice_get fs m) d))
code_there [] d m h = absurd (omega (arith, h))
code_there (f ∷ fs) d zero h = refl
code_there (f ∷ fs) d (suc m) h = code_there fs d m (omega (arith, h))

pub unit_at : (r : Regions) (m : ℕ) → m < length r.functions → code_at (unit_of r) m ≡ function_code (function_at r m)
unit_at r m h = ap (λ o. unwrap_or o no_code) (code_there r.functions no_function m h)

unit_count : (r : Regions) → length (unit_of r).functions ≡ length r.functions
unit_count r = length-map r.functions function_code

-- a slot of a kind that only slots have is there, and stays of that kind where others follow
slot_within : (slots : List Slot) (s : ℕ) (k : SlotKind) → kinds_of slots s ≡ k → k ≢ help_slot → s < length slots
slot_within [] s k is some = absurd (some (sym is))
slot_within (x ∷ slots) zero k is some = omega arith
slot_within (x ∷ slots) (suc s) k is some = let more = slot_within slots s k is some in omega (arith, more)

kind_kept : (slots more : List Slot) (s : ℕ) (k : SlotKind) → kinds_of slots s ≡ k → k ≢ help_slot → kinds_of (slots ++ more) s ≡ k
kind_kept slots more s k is some = ap kind_of (in_front slots more s (slot_within slots s k is some)) ∙ is

int_no_help : int_slot ≢ help_slot
int_no_help e = absurd (cc e)

address_no_help : address_slot ≢ help_slot
address_no_help e = absurd (cc e)

module _ (r : Regions) (f : RegionFunction) (needs : Needs) (reach : Reach) (frame : FrameIs (function_code f)) where
  pub value_static : (v : Value) → pure_value r f.slots v ≡ true → ValueReaches needs reach (code_slots f) v → HasInts v → ValueStatic (unit_of r) (function_code f) v
  value_static (number z) e h ints = ints
  value_static (load q) e h ints = int_static r f reach frame q e h
  value_static (unary o v) e h ints = value_static v e h ints
  value_static (binary o a b) e h ints =
      (value_static a (both_left (pure_value r f.slots a) (pure_value r f.slots b) e) h.0 ints.0, value_static b (both_right (pure_value r f.slots a) (pure_value r f.slots b) e) h.1 ints.1)
  value_static (call_value c args) e h ints = absurd (cc e)

  -- ---- arguments

  module _ (m : ℕ) (slots : List Slot) where
    argument_static : (n i : ℕ) (a : Argument) (more : List Slot) → argument_test r f.slots a ≡ true → fits (kinds_of slots i) a ≡ true → ArgumentReaches needs reach (code_slots f) n a → ArgumentHasInts a →
        ArgumentStatic (unit_of r) (function_code f) (kinds_of (slots ++ more) i) a
    argument_static n i (int_argument v) more e fit h ints = (value_static v e h ints, kind_kept slots more i int_slot (by (kinds_of slots i) fit) int_no_help)
      where
        by : (k : SlotKind) → fits k (int_argument v) ≡ true → k ≡ int_slot
        by int_slot e = refl
        by address_slot e = absurd (cc e)
        by object_slot e = absurd (cc e)
        by help_slot e = absurd (cc e)
    argument_static n i (address_argument q) more e fit h ints = (address_static r f reach frame q e, kind_kept slots more i address_slot (by (kinds_of slots i) fit) address_no_help)
      where
        by : (k : SlotKind) → fits k (address_argument q) ≡ true → k ≡ address_slot
        by address_slot e = refl
        by int_slot e = absurd (cc e)
        by object_slot e = absurd (cc e)
        by help_slot e = absurd (cc e)
    argument_static n i (handler_argument x) more e fit h ints = absurd (by (kinds_of slots i) fit)
      where
        by : (k : SlotKind) → fits k (handler_argument x) ≡ true → ⊥
        by int_slot e = cc e
        by address_slot e = cc e
        by object_slot e = cc e
        by help_slot e = cc e

    arguments_static : (wants : Reach) (i : ℕ) (args : Arguments) (more : List Slot) → arguments_test r f.slots args ≡ true → fit slots i args ≡ true → ArgumentsReach needs reach (code_slots f) wants i args → HaveInts args →
        ArgumentsStatic (unit_of r) (function_code f) (kinds_of (slots ++ more)) i args
    arguments_static wants i no_arguments more e fits_all h ints = tt
    arguments_static wants i (argument_then a args) more e fits_all h ints = (
      argument_static (wants i) i a more (both_left (argument_test r f.slots a) (arguments_test r f.slots args) e) (both_left (fits (kinds_of slots i) a) (fit slots (i + 1) args) fits_all) h.0 ints.0,
      arguments_static wants (i + 1) args more (both_right (argument_test r f.slots a) (arguments_test r f.slots args) e) (both_right (fits (kinds_of slots i) a) (fit slots (i + 1) args) fits_all) h.1 ints.1,
    )

  builtin_static : (wants : Reach) (i : ℕ) (args : Arguments) → arguments_test r f.slots args ≡ true → ArgumentsReach needs reach (code_slots f) wants i args → HaveInts args → BuiltinArguments (unit_of r) (function_code f) args
  builtin_static wants i no_arguments e h ints = tt
  builtin_static wants i (argument_then a args) e h ints =
      (one a (both_left (argument_test r f.slots a) (arguments_test r f.slots args) e) h.0 ints.0, builtin_static wants (i + 1) args (both_right (argument_test r f.slots a) (arguments_test r f.slots args) e) h.1 ints.1)
    where
      one : (a : Argument) → argument_test r f.slots a ≡ true → ArgumentReaches needs reach (code_slots f) (wants i) a → ArgumentHasInts a → BuiltinArgument (unit_of r) (function_code f) a
      one (int_argument v) e h ints = value_static v e h ints
      one (address_argument q) e h ints = address_static r f reach frame q e
      one (handler_argument n) e h ints = let count = unit_count r in grind (arith, nat_tests, e, count)

  -- ---- calls

  -- a function that is there, and its slots
  known_by : (m : ℕ) → nat_lt m (length r.functions) ≡ true → (m < length r.functions) × (m < length (unit_of r).functions)
  known_by m e = let below : m < length r.functions = grind (arith, nat_tests, e) in let count = unit_count r in (below, omega (arith, below, count))

  call_static : every (function_test r) r.functions ≡ true → (m filled : ℕ) (args : Arguments) → call_test r m filled args ≡ true → arguments_test r f.slots args ≡ true → ArgumentsReach needs reach (code_slots f) (needs m) filled args → HaveInts args →
      CallStatic (unit_of r) (function_code f) m filled args
  call_static all m filled args e tests h ints =
      let there = both_left (nat_lt m (length r.functions)) _ e in
      let rest = both_right (nat_lt m (length r.functions)) _ e in
      let known = known_by m there in
      let callee : RegionFunction = function_at r m in
      let slots : code_at (unit_of r) m ≡ function_code callee = unit_at r m known.0 in
      let pads : List Slot = if has_pad callee.body then help ∷ help ∷ help ∷ [] else [] in
      let count : filled + count_of args ≡ callee.parameters = let x = both_left (filled + count_of args == callee.parameters) (fit callee.slots filled args) rest in grind (arith, nat_tests, x) in
      let parameters : callee.parameters ≤ length callee.slots = let x = both_left (nat_le callee.parameters (length callee.slots)) _ (function_tested r.functions m all known.0) in grind (arith, nat_tests, x) in
      let more = length-append callee.slots pads in
      let same : length (code_at (unit_of r) m).slots ≡ length (callee.slots ++ pads) = ap (λ g. length g.slots) slots in
      record {
        known = known.1;
        few = omega (arith, count, parameters, more, same);
        taken = count ∙ sym (ap (λ g. g.parameters) slots);
        arguments = subst (λ g. ArgumentsStatic (unit_of r) (function_code f) (kinds_of g.slots) filled args) (sym slots)
            (arguments_static m callee.slots (needs m) filled args pads tests (both_right (filled + count_of args == callee.parameters) (fit callee.slots filled args) rest) h ints);
      }
    where
      function_tested : (fs : List RegionFunction) (m : ℕ) → every (function_test r) fs ≡ true → m < length fs → function_test r (unwrap_or (slice_get fs m) no_function) ≡ true
      function_tested [] m e h = absurd (omega (arith, h))
      function_tested (x ∷ fs) zero e h = both_left (function_test r x) (every (function_test r) fs) e
      function_tested (x ∷ fs) (suc m) e h = function_tested fs m (both_right (function_test r x) (every (function_test r) fs) e) (omega (arith, h))

  callee_static : every (function_test r) r.functions ≡ true → (c : Callee) (args : Arguments) → arguments_test r f.slots args ≡ true → callee_test r c args ≡ true → ArgumentsReach needs reach (code_slots f) (callee_needs needs c) 0 args → HaveInts args →
      CalleeStatic (unit_of r) (function_code f) c args
  callee_static all (defined m) args tests e h ints = call_static all m 0 args e tests h ints
  callee_static all (builtin b) args tests e h ints = builtin_static (callee_needs needs (builtin b)) 0 args tests h ints

  reference_holds : (k : SlotKind) → is_reference k ≡ true → holds_address k ≡ true
  reference_holds int_slot e = absurd (cc e)
  reference_holds address_slot e = refl
  reference_holds object_slot e = absurd (cc e)
  reference_holds help_slot e = absurd (cc e)

  object_static : (m : ℕ) (args : Arguments) → takes_object r m args ≡ true → ObjectStatic (unit_of r) m
  object_static m args e =
      let call = both_left (call_test r m 1 args) (slot_test is_reference (function_at r m).slots 0) e in
      let known = known_by m (both_left (nat_lt m (length r.functions)) _ call) in
      let callee : RegionFunction = function_at r m in
      let first = both_right (call_test r m 1 args) (slot_test is_reference callee.slots 0) e in
      let slots : code_at (unit_of r) m ≡ function_code callee = unit_at r m known.0 in
      let pads : List Slot = if has_pad callee.body then help ∷ help ∷ help ∷ [] else [] in
      let there : 0 < length callee.slots = let x = both_left (nat_lt 0 (length callee.slots)) (is_reference (kinds_of callee.slots 0)) first in grind (arith, nat_tests, x) in
      let more = length-append callee.slots pads in
      let same : length (code_at (unit_of r) m).slots ≡ length (callee.slots ++ pads) = ap (λ g. length g.slots) slots in
      record {
        known = known.1;
        some = omega (arith, there, more, same);
        held = ap (λ g. holds_address (kinds_of g.slots 0)) slots ∙ ap (λ o. holds_address (kind_of o)) (in_front callee.slots pads 0 there) ∙ reference_holds (kinds_of callee.slots 0) (both_right (nat_lt 0 (length callee.slots)) (is_reference (kinds_of callee.slots 0)) first);
      }

  -- what takes an object alone
  object_alone : (m : ℕ) → takes_object r m no_arguments ≡ true → 1 ≡ (code_at (unit_of r) m).parameters
  object_alone m e =
      let call = both_left (call_test r m 1 no_arguments) (slot_test is_reference (function_at r m).slots 0) e in
      let known = known_by m (both_left (nat_lt m (length r.functions)) _ call) in
      let callee : RegionFunction = function_at r m in
      let rest = both_right (nat_lt m (length r.functions)) _ call in
      let count : 1 ≡ callee.parameters = let x = both_left (1 + count_of no_arguments == callee.parameters) (fit callee.slots 1 no_arguments) rest in grind (arith, nat_tests, x) in
      count ∙ sym (ap (λ g. g.parameters) (unit_at r m known.0))

  top_static : every (function_test r) r.functions ≡ true → (v : Value) → value_test r f.slots v ≡ true → ValueReaches needs reach (code_slots f) v → HasInts v → TopStatic (unit_of r) (function_code f) v
  top_static all (call_value c args) e h ints = callee_static all c args (both_left (arguments_test r f.slots args) (callee_test r c args) e) (both_right (arguments_test r f.slots args) (callee_test r c args) e) h ints
  top_static all (number z) e h ints = value_static (number z) e h ints
  top_static all (load q) e h ints = value_static (load q) e h ints
  top_static all (unary o v) e h ints = value_static (unary o v) e h ints
  top_static all (binary o a b) e h ints = value_static (binary o a b) e h ints

  -- ---- operations

  type_there : (t : ℕ) → nat_lt t (length r.types) ≡ true → t < length (unit_of r).types
  type_there t e = grind (arith, nat_tests, e)

  destructor_static : (d : Option ℕ) → destructor_test r d ≡ true → DestructorStatic (unit_of r) d
  destructor_static None e = tt
  destructor_static (Some d) e = object_static d no_arguments e

  pub op_static : every (function_test r) r.functions ≡ true → (o : Op) → op_test r f.slots o ≡ true → OpReaches needs reach (code_slots f) o → OpHasInts o → OpStatic (unit_of r) (function_code f) o
  op_static all (evaluate v) e h ints = top_static all v e h ints
  op_static all (store q v) e h ints =
      (int_static r f reach frame q (both_left (int_place r f.slots q) (value_test r f.slots v) e) h.0, top_static all v (both_right (int_place r f.slots q) (value_test r f.slots v) e) h.1 ints)
  op_static all (bind s q) e h ints =
      (reference_word r f reach frame s (both_left (slot_test is_reference f.slots s) (address_place r f.slots q) e), address_static r f reach frame q (both_right (slot_test is_reference f.slots s) (address_place r f.slots q) e))
  op_static all (call c args) e h ints = callee_static all c args (both_left (arguments_test r f.slots args) (callee_test r c args) e) (both_right (arguments_test r f.slots args) (callee_test r c args) e) h ints
  op_static all (construct q m args) e h ints =
      let place = both_left (address_place r f.slots q) _ e in
      let rest = both_right (address_place r f.slots q) _ e in
      let tests = both_left (arguments_test r f.slots args) (takes_object r m args) rest in
      let takes = both_right (arguments_test r f.slots args) (takes_object r m args) rest in
      (address_static r f reach frame q place, call_static all m 1 args (both_left (call_test r m 1 args) _ takes) tests h.1 ints, object_static m args takes)
  op_static all (destroy q m) e h ints =
      let takes = both_right (address_place r f.slots q) (takes_object r m no_arguments) e in
      (address_static r f reach frame q (both_left (address_place r f.slots q) (takes_object r m no_arguments) e), object_static m no_arguments takes, object_alone m takes)
  op_static all (make s) e h ints = help_word r f reach frame s e
  op_static all (throw s t d) e h ints =
      let rest = both_right (slot_test is_help f.slots s) _ e in
      (help_word r f reach frame s (both_left (slot_test is_help f.slots s) _ e), type_there t (both_left (nat_lt t (length r.types)) (destructor_test r d) rest), destructor_static d (both_right (nat_lt t (length r.types)) (destructor_test r d) rest))
  op_static all rethrow e h ints = tt
  op_static all (enter s) e h ints = help_word r f reach frame s e
  op_static all leave e h ints = tt
