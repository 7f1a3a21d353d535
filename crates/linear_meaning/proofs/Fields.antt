-- The numbers of well-formed regions are in range where there are not too many of what they count, and exits lead to no more regions than
-- the code costs.
use Rattle.std.proofs.Common.{◌≡◌, ◌+◌, ◌≤◌, ◌<◌, ◌^◌, ◌%◌, ◌-◌, ◌&&◌, ◌==◌, nat_le, nat_lt, ℕ, Bool, true, List, [], ◌∷◌, length, Option, Some, None, refl, arith}
use Rattle.std.specs.Prelude.{slice_get}
use Rattle.std.proofs.lemmas.Bool.{and_parts}
use Rattle.std.proofs.lemmas.Bool.Decides.{nat_tests}
use Rattle.std.specs.Cmp.Derive.{both_true}
use Rattle.cxx_ast.specs.Limits.{most_class_bytes}
use Rattle.region_forms.specs.Form.{SlotKind, Slot, Root, in_slot, through, in_global, Callee, defined, builtin, Value, number, load, unary, binary, call_value, Argument, int_argument, address_argument, handler_argument, Arguments, no_arguments, argument_then, Op, evaluate, store, bind, call, construct, destroy, make, throw, rethrow, enter, leave, Cleanup, destroy_scope, destroy_part, free_object, leave_handler, Region, seq, op, branch, loop, protect, catch, limit, barrier, leave_region, RegionList, no_regions, region_then, Clauses, no_clauses, clause_then, TypeRow, RegionFunction, Regions, kinds_of, function_at}
use Rattle.region_forms.specs.WellFormed.{every, holds_ints, holds_address, is_reference, is_variable, is_help, slot_test, within, within_object, int_place, address_place, pure_value, argument_test, arguments_test, count_of, fit, call_test, takes_object, callee_test, value_test, destructor_test, op_test, cleanup_test, is_op, clause_type_test, region_test, regions_test, clauses_test, result_test, function_test, rows_test}
use Rattle.region_ir.proofs.EachFunction.{at_place}
use Rattle.linear_forms.specs.Cost.{cost, cost_all, cost_clauses}
use Rattle.region_formed.specs.Slots.{slot_fits, slots_fit}
use Rattle.linear_meaning.specs.Fields.{has_field, some_has_field, place_has_fields, callee_has_field, value_has_fields, argument_has_fields, arguments_have_fields, op_has_fields, cleanup_has_fields, region_has_fields, regions_have_fields, clauses_have_fields, function_has_fields, row_has_field}

-- what is below a number of 32 bits
below_field : (n m : ℕ) → nat_lt n m ≡ true → m ≤ 2 ^ 32 → has_field n ≡ true
below_field n m h few = grind (arith, nat_tests, h, few)

small_field : (n : ℕ) → n ≤ most_class_bytes → has_field n ≡ true
small_field n h = grind (arith, nat_tests, h)

-- not too many functions and types
pub record Few (r : Regions) : Type 0 where
  pub functions : length r.functions ≤ 2 ^ 32
  pub types : length r.types ≤ 2 ^ 32
  pub globals : length r.globals ≤ 2 ^ 32

module _ (r : Regions) (few : Few r) where
  called : (n filled : ℕ) (args : Arguments) → call_test r n filled args ≡ true → has_field n ≡ true
  called n filled args h =
      below_field n (length r.functions) (and_parts (nat_lt n (length r.functions))
      (filled + count_of args == (function_at r n).parameters && fit (function_at r n).slots filled args) h).0 few.functions

  built : (n : ℕ) (args : Arguments) → takes_object r n args ≡ true → has_field n ≡ true
  built n args h = called n 1 args (and_parts (call_test r n 1 args) (slot_test is_reference (function_at r n).slots 0) h).0

  callee_in : (c : Callee) (args : Arguments) → callee_test r c args ≡ true → callee_has_field c ≡ true
  callee_in (defined n) args h = called n 0 args h
  callee_in (builtin b) args h = refl

  typed : (t : Option ℕ) → clause_type_test r t ≡ true → some_has_field t ≡ true
  typed None h = refl
  typed (Some t) h = below_field t (length r.types) h few.types

  destructor_in : (d : Option ℕ) → destructor_test r d ≡ true → some_has_field d ≡ true
  destructor_in None h = refl
  destructor_in (Some d) h = built d no_arguments h

  types_in : (types : List ℕ) → every (λ t. nat_lt t (length r.types)) types ≡ true → every has_field types ≡ true
  types_in [] h = refl
  types_in (t ∷ types) h =
      let parts = and_parts (nat_lt t (length r.types)) (every (λ t. nat_lt t (length r.types)) types) h in
      both_true (below_field t (length r.types) parts.0 few.types) (types_in types parts.1)

  module _ (slots : List Slot) (many : length slots ≤ 2 ^ 32) (sized : every slot_fits slots ≡ true) where
    slot_in : (test : SlotKind → Bool) (s : ℕ) → slot_test test slots s ≡ true → has_field s ≡ true
    slot_in test s h = below_field s (length slots) (and_parts (nat_lt s (length slots)) (test (kinds_of slots s)) h).0 many

    -- an offset in a slot
    in_size : (o : Option Slot) (n : ℕ) → ((s : Slot) → o ≡ Some s → s.size ≤ most_class_bytes) → within o n ≡ true → has_field n ≡ true
    in_size None n small h = absurd (cc h)
    in_size (Some s) n small h = let most = small s refl in let less : n + 4 ≤ s.size = grind (arith, nat_tests, h) in small_field n (omega (arith, most, less))

    slot_small : (i : ℕ) (s : Slot) → slice_get slots i ≡ Some s → s.size ≤ most_class_bytes
    slot_small i s e =
        let fits = at_place slot_fits slots i s sized e in
        let sizes = and_parts (nat_le 4 s.size) (nat_le s.size most_class_bytes && s.size % 4 == 0) fits in
        let most = (and_parts (nat_le s.size most_class_bytes) (s.size % 4 == 0) sizes.1).0 in grind (arith, nat_tests, most)

    in_object : (n : ℕ) → within_object n ≡ true → has_field n ≡ true
    in_object n h = let less : n + 4 ≤ most_class_bytes = grind (arith, nat_tests, h) in small_field n (omega (arith, less))

    at_start : (n : ℕ) → (n == 0) ≡ true → has_field n ≡ true
    at_start n h = let none : n ≡ 0 = grind (arith, nat_tests, h) in small_field n (omega (arith, none))

    int_in : (root : Root) (n : ℕ) → int_place r slots (record { root = root; offset = n }) ≡ true → place_has_fields (record { root = root; offset = n }) ≡ true
    int_in (in_slot s) n h =
        let parts = and_parts (slot_test holds_ints slots s) (within (slice_get slots s) n) h in
        both_true (slot_in holds_ints s parts.0) (in_size (slice_get slots s) n (slot_small s) parts.1)
    int_in (through s) n h =
        let parts = and_parts (slot_test holds_address slots s) (within_object n) h in both_true (slot_in holds_address s parts.0) (in_object n parts.1)
    int_in (in_global g) n h =
        let parts = and_parts (nat_lt g (length r.globals)) (n == 0) h in both_true (below_field g (length r.globals) parts.0 few.globals) (at_start n parts.1)

    address_in : (root : Root) (n : ℕ) → address_place r slots (record { root = root; offset = n }) ≡ true → place_has_fields (record { root = root; offset = n }) ≡ true
    address_in (in_slot s) n h =
        let parts = and_parts (slot_test is_variable slots s) (within (slice_get slots s) n) h in
        both_true (slot_in is_variable s parts.0) (in_size (slice_get slots s) n (slot_small s) parts.1)
    address_in (through s) n h =
        let parts = and_parts (slot_test holds_address slots s) (within_object n) h in both_true (slot_in holds_address s parts.0) (in_object n parts.1)
    address_in (in_global g) n h =
        let parts = and_parts (nat_lt g (length r.globals)) (n == 0) h in both_true (below_field g (length r.globals) parts.0 few.globals) (at_start n parts.1)

    value_in : (v : Value) → pure_value r slots v ≡ true → value_has_fields v ≡ true
    value_in (number v) h = refl
    value_in (load p) h = int_in p.root p.offset h
    value_in (unary o v) h = value_in v h
    value_in (binary o a b) h = let parts = and_parts (pure_value r slots a) (pure_value r slots b) h in both_true (value_in a parts.0) (value_in b parts.1)
    value_in (call_value c args) h = absurd (cc h)

    argument_in : (a : Argument) → argument_test r slots a ≡ true → argument_has_fields a ≡ true
    argument_in (int_argument v) h = value_in v h
    argument_in (address_argument p) h = address_in p.root p.offset h
    argument_in (handler_argument n) h = below_field n (length r.functions) (and_parts (nat_lt n (length r.functions)) ((function_at r n).parameters == 0) h).0 few.functions

    arguments_in : (args : Arguments) → arguments_test r slots args ≡ true → arguments_have_fields args ≡ true
    arguments_in no_arguments h = refl
    arguments_in (argument_then a args) h =
        let parts = and_parts (argument_test r slots a) (arguments_test r slots args) h in both_true (argument_in a parts.0) (arguments_in args parts.1)

    top_in : (v : Value) → value_test r slots v ≡ true → value_has_fields v ≡ true
    top_in (number v) h = refl
    top_in (load p) h = value_in (load p) h
    top_in (unary o v) h = value_in (unary o v) h
    top_in (binary o a b) h = value_in (binary o a b) h
    top_in (call_value c args) h =
        let parts = and_parts (arguments_test r slots args) (callee_test r c args) h in both_true (callee_in c args parts.1) (arguments_in args parts.0)

    op_in : (o : Op) → op_test r slots o ≡ true → op_has_fields o ≡ true
    op_in (evaluate v) h = top_in v h
    op_in (store p v) h = let parts = and_parts (int_place r slots p) (value_test r slots v) h in both_true (int_in p.root p.offset parts.0) (top_in v parts.1)
    op_in (bind s p) h =
        let parts = and_parts (slot_test is_reference slots s) (address_place r slots p) h in both_true (slot_in is_reference s parts.0) (address_in p.root p.offset parts.1)
    op_in (call c args) h =
        let parts = and_parts (arguments_test r slots args) (callee_test r c args) h in both_true (callee_in c args parts.1) (arguments_in args parts.0)
    op_in (construct p n args) h =
        let parts = and_parts (address_place r slots p) (arguments_test r slots args && takes_object r n args) h in
        let given = and_parts (arguments_test r slots args) (takes_object r n args) parts.1 in
        both_true (address_in p.root p.offset parts.0) (both_true (built n args given.1) (arguments_in args given.0))
    op_in (destroy p n) h =
        let parts = and_parts (address_place r slots p) (takes_object r n no_arguments) h in both_true (address_in p.root p.offset parts.0) (built n no_arguments parts.1)
    op_in (make s) h = slot_in is_help s h
    op_in (throw s t d) h =
        let parts = and_parts (slot_test is_help slots s) (nat_lt t (length r.types) && destructor_test r d) h in
        let thrown = and_parts (nat_lt t (length r.types)) (destructor_test r d) parts.1 in
        both_true (slot_in is_help s parts.0) (both_true (below_field t (length r.types) thrown.0 few.types) (destructor_in d thrown.1))
    op_in rethrow h = refl
    op_in (enter s) h = slot_in is_help s h
    op_in leave h = refl

    cleanup_in : (c : Cleanup) → cleanup_test r slots c ≡ true → cleanup_has_fields c ≡ true
    cleanup_in (destroy_scope p n) h = op_in (destroy p n) h
    cleanup_in (destroy_part p n) h = op_in (destroy p n) h
    cleanup_in (free_object s) h = slot_in is_help s h
    cleanup_in leave_handler h = refl

    mutual
      region_in : (d : ℕ) (a : Region) → region_test r slots d a ≡ true → d + cost a < 2 ^ 32 → region_has_fields a ≡ true
      region_in d (seq rs) h less = regions_in (d + 1) rs h (omega (arith, less))
      region_in d (op o) h less = op_in o h
      region_in d (branch v a b) h less =
          let parts = and_parts (pure_value r slots v) (region_test r slots (d + 1) a && region_test r slots (d + 1) b) h in
          let sides = and_parts (region_test r slots (d + 1) a) (region_test r slots (d + 1) b) parts.1 in
          both_true (value_in v parts.0) (both_true (region_in (d + 1) a sides.0 (omega (arith, less))) (region_in (d + 1) b sides.1 (omega (arith, less))))
      region_in d (loop v a) h less =
          let parts = and_parts (pure_value r slots v) (region_test r slots (d + 1) a) h in both_true (value_in v parts.0) (region_in (d + 1) a parts.1 (omega (arith, less)))
      region_in d (protect a c) h less =
          let parts = and_parts (cleanup_test r slots c) (region_test r slots (d + 1) a) h in both_true (cleanup_in c parts.0) (region_in (d + 1) a parts.1 (omega (arith, less)))
      region_in d (catch a cs) h less =
          let parts = and_parts (region_test r slots (d + 1) a) (clauses_test r slots (d + 1) cs) h in
          both_true (region_in (d + 1) a parts.0 (omega (arith, less))) (clauses_in (d + 1) cs parts.1 (omega (arith, less)))
      region_in d (limit a types) h less =
          let parts = and_parts (every (λ t. nat_lt t (length r.types)) types) (region_test r slots (d + 1) a) h in
          both_true (types_in types parts.0) (region_in (d + 1) a parts.1 (omega (arith, less)))
      region_in d (barrier a) h less = region_in (d + 1) a (and_parts (is_op a) (region_test r slots (d + 1) a) h).1 (omega (arith, less))
      region_in d (leave_region n) h less = let inside = (and_parts (nat_le 1 n) (nat_le n d) h).1 in grind (arith, nat_tests, inside, less)

      regions_in : (d : ℕ) (rs : RegionList) → regions_test r slots d rs ≡ true → d + cost_all rs < 2 ^ 32 → regions_have_fields rs ≡ true
      regions_in d no_regions h less = refl
      regions_in d (region_then a rs) h less =
          let parts = and_parts (region_test r slots d a) (regions_test r slots d rs) h in
          both_true (region_in d a parts.0 (omega (arith, less))) (regions_in d rs parts.1 (omega (arith, less)))

      clauses_in : (d : ℕ) (cs : Clauses) → clauses_test r slots d cs ≡ true → d + cost_clauses cs < 2 ^ 32 → clauses_have_fields cs ≡ true
      clauses_in d no_clauses h less = refl
      clauses_in d (clause_then t s a cs) h less =
          let parts = and_parts (clause_type_test r t) (slot_test is_help slots s && (region_test r slots d a && clauses_test r slots d cs)) h in
          let slot = and_parts (slot_test is_help slots s) (region_test r slots d a && clauses_test r slots d cs) parts.1 in
          let both = and_parts (region_test r slots d a) (clauses_test r slots d cs) slot.1 in
          both_true (typed t parts.0) (both_true (slot_in is_help s slot.0)
          (both_true (region_in d a both.0 (omega (arith, less))) (clauses_in d cs both.1 (omega (arith, less)))))

    sizes_in : (xs : List Slot) → every slot_fits xs ≡ true → every (λ s. has_field s.size) xs ≡ true
    sizes_in [] h = refl
    sizes_in (s ∷ xs) h =
        let parts = and_parts (slot_fits s) (every slot_fits xs) h in
        let sizes = and_parts (nat_le 4 s.size) (nat_le s.size most_class_bytes && s.size % 4 == 0) parts.0 in
        let most = (and_parts (nat_le s.size most_class_bytes) (s.size % 4 == 0) sizes.1).0 in
        both_true (small_field s.size (grind (arith, nat_tests, most))) (sizes_in xs parts.1)

    result_in : (o : Option ℕ) → result_test slots o ≡ true → some_has_field o ≡ true
    result_in None h = refl
    result_in (Some s) h = slot_in is_help s h

  -- a function
  pub function_in : (f : RegionFunction) → function_test r f ≡ true → slots_fit f ≡ true → length f.slots ≤ 2 ^ 32 - 1 → cost f.body < 2 ^ 32 → function_has_fields f ≡ true
  function_in f h sized many less =
      let parts = and_parts (nat_le f.parameters (length f.slots)) (result_test f.slots f.result && region_test r f.slots 0 f.body) h in
      let both = and_parts (result_test f.slots f.result) (region_test r f.slots 0 f.body) parts.1 in
      let given = parts.0 in
      let fits : length f.slots ≤ 2 ^ 32 = omega (arith, many) in
      let parameters : has_field f.parameters ≡ true = grind (arith, nat_tests, given, many) in
      both_true parameters (both_true (sizes_in f.slots fits sized f.slots sized)
      (both_true (result_in f.slots fits sized f.result both.0) (region_in f.slots fits sized 0 f.body both.1 (omega (arith, less)))))

  -- the types
  pub rows_in : (n : ℕ) (rows : List TypeRow) → rows_test n rows ≡ true → n + length rows ≤ 2 ^ 32 → every row_has_field rows ≡ true
  rows_in n [] h less = refl
  rows_in n (x ∷ rows) h less = go x.base h (λ e. rows_in (n + 1) rows e (omega (arith, less)))
    where
      go : (o : Option ℕ) → elim o [ None ↦ rows_test (n + 1) rows | Some b ↦ nat_lt b n && rows_test (n + 1) rows ] ≡ true →
          (rows_test (n + 1) rows ≡ true → every row_has_field rows ≡ true) → (some_has_field o && every row_has_field rows) ≡ true
      go None h rest = rest h
      go (Some b) h rest = let parts = and_parts (nat_lt b n) (rows_test (n + 1) rows) h in both_true (below_field b n parts.0 (omega (arith, less))) (rest parts.1)
