-- What is asked of regions: numbers are in range, calls stand at the top of operations alone, a barrier holds one operation, slots have
-- the kinds that their uses need, offsets lie within what they are offsets in, and a function is called with the arguments that its slots
-- are for.
use Rattle.std.specs.Prelude.{ℕ, ◌+◌, Bool, true, false, ◌&&◌, nat_lt, nat_le, ◌==◌, List, [], ◌∷◌, length, Option, Some, None, slice_get}
use Rattle.cxx_ast.specs.Limits.{most_class_bytes}
use Rattle.region_forms.specs.Form.{SlotKind, int_slot, address_slot, object_slot, help_slot, Slot, in_slot, through, in_global, Place, Callee, defined, builtin, Value, number, load, unary, binary, call_value, Argument, int_argument, address_argument, handler_argument, Arguments, no_arguments, argument_then, Op, evaluate, store, bind, call, construct, destroy, make, throw, rethrow, enter, leave, Cleanup, destroy_scope, destroy_part, free_object, leave_handler, Region, seq, op, branch, loop, protect, catch, limit, barrier, leave_region, RegionList, no_regions, region_then, Clauses, no_clauses, clause_then, TypeRow, RegionFunction, Regions, kinds_of, function_at}

-- every item of a list passes a test
abbrev pub every : {A : Type 0} → (A → Bool) → List A → Bool
every test [] = true
every test (x ∷ xs) = test x && every test xs

-- a slot of this kind may hold ints
abbrev pub holds_ints : SlotKind → Bool
holds_ints address_slot = false
holds_ints _ = true

-- a slot of this kind may hold an address
abbrev pub holds_address : SlotKind → Bool
holds_address address_slot = true
holds_address help_slot = true
holds_address _ = false

-- a slot of this kind is a reference
abbrev pub is_reference : SlotKind → Bool
is_reference address_slot = true
is_reference _ = false

-- a slot of this kind has an address of its own
abbrev pub is_variable : SlotKind → Bool
is_variable int_slot = true
is_variable object_slot = true
is_variable _ = false

-- a slot is there
abbrev pub slot_test : (SlotKind → Bool) → List Slot → ℕ → Bool
slot_test test slots s = nat_lt s (length slots) && test (kinds_of slots s)

-- an int lies within its slot
abbrev pub within : Option Slot → ℕ → Bool
within None n = false
within (Some s) n = nat_le (n + 4) s.size

-- an int behind an address lies within the largest object
abbrev pub within_object : ℕ → Bool
within_object n = nat_le (n + 4) most_class_bytes

-- a place with an int, and one with an address
abbrev pub int_place : Regions → List Slot → Place → Bool
int_place r slots p = elim p.root [
  | in_slot s ↦ slot_test holds_ints slots s && within (slice_get slots s) p.offset
  | through s ↦ slot_test holds_address slots s && within_object p.offset
  | in_global g ↦ nat_lt g (length r.globals) && p.offset == 0
]

-- a place with an address
abbrev pub address_place : Regions → List Slot → Place → Bool
address_place r slots p = elim p.root [
  | in_slot s ↦ slot_test is_variable slots s && within (slice_get slots s) p.offset
  | through s ↦ slot_test holds_address slots s && within_object p.offset
  | in_global g ↦ nat_lt g (length r.globals) && p.offset == 0
]

-- a value makes no call
abbrev pub pure_value : Regions → List Slot → Value → Bool
pure_value r slots (number v) = true
pure_value r slots (load p) = int_place r slots p
pure_value r slots (unary o v) = pure_value r slots v
pure_value r slots (binary o a b) = pure_value r slots a && pure_value r slots b
pure_value r slots (call_value c args) = false

-- an argument makes no call, and names what is there; what is given as a handler has no parameters
abbrev pub argument_test : Regions → List Slot → Argument → Bool
argument_test r slots (int_argument v) = pure_value r slots v
argument_test r slots (address_argument p) = address_place r slots p
argument_test r slots (handler_argument n) = nat_lt n (length r.functions) && (function_at r n).parameters == 0

-- arguments, each of them so
abbrev pub arguments_test : Regions → List Slot → Arguments → Bool
arguments_test r slots no_arguments = true
arguments_test r slots (argument_then a args) = argument_test r slots a && arguments_test r slots args

-- an int goes to an int variable, an address to a slot for addresses
abbrev pub fits : SlotKind → Argument → Bool
fits int_slot (int_argument v) = true
fits address_slot (address_argument p) = true
fits _ _ = false

-- arguments for the slots of a function from the s-th on
abbrev pub fit : List Slot → ℕ → Arguments → Bool
fit slots s no_arguments = true
fit slots s (argument_then a args) = fits (kinds_of slots s) a && fit slots (s + 1) args

-- how many arguments
abbrev pub count_of : Arguments → ℕ
count_of no_arguments = 0
count_of (argument_then a args) = count_of args + 1

-- a function is called with so many slots filled before the arguments
abbrev pub call_test : Regions → ℕ → ℕ → Arguments → Bool
call_test r n filled args =
    nat_lt n (length r.functions) && (filled + count_of args == (function_at r n).parameters && fit (function_at r n).slots filled args)

-- a constructor or destructor gets its object's address in slot 0
abbrev pub takes_object : Regions → ℕ → Arguments → Bool
takes_object r n args = call_test r n 1 args && slot_test is_reference (function_at r n).slots 0

-- what is called is there and takes the arguments
abbrev pub callee_test : Regions → Callee → Arguments → Bool
callee_test r (defined n) args = call_test r n 0 args
callee_test r (builtin b) args = true

-- a value may be a call where it is stored or dropped
abbrev pub value_test : Regions → List Slot → Value → Bool
value_test r slots (call_value c args) = arguments_test r slots args && callee_test r c args
value_test r slots v = pure_value r slots v

-- a slot is neither a variable nor a reference
abbrev pub is_help : SlotKind → Bool
is_help help_slot = true
is_help _ = false

-- the destructor of a thrown object, if it has one
abbrev pub destructor_test : Regions → Option ℕ → Bool
destructor_test r None = true
destructor_test r (Some d) = takes_object r d no_arguments

-- an operation
abbrev pub op_test : Regions → List Slot → Op → Bool
op_test r slots (evaluate v) = value_test r slots v
op_test r slots (store p v) = int_place r slots p && value_test r slots v
op_test r slots (bind s p) = slot_test is_reference slots s && address_place r slots p
op_test r slots (call c args) = arguments_test r slots args && callee_test r c args
op_test r slots (construct p n args) = address_place r slots p && (arguments_test r slots args && takes_object r n args)
op_test r slots (destroy p n) = address_place r slots p && takes_object r n no_arguments
op_test r slots (make s) = slot_test is_help slots s
op_test r slots (throw s t d) = slot_test is_help slots s && (nat_lt t (length r.types) && destructor_test r d)
op_test r slots rethrow = true
op_test r slots (enter s) = slot_test is_help slots s
op_test r slots leave = true

-- a cleanup
abbrev pub cleanup_test : Regions → List Slot → Cleanup → Bool
cleanup_test r slots (destroy_scope p n) = op_test r slots (destroy p n)
cleanup_test r slots (destroy_part p n) = op_test r slots (destroy p n)
cleanup_test r slots (free_object s) = slot_test is_help slots s
cleanup_test r slots leave_handler = true

-- what a barrier may hold
abbrev pub is_op : Region → Bool
is_op (op o) = true
is_op _ = false

-- the type that a clause matches
abbrev pub clause_type_test : Regions → Option ℕ → Bool
clause_type_test r None = true
clause_type_test r (Some t) = nat_lt t (length r.types)

abbrev mutual
  -- a region that so many regions hold
  pub region_test : Regions → List Slot → ℕ → Region → Bool
  region_test r slots d (seq rs) = regions_test r slots (d + 1) rs
  region_test r slots d (op o) = op_test r slots o
  region_test r slots d (branch v a b) = pure_value r slots v && (region_test r slots (d + 1) a && region_test r slots (d + 1) b)
  region_test r slots d (loop v a) = pure_value r slots v && region_test r slots (d + 1) a
  region_test r slots d (protect a c) = cleanup_test r slots c && region_test r slots (d + 1) a
  region_test r slots d (catch a cs) = region_test r slots (d + 1) a && clauses_test r slots (d + 1) cs
  region_test r slots d (limit a types) = every (λ t. nat_lt t (length r.types)) types && region_test r slots (d + 1) a
  region_test r slots d (barrier a) = is_op a && region_test r slots (d + 1) a
  region_test r slots d (leave_region n) = nat_le 1 n && nat_le n d

  pub regions_test : Regions → List Slot → ℕ → RegionList → Bool
  regions_test r slots d no_regions = true
  regions_test r slots d (region_then a rs) = region_test r slots d a && regions_test r slots d rs

  pub clauses_test : Regions → List Slot → ℕ → Clauses → Bool
  clauses_test r slots d no_clauses = true
  clauses_test r slots d (clause_then t s a cs) =
      clause_type_test r t && (slot_test is_help slots s && (region_test r slots d a && clauses_test r slots d cs))

-- the slot of a result
abbrev pub result_test : List Slot → Option ℕ → Bool
result_test slots None = true
result_test slots (Some s) = slot_test is_help slots s

-- a function
abbrev pub function_test : Regions → RegionFunction → Bool
function_test r f = nat_le f.parameters (length f.slots) && (result_test f.slots f.result && region_test r f.slots 0 f.body)

-- a base stands before what derives from it
abbrev pub rows_test : ℕ → List TypeRow → Bool
rows_test n [] = true
rows_test n (x ∷ xs) = elim x.base [ None ↦ rows_test (n + 1) xs | Some b ↦ nat_lt b n && rows_test (n + 1) xs ]

-- a program of regions is well-formed; main has no parameters
abbrev pub is_well_formed : Regions → Bool
is_well_formed r =
    nat_lt r.main (length r.functions) && ((function_at r r.main).parameters == 0 &&
    (rows_test 0 r.types && every (function_test r) r.functions))
