-- What each operation of well-formed linear code asks of slots, offsets and numbers, whatever the frame holds.
use Rattle.std.specs.Prelude.{⊤, ◌≡◌, ℕ, ◌+◌, ◌^◌, ◌<◌, ◌≤◌, true, false, length, Option, Some, None}
use Rattle.region_forms.specs.Form.{SlotKind, int_slot, address_slot, Kinds, kinds_of, Root, in_slot, through, in_global, Place, Callee, defined, builtin, Value, number, load, unary, binary, call_value, Argument, int_argument, address_argument, handler_argument, Arguments, no_arguments, argument_then, Op, evaluate, store, bind, call, construct, destroy, make, throw, rethrow, enter, leave}
use Rattle.region_forms.specs.WellFormed.{is_variable, holds_address, count_of}
use Rattle.linear_forms.specs.Linear.{FunctionCode, UnitCode, LinearOp, plain, label, jump, jump_zero, pad, jump_filter, free, resume, unexpected, return}
use Rattle.linear_forms.specs.UnitRun.{code_at}
use Rattle.machine_forms.specs.Shape.{slot_offset}
use Rattle.machine_forms.specs.Kept.{kept_slots}
use Rattle.machine_forms.specs.KeptCode.{register_of}
use Rattle.machine_forms.specs.Emitted.{shape_of}
use Rattle.machine_pieces.specs.Numbers.{IsInt}
use Rattle.machine_pieces.specs.Frames.{SlotFits}

-- a slot that is no variable, within reach of sp
pub record IsWord (g : FunctionCode) (s : ℕ) : Type 0 where
  pub inside : s < length g.slots
  pub plain : is_variable (kinds_of g.slots s) ≡ false
  pub near : slot_offset (shape_of g) s < 2 ^ 11

-- the root of a place, with an offset
abbrev pub RootStatic : UnitCode → FunctionCode → Root → ℕ → Type 0
RootStatic u g (in_slot s) o =
    (s < length g.slots) × (slot_offset (shape_of g) s + o < 2 ^ 11) × SlotFits (kinds_of g.slots s) o × ((k : ℕ) → register_of (kept_slots g) s ≡ Some k → o ≡ 0)
RootStatic u g (through s) o = (s < length g.slots) × (slot_offset (shape_of g) s < 2 ^ 11) × (o < 2 ^ 11)
RootStatic u g (in_global i) o = (i < length u.globals) × (o ≡ 0)

abbrev pub PlaceStatic : UnitCode → FunctionCode → Place → Type 0
PlaceStatic u g q = RootStatic u g q.root q.offset

-- a value without calls
abbrev pub ValueStatic : UnitCode → FunctionCode → Value → Type 0
ValueStatic u g (number v) = IsInt v
ValueStatic u g (load q) = PlaceStatic u g q
ValueStatic u g (unary o v) = ValueStatic u g v
ValueStatic u g (binary o a b) = ValueStatic u g a × ValueStatic u g b
ValueStatic u g (call_value c args) = ⊥

-- an argument, and the kind of the slot that it goes to
abbrev pub ArgumentStatic : UnitCode → FunctionCode → SlotKind → Argument → Type 0
ArgumentStatic u g k (int_argument v) = ValueStatic u g v × (k ≡ int_slot)
ArgumentStatic u g k (address_argument q) = PlaceStatic u g q × (k ≡ address_slot)
ArgumentStatic u g k (handler_argument n) = ⊥

abbrev pub ArgumentsStatic : UnitCode → FunctionCode → Kinds → ℕ → Arguments → Type 0
ArgumentsStatic u g kinds i no_arguments = ⊤
ArgumentsStatic u g kinds i (argument_then a args) = ArgumentStatic u g (kinds i) a × ArgumentsStatic u g kinds (i + 1) args

-- arguments of a built-in function
abbrev pub BuiltinArgument : UnitCode → FunctionCode → Argument → Type 0
BuiltinArgument u g (int_argument v) = ValueStatic u g v
BuiltinArgument u g (address_argument q) = PlaceStatic u g q
BuiltinArgument u g (handler_argument n) = n < length u.functions

abbrev pub BuiltinArguments : UnitCode → FunctionCode → Arguments → Type 0
BuiltinArguments u g no_arguments = ⊤
BuiltinArguments u g (argument_then a args) = BuiltinArgument u g a × BuiltinArguments u g args

-- a call of function m of the unit, some of whose first slots are filled before the arguments: these are its parameters
pub record CallStatic (u : UnitCode) (g : FunctionCode) (m filled : ℕ) (args : Arguments) : Type 0 where
  pub known : m < length u.functions
  pub few : filled + count_of args ≤ length (code_at u m).slots
  pub taken : filled + count_of args ≡ (code_at u m).parameters
  pub arguments : ArgumentsStatic u g (kinds_of (code_at u m).slots) filled args

abbrev pub CalleeStatic : UnitCode → FunctionCode → Callee → Arguments → Type 0
CalleeStatic u g (defined m) args = CallStatic u g m 0 args
CalleeStatic u g (builtin b) args = BuiltinArguments u g args

-- a constructor or destructor gets its object's address in its first slot
pub record ObjectStatic (u : UnitCode) (m : ℕ) : Type 0 where
  pub known : m < length u.functions
  pub some : 0 < length (code_at u m).slots
  pub held : holds_address (kinds_of (code_at u m).slots 0) ≡ true

-- a value that may be a call
abbrev pub TopStatic : UnitCode → FunctionCode → Value → Type 0
TopStatic u g (call_value c args) = CalleeStatic u g c args
TopStatic u g (number v) = ValueStatic u g (number v)
TopStatic u g (load q) = ValueStatic u g (load q)
TopStatic u g (unary o v) = ValueStatic u g (unary o v)
TopStatic u g (binary o a b) = ValueStatic u g (binary o a b)

abbrev pub DestructorStatic : UnitCode → Option ℕ → Type 0
DestructorStatic u None = ⊤
DestructorStatic u (Some d) = ObjectStatic u d

abbrev pub OpStatic : UnitCode → FunctionCode → Op → Type 0
OpStatic u g (evaluate v) = TopStatic u g v
OpStatic u g (store q v) = PlaceStatic u g q × TopStatic u g v
OpStatic u g (bind s q) = IsWord g s × PlaceStatic u g q
OpStatic u g (call c args) = CalleeStatic u g c args
OpStatic u g (construct q m args) = PlaceStatic u g q × CallStatic u g m 1 args × ObjectStatic u m
OpStatic u g (destroy q m) = PlaceStatic u g q × ObjectStatic u m × (1 ≡ (code_at u m).parameters)
OpStatic u g (make s) = IsWord g s
OpStatic u g (throw s t d) = IsWord g s × (t < length u.types) × DestructorStatic u d
OpStatic u g rethrow = ⊤
OpStatic u g (enter s) = IsWord g s
OpStatic u g leave = ⊤

-- the slot of a result
abbrev pub ResultStatic : FunctionCode → Option ℕ → Type 0
ResultStatic g None = ⊤
ResultStatic g (Some s) = IsWord g s

-- an operation of linear code
abbrev pub LinearStatic : UnitCode → FunctionCode → LinearOp → Type 0
LinearStatic u g (plain o) = OpStatic u g o
LinearStatic u g (label l) = ⊤
LinearStatic u g (jump l) = ⊤
LinearStatic u g (jump_zero v l) = ValueStatic u g v
LinearStatic u g (pad o s) = IsWord g o × IsWord g s
LinearStatic u g (jump_filter s n l) = IsWord g s
LinearStatic u g (free s) = IsWord g s
LinearStatic u g (resume s) = IsWord g s
LinearStatic u g (unexpected o s) = IsWord g o × IsWord g s
LinearStatic u g (return result) = ResultStatic g result
