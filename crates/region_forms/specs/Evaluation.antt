-- Places and values without calls, the same for regions and for linear code (ISO/IEC 14882:2003, 5.3.1, 5.6, 5.7, 5.9, 5.10, 5.14, 5.15).
-- `None` is: not defined (5/5, 5.6/4).
use Rattle.std.specs.Prelude.{ℕ, ℤ, pos, ◌+ℤ◌, ◌-ℤ◌, ◌*ℤ◌, neg_ℤ, int_lt, int_le, int_div, int_rem, not, List, [], ◌∷◌, Option, Some, None, if◌then◌else◌}
use Rattle.cxx_ast.specs.declared.expression.UnaryOp.{UnaryOp}
use Rattle.cxx_ast.specs.declared.expression.UnaryOp.TheVariants.{Minus, Not}
use Rattle.cxx_ast.specs.declared.expression.BinaryOp.{BinaryOp}
use Rattle.cxx_ast.specs.declared.expression.BinaryOp.TheVariants.{Add, Subtract, Multiply, Divide, Remainder, Less, Greater, LessEqual, GreaterEqual, Equal, NotEqual, And, Or}
use Rattle.meaning_forms.specs.Arithmetic.{fits_int, is_zero, truth, int_equal, decided}
use Rattle.region_forms.specs.Form.{Kinds, SlotKind, int_slot, address_slot, object_slot, help_slot, Root, in_slot, through, in_global, Place, Value, number, load, unary, binary, call_value, Argument, int_argument, address_argument, handler_argument, Arguments, no_arguments, argument_then}
use Rattle.region_forms.specs.World.{Address, of_global, of_variable, Word, number_word, address_word, Frame, World, behind, address_in, number_in}
use Rattle.region_forms.specs.Lives.{is_there}

-- where a place is: at an address, or in a slot that is no variable
pub data Location : Type 0 where
  in_memory : Address → Location
  in_frame : ℕ → Location

-- a slot as the beginning of a place: an int variable and an object have an address, any other is in the frame
abbrev pub slot_location : SlotKind → ℕ → ℕ → ℕ → Location
slot_location int_slot c s n = in_memory (record { base = of_variable c s; offset = n })
slot_location object_slot c s n = in_memory (record { base = of_variable c s; offset = n })
slot_location address_slot c s n = in_frame s
slot_location help_slot c s n = in_frame s

-- so many bytes behind an address, if there is one
abbrev pub location_behind : ℕ → Option Address → Option Location
location_behind n None = None
location_behind n (Some a) = Some (in_memory (behind a n))

-- so many bytes behind where a root is
abbrev pub root_location : Kinds → Frame → Root → ℕ → Option Location
root_location kinds f (in_slot s) n = Some (slot_location (kinds s) f.call s n)
root_location kinds f (through s) n = location_behind n (address_in (f.slots s))
root_location kinds f (in_global g) n = Some (in_memory (record { base = of_global g; offset = n }))

-- where a place is
abbrev pub locate : Kinds → Frame → Place → Option Location
locate kinds f p = root_location kinds f p.root p.offset

-- what is first, then what follows from it
abbrev pub with_some : {A B : Type 0} → Option A → (A → Option B) → Option B
with_some None next = None
with_some (Some a) next = next a

-- the int at a location; the object of an exception that is no longer live is nowhere
abbrev pub read_location : Frame → World → Location → Option ℤ
read_location f w (in_memory a) = if is_there w a.base then w.memory a else None
read_location f w (in_frame s) = number_in (f.slots s)

-- the address that a location has
abbrev pub location_address : Location → Option Address
location_address (in_memory a) = Some a
location_address (in_frame s) = None

-- the int at a place
abbrev pub read_place : Kinds → Frame → World → Place → Option ℤ
read_place kinds f w p = with_some (locate kinds f p) (read_location f w)

-- the address of a place
abbrev pub address_of : Kinds → Frame → Place → Option Address
address_of kinds f p = with_some (locate kinds f p) location_address

-- overflow is not defined
abbrev pub fitting : ℤ → Option ℤ
fitting z = if fits_int z then Some z else None

-- nor is division by 0, nor one whose quotient is no int
abbrev pub quotient : ℤ → ℤ → ℤ → Option ℤ
quotient x y v = if is_zero y then None else if fits_int (int_div x y) then Some v else None

-- the value of a unary operator on a value
abbrev pub unary_result : UnaryOp → ℤ → Option ℤ
unary_result Minus x = fitting (neg_ℤ x)
unary_result Not x = Some (truth (is_zero x))

-- the value of a binary operator on two values; of `&&` and `||` where the left one does not decide
abbrev pub binary_result : BinaryOp → ℤ → ℤ → Option ℤ
binary_result Add x y = fitting (x +ℤ y)
binary_result Subtract x y = fitting (x -ℤ y)
binary_result Multiply x y = fitting (x *ℤ y)
binary_result Divide x y = quotient x y (int_div x y)
binary_result Remainder x y = quotient x y (int_rem x y)
binary_result Less x y = Some (truth (int_lt x y))
binary_result Greater x y = Some (truth (int_lt y x))
binary_result LessEqual x y = Some (truth (int_le x y))
binary_result GreaterEqual x y = Some (truth (int_le y x))
binary_result Equal x y = Some (truth (int_equal x y))
binary_result NotEqual x y = Some (truth (not (int_equal x y)))
binary_result And x y = Some (truth (not (is_zero y)))
binary_result Or x y = Some (truth (not (is_zero y)))

-- `&&` and `||` need their right side only where it decides
abbrev pub with_right : BinaryOp → ℤ → Option ℤ → Option ℤ → Option ℤ
with_right op x (Some v) right = Some v
with_right op x None right = with_some right (binary_result op x)

-- the value of what makes no call
abbrev pub value_in : Kinds → Frame → World → Value → Option ℤ
value_in kinds f w (number v) = Some v
value_in kinds f w (load p) = read_place kinds f w p
value_in kinds f w (unary op v) = with_some (value_in kinds f w v) (unary_result op)
value_in kinds f w (binary op a b) =
    with_some (value_in kinds f w a) (λ x. with_right op x (decided op x) (value_in kinds f w b))
value_in kinds f w (call_value c args) = None

-- what is passed for an argument
abbrev pub word_in : Kinds → Frame → World → Argument → Option Word
word_in kinds f w (int_argument v) = with_some (value_in kinds f w v) (λ x. Some (number_word x))
word_in kinds f w (address_argument p) = with_some (address_of kinds f p) (λ a. Some (address_word a))
word_in kinds f w (handler_argument n) = Some (number_word (pos n))

-- what is passed for arguments, in order
abbrev pub words_in : Kinds → Frame → World → Arguments → Option (List Word)
words_in kinds f w no_arguments = Some []
words_in kinds f w (argument_then a args) =
    with_some (word_in kinds f w a) (λ x. with_some (words_in kinds f w args) (λ xs. Some (x ∷ xs)))
