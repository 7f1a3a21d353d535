-- Regions as plain data: a program in which cleanups, handlers, barriers and exits are explicit.
use Rattle.std.specs.Prelude.{ℕ, ℤ, List, [], ◌∷◌, Option, Some, None, slice_get, unwrap_or}
use Rattle.cxx_ast.specs.declared.expression.UnaryOp.{UnaryOp}
use Rattle.cxx_ast.specs.declared.expression.BinaryOp.{BinaryOp}
use Rattle.cxx_ast.specs.declared.name.Builtin.{Builtin}

-- what a slot of a function is for: an int variable, a reference or another address, an object, or any other value
pub data SlotKind : Type 0 where
  int_slot : SlotKind
  address_slot : SlotKind
  object_slot : SlotKind
  help_slot : SlotKind

-- a slot with its size in bytes
pub record Slot : Type 0 where
  pub kind : SlotKind
  pub size : ℕ

-- where a place begins: at a slot, at the address that a slot holds, or at a global
pub data Root : Type 0 where
  in_slot : ℕ → Root
  through : ℕ → Root
  in_global : ℕ → Root

-- a place is an offset in bytes from where it begins
pub record Place : Type 0 where
  pub root : Root
  pub offset : ℕ

-- what can be called: a function by its number, or a built-in function
pub data Callee : Type 0 where
  defined : ℕ → Callee
  builtin : Builtin → Callee

mutual
  -- a call stands only at the top of an operation
  pub data Value : Type 0 where
    number : ℤ → Value
    load : Place → Value
    unary : UnaryOp → Value → Value
    binary : BinaryOp → Value → Value → Value
    call_value : Callee → Arguments → Value

  -- an int, the address of a place, or the function given to set_terminate or set_unexpected
  pub data Argument : Type 0 where
    int_argument : Value → Argument
    address_argument : Place → Argument
    handler_argument : ℕ → Argument

  pub data Arguments : Type 0 where
    no_arguments : Arguments
    argument_then : Argument → Arguments → Arguments

-- One operation. `make` puts the address of a new exception object in a slot; `throw` has the slot of the object, the type and the
-- destructor; `enter` has the slot of the object; `leave` leaves the newest handler.
pub data Op : Type 0 where
  evaluate : Value → Op
  store : Place → Value → Op
  bind : ℕ → Place → Op
  call : Callee → Arguments → Op
  construct : Place → ℕ → Arguments → Op
  destroy : Place → ℕ → Op
  make : ℕ → Op
  throw : ℕ → ℕ → Option ℕ → Op
  rethrow : Op
  enter : ℕ → Op
  leave : Op

-- a place is destroyed at every exit, or at an exit by an exception or a forced unwind alone; so the object of a slot is freed; a
-- handler is left at every exit
pub data Cleanup : Type 0 where
  destroy_scope : Place → ℕ → Cleanup
  destroy_part : Place → ℕ → Cleanup
  free_object : ℕ → Cleanup
  leave_handler : Cleanup

mutual
  -- `leave_region n` goes to the end of the region number n that holds it, the innermost being 1
  pub data Region : Type 0 where
    seq : RegionList → Region
    op : Op → Region
    branch : Value → Region → Region → Region
    loop : Value → Region → Region
    protect : Region → Cleanup → Region
    catch : Region → Clauses → Region
    limit : Region → List ℕ → Region
    barrier : Region → Region
    leave_region : ℕ → Region

  pub data RegionList : Type 0 where
    no_regions : RegionList
    region_then : Region → RegionList → RegionList

  -- the type is none for `catch (...)`; the slot gets the exception object's address
  pub data Clauses : Type 0 where
    no_clauses : Clauses
    clause_then : Option ℕ → ℕ → Region → Clauses → Clauses

-- what kind of type: 1 int, 2 a class, 3 `std::bad_exception`; and the number of its base's row
pub record TypeRow : Type 0 where
  pub kind : ℕ
  pub name : List ℕ
  pub base : Option ℕ

-- a function: its first slots hold its arguments, and one may hold its result
pub record RegionFunction : Type 0 where
  pub name : List ℕ
  pub parameters : ℕ
  pub slots : List Slot
  pub result : Option ℕ
  pub body : Region

-- a program; functions and types are named by their numbers in these lists
pub record Regions : Type 0 where
  pub functions : List RegionFunction
  pub types : List TypeRow
  pub globals : List ℤ
  pub tokens : ℕ
  pub main : ℕ

-- what stands for a function that is not there
abbrev pub no_function : RegionFunction
no_function = record { name = []; parameters = 0; slots = []; result = None; body = seq no_regions }

-- the function with a number
abbrev pub function_at : Regions → ℕ → RegionFunction
function_at r n = unwrap_or (slice_get r.functions n) no_function

-- the kinds of a function's slots
abbrev pub Kinds : Type 0
Kinds = ℕ → SlotKind

-- the kind of a slot; one that is not there is as good as any that is no variable
abbrev pub kind_of : Option Slot → SlotKind
kind_of None = help_slot
kind_of (Some s) = s.kind

-- the kinds of slots by number
abbrev pub kinds_of : List Slot → Kinds
kinds_of slots s = kind_of (slice_get slots s)

-- a list as regions in order
abbrev pub regions_from : List Region → RegionList
regions_from [] = no_regions
regions_from (r ∷ rs) = region_then r (regions_from rs)

-- regions one after the other
abbrev pub in_order : List Region → Region
in_order rs = seq (regions_from rs)

-- a list as arguments in order
abbrev pub arguments_from : List Argument → Arguments
arguments_from [] = no_arguments
arguments_from (a ∷ args) = argument_then a (arguments_from args)
