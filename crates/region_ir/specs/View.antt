-- The plain regions that regions in memory stand for.
use Rattle.std.specs.Prelude.{List, [], ◌∷◌, map}
use Rattle.region_ir.specs.declared.place.SlotKind.{SlotKind as SlotKindValue}
use Rattle.region_ir.specs.declared.place.SlotKind.TheVariants.{Int, Address, Object, Help}
use Rattle.region_ir.specs.declared.place.Slot.{Slot as SlotValue}
use Rattle.region_ir.specs.declared.place.Root.{Root as RootValue}
use Rattle.region_ir.specs.declared.place.Root.TheVariants as root
use Rattle.region_ir.specs.declared.place.Place.{Place as PlaceValue}
use Rattle.region_ir.specs.declared.value.Callee.{Callee as CalleeValue}
use Rattle.region_ir.specs.declared.value.Callee.TheVariants as callee
use Rattle.region_ir.specs.declared.value.Value.{Value as ValueTree, Number, Load, Unary', Binary', Call', Row_of-Arg, end_of-Arg, more_of-Arg}
use Rattle.region_ir.specs.declared.value.Arg.{Arg as ArgTree, Int as IntArg, Address as AddressArg, Handler}
use Rattle.region_ir.specs.declared.operation.RegionOp.{RegionOp as OpValue}
use Rattle.region_ir.specs.declared.operation.RegionOp.TheVariants as operation
use Rattle.region_ir.specs.declared.operation.Cleanup.{Cleanup as CleanupValue}
use Rattle.region_ir.specs.declared.operation.Cleanup.TheVariants as cleanup
use Rattle.region_ir.specs.declared.region.Region.{Region as RegionTree, Seq', Op, Branch', Loop', Protect', Catch', Limit', Barrier', Leave, Row_of-Region, end_of-Region, more_of-Region, Row_of-Clause, end_of-Clause, more_of-Clause}
use Rattle.region_ir.specs.declared.region.Clause.{Clause}
use Rattle.region_ir.specs.declared.program.RegionFunc.{RegionFunc}
use Rattle.region_ir.specs.declared.program.Regions.{Regions as RegionsValue}
use Rattle.eh_bytes.specs.declared.unit.TypeRow.{TypeRow as TypeRowValue}
use Rattle.region_forms.specs.Form.{TypeRow, RegionFunction, Regions, SlotKind, int_slot, address_slot, object_slot, help_slot, Slot, Root, in_slot, through, in_global, Place, Callee, defined, builtin, Value, number, load, unary, binary, call_value, Argument, int_argument, address_argument, handler_argument, Arguments, no_arguments, argument_then, Op as PlainOp, evaluate, store, bind, call, construct, destroy, make, throw, rethrow, enter, leave, Cleanup, destroy_scope, destroy_part, free_object, leave_handler, Region, seq, op, branch, loop, protect, catch, limit, barrier, leave_region, RegionList, no_regions, region_then, Clauses, no_clauses, clause_then}

abbrev pub kind_of : SlotKindValue → SlotKind
kind_of Int = int_slot
kind_of Address = address_slot
kind_of Object = object_slot
kind_of Help = help_slot

abbrev pub slot_of : SlotValue → Slot
slot_of s = record { kind = kind_of s.kind; size = s.size }

abbrev pub root_of : RootValue → Root
root_of (root.Slot s) = in_slot s
root_of (root.Through s) = through s
root_of (root.Global g) = in_global g

abbrev pub place_of : PlaceValue → Place
place_of p = record { root = root_of p.root; offset = p.offset }

abbrev pub callee_of : CalleeValue → Callee
callee_of (callee.Func n) = defined n
callee_of (callee.Builtin b) = builtin b

-- a value, an argument, and the rows of arguments
abbrev mutual
  pub value_of : ValueTree → Value
  value_of (Number v) = number v
  value_of (Load p) = load (place_of p)
  value_of (Unary' o p v) = unary o (value_of v)
  value_of (Binary' o p a q b) = binary o (value_of a) (value_of b)
  value_of (Call' c shape row) = call_value (callee_of c) (row_of_arguments row)

  pub argument_of : ArgTree → Argument
  argument_of (IntArg v) = int_argument (value_of v)
  argument_of (AddressArg p) = address_argument (place_of p)
  argument_of (Handler n) = handler_argument n

  pub row_of_arguments : {n : _} → Row_of-Arg n → Arguments
  row_of_arguments end_of-Arg = no_arguments
  row_of_arguments (more_of-Arg a rest) = argument_then (argument_of a) (row_of_arguments rest)

-- a list of arguments
abbrev pub arguments_of : List ArgTree → Arguments
arguments_of [] = no_arguments
arguments_of (a ∷ args) = argument_then (argument_of a) (arguments_of args)

-- an operation
abbrev pub operation_of : OpValue → PlainOp
operation_of (operation.Evaluate v) = evaluate (value_of v)
operation_of (operation.Store p v) = store (place_of p) (value_of v)
operation_of (operation.Bind s p) = bind s (place_of p)
operation_of (operation.Call c args) = call (callee_of c) (arguments_of args.items)
operation_of (operation.Construct p n args) = construct (place_of p) n (arguments_of args.items)
operation_of (operation.Destroy p n) = destroy (place_of p) n
operation_of (operation.Make s) = make s
operation_of (operation.Throw s t d) = throw s t d
operation_of operation.Rethrow = rethrow
operation_of (operation.Enter s) = enter s
operation_of operation.Leave = leave

-- a cleanup
abbrev pub cleanup_of : CleanupValue → Cleanup
cleanup_of (cleanup.Scope p n) = destroy_scope (place_of p) n
cleanup_of (cleanup.Part p n) = destroy_part (place_of p) n
cleanup_of (cleanup.Free s) = free_object s
cleanup_of cleanup.Leave = leave_handler

-- a region, and the rows of regions and clauses
abbrev mutual
  pub region_of : RegionTree → Region
  region_of (Seq' shape row) = seq (row_of_regions row)
  region_of (Op o) = op (operation_of o)
  region_of (Branch' v p a q b) = branch (value_of v) (region_of a) (region_of b)
  region_of (Loop' v p a) = loop (value_of v) (region_of a)
  region_of (Protect' p a c) = protect (region_of a) (cleanup_of c)
  region_of (Catch' p a shape row) = catch (region_of a) (row_of_clauses row)
  region_of (Limit' p a types) = limit (region_of a) types.items
  region_of (Barrier' p a) = barrier (region_of a)
  region_of (Leave n) = leave_region n

  pub row_of_regions : {n : _} → Row_of-Region n → RegionList
  row_of_regions end_of-Region = no_regions
  row_of_regions (more_of-Region a rest) = region_then (region_of a) (row_of_regions rest)

  pub row_of_clauses : {n : _} → Row_of-Clause n → Clauses
  row_of_clauses end_of-Clause = no_clauses
  row_of_clauses (more_of-Clause ty object body rest) = clause_then ty object (region_of body) (row_of_clauses rest)

-- a list of clauses
abbrev pub clauses_of : List Clause → Clauses
clauses_of [] = no_clauses
clauses_of (c ∷ cs) = clause_then c.ty c.object (region_of c.body) (clauses_of cs)

-- a type's row
abbrev pub row_of : TypeRowValue → TypeRow
row_of t = record { kind = t.kind; name = t.name; base = t.base }

-- a function
abbrev pub function_of : RegionFunc → RegionFunction
function_of f = record {
  name = f.name;
  parameters = f.params;
  slots = map slot_of f.slots.items;
  result = f.result;
  body = region_of f.body;
}

-- a program
abbrev pub regions_view : RegionsValue → Regions
regions_view r = record {
  functions = map function_of r.functions.items;
  types = map row_of r.types.items;
  globals = r.globals.items;
  tokens = r.tokens;
  main = r.main;
}
