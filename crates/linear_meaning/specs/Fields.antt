-- Numbers of regions that have a field of 32 bits where a program's regions are kept.
use Rattle.std.specs.Prelude.{◌≡◌, ◌^◌, ℕ, Bool, true, ◌&&◌, nat_lt, Option, Some, None}
use Rattle.cxx_ast.specs.Plain.{Checked}
use Rattle.cxx_ast.specs.Checked.{IsChecked}
use Rattle.region_forms.specs.Form.{Root, in_slot, through, in_global, Place, Callee, defined, builtin, Value, number, load, unary, binary, call_value, Argument, int_argument, address_argument, handler_argument, Arguments, no_arguments, argument_then, Op, evaluate, store, bind, call, construct, destroy, make, throw, rethrow, enter, leave, Cleanup, destroy_scope, destroy_part, free_object, leave_handler, Region, seq, op, branch, loop, protect, catch, limit, barrier, leave_region, RegionList, no_regions, region_then, Clauses, no_clauses, clause_then, TypeRow, RegionFunction, Regions}
use Rattle.region_forms.specs.Layout.{layout_of}
use Rattle.region_forms.specs.LowerProgram.{regions_of}
use Rattle.region_forms.specs.WellFormed.{every}

-- a number of 32 bits
abbrev pub has_field : ℕ → Bool
has_field n = nat_lt n (2 ^ 32)

-- a number that may be left out
abbrev pub some_has_field : Option ℕ → Bool
some_has_field None = true
some_has_field (Some n) = has_field n

abbrev pub root_has_field : Root → Bool
root_has_field (in_slot s) = has_field s
root_has_field (through s) = has_field s
root_has_field (in_global g) = has_field g

abbrev pub place_has_fields : Place → Bool
place_has_fields p = root_has_field p.root && has_field p.offset

abbrev pub callee_has_field : Callee → Bool
callee_has_field (defined n) = has_field n
callee_has_field (builtin b) = true

abbrev mutual
  pub value_has_fields : Value → Bool
  value_has_fields (number v) = true
  value_has_fields (load p) = place_has_fields p
  value_has_fields (unary o v) = value_has_fields v
  value_has_fields (binary o a b) = value_has_fields a && value_has_fields b
  value_has_fields (call_value c args) = callee_has_field c && arguments_have_fields args

  pub argument_has_fields : Argument → Bool
  argument_has_fields (int_argument v) = value_has_fields v
  argument_has_fields (address_argument p) = place_has_fields p
  argument_has_fields (handler_argument n) = has_field n

  pub arguments_have_fields : Arguments → Bool
  arguments_have_fields no_arguments = true
  arguments_have_fields (argument_then a args) = argument_has_fields a && arguments_have_fields args

abbrev pub op_has_fields : Op → Bool
op_has_fields (evaluate v) = value_has_fields v
op_has_fields (store p v) = place_has_fields p && value_has_fields v
op_has_fields (bind s p) = has_field s && place_has_fields p
op_has_fields (call c args) = callee_has_field c && arguments_have_fields args
op_has_fields (construct p n args) = place_has_fields p && (has_field n && arguments_have_fields args)
op_has_fields (destroy p n) = place_has_fields p && has_field n
op_has_fields (make s) = has_field s
op_has_fields (throw s t d) = has_field s && (has_field t && some_has_field d)
op_has_fields rethrow = true
op_has_fields (enter s) = has_field s
op_has_fields leave = true

abbrev pub cleanup_has_fields : Cleanup → Bool
cleanup_has_fields (destroy_scope p n) = place_has_fields p && has_field n
cleanup_has_fields (destroy_part p n) = place_has_fields p && has_field n
cleanup_has_fields (free_object s) = has_field s
cleanup_has_fields leave_handler = true

abbrev mutual
  pub region_has_fields : Region → Bool
  region_has_fields (seq rs) = regions_have_fields rs
  region_has_fields (op o) = op_has_fields o
  region_has_fields (branch v a b) = value_has_fields v && (region_has_fields a && region_has_fields b)
  region_has_fields (loop v a) = value_has_fields v && region_has_fields a
  region_has_fields (protect a c) = cleanup_has_fields c && region_has_fields a
  region_has_fields (catch a cs) = region_has_fields a && clauses_have_fields cs
  region_has_fields (limit a types) = every has_field types && region_has_fields a
  region_has_fields (barrier a) = region_has_fields a
  region_has_fields (leave_region n) = has_field n

  pub regions_have_fields : RegionList → Bool
  regions_have_fields no_regions = true
  regions_have_fields (region_then a rs) = region_has_fields a && regions_have_fields rs

  pub clauses_have_fields : Clauses → Bool
  clauses_have_fields no_clauses = true
  clauses_have_fields (clause_then t s a cs) = some_has_field t && (has_field s && (region_has_fields a && clauses_have_fields cs))

-- a function: its parameters, the sizes of its slots, its result and its body
abbrev pub function_has_fields : RegionFunction → Bool
function_has_fields f =
    has_field f.parameters && (every (λ s. has_field s.size) f.slots && (some_has_field f.result && region_has_fields f.body))

-- a type: the number of its base
abbrev pub row_has_field : TypeRow → Bool
row_has_field t = some_has_field t.base

-- a program
abbrev pub program_has_fields : Regions → Bool
program_has_fields r = has_field r.main && (has_field r.tokens && (every row_has_field r.types && every function_has_fields r.functions))

-- so does every checked program, by its layout
abbrev pub CheckedProgramsHaveFields : Type 0
CheckedProgramsHaveFields = (p : Checked) → IsChecked p → program_has_fields (regions_of p (layout_of p)) ≡ true
