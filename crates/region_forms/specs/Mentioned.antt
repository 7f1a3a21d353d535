-- The slots that a region mentions: one more than the greatest.
use Rattle.std.specs.Prelude.{ℕ, ◌+◌, max}
use Rattle.region_forms.specs.Form.{Root, in_slot, through, in_global, Value, number, load, unary, binary, call_value, Argument, int_argument, address_argument, handler_argument, Arguments, no_arguments, argument_then, Op, evaluate, store, bind, call, construct, destroy, make, throw, rethrow, enter, leave, Cleanup, destroy_scope, destroy_part, free_object, leave_handler, Region, seq, op, branch, loop, protect, catch, limit, barrier, leave_region, RegionList, no_regions, region_then, Clauses, no_clauses, clause_then}

-- the slots that a root mentions
abbrev pub slots_of_root : Root → ℕ
slots_of_root (in_slot s) = s + 1
slots_of_root (through s) = s + 1
slots_of_root (in_global g) = 0

abbrev mutual
  pub slots_of_value : Value → ℕ
  slots_of_value (number v) = 0
  slots_of_value (load p) = slots_of_root p.root
  slots_of_value (unary o v) = slots_of_value v
  slots_of_value (binary o a b) = max (slots_of_value a) (slots_of_value b)
  slots_of_value (call_value c args) = slots_of_arguments args

  pub slots_of_argument : Argument → ℕ
  slots_of_argument (int_argument v) = slots_of_value v
  slots_of_argument (address_argument p) = slots_of_root p.root
  slots_of_argument (handler_argument n) = 0

  pub slots_of_arguments : Arguments → ℕ
  slots_of_arguments no_arguments = 0
  slots_of_arguments (argument_then a args) = max (slots_of_argument a) (slots_of_arguments args)

-- the slots that an operation mentions
abbrev pub slots_of_op : Op → ℕ
slots_of_op (evaluate v) = slots_of_value v
slots_of_op (store p v) = max (slots_of_root p.root) (slots_of_value v)
slots_of_op (bind s p) = max (s + 1) (slots_of_root p.root)
slots_of_op (call c args) = slots_of_arguments args
slots_of_op (construct p n args) = max (slots_of_root p.root) (slots_of_arguments args)
slots_of_op (destroy p n) = slots_of_root p.root
slots_of_op (make s) = s + 1
slots_of_op (throw s t d) = s + 1
slots_of_op rethrow = 0
slots_of_op (enter s) = s + 1
slots_of_op leave = 0

-- the slots that a cleanup mentions
abbrev pub slots_of_cleanup : Cleanup → ℕ
slots_of_cleanup (destroy_scope p n) = slots_of_root p.root
slots_of_cleanup (destroy_part p n) = slots_of_root p.root
slots_of_cleanup (free_object s) = s + 1
slots_of_cleanup leave_handler = 0

abbrev mutual
  pub slots_of : Region → ℕ
  slots_of (seq rs) = slots_of_all rs
  slots_of (op o) = slots_of_op o
  slots_of (branch v a b) = max (slots_of_value v) (max (slots_of a) (slots_of b))
  slots_of (loop v r) = max (slots_of_value v) (slots_of r)
  slots_of (protect r c) = max (slots_of r) (slots_of_cleanup c)
  slots_of (catch r cs) = max (slots_of r) (slots_of_clauses cs)
  slots_of (limit r types) = slots_of r
  slots_of (barrier r) = slots_of r
  slots_of (leave_region n) = 0

  pub slots_of_all : RegionList → ℕ
  slots_of_all no_regions = 0
  slots_of_all (region_then r rs) = max (slots_of r) (slots_of_all rs)

  pub slots_of_clauses : Clauses → ℕ
  slots_of_clauses no_clauses = 0
  slots_of_clauses (clause_then t s r cs) = max (s + 1) (max (slots_of r) (slots_of_clauses cs))
