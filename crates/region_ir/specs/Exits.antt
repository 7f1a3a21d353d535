-- Where exits lead: each leaves regions that hold it, since each jump of the source stands in a loop.
use Rattle.std.specs.Prelude.{ℕ, ◌+◌, Bool, true, false, ◌&&◌, nat_le}
use Rattle.cxx_ast.specs.Plain.{Class, Function, Statement, block, if_else, while, break, continue, try, Else, no_else, else_do, Statements, no_statements, statement_then, Handlers, no_handlers, handler_then, Checked}
use Rattle.meaning_forms.specs.Call.{statements_in}
use Rattle.region_forms.specs.Form.{Region, seq, op, branch, loop, protect, catch, limit, barrier, leave_region, RegionList, no_regions, region_then, Clauses, no_clauses, clause_then, Regions}
use Rattle.region_forms.specs.WellFormed.{every}

abbrev mutual
  -- the exits of a region that so many regions hold
  pub exits_inside : ℕ → Region → Bool
  exits_inside d (seq rs) = all_exits_inside (d + 1) rs
  exits_inside d (op o) = true
  exits_inside d (branch v a b) = exits_inside (d + 1) a && exits_inside (d + 1) b
  exits_inside d (loop v a) = exits_inside (d + 1) a
  exits_inside d (protect a c) = exits_inside (d + 1) a
  exits_inside d (catch a cs) = exits_inside (d + 1) a && clause_exits_inside (d + 1) cs
  exits_inside d (limit a types) = exits_inside (d + 1) a
  exits_inside d (barrier a) = exits_inside (d + 1) a
  exits_inside d (leave_region n) = nat_le 1 n && nat_le n d

  pub all_exits_inside : ℕ → RegionList → Bool
  all_exits_inside d no_regions = true
  all_exits_inside d (region_then a rs) = exits_inside d a && all_exits_inside d rs

  pub clause_exits_inside : ℕ → Clauses → Bool
  clause_exits_inside d no_clauses = true
  clause_exits_inside d (clause_then t s a cs) = exits_inside d a && clause_exits_inside d cs

-- those of a program's functions
abbrev pub program_exits_inside : Regions → Bool
program_exits_inside r = every (λ f. exits_inside 0 f.body) r.functions

abbrev mutual
  -- `break` and `continue` stand in a loop, where one is round the statement or not
  pub jumps_stand : Bool → Statement → Bool
  jumps_stand in_loop (block ss) = all_jumps_stand in_loop ss
  jumps_stand in_loop (if_else e s t) = jumps_stand in_loop s && else_jumps_stand in_loop t
  jumps_stand in_loop (while e s) = jumps_stand true s
  jumps_stand in_loop (break place) = in_loop
  jumps_stand in_loop (continue place) = in_loop
  jumps_stand in_loop (try ss hs) = all_jumps_stand in_loop ss && handler_jumps_stand in_loop hs
  jumps_stand in_loop _ = true

  pub else_jumps_stand : Bool → Else → Bool
  else_jumps_stand in_loop no_else = true
  else_jumps_stand in_loop (else_do s) = jumps_stand in_loop s

  pub all_jumps_stand : Bool → Statements → Bool
  all_jumps_stand in_loop no_statements = true
  all_jumps_stand in_loop (statement_then s ss) = jumps_stand in_loop s && all_jumps_stand in_loop ss

  pub handler_jumps_stand : Bool → Handlers → Bool
  handler_jumps_stand in_loop no_handlers = true
  handler_jumps_stand in_loop (handler_then t n ss place hs) = all_jumps_stand in_loop ss && handler_jumps_stand in_loop hs

-- those of a function
abbrev pub function_jumps_stand : Function → Bool
function_jumps_stand f = all_jumps_stand false (statements_in f.body)

-- those of a class's functions
abbrev pub class_jumps_stand : Class → Bool
class_jumps_stand c = every function_jumps_stand c.functions

-- those of a program
abbrev pub program_jumps_stand : Checked → Bool
program_jumps_stand p = every function_jumps_stand p.functions && every class_jumps_stand p.classes
