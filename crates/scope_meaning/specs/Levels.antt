-- How deep an evaluation goes in one call: by the blocks, the operators, the variables and the parts of an object that stand in one another.
use Rattle.std.specs.Prelude.{ℕ, ◌+◌, ◌-◌, ◌&&◌, Bool, List, length, max, nat_le, Option, Some, None, if◌then◌else◌}
use Rattle.std.specs.List.{list_all}
use Rattle.cxx_ast.specs.declared.name.Name.{Name}
use Rattle.cxx_ast.specs.Plain.{Expression, Statement, block, if_else, while, return, throw, try, assign, evaluate, local_int, local_object, Else, no_else, else_do, Statements, no_statements, statement_then, Handlers, no_handlers, handler_then, Initialiser, Function, Class, Checked}
use Rattle.cxx_ast.specs.Sizes.{levels, most_levels}
use Rattle.scope_meaning.specs.Steps.{declares}

-- what a value takes: an expression is a level, and each operand and each argument stands one deeper
abbrev pub value_levels : Option Expression → ℕ
value_levels None = 0
value_levels (Some e) = levels e

-- what initialises a variable that a statement declares
abbrev pub declared_levels : Statement → ℕ
declared_levels (local_int n e) = value_levels e
declared_levels (local_object k n es) = most_levels es
declared_levels _ = 0

-- A statement is a level, and what stands in it one deeper; what follows a declaration in its block is its scope, and stands in it.
abbrev mutual
  pub statement_levels : Statement → ℕ
  statement_levels (block ss) = statements_levels ss + 1
  statement_levels (if_else e s other) = max (levels e) (max (statement_levels s) (else_levels other)) + 1
  statement_levels (while e s) = max (levels e) (statement_levels s) + 1
  statement_levels (return place e) = value_levels e + 1
  statement_levels (throw place e) = value_levels e + 1
  statement_levels (try ss hs) = max (statements_levels ss) (handlers_levels hs) + 1
  statement_levels (assign names e) = levels e + 1
  statement_levels (evaluate e) = levels e + 1
  statement_levels (local_int n e) = value_levels e + 1
  statement_levels (local_object k n es) = most_levels es + 1
  statement_levels _ = 1

  pub else_levels : Else → ℕ
  else_levels no_else = 0
  else_levels (else_do s) = statement_levels s

  pub statements_levels : Statements → ℕ
  statements_levels no_statements = 0
  statements_levels (statement_then s ss) = if declares s then max (declared_levels s) (statements_levels ss) + 1 else max (statement_levels s) (statements_levels ss)

  pub handlers_levels : Handlers → ℕ
  handlers_levels no_handlers = 0
  handlers_levels (handler_then ty n ss place hs) = max (statements_levels ss) (handlers_levels hs)

-- what is tried, and its handlers
abbrev pub try_levels : Statements → Handlers → ℕ
try_levels ss hs = max (statements_levels ss) (handlers_levels hs)

-- a declaration with what follows it in its block
abbrev pub scope_levels : Statement → Statements → ℕ
scope_levels s ss = max (declared_levels s) (statements_levels ss) + 1

-- ---- functions and programs

abbrev pub initialisers_fit : ℕ → List Initialiser → Bool
initialisers_fit room is = list_all (λ i. nat_le (most_levels i.arguments) room) is

abbrev pub body_levels : Option Statements → ℕ
body_levels None = 0
body_levels (Some ss) = statements_levels ss

-- the evaluation of a function goes so deep at most
abbrev pub function_fits : ℕ → Function → Bool
function_fits room f = initialisers_fit room f.initialisers && nat_le (body_levels f.body) room

abbrev pub base_count : Option Name → ℕ
base_count None = 0
base_count (Some n) = 1

-- The parts of an object, its base and its members, stand in one another, and what a constructor or a destructor does in the last.
abbrev pub part_levels : Class → ℕ
part_levels c = base_count c.base + length c.members + 1

-- how deep an evaluation goes at most
abbrev pub level_limit : ℕ
level_limit = 600

abbrev pub class_fits : Class → Bool
class_fits c = nat_le (part_levels c) level_limit && list_all (function_fits (level_limit - part_levels c)) c.functions

-- no call of a program's functions goes deeper
abbrev pub is_shallow : Checked → Bool
is_shallow p = list_all (function_fits level_limit) p.functions && list_all class_fits p.classes
