-- The variables that statements declare (ISO/IEC 14882:2003, 3.3.1, 3.3.2). They are numbered in order; each is in reach from the end of its declaration to the end of its block.
use Rattle.std.specs.Prelude.{ℕ, ◌+◌, Bool, true, false, List, [], ◌∷◌, ◌++◌, bytes_eq, Option, Some, None, find, if◌then◌else◌}
use Rattle.cxx_ast.specs.declared.name.Name.{Name}
use Rattle.cxx_ast.specs.declared.types.Ty.{Ty}
use Rattle.cxx_ast.specs.declared.types.Param.{Param}
use Rattle.cxx_ast.specs.Plain.{Statement, block, if_else, while, try, local_int, local_ref, local_object, Else, no_else, else_do, Statements, no_statements, statement_then, Handlers, no_handlers, handler_then}
use Rattle.cxx_ast.specs.Environment.{Kind, int_kind, Environment, Variable, Scope}
use Rattle.cxx_ast.specs.TypeNames.{class_of_name, type_kind, is_const}

-- the scope in which a class's heads, globals and functions are declared: without variables
abbrev pub outermost : Scope
outermost = record { locals = []; next = 0; own = None; limit = None; gives_value = false; in_loop = false }

-- a scope of variables has a name
abbrev pub has_variable : List ℕ → List Variable → Bool
has_variable text scope = elim (find (λ v. bytes_eq v.text text) scope) [ None ↦ false | Some v ↦ true ]

-- a variable in the innermost scope; the first of a name stands
abbrev pub with_variable : Variable → List (List Variable) → List (List Variable)
with_variable v [] = []
with_variable v (scope ∷ scopes) = if has_variable v.text scope then scope ∷ scopes else (scope ++ (v ∷ [])) ∷ scopes

-- a variable is declared
abbrev pub declare : Name → Kind → Bool → Scope → Scope
declare n kind const sc =
    record sc { locals = with_variable (record { text = n.text; kind = kind; is_const = const; number = sc.next }) sc.locals; next = sc.next + 1 }

-- a parameter is declared, with or without a name
abbrev pub declare_param : Environment → Param → Scope → Scope
declare_param env p sc = elim p.name [ None ↦ record sc { next = sc.next + 1 } | Some n ↦ declare n (type_kind env sc p.ty) (is_const p.ty) sc ]

-- parameters in order
abbrev pub declare_params : Environment → List Param → Scope → Scope
declare_params env [] sc = sc
declare_params env (p ∷ ps) sc = declare_params env ps (declare_param env p sc)

-- a scope inside another
abbrev pub inner : Scope → Scope
inner sc = record sc { locals = [] ∷ sc.locals }

-- a loop is round it
abbrev pub in_a_loop : Scope → Scope
in_a_loop sc = record sc { in_loop = true }

-- so many variables were declared in scopes that are left
abbrev pub after : ℕ → Scope → Scope
after count sc = record sc { next = sc.next + count }

-- the scope of a handler's block, with its parameter
abbrev pub handler_scope : Environment → Option Ty → Option Name → Scope → Scope
handler_scope env None n sc = inner sc
handler_scope env (Some ty) n sc = declare_param env (record { ty = ty; name = n }) (inner sc)

-- how many parameters a handler has
abbrev pub caught_count : Option Ty → ℕ
caught_count None = 0
caught_count (Some ty) = 1

-- how many variables a statement declares, with those of its inner scopes
abbrev mutual
  pub locals_in : Statement → ℕ
  locals_in (block ss) = locals_of ss
  locals_in (if_else e s other) = locals_in s + locals_behind other
  locals_in (while e s) = locals_in s
  locals_in (try ss hs) = locals_of ss + locals_caught hs
  locals_in (local_int n e) = 1
  locals_in (local_ref p names) = 1
  locals_in (local_object c n es) = 1
  locals_in _ = 0

  pub locals_behind : Else → ℕ
  locals_behind no_else = 0
  locals_behind (else_do s) = locals_in s

  pub locals_of : Statements → ℕ
  locals_of no_statements = 0
  locals_of (statement_then s ss) = locals_in s + locals_of ss

  pub locals_caught : Handlers → ℕ
  locals_caught no_handlers = 0
  locals_caught (handler_then ty n ss place hs) = caught_count ty + locals_of ss + locals_caught hs

-- the scope behind a statement of a block
abbrev pub scope_behind : Environment → Scope → Statement → Scope
scope_behind env sc (local_int n e) = declare n int_kind false sc
scope_behind env sc (local_ref p names) = declare_param env p sc
scope_behind env sc (local_object c n es) = declare n (class_of_name env sc c) false sc
scope_behind env sc s = after (locals_in s) sc
