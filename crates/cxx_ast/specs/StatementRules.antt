-- What is broken in statements and handlers (ISO/IEC 14882:2003, 6, 15.3), a variable that stands twice in one scope among it (3.3).
use Rattle.std.specs.Prelude.{ℕ, ◌+◌, Bool, true, false, not, ◌||◌, List, [], ◌∷◌, ◌++◌, Option, Some, None}
use Rattle.cxx_ast.specs.declared.name.Name.{Name}
use Rattle.cxx_ast.specs.declared.types.Ty.{Ty}
use Rattle.cxx_ast.specs.Plain.{Expression, Statement, block, empty, if_else, while, return, break, continue, throw, try, assign, evaluate, local_int, local_ref, local_object, Else, no_else, else_do, Statements, no_statements, statement_then, Handlers, no_handlers, handler_then}
use Rattle.cxx_ast.specs.Environment.{Kind, int_kind, class_kind, no_kind, Environment, Variable, Scope}
use Rattle.cxx_ast.specs.Rule.{redeclared, type_mismatch, handler_order, const_write, loop_jump, return_form}
use Rattle.cxx_ast.specs.Finding.{Finding, breaks, breaks_if}
use Rattle.cxx_ast.specs.TypeNames.{class_of_name, class_found, type_kind, type_found, is_const}
use Rattle.cxx_ast.specs.Lvalue.{Reached, reached, first_place}
use Rattle.cxx_ast.specs.Reference.{Judgement, binding_found, int_found, all_found}
use Rattle.cxx_ast.specs.Construct.{construction_found}
use Rattle.cxx_ast.specs.ExpressionRules.{judged, all_judged, thrown_found}
use Rattle.cxx_ast.specs.Locals.{has_variable, inner, in_a_loop, after, handler_scope, caught_count, locals_in, locals_of, scope_behind}

-- a name stands twice in the innermost scope
abbrev pub twice_in : Name → List (List Variable) → List Finding
twice_in n [] = []
twice_in n (scope ∷ scopes) = breaks_if (has_variable n.text scope) redeclared n.place

-- the name of a reference, where it has one
abbrev pub name_twice : Option Name → Scope → List Finding
name_twice None sc = []
name_twice (Some n) sc = twice_in n sc.locals

-- an int, where there is an expression
abbrev pub start_found : Environment → Scope → Option Expression → List Finding
start_found env sc None = []
start_found env sc (Some e) = int_found (judged env sc e)

-- a return, by whether the function gives a value
abbrev pub return_found : Environment → Scope → Bool → ℕ → Option Expression → List Finding
return_found env sc true place (Some e) = int_found (judged env sc e)
return_found env sc true place None = breaks return_form place ∷ []
return_found env sc false place (Some e) = breaks return_form place ∷ (judged env sc e).found
return_found env sc false place None = []

-- what a throw throws
abbrev pub throw_found : Environment → Scope → Option Expression → List Finding
throw_found env sc None = []
throw_found env sc (Some e) = thrown_found env sc e

-- what is assigned to: an int that is not reached through const (5.17; no assignment of classes: profile)
abbrev pub assigned_found : Reached → ℕ → List Finding
assigned_found r place = r.found ++ elim r.kind [
  | no_kind ↦ []
  | int_kind ↦ breaks_if r.is_const const_write place
  | _ ↦ breaks type_mismatch place ∷ breaks_if r.is_const const_write place
]

-- a local object
abbrev pub object_found : Environment → Kind → ℕ → ℕ → List Judgement → List Finding
object_found env (class_kind k) called needs given = construction_found env k given called needs
object_found env _ called needs given = all_found given

-- the type of what a handler catches
abbrev pub caught_found : Environment → Scope → Option Ty → List Finding
caught_found env sc None = []
caught_found env sc (Some ty) = type_found env sc ty

-- a handler for all
abbrev pub catches_all : Option Ty → Bool
catches_all None = true
catches_all (Some ty) = false

-- a statement, what stands behind `else`, the statements of a block, and handlers of which one before catches all or none does
abbrev mutual
  pub statement_found : Environment → Scope → Statement → List Finding
  statement_found env sc (block ss) = statements_found env (inner sc) ss
  statement_found env sc empty = []
  statement_found env sc (if_else e s other) =
      int_found (judged env sc e) ++ statement_found env sc s ++ else_found env (after (locals_in s) sc) other
  statement_found env sc (while e s) = int_found (judged env sc e) ++ statement_found env (in_a_loop sc) s
  statement_found env sc (return place e) = return_found env sc sc.gives_value place e
  statement_found env sc (break place) = breaks_if (not sc.in_loop) loop_jump place
  statement_found env sc (continue place) = breaks_if (not sc.in_loop) loop_jump place
  statement_found env sc (throw place e) = throw_found env sc e
  statement_found env sc (try ss hs) = statements_found env (inner sc) ss ++ handlers_found env (after (locals_of ss) sc) false hs
  statement_found env sc (assign names e) = assigned_found (reached env sc names) (first_place names) ++ int_found (judged env sc e)
  statement_found env sc (evaluate e) = (judged env sc e).found
  statement_found env sc (local_int n e) = start_found env sc e ++ twice_in n sc.locals
  statement_found env sc (local_ref p names) =
      let r = reached env sc names in
      type_found env sc p.ty ++ r.found ++ binding_found env (type_kind env sc p.ty) (is_const p.ty) r.kind r.is_const (first_place names)
      ++ name_twice p.name sc
  statement_found env sc (local_object c n es) =
      class_found env sc c ++ object_found env (class_of_name env sc c) c.place n.place (all_judged env sc es) ++ twice_in n sc.locals

  pub else_found : Environment → Scope → Else → List Finding
  else_found env sc no_else = []
  else_found env sc (else_do s) = statement_found env sc s

  pub statements_found : Environment → Scope → Statements → List Finding
  statements_found env sc no_statements = []
  statements_found env sc (statement_then s ss) = statement_found env sc s ++ statements_found env (scope_behind env sc s) ss

  pub handlers_found : Environment → Scope → Bool → Handlers → List Finding
  handlers_found env sc behind_all no_handlers = []
  handlers_found env sc behind_all (handler_then ty n ss place hs) =
      breaks_if behind_all handler_order place ++ caught_found env sc ty ++ statements_found env (handler_scope env ty n sc) ss
      ++ handlers_found env (after (caught_count ty + locals_of ss) sc) (behind_all || catches_all ty) hs
