-- The types that handlers catch, and those that specifications list, are among the first so many of a program.
use Rattle.std.specs.Prelude.{ℕ, ◌+◌, ◌≤◌, List, [], ◌∷◌, Option, Some, None}
use Rattle.cxx_ast.specs.declared.types.Ty.{Ty}
use Rattle.cxx_ast.specs.Plain.{Statement, block, if_else, while, try, Else, no_else, else_do, Statements, no_statements, statement_then, Handlers, no_handlers, handler_then, Function, Specification, listed, noexcept}
use Rattle.meaning_forms.specs.Class.{object_type}
use Rattle.region_forms.specs.Numbering.{type_number}

-- a type has a row
abbrev pub HasRow : ℕ → Ty → Type 0
HasRow rows t = type_number (object_type t) + 1 ≤ rows

abbrev mutual
  pub NamesRows : ℕ → Statement → Type 0
  NamesRows rows (block ss) = AllNameRows rows ss
  NamesRows rows (if_else e s t) = NamesRows rows s × ElseNamesRows rows t
  NamesRows rows (while e s) = NamesRows rows s
  NamesRows rows (try ss hs) = AllNameRows rows ss × HandlersNameRows rows hs
  NamesRows rows s = Unit {0}

  pub ElseNamesRows : ℕ → Else → Type 0
  ElseNamesRows rows no_else = Unit {0}
  ElseNamesRows rows (else_do s) = NamesRows rows s

  pub AllNameRows : ℕ → Statements → Type 0
  AllNameRows rows no_statements = Unit {0}
  AllNameRows rows (statement_then s ss) = NamesRows rows s × AllNameRows rows ss

  pub HandlersNameRows : ℕ → Handlers → Type 0
  HandlersNameRows rows no_handlers = Unit {0}
  HandlersNameRows rows (handler_then None x ss place hs) = AllNameRows rows ss × HandlersNameRows rows hs
  HandlersNameRows rows (handler_then (Some t) x ss place hs) = HasRow rows t × AllNameRows rows ss × HandlersNameRows rows hs

-- a body
abbrev pub BodyNamesRows : ℕ → Option Statements → Type 0
BodyNamesRows rows None = Unit {0}
BodyNamesRows rows (Some ss) = AllNameRows rows ss

-- types in a list
abbrev pub HaveRows : ℕ → List Ty → Type 0
HaveRows rows [] = Unit {0}
HaveRows rows (t ∷ types) = HasRow rows t × HaveRows rows types

-- a specification
abbrev pub SpecificationNamesRows : ℕ → Option Specification → Type 0
SpecificationNamesRows rows None = Unit {0}
SpecificationNamesRows rows (Some (listed types)) = HaveRows rows types
SpecificationNamesRows rows (Some (noexcept place b)) = Unit {0}

-- a function
pub record FunctionNamesRows (rows : ℕ) (f : Function) : Type 0 where
  pub specification : SpecificationNamesRows rows f.specification
  pub body : BodyNamesRows rows f.body
