-- The heads of functions with their names bound.
use Rattle.std.specs.Prelude.{ℕ, List, Option}
use Rattle.cxx_ast.specs.declared.declaration.Spec.{Spec}
use Rattle.cxx_ast.specs.declared.types.Param.{Param}
use Rattle.cxx_ast.specs.Plain.{Specification, Function}
use Rattle.cxx_ast.specs.Environment.{Environment, Scope}
use Rattle.cxx_ast.specs.Resolve.{resolve_params, resolve_specification}
use Rattle.cxx_ast.specs.View.{option_of, specification_of}
use Rattle.cxx_check.specs.ClassParts.{member_scope}
use Rattle.cxx_check.specs.declared.heading.Heading.{Heading}

-- the specification of a function, where it has one
abbrev pub some_specification : Option Spec → Option Specification
some_specification = option_of specification_of

-- parameters and a specification
pub record Parts : Type 0 where
  pub parameters : List Param
  pub specification : Option Specification

-- a head as it lies in memory
abbrev pub heading_of : Heading → Parts
heading_of h = record { parameters = h.params.items; specification = some_specification h.spec }

-- the head of a function, where its names are sought in a scope
abbrev pub heading_in : Environment → Scope → Function → Parts
heading_in env sc f = record { parameters = resolve_params env sc f.parameters; specification = resolve_specification env sc f.specification }

-- the head of a function of class k
abbrev pub method_heading : Environment → ℕ → Function → Parts
method_heading env k f = heading_in env (member_scope k f.name) f
