-- The types as the definitions have them.
use Rattle.std.specs.Prelude.{List, Vec, map, Option, Some, None}
use Rattle.std.specs.declared.alloc.Global.{Global}
use Rattle.cxx_ast.specs.Environment as environment
use Rattle.cxx_rules.specs.declared.kind.Kind.{Kind}
use Rattle.cxx_rules.specs.declared.kind.Kind.TheVariants.{Int, Truth, Void, Class, Nothing}

-- the type that a value in memory stands for
abbrev pub kind_of : Kind → environment.Kind
kind_of Int = environment.int_kind
kind_of Truth = environment.truth_kind
kind_of Void = environment.void_kind
kind_of (Class k) = environment.class_kind k
kind_of Nothing = environment.no_kind

-- the types that a specification allows
abbrev pub kinds_of : Option (Vec Kind Global) → Option (List environment.Kind)
kinds_of None = None
kinds_of (Some kinds) = Some (map kind_of kinds.items)

-- a type, where there is one
abbrev pub kind_in : Option Kind → Option environment.Kind
kind_in None = None
kind_in (Some kind) = Some (kind_of kind)
