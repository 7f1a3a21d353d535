-- A class in memory whose members are being read.
use Rattle.std.specs.Prelude.{List, map}
use Rattle.cxx_ast.specs.declared.declaration.ClassDecl.{ClassDecl}
use Rattle.cxx_ast.specs.Plain.{Declaration}
use Rattle.cxx_ast.specs.View.{function_of}
use Rattle.cxx_parser.specs.Classes.{with_member}
use Rattle.cxx_parser.specs.Contexts.{OpenClass}
use Rattle.cxx_parser.specs.Functions.{with_function}
use Rattle.cxx_parser.specs.declared.class.Member.{Member}
use Rattle.cxx_parser.specs.declared.class.Member.TheVariants.{Data, Function as MemberFunction}

-- a class with the members so far, behind other declarations
abbrev pub open_class : ClassDecl → List Declaration → OpenClass
open_class c ds = record { name = c.name; base = c.base; members = c.members.items; functions = map function_of c.funcs.items; before = ds }

-- a class with a further member
abbrev pub joined : OpenClass → Member → OpenClass
joined c (Data p) = with_member c p
joined c (MemberFunction f) = with_function c (function_of f)
