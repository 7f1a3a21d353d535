-- The functions and classes that the evaluator finds, where one may be missing.
use Rattle.std.specs.Prelude.{Option, unwrap_or}
use Rattle.cxx_ast.specs.View.{option_of, function_of, class_of}
use Rattle.cxx_ast.specs.Plain.{Function, Class}
use Rattle.cxx_ast.specs.declared.declaration.Func.{Func}
use Rattle.cxx_ast.specs.declared.declaration.ClassDecl.{ClassDecl}
use Rattle.meaning_forms.specs.Class.{no_function, no_class}

-- a function that may be missing
abbrev pub function_or_none : Option Func → Function
function_or_none found = unwrap_or (option_of function_of found) no_function

-- a class that may be missing
abbrev pub class_or_none : Option ClassDecl → Class
class_or_none found = unwrap_or (option_of class_of found) no_class
