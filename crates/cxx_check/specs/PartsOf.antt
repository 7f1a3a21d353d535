-- What one declaration declares.
use Rattle.std.specs.Prelude.{ℤ, List}
use Rattle.std.specs.Prelude.{[], ◌∷◌, if◌then◌else◌}
use Rattle.cxx_ast.specs.Plain.{Class, Function, Declaration, class_declaration, global_declaration, function_declaration}
use Rattle.cxx_ast.specs.TypeNames.{has_body}

abbrev pub class_in : Declaration → List Class
class_in (class_declaration c) = c ∷ []
class_in _ = []

abbrev pub global_in : Declaration → List ℤ
global_in (global_declaration n value) = value ∷ []
global_in _ = []

abbrev pub function_in : Declaration → List Function
function_in (function_declaration f) = if has_body f.body then f ∷ [] else []
function_in _ = []
