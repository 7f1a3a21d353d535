-- Parts of a class's tree, by what is known where each stands.
use Rattle.std.specs.Prelude.{ℕ, ◌+◌, List, [], ◌∷◌, Option, Some, None}
use Rattle.cxx_ast.specs.declared.name.Bound.TheVariants.{Field, Method}
use Rattle.cxx_ast.specs.declared.name.Name.{Name}
use Rattle.cxx_ast.specs.declared.types.Param.{Param}
use Rattle.cxx_ast.specs.Plain.{Function}
use Rattle.cxx_ast.specs.Environment.{Environment}
use Rattle.cxx_ast.specs.Locals.{outermost}
use Rattle.cxx_ast.specs.Declare.{name_of, function_scope}
use Rattle.cxx_ast.specs.Resolve.{bind_some, resolve_class, resolve_type, resolve_function}
use Rattle.cxx_check.specs.ClassParts.{member_scope}

-- the base, where the class is known by its name
abbrev pub base_tree : Environment → Option Name → Option Name
base_tree known None = None
base_tree known (Some b) = Some (resolve_class known outermost b)

-- the data members of class k, numbered from i on
abbrev pub fields_tree : Environment → ℕ → ℕ → List Param → List Param
fields_tree head k i [] = []
fields_tree head k i (p ∷ ps) =
    record { ty = resolve_type head (member_scope k (name_of p)) p.ty; name = bind_some p.name (Field k i) } ∷ fields_tree head k (i + 1) ps

-- the functions of class k, numbered from i on
abbrev pub methods_tree : Environment → Environment → ℕ → ℕ → List Function → List Function
methods_tree head known k i [] = []
methods_tree head known k i (f ∷ fs) =
    resolve_function head (member_scope k f.name) known (function_scope known (Some k) f.result) (Method k i) f ∷ methods_tree head known k (i + 1) fs
