-- The checked program of a program: the same tree, with each name bound, and its classes and functions with the specifications that count.
use Rattle.std.specs.Prelude.{ℕ, ◌+◌, ◌≡◌, ℤ, List, [], ◌∷◌, map, length, codes, Option, Some, None, if◌then◌else◌}
use Rattle.cxx_ast.specs.declared.name.Bound.TheVariants.{Global, Field, Class as ClassBound, Func, Method}
use Rattle.cxx_ast.specs.declared.name.Name.{Name}
use Rattle.cxx_ast.specs.declared.token.Token.{Token}
use Rattle.cxx_ast.specs.declared.types.Param.{Param}
use Rattle.cxx_ast.specs.Plain.{Function, Class, Declaration, class_declaration, global_declaration, function_declaration, Program, Checked}
use Rattle.cxx_ast.specs.Lex.{Lex}
use Rattle.cxx_ast.specs.Tree.{Tree}
use Rattle.cxx_ast.specs.declared.standard.Std.{Std}
use Rattle.cxx_ast.specs.Broken.{Valid}
use Rattle.cxx_ast.specs.Environment.{Environment}
use Rattle.cxx_ast.specs.TypeNames.{has_body}
use Rattle.cxx_ast.specs.Locals.{outermost}
use Rattle.cxx_ast.specs.Resolve.{bind, bind_some, resolve_class, resolve_type, function_number, resolve_function}
use Rattle.cxx_ast.specs.Settled.{settle_function, settle_classes}
use Rattle.cxx_ast.specs.Declare.{next_class, with_class_name, head_environment, head_scope, name_of, declare_behind, at_the_start, body_environment, function_scope}

-- the base
abbrev pub resolve_base : Environment → Class → Option Name → Option Name
resolve_base env c None = None
resolve_base env c (Some b) = Some (resolve_class (with_class_name env c) outermost b)

-- the data members, numbered from i on
abbrev pub resolve_fields : Environment → Class → ℕ → List Param → List Param
resolve_fields env c i [] = []
resolve_fields env c i (p ∷ ps) =
    record { ty = resolve_type (head_environment env c) (head_scope env (name_of p)) p.ty; name = bind_some p.name (Field (next_class env) i) } ∷ resolve_fields env c (i + 1) ps

-- the functions of a class, numbered from i on
abbrev pub resolve_methods : Environment → Class → ℕ → List Function → List Function
resolve_methods env c i [] = []
resolve_methods env c i (f ∷ fs) =
    resolve_function (head_environment env c) (head_scope env f.name) (declare_behind env (class_declaration c))
    (function_scope (declare_behind env (class_declaration c)) (Some (next_class env)) f.result) (Method (next_class env) i) f
    ∷ resolve_methods env c (i + 1) fs

-- a class
abbrev pub resolve_class_tree : Environment → Class → Class
resolve_class_tree env c = record {
  name = bind c.name (ClassBound (next_class env));
  base = resolve_base env c c.base;
  members = resolve_fields env c 0 c.members;
  functions = resolve_methods env c 0 c.functions;
}

-- a declaration
abbrev pub resolve_declaration : Environment → Declaration → Declaration
resolve_declaration env (class_declaration c) = class_declaration (resolve_class_tree env c)
resolve_declaration env (global_declaration n value) = global_declaration (bind n (Global env.globals)) value
resolve_declaration env (function_declaration f) =
    function_declaration (resolve_function env outermost (body_environment env f) (function_scope env None f.result) (Func (function_number env f.name.text)) f)

-- declarations in order
abbrev pub resolve_declarations : Environment → List Declaration → List Declaration
resolve_declarations env [] = []
resolve_declarations env (d ∷ ds) = resolve_declaration env d ∷ resolve_declarations (declare_behind env d) ds

-- the classes of a program
abbrev pub classes_of : List Declaration → List Class
classes_of [] = []
classes_of (class_declaration c ∷ ds) = c ∷ classes_of ds
classes_of (d ∷ ds) = classes_of ds

-- the first values of its globals
abbrev pub globals_of : List Declaration → List ℤ
globals_of [] = []
globals_of (global_declaration n value ∷ ds) = value ∷ globals_of ds
globals_of (d ∷ ds) = globals_of ds

-- the functions that it defines
abbrev pub functions_of : List Declaration → List Function
functions_of [] = []
functions_of (function_declaration f ∷ ds) = if has_body f.body then f ∷ functions_of ds else functions_of ds
functions_of (d ∷ ds) = functions_of ds

-- the class `std::bad_exception`, which has no parts
abbrev pub bad_exception : Class
bad_exception = record { name = record { text = codes "std::bad_exception"; place = 0; bound = ClassBound 0 }; base = None; members = []; functions = [] }

-- the checked program by a standard
unfoldable pub checked : Std → Program → Checked
checked std p =
    let ds = resolve_declarations (at_the_start p.declarations) p.declarations in
    record {
      program = record { declarations = ds; tokens = p.tokens; length = p.length };
      classes = settle_classes std [] (bad_exception ∷ classes_of ds);
      globals = globals_of ds;
      functions = map (settle_function None) (functions_of ds);
      main = function_number (at_the_start p.declarations) (codes "main");
    }

-- a checked program is that of a program
abbrev pub Resolves : Std → Program → Checked → Type 0
Resolves std p c = c ≡ checked std p

-- a checked program: that of a valid program by a standard, which is the tree of a source's tokens
pub record IsChecked (c : Checked) : Type 0 where
  pub std : Std
  pub source : List ℕ
  pub tokens : List Token
  pub program : Program
  pub lexed : Lex source tokens
  pub tree : Tree tokens (length source) program
  pub valid : Valid std program
  pub resolved : Resolves std program c
