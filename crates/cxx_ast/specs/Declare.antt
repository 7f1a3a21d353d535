-- What is known behind a declaration: a name is in reach from its declaration on, and in the bodies of a class's functions the whole class is
-- (ISO/IEC 14882:2003, 3.3.1, 3.3.6).
use Rattle.std.specs.Prelude.{ℕ, ◌+◌, Bool, true, false, ◌&&◌, ◌==◌, List, [], ◌∷◌, ◌++◌, map, length, codes, Option, Some, None, find, is_some, if◌then◌else◌}
use Rattle.cxx_ast.specs.declared.name.Bound.TheVariants.{Free}
use Rattle.cxx_ast.specs.declared.name.Name.{Name}
use Rattle.cxx_ast.specs.declared.types.Ty.{Ty}
use Rattle.cxx_ast.specs.declared.types.Param.{Param}
use Rattle.cxx_ast.specs.Plain.{Function, Class, Declaration, class_declaration, global_declaration, function_declaration}
use Rattle.cxx_ast.specs.Environment.{Kind, int_kind, class_kind, no_kind, Signature, Field, ClassEntry, Thing, global_thing, class_thing, function_thing, Environment, Scope}
use Rattle.cxx_ast.specs.Lookup.{entry_of}
use Rattle.cxx_ast.specs.TypeNames.{class_of_name, type_kind, has_body, signature}
use Rattle.cxx_ast.specs.Construct.{declares_constructor, is_constructor_with, has_default}
use Rattle.cxx_ast.specs.Locals.{outermost}
use Rattle.cxx_ast.specs.Sizes.{size_of, chain_of}

-- a name of the one scope; the first of a name stands
abbrev pub with_name : Environment → List ℕ → Thing → Environment
with_name env text thing = elim (entry_of env text) [ Some e ↦ env | None ↦ record env { names = env.names ++ (record { text = text; thing = thing } ∷ []) } ]

-- the number of the class that is declared next
abbrev pub next_class : Environment → ℕ
next_class env = length env.classes

-- what is known inside a class's head: its name
abbrev pub with_class_name : Environment → Class → Environment
with_class_name env c = with_name env c.name.text (class_thing (next_class env))

-- a base, unless it is the class itself
abbrev pub other_class : ℕ → Kind → Option ℕ
other_class k (class_kind j) = if j == k then None else Some j
other_class k _ = None

-- the number of a class's base
abbrev pub base_number : Environment → Class → Option ℕ
base_number env c = elim c.base [ None ↦ None | Some b ↦ other_class (next_class env) (class_of_name (with_class_name env c) outermost b) ]

-- the name of a parameter or a data member; each data member has one
abbrev pub name_of : Param → Name
name_of p = elim p.name [ None ↦ record { text = []; place = 0; bound = Free } | Some n ↦ n ]

-- a member by its name alone
abbrev pub bare_field : Param → Field
bare_field p = record { name = name_of p; kind = no_kind }

-- a function of a class by its name alone
abbrev pub bare_signature : Function → Signature
bare_signature f = record { name = f.name; form = f.kind; result = no_kind; parameters = []; allowed = None; is_defined = false }

-- a class is known
abbrev pub with_class : Environment → ClassEntry → Environment
with_class env entry = record env { classes = env.classes ++ (entry ∷ []) }

-- what is known where the types of a class's members are sought: the names of the members too
abbrev pub head_environment : Environment → Class → Environment
head_environment env c = with_class (with_class_name env c) (record {
  name = c.name.text;
  base = base_number env c;
  fields = map bare_field c.members;
  functions = map bare_signature c.functions;
  size = 4;
  chain = 1;
  has_default = true;
})

-- where the types of a class's member stand that is declared by a name: members before it are in reach
abbrev pub head_scope : Environment → Name → Scope
head_scope env n = record outermost { own = Some (next_class env); limit = Some n.place }

-- the type of a data member, unless it is that of its class
abbrev pub other_kind : ℕ → Kind → Kind
other_kind k (class_kind j) = if j == k then no_kind else class_kind j
other_kind k kind = kind

-- a data member
abbrev pub field_of : Environment → Class → Param → Field
field_of env c p = record { name = name_of p; kind = other_kind (next_class env) (type_kind (head_environment env c) (head_scope env (name_of p)) p.ty) }

-- a function of a class
abbrev pub method_of : Environment → Class → Function → Signature
method_of env c f = signature (head_environment env c) (head_scope env f.name) f

-- each class among data members needs no arguments
abbrev pub have_default : Environment → List Field → Bool
have_default env [] = true
have_default env (f ∷ fs) = elim f.kind [ class_kind k ↦ has_default env k | _ ↦ true ] && have_default env fs

-- a base needs no arguments
abbrev pub base_has_default : Environment → Option ℕ → Bool
base_has_default env None = true
base_has_default env (Some b) = has_default env b

-- an object of a class needs no arguments: it declares such a constructor, or none at all and its parts need none
abbrev pub needs_no_arguments : Environment → ℕ → List ℕ → Option ℕ → List Field → List Signature → Bool
needs_no_arguments env k text base fields functions =
    if declares_constructor text functions then is_some (find (is_constructor_with k text 0) functions)
    else base_has_default env base && have_default env fields

-- a class
abbrev pub class_entry : Environment → Class → ClassEntry
class_entry env c = record {
  name = c.name.text;
  base = base_number env c;
  fields = map (field_of env c) c.members;
  functions = map (method_of env c) c.functions;
  size = size_of env (base_number env c) (map (field_of env c) c.members);
  chain = chain_of env (base_number env c);
  has_default = needs_no_arguments env (next_class env) c.name.text (base_number env c) (map (field_of env c) c.members) (map (method_of env c) c.functions);
}

-- a function of the one scope, unless the name stands for something else
abbrev pub with_signature : Environment → Signature → Environment
with_signature env s = elim (entry_of env s.name.text) [
  | None ↦ record (with_name env s.name.text function_thing) { signatures = env.signatures ++ (s ∷ []) }
  | Some e ↦ elim e.thing [ function_thing ↦ record env { signatures = env.signatures ++ (s ∷ []) } | _ ↦ env ]
]

-- what is known behind a declaration
abbrev pub declare_behind : Environment → Declaration → Environment
declare_behind env (class_declaration c) = with_class (with_class_name env c) (class_entry env c)
declare_behind env (global_declaration n value) = let next = with_name env n.text (global_thing env.globals) in record next { globals = env.globals + 1 }
declare_behind env (function_declaration f) = with_signature env (signature env outermost f)

-- what is known behind declarations
abbrev pub declare_all : Environment → List Declaration → Environment
declare_all env [] = env
declare_all env (d ∷ ds) = declare_all (declare_behind env d) ds

-- the names of the functions that are defined
abbrev pub definitions : List Declaration → List (List ℕ)
definitions [] = []
definitions (function_declaration f ∷ ds) = if has_body f.body then f.name.text ∷ definitions ds else definitions ds
definitions (d ∷ ds) = definitions ds

-- before the first declaration there is `std::bad_exception`
abbrev pub at_the_start : List Declaration → Environment
at_the_start ds = record {
  classes = record { name = codes "std::bad_exception"; base = None; fields = []; functions = []; size = 4; chain = 1; has_default = true } ∷ [];
  names = [];
  globals = 0;
  signatures = [];
  definitions = definitions ds;
}

-- where the body of a plain function stands: the function's name is in reach
abbrev pub body_environment : Environment → Function → Environment
body_environment env f = declare_behind env (function_declaration f)

-- a type is int
abbrev pub is_int_kind : Kind → Bool
is_int_kind int_kind = true
is_int_kind _ = false

-- the scope of a function's parameters, in a class or in none
abbrev pub function_scope : Environment → Option ℕ → Ty → Scope
function_scope env own result = record outermost { locals = [] ∷ []; own = own; gives_value = is_int_kind (type_kind env outermost result) }
