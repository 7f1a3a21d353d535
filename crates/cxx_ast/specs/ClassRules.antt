-- What is broken in classes: their bases (ISO/IEC 14882:2003, 10), their members (9.2), the names of their constructors and destructors (12.1, 12.4),
-- and their sizes (profile).
use Rattle.std.specs.Prelude.{ℕ, Bool, true, false, not, ◌&&◌, ◌||◌, ◌==◌, nat_lt, List, [], ◌∷◌, ◌++◌, map, flat_map, length, bytes_eq, Option, Some, None, if◌then◌else◌}
use Rattle.cxx_ast.specs.declared.name.Name.{Name}
use Rattle.cxx_ast.specs.declared.types.Ty.TheVariants.{Object}
use Rattle.cxx_ast.specs.declared.types.Param.{Param}
use Rattle.cxx_ast.specs.declared.declaration.FuncKind.{FuncKind}
use Rattle.cxx_ast.specs.declared.declaration.FuncKind.TheVariants.{Method, Constructor, Destructor}
use Rattle.cxx_ast.specs.Plain.{Function, Class, class_declaration}
use Rattle.cxx_ast.specs.Environment.{class_kind, same_kind, Signature, ClassEntry, Environment}
use Rattle.cxx_ast.specs.Lookup.{entry_of}
use Rattle.cxx_ast.specs.Rule.{unknown_name, redeclared, incomplete_class, class_too_large}
use Rattle.cxx_ast.specs.Limits.{most_class_bytes, most_chained}
use Rattle.cxx_ast.specs.Finding.{Finding, breaks_if}
use Rattle.cxx_ast.specs.TypeNames.{class_of_name, class_found, type_kind, type_found}
use Rattle.cxx_ast.specs.Construct.{are_copy_parameters}
use Rattle.cxx_ast.specs.Locals.{outermost}
use Rattle.cxx_ast.specs.Declare.{next_class, with_class_name, head_environment, head_scope, name_of, class_entry, declare_behind}
use Rattle.cxx_ast.specs.FunctionRules.{function_found}

-- a name of the one scope is taken
abbrev pub is_taken : Environment → List ℕ → Bool
is_taken env text = elim (entry_of env text) [ None ↦ false | Some e ↦ true ]

-- a base
abbrev pub base_found : Environment → Class → Option Name → List Finding
base_found env c None = []
base_found env c (Some b) =
    class_found (with_class_name env c) outermost b
    ++ breaks_if (same_kind (class_of_name (with_class_name env c) outermost b) (class_kind (next_class env))) incomplete_class b.place

-- the place of a type's name, which stands before the member's
abbrev pub type_place : Param → ℕ
type_place p = elim p.ty [ Object n ↦ n.place | _ ↦ 0 ]

-- the type of a data member
abbrev pub field_found : Environment → Class → Param → List Finding
field_found env c p =
    type_found (head_environment env c) (head_scope env (name_of p)) p.ty
    ++ breaks_if (same_kind (type_kind (head_environment env c) (head_scope env (name_of p)) p.ty) (class_kind (next_class env))) incomplete_class (type_place p)

-- a function is a method
abbrev pub method_names : List Function → List Name
method_names [] = []
method_names (f ∷ fs) = elim f.kind [ Method ↦ f.name ∷ method_names fs | _ ↦ method_names fs ]

-- a name of the list has the text and stands before a place
abbrev pub stands_before : List Name → Name → Bool
stands_before [] n = false
stands_before (m ∷ names) n = (bytes_eq m.text n.text && nat_lt m.place n.place) || stands_before names n

-- the names that stand behind another of the same text
abbrev pub twice_among : List Name → List Name → List Finding
twice_among all [] = []
twice_among all (n ∷ names) = breaks_if (stands_before all n) redeclared n.place ++ twice_among all names

-- two tests agree
abbrev pub same_test : Bool → Bool → Bool
same_test a b = if a then b else not b

-- two functions of class k are both constructors that a call could not tell apart, or both destructors
abbrev pub clash : ℕ → FuncKind → FuncKind → Signature → Signature → Bool
clash k Constructor Constructor s t = same_test (are_copy_parameters k s.parameters) (are_copy_parameters k t.parameters) && length s.parameters == length t.parameters
clash k Destructor Destructor s t = true
clash k _ _ s t = false

-- a function clashes with one before, where both have the class's name
abbrev pub clashes : ℕ → List ℕ → List Signature → Signature → Bool
clashes k text [] s = false
clashes k text (t ∷ before) s = (bytes_eq t.name.text text && clash k t.form s.form t s) || clashes k text before s

-- a constructor or a destructor
abbrev pub has_class_name : FuncKind → Bool
has_class_name Constructor = true
has_class_name Destructor = true
has_class_name _ = false

-- constructors and destructors behind some functions: another name, or twice
abbrev pub specials_found : ℕ → List ℕ → List Signature → List Signature → List Finding
specials_found k text before [] = []
specials_found k text before (s ∷ more) =
    (if bytes_eq s.name.text text then breaks_if (clashes k text before s) redeclared s.name.place else breaks_if (has_class_name s.form) unknown_name s.name.place)
    ++ specials_found k text (s ∷ before) more

-- a class has too many bytes, or its chain of bases too many classes
abbrev pub size_found : ClassEntry → ℕ → List Finding
size_found c place = breaks_if (nat_lt most_class_bytes c.size || nat_lt most_chained c.chain) class_too_large place

-- a function of a class
abbrev pub method_found : Environment → Class → Function → List Finding
method_found env c f =
    function_found (head_environment env c) (head_scope env f.name) (declare_behind env (class_declaration c)) (Some (next_class env)) f

-- a class
abbrev pub class_rules_found : Environment → Class → List Finding
class_rules_found env c =
    breaks_if (is_taken env c.name.text) redeclared c.name.place ++ base_found env c c.base ++ flat_map (field_found env c) c.members
    ++ (let names = map name_of c.members ++ method_names c.functions in twice_among names names)
    ++ specials_found (next_class env) c.name.text [] (class_entry env c).functions
    ++ size_found (class_entry env c) c.name.place
    ++ flat_map (method_found env c) c.functions
