-- Parts of a class, by what is known where each stands.
use Rattle.std.specs.Prelude.{ℕ, Bool, true, List, [], ◌++◌, map, flat_map, Option, Some, None}
use Rattle.cxx_ast.specs.declared.name.Name.{Name}
use Rattle.cxx_ast.specs.declared.types.Param.{Param}
use Rattle.cxx_ast.specs.Plain.{Function, Class}
use Rattle.cxx_ast.specs.Construct.{has_default}
use Rattle.cxx_ast.specs.Environment.{Kind, class_kind, same_kind, Signature, Field, ClassEntry, Environment, Scope}
use Rattle.cxx_ast.specs.Rule.{incomplete_class}
use Rattle.cxx_ast.specs.Finding.{Finding, breaks_if}
use Rattle.cxx_ast.specs.TypeNames.{class_of_name, class_found, type_kind, type_found, signature}
use Rattle.cxx_ast.specs.Locals.{outermost}
use Rattle.cxx_ast.specs.Declare.{other_class, other_kind, name_of, bare_field, bare_signature, needs_no_arguments, head_environment, head_scope, declare_behind, next_class}
use Rattle.cxx_ast.specs.ClassRules.{type_place, base_found, field_found}
use Rattle.cxx_ast.specs.Plain.{class_declaration}
use Rattle.cxx_ast.specs.Sizes.{size_of, chain_of}
use Rattle.cxx_check.specs.FunctionParts.{head_found, inside_found}

-- the base of class k, whose name is known
abbrev pub base_in : Environment → ℕ → Option Name → List Finding
base_in known k None = []
base_in known k (Some b) =
    class_found known outermost b ++ breaks_if (same_kind (class_of_name known outermost b) (class_kind k)) incomplete_class b.place

-- its number
abbrev pub base_number_in : Environment → ℕ → Option Name → Option ℕ
base_number_in known k None = None
base_number_in known k (Some b) = other_class k (class_of_name known outermost b)

-- class k by the names of its parts alone
abbrev pub bare_class : Option ℕ → Class → ClassEntry
bare_class base c = record {
  name = c.name.text;
  base = base;
  fields = map bare_field c.members;
  functions = map bare_signature c.functions;
  size = 4;
  chain = 1;
  has_default = true;
}

-- where the types of a member of class k stand that is declared by a name
abbrev pub member_scope : ℕ → Name → Scope
member_scope k n = record outermost { own = Some k; limit = Some n.place }

-- a data member of class k, where the names of its parts are known
abbrev pub field_in : Environment → ℕ → Param → List Finding
field_in known k p =
    type_found known (member_scope k (name_of p)) p.ty
    ++ breaks_if (same_kind (type_kind known (member_scope k (name_of p)) p.ty) (class_kind k)) incomplete_class (type_place p)

-- what is known of it
abbrev pub field_of_in : Environment → ℕ → Param → Field
field_of_in known k p = record { name = name_of p; kind = other_kind k (type_kind known (member_scope k (name_of p)) p.ty) }

-- the head of a function of class k
abbrev pub method_head_in : Environment → ℕ → Function → List Finding
method_head_in known k f = head_found known (member_scope k f.name) f

-- what is known of it
abbrev pub method_of_in : Environment → ℕ → Function → Signature
method_of_in known k f = signature known (member_scope k f.name) f

-- class k of its parts
abbrev pub entry_in : Environment → ℕ → Option ℕ → List Field → List Signature → List ℕ → ClassEntry
entry_in known k base fields functions text = record {
  name = text;
  base = base;
  fields = fields;
  functions = functions;
  size = size_of known base fields;
  chain = chain_of known base;
  has_default = needs_no_arguments known k text base fields functions;
}

-- the heads of a class: its base, its data members, and the heads of its functions
abbrev pub heads_found : Environment → Class → List Finding
heads_found env c =
    base_found env c c.base ++ flat_map (field_found env c) c.members
    ++ flat_map (λ f. head_found (head_environment env c) (head_scope env f.name) f) c.functions

-- what stands behind the head of a function of a class
abbrev pub method_inside : Environment → Class → Function → List Finding
method_inside env c f =
    inside_found (head_environment env c) (head_scope env f.name) (declare_behind env (class_declaration c)) (Some (next_class env)) f

-- a data member of a type needs no arguments
abbrev pub kind_has_default : Environment → Kind → Bool
kind_has_default env (class_kind k) = has_default env k
kind_has_default env _ = true
