-- What declarations leave as it is.
use Rattle.std.proofs.Common.{◌≡◌, ℕ, ◌+◌, Bool, true, List, [], ◌∷◌, ◌++◌, Option, Some, None, refl, ap, ◌∙◌, take, length, slice_get, find, is_some, cond, ◌&&◌, arith}
use Rattle.std.proofs.lemmas.List.{take_at, length-append}
use Rattle.cxx_ast.specs.Plain.{Declaration, class_declaration, global_declaration, function_declaration}
use Rattle.cxx_ast.specs.Environment.{Kind, int_kind, truth_kind, void_kind, class_kind, no_kind, Field, Signature, ClassEntry, Thing, global_thing, class_thing, function_thing, Entry, Environment}
use Rattle.cxx_ast.specs.Lookup.{entry_of}
use Rattle.cxx_ast.specs.Finding.{Finding}
use Rattle.cxx_ast.specs.TypeNames.{signature}
use Rattle.cxx_ast.specs.Locals.{outermost}
use Rattle.cxx_ast.specs.Construct.{has_default, declares_constructor, is_constructor_with}
use Rattle.cxx_ast.specs.Declare.{with_name, with_signature, declare_behind, have_default, base_has_default, needs_no_arguments, next_class}
use Rattle.cxx_ast.specs.Sizes.{class_size, kind_size, fields_size, size_of, chain_of}
use Rattle.cxx_check.specs.ClassParts.{entry_in}
use Rattle.cxx_rules.specs.Known.{front_of}
use Rattle.cxx_rules.specs.Summary.{seen, summary}

pub seen_alike : (a b : Environment) (fs : List Finding) → a.definitions ≡ b.definitions → seen a fs ≡ seen b fs
seen_alike a b fs e = ap (λ d. summary d fs) e

pub name_definitions : (env : Environment) (text : List ℕ) (thing : Thing) → (with_name env text thing).definitions ≡ env.definitions
name_definitions env text thing = by (entry_of env text)
  where
    by : (o : Option Entry) → (let e : Environment = elim o [ Some e ↦ env | None ↦ record env { names = env.names ++ (record { text = text; thing = thing } ∷ []) } ] in e).definitions ≡ env.definitions
    by None = refl
    by (Some e) = refl

signature_definitions : (env : Environment) (s : Signature) → (with_signature env s).definitions ≡ env.definitions
signature_definitions env s = by (entry_of env s.name.text)
  where
    thing_by : (t : Thing) → (let e : Environment = elim t [ function_thing ↦ record env { signatures = env.signatures ++ (s ∷ []) } | _ ↦ env ] in e).definitions ≡ env.definitions
    thing_by (global_thing n) = refl
    thing_by (class_thing k) = refl
    thing_by function_thing = refl

    by : (o : Option Entry) → (let e : Environment = elim o [
      | None ↦ record (with_name env s.name.text function_thing) { signatures = env.signatures ++ (s ∷ []) }
      | Some e ↦ elim e.thing [ function_thing ↦ record env { signatures = env.signatures ++ (s ∷ []) } | _ ↦ env ]
    ] in e).definitions ≡ env.definitions
    by None = name_definitions env s.name.text function_thing
    by (Some e) = thing_by e.thing

pub declared_definitions : (env : Environment) (d : Declaration) → (declare_behind env d).definitions ≡ env.definitions
declared_definitions env (class_declaration c) = name_definitions env c.name.text (class_thing (next_class env))
declared_definitions env (global_declaration n value) = name_definitions env n.text (global_thing env.globals)
declared_definitions env (function_declaration f) = signature_definitions env (signature env outermost f)

-- the last class is the one that was added
pub front_kept : (cs : List ClassEntry) (c : ClassEntry) → front_of (cs ++ c ∷ []) ≡ cs
front_kept cs c = ap (λ n. take n (cs ++ c ∷ [])) (omega (arith, length-append cs (c ∷ []))) ∙ take_at cs (c ∷ []) (length cs) refl

pub name_classes : (env : Environment) (text : List ℕ) (thing : Thing) → (with_name env text thing).classes ≡ env.classes
name_classes env text thing = by (entry_of env text)
  where
    by : (o : Option Entry) → (let e : Environment = elim o [ Some e ↦ env | None ↦ record env { names = env.names ++ (record { text = text; thing = thing } ∷ []) } ] in e).classes ≡ env.classes
    by None = refl
    by (Some e) = refl

kind_alike : (a b : Environment) (k : Kind) → a.classes ≡ b.classes → kind_size a k ≡ kind_size b k
kind_alike a b (class_kind k) e = ap (λ cs. elim (slice_get cs k) [ None ↦ 0 | Some c ↦ c.size ]) e
kind_alike a b int_kind e = refl
kind_alike a b truth_kind e = refl
kind_alike a b void_kind e = refl
kind_alike a b no_kind e = refl

fields_alike : (a b : Environment) (fs : List Field) → a.classes ≡ b.classes → fields_size a fs ≡ fields_size b fs
fields_alike a b [] e = refl
fields_alike a b (f ∷ fs) e = ap (λ n. n + fields_size a fs) (kind_alike a b f.kind e) ∙ ap (λ n. kind_size b f.kind + n) (fields_alike a b fs e)

size_alike : (a b : Environment) (base : Option ℕ) (fs : List Field) → a.classes ≡ b.classes → size_of a base fs ≡ size_of b base fs
size_alike a b None [] e = refl
size_alike a b None (f ∷ fs) e = fields_alike a b (f ∷ fs) e
size_alike a b (Some k) fs e = ap (λ n. n + fields_size a fs) (kind_alike a b (class_kind k) e) ∙ ap (λ n. class_size b k + n) (fields_alike a b fs e)

chain_alike : (a b : Environment) (base : Option ℕ) → a.classes ≡ b.classes → chain_of a base ≡ chain_of b base
chain_alike a b None e = refl
chain_alike a b (Some k) e = ap (λ cs. elim (slice_get cs k) [ None ↦ 1 | Some c ↦ c.chain + 1 ]) e

has_alike : (a b : Environment) (k : ℕ) → a.classes ≡ b.classes → has_default a k ≡ has_default b k
has_alike a b k e = ap (λ cs. elim (slice_get cs k) [ None ↦ true | Some c ↦ c.has_default ]) e

part_alike : (a b : Environment) (k : Kind) (t : Bool) → a.classes ≡ b.classes →
    (elim k [ class_kind k ↦ has_default a k | _ ↦ true ] && t) ≡ (elim k [ class_kind k ↦ has_default b k | _ ↦ true ] && t)
part_alike a b (class_kind k) t e = ap (λ x. x && t) (has_alike a b k e)
part_alike a b int_kind t e = refl
part_alike a b truth_kind t e = refl
part_alike a b void_kind t e = refl
part_alike a b no_kind t e = refl

parts_alike : (a b : Environment) (fs : List Field) → a.classes ≡ b.classes → have_default a fs ≡ have_default b fs
parts_alike a b [] e = refl
parts_alike a b (f ∷ fs) e =
    part_alike a b f.kind (have_default a fs) e
    ∙ ap (λ t. elim f.kind [ class_kind k ↦ has_default b k | _ ↦ true ] && t) (parts_alike a b fs e)

base_alike : (a b : Environment) (base : Option ℕ) → a.classes ≡ b.classes → base_has_default a base ≡ base_has_default b base
base_alike a b None e = refl
base_alike a b (Some k) e = has_alike a b k e

needs_by : (x : Bool) (y z w : Bool) → z ≡ w → cond x y z ≡ cond x y w
needs_by x y z w e = ap (cond x y) e

needs_alike : (a b : Environment) (k : ℕ) (text : List ℕ) (base : Option ℕ) (fs : List Field) (ss : List Signature) → a.classes ≡ b.classes →
    needs_no_arguments a k text base fs ss ≡ needs_no_arguments b k text base fs ss
needs_alike a b k text base fs ss e =
    ap (cond (declares_constructor text ss) (is_some (find (is_constructor_with k text 0) ss)))
    (ap (λ x. x && have_default a fs) (base_alike a b base e) ∙ ap (λ x. base_has_default b base && x) (parts_alike a b fs e))

same_entry : (text : List ℕ) (base : Option ℕ) (fs : List Field) (ss : List Signature) (s t c d : ℕ) (x y : Bool) → s ≡ t → c ≡ d → x ≡ y →
    (let m : ClassEntry = record { name = text; base = base; fields = fs; functions = ss; size = s; chain = c; has_default = x } in
    let n : ClassEntry = record { name = text; base = base; fields = fs; functions = ss; size = t; chain = d; has_default = y } in m ≡ n)
same_entry text base fs ss s t c d x y e f g = cc

-- what is known of a class is the same where the same classes are known
pub entry_alike : (a b : Environment) (k : ℕ) (base : Option ℕ) (fs : List Field) (ss : List Signature) (text : List ℕ) → a.classes ≡ b.classes →
    entry_in a k base fs ss text ≡ entry_in b k base fs ss text
entry_alike a b k base fs ss text e =
    same_entry text base fs ss _ _ _ _ _ _ (size_alike a b base fs e) (chain_alike a b base e) (needs_alike a b k text base fs ss e)
