-- The classes of a program without a broken rule fit, declaration after declaration.
use Rattle.std.proofs.Common.{◌≡◌, ℕ, zero, suc, ◌+◌, ◌<◌, ◌≤◌, ◌==◌, ◌||◌, Bool, true, false, List, [], ◌∷◌, ◌++◌, Option, Some, None, refl, sym, ap, ap₂, ◌∙◌, subst, arith, length, map}
use Rattle.std.specs.Prelude.{nat_lt, slice_get, flat_map, if◌then◌else◌}
use Rattle.std.proofs.lemmas.List.{map-append, length-append}
use Rattle.std.proofs.lemmas.Bool.Decides.{nat_tests}
use Rattle.cxx_ast.specs.declared.name.Name.{Name}
use Rattle.cxx_ast.specs.declared.types.Ty.{Ty}
use Rattle.cxx_ast.specs.declared.types.Ty.TheVariants.{Int, Void, Object, IntRef, ObjectRef}
use Rattle.cxx_ast.specs.declared.types.Param.{Param}
use Rattle.cxx_ast.specs.Plain.{Class, Declaration, class_declaration, global_declaration, function_declaration}
use Rattle.cxx_ast.specs.Rule.{redeclared, incomplete_class, class_too_large}
use Rattle.cxx_ast.specs.Limits.{most_class_bytes, most_chained}
use Rattle.cxx_ast.specs.Finding.{Finding, is_sound, breaks_if}
use Rattle.cxx_ast.specs.Environment.{Kind, class_kind, no_kind, same_kind, Signature, ClassEntry, Thing, global_thing, class_thing, function_thing, Entry, Environment}
use Rattle.cxx_ast.specs.Lookup.{entry_of}
use Rattle.cxx_ast.specs.TypeNames.{class_found, class_of_name, type_kind, type_found, signature}
use Rattle.cxx_ast.specs.Locals.{outermost}
use Rattle.cxx_ast.specs.Sizes.{kind_size, fields_size, size_of}
use Rattle.cxx_ast.specs.Resolve.{resolve_class, resolve_type}
use Rattle.cxx_ast.specs.Declare.{with_name, next_class, with_class_name, other_class, base_number, name_of, head_environment, head_scope, other_kind, field_of, class_entry, with_signature, declare_behind}
use Rattle.cxx_ast.specs.ClassRules.{is_taken, base_found, type_place, field_found, method_names, twice_among, specials_found, size_found, method_found, class_rules_found}
use Rattle.cxx_ast.specs.Broken.{declaration_found, declarations_found}
use Rattle.cxx_ast.specs.Checked.{resolve_base, resolve_fields, resolve_class_tree, resolve_declarations, classes_of}
use Rattle.meaning_forms.specs.Class.{ObjectType, class_type, class_named, object_type, base_part, member_part}
use Rattle.region_forms.specs.Layout.{ClassLayout, layout_at, size_in, sizes_in, size_of_parts, class_layout}
use Rattle.class_layout.specs.Fit.{IsBefore, AreBefore, Fits, FitBehind}
use Rattle.class_layout.proofs.Sound.{front_sound, back_sound, not_broken, before_test}
use Rattle.class_layout.proofs.Named.{ThingBelow, Known, known_more, known_and, Stands, name_stands}

-- what is known of the classes so far, and their layouts
pub record Matches (env : Environment) (laid : List ClassLayout) : Type 0 where
  pub sizes : map (λ c. c.size) env.classes ≡ map (λ c. c.size) laid
  pub count : length env.classes ≡ length laid
  pub known : Known (length env.classes) env.names
  pub some : 0 < length env.classes

-- a class has the same size here and there
pub size_same : (es : List ClassEntry) (ls : List ClassLayout) → map (λ c. c.size) es ≡ map (λ c. c.size) ls → (k : ℕ) → k < length es →
    elim (slice_get es k) [ None ↦ 0 | Some c ↦ c.size ] ≡ (layout_at ls k).size
size_same [] ls h k lt = absurd (omega (arith, lt))
size_same (e ∷ es) [] h k lt = absurd (cc h)
size_same (e ∷ es) (l ∷ ls) h zero lt = cc h
size_same (e ∷ es) (l ∷ ls) h (suc k) lt = let rest : map (λ c. c.size) es ≡ map (λ c. c.size) ls = cc h in size_same es ls rest k (omega (arith, lt))

-- a part of a class, by its type before and after names are bound
record PartOf (env : Environment) (laid : List ClassLayout) (kind : Kind) (t : ObjectType) : Type 0 where
  before : IsBefore (length laid) t
  size : kind_size env kind ≡ size_in laid t

not_self : (k n : ℕ) → k < suc n → (k == n) ≡ false → k < n
not_self k n lt e = grind (arith, nat_tests, lt, e)

-- a class that is not the one that is declared
module _ (env : Environment) (laid : List ClassLayout) (matching : Matches env laid) where
  other_size : (k : ℕ) (b : Bool) → b ≡ false → k < length env.classes → kind_size env (if b then no_kind else class_kind k) ≡ (layout_at laid k).size
  other_size k true e lt = absurd (cc e)
  other_size k false e lt = size_same env.classes laid matching.sizes k lt

  class_part : (kind : Kind) (name : Name) → Stands (suc (length env.classes)) kind name → same_kind kind (class_kind (next_class env)) ≡ false →
      PartOf env laid (other_kind (next_class env) kind) (class_type (class_named name))
  class_part kind name s other =
      let e : (s.number == length env.classes) ≡ false = subst (λ x. same_kind x (class_kind (next_class env)) ≡ false) s.kind_is other in
      let lt = not_self s.number (length env.classes) s.below e in
      record {
        before = subst (λ x. x < length laid) (sym s.name_is) (subst (λ x. s.number < x) matching.count lt);
        size = ap (λ x. kind_size env (other_kind (next_class env) x)) s.kind_is
            ∙ (other_size s.number (s.number == length env.classes) e lt ∙ ap (λ k. (layout_at laid k).size) (sym s.name_is));
      }

  -- a data member, by its type
  module _ (c : Class) (known : Known (suc (length env.classes)) (with_class_name env c).names) where
    named_part : (p : Param) (n : Name) → is_sound (class_found (head_environment env c) (head_scope env (name_of p)) n) ≡ true →
        same_kind (class_of_name (head_environment env c) (head_scope env (name_of p)) n) (class_kind (next_class env)) ≡ false →
        PartOf env laid (other_kind (next_class env) (class_of_name (head_environment env c) (head_scope env (name_of p)) n))
        (class_type (class_named (resolve_class (head_environment env c) (head_scope env (name_of p)) n)))
    named_part p n found other =
        class_part (class_of_name (head_environment env c) (head_scope env (name_of p)) n) (resolve_class (head_environment env c) (head_scope env (name_of p)) n)
        (name_stands (suc (length env.classes)) (head_environment env c) (head_scope env (name_of p)) n (omega arith) known found) other

    type_part : (p : Param) (ty : Ty) → is_sound (type_found (head_environment env c) (head_scope env (name_of p)) ty) ≡ true →
        same_kind (type_kind (head_environment env c) (head_scope env (name_of p)) ty) (class_kind (next_class env)) ≡ false →
        PartOf env laid (other_kind (next_class env) (type_kind (head_environment env c) (head_scope env (name_of p)) ty))
        (object_type (resolve_type (head_environment env c) (head_scope env (name_of p)) ty))
    type_part p Int found other = record { before = tt; size = refl }
    type_part p Void found other = record { before = tt; size = refl }
    type_part p (IntRef const) found other = record { before = tt; size = refl }
    type_part p (Object n) found other = named_part p n found other
    type_part p (ObjectRef const n) found other = named_part p n found other

    -- the data members from the i-th on
    record PartsOf (i : ℕ) (ps : List Param) : Type 0 where
      before : AreBefore (length laid) (map member_part (resolve_fields env c i ps))
      size : fields_size env (map (field_of env c) ps) ≡ sizes_in laid (map member_part (resolve_fields env c i ps))

    members_are : (ps : List Param) (i : ℕ) → is_sound (flat_map (field_found env c) ps) ≡ true → PartsOf i ps
    members_are [] i s = record { before = tt; size = refl }
    members_are (p ∷ ps) i s =
        let found = before_test (type_found (head_environment env c) (head_scope env (name_of p)) p.ty)
        (same_kind (type_kind (head_environment env c) (head_scope env (name_of p)) p.ty) (class_kind (next_class env))) incomplete_class (type_place p)
        (front_sound (field_found env c p) (flat_map (field_found env c) ps) s) in
        let a = type_part p p.ty found.0 found.1 in
        let b = members_are ps (i + 1) (back_sound (field_found env c p) (flat_map (field_found env c) ps) s) in
        record { before = (a.before, b.before); size = ap₂ (λ x y. x + y) a.size b.size }

    -- the base, and the size of the whole
    record Whole (base : Option ℕ) (bound : Option Name) (ps : List Param) : Type 0 where
      before : AreBefore (length laid) (base_part bound ++ map member_part (resolve_fields env c 0 ps))
      size : size_of env base (map (field_of env c) ps) ≡ size_of_parts laid (base_part bound ++ map member_part (resolve_fields env c 0 ps))

    without_base : (ps : List Param) → PartsOf 0 ps → Whole None None ps
    without_base [] m = record { before = tt; size = refl }
    without_base (p ∷ ps) m = record { before = m.before; size = m.size }

    other_base : (k : ℕ) (b : Bool) → b ≡ false → (if b then None else Some k) ≡ Some k
    other_base k true e = absurd (cc e)
    other_base k false e = refl

    with_base : (b : Name) (ps : List Param) → PartsOf 0 ps → is_sound (base_found env c (Some b)) ≡ true →
        Whole (other_class (next_class env) (class_of_name (with_class_name env c) outermost b)) (Some (resolve_class (with_class_name env c) outermost b)) ps
    with_base b ps m s =
        let found = before_test (class_found (with_class_name env c) outermost b)
        (same_kind (class_of_name (with_class_name env c) outermost b) (class_kind (next_class env))) incomplete_class b.place s in
        let n = name_stands (suc (length env.classes)) (with_class_name env c) outermost b (omega arith) known found.0 in
        let e : (n.number == length env.classes) ≡ false = subst (λ x. same_kind x (class_kind (next_class env)) ≡ false) n.kind_is found.1 in
        let lt = not_self n.number (length env.classes) n.below e in
        record {
          before = (subst (λ x. x < length laid) (sym n.name_is) (subst (λ x. n.number < x) matching.count lt), m.before);
          size = ap (λ x. size_of env (other_class (next_class env) x) (map (field_of env c) ps)) n.kind_is
              ∙ (ap (λ x. size_of env x (map (field_of env c) ps)) (other_base n.number (n.number == length env.classes) e)
              ∙ (ap₂ (λ x y. x + y) (size_same env.classes laid matching.sizes n.number lt) m.size
              ∙ ap (λ k. (layout_at laid k).size + sizes_in laid (map member_part (resolve_fields env c 0 ps))) (sym n.name_is)));
        }

    whole_is : (base : Option Name) (ps : List Param) → PartsOf 0 ps → is_sound (base_found env c base) ≡ true →
        Whole (elim base [ None ↦ None | Some b ↦ other_class (next_class env) (class_of_name (with_class_name env c) outermost b) ]) (resolve_base env c base) ps
    whole_is None ps m s = without_base ps m
    whole_is (Some b) ps m s = with_base b ps m s

-- the environment behind a declaration of no class
pub record SameClasses (env next : Environment) : Type 0 where
  pub classes : next.classes ≡ env.classes
  pub known : (n : ℕ) → Known n env.names → Known n next.names

pub kept : (env next : Environment) (laid : List ClassLayout) → SameClasses env next → Matches env laid → Matches next laid
kept env next laid s m = record {
  sizes = ap (λ cs. map (λ c. c.size) cs) s.classes ∙ m.sizes;
  count = ap length s.classes ∙ m.count;
  known = subst (λ cs. Known (length cs) next.names) (sym s.classes) (s.known (length env.classes) m.known);
  some = subst (λ cs. 0 < length cs) (sym s.classes) m.some;
}

-- with a name, where it is not found
abbrev named : Environment → List ℕ → Thing → Option Entry → Environment
named env text t o = elim o [ Some e ↦ env | None ↦ record env { names = env.names ++ record { text = text; thing = t } ∷ [] } ]

pub named_classes : (env : Environment) (text : List ℕ) (t : Thing) → (with_name env text t).classes ≡ env.classes
named_classes env text t = go (entry_of env text)
  where
    go : (o : Option Entry) → (named env text t o).classes ≡ env.classes
    go (Some e) = refl
    go None = refl

pub named_known : (n : ℕ) (env : Environment) (text : List ℕ) (t : Thing) → ThingBelow n t → Known n env.names → Known n (with_name env text t).names
named_known n env text t below known = go (entry_of env text)
  where
    go : (o : Option Entry) → Known n (named env text t o).names
    go (Some e) = known
    go None = known_and n env.names (record { text = text; thing = t }) known below

pub behind_function : (env : Environment) (s : Signature) → SameClasses env (with_signature env s)
behind_function env s = go (entry_of env s.name.text)
  where
    new : Environment
    new = record (with_name env s.name.text function_thing) { signatures = env.signatures ++ s ∷ [] }

    old : (t : Thing) → SameClasses env (elim t [ function_thing ↦ record env { signatures = env.signatures ++ s ∷ [] } | _ ↦ env ])
    old (global_thing g) = record { classes = refl; known = λ n k. k }
    old (class_thing k) = record { classes = refl; known = λ n k. k }
    old function_thing = record { classes = refl; known = λ n k. k }

    go : (o : Option Entry) → SameClasses env (elim o [
      | None ↦ record (with_name env s.name.text function_thing) { signatures = env.signatures ++ s ∷ [] }
      | Some e ↦ elim e.thing [ function_thing ↦ record env { signatures = env.signatures ++ s ∷ [] } | _ ↦ env ]
    ])
    go None = record { classes = named_classes env s.name.text function_thing; known = λ n k. named_known n env s.name.text function_thing tt k }
    go (Some e) = old e.thing

-- the second, the third and the sixth of seven parts
second_third_sixth : (a b c d e f g : List Finding) → is_sound (a ++ b ++ c ++ d ++ e ++ f ++ g) ≡ true →
    (is_sound b ≡ true) × (is_sound c ≡ true) × (is_sound f ≡ true)
second_third_sixth a b c d e f g h =
    let to_sixth = front_sound (a ++ b ++ c ++ d ++ e ++ f) g h in
    let to_fifth = front_sound (a ++ b ++ c ++ d ++ e) f to_sixth in
    let to_third = front_sound (a ++ b ++ c) d (front_sound (a ++ b ++ c ++ d) e to_fifth) in
    (back_sound a b (front_sound (a ++ b) c to_third), back_sound (a ++ b) c to_third, back_sound (a ++ b ++ c ++ d ++ e) f to_sixth)

not_left : (a b : Bool) → (a || b) ≡ false → a ≡ false
not_left true b h = absurd (cc h)
not_left false b h = refl

small_size : (size chain : ℕ) → (nat_lt most_class_bytes size || nat_lt most_chained chain) ≡ false → size ≤ most_class_bytes
small_size size chain h =
    let e : nat_lt most_class_bytes size ≡ false = not_left (nat_lt most_class_bytes size) (nat_lt most_chained chain) h in grind (arith, nat_tests, e)

-- a class, and what is known behind it
module _ (env : Environment) (laid : List ClassLayout) (m : Matches env laid) (c : Class) (s : is_sound (class_rules_found env c) ≡ true) where
  names_known : Known (suc (length env.classes)) (with_class_name env c).names
  names_known = named_known (suc (length env.classes)) env c.name.text (class_thing (length env.classes)) (omega arith) (known_more (length env.classes) env.names m.known)

  found : (is_sound (base_found env c c.base) ≡ true) × (is_sound (flat_map (field_found env c) c.members) ≡ true) ×
      (is_sound (size_found (class_entry env c) c.name.place) ≡ true)
  found = let names = map name_of c.members ++ method_names c.functions in
      second_third_sixth (breaks_if (is_taken env c.name.text) redeclared c.name.place) (base_found env c c.base) (flat_map (field_found env c) c.members)
      (twice_among names names) (specials_found (next_class env) c.name.text [] (class_entry env c).functions)
      (size_found (class_entry env c) c.name.place) (flat_map (method_found env c) c.functions) s

  whole : Whole env laid m c names_known (base_number env c) (resolve_base env c c.base) c.members
  whole = whole_is env laid m c names_known c.base c.members (members_are env laid m c names_known c.members 0 found.1) found.0

  pub fits : Fits laid (resolve_class_tree env c)
  fits = record {
    before = whole.before;
    small = subst (λ n. n ≤ most_class_bytes) whole.size
        (small_size (class_entry env c).size (class_entry env c).chain (not_broken (nat_lt most_class_bytes (class_entry env c).size || nat_lt most_chained (class_entry env c).chain) class_too_large c.name.place found.2));
  }

  pub behind_class : Matches (declare_behind env (class_declaration c)) (laid ++ class_layout laid (resolve_class_tree env c) ∷ [])
  behind_class =
      let entry = class_entry env c in
      let next = class_layout laid (resolve_class_tree env c) in
      let classes = named_classes env c.name.text (class_thing (next_class env)) in
      let longer : length (env.classes ++ entry ∷ []) ≡ suc (length env.classes) = length-append env.classes (entry ∷ []) ∙ omega arith in
      record {
        sizes = ap (λ cs. map (λ c. c.size) (cs ++ entry ∷ [])) classes
            ∙ (map-append (λ c. c.size) env.classes (entry ∷ [])
            ∙ (ap₂ (λ xs x. xs ++ x ∷ []) m.sizes whole.size ∙ sym (map-append (λ c. c.size) laid (next ∷ []))));
        count = ap (λ cs. length (cs ++ entry ∷ [])) classes ∙ (longer ∙ (ap suc m.count ∙ sym (length-append laid (next ∷ []) ∙ omega arith)));
        known = subst (λ n. Known n (with_class_name env c).names) (sym (ap (λ cs. length (cs ++ entry ∷ [])) classes ∙ longer)) names_known;
        some = subst (λ n. 0 < n) (sym (ap (λ cs. length (cs ++ entry ∷ [])) classes ∙ longer)) (omega arith);
      }

-- declarations one after the other
pub declared_fit : (ds : List Declaration) (env : Environment) (laid : List ClassLayout) → Matches env laid → is_sound (declarations_found env ds) ≡ true →
    FitBehind laid (classes_of (resolve_declarations env ds))
declared_fit [] env laid m s = tt
declared_fit (class_declaration c ∷ ds) env laid m s =
    let sound = front_sound (class_rules_found env c) (declarations_found (declare_behind env (class_declaration c)) ds) s in (
      fits env laid m c sound,
      declared_fit ds (declare_behind env (class_declaration c)) (laid ++ class_layout laid (resolve_class_tree env c) ∷ []) (behind_class env laid m c sound)
          (back_sound (class_rules_found env c) (declarations_found (declare_behind env (class_declaration c)) ds) s),
    )
declared_fit (global_declaration n value ∷ ds) env laid m s =
    declared_fit ds (declare_behind env (global_declaration n value)) laid
    (kept env (declare_behind env (global_declaration n value)) laid
    (record { classes = named_classes env n.text (global_thing env.globals); known = λ k h. named_known k env n.text (global_thing env.globals) tt h }) m)
    (back_sound (declaration_found env (global_declaration n value)) (declarations_found (declare_behind env (global_declaration n value)) ds) s)
declared_fit (function_declaration f ∷ ds) env laid m s =
    declared_fit ds (declare_behind env (function_declaration f)) laid
    (kept env (declare_behind env (function_declaration f)) laid (behind_function env (signature env outermost f)) m)
    (back_sound (declaration_found env (function_declaration f)) (declarations_found (declare_behind env (function_declaration f)) ds) s)
