-- A class that is declared without breaking a rule is that of the program, but for its specifications, and is known behind its declaration.
use Rattle.std.proofs.Common.{◌≡◌, ◌∙◌, ◌+◌, ◌<◌, ◌==◌, ◌&&◌, ℕ, zero, suc, Bool, true, false, List, [], ◌∷◌, ◌++◌, map, length, Option, Some, None, option_map, bytes_eq, find, if◌then◌else◌, inl, inr, refl, sym, ap, subst, arith}
use Rattle.std.specs.Prelude.{slice_get, flat_map, ◌⊎◌}
use Rattle.std.proofs.lemmas.Slice.Eq.{bytes_eq-Decides}
use Rattle.cxx_ast.specs.declared.name.Name.{Name}
use Rattle.cxx_ast.specs.declared.types.Ty.{Ty}
use Rattle.cxx_ast.specs.declared.types.Ty.TheVariants.{Int, Void, Object, IntRef, ObjectRef}
use Rattle.cxx_ast.specs.declared.types.Param.{Param}
use Rattle.cxx_ast.specs.declared.declaration.FuncKind.{FuncKind}
use Rattle.cxx_ast.specs.declared.declaration.FuncKind.TheVariants.{Plain, Method, Constructor, Destructor}
use Rattle.cxx_ast.specs.Rule.{redeclared, unknown_name, incomplete_class}
use Rattle.cxx_ast.specs.Finding.{breaks_if}
use Rattle.cxx_ast.specs.Plain.{Checked, Specification, Function, Class, class_declaration}
use Rattle.cxx_ast.specs.Environment.{Kind, int_kind, void_kind, truth_kind, class_kind, no_kind, same_kind, Signature, Field, Thing, class_thing, Entry, Environment, Scope, a_method}
use Rattle.cxx_ast.specs.Lookup.{is_method, method_named, entry_of}
use Rattle.cxx_ast.specs.TypeNames.{class_of_name, class_found, type_kind, type_found, specification_found, head_types_found}
use Rattle.cxx_ast.specs.Locals.{outermost, declare_params}
use Rattle.cxx_ast.specs.declared.name.Bound.TheVariants.{Free}
use Rattle.cxx_ast.specs.Construct.{is_constructor_kind}
use Rattle.cxx_ast.specs.FunctionRules.{has_text, part_kind, params_twice, body_found, definition_found}
use Rattle.cxx_ast.specs.Declare.{with_name, next_class, with_class_name, other_class, name_of, head_environment, head_scope, other_kind, field_of, method_of, class_entry, declare_behind, function_scope}
use Rattle.cxx_ast.specs.ClassRules.{is_taken, base_found, type_place, field_found, method_names, twice_among, clashes, has_class_name, specials_found, size_found, method_found, class_rules_found}
use Rattle.cxx_ast.specs.Resolve.{resolve_function}
use Rattle.cxx_ast.specs.Grammatical.{Each, IsMemberType, IsDataMember, IsResult, HasForm, IsFunction}
use Rattle.cxx_ast.specs.Checked.{resolve_base, resolve_fields, resolve_methods, resolve_class_tree}
use Rattle.cxx_ast.specs.Settled.{settle_function, settle_class}
use Rattle.meaning_forms.specs.Class.{ObjectType, class_named, class_at}
use Rattle.class_layout.proofs.Declared.{named_classes}
use Rattle.region_formed.proofs.Fine.{Fine, fine_parts, fine_sound, not_broken}
use Rattle.region_formed.proofs.Meant.{Typed, HasKind, IsHeld, MethodsMeant, FieldsMeant, EntryMeant, ThingMeant, Meant}
use Rattle.region_formed.proofs.Slots.{behind}
use Rattle.region_formed.proofs.Types.{class_stands, type_typed}
use Rattle.region_formed.proofs.Heads.{Names, NameAlone, params_are}
use Rattle.region_formed.proofs.Lists.{each_last}

-- the names of a class's members are none of a class, its parameters' neither, and no data member has a member function's name
pub record ClassAlone (special : List (List ℕ)) (c : Class) : Type 0 where
  pub fields : Each (λ (x : Param). has_text (name_of x).text special ≡ false) c.members
  pub methods : Each (λ (f : Function). is_method f.kind ≡ true → has_text f.name.text special ≡ false) c.functions
  pub parameters : Each (λ (f : Function). Each (λ (x : Param). NameAlone special x.name) f.parameters) c.functions
  pub apart : Each (λ (f : Function). is_method f.kind ≡ true → Each (λ (x : Param). bytes_eq (name_of x).text f.name.text ≡ false) c.members) c.functions

-- one name more
abbrev pub with_entry : Environment → List ℕ → Thing → Option Entry → Environment
with_entry env text t o = elim o [ Some e ↦ env | None ↦ record env { names = env.names ++ (record { text = text; thing = t } ∷ []) } ]

pub names_more : (p : Checked) (special : List (List ℕ)) (env : Environment) (text : List ℕ) (t : Thing) → ThingMeant p special text t → Names p special env →
    Names p special (with_name env text t)
names_more p special env text t h k = go (entry_of env text)
  where
    go : (o : Option Entry) → Names p special (with_entry env text t o)
    go (Some e) = k
    go None = each_last (λ (e : Entry). ThingMeant p special e.text e.thing) env.names (record { text = text; thing = t }) k h

pub named_signatures : (env : Environment) (text : List ℕ) (t : Thing) → (with_name env text t).signatures ≡ env.signatures
named_signatures env text t = go (entry_of env text)
  where
    go : (o : Option Entry) → (with_entry env text t o).signatures ≡ env.signatures
    go (Some e) = refl
    go None = refl

pub named_definitions : (env : Environment) (text : List ℕ) (t : Thing) → (with_name env text t).definitions ≡ env.definitions
named_definitions env text t = go (entry_of env text)
  where
    go : (o : Option Entry) → (with_entry env text t o).definitions ≡ env.definitions
    go (Some e) = refl
    go None = refl

-- the last of a list, or one before it
slice_last : {A : Type 0} (xs : List A) (x y : A) (i : ℕ) → slice_get (xs ++ (x ∷ [])) i ≡ Some y → (slice_get xs i ≡ Some y) ⊎ ((i ≡ length xs) × (x ≡ y))
slice_last [] x y zero e = inr (refl, cc e)
slice_last [] x y (suc i) e = absurd (cc e)
slice_last (z ∷ xs) x y zero e = inl e
slice_last (z ∷ xs) x y (suc i) e = elim (slice_last xs x y i e) [ inl h ↦ inl h | inr h ↦ inr (ap suc h.0, h.1) ]

-- the parts of what is found in a class
record Found (defined : List (List ℕ)) (env : Environment) (c : Class) : Type 0 where
  base : Fine defined (base_found env c c.base)
  fields : Fine defined (flat_map (field_found env c) c.members)
  specials : Fine defined (specials_found (next_class env) c.name.text [] (class_entry env c).functions)
  methods : Fine defined (flat_map (method_found env c) c.functions)

class_found_parts : (defined : List (List ℕ)) (env : Environment) (c : Class) → Fine defined (class_rules_found env c) → Found defined env c
class_found_parts defined env c h =
    let names = map name_of c.members ++ method_names c.functions in
    let taken = breaks_if (is_taken env c.name.text) redeclared c.name.place in
    let base = base_found env c c.base in
    let fields = flat_map (field_found env c) c.members in
    let specials = specials_found (next_class env) c.name.text [] (class_entry env c).functions in
    let size = size_found (class_entry env c) c.name.place in
    let a = fine_parts defined (taken ++ base ++ fields ++ twice_among names names ++ specials ++ size) (flat_map (method_found env c) c.functions) h in
    let b = fine_parts defined (taken ++ base ++ fields ++ twice_among names names ++ specials) size a.0 in
    let d = fine_parts defined (taken ++ base ++ fields ++ twice_among names names) specials b.0 in
    let e = fine_parts defined (taken ++ base ++ fields) (twice_among names names) d.0 in
    let f = fine_parts defined (taken ++ base) fields e.0 in
    record { base = (fine_parts defined taken base f.0).1; fields = f.1; specials = d.1; methods = a.1 }

pub methods_found : (defined : List (List ℕ)) (env : Environment) (c : Class) → Fine defined (class_rules_found env c) → Fine defined (flat_map (method_found env c) c.functions)
methods_found defined env c h = (class_found_parts defined env c h).methods

member_held : (t : Ty) → IsMemberType t → IsHeld t
member_held Int h = tt
member_held Void h = h
member_held (Object n) h = tt
member_held (IntRef const) h = tt
member_held (ObjectRef const n) h = tt

-- a type that is not the class's own
other_typed : (n k : ℕ) (kind : Kind) (t : ObjectType) → same_kind kind (class_kind k) ≡ false → Typed n kind t → Typed n (other_kind k kind) t
other_typed n k int_kind t e h = h
other_typed n k (class_kind j) t e h = subst (λ b. Typed n (if b then no_kind else class_kind j) t) (sym e) h
other_typed n k truth_kind t e h = h
other_typed n k void_kind t e h = h
other_typed n k no_kind t e h = h

pub result_kind : (env : Environment) (sc : Scope) (kind : FuncKind) (f : Function) → HasForm kind f → HasKind (type_kind env sc f.result)
result_kind env sc Plain f h = of f.result h.0
  where
    of : (t : Ty) → IsResult t → HasKind (type_kind env sc t)
    of Int i = tt
    of Void i = tt
    of (Object n) i = absurd i
    of (IntRef const) i = tt
    of (ObjectRef const n) i = absurd i
result_kind env sc Method f h = of f.result h.0
  where
    of : (t : Ty) → IsResult t → HasKind (type_kind env sc t)
    of Int i = tt
    of Void i = tt
    of (Object n) i = absurd i
    of (IntRef const) i = tt
    of (ObjectRef const n) i = absurd i
result_kind env sc Constructor f h = subst (λ t. HasKind (type_kind env sc t)) (sym h.0) tt
result_kind env sc Destructor f h = subst (λ t. HasKind (type_kind env sc t)) (sym h.0) tt

-- a constructor has its class's name
constructor_named : (defined : List (List ℕ)) (k : ℕ) (text : List ℕ) (before more : List Signature) (s : Signature) →
    Fine defined (specials_found k text before (s ∷ more)) → is_constructor_kind s.form ≡ true → bytes_eq s.name.text text ≡ true
constructor_named defined k text before more s f h = go (bytes_eq s.name.text text) refl (fine_parts defined _ (specials_found k text (s ∷ before) more) f).0
  where
    kind : (form : FuncKind) → is_constructor_kind form ≡ true → has_class_name form ≡ true
    kind Constructor h = refl
    kind Plain h = absurd (cc h)
    kind Method h = absurd (cc h)
    kind Destructor h = absurd (cc h)

    go : (b : Bool) → bytes_eq s.name.text text ≡ b →
        Fine defined (if b then breaks_if (clashes k text before s) redeclared s.name.place else breaks_if (has_class_name s.form) unknown_name s.name.place) →
        bytes_eq s.name.text text ≡ true
    go true e q = e
    go false e q = absurd (cc (sym (kind s.form h) ∙ not_broken defined (has_class_name s.form) unknown_name s.name.place q))

module _ (p : Checked) (defined special : List (List ℕ)) (env : Environment) (m : Meant p defined special env) (c : Class) (own : Option Specification)
    (is : class_at p (length env.classes) ≡ settle_class own (resolve_class_tree env c)) (below : length env.classes < length p.classes)
    (named : has_text c.name.text special ≡ true) (w : Each IsDataMember c.members) (fs : Each IsFunction c.functions) (alone : ClassAlone special c)
    (fine : Fine defined (class_rules_found env c)) where
  found : Found defined env c
  found = class_found_parts defined env c fine

  pub head_names : Names p special (with_class_name env c)
  head_names = names_more p special env c.name.text (class_thing (length env.classes)) (below, named) m.names

  fields_are : (i : ℕ) (ps : List Param) → Each IsDataMember ps → Fine defined (flat_map (field_found env c) ps) →
      FieldsMeant (length p.classes) (map (field_of env c) ps) (resolve_fields env c i ps)
  fields_are i [] v f = tt
  fields_are i (x ∷ ps) v f =
      let both = fine_parts defined (field_found env c x) (flat_map (field_found env c) ps) f in
      let kind = type_kind (head_environment env c) (head_scope env (name_of x)) x.ty in
      let own = breaks_if (same_kind kind (class_kind (next_class env))) incomplete_class (type_place x) in
      let parts = fine_parts defined (type_found (head_environment env c) (head_scope env (name_of x)) x.ty) own both.0 in
      let other = not_broken defined (same_kind kind (class_kind (next_class env))) incomplete_class (type_place x) parts.1 in
      let typed = type_typed p special (head_environment env c) (head_scope env (name_of x)) x.ty m.some head_names (member_held x.ty v.0.0)
      (fine_sound defined (type_found (head_environment env c) (head_scope env (name_of x)) x.ty) parts.0) in
      (other_typed (length p.classes) (length env.classes) kind _ other typed, fields_are (i + 1) ps v.1 both.1)

  -- what the types of a function's head break
  pub method_heads : (f : Function) → Fine defined (method_found env c f) →
      Fine defined (flat_map (λ p. type_found (head_environment env c) (head_scope env f.name) p.ty) f.parameters)
  method_heads f h =
      let head = head_environment env c in
      let sc = head_scope env f.name in
      let types = head_types_found head sc f in
      let twice = params_twice [] f.parameters in
      let env' = declare_behind env (class_declaration c) in
      let inner = body_found env' (declare_params env' f.parameters (function_scope env' (Some (next_class env)) f.result)) (Some (next_class env)) f f.body in
      let whole = fine_parts defined (types ++ twice ++ inner) (definition_found env' (resolve_function head sc env' (function_scope env' (Some (next_class env)) f.result) Free f) f.body) h in
      let body = fine_parts defined (types ++ twice) inner whole.0 in
      (fine_parts defined (flat_map (λ p. type_found head sc p.ty) f.parameters) (specification_found head sc f.specification) (fine_parts defined types twice body.0).0).0

  methods_are : (i : ℕ) (before : List Signature) (gs : List Function) → Each IsFunction gs → Fine defined (flat_map (method_found env c) gs) →
      Fine defined (specials_found (next_class env) c.name.text before (map (method_of env c) gs)) →
      MethodsMeant (length p.classes) c.name.text (map (method_of env c) gs) (map (settle_function own) (resolve_methods env c i gs))
  methods_are i before [] v f s = tt
  methods_are i before (x ∷ gs) v f s =
      let both = fine_parts defined (method_found env c x) (flat_map (method_found env c) gs) f in (
        record {
          form = refl;
          result = result_kind (head_environment env c) (head_scope env x.name) x.kind x v.0.form;
          parameters = params_are p m.some defined special (head_environment env c) head_names (Some (next_class env)) (Some x.name.place) 0 x.parameters v.0.parameters
              (method_heads x both.0);
          named = constructor_named defined (next_class env) c.name.text before (map (method_of env c) gs) (method_of env c x) s;
        },
        methods_are (i + 1) (method_of env c x ∷ before) gs v.1 both.1 (fine_parts defined _ (specials_found (next_class env) c.name.text (method_of env c x ∷ before) (map (method_of env c) gs)) s).1,
      )

  base_is : (b : Option Name) → Fine defined (base_found env c b) → option_map class_named (resolve_base env c b)
      ≡ elim b [ None ↦ None | Some n ↦ other_class (next_class env) (class_of_name (with_class_name env c) outermost n) ]
  base_is None f = refl
  base_is (Some n) f =
      let kind = class_of_name (with_class_name env c) outermost n in
      let parts = fine_parts defined (class_found (with_class_name env c) outermost n) (breaks_if (same_kind kind (class_kind (next_class env))) incomplete_class n.place) f in
      let s = class_stands p special (with_class_name env c) outermost n m.some head_names (fine_sound defined (class_found (with_class_name env c) outermost n) parts.0) in
      let other = not_broken defined (same_kind kind (class_kind (next_class env))) incomplete_class n.place parts.1 in
      let differs : (s.number == next_class env) ≡ false = subst (λ k. same_kind k (class_kind (next_class env)) ≡ false) s.kind_is other in
      ap Some s.name_is ∙ sym (ap (other_class (next_class env)) s.kind_is ∙ ap (λ b. if b then None else Some s.number) differs)

  -- names apart
  field_names : (ps : List Param) → Each (λ (x : Param). has_text (name_of x).text special ≡ false) ps →
      Each (λ (f : Field). has_text f.name.text special ≡ false) (map (field_of env c) ps)
  field_names [] h = tt
  field_names (x ∷ ps) h = (h.0, field_names ps h.1)

  function_names : (gs : List Function) → Each (λ (f : Function). is_method f.kind ≡ true → has_text f.name.text special ≡ false) gs →
      Each (λ (s : Signature). is_method s.form ≡ true → has_text s.name.text special ≡ false) (map (method_of env c) gs)
  function_names [] h = tt
  function_names (f ∷ gs) h = (h.0, function_names gs h.1)

  -- a data member's name is none of a member function
  no_part : (text : List ℕ) (kind : Kind) (ps : List Param) → Each (λ (x : Param). bytes_eq (name_of x).text text ≡ false) ps → part_kind text (map (field_of env c) ps) ≡ Some kind → ⊥
  no_part text kind [] h e = absurd (cc e)
  no_part text kind (x ∷ ps) h e =
      no_part text kind ps h.1 (sym (ap (λ b. if b then Some (field_of env c x).kind else part_kind text (map (field_of env c) ps)) h.0) ∙ e)

  no_function : (text : List ℕ) (kind : Kind) → part_kind text (map (field_of env c) c.members) ≡ Some kind → (k i : ℕ) (gs : List Function) →
      Each (λ (f : Function). is_method f.kind ≡ true → Each (λ (x : Param). bytes_eq (name_of x).text f.name.text ≡ false) c.members) gs →
      method_named None text k i (map (method_of env c) gs) ≡ None
  no_function text kind e k i [] h = refl
  no_function text kind e k i (f ∷ gs) h =
      ap (λ b. if b then Some (record { place = f.name.place; meaning = a_method k i (method_of env c f) }) else method_named None text k (i + 1) (map (method_of env c) gs))
      (other (is_method f.kind) (bytes_eq f.name.text text) refl refl) ∙ no_function text kind e k (i + 1) gs h.1
    where
      other : (a b : Bool) → is_method f.kind ≡ a → bytes_eq f.name.text text ≡ b → (is_method f.kind && true && bytes_eq f.name.text text) ≡ false
      other false b q r = ap (λ x. x && true && bytes_eq f.name.text text) q
      other true false q r = ap (λ x. is_method f.kind && true && x) r ∙ ap (λ x. x && true && false) q
      other true true q r =
          let same : f.name.text ≡ text = (bytes_eq-Decides f.name.text text).0 r in
          absurd (no_part text kind c.members (subst (λ t. Each (λ (x : Param). bytes_eq (name_of x).text t ≡ false) c.members) same (h.0 q)) e)

  pub entry_meant : EntryMeant p special (length env.classes) (class_entry env c)
  entry_meant = record {
    below = below;
    base = ap (λ x. option_map class_named x.base) is ∙ base_is c.base found.base;
    fields = subst (λ x. FieldsMeant (length p.classes) (map (field_of env c) c.members) x.members) (sym is) (fields_are 0 c.members w found.fields);
    functions = subst (λ x. MethodsMeant (length p.classes) c.name.text (map (method_of env c) c.functions) x.functions) (sym is)
        (methods_are 0 [] c.functions fs found.methods found.specials);
    alone = record {
      fields = field_names c.members alone.fields;
      methods = function_names c.functions alone.methods;
      apart = λ text kind e k i. no_function text kind e k i c.functions alone.apart;
    };
    named = named;
  }

  -- the class stands behind those before it
  pub entry_last : slice_get (declare_behind env (class_declaration c)).classes (length env.classes) ≡ Some (class_entry env c)
  entry_last =
      ap (λ cs. slice_get (cs ++ (class_entry env c ∷ [])) (length env.classes)) (named_classes env c.name.text (class_thing (next_class env)))
      ∙ behind env.classes (class_entry env c ∷ []) (length env.classes) 0 (omega arith)

  pub behind_class : Meant p defined special (declare_behind env (class_declaration c))
  behind_class = record {
    some = m.some;
    classes = λ k e q.
        let here = sym (ap (λ cs. slice_get (cs ++ (class_entry env c ∷ [])) k) (named_classes env c.name.text (class_thing (next_class env)))) ∙ q in
        elim (slice_last env.classes (class_entry env c) e k here) [
          | inl h ↦ m.classes k e h
          | inr h ↦ subst (λ j. EntryMeant p special j e) (sym h.0) (subst (EntryMeant p special (length env.classes)) h.1 entry_meant)
        ];
    names = head_names;
    signatures = λ text s q. m.signatures text s
        (sym (ap (λ ss. find (λ s. bytes_eq s.name.text text) ss) (named_signatures env c.name.text (class_thing (next_class env)))) ∙ q);
    definitions = named_definitions env c.name.text (class_thing (next_class env)) ∙ m.definitions;
  }
