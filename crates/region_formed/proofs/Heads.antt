-- The types of parameters, which are sought in a function's head, and their variables, which are in reach in its body.
use Rattle.std.proofs.Common.{◌≡◌, ◌∙◌, ◌+◌, ◌<◌, ℕ, Bool, true, false, List, [], ◌∷◌, ◌++◌, map, length, Option, Some, None, bytes_eq, codes, find, if◌then◌else◌, refl, sym, ap, subst}
use Rattle.std.specs.Prelude.{flat_map}
use Rattle.std.proofs.lemmas.Slice.Eq.{bytes_eq-Decides}
use Rattle.cxx_ast.specs.declared.name.Name.{Name}
use Rattle.cxx_ast.specs.declared.name.Builtin.TheVariants.{WriteInt, ReadByte, Exit, Module, Cancel}
use Rattle.cxx_ast.specs.declared.types.Ty.{Ty}
use Rattle.cxx_ast.specs.declared.types.Ty.TheVariants.{Int, Void, Object, IntRef, ObjectRef}
use Rattle.cxx_ast.specs.declared.types.Param.{Param}
use Rattle.cxx_ast.specs.Plain.{Checked}
use Rattle.cxx_ast.specs.Spelling.{is_bad_exception}
use Rattle.cxx_ast.specs.Environment.{class_kind, Thing, global_thing, class_thing, function_thing, Entry, Environment, Signature, Variable, Scope, Meaning, unknown, a_local, a_field, a_method, a_global, a_function, a_class, a_builtin}
use Rattle.cxx_ast.specs.Lookup.{variable_named, own_meaning, builtin_named, function_meaning, thing_meaning, entry_of, outer_meaning, look}
use Rattle.cxx_ast.specs.TypeNames.{class_meant, class_wanted, class_of_name, class_found, type_kind, type_found, is_reference, is_const, passing}
use Rattle.cxx_ast.specs.Locals.{has_variable, with_variable, declare_param, declare_params}
use Rattle.cxx_ast.specs.FunctionRules.{has_text}
use Rattle.cxx_ast.specs.Resolve.{resolve_type, resolve_params}
use Rattle.cxx_ast.specs.Grammatical.{Each, IsParamType, IsParam}
use Rattle.meaning_forms.specs.Class.{object_type}
use Rattle.meaning_forms.specs.Expression.{is_reference as refers_to, types_of}
use Rattle.region_formed.proofs.Fine.{Fine, fine_parts, fine_sound}
use Rattle.region_formed.proofs.Meant.{Typed, IsHeld, IsPassed, ParamsMeant, ThingMeant, Given, classes_in, Reach}
use Rattle.region_formed.proofs.Meanings.{found_each, found_passes}
use Rattle.region_formed.proofs.Alone.{texts_differ, own_unknown}
use Rattle.region_formed.proofs.Members.{NotClass, own_not_class}
use Rattle.region_formed.proofs.Scopes.{look_by, type_by}
use Rattle.region_formed.proofs.Types.{type_typed, held_same, From, from_first, from_back}
use Rattle.region_formed.proofs.Statements.{param_reaches}

-- where a function's head stands, without variables, behind so many parameters
abbrev pub heading : Option ℕ → Option ℕ → ℕ → Scope
heading own limit n = record { locals = []; next = n; own = own; limit = limit; gives_value = false; in_loop = false }

pub next_heading : (head : Environment) (own limit : Option ℕ) (n : ℕ) (p : Param) → declare_param head p (heading own limit n) ≡ heading own limit (n + 1)
next_heading head own limit n p = go p.name
  where
    go : (x : Option Name) → declare_param head (record p { name = x }) (heading own limit n) ≡ heading own limit (n + 1)
    go None = refl
    go (Some x) = refl

heading_look : (head : Environment) (own limit : Option ℕ) (n m : ℕ) (x : Name) → look head (heading own limit n) x ≡ look head (heading own limit m) x
heading_look head own limit n m x = look_by head (heading own limit n) (heading own limit m) x refl refl

-- a parameter's type
param_held : (t : Ty) → IsParamType t → IsHeld t
param_held Int h = tt
param_held Void h = h
param_held (Object n) h = tt
param_held (IntRef const) h = tt
param_held (ObjectRef const n) h = tt

pub param_passed : (head : Environment) (sc : Scope) (t : Ty) → IsParamType t → IsPassed (resolve_type head sc t)
param_passed head sc Int h = tt
param_passed head sc Void h = h
param_passed head sc (Object n) h = h
param_passed head sc (IntRef const) h = tt
param_passed head sc (ObjectRef const n) h = tt

pub same_reference : (head : Environment) (sc : Scope) (t : Ty) → is_reference t ≡ refers_to (resolve_type head sc t)
same_reference head sc Int = refl
same_reference head sc Void = refl
same_reference head sc (Object n) = refl
same_reference head sc (IntRef const) = refl
same_reference head sc (ObjectRef const n) = refl

same_const : (head : Environment) (sc : Scope) (t : Ty) → is_const t ≡ is_const (resolve_type head sc t)
same_const head sc Int = refl
same_const head sc Void = refl
same_const head sc (Object n) = refl
same_const head sc (IntRef const) = refl
same_const head sc (ObjectRef const n) = refl

-- the names of a head
abbrev pub Names : Checked → List (List ℕ) → Environment → Type 0
Names p special head = Each (λ (e : Entry). ThingMeant p special e.text e.thing) head.names

module _ (p : Checked) (some : 0 < length p.classes) (defined special : List (List ℕ)) (head : Environment) (names : Names p special head) (own limit : Option ℕ) where
  pub head_typed : (n : ℕ) (t : Ty) → IsHeld t → Fine defined (type_found head (heading own limit 0) t) →
      Typed (length p.classes) (type_kind head (heading own limit 0) t) (object_type (resolve_type head (heading own limit n) t))
  head_typed n t held f =
      subst (λ u. Typed (length p.classes) (type_kind head (heading own limit 0) t) (object_type u))
      (type_by head (heading own limit 0) (heading own limit n) (heading_look head own limit 0 n) t)
      (type_typed p special head (heading own limit 0) t some names held (fine_sound defined (type_found head (heading own limit 0) t) f))

  -- the parameters of a declaration, by those of the program
  pub params_are : (n : ℕ) (ps : List Param) → Each IsParam ps → Fine defined (flat_map (λ p. type_found head (heading own limit 0) p.ty) ps) →
      ParamsMeant (length p.classes) (map (passing head (heading own limit 0)) ps) (resolve_params head (heading own limit n) ps)
  params_are n [] w f = tt
  params_are n (x ∷ ps) w f =
      let parts = fine_parts defined (type_found head (heading own limit 0) x.ty) (flat_map (λ p. type_found head (heading own limit 0) p.ty) ps) f in (
        record {
          reference = same_reference head (heading own limit n) x.ty;
          const = same_const head (heading own limit n) x.ty;
          typed = head_typed n x.ty (param_held x.ty w.0) parts.0;
          passed = param_passed head (heading own limit n) x.ty w.0;
        },
        subst (λ sc. ParamsMeant (length p.classes) (map (passing head (heading own limit 0)) ps) (resolve_params head sc ps)) (sym (next_heading head own limit n x))
            (params_are (n + 1) ps w.1 parts.1),
      )

-- a name is none of a class
abbrev pub NameAlone : List (List ℕ) → Option Name → Type 0
NameAlone special None = Unit {0}
NameAlone special (Some n) = has_text n.text special ≡ false

-- so are those of variables in reach
abbrev Strangers : List (List ℕ) → List (List Variable) → Type 0
Strangers special rows = Each (Each (λ (v : Variable). has_text v.text special ≡ false)) rows

no_variable : (special : List (List ℕ)) (text : List ℕ) → has_text text special ≡ true → (rows : List (List Variable)) → Strangers special rows → variable_named text rows ≡ None
no_variable special text h [] a = refl
no_variable special text h (row ∷ rows) a =
    ap (λ o. elim o as (λ x. Option Variable) [ Some v ↦ Some v | None ↦ variable_named text rows ]) (none row a.0) ∙ no_variable special text h rows a.1
  where
    none : (row : List Variable) → Each (λ (v : Variable). has_text v.text special ≡ false) row → find (λ v. bytes_eq v.text text) row ≡ None
    none [] b = refl
    none (v ∷ row) b = ap (λ x. if x then Some v else find (λ v. bytes_eq v.text text) row) (texts_differ special text v.text h b.0) ∙ none row b.1

strangers_more : (special : List (List ℕ)) (v : Variable) (rows : List (List Variable)) → has_text v.text special ≡ false → Strangers special rows →
    Strangers special (with_variable v rows)
strangers_more special v [] m h = tt
strangers_more special v (row ∷ rows) m h = go (has_variable v.text row)
  where
    last : (row : List Variable) → Each (λ (v : Variable). has_text v.text special ≡ false) row → Each (λ (v : Variable). has_text v.text special ≡ false) (row ++ (v ∷ []))
    last [] k = (m, tt)
    last (w ∷ row) k = (k.0, last row k.1)

    go : (b : Bool) → Strangers special (if b then row ∷ rows else (row ++ (v ∷ [])) ∷ rows)
    go true = h
    go false = (last row h.0, h.1)

-- a class that a name means in a head
record ClassEntryFor (head : Environment) (text : List ℕ) (k : ℕ) : Type 0 where
  entry : Entry
  there : entry_of head text ≡ Some entry
  is : entry.thing ≡ class_thing k

module _ (head : Environment) (sc : Scope) (text : List ℕ) (k : ℕ) where
  of_thing : (o : Option Entry) → entry_of head text ≡ o → thing_meaning head text o ≡ a_class k → ClassEntryFor head text k
  of_thing None q h = absurd (builtin text h)
    where
      builtin : (text : List ℕ) → builtin_named text ≡ a_class k → ⊥
      builtin text h = go (bytes_eq text (codes "write_int")) (bytes_eq text (codes "read_byte")) (bytes_eq text (codes "exit")) (bytes_eq text (codes "__module")) (bytes_eq text (codes "__cancel")) h
        where
          go : (a b c d e : Bool) → (if a then a_builtin WriteInt else if b then a_builtin ReadByte else if c then a_builtin Exit
              else if d then a_builtin Module else if e then a_builtin Cancel else unknown) ≡ a_class k → ⊥
          go true b c d e h = absurd (cc h)
          go false true c d e h = absurd (cc h)
          go false false true d e h = absurd (cc h)
          go false false false true e h = absurd (cc h)
          go false false false false true h = absurd (cc h)
          go false false false false false h = absurd (cc h)
  of_thing (Some e) q h = go e.thing refl h
    where
      function : (o : Option Signature) → function_meaning o ≡ a_class k → ⊥
      function None h = absurd (cc h)
      function (Some s) h = absurd (cc h)

      go : (t : Thing) → e.thing ≡ t → elim t as (λ x. Meaning) [
        | global_thing n ↦ a_global n
        | class_thing j ↦ a_class j
        | function_thing ↦ function_meaning (find (λ s. bytes_eq s.name.text text) head.signatures)
      ] ≡ a_class k → ClassEntryFor head text k
      go (global_thing n) i y = absurd (cc y)
      go (class_thing j) i y = let same : j ≡ k = cc y in record { entry = e; there = q; is = i ∙ ap class_thing same }
      go function_thing i y = absurd (function (find (λ s. bytes_eq s.name.text text) head.signatures) y)

  of_outer : (m : Meaning) → NotClass m → outer_meaning head sc text m ≡ a_class k → ClassEntryFor head text k
  of_outer unknown n h = of_thing (entry_of head text) refl h
  of_outer (a_local v) n h = absurd (cc h)
  of_outer (a_field i j kind) n h = absurd (cc h)
  of_outer (a_method i j s) n h = absurd (cc h)
  of_outer (a_global x) n h = absurd (cc h)
  of_outer (a_function s) n h = absurd (cc h)
  of_outer (a_class i) n h = absurd n
  of_outer (a_builtin b) n h = absurd (cc h)

-- a class that a parameter's type names in a head is the one that it names in the body
module _ (g : Given) (head : Environment) (own limit : Option ℕ)
    (kept : (text : List ℕ) (e : Entry) → entry_of head text ≡ Some e → entry_of g.env text ≡ Some e) where
  body_look : (sc : Scope) → Strangers g.special sc.locals → (n : Name) (k : ℕ) → look head (heading own limit 0) n ≡ a_class k → look g.env sc n ≡ a_class k
  body_look sc a n k h =
      let c = of_outer head (heading own limit 0) n.text k (own_meaning head (heading own limit 0) n.text) (own_not_class head (heading own limit 0) n.text) h in
      let there = kept n.text c.entry c.there in
      let meant = found_each (λ (e : Entry). ThingMeant g.program g.special e.text e.thing) (λ e. bytes_eq e.text n.text) g.env.names c.entry g.meant.names there in
      let named : c.entry.text ≡ n.text = (bytes_eq-Decides c.entry.text n.text).0 (found_passes (λ (e : Entry). bytes_eq e.text n.text) g.env.names c.entry there) in
      let class = subst (λ t. ThingMeant g.program g.special c.entry.text t) c.is meant in
      let special = subst (λ t. has_text t g.special ≡ true) named class.1 in
      let none = own_unknown g.program g.defined g.special g.env g.meant n.text special sc in
      ap (λ o. elim o as (λ x. Meaning) [ Some v ↦ a_local v | None ↦ outer_meaning g.env sc n.text (own_meaning g.env sc n.text) ])
      (no_variable g.special n.text special sc.locals a)
      ∙ (ap (outer_meaning g.env sc n.text) none
      ∙ (ap (thing_meaning g.env n.text) there
      ∙ ap (λ t. elim t as (λ x. Meaning) [
        | global_thing n ↦ a_global n
        | class_thing j ↦ a_class j
        | function_thing ↦ function_meaning (find (λ s. bytes_eq s.name.text n.text) g.env.signatures)
      ]) c.is))

  body_class : (sc : Scope) → Strangers g.special sc.locals → (n : Name) → Fine g.defined (class_found head (heading own limit 0) n) →
      class_of_name head (heading own limit 0) n ≡ class_of_name g.env sc n
  body_class sc a n f = go (is_bad_exception n) (look head (heading own limit 0) n) refl f
    where
      go : (b : Bool) (m : Meaning) → look head (heading own limit 0) n ≡ m → Fine g.defined (if b then [] else class_wanted n.place m) →
          (if b then class_kind 0 else class_meant m) ≡ (if b then class_kind 0 else class_meant (look g.env sc n))
      go true m e h = refl
      go false (a_class k) e h = ap class_meant (sym (body_look sc a n k e))
      go false unknown e h = absurd h
      go false (a_local v) e h = absurd h
      go false (a_field i j kind) e h = absurd h
      go false (a_method i j s) e h = absurd h
      go false (a_global x) e h = absurd h
      go false (a_function s) e h = absurd h
      go false (a_builtin b) e h = absurd h

  body_kind : (sc : Scope) → Strangers g.special sc.locals → (t : Ty) → Fine g.defined (type_found head (heading own limit 0) t) →
      type_kind head (heading own limit 0) t ≡ type_kind g.env sc t
  body_kind sc a Int f = refl
  body_kind sc a Void f = refl
  body_kind sc a (IntRef const) f = refl
  body_kind sc a (Object n) f = body_class sc a n f
  body_kind sc a (ObjectRef const n) f = body_class sc a n f

  module _ (names : Names g.program g.special head) where
    stranger_declared : (sc : Scope) (p : Param) → NameAlone g.special p.name → Strangers g.special sc.locals → Strangers g.special (declare_param g.env p sc).locals
    stranger_declared sc p h a = go p.name h
      where
        go : (x : Option Name) → NameAlone g.special x → Strangers g.special (declare_param g.env (record p { name = x }) sc).locals
        go None h = a
        go (Some x) h = strangers_more g.special (record { text = x.text; kind = type_kind g.env sc p.ty; is_const = is_const p.ty; number = sc.next }) sc.locals h a

    next_declared : (sc : Scope) (p : Param) → (declare_param g.env p sc).next ≡ sc.next + 1
    next_declared sc p = go p.name
      where
        go : (x : Option Name) → (declare_param g.env (record p { name = x }) sc).next ≡ sc.next + 1
        go None = refl
        go (Some x) = refl

    -- parameters are in reach in the body
    pub params_reach : (ps : List Param) → Each IsParam ps → Each (λ (p : Param). NameAlone g.special p.name) ps →
        Fine g.defined (flat_map (λ p. type_found head (heading own limit 0) p.ty) ps) → (n : ℕ) (sc : Scope) → Reach g sc → Strangers g.special sc.locals →
        From g sc.next (types_of (resolve_params head (heading own limit n) ps)) → Reach g (declare_params g.env ps sc)
    params_reach [] w a f n sc r s v = r
    params_reach (p ∷ ps) w a f n sc r s v =
        let parts = fine_parts g.defined (type_found head (heading own limit 0) p.ty) (flat_map (λ p. type_found head (heading own limit 0) p.ty) ps) f in
        let held = param_held p.ty w.0 in
        let t = resolve_type head (heading own limit n) p.ty in
        let typed = head_typed g.program g.meant.some g.defined g.special head names own limit n p.ty held parts.0 in
        let next = next_declared sc p in
        let behind : From g (declare_param g.env p sc).next (types_of (resolve_params head (declare_param head p (heading own limit n)) ps)) =
        from_back (declare_param g.env p sc).next (t ∷ []) _ next v in
        params_reach ps w.1 a.1 parts.1 (n + 1) (declare_param g.env p sc)
        (param_reaches g sc p t r (from_first v) (subst (λ k. Typed (classes_in g) k (object_type t)) (body_kind sc s p.ty parts.0) typed)
        (held_same head (heading own limit n) p.ty held))
        (stranger_declared sc p a.0 s)
        (subst (λ there. From g (declare_param g.env p sc).next (types_of (resolve_params head there ps))) (next_heading head own limit n p) behind)
