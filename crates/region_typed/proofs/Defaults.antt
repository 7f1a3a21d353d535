-- Objects of a class that needs no arguments can be built by default.
use Rattle.std.proofs.Common.{◌≡◌, ◌∙◌, ◌+◌, ◌<◌, ◌≤◌, ◌==◌, ◌&&◌, ◌||◌, ℕ, zero, suc, Bool, true, false, not, List, [], ◌∷◌, ◌++◌, map, length, Option, Some, None, option_map, bytes_eq, find, if◌then◌else◌, refl, sym, ap, subst, arith}
use Rattle.std.specs.Prelude.{slice_get, unwrap_or, is_some}
use Rattle.std.proofs.lemmas.List.{length-append}
use Rattle.cxx_ast.specs.declared.name.Name.{Name}
use Rattle.cxx_ast.specs.declared.types.Param.{Param}
use Rattle.cxx_ast.specs.declared.declaration.FuncKind.{FuncKind}
use Rattle.cxx_ast.specs.declared.declaration.FuncKind.TheVariants.{Plain, Method, Constructor as ConstructorKind, Destructor as DestructorKind}
use Rattle.cxx_ast.specs.Plain.{Checked, Class, Function}
use Rattle.cxx_ast.specs.Environment.{Kind, int_kind, truth_kind, void_kind, class_kind, no_kind, Field, Signature, ClassEntry, Environment}
use Rattle.cxx_ast.specs.Construct.{is_constructor_kind, is_constructor_with as selects, declares_constructor, has_default}
use Rattle.cxx_ast.specs.Declare.{have_default, base_has_default, needs_no_arguments}
use Rattle.cxx_ast.specs.Checked.{IsChecked}
use Rattle.meaning_forms.specs.Class.{ObjectType, class_type, class_named, class_at, no_class, method_at, base_part, member_part, parts_of}
use Rattle.meaning_forms.specs.Construct.{is_constructor, takes_copy, is_constructor_with, place_from, declared_or, constructor_for}
use Rattle.meaning_forms.specs.Expression.{types_of, constructor_types}
use Rattle.meaning_forms.specs.Running.{Constructor, declared, implicit_default, implicit_copy, constructor}
use Rattle.region_forms.specs.Layout.{ClassLayout, class_parts, class_layout}
use Rattle.region_forms.specs.LowerProgram.{some_constructor}
use Rattle.class_layout.specs.Fit.{IsBefore, AreBefore, FitBehind}
use Rattle.class_layout.proofs.Program.{classes_fit}
use Rattle.region_simulation.specs.Calls.{BuildsByDefault, IsCallable}
use Rattle.region_statements.specs.Members.{CanDefault}
use Rattle.region_formed.proofs.Meant.{Typed, FieldsMeant, MethodsMeant, EntryMeant}
use Rattle.region_formed.proofs.Constructors.{constructed_by}
use Rattle.region_typed.proofs.Expressions.{no_parameters}
use Rattle.region_typed.proofs.Constructors.{front_true, declared_there}
use Rattle.region_typed.proofs.Building.{some_item}

-- parts of a class are of classes before it
one_before : (n : ℕ) (types : List ObjectType) (i j : ℕ) → AreBefore n types → slice_get types i ≡ Some (class_type j) → j < n
one_before n [] zero j h e = absurd (cc e)
one_before n [] (suc i) j h e = absurd (cc e)
one_before n (t ∷ types) zero j h e = let same : t ≡ class_type j = cc e in subst (IsBefore n) same h.0
one_before n (t ∷ types) (suc i) j h e = one_before n types i j h.1 e

parts_before : (laid : List ClassLayout) (cs : List Class) (k i j : ℕ) → FitBehind laid cs → k < length cs →
    slice_get (class_parts (unwrap_or (slice_get cs k) no_class)) i ≡ Some (class_type j) → j < length laid + k
parts_before laid [] k i j h below e = absurd (omega (arith, below))
parts_before laid (c ∷ cs) zero i j h below e = let less = one_before (length laid) (class_parts c) i j h.0.before e in omega (arith, less)
parts_before laid (c ∷ cs) (suc k) i j h below e =
    let one = length-append laid (class_layout laid c ∷ []) in
    let less = parts_before (laid ++ class_layout laid c ∷ []) cs k i j h.1 (omega (arith, below)) e in
    omega (arith, one, less)

pub part_before : (p : Checked) → IsChecked p → (k i j : ℕ) → k < length p.classes → slice_get (parts_of p k) i ≡ Some (class_type j) → j < k
part_before p c k i j below e = let less = parts_before [] p.classes k i j (classes_fit p c) below e in omega (arith, less)

-- classes may stand deeper
builds_more : (n m : ℕ) (p : Checked) (k : ℕ) → n ≤ m → BuildsByDefault n p k → BuildsByDefault m p k
builds_more zero m p k le h = absurd h
builds_more (suc n) zero p k le h = absurd (omega (arith, le))
builds_more (suc n) (suc m) p k le h = λ i j at. ((h i j at).0, go j (λ q. builds_more n m p j (omega (arith, le)) q) (constructor_for p j 0) (h i j at).1)
  where
    go : (j : ℕ) → (BuildsByDefault n p j → BuildsByDefault m p j) → (x : Constructor) → elim x as (λ y. Type 0) [
      | declared i ↦ Unit {0}
      | implicit_default ↦ (some_constructor (class_at p j).functions ≡ false) × BuildsByDefault n p j
      | implicit_copy ↦ ⊥
    ] → elim x as (λ y. Type 0) [
      | declared i ↦ Unit {0}
      | implicit_default ↦ (some_constructor (class_at p j).functions ≡ false) × BuildsByDefault m p j
      | implicit_copy ↦ ⊥
    ]
    go j deeper (declared i) q = tt
    go j deeper implicit_default q = (q.0, deeper q.1)
    go j deeper implicit_copy q = absurd q

-- the constructor for no arguments is declared without parameters, or implicit and can be called, where classes stand at most n deep
abbrev pub BuiltBy : ℕ → Checked → ℕ → Constructor → Type 0
BuiltBy n p k (declared i) = (i < length (class_at p k).functions) × (is_constructor (method_at p k i).kind ≡ true) × ((method_at p k i).parameters ≡ [])
BuiltBy n p k implicit_default = (some_constructor (class_at p k).functions ≡ false) × BuildsByDefault n p k
BuiltBy n p k implicit_copy = ⊥

pub can_default : (p : Checked) (k n : ℕ) → k < length p.classes → n ≤ length p.classes → BuiltBy n p k (constructor_for p k 0) → CanDefault p k
can_default p k n below le h = record { there = there (constructor_for p k 0) h; none = none (constructor_for p k 0) h }
  where
    there : (x : Constructor) → BuiltBy n p k x → IsCallable p (constructor k x)
    there (declared i) q = (below, q.0, q.1)
    there implicit_default q = (below, q.0, builds_more n (length p.classes) p k le q.1)
    there implicit_copy q = absurd q

    none : (x : Constructor) → BuiltBy n p k x → constructor_types p k x ≡ []
    none (declared i) q = ap types_of q.2
    none implicit_default q = refl
    none implicit_copy q = absurd q

-- a class without a declared constructor has an implicit one
constructor_form : (form : FuncKind) → is_constructor_kind form ≡ is_constructor form
constructor_form Plain = refl
constructor_form Method = refl
constructor_form ConstructorKind = refl
constructor_form DestructorKind = refl

either_false : (a b : Bool) → (a || b) ≡ false → (a ≡ false) × (b ≡ false)
either_false true b h = absurd (cc h)
either_false false b h = (refl, h)

none_declared : (n : ℕ) (text : List ℕ) (ss : List Signature) (fs : List Function) → MethodsMeant n text ss fs → declares_constructor text ss ≡ false → some_constructor fs ≡ false
none_declared n text [] [] h e = refl
none_declared n text [] (f ∷ fs) h e = absurd h
none_declared n text (s ∷ ss) [] h e = absurd h
none_declared n text (s ∷ ss) (f ∷ fs) h e =
    let parts = either_false _ (declares_constructor text ss) e in
    let form = constructor_form s.form ∙ ap is_constructor h.0.form in
    ap (λ b. if b then true else some_constructor fs) (sym form ∙ go (is_constructor_kind s.form) refl parts.0) ∙ none_declared n text ss fs h.1 parts.1
  where
    go : (b : Bool) → is_constructor_kind s.form ≡ b → (b && bytes_eq s.name.text text) ≡ false → b ≡ false
    go true q w = absurd (cc (sym (h.0.named q) ∙ w))
    go false q w = refl

none_found : (n k count : ℕ) (fs : List Function) → some_constructor fs ≡ false → place_from n (is_constructor_with k count) fs ≡ None
none_found n k count [] h = refl
none_found n k count (f ∷ fs) h = go (is_constructor f.kind) refl h (none_found (n + 1) k count fs)
  where
    go : (b : Bool) → is_constructor f.kind ≡ b → (if b then true else some_constructor fs) ≡ false →
        (some_constructor fs ≡ false → place_from (n + 1) (is_constructor_with k count) fs ≡ None) →
        (if is_constructor_with k count f then Some n else place_from (n + 1) (is_constructor_with k count) fs) ≡ None
    go true q w rest = absurd (cc w)
    go false q w rest =
        ap (λ b. if b && (not (takes_copy k f.parameters) && length f.parameters == count) then Some n else place_from (n + 1) (is_constructor_with k count) fs) q ∙ rest w

-- a data member that is an object needs no arguments where no member does
pub class_of_kind : (n : ℕ) (kind : Kind) (j : ℕ) → Typed n kind (class_type j) → kind ≡ class_kind j
class_of_kind n (class_kind i) j h = let same : j ≡ i = cc h.0 in ap class_kind (sym same)
class_of_kind n int_kind j h = absurd (cc h)
class_of_kind n truth_kind j h = absurd h
class_of_kind n void_kind j h = absurd h
class_of_kind n no_kind j h = absurd h

back_true : (a b : Bool) → (a && b) ≡ true → b ≡ true
back_true true b h = h
back_true false b h = absurd (cc h)

field_default : (n : ℕ) (env : Environment) (fs : List Field) (ms : List Param) (i j : ℕ) → FieldsMeant n fs ms → slice_get (map member_part ms) i ≡ Some (class_type j) →
    have_default env fs ≡ true → has_default env j ≡ true
field_default n env [] [] zero j h e d = absurd (cc e)
field_default n env [] [] (suc i) j h e d = absurd (cc e)
field_default n env [] (m ∷ ms) i j h e d = absurd h
field_default n env (f ∷ fs) [] i j h e d = absurd h
field_default n env (f ∷ fs) (m ∷ ms) zero j h e d =
    let same : member_part m ≡ class_type j = cc e in
    let kind = class_of_kind n f.kind j (subst (Typed n f.kind) same h.0) in
    sym (ap (λ k. elim k as (λ x. Bool) [ class_kind c ↦ has_default env c | _ ↦ true ]) kind) ∙ front_true _ (have_default env fs) d
field_default n env (f ∷ fs) (m ∷ ms) (suc i) j h e d = field_default n env fs ms i j h.1 e (back_true _ (have_default env fs) d)

-- objects of known classes that need no arguments
abbrev pub DefaultsKnown : Checked → Environment → Type 0
DefaultsKnown p env = (k : ℕ) (c : ClassEntry) → slice_get env.classes k ≡ Some c → c.has_default ≡ true → (k < length p.classes) × BuiltBy (suc k) p k (constructor_for p k 0)

module _ (p : Checked) (checked : IsChecked p) (special : List (List ℕ)) (env : Environment) (known : DefaultsKnown p env) (k : ℕ) (count : k ≡ length env.classes) (c : ClassEntry)
    (m : EntryMeant p special k c) where
  -- a part of the class
  part_default : (i j : ℕ) → slice_get (parts_of p k) i ≡ Some (class_type j) → (base_has_default env c.base && have_default env c.fields) ≡ true → has_default env j ≡ true
  part_default i j at d = by (class_at p k).base refl at
    where
      of_base : (x : Name) → (class_at p k).base ≡ Some x → class_named x ≡ j → has_default env j ≡ true
      of_base x e same =
          let base : c.base ≡ Some j = sym m.base ∙ (ap (option_map class_named) e ∙ ap Some same) in
          sym (ap (base_has_default env) base) ∙ front_true (base_has_default env c.base) (have_default env c.fields) d

      fields : (n : ℕ) → slice_get (map member_part (class_at p k).members) n ≡ Some (class_type j) → has_default env j ≡ true
      fields n e = field_default (length p.classes) env c.fields (class_at p k).members n j m.fields e (back_true (base_has_default env c.base) (have_default env c.fields) d)

      of_some : (x : Name) → (class_at p k).base ≡ Some x → (n : ℕ) → slice_get (class_type (class_named x) ∷ map member_part (class_at p k).members) n ≡ Some (class_type j) → has_default env j ≡ true
      of_some x e zero q = let same : class_type (class_named x) ≡ class_type j = cc q in of_base x e (cc same)
      of_some x e (suc n) q = fields n q

      by : (b : Option Name) → (class_at p k).base ≡ b → slice_get (base_part b ++ map member_part (class_at p k).members) i ≡ Some (class_type j) → has_default env j ≡ true
      by None e q = fields i q
      by (Some x) e q = of_some x e i q

  -- an implicit default constructor
  implicit : some_constructor (class_at p k).functions ≡ false → (base_has_default env c.base && have_default env c.fields) ≡ true → BuiltBy (suc k) p k implicit_default
  implicit none d = (none, λ i j at. part i j at (part_before p checked k i j m.below at))
    where
      deeper : (j : ℕ) → suc j ≤ k → (x : Constructor) → BuiltBy (suc j) p j x → elim x as (λ y. Type 0) [
        | declared i ↦ Unit {0}
        | implicit_default ↦ (some_constructor (class_at p j).functions ≡ false) × BuildsByDefault k p j
        | implicit_copy ↦ ⊥
      ]
      deeper j le (declared i) q = tt
      deeper j le implicit_default q = (q.0, builds_more (suc j) k p j le q.1)
      deeper j le implicit_copy q = absurd q

      part : (i j : ℕ) → slice_get (parts_of p k) i ≡ Some (class_type j) → j < k → (j < length p.classes) × elim (constructor_for p j 0) as (λ y. Type 0) [
        | declared i ↦ Unit {0}
        | implicit_default ↦ (some_constructor (class_at p j).functions ≡ false) × BuildsByDefault k p j
        | implicit_copy ↦ ⊥
      ]
      part i j at less =
          let x = some_item env.classes j (omega (arith, less, count)) in
          let needs = part_default i j at d in
          let own = known j x.0 x.1 (sym (ap (λ y. elim y as (λ z. Bool) [ None ↦ true | Some e ↦ e.has_default ]) x.1) ∙ needs) in
          (own.0, deeper j (omega (arith, less)) (constructor_for p j 0) own.1)

  -- the class that is declared next
  pub built_next : c.has_default ≡ needs_no_arguments env k c.name c.base c.fields c.functions → c.has_default ≡ true → (k < length p.classes) × BuiltBy (suc k) p k (constructor_for p k 0)
  built_next is h = (m.below, by (declares_constructor c.name c.functions) refl (sym is ∙ h))
    where
      selected : (x : Option Signature) → find (selects k c.name 0) c.functions ≡ x → is_some x ≡ true → BuiltBy (suc k) p k (constructor_for p k 0)
      selected None e q = absurd (cc q)
      selected (Some s) e q =
          let x = constructed_by p special k 0 c s m e in
          let there = declared_there p k x.place (is_constructor_with k 0) x.found in
          subst (BuiltBy (suc k) p k) (sym (ap (declared_or implicit_default) x.found))
          (there.0, front_true (is_constructor (method_at p k x.place).kind) _ there.1, no_parameters (length p.classes) s.parameters (method_at p k x.place).parameters x.parameters x.counted)

      by : (b : Bool) → declares_constructor c.name c.functions ≡ b →
          (if b then is_some (find (selects k c.name 0) c.functions) else base_has_default env c.base && have_default env c.fields) ≡ true → BuiltBy (suc k) p k (constructor_for p k 0)
      by true e q = selected (find (selects k c.name 0) c.functions) refl q
      by false e q =
          let none = none_declared (length p.classes) c.name c.functions (class_at p k).functions m.functions e in
          subst (BuiltBy (suc k) p k) (sym (ap (declared_or implicit_default) (none_found 0 k 0 (class_at p k).functions none))) (implicit none q)
