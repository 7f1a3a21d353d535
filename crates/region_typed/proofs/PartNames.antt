-- The part of an object that an initialiser names.
use Rattle.std.proofs.Common.{◌≡◌, ◌∙◌, ◌+◌, ◌==◌, ℕ, zero, suc, Bool, true, false, List, [], ◌∷◌, ◌++◌, map, length, Option, Some, None, option_map, bytes_eq, find, codes, if◌then◌else◌, refl, sym, ap, ap₂, subst, arith}
use Rattle.std.specs.Prelude.{slice_get}
use Rattle.std.proofs.lemmas.Bool.Decides.{nat_tests}
use Rattle.std.proofs.lemmas.Slice.Eq.{bytes_eq-Decides}
use Rattle.cxx_ast.specs.declared.name.Name.{Name}
use Rattle.cxx_ast.specs.declared.name.Bound.{Bound}
use Rattle.cxx_ast.specs.declared.name.Bound.TheVariants.{Field}
use Rattle.cxx_ast.specs.declared.name.Builtin.TheVariants.{WriteInt, ReadByte, Exit, Module, Cancel}
use Rattle.cxx_ast.specs.declared.types.Param.{Param}
use Rattle.cxx_ast.specs.Environment.{Kind, class_kind, Field as FieldEntry, ClassEntry, Thing, global_thing, class_thing, function_thing, Entry, Environment, Signature, Variable, Scope, Meaning, unknown, a_local, a_field, a_global, a_class, a_builtin}
use Rattle.cxx_ast.specs.Lookup.{variable_named, Found, field_named, method_named, first_of_two, member_of, own_meaning, builtin_named, function_meaning, thing_meaning, entry_of, outer_meaning, look}
use Rattle.meaning_forms.specs.Class.{ObjectType, class_type, class_named, object_type, class_at, base_part, member_part, parts_of, member_place}
use Rattle.meaning_forms.specs.Call.{place_named}
use Rattle.region_formed.proofs.Meant.{Typed, FieldsMeant, EntryMeant, Given, classes_in}
use Rattle.region_formed.proofs.Slots.{behind}
use Rattle.region_formed.proofs.Alone.{own_unknown}
use Rattle.cxx_ast.specs.Plain.{Checked}
use Rattle.cxx_ast.specs.FunctionRules.{has_text, part_kind, is_called, base_part as named_base, named_part}
use Rattle.cxx_ast.specs.Resolve.{bound_of}

-- the data member that a name has stands among the members
pub record FieldPlace (n k i : ℕ) (text : List ℕ) (kind : Kind) (fs : List FieldEntry) (ms : List Param) : Type 0 where
  pub number : ℕ
  pub found : Found
  pub is : field_named None text k i fs ≡ Some found
  pub means : found.meaning ≡ a_field k (i + number) kind
  pub type : ObjectType
  pub at : slice_get (map member_part ms) number ≡ Some type
  pub typed : Typed n kind type

pub field_place : (n k i : ℕ) (text : List ℕ) (kind : Kind) (fs : List FieldEntry) (ms : List Param) → FieldsMeant n fs ms → part_kind text fs ≡ Some kind →
    FieldPlace n k i text kind fs ms
field_place n k i text kind [] ms h e = absurd (cc e)
field_place n k i text kind (f ∷ fs) [] h e = absurd h
field_place n k i text kind (f ∷ fs) (m ∷ ms) h e = go (bytes_eq f.name.text text) refl e (field_place n k (i + 1) text kind fs ms h.1)
  where
    go : (b : Bool) → bytes_eq f.name.text text ≡ b → (if b then Some f.kind else part_kind text fs) ≡ Some kind →
        (part_kind text fs ≡ Some kind → FieldPlace n k (i + 1) text kind fs ms) → FieldPlace n k i text kind (f ∷ fs) (m ∷ ms)
    go true t q rest =
        let same : f.kind ≡ kind = cc q in
        let none : i ≡ i + 0 = omega arith in
        record {
          number = 0;
          found = record { place = f.name.place; meaning = a_field k i f.kind };
          is = ap (λ b. if b then Some (record { place = f.name.place; meaning = a_field k i f.kind }) else field_named None text k (i + 1) fs) t;
          means = ap (a_field k i) same ∙ ap (λ j. a_field k j kind) none;
          type = object_type m.ty;
          at = refl;
          typed = subst (λ x. Typed n x (object_type m.ty)) same h.0;
        }
    go false t q rest =
        let r = rest q in
        let more : i + 1 + r.number ≡ i + suc r.number = omega arith in
        record {
          number = suc r.number;
          found = r.found;
          is = ap (λ b. if b then Some (record { place = f.name.place; meaning = a_field k i f.kind }) else field_named None text k (i + 1) fs) t ∙ r.is;
          means = r.means ∙ ap (λ j. a_field k j kind) more;
          type = r.type;
          at = r.at;
          typed = r.typed;
        }

-- a name that no member has is bound to no member
module _ (p : Checked) (env : Environment) (sc : Scope) where
  abbrev First : Meaning → Type 0
  First m = place_named p (bound_of env m) ≡ 0

  builtin_first : (text : List ℕ) → First (builtin_named text)
  builtin_first text = go (bytes_eq text (codes "write_int")) (bytes_eq text (codes "read_byte")) (bytes_eq text (codes "exit")) (bytes_eq text (codes "__module")) (bytes_eq text (codes "__cancel"))
    where
      go : (a b c d e : Bool) → First (if a then a_builtin WriteInt else if b then a_builtin ReadByte else if c then a_builtin Exit
          else if d then a_builtin Module else if e then a_builtin Cancel else unknown)
      go true b c d e = refl
      go false true c d e = refl
      go false false true d e = refl
      go false false false true e = refl
      go false false false false true = refl
      go false false false false false = refl

  thing_first : (text : List ℕ) (o : Option Entry) → First (thing_meaning env text o)
  thing_first text None = builtin_first text
  thing_first text (Some e) = go e.thing
    where
      function_first : (o : Option Signature) → First (function_meaning o)
      function_first None = refl
      function_first (Some s) = refl

      go : (t : Thing) → First (elim t [
        | global_thing n ↦ a_global n
        | class_thing k ↦ a_class k
        | function_thing ↦ function_meaning (find (λ s. bytes_eq s.name.text text) env.signatures)
      ])
      go (global_thing n) = refl
      go (class_thing k) = refl
      go function_thing = function_first (find (λ s. bytes_eq s.name.text text) env.signatures)

  pub look_first : (n : Name) → own_meaning env sc n.text ≡ unknown → First (look env sc n)
  look_first n h = go (variable_named n.text sc.locals)
    where
      go : (o : Option Variable) → First (elim o [ Some v ↦ a_local v | None ↦ outer_meaning env sc n.text (own_meaning env sc n.text) ])
      go (Some v) = refl
      go None = subst (λ m. First (outer_meaning env sc n.text m)) (sym h) (thing_first n.text (entry_of env n.text))

-- a constructor of class k
module _ (g : Given) (sc : Scope) (k : ℕ) (own : sc.own ≡ Some k) (all : sc.limit ≡ None)
    (c : ClassEntry) (is : slice_get g.env.classes k ≡ Some c) where
  pub m : EntryMeant g.program g.special k c
  m = g.meant.classes k c is

  -- what the names of initialisers are bound to
  abbrev pub initial_bound : Name → Bound
  initial_bound n = elim (own_meaning g.env sc n.text) [ unknown ↦ bound_of g.env (look g.env sc n) | y ↦ bound_of g.env y ]

  pub own_is : (text : List ℕ) → own_meaning g.env sc text ≡ member_of (length g.env.classes) g.env k None text
  own_is text =
      ap (λ o. elim o as (λ x. Meaning) [ None ↦ unknown | Some j ↦ member_of (length g.env.classes) g.env j sc.limit text ]) own
      ∙ ap (λ l. member_of (length g.env.classes) g.env k l text) all

  abbrev inherited : ℕ → List ℕ → Option ℕ → Meaning
  inherited n text base = elim base [ None ↦ unknown | Some b ↦ member_of n g.env b None text ]

  pub member_is : (n : ℕ) (text : List ℕ) (kind : Kind) → length g.env.classes ≡ suc n → part_kind text c.fields ≡ Some kind →
      (x : FieldPlace (classes_in g) k 0 text kind c.fields (class_at g.program k).members) → own_meaning g.env sc text ≡ a_field k (0 + x.number) kind
  member_is n text kind count e x =
      own_is text ∙ (ap (λ j. member_of j g.env k None text) count
      ∙ (ap (λ o. elim o as (λ y. Meaning) [
        | None ↦ unknown
        | Some d ↦ elim (first_of_two (field_named None text k 0 d.fields) (method_named None text k 0 d.functions)) as (λ y. Meaning) [
          | Some found ↦ found.meaning
          | None ↦ inherited n text d.base
        ]
      ]) is
      ∙ (ap₂ (λ a b. elim (first_of_two a b) as (λ y. Meaning) [ Some found ↦ found.meaning | None ↦ inherited n text c.base ]) x.is (m.alone.apart text kind e k 0)
      ∙ x.means)))

  -- as the types of parts
  abbrev pub Right : Name → Kind → Type 0
  Right n kind = (i : ℕ) (t : ObjectType) → (place_named g.program (initial_bound n) == i) ≡ true → slice_get (parts_of g.program k) i ≡ Some t → Typed (classes_in g) kind t

  pub some_classes : (cs : List ClassEntry) (i : ℕ) → slice_get cs i ≡ Some c → (n : ℕ) × (length cs ≡ suc n)
  some_classes [] zero e = absurd (cc e)
  some_classes [] (suc i) e = absurd (cc e)
  some_classes (x ∷ cs) i e = (length cs, refl)

  field_right : (n : Name) (kind : Kind) → part_kind n.text c.fields ≡ Some kind → Right n kind
  field_right n kind e i t same at =
      let p = g.program in
      let x = field_place (classes_in g) k 0 n.text kind c.fields (class_at p k).members m.fields e in
      let count = some_classes g.env.classes k is in
      let bound : initial_bound n ≡ Field k (0 + x.number) =
      ap (λ y. elim y as (λ z. Bound) [ unknown ↦ bound_of g.env (look g.env sc n) | y ↦ bound_of g.env y ]) (member_is count.0 n.text kind count.1 e x) in
      let here : (member_place p k (0 + x.number) == i) ≡ true = subst (λ b. (place_named p b == i) ≡ true) bound same in
      let equal : i ≡ length (base_part (class_at p k).base) + x.number = grind (arith, nat_tests, here) in
      let there : slice_get (parts_of p k) i ≡ Some x.type = behind (base_part (class_at p k).base) (map member_part (class_at p k).members) i x.number equal ∙ x.at in
      let type : x.type ≡ t = cc (sym there ∙ at) in
      subst (Typed (classes_in g) kind) type x.typed

  base_right : (n : Name) (b : ℕ) → c.base ≡ Some b → is_called g.env n.text b ≡ true → Right n (class_kind b)
  base_right n b e called i t same at = of_class (slice_get g.env.classes b) refl called
    where
      p : Checked
      p = g.program

      of_base : (base : Option Name) → option_map class_named base ≡ Some b → slice_get (base_part base ++ map member_part (class_at p k).members) 0 ≡ Some t → t ≡ class_type b
      of_base None q h = absurd (cc q)
      of_base (Some x) q h = let same : class_named x ≡ b = cc q in let type : class_type (class_named x) ≡ t = cc h in sym type ∙ ap class_type same

      of_class : (o : Option ClassEntry) → slice_get g.env.classes b ≡ o → elim o [ None ↦ false | Some d ↦ bytes_eq d.name n.text ] ≡ true → Typed (classes_in g) (class_kind b) t
      of_class None q h = absurd (cc h)
      of_class (Some d) q h =
          let entry = g.meant.classes b d q in
          let text : d.name ≡ n.text = (bytes_eq-Decides d.name n.text).0 h in
          let special = subst (λ x. has_text x g.special ≡ true) text entry.named in
          let none = own_unknown p g.defined g.special g.env g.meant n.text special sc in
          let bound : initial_bound n ≡ bound_of g.env (look g.env sc n) =
          ap (λ y. elim y as (λ z. Bound) [ unknown ↦ bound_of g.env (look g.env sc n) | y ↦ bound_of g.env y ]) none in
          let first : place_named p (initial_bound n) ≡ 0 = ap (place_named p) bound ∙ look_first p g.env sc n none in
          let zeroth : i ≡ 0 = grind (arith, nat_tests, same, first) in
          (of_base (class_at p k).base (m.base ∙ e) (subst (λ j. slice_get (parts_of p k) j ≡ Some t) zeroth at), entry.below)

  pub named_right : (n : Name) (kind : Kind) → named_part g.env c n.text ≡ Some kind → Right n kind
  named_right n kind e = of_field (part_kind n.text c.fields) refl e
    where
      of_called : (b : ℕ) → c.base ≡ Some b → (x : Bool) → is_called g.env n.text b ≡ x → (if x then Some (class_kind b) else None) ≡ Some kind → Right n kind
      of_called b q true h y = let same : class_kind b ≡ kind = cc y in subst (Right n) same (base_right n b q h)
      of_called b q false h y = absurd (cc y)

      of_base : (o : Option ℕ) → c.base ≡ o → named_base g.env n.text o ≡ Some kind → Right n kind
      of_base None q h = absurd (cc h)
      of_base (Some b) q h = of_called b q (is_called g.env n.text b) refl h

      of_field : (o : Option Kind) → part_kind n.text c.fields ≡ o → elim o [ Some x ↦ Some x | None ↦ named_base g.env n.text c.base ] ≡ Some kind → Right n kind
      of_field (Some x) q h = field_right n kind (q ∙ h)
      of_field None q h = of_base c.base refl h
