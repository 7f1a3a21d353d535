-- The parts of an object that a declared constructor builds, or that a declared destructor destroys after its body.
use Rattle.std.proofs.Common.{◌≡◌, ◌∙◌, ◌+◌, ◌==◌, ℕ, zero, suc, Bool, true, false, List, [], ◌∷◌, ◌++◌, map, length, Option, Some, None, option_map, bytes_eq, find, codes, if◌then◌else◌, refl, sym, ap, ap₂, subst, arith}
use Rattle.std.specs.Prelude.{slice_get}
use Rattle.std.proofs.lemmas.Bool.Decides.{nat_tests}
use Rattle.std.proofs.lemmas.Slice.Eq.{bytes_eq-Decides}
use Rattle.std.specs.Cmp.Derive.{both_true}
use Rattle.cxx_ast.specs.declared.name.Name.{Name}
use Rattle.cxx_ast.specs.declared.name.Bound.{Bound}
use Rattle.cxx_ast.specs.declared.name.Bound.TheVariants.{Field}
use Rattle.cxx_ast.specs.declared.name.Builtin.TheVariants.{WriteInt, ReadByte, Exit, Module, Cancel}
use Rattle.cxx_ast.specs.declared.types.Param.{Param}
use Rattle.cxx_ast.specs.Rule.{initialiser_list}
use Rattle.cxx_ast.specs.Finding.{Finding, breaks, breaks_if}
use Rattle.cxx_ast.specs.Plain.{Checked, Expressions, no_expressions, expression_then, Initialiser}
use Rattle.cxx_ast.specs.Environment.{Kind, int_kind, truth_kind, void_kind, class_kind, no_kind, Field as FieldEntry, ClassEntry, Thing, global_thing, class_thing, function_thing, Entry, Environment, Signature, Variable, Scope, Meaning, unknown, a_local, a_field, a_global, a_class, a_builtin}
use Rattle.cxx_ast.specs.Lookup.{variable_named, Found, field_named, method_named, first_of_two, member_of, own_meaning, builtin_named, function_meaning, thing_meaning, entry_of, outer_meaning, look}
use Rattle.cxx_ast.specs.Reference.{all_found}
use Rattle.cxx_ast.specs.ExpressionRules.{all_judged}
use Rattle.cxx_ast.specs.FunctionRules.{has_text, part_kind, is_called, base_part as named_base, named_part, int_part_found, part_found, initialiser_found, initialisers_found}
use Rattle.cxx_ast.specs.Resolve.{bound_of, resolve_expressions, resolve_initialiser}
use Rattle.cxx_ast.specs.Grammatical.{Each, AreExpressions, IsInitialiser}
use Rattle.meaning_forms.specs.Class.{ObjectType, int_type, class_type, class_named, object_type, class_at, base_part, member_part, parts_of, member_place}
use Rattle.meaning_forms.specs.Call.{place_named, initialiser_for}
use Rattle.region_forms.specs.Form.{Region}
use Rattle.region_forms.specs.Layout.{layout_of, laid_part}
use Rattle.region_forms.specs.LowerExpression.{first_temporary}
use Rattle.region_forms.specs.LowerProgram.{part_place, build_parts, destroy_parts, initial_part}
use Rattle.region_forms.specs.WellFormed.{within_object}
use Rattle.class_layout.specs.Fit.{IsBefore, AreBefore}
use Rattle.region_ir.proofs.ImplicitLeaves.{PartsWithin, part_within}
use Rattle.region_ir.proofs.Specials.{take_objects}
use Rattle.region_formed.proofs.Fine.{Fine, fine_parts}
use Rattle.region_formed.proofs.Meant.{Typed, FieldsMeant, EntryMeant, Given, lowering_in, classes_in, Reach}
use Rattle.region_formed.proofs.Slots.{behind}
use Rattle.region_formed.proofs.Paths.{own_there}
use Rattle.region_formed.proofs.Alone.{own_unknown}
use Rattle.region_formed.proofs.Passing.{Pass, then_pass, none_pass, one_pass, op_passes}
use Rattle.region_formed.proofs.Building.{construct_passes}
use Rattle.region_formed.proofs.Throws.{free, protected, value_put}
use Rattle.region_formed.proofs.Statements.{Rest, value}

-- where parts are built and destroyed
module _ (g : Given) (member : g.is_member ≡ true) where
  pub built_passes : (k : ℕ) (build : ℕ → ObjectType → List Region) (i : ℕ) (parts : List ObjectType) (left : ℕ → List Region) (d : ℕ) →
      ((j : ℕ) (t : ObjectType) → slice_get parts j ≡ Some t → IsBefore (classes_in g) t → Pass g (build (i + j) t)) → AreBefore (classes_in g) parts →
      PartsWithin (layout_of g.program) g.program k i parts → Rest g left → Pass g (build_parts (lowering_in g) k build i parts left d)
  built_passes k build i [] left d b h w rest = rest d
  built_passes k build i (int_type ∷ parts) left d b h w rest =
      let none : i + 0 ≡ i = omega arith in
      then_pass (subst (λ n. Pass g (build n int_type)) none (b 0 int_type refl tt))
      (built_passes k build (i + 1) parts left d (λ j t e below. let same : i + suc j ≡ i + 1 + j = omega arith in
      subst (λ n. Pass g (build n t)) same (b (suc j) t e below)) h.1 w.1 rest)
  built_passes k build i (class_type c ∷ parts) left d b h w rest =
      let none : i + 0 ≡ i = omega arith in
      then_pass (subst (λ n. Pass g (build n (class_type c))) none (b 0 (class_type c) refl h.0))
      (one_pass (protected (built_passes k build (i + 1) parts left (d + 2) (λ j t e below. let same : i + suc j ≡ i + 1 + j = omega arith in
      subst (λ n. Pass g (build n t)) same (b (suc j) t e below)) h.1 w.1 rest)
      (both_true (both_true (own_there g member) w.0) (take_objects g.program (layout_of g.program) g.checked c h.0).destroyed)))

  pub destroyed_passes : (k i : ℕ) (parts : List ObjectType) (body : ℕ → List Region) (d : ℕ) → AreBefore (classes_in g) parts →
      PartsWithin (layout_of g.program) g.program k i parts → Rest g body →
      Pass g (destroy_parts (lowering_in g) k i parts body d)
  destroyed_passes k i [] body d h w rest = rest d
  destroyed_passes k i (int_type ∷ parts) body d h w rest = destroyed_passes k (i + 1) parts body d h.1 w.1 rest
  destroyed_passes k i (class_type c ∷ parts) body d h w rest =
      one_pass (protected (destroyed_passes k (i + 1) parts body (d + 2) h.1 w.1 rest)
      (both_true (both_true (own_there g member) w.0) (take_objects g.program (layout_of g.program) g.checked c h.0).destroyed))

-- the data member that a name has stands among the members
record FieldPlace (n k i : ℕ) (text : List ℕ) (kind : Kind) (fs : List FieldEntry) (ms : List Param) : Type 0 where
  number : ℕ
  found : Found
  is : field_named None text k i fs ≡ Some found
  means : found.meaning ≡ a_field k (i + number) kind
  type : ObjectType
  at : slice_get (map member_part ms) number ≡ Some type
  typed : Typed n kind type

field_place : (n k i : ℕ) (text : List ℕ) (kind : Kind) (fs : List FieldEntry) (ms : List Param) → FieldsMeant n fs ms → part_kind text fs ≡ Some kind →
    FieldPlace n k i text kind fs ms
field_place n k i text kind [] ms h e = absurd (cc e)
field_place n k i text kind (f ∷ fs) [] h e = absurd h
field_place n k i text kind (f ∷ fs) (m ∷ ms) h e = go (bytes_eq f.name.text text) refl e (field_place n k (i + 1) text kind fs ms h.1)
  where
    go : (b : Bool) → bytes_eq f.name.text text ≡ b → (if b then Some f.kind else part_kind text fs) ≡ Some kind →
        (part_kind text fs ≡ Some kind → FieldPlace n k (i + 1) text kind fs ms) → FieldPlace n k i text kind (f ∷ fs) (m ∷ ms)
    go true t q rest =
        let same : f.kind ≡ kind = cc q in
        let none : i ≡ i + 0 = omega arith in
        record {
          number = 0;
          found = record { place = f.name.place; meaning = a_field k i f.kind };
          is = ap (λ b. if b then Some (record { place = f.name.place; meaning = a_field k i f.kind }) else field_named None text k (i + 1) fs) t;
          means = ap (a_field k i) same ∙ ap (λ j. a_field k j kind) none;
          type = object_type m.ty;
          at = refl;
          typed = subst (λ x. Typed n x (object_type m.ty)) same h.0;
        }
    go false t q rest =
        let r = rest q in
        let more : i + 1 + r.number ≡ i + suc r.number = omega arith in
        record {
          number = suc r.number;
          found = r.found;
          is = ap (λ b. if b then Some (record { place = f.name.place; meaning = a_field k i f.kind }) else field_named None text k (i + 1) fs) t ∙ r.is;
          means = r.means ∙ ap (λ j. a_field k j kind) more;
          type = r.type;
          at = r.at;
          typed = r.typed;
        }

-- a name that no member has is bound to no member
module _ (p : Checked) (env : Environment) (sc : Scope) where
  abbrev First : Meaning → Type 0
  First m = place_named p (bound_of env m) ≡ 0

  builtin_first : (text : List ℕ) → First (builtin_named text)
  builtin_first text = go (bytes_eq text (codes "write_int")) (bytes_eq text (codes "read_byte")) (bytes_eq text (codes "exit")) (bytes_eq text (codes "__module")) (bytes_eq text (codes "__cancel"))
    where
      go : (a b c d e : Bool) → First (if a then a_builtin WriteInt else if b then a_builtin ReadByte else if c then a_builtin Exit
          else if d then a_builtin Module else if e then a_builtin Cancel else unknown)
      go true b c d e = refl
      go false true c d e = refl
      go false false true d e = refl
      go false false false true e = refl
      go false false false false true = refl
      go false false false false false = refl

  thing_first : (text : List ℕ) (o : Option Entry) → First (thing_meaning env text o)
  thing_first text None = builtin_first text
  thing_first text (Some e) = go e.thing
    where
      function_first : (o : Option Signature) → First (function_meaning o)
      function_first None = refl
      function_first (Some s) = refl

      go : (t : Thing) → First (elim t [
        | global_thing n ↦ a_global n
        | class_thing k ↦ a_class k
        | function_thing ↦ function_meaning (find (λ s. bytes_eq s.name.text text) env.signatures)
      ])
      go (global_thing n) = refl
      go (class_thing k) = refl
      go function_thing = function_first (find (λ s. bytes_eq s.name.text text) env.signatures)

  look_first : (n : Name) → own_meaning env sc n.text ≡ unknown → First (look env sc n)
  look_first n h = go (variable_named n.text sc.locals)
    where
      go : (o : Option Variable) → First (elim o [ Some v ↦ a_local v | None ↦ outer_meaning env sc n.text (own_meaning env sc n.text) ])
      go (Some v) = refl
      go None = subst (λ m. First (outer_meaning env sc n.text m)) (sym h) (thing_first n.text (entry_of env n.text))

-- a constructor of class k
module _ (g : Given) (member : g.is_member ≡ true) (sc : Scope) (r : Reach g sc) (k : ℕ) (own : sc.own ≡ Some k) (all : sc.limit ≡ None)
    (c : ClassEntry) (is : slice_get g.env.classes k ≡ Some c) where
  m : EntryMeant g.program g.special k c
  m = g.meant.classes k c is

  -- what the names of initialisers are bound to
  abbrev initial_bound : Name → Bound
  initial_bound n = elim (own_meaning g.env sc n.text) [ unknown ↦ bound_of g.env (look g.env sc n) | y ↦ bound_of g.env y ]

  own_is : (text : List ℕ) → own_meaning g.env sc text ≡ member_of (length g.env.classes) g.env k None text
  own_is text =
      ap (λ o. elim o as (λ x. Meaning) [ None ↦ unknown | Some j ↦ member_of (length g.env.classes) g.env j sc.limit text ]) own
      ∙ ap (λ l. member_of (length g.env.classes) g.env k l text) all

  abbrev inherited : ℕ → List ℕ → Option ℕ → Meaning
  inherited n text base = elim base [ None ↦ unknown | Some b ↦ member_of n g.env b None text ]

  member_is : (n : ℕ) (text : List ℕ) (kind : Kind) → length g.env.classes ≡ suc n → part_kind text c.fields ≡ Some kind →
      (x : FieldPlace (classes_in g) k 0 text kind c.fields (class_at g.program k).members) → own_meaning g.env sc text ≡ a_field k (0 + x.number) kind
  member_is n text kind count e x =
      own_is text ∙ (ap (λ j. member_of j g.env k None text) count
      ∙ (ap (λ o. elim o as (λ y. Meaning) [
        | None ↦ unknown
        | Some d ↦ elim (first_of_two (field_named None text k 0 d.fields) (method_named None text k 0 d.functions)) as (λ y. Meaning) [
          | Some found ↦ found.meaning
          | None ↦ inherited n text d.base
        ]
      ]) is
      ∙ (ap₂ (λ a b. elim (first_of_two a b) as (λ y. Meaning) [ Some found ↦ found.meaning | None ↦ inherited n text c.base ]) x.is (m.alone.apart text kind e k 0)
      ∙ x.means)))

  -- as the types of parts
  abbrev Right : Name → Kind → Type 0
  Right n kind = (i : ℕ) (t : ObjectType) → (place_named g.program (initial_bound n) == i) ≡ true → slice_get (parts_of g.program k) i ≡ Some t → Typed (classes_in g) kind t

  some_classes : (cs : List ClassEntry) (i : ℕ) → slice_get cs i ≡ Some c → (n : ℕ) × (length cs ≡ suc n)
  some_classes [] zero e = absurd (cc e)
  some_classes [] (suc i) e = absurd (cc e)
  some_classes (x ∷ cs) i e = (length cs, refl)

  field_right : (n : Name) (kind : Kind) → part_kind n.text c.fields ≡ Some kind → Right n kind
  field_right n kind e i t same at =
      let p = g.program in
      let x = field_place (classes_in g) k 0 n.text kind c.fields (class_at p k).members m.fields e in
      let count = some_classes g.env.classes k is in
      let bound : initial_bound n ≡ Field k (0 + x.number) =
      ap (λ y. elim y as (λ z. Bound) [ unknown ↦ bound_of g.env (look g.env sc n) | y ↦ bound_of g.env y ]) (member_is count.0 n.text kind count.1 e x) in
      let here : (member_place p k (0 + x.number) == i) ≡ true = subst (λ b. (place_named p b == i) ≡ true) bound same in
      let equal : i ≡ length (base_part (class_at p k).base) + x.number = grind (arith, nat_tests, here) in
      let there : slice_get (parts_of p k) i ≡ Some x.type = behind (base_part (class_at p k).base) (map member_part (class_at p k).members) i x.number equal ∙ x.at in
      let type : x.type ≡ t = cc (sym there ∙ at) in
      subst (Typed (classes_in g) kind) type x.typed

  base_right : (n : Name) (b : ℕ) → c.base ≡ Some b → is_called g.env n.text b ≡ true → Right n (class_kind b)
  base_right n b e called i t same at = of_class (slice_get g.env.classes b) refl called
    where
      p : Checked
      p = g.program

      of_base : (base : Option Name) → option_map class_named base ≡ Some b → slice_get (base_part base ++ map member_part (class_at p k).members) 0 ≡ Some t → t ≡ class_type b
      of_base None q h = absurd (cc q)
      of_base (Some x) q h = let same : class_named x ≡ b = cc q in let type : class_type (class_named x) ≡ t = cc h in sym type ∙ ap class_type same

      of_class : (o : Option ClassEntry) → slice_get g.env.classes b ≡ o → elim o [ None ↦ false | Some d ↦ bytes_eq d.name n.text ] ≡ true → Typed (classes_in g) (class_kind b) t
      of_class None q h = absurd (cc h)
      of_class (Some d) q h =
          let entry = g.meant.classes b d q in
          let text : d.name ≡ n.text = (bytes_eq-Decides d.name n.text).0 h in
          let special = subst (λ x. has_text x g.special ≡ true) text entry.named in
          let none = own_unknown p g.defined g.special g.env g.meant n.text special sc in
          let bound : initial_bound n ≡ bound_of g.env (look g.env sc n) =
          ap (λ y. elim y as (λ z. Bound) [ unknown ↦ bound_of g.env (look g.env sc n) | y ↦ bound_of g.env y ]) none in
          let first : place_named p (initial_bound n) ≡ 0 = ap (place_named p) bound ∙ look_first p g.env sc n none in
          let zeroth : i ≡ 0 = grind (arith, nat_tests, same, first) in
          (of_base (class_at p k).base (m.base ∙ e) (subst (λ j. slice_get (parts_of p k) j ≡ Some t) zeroth at), entry.below)

  named_right : (n : Name) (kind : Kind) → named_part g.env c n.text ≡ Some kind → Right n kind
  named_right n kind e = of_field (part_kind n.text c.fields) refl e
    where
      of_called : (b : ℕ) → c.base ≡ Some b → (x : Bool) → is_called g.env n.text b ≡ x → (if x then Some (class_kind b) else None) ≡ Some kind → Right n kind
      of_called b q true h y = let same : class_kind b ≡ kind = cc y in subst (Right n) same (base_right n b q h)
      of_called b q false h y = absurd (cc y)

      of_base : (o : Option ℕ) → c.base ≡ o → named_base g.env n.text o ≡ Some kind → Right n kind
      of_base None q h = absurd (cc h)
      of_base (Some b) q h = of_called b q (is_called g.env n.text b) refl h

      of_field : (o : Option Kind) → part_kind n.text c.fields ≡ o → elim o [ Some x ↦ Some x | None ↦ named_base g.env n.text c.base ] ≡ Some kind → Right n kind
      of_field (Some x) q h = field_right n kind (q ∙ h)
      of_field None q h = of_base c.base refl h

  -- a part lies within the largest object
  lies : (i : ℕ) (t : ObjectType) → slice_get (parts_of g.program k) i ≡ Some t → within_object (laid_part (layout_of g.program) g.program k i) ≡ true
  lies i t at = part_within g.program g.checked k (g.meant.classes k c is).below i t at

  -- a part with its initialiser
  part_passes : (i : ℕ) (t : ObjectType) (place : ℕ) (es : Expressions) → AreExpressions es → (kind : Kind) → Typed (classes_in g) kind t →
      Fine g.defined (part_found g.env place (all_judged g.env sc es) kind) → within_object (laid_part (layout_of g.program) g.program k i) ≡ true →
      Pass g (initial_part (lowering_in g) k i (Some (resolve_expressions g.env sc es)) t)
  part_passes i t place es w int_kind typed f inside = subst (λ u. Pass g (initial_part (lowering_in g) k i (Some (resolve_expressions g.env sc es)) u)) (sym typed) (ints es w f)
    where
      ints : (es : Expressions) → AreExpressions es → Fine g.defined (int_part_found place (all_judged g.env sc es)) →
          Pass g (initial_part (lowering_in g) k i (Some (resolve_expressions g.env sc es)) int_type)
      ints no_expressions w f = absurd f
      ints (expression_then e no_expressions) w f = value_put (part_place (layout_of g.program) g.program k 0 i) (value g sc r e w.0 f) (both_true (own_there g member) inside)
      ints (expression_then e (expression_then x es)) w f = absurd f
  part_passes i t place es w (class_kind j) typed f inside =
      subst (λ u. Pass g (initial_part (lowering_in g) k i (Some (resolve_expressions g.env sc es)) u)) (sym typed.0)
      (construct_passes g sc r j typed.1 es w place place f (part_place (layout_of g.program) g.program k 0 i) (both_true (own_there g member) inside) (first_temporary (lowering_in g)) (free g))
  part_passes i t place es w truth_kind typed f inside = absurd typed
  part_passes i t place es w void_kind typed f inside = absurd typed
  part_passes i t place es w no_kind typed f inside = absurd typed

  -- a part, with or without
  pub initial_passes : (seen : List (List ℕ)) (xs : List Initialiser) → Each IsInitialiser xs → Fine g.defined (initialisers_found g.env sc c seen xs) →
      (i : ℕ) (t : ObjectType) → slice_get (parts_of g.program k) i ≡ Some t → IsBefore (classes_in g) t →
      Pass g (initial_part (lowering_in g) k i (initialiser_for g.program (map (resolve_initialiser g.env sc) xs) i) t)
  initial_passes seen [] w f i int_type at below = none_pass
  initial_passes seen [] w f i (class_type j) at below =
      one_pass (op_passes (both_true (both_true (own_there g member) (lies i (class_type j) at))
      (both_true refl (take_objects g.program (layout_of g.program) g.checked j below).default)))
  initial_passes seen (x ∷ xs) w f i t at below =
      let parts = fine_parts g.defined (initialiser_found g.env sc c seen x) (initialisers_found g.env sc c (x.name.text ∷ seen) xs) f in
      by (place_named g.program (initial_bound x.name) == i) refl (named_part g.env c x.name.text) refl parts.0
      (initial_passes (x.name.text ∷ seen) xs w.1 parts.1 i t at below)
    where
      by : (b : Bool) → (place_named g.program (initial_bound x.name) == i) ≡ b → (o : Option Kind) → named_part g.env c x.name.text ≡ o →
          Fine g.defined (elim o as (λ y. List Finding) [
            | None ↦ breaks initialiser_list x.name.place ∷ all_found (all_judged g.env sc x.arguments)
            | Some kind ↦ breaks_if (has_text x.name.text seen) initialiser_list x.name.place ++ part_found g.env x.name.place (all_judged g.env sc x.arguments) kind
          ]) → Pass g (initial_part (lowering_in g) k i (initialiser_for g.program (map (resolve_initialiser g.env sc) xs) i) t) →
          Pass g (initial_part (lowering_in g) k i (if b then Some (resolve_expressions g.env sc x.arguments)
          else initialiser_for g.program (map (resolve_initialiser g.env sc) xs) i) t)
      by false e o q h rest = rest
      by true e None q h rest = absurd h
      by true e (Some kind) q h rest =
          part_passes i t x.name.place x.arguments w.0 kind (named_right x.name kind q i t e at)
          (fine_parts g.defined (breaks_if (has_text x.name.text seen) initialiser_list x.name.place) (part_found g.env x.name.place (all_judged g.env sc x.arguments) kind) h).1
          (lies i t at)
