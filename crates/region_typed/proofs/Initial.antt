-- The parts that a declared constructor builds can be built, by an initialiser or by default.
use Rattle.std.proofs.Common.{◌≡◌, ◌∙◌, ◌+◌, ◌<◌, ◌==◌, ◌&&◌, ◌||◌, ℕ, zero, suc, Bool, true, false, not, List, [], ◌∷◌, ◌++◌, map, length, Option, Some, None, option_map, bytes_eq, if◌then◌else◌, refl, sym, ap, subst, arith}
use Rattle.std.specs.Prelude.{slice_get}
use Rattle.std.proofs.lemmas.Bool.Decides.{nat_tests}
use Rattle.std.proofs.lemmas.Option.{slice_get_within}
use Rattle.std.proofs.lemmas.Slice.Eq.{bytes_eq-Decides}
use Rattle.cxx_ast.specs.declared.name.Name.{Name}
use Rattle.cxx_ast.specs.declared.name.Bound.{Bound}
use Rattle.cxx_ast.specs.declared.name.Bound.TheVariants.{Field}
use Rattle.cxx_ast.specs.declared.types.Param.{Param}
use Rattle.cxx_ast.specs.Rule.{initialiser_list, no_default}
use Rattle.cxx_ast.specs.Finding.{Finding, breaks, breaks_if}
use Rattle.cxx_ast.specs.Plain.{Expressions, no_expressions, expression_then, Initialiser}
use Rattle.cxx_ast.specs.Environment.{Kind, int_kind, truth_kind, void_kind, class_kind, no_kind, Field as FieldEntry, ClassEntry, Environment, Scope, unknown, a_field}
use Rattle.cxx_ast.specs.Lookup.{Found, field_named, look}
use Rattle.cxx_ast.specs.Reference.{all_found}
use Rattle.cxx_ast.specs.Construct.{has_default}
use Rattle.cxx_ast.specs.ExpressionRules.{all_judged}
use Rattle.cxx_ast.specs.FunctionRules.{has_text, part_kind, named_part, int_part_found, part_found, initialiser_found, initialisers_found, initialised, left_part, left_fields, left_base, class_text}
use Rattle.cxx_ast.specs.Resolve.{bound_of, resolve_expressions, resolve_initialiser}
use Rattle.cxx_ast.specs.Grammatical.{Each, AreExpressions, IsInitialiser}
use Rattle.meaning_forms.specs.Class.{ObjectType, int_type, class_type, class_named, class_at, base_part, member_part, parts_of, member_place}
use Rattle.meaning_forms.specs.Call.{place_named, initialiser_for}
use Rattle.meaning_forms.specs.Frame.{Variable as FrameVariable}
use Rattle.region_simulation.specs.Statements.{CanConstruct}
use Rattle.region_statements.specs.Members.{CanDefault, IsFirstValue, CanInitialise}
use Rattle.region_formed.proofs.Fine.{Fine, fine_parts}
use Rattle.region_formed.proofs.Meant.{Typed, FieldsMeant, EntryMeant, Given, lowering_in, classes_in}
use Rattle.region_formed.proofs.Alone.{own_unknown}
use Rattle.region_formed.proofs.Lists.{same_text}
use Rattle.region_typed.specs.Known.{SettledIn, Here}
use Rattle.region_typed.proofs.Building.{some_item, constructs}
use Rattle.region_typed.proofs.Defaults.{part_before, class_of_kind}
use Rattle.region_typed.proofs.PartNames.{field_place, look_first, initial_bound, member_is, some_classes, named_right}
use Rattle.region_typed.proofs.Statements.{value}

-- each name stands once
abbrev pub NamesOnce : List Name → Type 0
NamesOnce [] = Unit {0}
NamesOnce (x ∷ names) = Each (λ (y : Name). bytes_eq x.text y.text ≡ false) names × NamesOnce names

other_text : (x : Name) (fs : List FieldEntry) (m : ℕ) (f : FieldEntry) → Each (λ (y : Name). bytes_eq x.text y.text ≡ false) (map (λ (f : FieldEntry). f.name) fs) →
    slice_get fs m ≡ Some f → bytes_eq x.text f.name.text ≡ false
other_text x [] zero f h e = absurd (cc e)
other_text x [] (suc m) f h e = absurd (cc e)
other_text x (y ∷ fs) zero f h e = let same : y ≡ f = cc e in subst (λ (z : FieldEntry). bytes_eq x.text z.name.text ≡ false) same h.0
other_text x (y ∷ fs) (suc m) f h e = other_text x fs m f h.1 e

-- a data member is the first of its name
field_first : (k i : ℕ) (fs : List FieldEntry) (m : ℕ) (f : FieldEntry) → NamesOnce (map (λ (f : FieldEntry). f.name) fs) → slice_get fs m ≡ Some f →
    (field_named None f.name.text k i fs ≡ Some (record { place = f.name.place; meaning = a_field k (i + m) f.kind })) × (part_kind f.name.text fs ≡ Some f.kind)
field_first k i [] zero f h e = absurd (cc e)
field_first k i [] (suc m) f h e = absurd (cc e)
field_first k i (x ∷ fs) zero f h e =
    let same : x ≡ f = cc e in
    let none : i ≡ i + 0 = omega arith in
    subst (λ (y : FieldEntry). (field_named None y.name.text k i (x ∷ fs) ≡ Some (record { place = y.name.place; meaning = a_field k (i + 0) y.kind })) × (part_kind y.name.text (x ∷ fs) ≡ Some y.kind)) same (
      ap (λ b. if b then Some (record { place = x.name.place; meaning = a_field k i x.kind }) else field_named None x.name.text k (i + 1) fs) (same_text x.name.text)
          ∙ ap (λ j. Some (record { place = x.name.place; meaning = a_field k j x.kind })) none,
      ap (λ b. if b then Some x.kind else part_kind x.name.text fs) (same_text x.name.text),
    )
field_first k i (x ∷ fs) (suc m) f h e =
    let other = other_text x.name fs m f h.0 e in
    let r = field_first k (i + 1) fs m f h.1 e in
    let more : i + 1 + m ≡ i + suc m = omega arith in (
      ap (λ b. if b then Some (record { place = x.name.place; meaning = a_field k i x.kind }) else field_named None f.name.text k (i + 1) fs) other
          ∙ (r.0 ∙ ap (λ j. Some (record { place = f.name.place; meaning = a_field k j f.kind })) more),
      ap (λ b. if b then Some x.kind else part_kind f.name.text fs) other ∙ r.1,
    )

-- the data member that is a part
record PartField (n : ℕ) (fs : List FieldEntry) (m : ℕ) (t : ObjectType) : Type 0 where
  field : FieldEntry
  at : slice_get fs m ≡ Some field
  typed : Typed n field.kind t

part_field : (n : ℕ) (fs : List FieldEntry) (ms : List Param) (m : ℕ) (t : ObjectType) → FieldsMeant n fs ms → slice_get (map member_part ms) m ≡ Some t → PartField n fs m t
part_field n [] [] zero t h e = absurd (cc e)
part_field n [] [] (suc m) t h e = absurd (cc e)
part_field n [] (x ∷ ms) m t h e = absurd h
part_field n (f ∷ fs) [] m t h e = absurd h
part_field n (f ∷ fs) (x ∷ ms) zero t h e = let same : member_part x ≡ t = cc e in record { field = f; at = refl; typed = subst (Typed n f.kind) same h.0 }
part_field n (f ∷ fs) (x ∷ ms) (suc m) t h e = let r = part_field n fs ms m t h.1 e in record { field = r.field; at = r.at; typed = r.typed }

-- a part that is left to its default constructor has one
left_default : (defined : List (List ℕ)) (env : Environment) (place : ℕ) (b : Bool) (j : ℕ) → b ≡ false → Fine defined (left_part env place b (class_kind j)) → has_default env j ≡ true
left_default defined env place true j e f = absurd (cc e)
left_default defined env place false j e f = go (has_default env j) f
  where
    go : (c : Bool) → Fine defined (breaks_if (true && not c) no_default place) → c ≡ true
    go true q = refl
    go false q = absurd q

left_at : (defined : List (List ℕ)) (env : Environment) (place : ℕ) (names : List (List ℕ)) (fs : List FieldEntry) (m : ℕ) (f : FieldEntry) → Fine defined (left_fields env place names fs) →
    slice_get fs m ≡ Some f → Fine defined (left_part env place (has_text f.name.text names) f.kind)
left_at defined env place names [] zero f h e = absurd (cc e)
left_at defined env place names [] (suc m) f h e = absurd (cc e)
left_at defined env place names (x ∷ fs) zero f h e =
    let same : x ≡ f = cc e in
    subst (λ (y : FieldEntry). Fine defined (left_part env place (has_text y.name.text names) y.kind)) same
    (fine_parts defined (left_part env place (has_text x.name.text names) x.kind) (left_fields env place names fs) h).0
left_at defined env place names (x ∷ fs) (suc m) f h e =
    left_at defined env place names fs m f (fine_parts defined (left_part env place (has_text x.name.text names) x.kind) (left_fields env place names fs) h).1 e

module _ (g : Given) (settled : SettledIn g) (gives : Bool) (xs : List FrameVariable) (sc : Scope) (k : ℕ) (h : Here g (Some k) gives xs sc) (all : sc.limit ≡ None)
    (c : ClassEntry) (is : slice_get g.env.classes k ≡ Some c) (once : NamesOnce (map (λ (f : FieldEntry). f.name) c.fields)) where
  m : EntryMeant g.program g.special k c
  m = g.meant.classes k c is

  -- what the name of an initialiser is bound to
  abbrev named_by : Name → Bound
  named_by n = initial_bound g sc k h.own all c is n

  known_part : (i j : ℕ) → slice_get (parts_of g.program k) i ≡ Some (class_type j) → j < length g.env.classes
  known_part i j at =
      let less = part_before g.program g.checked k i j m.below at in
      let below = slice_get_within g.env.classes k c is in
      omega (arith, less, below)

  -- a part with its initialiser
  part_made : (t : ObjectType) (place : ℕ) (es : Expressions) → AreExpressions es → (kind : Kind) → Typed (classes_in g) kind t → ((j : ℕ) → t ≡ class_type j → j < length g.env.classes) →
      Fine g.defined (part_found g.env place (all_judged g.env sc es) kind) → CanInitialise (lowering_in g) (Some k) xs (Some (resolve_expressions g.env sc es)) t
  part_made t place es w int_kind typed known f = subst (CanInitialise (lowering_in g) (Some k) xs (Some (resolve_expressions g.env sc es))) (sym typed) (ints es w f)
    where
      ints : (es : Expressions) → AreExpressions es → Fine g.defined (int_part_found place (all_judged g.env sc es)) →
          IsFirstValue (lowering_in g) (Some k) xs (resolve_expressions g.env sc es)
      ints no_expressions w f = absurd f
      ints (expression_then e no_expressions) w f = value g settled (Some k) gives xs sc h e w.0 f
      ints (expression_then e (expression_then x es)) w f = absurd f
  part_made t place es w (class_kind j) typed known f =
      subst (CanInitialise (lowering_in g) (Some k) xs (Some (resolve_expressions g.env sc es))) (sym typed.0)
      (subst (λ own. CanConstruct (lowering_in g) own xs j (resolve_expressions g.env sc es)) h.own
      (constructs g settled xs sc h.reach h.in_reach j (known j typed.0) typed.1 es w place place f))
  part_made t place es w truth_kind typed known f = absurd typed
  part_made t place es w void_kind typed known f = absurd typed
  part_made t place es w no_kind typed known f = absurd typed

  -- no initialiser names the i-th part
  abbrev NoneNames : ℕ → List Initialiser → Type 0
  NoneNames i ys = Each (λ (x : Initialiser). (place_named g.program (named_by x.name) == i) ≡ false) ys

  none_texts : (ys : List Initialiser) (text : List ℕ) (i : ℕ) → ((n : Name) → n.text ≡ text → (place_named g.program (named_by n) == i) ≡ true) → NoneNames i ys →
      has_text text (initialised ys) ≡ false
  none_texts [] text i p q = refl
  none_texts (x ∷ ys) text i p q = go (bytes_eq x.name.text text) refl (none_texts ys text i p q.1)
    where
      go : (b : Bool) → bytes_eq x.name.text text ≡ b → has_text text (initialised ys) ≡ false → (b || has_text text (initialised ys)) ≡ false
      go true e rest = absurd (cc (sym (p x.name ((bytes_eq-Decides x.name.text text).0 e)) ∙ q.0))
      go false e rest = rest

  built_alone : (j : ℕ) → j < length g.env.classes → has_default g.env j ≡ true → CanDefault g.program j
  built_alone j known d =
      let x = some_item g.env.classes j known in
      settled.defaults j x.0 x.1 (sym (ap (λ y. elim y as (λ z. Bool) [ None ↦ true | Some e ↦ e.has_default ]) x.1) ∙ d)

  module _ (place : ℕ) (ys : List Initialiser) (fields : Fine g.defined (left_fields g.env place (initialised ys) c.fields))
      (base : Fine g.defined (left_base g.env place (initialised ys) c.base)) where
    -- a data member
    member_default : (i n j : ℕ) → i ≡ length (base_part (class_at g.program k).base) + n → slice_get (map member_part (class_at g.program k).members) n ≡ Some (class_type j) →
        j < length g.env.classes → NoneNames i ys → CanDefault g.program j
    member_default i n j e at known q =
        let p = g.program in
        let x = part_field (classes_in g) c.fields (class_at p k).members n (class_type j) m.fields at in
        let f = x.field in
        let first = field_first k 0 c.fields n f once x.at in
        let count = some_classes g sc k h.own all c is g.env.classes k is in
        let named : (y : Name) → y.text ≡ f.name.text → (place_named p (named_by y) == i) ≡ true = λ y same.
        let kind = subst (λ t. part_kind t c.fields ≡ Some f.kind) (sym same) first.1 in
        let found = subst (λ t. field_named None t k 0 c.fields ≡ Some (record { place = f.name.place; meaning = a_field k (0 + n) f.kind })) (sym same) first.0 in
        let z = field_place (classes_in g) k 0 y.text f.kind c.fields (class_at p k).members m.fields kind in
        let it : z.found ≡ record { place = f.name.place; meaning = a_field k (0 + n) f.kind } = cc (sym z.is ∙ found) in
        let number : 0 + z.number ≡ 0 + n = number_same k (0 + z.number) (0 + n) f.kind (sym z.means ∙ ap (λ (w : Found). w.meaning) it) in
        let bound : named_by y ≡ Field k (0 + n) =
        ap (λ w. elim w as (λ v. Bound) [ unknown ↦ bound_of g.env (look g.env sc y) | v ↦ bound_of g.env v ])
        (member_is g sc k h.own all c is count.0 y.text f.kind count.1 kind z) ∙ ap (Field k) number in
        let there : member_place p k (0 + n) ≡ i = omega (arith, e) in
        subst (λ b. (place_named p b == i) ≡ true) (sym bound) (subst (λ v. (member_place p k (0 + n) == v) ≡ true) there (equal_self (member_place p k (0 + n)))) in
        let kind = class_of_kind (classes_in g) f.kind j x.typed in
        let left = subst (λ w. Fine g.defined (left_part g.env place (has_text f.name.text (initialised ys)) w)) kind (left_at g.defined g.env place (initialised ys) c.fields n f fields x.at) in
        built_alone j known (left_default g.defined g.env place (has_text f.name.text (initialised ys)) j (none_texts ys f.name.text i named q) left)
      where
        number_same : (a b d : ℕ) (kind : Kind) → a_field a b kind ≡ a_field a d kind → b ≡ d
        number_same a b d kind e = cc e

        equal_self : (a : ℕ) → (a == a) ≡ true
        equal_self a = grind (arith, nat_tests)

    -- the base
    base_default : (b : Name) (j : ℕ) → (class_at g.program k).base ≡ Some b → class_named b ≡ j → j < length g.env.classes → NoneNames 0 ys → CanDefault g.program j
    base_default b j e same known q =
        let p = g.program in
        let x = some_item g.env.classes j known in
        let d = x.0 in
        let entry = g.meant.classes j d x.1 in
        let is_base : c.base ≡ Some j = sym m.base ∙ (ap (option_map class_named) e ∙ ap Some same) in
        let left = subst (λ o. Fine g.defined (left_base g.env place (initialised ys) o)) is_base base in
        let text : class_text g.env j ≡ d.name = ap (λ y. elim y as (λ z. List ℕ) [ None ↦ [] | Some z ↦ z.name ]) x.1 in
        let named : (y : Name) → y.text ≡ d.name → (place_named p (named_by y) == 0) ≡ true = λ y s.
        let special = subst (λ t. has_text t g.special ≡ true) (sym s) entry.named in
        let none = own_unknown p g.defined g.special g.env g.meant y.text special sc in
        let bound : named_by y ≡ bound_of g.env (look g.env sc y) =
        ap (λ w. elim w as (λ v. Bound) [ unknown ↦ bound_of g.env (look g.env sc y) | v ↦ bound_of g.env v ]) none in
        let first : place_named p (named_by y) ≡ 0 = ap (place_named p) bound ∙ look_first p g.env sc y none in
        grind (arith, nat_tests, first) in
        built_alone j known (left_default g.defined g.env place (has_text (class_text g.env j) (initialised ys)) j
        (ap (λ t. has_text t (initialised ys)) text ∙ none_texts ys d.name 0 named q) left)

    -- a part that no initialiser names
    part_alone : (i : ℕ) (t : ObjectType) → slice_get (parts_of g.program k) i ≡ Some t → NoneNames i ys → CanInitialise (lowering_in g) (Some k) xs None t
    part_alone i int_type at q = tt
    part_alone i (class_type j) at q = by (class_at g.program k).base refl at
      where
        of_some : (b : Name) → (class_at g.program k).base ≡ Some b → (n : ℕ) → i ≡ n → slice_get (class_type (class_named b) ∷ map member_part (class_at g.program k).members) n ≡ Some (class_type j) →
            CanDefault g.program j
        of_some b e zero s w =
            let same : class_type (class_named b) ≡ class_type j = cc w in
            base_default b j e (cc same) (known_part i j at) (subst (λ v. NoneNames v ys) s q)
        of_some b e (suc n) s w =
            let count : length (base_part (class_at g.program k).base) ≡ 1 = ap (λ x. length (base_part x)) e in
            member_default i n j (omega (arith, s, count)) w (known_part i j at) q

        by : (b : Option Name) → (class_at g.program k).base ≡ b → slice_get (base_part b ++ map member_part (class_at g.program k).members) i ≡ Some (class_type j) → CanDefault g.program j
        by None e w =
            let count : length (base_part (class_at g.program k).base) ≡ 0 = ap (λ x. length (base_part x)) e in
            member_default i i j (omega (arith, count)) w (known_part i j at) q
        by (Some b) e w = of_some b e i refl w

  -- a part, with or without
  initial_by : (seen : List (List ℕ)) (ys : List Initialiser) → Each IsInitialiser ys → Fine g.defined (initialisers_found g.env sc c seen ys) →
      (i : ℕ) (t : ObjectType) → slice_get (parts_of g.program k) i ≡ Some t → (NoneNames i ys → CanInitialise (lowering_in g) (Some k) xs None t) →
      CanInitialise (lowering_in g) (Some k) xs (initialiser_for g.program (map (resolve_initialiser g.env sc) ys) i) t
  initial_by seen [] w f i t at none = none tt
  initial_by seen (x ∷ ys) w f i t at none =
      let parts = fine_parts g.defined (initialiser_found g.env sc c seen x) (initialisers_found g.env sc c (x.name.text ∷ seen) ys) f in
      by (place_named g.program (named_by x.name) == i) refl (named_part g.env c x.name.text) refl parts.0
      (λ b. initial_by (x.name.text ∷ seen) ys w.1 parts.1 i t at (λ q. none (b, q)))
    where
      by : (b : Bool) → (place_named g.program (named_by x.name) == i) ≡ b → (y : Option Kind) → named_part g.env c x.name.text ≡ y →
          Fine g.defined (elim y as (λ z. List Finding) [
            | None ↦ breaks initialiser_list x.name.place ∷ all_found (all_judged g.env sc x.arguments)
            | Some kind ↦ breaks_if (has_text x.name.text seen) initialiser_list x.name.place ++ part_found g.env x.name.place (all_judged g.env sc x.arguments) kind
          ]) → ((place_named g.program (named_by x.name) == i) ≡ false →
          CanInitialise (lowering_in g) (Some k) xs (initialiser_for g.program (map (resolve_initialiser g.env sc) ys) i) t) →
          CanInitialise (lowering_in g) (Some k) xs (if b then Some (resolve_expressions g.env sc x.arguments)
          else initialiser_for g.program (map (resolve_initialiser g.env sc) ys) i) t
      by false e y q v rest = rest e
      by true e None q v rest = absurd v
      by true e (Some kind) q v rest =
          part_made t x.name.place x.arguments w.0 kind (named_right g sc k h.own all c is x.name kind q i t e at) (λ j s. known_part i j (at ∙ ap Some s))
          (fine_parts g.defined (breaks_if (has_text x.name.text seen) initialiser_list x.name.place) (part_found g.env x.name.place (all_judged g.env sc x.arguments) kind) v).1

  pub parts_initialised : (place : ℕ) (ys : List Initialiser) → Each IsInitialiser ys → Fine g.defined (initialisers_found g.env sc c [] ys) →
      Fine g.defined (left_fields g.env place (initialised ys) c.fields) → Fine g.defined (left_base g.env place (initialised ys) c.base) →
      (i : ℕ) (t : ObjectType) → slice_get (parts_of g.program k) i ≡ Some t →
      CanInitialise (lowering_in g) (Some k) xs (initialiser_for g.program (map (resolve_initialiser g.env sc) ys) i) t
  parts_initialised place ys w f fields base i t at = initial_by [] ys w f i t at (λ q. part_alone place ys fields base i t at q)
