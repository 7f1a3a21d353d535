-- The constructor that the rules select for arguments is the one that the regions call.
use Rattle.std.proofs.Common.{◌≡◌, ◌∙◌, ◌+◌, ◌<◌, ◌≤◌, ◌==◌, ◌&&◌, ◌||◌, ℕ, zero, suc, Bool, true, false, not, List, [], ◌∷◌, length, Option, Some, None, option_map, bytes_eq, find, if◌then◌else◌, refl, sym, ap, ap₂, subst, arith}
use Rattle.std.specs.Prelude.{slice_get, unwrap_or}
use Rattle.cxx_ast.specs.declared.name.Name.{Name}
use Rattle.cxx_ast.specs.declared.types.Ty.{Ty}
use Rattle.cxx_ast.specs.declared.types.Ty.TheVariants.{Int, Void, Object, IntRef, ObjectRef}
use Rattle.cxx_ast.specs.declared.types.Param.{Param}
use Rattle.cxx_ast.specs.declared.declaration.FuncKind.{FuncKind}
use Rattle.cxx_ast.specs.declared.declaration.FuncKind.TheVariants.{Plain, Method, Constructor as ConstructorKind, Destructor as DestructorKind}
use Rattle.cxx_ast.specs.Plain.{Checked, Function}
use Rattle.cxx_ast.specs.Environment.{Kind, int_kind, truth_kind, void_kind, class_kind, no_kind, same_kind, Passing, Signature, ClassEntry, Environment}
use Rattle.cxx_ast.specs.Lookup.{derives_within, derives}
use Rattle.cxx_ast.specs.Construct.{are_copy_parameters, is_constructor_kind, is_constructor_with as selects}
use Rattle.meaning_forms.specs.Class.{int_type, class_type, class_named, some_of, chain_of_bases, derives as derives_in, class_at, no_function, method_at}
use Rattle.meaning_forms.specs.Construct.{is_constructor, takes_copy, is_const_ref_to, is_copy_constructor, is_constructor_with, place_from, declared_or, copy_constructor}
use Rattle.meaning_forms.specs.Running.{implicit_copy}
use Rattle.meaning_forms.specs.Expression.{constructor_types, types_of}
use Rattle.region_forms.specs.LowerExpression.{refers}
use Rattle.region_formed.proofs.Meant.{Typed, ParamMeant, ParamsMeant, MethodMeant, MethodsMeant, EntryMeant, Meant}

-- the two tests of a function's kind agree
kinds_same : (k : FuncKind) → is_constructor_kind k ≡ is_constructor k
kinds_same Plain = refl
kinds_same Method = refl
kinds_same ConstructorKind = refl
kinds_same DestructorKind = refl

not_class : (n : ℕ) (kind : Kind) (k : ℕ) → Typed n kind int_type → same_kind kind (class_kind k) ≡ false
not_class n int_kind k h = refl
not_class n (class_kind j) k h = absurd (cc h.0)
not_class n truth_kind k h = absurd h
not_class n void_kind k h = absurd h
not_class n no_kind k h = absurd h

same_class : (n : ℕ) (kind : Kind) (m k : ℕ) → Typed n kind (class_type m) → same_kind kind (class_kind k) ≡ (m == k)
same_class n int_kind m k h = absurd (cc h)
same_class n (class_kind j) m k h = let same : j ≡ m = cc h.0 in ap (λ i. i == k) same
same_class n truth_kind m k h = absurd h
same_class n void_kind m k h = absurd h
same_class n no_kind m k h = absurd h

and_false : (a : Bool) → (a && false) ≡ false
and_false true = refl
and_false false = refl

-- a copy constructor's one parameter
one_copy : (n k : ℕ) (q : Passing) (t : Ty) → ParamMeant n q t → (q.is_reference && q.is_const && same_kind q.kind (class_kind k)) ≡ is_const_ref_to k t
one_copy n k q Int h = ap (λ b. b && q.is_const && same_kind q.kind (class_kind k)) h.reference
one_copy n k q Void h = absurd h.passed
one_copy n k q (Object m) h = absurd h.passed
one_copy n k q (IntRef const) h = ap (λ b. q.is_reference && q.is_const && b) (not_class n q.kind k h.typed) ∙ and_false (q.is_reference && q.is_const)
one_copy n k q (ObjectRef true m) h =
    ap₂ (λ b c. b && c && same_kind q.kind (class_kind k)) h.reference h.const ∙ same_class n q.kind (class_named m) k h.typed
one_copy n k q (ObjectRef false m) h = ap₂ (λ b c. b && c && same_kind q.kind (class_kind k)) h.reference h.const

copies_same : (n k : ℕ) (qs : List Passing) (xs : List Param) → ParamsMeant n qs xs → are_copy_parameters k qs ≡ takes_copy k xs
copies_same n k [] [] h = refl
copies_same n k [] (x ∷ xs) h = absurd h
copies_same n k (q ∷ qs) [] h = absurd h
copies_same n k (q ∷ []) (x ∷ []) h = one_copy n k q x.ty h.0
copies_same n k (q ∷ []) (x ∷ y ∷ xs) h = absurd h.1
copies_same n k (q ∷ o ∷ qs) (x ∷ []) h = absurd h.1
copies_same n k (q ∷ o ∷ qs) (x ∷ y ∷ xs) h = refl

pub lengths_same : (n : ℕ) (qs : List Passing) (xs : List Param) → ParamsMeant n qs xs → length qs ≡ length xs
lengths_same n [] [] h = refl
lengths_same n [] (x ∷ xs) h = absurd h
lengths_same n (q ∷ qs) [] h = absurd h
lengths_same n (q ∷ qs) (x ∷ xs) h = ap suc (lengths_same n qs xs h.1)

-- the two tests of a constructor agree
and_swap : (a b : Bool) → (true && a && not b) ≡ (true && (not b && a))
and_swap true true = refl
and_swap true false = refl
and_swap false true = refl
and_swap false false = refl

tests_same : (n k count : ℕ) (text : List ℕ) (s : Signature) (f : Function) → MethodMeant n text s f → selects k text count s ≡ is_constructor_with k count f
tests_same n k count text s f h = by (is_constructor_kind s.form) refl
  where
    kind : is_constructor_kind s.form ≡ is_constructor f.kind
    kind = kinds_same s.form ∙ ap is_constructor h.form

    by : (b : Bool) → is_constructor_kind s.form ≡ b → selects k text count s ≡ is_constructor_with k count f
    by false e =
        ap (λ b. b && bytes_eq s.name.text text && length s.parameters == count && not (are_copy_parameters k s.parameters)) e
        ∙ ap (λ b. b && (not (takes_copy k f.parameters) && length f.parameters == count)) (sym e ∙ kind)
    by true e =
        ap₂ (λ b c. b && c && length s.parameters == count && not (are_copy_parameters k s.parameters)) e (h.named e)
        ∙ (ap₂ (λ m c. true && m == count && not c) (lengths_same n s.parameters f.parameters h.parameters) (copies_same n k s.parameters f.parameters h.parameters)
        ∙ (and_swap (length f.parameters == count) (takes_copy k f.parameters)
        ∙ ap (λ b. b && (not (takes_copy k f.parameters) && length f.parameters == count)) (sym e ∙ kind)))

-- the constructor that is found stands at a place
record Selected (n k count i : ℕ) (text : List ℕ) (s : Signature) (fs : List Function) : Type 0 where
  place : ℕ
  function : Function
  found : place_from i (is_constructor_with k count) fs ≡ Some (i + place)
  at : slice_get fs place ≡ Some function
  parameters : ParamsMeant n s.parameters function.parameters
  counted : (length s.parameters == count) ≡ true

middle : (a b c : Bool) → (a && b && c) ≡ true → b ≡ true
middle true true c h = refl
middle true false c h = absurd (cc h)
middle false b c h = absurd (cc h)

select : (n k count i : ℕ) (text : List ℕ) (ss : List Signature) (fs : List Function) (s : Signature) → MethodsMeant n text ss fs →
    find (selects k text count) ss ≡ Some s → Selected n k count i text s fs
select n k count i text [] fs s h e = absurd (cc e)
select n k count i text (x ∷ ss) [] s h e = absurd h
select n k count i text (x ∷ ss) (f ∷ fs) s h e = by (selects k text count x) refl e (select n k count (i + 1) text ss fs s h.1)
  where
    by : (b : Bool) → selects k text count x ≡ b → (if b then Some x else find (selects k text count) ss) ≡ Some s →
        (find (selects k text count) ss ≡ Some s → Selected n k count (i + 1) text s fs) → Selected n k count i text s (f ∷ fs)
    by true t q rest =
        let same : x ≡ s = cc q in
        let test = sym (tests_same n k count text x f h.0) ∙ t in
        let none : i ≡ i + 0 = omega arith in
        record {
          place = 0;
          function = f;
          found = ap (λ b. if b then Some i else place_from (i + 1) (is_constructor_with k count) fs) test ∙ ap Some none;
          at = refl;
          parameters = subst (λ y. ParamsMeant n y.parameters f.parameters) same h.0.parameters;
          counted = subst (λ y. (length y.parameters == count) ≡ true) same
              (middle (is_constructor_kind x.form && bytes_eq x.name.text text) (length x.parameters == count) (not (are_copy_parameters k x.parameters)) t);
        }
    by false t q rest =
        let s' = rest q in
        let test = sym (tests_same n k count text x f h.0) ∙ t in
        let more : i + 1 + s'.place ≡ i + suc s'.place = omega arith in
        record {
          place = suc s'.place;
          function = s'.function;
          found = ap (λ b. if b then Some i else place_from (i + 1) (is_constructor_with k count) fs) test ∙ (s'.found ∙ ap Some more);
          at = s'.at;
          parameters = s'.parameters;
          counted = s'.counted;
        }

-- by the class
pub record Constructed (p : Checked) (k count : ℕ) (s : Signature) : Type 0 where
  pub place : ℕ
  pub found : place_from 0 (is_constructor_with k count) (class_at p k).functions ≡ Some place
  pub within : place < length (class_at p k).functions
  pub parameters : ParamsMeant (length p.classes) s.parameters (method_at p k place).parameters
  pub counted : (length s.parameters == count) ≡ true

within_place : (fs : List Function) (i : ℕ) (f : Function) → slice_get fs i ≡ Some f → i < length fs
within_place [] zero f e = absurd (cc e)
within_place [] (suc i) f e = absurd (cc e)
within_place (g ∷ fs) zero f e = omega arith
within_place (g ∷ fs) (suc i) f e = let rest = within_place fs i f e in omega (arith, rest)

pub constructed_by : (p : Checked) (special : List (List ℕ)) (k count : ℕ) (c : ClassEntry) (s : Signature) → EntryMeant p special k c →
    find (selects k c.name count) c.functions ≡ Some s → Constructed p k count s
constructed_by p special k count c s h e =
    let x = select (length p.classes) k count 0 c.name c.functions (class_at p k).functions s h.functions e in
    let none : 0 + x.place ≡ x.place = omega arith in
    record {
      place = x.place;
      found = x.found ∙ ap Some none;
      within = within_place (class_at p k).functions x.place x.function x.at;
      parameters = subst (λ f. ParamsMeant (length p.classes) s.parameters f.parameters) (sym (ap (λ o. unwrap_or o no_function) x.at)) x.parameters;
      counted = x.counted;
    }

-- a copy constructor takes its one argument by reference
passes_found : (test : Function → Bool) (n : ℕ) (fs : List Function) (i j : ℕ) → place_from n test fs ≡ Some i → i ≡ n + j →
    test (unwrap_or (slice_get fs j) no_function) ≡ true
passes_found test n [] i j h e = absurd (cc h)
passes_found test n (f ∷ fs) i zero h e = by (test f) refl h
  where
    later : (m : ℕ) (gs : List Function) → place_from m test gs ≡ Some i → i < m → ⊥
    later m [] q less = absurd (cc q)
    later m (g ∷ gs) q less = at (test g) q (later (m + 1) gs)
      where
        at : (b : Bool) → (if b then Some m else place_from (m + 1) test gs) ≡ Some i → (place_from (m + 1) test gs ≡ Some i → i < m + 1 → ⊥) → ⊥
        at true q rest = let same : m ≡ i = cc q in omega (arith, same, less)
        at false q rest = rest q (omega (arith, less))

    by : (b : Bool) → test f ≡ b → (if b then Some n else place_from (n + 1) test fs) ≡ Some i → test f ≡ true
    by true t q = t
    by false t q = absurd (later (n + 1) fs q (omega (arith, e)))
passes_found test n (f ∷ fs) i (suc j) h e = by (test f) h (λ q. passes_found test (n + 1) fs i j q (omega (arith, e)))
  where
    by : (b : Bool) → (if b then Some n else place_from (n + 1) test fs) ≡ Some i →
        (place_from (n + 1) test fs ≡ Some i → test (unwrap_or (slice_get fs j) no_function) ≡ true) → test (unwrap_or (slice_get fs j) no_function) ≡ true
    by true q rest = let same : n ≡ i = cc q in absurd (omega (arith, same, e))
    by false q rest = rest q

second : (a b : Bool) → (a && b) ≡ true → b ≡ true
second true b h = h
second false b h = absurd (cc h)

copy_reference : (k : ℕ) (t : Ty) → is_const_ref_to k t ≡ true → refers (t ∷ []) ≡ true
copy_reference k (ObjectRef const n) h = refl
copy_reference k (IntRef const) h = refl
copy_reference k Int h = absurd (cc h)
copy_reference k Void h = absurd (cc h)
copy_reference k (Object n) h = absurd (cc h)

one_reference : (k : ℕ) (xs : List Param) → takes_copy k xs ≡ true → refers (types_of xs) ≡ true
one_reference k [] h = absurd (cc h)
one_reference k (x ∷ []) h = copy_reference k x.ty h
one_reference k (x ∷ y ∷ xs) h = absurd (cc h)

pub copy_refers : (p : Checked) (k : ℕ) → refers (constructor_types p k (copy_constructor p k)) ≡ true
copy_refers p k = by (place_from 0 (is_copy_constructor k) (class_at p k).functions) refl
  where
    by : (o : Option ℕ) → place_from 0 (is_copy_constructor k) (class_at p k).functions ≡ o → refers (constructor_types p k (declared_or implicit_copy o)) ≡ true
    by None e = refl
    by (Some i) e =
        let f = method_at p k i in
        one_reference k f.parameters (second (is_constructor f.kind) (takes_copy k f.parameters)
        (passes_found (is_copy_constructor k) 0 (class_at p k).functions i i e (omega arith)))

-- a class that derives from another by the rules does by the program
or_parts : (a b c : Bool) → (b ≡ true → c ≡ true) → (a || b) ≡ true → (a || c) ≡ true
or_parts true b c h q = refl
or_parts false b c h q = h q

module _ (p : Checked) (defined special : List (List ℕ)) (env : Environment) (h : Meant p defined special env) where
  chained : (n m j b : ℕ) → n ≤ m → derives_within n env j b ≡ true → some_of (λ i. i == b) (chain_of_bases m p j) ≡ true
  chained zero m j b le q = absurd (cc q)
  chained (suc n) zero j b le q = absurd (omega (arith, le))
  chained (suc n) (suc m) j b le q =
      or_parts (j == b) _ _ (of_class (slice_get env.classes j) refl (λ i. chained n m i b (omega (arith, le)))) q
    where
      of_base : (c : ClassEntry) (base : Option Name) (o : Option ℕ) → option_map class_named base ≡ o →
          ((i : ℕ) → derives_within n env i b ≡ true → some_of (λ i. i == b) (chain_of_bases m p i) ≡ true) →
          elim o [ None ↦ false | Some i ↦ derives_within n env i b ] ≡ true →
          some_of (λ i. i == b) (elim base [ None ↦ [] | Some x ↦ chain_of_bases m p (class_named x) ]) ≡ true
      of_base c base None e rest k = absurd (cc k)
      of_base c None (Some i) e rest k = absurd (cc e)
      of_base c (Some x) (Some i) e rest k =
          let same : class_named x ≡ i = cc e in subst (λ i. some_of (λ i. i == b) (chain_of_bases m p i) ≡ true) (sym same) (rest i k)

      of_class : (o : Option ClassEntry) → slice_get env.classes j ≡ o →
          ((i : ℕ) → derives_within n env i b ≡ true → some_of (λ i. i == b) (chain_of_bases m p i) ≡ true) →
          elim o [ None ↦ false | Some c ↦ elim c.base [ None ↦ false | Some i ↦ derives_within n env i b ] ] ≡ true →
          some_of (λ i. i == b) (elim (class_at p j).base [ None ↦ [] | Some x ↦ chain_of_bases m p (class_named x) ]) ≡ true
      of_class None e rest k = absurd (cc k)
      of_class (Some c) e rest k = of_base c (class_at p j).base c.base (h.classes j c e).base rest k

  -- no more classes are known than there are
  known_count : (n : ℕ) → length env.classes ≡ n → n ≤ length p.classes
  known_count zero e = omega arith
  known_count (suc n) e =
      by (slice_get env.classes n) refl
    where
      by : (o : Option ClassEntry) → slice_get env.classes n ≡ o → suc n ≤ length p.classes
      by (Some c) q = let less = (h.classes n c q).below in omega (arith, less)
      by None q = absurd (there env.classes n (omega (arith, e)) q)
        where
          there : (cs : List ClassEntry) (i : ℕ) → i < length cs → slice_get cs i ≡ None → ⊥
          there [] i less k = omega (arith, less)
          there (c ∷ cs) zero less k = absurd (cc k)
          there (c ∷ cs) (suc i) less k = there cs i (omega (arith, less)) k

  pub derived : (j b : ℕ) → derives env j b ≡ true → derives_in p (class_type j) (class_type b) ≡ true
  derived j b q = chained (length env.classes) (length p.classes) j b (known_count (length env.classes) refl) q
