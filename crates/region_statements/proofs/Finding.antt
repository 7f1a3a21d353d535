-- Constructors and destructors that a class is found to have.
use Rattle.std.proofs.Common.{◌≡◌, ℕ, zero, suc, ◌+◌, ◌<◌, Bool, true, false, List, [], ◌∷◌, Option, Some, None, refl, sym, ap, ◌∙◌, subst, arith, length}
use Rattle.std.specs.Prelude.{◌==◌, ◌&&◌, slice_get, unwrap_or, if◌then◌else◌}
use Rattle.std.proofs.lemmas.Bool.Decides.{nat_tests}
use Rattle.cxx_ast.specs.declared.declaration.FuncKind.{FuncKind}
use Rattle.cxx_ast.specs.declared.declaration.FuncKind.TheVariants.{Plain, Method, Constructor as ConstructorKind, Destructor as DestructorKind}
use Rattle.cxx_ast.specs.declared.name.Bound.TheVariants.{Class}
use Rattle.cxx_ast.specs.declared.types.Param.{Param}
use Rattle.cxx_ast.specs.declared.types.Ty.{Ty}
use Rattle.cxx_ast.specs.declared.types.Ty.TheVariants.{Int, Void, Object, IntRef, ObjectRef}
use Rattle.cxx_ast.specs.Plain.{Checked, Function}
use Rattle.meaning_forms.specs.Class.{ObjectType, int_type, class_type, class_at, class_named, object_type, parts_of, no_function}
use Rattle.meaning_forms.specs.Construct.{is_constructor, is_destructor, is_const_ref_to, takes_copy, is_copy_constructor, is_constructor_with, place_from, declared_or, constructor_for, copy_constructor}
use Rattle.meaning_forms.specs.Expression.{types_of, constructor_types, is_reference}
use Rattle.meaning_forms.specs.Running.{Constructor, constructor, declared, implicit_default, implicit_copy}
use Rattle.region_forms.specs.LowerProgram.{some_constructor}
use Rattle.region_simulation.specs.Calls.{BuildsByDefault, IsCallable}
use Rattle.region_statements.specs.Members.{CanDefault, CanCopyFrom, CanDefaultPart, CanCopyPart}

pub constructor_kind : (k : FuncKind) → is_constructor k ≡ true → k ≡ ConstructorKind
constructor_kind ConstructorKind e = refl
constructor_kind Plain e = absurd (cc e)
constructor_kind Method e = absurd (cc e)
constructor_kind DestructorKind e = absurd (cc e)

pub destructor_kind : (k : FuncKind) → is_destructor k ≡ true → k ≡ DestructorKind
destructor_kind DestructorKind e = refl
destructor_kind Plain e = absurd (cc e)
destructor_kind Method e = absurd (cc e)
destructor_kind ConstructorKind e = absurd (cc e)

-- a function that is found is there, and passes the test
pub record Found (test : Function → Bool) (fs : List Function) (n i : ℕ) : Type 0 where
  pub place : ℕ
  pub number : i ≡ n + place
  pub there : place < length fs
  pub passes : test (unwrap_or (slice_get fs place) no_function) ≡ true

pub found : (test : Function → Bool) (fs : List Function) (n i : ℕ) → place_from n test fs ≡ Some i → Found test fs n i
found test [] n i e = absurd (cc e)
found test (f ∷ fs) n i e = go (test f) refl e (found test fs (n + 1) i)
  where
    number_is : Some n ≡ Some i → n ≡ i
    number_is e = cc e

    go : (b : Bool) → test f ≡ b → (if b then Some n else place_from (n + 1) test fs) ≡ Some i → (place_from (n + 1) test fs ≡ Some i → Found test fs (n + 1) i) → Found test (f ∷ fs) n i
    go true is e ih = record { place = 0; number = (let m = number_is e in omega (arith, m)); there = omega arith; passes = is }
    go false is e ih = let h = ih e in let m = h.number in let lt = h.there in record { place = suc h.place; number = omega (arith, m); there = omega (arith, lt); passes = h.passes }

both_true : (a b : Bool) → (a && b) ≡ true → (a ≡ true) × (b ≡ true)
both_true true true e = (refl, refl)
both_true false b e = absurd (cc e)
both_true true false e = absurd (cc e)

-- a copy constructor takes one object of its class
record TakesOne (k : ℕ) (types : List Ty) : Type 0 where
  type : Ty
  one : types ≡ type ∷ []
  reference : is_reference type ≡ true
  named : object_type type ≡ class_type k

takes_one : (k : ℕ) (params : List Param) → takes_copy k params ≡ true → TakesOne k (types_of params)
takes_one k [] e = absurd (cc e)
takes_one k (x ∷ y ∷ params) e = absurd (cc e)
takes_one k (x ∷ []) e = go x.ty e
  where
    go : (t : Ty) → is_const_ref_to k t ≡ true → TakesOne k (t ∷ [])
    go (ObjectRef true n) e = let named : class_named n ≡ k = grind (arith, nat_tests, e) in record { type = ObjectRef true n; one = refl; reference = refl; named = ap class_type named }
    go (ObjectRef false n) e = absurd (cc e)
    go Int e = absurd (cc e)
    go Void e = absurd (cc e)
    go (Object n) e = absurd (cc e)
    go (IntRef c) e = absurd (cc e)

class_copies : (p : Checked) (k : ℕ) → k < length p.classes → CanCopyFrom p k
class_copies p k lt = go (place_from 0 (is_copy_constructor k) (class_at p k).functions) refl
  where
    from : (which : Constructor) → copy_constructor p k ≡ which → IsCallable p (constructor k which) → TakesOne k (constructor_types p k which) → CanCopyFrom p k
    from which e there takes = record {
      there = subst (λ c. IsCallable p (constructor k c)) (sym e) there;
      type = takes.type;
      one = ap (λ c. constructor_types p k c) e ∙ takes.one;
      reference = takes.reference;
      named = takes.named;
    }

    go : (o : Option ℕ) → place_from 0 (is_copy_constructor k) (class_at p k).functions ≡ o → CanCopyFrom p k
    go None e =
        from implicit_copy (ap (declared_or implicit_copy) e) lt
        (record { type = ObjectRef true (record { text = []; place = 0; bound = Class k }); one = refl; reference = refl; named = refl })
    go (Some i) e =
        let h = found (is_copy_constructor k) (class_at p k).functions 0 i e in
        let number = h.number in
        let is : h.place ≡ i = omega (arith, number) in
        let passes = both_true _ _ (subst (λ m. is_copy_constructor k (unwrap_or (slice_get (class_at p k).functions m) no_function) ≡ true) is h.passes) in
        from (declared i) (ap (declared_or implicit_copy) e) (lt, subst (λ m. m < length (class_at p k).functions) is h.there, passes.0)
        (takes_one k (unwrap_or (slice_get (class_at p k).functions i) no_function).parameters passes.1)

-- every part can be copied
pub part_copies : (p : Checked) (t : ObjectType) → ((j : ℕ) → t ≡ class_type j → j < length p.classes) → CanCopyPart p t
part_copies p int_type there = tt
part_copies p (class_type j) there = class_copies p j (there j refl)

no_types : (params : List Param) → length params ≡ 0 → types_of params ≡ []
no_types [] e = refl
no_types (x ∷ params) e = absurd (omega (arith, e))

-- how a class is built by default, by its constructor for no arguments
abbrev DefaultBy : ℕ → Checked → ℕ → Constructor → Type 0
DefaultBy n p j x = elim x [
  | declared m ↦ Unit {0}
  | implicit_default ↦ (some_constructor (class_at p j).functions ≡ false) × BuildsByDefault n p j
  | implicit_copy ↦ ⊥
]

-- where classes stand less deep, more can be built by default
builds_deeper : (n : ℕ) (p : Checked) (k : ℕ) → BuildsByDefault n p k → BuildsByDefault (suc n) p k
builds_deeper zero p k h = absurd h
builds_deeper (suc n) p k h =
    λ i j is. ((h i j is).0, go j (λ deeper. builds_deeper n p j deeper) (constructor_for p j 0) (h i j is).1)
  where
    go : (j : ℕ) → (BuildsByDefault n p j → BuildsByDefault (suc n) p j) → (x : Constructor) → DefaultBy n p j x → DefaultBy (suc n) p j x
    go j ih (declared m) h = tt
    go j ih implicit_default h = (h.0, ih h.1)
    go j ih implicit_copy h = absurd h

is_none : (m : ℕ) → (m == 0) ≡ true → m ≡ 0
is_none m e = grind (arith, nat_tests, e)

class_defaults : (p : Checked) (j n : ℕ) → suc n ≡ length p.classes → j < length p.classes → DefaultBy n p j (constructor_for p j 0) → CanDefault p j
class_defaults p j n e lt h = go (place_from 0 (is_constructor_with j 0) (class_at p j).functions) refl h
  where
    from : (which : Constructor) → constructor_for p j 0 ≡ which → IsCallable p (constructor j which) → constructor_types p j which ≡ [] → CanDefault p j
    from which e there none = record { there = subst (λ c. IsCallable p (constructor j c)) (sym e) there; none = ap (λ c. constructor_types p j c) e ∙ none }

    go : (o : Option ℕ) → place_from 0 (is_constructor_with j 0) (class_at p j).functions ≡ o → DefaultBy n p j (declared_or implicit_default (place_from 0 (is_constructor_with j 0) (class_at p j).functions))
        → CanDefault p j
    go None f h =
        let by = subst (λ o. DefaultBy n p j (declared_or implicit_default o)) f h in
        from implicit_default (ap (declared_or implicit_default) f) (lt, by.0, subst (λ m. BuildsByDefault m p j) e (builds_deeper n p j by.1)) refl
    go (Some i) f h =
        let found_at = found (is_constructor_with j 0) (class_at p j).functions 0 i f in
        let number = found_at.number in
        let is : found_at.place ≡ i = omega (arith, number) in
        let passes = both_true _ _ (subst (λ m. is_constructor_with j 0 (unwrap_or (slice_get (class_at p j).functions m) no_function) ≡ true) is found_at.passes) in
        from (declared i) (ap (declared_or implicit_default) f) (lt, subst (λ m. m < length (class_at p j).functions) is found_at.there, passes.0)
        (no_types (unwrap_or (slice_get (class_at p j).functions i) no_function).parameters (is_none _ (both_true _ _ passes.1).1))

-- every part of what can be built by default can be
pub part_defaults : (p : Checked) (k i : ℕ) (t : ObjectType) → IsCallable p (constructor k implicit_default) → slice_get (parts_of p k) i ≡ Some t → CanDefaultPart p t
part_defaults p k i int_type can is = tt
part_defaults p k i (class_type j) can is = go (length p.classes) refl can.2
  where
    go : (n : ℕ) → n ≡ length p.classes → BuildsByDefault n p k → CanDefault p j
    go zero e h = absurd h
    go (suc n) e h = class_defaults p j n e (h i j is).0 (h i j is).1
