-- Constructors that are chosen can be called.
use Rattle.std.proofs.Common.{◌≡◌, ◌+◌, ◌<◌, ◌&&◌, ℕ, suc, Bool, true, false, List, [], ◌∷◌, length, Option, Some, None, if◌then◌else◌, refl, subst, arith}
use Rattle.std.specs.Prelude.{slice_get, unwrap_or}
use Rattle.std.proofs.lemmas.Bool.Decides.{nat_tests}
use Rattle.cxx_ast.specs.declared.name.Name.{Name}
use Rattle.cxx_ast.specs.declared.types.Ty.{Ty}
use Rattle.cxx_ast.specs.declared.types.Ty.TheVariants.{Int, Void, Object, IntRef, ObjectRef}
use Rattle.cxx_ast.specs.declared.types.Param.{Param}
use Rattle.cxx_ast.specs.Plain.{Checked, Function}
use Rattle.meaning_forms.specs.Class.{class_named, class_at, no_function, method_at}
use Rattle.meaning_forms.specs.Construct.{is_constructor, is_const_ref_to, takes_copy, is_copy_constructor, place_from, declared_or, copy_constructor}
use Rattle.meaning_forms.specs.Expression.{types_of, constructor_types}
use Rattle.meaning_forms.specs.Running.{constructor, declared, implicit_copy}
use Rattle.region_simulation.specs.Calls.{IsCallable}
use Rattle.region_simulation.specs.Statements.{CanCopy}

-- the function that is found passes the test
record PlaceFrom (n i : ℕ) (test : Function → Bool) (fs : List Function) : Type 0 where
  number : ℕ
  is : i ≡ n + number
  below : number < length fs
  passes : test (unwrap_or (slice_get fs number) no_function) ≡ true

place_in : (n i : ℕ) (test : Function → Bool) (fs : List Function) → place_from n test fs ≡ Some i → PlaceFrom n i test fs
place_in n i test [] e = absurd (cc e)
place_in n i test (f ∷ fs) e = go (test f) refl e (place_in (n + 1) i test fs)
  where
    go : (b : Bool) → test f ≡ b → (if b then Some n else place_from (n + 1) test fs) ≡ Some i → (place_from (n + 1) test fs ≡ Some i → PlaceFrom (n + 1) i test fs) →
        PlaceFrom n i test (f ∷ fs)
    go true t q rest = let same : n ≡ i = cc q in record { number = 0; is = omega (arith, same); below = omega arith; passes = t }
    go false t q rest =
        let r = rest q in
        let is = r.is in
        let below = r.below in
        record { number = suc r.number; is = omega (arith, is); below = omega (arith, below); passes = r.passes }

pub declared_there : (p : Checked) (k i : ℕ) (test : Function → Bool) → place_from 0 test (class_at p k).functions ≡ Some i →
    (i < length (class_at p k).functions) × (test (method_at p k i) ≡ true)
declared_there p k i test e =
    let x = place_in 0 i test (class_at p k).functions e in
    let is = x.is in
    let same : x.number ≡ i = omega (arith, is) in
    subst (λ j. (j < length (class_at p k).functions) × (test (method_at p k j) ≡ true)) same (x.below, x.passes)

pub front_true : (a b : Bool) → (a && b) ≡ true → a ≡ true
front_true true b h = refl
front_true false b h = absurd (cc h)

back_true : (a b : Bool) → (a && b) ≡ true → b ≡ true
back_true true b h = h
back_true false b h = absurd (cc h)

-- a declared constructor by a test that only constructors pass
pub declared_callable : (p : Checked) (k i : ℕ) (test : Function → Bool) → k < length p.classes → ((f : Function) → test f ≡ true → is_constructor f.kind ≡ true) →
    place_from 0 test (class_at p k).functions ≡ Some i → IsCallable p (constructor k (declared i))
declared_callable p k i test below only e = let there = declared_there p k i test e in (below, there.0, only (method_at p k i) there.1)

-- the one type that a copy constructor of class k takes
pub record CopyType (k : ℕ) (types : List Ty) : Type 0 where
  pub const : Bool
  pub name : Name
  pub one : types ≡ ObjectRef const name ∷ []
  pub named : class_named name ≡ k

copy_param : (k : ℕ) (t : Ty) → is_const_ref_to k t ≡ true → CopyType k (t ∷ [])
copy_param k (ObjectRef true n) h = record { const = true; name = n; one = refl; named = grind (arith, nat_tests, h) }
copy_param k (ObjectRef false n) h = absurd (cc h)
copy_param k (IntRef const) h = absurd (cc h)
copy_param k Int h = absurd (cc h)
copy_param k Void h = absurd (cc h)
copy_param k (Object n) h = absurd (cc h)

copy_params : (k : ℕ) (xs : List Param) → takes_copy k xs ≡ true → CopyType k (types_of xs)
copy_params k [] h = absurd (cc h)
copy_params k (x ∷ []) h = copy_param k x.ty h
copy_params k (x ∷ y ∷ xs) h = absurd (cc h)

-- objects of each class can be copied
pub can_copy : (p : Checked) (k : ℕ) → k < length p.classes → CanCopy p k
can_copy p k below = by (place_from 0 (is_copy_constructor k) (class_at p k).functions) refl
  where
    by : (o : Option ℕ) → place_from 0 (is_copy_constructor k) (class_at p k).functions ≡ o → IsCallable p (constructor k (declared_or implicit_copy o))
    by None e = below
    by (Some i) e = declared_callable p k i (is_copy_constructor k) below (λ f h. front_true (is_constructor f.kind) (takes_copy k f.parameters) h) e

pub copy_type : (p : Checked) (k : ℕ) → CopyType k (constructor_types p k (copy_constructor p k))
copy_type p k = by (place_from 0 (is_copy_constructor k) (class_at p k).functions) refl
  where
    by : (o : Option ℕ) → place_from 0 (is_copy_constructor k) (class_at p k).functions ≡ o → CopyType k (constructor_types p k (declared_or implicit_copy o))
    by None e = record { const = true; name = _; one = refl; named = refl }
    by (Some i) e =
        let f = method_at p k i in
        copy_params k f.parameters (back_true (is_constructor f.kind) (takes_copy k f.parameters) (declared_there p k i (is_copy_constructor k) e).1)
