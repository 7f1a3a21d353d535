-- Objects that are built, copied and destroyed.
use Rattle.std.proofs.Common.{◌≡◌, ◌∙◌, refl, sym, ap, subst, arith, ℕ, zero, suc, ◌+◌, ◌<◌, ◌≤◌, Bool, true, false, List, [], ◌∷◌, length, Option, Some, None, if◌then◌else◌}
use Rattle.std.specs.Prelude.{◌&&◌, slice_get, unwrap_or}
use Rattle.std.proofs.lemmas.Bool.Decides.{nat_tests}
use Rattle.cxx_ast.specs.declared.types.Ty.{Ty}
use Rattle.cxx_ast.specs.declared.types.Ty.TheVariants.{Int, Void, Object, IntRef, ObjectRef}
use Rattle.cxx_ast.specs.declared.types.Param.{Param}
use Rattle.cxx_ast.specs.Plain.{Function, Class, Expressions}
use Rattle.cxx_ast.specs.declared.name.Bound.TheVariants.{Class as ClassBound}
use Rattle.meaning_forms.specs.Class.{class_type, class_named, object_type, class_at, method_at, no_function}
use Rattle.meaning_forms.specs.Construct.{is_constructor, is_const_ref_to, takes_copy, is_copy_constructor, is_constructor_with, place_from, declared_or, constructor_for, copy_constructor, destructor_place}
use Rattle.meaning_forms.specs.Expression.{types_of, constructor_types}
use Rattle.meaning_forms.specs.Frame.{Variable}
use Rattle.meaning_forms.specs.Running.{Constructor, declared, implicit_default, implicit_copy, constructor, destructor}
use Rattle.region_forms.specs.Form.{Place, construct, arguments_from, address_argument}
use Rattle.region_forms.specs.Numbering.{number_of, destructor_of, declared_in_body}
use Rattle.region_forms.specs.LowerExpression.{result_slot, constructor_chosen, lower_arguments, lower_construct}
use Rattle.region_forms.specs.LowerStatement.{copied}
use Rattle.region_forms.specs.LowerProgram.{copied_type}
use Rattle.region_simulation.specs.Statements.{CanCopy, CanConstruct}
use Rattle.address_bounds.specs.Rooms.{HasRoom}
use Rattle.address_bounds.specs.Reaches.{OpReaches, RegionReaches, DestructorFits}
use Rattle.address_bounds.specs.Givens.{implicit_given, reach_of}
use Rattle.address_bounds.proofs.Callees.{IsThere, destructor_given, is_there, place_within}
use Rattle.address_bounds.proofs.Where.{Where, size, Known, Within, AllReach, both_reach, given_reach}
use Rattle.address_bounds.proofs.Expressions.{WantsAre, class_wants, arguments_reach}

-- what an implicit copy constructor copies is of its class
copy_wants : (w : Where) (c : ℕ) (tree : Class) → class_named tree.name ≡ c → (j : ℕ) (t : Ty) →
    slice_get (ObjectRef true (record { text = []; place = 0; bound = ClassBound c }) ∷ []) j ≡ Some t → reach_of w.lowering.layout (implicit_given c (copied_type tree)) (1 + j) ≡ size w (object_type t)
copy_wants w c tree named zero t e =
    let same : ObjectRef true (record { text = []; place = 0; bound = ClassBound c }) ≡ t = cc e in
    ap (λ n. size w (class_type n)) named ∙ ap (λ u. size w (object_type u)) same
copy_wants w c tree named (suc j) t e = absurd (cc e)

-- a function that is found passes the test
-- a place that is found is none before the first
place_behind : (test : Function → Bool) (n : ℕ) (fs : List Function) (i : ℕ) → place_from n test fs ≡ Some i → i < n → ⊥
place_behind test n [] i h less = cc h
place_behind test n (f ∷ fs) i h less = by (test f) h (λ h. place_behind test (n + 1) fs i h (omega (arith, less)))
  where
    by : (b : Bool) → (if b then Some n else place_from (n + 1) test fs) ≡ Some i → (place_from (n + 1) test fs ≡ Some i → ⊥) → ⊥
    by true h more = let same : n ≡ i = cc h in omega (arith, same, less)
    by false h more = more h

found_passes : (test : Function → Bool) (n : ℕ) (fs : List Function) (i : ℕ) → place_from n test fs ≡ Some (n + i) → test (unwrap_or (slice_get fs i) no_function) ≡ true
found_passes test n [] i h = absurd (cc h)
found_passes test n (f ∷ fs) i h = by (test f) refl i h (λ i h. found_passes test (n + 1) fs i h)
  where
    by : (b : Bool) → test f ≡ b → (i : ℕ) → (if b then Some n else place_from (n + 1) test fs) ≡ Some (n + i) → ((i : ℕ) → place_from (n + 1) test fs ≡ Some (n + 1 + i) → test (unwrap_or (slice_get fs i) no_function) ≡ true) →
        test (unwrap_or (slice_get (f ∷ fs) i) no_function) ≡ true
    by true is zero h more = is
    by true is (suc i) h more = absurd (let wrong : n ≡ n + suc i = cc h in omega (arith, wrong))
    by false is zero h more = absurd (place_behind test (n + 1) fs (n + 0) h (omega arith))
    by false is (suc i) h more = let e : n + suc i ≡ n + 1 + i = omega arith in more i (h ∙ ap (λ m. Some m) e)

module _ (w : Where) (k : Known w) where
  -- the object of a function of a class
  pub this_needed : (c : ℕ) (x : Constructor) → IsThere w.lowering.program (constructor c x) → w.needs (number_of w.lowering.program (constructor c x)) 0 ≡ size w (class_type c)
  this_needed c (declared i) can = ap (λ f. f 0) (k.called (constructor c (declared i)) can)
  this_needed c implicit_default can = ap (λ f. f 0) (k.called (constructor c implicit_default) can)
  this_needed c implicit_copy can = ap (λ f. f 0) (k.called (constructor c implicit_copy) can)

  destructor_size : (c : ℕ) → c < length w.lowering.program.classes → w.needs (number_of w.lowering.program (destructor c)) 0 ≡ size w (class_type c)
  destructor_size c there = ap (λ f. f 0) (k.called (destructor c) there) ∙ by (destructor_place w.lowering.program c)
    where
      by : (o : Option ℕ) → reach_of w.lowering.layout (destructor_given w.lowering.program c o) 0 ≡ size w (class_type c)
      by None = refl
      by (Some i) = refl

  pub destructor_needed : (c : ℕ) (q : Place) → c < length w.lowering.program.classes → HasRoom w.reach w.slots q (size w (class_type c)) → HasRoom w.reach w.slots q (w.needs (number_of w.lowering.program (destructor c)) 0)
  destructor_needed c q there room = subst (λ n. HasRoom w.reach w.slots q n) (sym (destructor_size c there)) room

  -- the implicit or declared constructors that parts are built by
  pub default_there : (c : ℕ) → c < length w.lowering.program.classes → IsThere w.lowering.program (constructor c (constructor_for w.lowering.program c 0))
  default_there c below = by (place_from 0 (is_constructor_with c 0) (class_at w.lowering.program c).functions) refl
    where
      by : (o : Option ℕ) → place_from 0 (is_constructor_with c 0) (class_at w.lowering.program c).functions ≡ o → IsThere w.lowering.program (constructor c (declared_or implicit_default o))
      by None is = below
      by (Some i) is = let less = place_within (is_constructor_with c 0) 0 (class_at w.lowering.program c).functions i is in (below, omega (arith, less))

  pub copy_there : (c : ℕ) → c < length w.lowering.program.classes → IsThere w.lowering.program (constructor c (copy_constructor w.lowering.program c))
  copy_there c below = by (place_from 0 (is_copy_constructor c) (class_at w.lowering.program c).functions) refl
    where
      by : (o : Option ℕ) → place_from 0 (is_copy_constructor c) (class_at w.lowering.program c).functions ≡ o → IsThere w.lowering.program (constructor c (declared_or implicit_copy o))
      by None is = below
      by (Some i) is = let less = place_within (is_copy_constructor c) 0 (class_at w.lowering.program c).functions i is in (below, omega (arith, less))

  pub destructor_fits : (c : ℕ) → c < length w.lowering.program.classes → DestructorFits w.needs (destructor_of w.lowering.program (class_type c))
  destructor_fits zero there = tt
  destructor_fits (suc c) there = let is = destructor_size (suc c) there in let small = k.small (suc c) in omega (arith, is, small)

  -- what its parameters need
  constructor_wants : (c : ℕ) (x : Constructor) → IsThere w.lowering.program (constructor c x) → WantsAre w (w.needs (number_of w.lowering.program (constructor c x))) 1 (constructor_types w.lowering.program c x)
  constructor_wants c (declared i) can j t e =
      ap (λ f. f (1 + j)) (k.called (constructor c (declared i)) can)
      ∙ class_wants w c (types_of (method_at w.lowering.program c i).parameters) (declared_in_body (method_at w.lowering.program c i).body) j t e
  constructor_wants c implicit_default can j t e = absurd (cc e)
  constructor_wants c implicit_copy can j t e =
      ap (λ f. f (1 + j)) (k.called (constructor c implicit_copy) can) ∙ copy_wants w c (class_at w.lowering.program c) (k.named c can) j t e

  pub construct_reaches : (xs : List Variable) → Within w.lowering xs → (c : ℕ) (es : Expressions) (q : Place) (t : ℕ) → result_slot w.lowering ≤ t → CanConstruct w.lowering w.own xs c es →
      HasRoom w.reach w.slots q (size w (class_type c)) → AllReach w (lower_construct w.lowering c es q t)
  construct_reaches xs within c es q t later can room =
      let x : Constructor = constructor_chosen w.lowering c es in
      let types : List Ty = constructor_types w.lowering.program c x in
      let n : ℕ = number_of w.lowering.program (constructor c x) in
      let given = arguments_reach w k xs within es types (w.needs n) 1 t later (constructor_wants c x (is_there w.lowering.program (constructor c x) can.callable)) can.typed in
      both_reach w (lower_arguments w.lowering es types t).before _ given.before
      ((subst (λ m. HasRoom w.reach w.slots q m) (sym (this_needed c x (is_there w.lowering.program (constructor c x) can.callable))) room, given_reach w (w.needs n) 1 (lower_arguments w.lowering es types t).arguments given.given), tt)

  -- the parameter of a copy constructor is a reference to its class
  const_reference : (c : ℕ) (t : Ty) → is_const_ref_to c t ≡ true → object_type t ≡ class_type c
  const_reference c (ObjectRef true n) e = let same : class_named n ≡ c = grind (arith, nat_tests, e) in ap class_type same
  const_reference c (ObjectRef false n) e = absurd (cc e)
  const_reference c Int e = absurd (cc e)
  const_reference c Void e = absurd (cc e)
  const_reference c (Object n) e = absurd (cc e)
  const_reference c (IntRef const) e = absurd (cc e)

  copy_parameter : (c : ℕ) (xs : List Param) → takes_copy c xs ≡ true → (t : Ty) × (types_of xs ≡ t ∷ []) × (object_type t ≡ class_type c)
  copy_parameter c [] e = absurd (cc e)
  copy_parameter c (x ∷ []) e = (x.ty, refl, const_reference c x.ty e)
  copy_parameter c (x ∷ y ∷ xs) e = absurd (cc e)

  second : (a b : Bool) → (a && b) ≡ true → b ≡ true
  second true b e = e
  second false b e = absurd (cc e)

  -- what a copy constructor copies
  source_needed : (c : ℕ) → IsThere w.lowering.program (constructor c (copy_constructor w.lowering.program c)) → w.needs (number_of w.lowering.program (constructor c (copy_constructor w.lowering.program c))) 1 ≡ size w (class_type c)
  source_needed c can = by (place_from 0 (is_copy_constructor c) (class_at w.lowering.program c).functions) refl can
    where
      by : (o : Option ℕ) → place_from 0 (is_copy_constructor c) (class_at w.lowering.program c).functions ≡ o → IsThere w.lowering.program (constructor c (declared_or implicit_copy o)) →
          w.needs (number_of w.lowering.program (constructor c (declared_or implicit_copy o))) 1 ≡ size w (class_type c)
      by None is can = constructor_wants c implicit_copy can 0 (ObjectRef true (record { text = []; place = 0; bound = ClassBound c })) refl
      by (Some i) is can =
          let from : i ≡ 0 + i = omega arith in
          let passes = found_passes (is_copy_constructor c) 0 (class_at w.lowering.program c).functions i (is ∙ ap (λ n. Some n) from) in
          let one = copy_parameter c (method_at w.lowering.program c i).parameters (second (is_constructor (method_at w.lowering.program c i).kind) (takes_copy c (method_at w.lowering.program c i).parameters) passes) in
          constructor_wants c (declared i) can 0 one.0 (ap (λ ts. slice_get ts 0) one.1) ∙ ap (size w) one.2

  pub copy_reaches : (c : ℕ) (to from : Place) → IsThere w.lowering.program (constructor c (copy_constructor w.lowering.program c)) → HasRoom w.reach w.slots to (size w (class_type c)) →
      HasRoom w.reach w.slots from (size w (class_type c)) →
      OpReaches w.needs w.reach w.slots (construct to (number_of w.lowering.program (constructor c (copy_constructor w.lowering.program c))) (arguments_from (address_argument from ∷ [])))
  copy_reaches c to from there a b =
      (subst (λ n. HasRoom w.reach w.slots to n) (sym (this_needed c (copy_constructor w.lowering.program c) there)) a, (subst (λ n. HasRoom w.reach w.slots from n) (sym (source_needed c there)) b, tt))

  pub copied_reaches : (c : ℕ) (to from : Place) → CanCopy w.lowering.program c → HasRoom w.reach w.slots to (size w (class_type c)) → HasRoom w.reach w.slots from (size w (class_type c)) →
      RegionReaches w.needs w.reach w.slots (copied w.lowering c to from)
  copied_reaches c to from can a b =
      copy_reaches c to from (is_there w.lowering.program (constructor c (copy_constructor w.lowering.program c)) can) a b
