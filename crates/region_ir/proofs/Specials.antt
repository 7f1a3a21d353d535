-- Destructors, copy constructors and default constructors take their object, and no other arguments than they are given.
use Rattle.std.proofs.Common.{◌≡◌, ◌∙◌, ◌+◌, ◌<◌, ◌&&◌, ◌==◌, ℕ, zero, suc, not, Bool, true, false, nat_lt, List, [], ◌∷◌, ◌++◌, map, length, Option, Some, None, if◌then◌else◌, refl, ap, arith}
use Rattle.std.specs.Prelude.{slice_get, unwrap_or}
use Rattle.std.proofs.lemmas.Bool.{and_parts}
use Rattle.std.proofs.lemmas.Bool.Decides.{nat_tests}
use Rattle.std.specs.Cmp.Derive.{both_true}
use Rattle.cxx_ast.specs.declared.types.Ty.{Ty}
use Rattle.cxx_ast.specs.declared.types.Ty.TheVariants.{Int, Void, Object, IntRef, ObjectRef}
use Rattle.cxx_ast.specs.declared.types.Param.{Param}
use Rattle.cxx_ast.specs.Plain.{Checked, Function}
use Rattle.cxx_ast.specs.Checked.{IsChecked}
use Rattle.meaning_forms.specs.Class.{class_at, no_class, no_function, method_at}
use Rattle.meaning_forms.specs.Construct.{is_constructor, is_destructor, is_const_ref_to, takes_copy, is_copy_constructor, is_constructor_with, place_from, declared_or, constructor_for, copy_constructor, destructor_place}
use Rattle.meaning_forms.specs.Running.{Callee, constructor, destructor, declared, implicit_default, implicit_copy}
use Rattle.region_forms.specs.Form.{Place, Region, Arguments, no_arguments, address_argument, arguments_from, function_at, no_function as no_region_function}
use Rattle.region_forms.specs.Layout.{Layout}
use Rattle.region_forms.specs.Numbering.{number_of, declared_in_body, variables_of}
use Rattle.region_forms.specs.LowerProgram.{slot_for, slots_for, copied_type, declared_function, implicit_default_function, implicit_copy_function, implicit_destructor_function, regions_of}
use Rattle.region_forms.specs.WellFormed.{every, holds_address, is_reference, slot_test, fits, fit, count_of, takes_object}
use Rattle.region_ir.specs.AtNumber.{IsThere, called_function}
use Rattle.region_ir.specs.Specials.{destructor_alone, destructors_alone, TakeObjects}
use Rattle.region_ir.proofs.AtNumber.{at_number, number_within, place_within}
use Rattle.region_ir.proofs.EachFunction.{at_or}
use Rattle.region_ir.proofs.DestructorsAlone.{checked_alone}

-- a callee takes its object where the function that it is does
takes : (p : Checked) (l : Layout) (c : Callee) (args : Arguments) → IsThere p c → (1 + count_of args == (called_function p l c).parameters) ≡ true →
    fit (called_function p l c).slots 1 args ≡ true → slot_test is_reference (called_function p l c).slots 0 ≡ true →
    takes_object (regions_of p l) (number_of p c) args ≡ true
takes p l c args there counts fitting own =
    let less = number_within p l c there in
    let within : nat_lt (number_of p c) (length (regions_of p l).functions) ≡ true = grind (arith, nat_tests, less) in
    let same : function_at (regions_of p l) (number_of p c) ≡ called_function p l c = ap (λ o. unwrap_or o no_region_function) (at_number p l c there) in
    both_true (both_true within (both_true (ap (λ g. 1 + count_of args == g.parameters) same ∙ counts) (ap (λ g. fit g.slots 1 args) same ∙ fitting)))
    (ap (λ g. slot_test is_reference g.slots 0) same ∙ own)

-- a member function's own object has an address
pub own_address : (l : Layout) (types : List Ty) (body : Region) → slot_test holds_address (slots_for l true types body) 0 ≡ true
own_address l types body =
    let some : nat_lt 0 (length (slots_for l true types body)) ≡ true = grind (arith, nat_tests) in both_true some refl

-- that address is a reference
pub own_reference : (l : Layout) (types : List Ty) (body : Region) → slot_test is_reference (slots_for l true types body) 0 ≡ true
own_reference l types body =
    let some : nat_lt 0 (length (slots_for l true types body)) ≡ true = grind (arith, nat_tests) in both_true some refl

-- a place that is found is not before the first
place_after : (test : Function → Bool) (n : ℕ) (fs : List Function) (i : ℕ) → place_from n test fs ≡ Some i → n < i + 1
place_after test n [] i h = absurd (cc h)
place_after test n (f ∷ fs) i h = by (test f) h (place_after test (n + 1) fs i)
  where
    by : (b : Bool) → (if b then Some n else place_from (n + 1) test fs) ≡ Some i → (place_from (n + 1) test fs ≡ Some i → n + 1 < i + 1) → n < i + 1
    by true q rest = let e : n ≡ i = cc q in omega (arith, e)
    by false q rest = let less = rest q in omega (arith, less)

-- what is found there passes the test
found_passes : (test : Function → Bool) (n : ℕ) (fs : List Function) (i j : ℕ) → place_from n test fs ≡ Some i → i ≡ n + j →
    test (unwrap_or (slice_get fs j) no_function) ≡ true
found_passes test n [] i j h e = absurd (cc h)
found_passes test n (f ∷ fs) i j h e = by (test f) refl h j e (λ k q d. found_passes test (n + 1) fs i k q d) (place_after test (n + 1) fs i)
  where
    by : (b : Bool) → test f ≡ b → (if b then Some n else place_from (n + 1) test fs) ≡ Some i → (j : ℕ) → i ≡ n + j →
        ((k : ℕ) → place_from (n + 1) test fs ≡ Some i → i ≡ n + 1 + k → test (unwrap_or (slice_get fs k) no_function) ≡ true) →
        (place_from (n + 1) test fs ≡ Some i → n + 1 < i + 1) → test (unwrap_or (slice_get (f ∷ fs) j) no_function) ≡ true
    by true t q zero e rest after = t
    by true t q (suc j) e rest after = let same : n ≡ i = cc q in absurd (omega (arith, same, e))
    by false t q zero e rest after = let less = after q in absurd (omega (arith, less, e))
    by false t q (suc j) e rest after = rest j q (omega (arith, e))

-- the function of class k at the place that is found
module _ (p : Checked) (k : ℕ) (test : Function → Bool) (i : ℕ) (h : place_from 0 test (class_at p k).functions ≡ Some i) where
  at_found : test (method_at p k i) ≡ true
  at_found = found_passes test 0 (class_at p k).functions i i h (omega arith)

  found_within : i < length (class_at p k).functions
  found_within = let less = place_within test 0 (class_at p k).functions i h in omega (arith, less)

-- the destructor
alone_by : (kind : Bool) (n : ℕ) → kind ≡ true → (if kind then n == 0 else true) ≡ true → (1 + 0 == 1 + n) ≡ true
alone_by true n e h = grind (arith, nat_tests, h)
alone_by false n e h = absurd (cc e)

module _ (p : Checked) (l : Layout) (k : ℕ) (below : k < length p.classes) where
  destroyed : every destructors_alone p.classes ≡ true → takes_object (regions_of p l) (number_of p (destructor k)) no_arguments ≡ true
  destroyed h = by (destructor_place p k) refl
    where
      by : (o : Option ℕ) → destructor_place p k ≡ o → takes_object (regions_of p l) (number_of p (destructor k)) no_arguments ≡ true
      by None e = takes p l (destructor k) no_arguments below (rw e refl) refl (rw e (own_reference l [] (implicit_destructor_function p l k).body))
      by (Some i) e =
          let f = method_at p k i in
          let alone = at_or destructor_alone (class_at p k).functions i no_function (at_or destructors_alone p.classes k no_class h refl) refl in
          takes p l (destructor k) no_arguments below
          (rw e (alone_by (is_destructor f.kind) (length f.parameters) (at_found p k (λ g. is_destructor g.kind) i e) alone)) refl
          (rw e (own_reference l (variables_of f) (declared_function p l true false k f).body))

  -- the default constructor
  default : takes_object (regions_of p l) (number_of p (constructor k (constructor_for p k 0))) no_arguments ≡ true
  default = by (place_from 0 (is_constructor_with k 0) (class_at p k).functions) refl
    where
      by : (o : Option ℕ) → place_from 0 (is_constructor_with k 0) (class_at p k).functions ≡ o →
          takes_object (regions_of p l) (number_of p (constructor k (declared_or implicit_default o))) no_arguments ≡ true
      by None e = takes p l (constructor k implicit_default) no_arguments below refl refl (own_reference l [] (implicit_default_function p l k).body)
      by (Some i) e =
          let f = method_at p k i in
          let other = (and_parts (is_constructor f.kind) (not (takes_copy k f.parameters) && length f.parameters == 0)
          (at_found p k (is_constructor_with k 0) i e)).1 in
          let none = (and_parts (not (takes_copy k f.parameters)) (length f.parameters == 0) other).1 in
          takes p l (constructor k (declared i)) no_arguments (below, found_within p k (is_constructor_with k 0) i e)
          (alone_by true (length f.parameters) refl none) refl
          (own_reference l (variables_of f) (declared_function p l true false k f).body)

-- a copy constructor's parameter is a reference
reference_fits : (l : Layout) (k : ℕ) (t : Ty) (source : Place) → is_const_ref_to k t ≡ true → (fits (slot_for l t).kind (address_argument source) && true) ≡ true
reference_fits l k (ObjectRef const n) source h = refl
reference_fits l k (IntRef const) source h = refl
reference_fits l k Int source h = absurd (cc h)
reference_fits l k Void source h = absurd (cc h)
reference_fits l k (Object n) source h = absurd (cc h)

one_fits : (l : Layout) (k : ℕ) (ps : List Param) (others : List Ty) (body : Region) (source : Place) → takes_copy k ps ≡ true →
    ((1 + 1 == 1 + length ps) ≡ true) × (fit (slots_for l true (map (λ x. x.ty) ps ++ others) body) 1 (arguments_from (address_argument source ∷ [])) ≡ true)
one_fits l k [] others body source h = absurd (cc h)
one_fits l k (x ∷ []) others body source h = (refl, reference_fits l k x.ty source h)
one_fits l k (x ∷ y ∷ ps) others body source h = absurd (cc h)

module _ (p : Checked) (l : Layout) (k : ℕ) (below : k < length p.classes) where
  copied : (source : Place) →
      takes_object (regions_of p l) (number_of p (constructor k (copy_constructor p k))) (arguments_from (address_argument source ∷ [])) ≡ true
  copied source = by (place_from 0 (is_copy_constructor k) (class_at p k).functions) refl
    where
      by : (o : Option ℕ) → place_from 0 (is_copy_constructor k) (class_at p k).functions ≡ o →
          takes_object (regions_of p l) (number_of p (constructor k (declared_or implicit_copy o))) (arguments_from (address_argument source ∷ [])) ≡ true
      by None e =
          takes p l (constructor k implicit_copy) (arguments_from (address_argument source ∷ [])) below refl refl
          (own_reference l (copied_type (class_at p k)) (implicit_copy_function p l k).body)
      by (Some i) e =
          let f = method_at p k i in
          let copies = (and_parts (is_constructor f.kind) (takes_copy k f.parameters) (at_found p k (is_copy_constructor k) i e)).1 in
          let one = one_fits l k f.parameters (declared_in_body f.body) (declared_function p l true false k f).body source copies in
          takes p l (constructor k (declared i)) (arguments_from (address_argument source ∷ [])) (below, found_within p k (is_copy_constructor k) i e)
          one.0 one.1 (own_reference l (variables_of f) (declared_function p l true false k f).body)

pub take_objects : (p : Checked) (l : Layout) → IsChecked p → (k : ℕ) → k < length p.classes → TakeObjects p l k
take_objects p l c k below = record {
  destroyed = destroyed p l k below (checked_alone p c);
  copied = copied p l k below;
  default = default p l k below;
}
