-- A test that each function of a program's regions passes.
use Rattle.std.proofs.Common.{◌≡◌, ◌+◌, ◌≤◌, ◌<◌, ℕ, zero, suc, Bool, true, false, List, [], ◌∷◌, ◌++◌, map, length, Some, ◌==◌, refl, subst, arith}
use Rattle.std.specs.Prelude.{slice_get, unwrap_or}
use Rattle.std.proofs.lemmas.Bool.{and_parts}
use Rattle.std.specs.Cmp.Derive.{both_true}
use Rattle.cxx_ast.specs.Plain.{Checked, Function}
use Rattle.meaning_forms.specs.Class.{class_at, no_class}
use Rattle.region_forms.specs.Form.{RegionFunction}
use Rattle.region_forms.specs.Layout.{Layout}
use Rattle.region_forms.specs.LowerProgram.{declared_function, implicit_default_function, implicit_copy_function, implicit_destructor_function, own_functions, functions_of_class, functions_of_classes, regions_of}
use Rattle.region_forms.specs.WellFormed.{every}

-- an item of a list passes what each passes
pub at_place : {A : Type 0} → (test : A → Bool) (xs : List A) (i : ℕ) (x : A) → every test xs ≡ true → slice_get xs i ≡ Some x → test x ≡ true
at_place test [] zero x h e = absurd (cc e)
at_place test [] (suc i) x h e = absurd (cc e)
at_place test (y ∷ xs) zero x h e = let same : y ≡ x = cc e in subst (λ z. test z ≡ true) same (and_parts (test y) (every test xs) h).0
at_place test (y ∷ xs) (suc i) x h e = at_place test xs i x (and_parts (test y) (every test xs) h).1 e

-- so does what stands at a place, or what stands for it
pub at_or : {A : Type 0} → (test : A → Bool) (xs : List A) (i : ℕ) (other : A) → every test xs ≡ true → test other ≡ true →
    test (unwrap_or (slice_get xs i) other) ≡ true
at_or test [] zero other h k = k
at_or test [] (suc i) other h k = k
at_or test (x ∷ xs) zero other h k = (and_parts (test x) (every test xs) h).0
at_or test (x ∷ xs) (suc i) other h k = at_or test xs i other (and_parts (test x) (every test xs) h).1 k

-- what stands at a place that is there
slice_some : {A : Type 0} (xs : List A) (i : ℕ) (other : A) → i < length xs → slice_get xs i ≡ Some (unwrap_or (slice_get xs i) other)
slice_some [] i other h = absurd (omega (arith, h))
slice_some (x ∷ xs) zero other h = refl
slice_some (x ∷ xs) (suc i) other h = slice_some xs i other (omega (arith, h))

pub class_there : (p : Checked) (k : ℕ) → k < length p.classes → slice_get p.classes k ≡ Some (class_at p k)
class_there p k h = slice_some p.classes k no_class h

-- so do the items of both lists
both_lists : (test : RegionFunction → Bool) (fs others : List RegionFunction) → every test fs ≡ true → every test others ≡ true → every test (fs ++ others) ≡ true
both_lists test [] others h k = k
both_lists test (f ∷ fs) others h k = let parts = and_parts (test f) (every test fs) h in both_true parts.0 (both_lists test fs others parts.1 k)

-- each kind of function passes the test
pub record Passes (p : Checked) (l : Layout) (test : RegionFunction → Bool) : Type 0 where
  pub own : (is_main : Bool) (i : ℕ) (f : Function) → slice_get p.functions i ≡ Some f → test (declared_function p l false is_main 0 f) ≡ true
  pub method : (k i : ℕ) (f : Function) → k < length p.classes → slice_get (class_at p k).functions i ≡ Some f →
      test (declared_function p l true false k f) ≡ true
  pub default : (k : ℕ) → k < length p.classes → test (implicit_default_function p l k) ≡ true
  pub copy : (k : ℕ) → k < length p.classes → test (implicit_copy_function p l k) ≡ true
  pub destructor : (k : ℕ) → k < length p.classes → test (implicit_destructor_function p l k) ≡ true

own_pass : (p : Checked) (l : Layout) (test : RegionFunction → Bool) (n : ℕ) (fs : List Function) →
    ((is_main : Bool) (i : ℕ) (f : Function) → slice_get fs i ≡ Some f → test (declared_function p l false is_main 0 f) ≡ true) →
    every test (own_functions p l n fs) ≡ true
own_pass p l test n [] h = refl
own_pass p l test n (f ∷ fs) h = both_true (h (n == p.main) 0 f refl) (own_pass p l test (n + 1) fs (λ m i g e. h m (suc i) g e))

methods_pass : (p : Checked) (l : Layout) (test : RegionFunction → Bool) (k : ℕ) (fs : List Function) →
    ((i : ℕ) (f : Function) → slice_get fs i ≡ Some f → test (declared_function p l true false k f) ≡ true) →
    every test (map (declared_function p l true false k) fs) ≡ true
methods_pass p l test k [] h = refl
methods_pass p l test k (f ∷ fs) h = both_true (h 0 f refl) (methods_pass p l test k fs (λ i g e. h (suc i) g e))

class_passes : (p : Checked) (l : Layout) (test : RegionFunction → Bool) (k : ℕ) → k < length p.classes → Passes p l test →
    every test (functions_of_class p l k) ≡ true
class_passes p l test k below h =
    both_lists test (map (declared_function p l true false k) (class_at p k).functions) _
    (methods_pass p l test k (class_at p k).functions (λ i f e. h.method k i f below e))
    (both_true (h.default k below) (both_true (h.copy k below) (both_true (h.destructor k below) refl)))

classes_pass : (p : Checked) (l : Layout) (test : RegionFunction → Bool) (k n : ℕ) → k + n ≤ length p.classes → Passes p l test →
    every test (functions_of_classes p l k n) ≡ true
classes_pass p l test k zero below h = refl
classes_pass p l test k (suc n) below h =
    both_lists test (functions_of_class p l k) _ (class_passes p l test k (omega (arith, below)) h)
    (classes_pass p l test (k + 1) n (omega (arith, below)) h)

-- so each function passes it
pub each_passes : (p : Checked) (l : Layout) (test : RegionFunction → Bool) → Passes p l test → every test (regions_of p l).functions ≡ true
each_passes p l test h =
    both_lists test (own_functions p l 0 p.functions) _ (own_pass p l test 0 p.functions h.own)
    (classes_pass p l test 0 (length p.classes) (omega arith) h)
