-- Each callee that is there has its number among the functions of regions.
use Rattle.std.proofs.Common.{◌≡◌, ◌∙◌, ◌+◌, ◌≤◌, ◌<◌, ℕ, zero, suc, Bool, true, false, ◌==◌, List, [], ◌∷◌, ◌++◌, map, take, length, Option, Some, None, if◌then◌else◌, refl, sym, ap, ap₂, subst, arith}
use Rattle.std.specs.Prelude.{slice_get, unwrap_or}
use Rattle.std.proofs.lemmas.List.{length-map, length-append}
use Rattle.std.proofs.lemmas.Option.{slice_get_within}
use Rattle.cxx_ast.specs.Plain.{Checked, Class, Function}
use Rattle.meaning_forms.specs.Class.{class_at, no_class, no_function, function_at, method_at}
use Rattle.meaning_forms.specs.Construct.{is_destructor, place_from, destructor_place}
use Rattle.meaning_forms.specs.Running.{Callee, function, method, constructor, destructor, declared, implicit_default, implicit_copy}
use Rattle.region_forms.specs.Form.{RegionFunction}
use Rattle.region_forms.specs.Layout.{Layout}
use Rattle.region_forms.specs.Numbering.{sum_of, class_functions, number_of}
use Rattle.region_forms.specs.LowerProgram.{declared_function, implicit_default_function, implicit_copy_function, implicit_destructor_function, own_functions, functions_of_class, functions_of_classes, regions_of}
use Rattle.region_ir.specs.AtNumber.{IsThere, called_function}

-- what stands in front of others, and what stands behind them
in_front : {A : Type 0} (xs ys : List A) (n : ℕ) (x : A) → slice_get xs n ≡ Some x → slice_get (xs ++ ys) n ≡ Some x
in_front [] ys zero x h = absurd (cc h)
in_front [] ys (suc n) x h = absurd (cc h)
in_front (y ∷ xs) ys zero x h = h
in_front (y ∷ xs) ys (suc n) x h = in_front xs ys n x h

behind : {A : Type 0} (xs ys : List A) (n k : ℕ) → n ≡ length xs + k → slice_get (xs ++ ys) n ≡ slice_get ys k
behind [] ys n k h = let e : n ≡ k = omega (arith, h) in ap (slice_get ys) e
behind (x ∷ xs) ys zero k h = absurd (omega (arith, h))
behind (x ∷ xs) ys (suc n) k h = behind xs ys n k (omega (arith, h))

-- the program's own functions
own_count : (p : Checked) (l : Layout) (n : ℕ) (fs : List Function) → length (own_functions p l n fs) ≡ length fs
own_count p l n [] = refl
own_count p l n (f ∷ fs) = ap suc (own_count p l (n + 1) fs)

own_at : (p : Checked) (l : Layout) (k : ℕ) (fs : List Function) (n : ℕ) → n < length fs →
    slice_get (own_functions p l k fs) n ≡ Some (declared_function p l false (k + n == p.main) 0 (unwrap_or (slice_get fs n) no_function))
own_at p l k [] n h = absurd (omega (arith, h))
own_at p l k (f ∷ fs) zero h =
    let e : k ≡ k + 0 = omega arith in ap (λ j. Some (declared_function p l false (j == p.main) 0 f)) e
own_at p l k (f ∷ fs) (suc n) h =
    let e : k + 1 + n ≡ k + suc n = omega arith in
    own_at p l (k + 1) fs n (omega (arith, h))
    ∙ ap (λ j. Some (declared_function p l false (j == p.main) 0 (unwrap_or (slice_get fs n) no_function))) e

-- the functions of one class
method_found : (p : Checked) (l : Layout) (k : ℕ) (fs : List Function) (i : ℕ) → i < length fs →
    slice_get (map (declared_function p l true false k) fs) i ≡ Some (declared_function p l true false k (unwrap_or (slice_get fs i) no_function))
method_found p l k [] i h = absurd (omega (arith, h))
method_found p l k (f ∷ fs) zero h = refl
method_found p l k (f ∷ fs) (suc i) h = method_found p l k fs i (omega (arith, h))

class_count : (p : Checked) (l : Layout) (k : ℕ) → length (functions_of_class p l k) ≡ class_functions (class_at p k)
class_count p l k =
    let e = length-map (class_at p k).functions (declared_function p l true false k) in
    length-append (map (declared_function p l true false k) (class_at p k).functions)
    (implicit_default_function p l k ∷ implicit_copy_function p l k ∷ implicit_destructor_function p l k ∷ []) ∙ omega (arith, e)

declared_at : (p : Checked) (l : Layout) (k i : ℕ) → i < length (class_at p k).functions →
    slice_get (functions_of_class p l k) i ≡ Some (declared_function p l true false k (method_at p k i))
declared_at p l k i h =
    in_front (map (declared_function p l true false k) (class_at p k).functions) _ i (declared_function p l true false k (method_at p k i))
    (method_found p l k (class_at p k).functions i h)

implicit_at : (p : Checked) (l : Layout) (k i : ℕ) →
    slice_get (functions_of_class p l k) (length (class_at p k).functions + i)
    ≡ slice_get (implicit_default_function p l k ∷ implicit_copy_function p l k ∷ implicit_destructor_function p l k ∷ []) i
implicit_at p l k i =
    let e = length-map (class_at p k).functions (declared_function p l true false k) in
    behind (map (declared_function p l true false k) (class_at p k).functions)
    (implicit_default_function p l k ∷ implicit_copy_function p l k ∷ implicit_destructor_function p l k ∷ [])
    (length (class_at p k).functions + i) i (omega (arith, e))

-- how many functions the classes from j on have before the n-th of them
abbrev before : Checked → ℕ → ℕ → ℕ
before p j zero = 0
before p j (suc n) = class_functions (class_at p j) + before p (j + 1) n

classes_at : (p : Checked) (l : Layout) (j n m : ℕ) → m < n → (i : ℕ) (f : RegionFunction) → slice_get (functions_of_class p l (j + m)) i ≡ Some f →
    slice_get (functions_of_classes p l j n) (before p j m + i) ≡ Some f
classes_at p l j zero m h i f e = absurd (omega (arith, h))
classes_at p l j (suc n) zero h i f e =
    let same : j + 0 ≡ j = omega arith in
    let none : i ≡ 0 + i = omega arith in
    subst (λ x. slice_get (functions_of_classes p l j (suc n)) x ≡ Some f) none
    (in_front (functions_of_class p l j) (functions_of_classes p l (j + 1) n) i f (subst (λ k. slice_get (functions_of_class p l k) i ≡ Some f) same e))
classes_at p l j (suc n) (suc m) h i f e =
    let same : j + suc m ≡ j + 1 + m = omega arith in
    let count = class_count p l j in
    behind (functions_of_class p l j) (functions_of_classes p l (j + 1) n) (class_functions (class_at p j) + before p (j + 1) m + i) (before p (j + 1) m + i)
    (omega (arith, count))
    ∙ classes_at p l (j + 1) n m (omega (arith, h)) i f (subst (λ k. slice_get (functions_of_class p l k) i ≡ Some f) same e)

summed : (p : Checked) (j : ℕ) (cs : List Class) (m : ℕ) → ((n : ℕ) → class_at p (j + n) ≡ unwrap_or (slice_get cs n) no_class) → m ≤ length cs →
    before p j m ≡ sum_of (map class_functions (take m cs))
summed p j cs zero h below = refl
summed p j [] (suc m) h below = absurd (omega (arith, below))
summed p j (c ∷ cs) (suc m) h below =
    let same : j + 0 ≡ j = omega arith in
    ap₂ (λ a b. a + b) (ap class_functions (sym (ap (class_at p) same) ∙ h 0))
    (summed p (j + 1) cs m (λ n. let e : j + 1 + n ≡ j + suc n = omega arith in ap (class_at p) e ∙ h (suc n)) (omega (arith, below)))

-- a function of class k by its place among the functions of the class
in_class : (p : Checked) (l : Layout) (k i : ℕ) (f : RegionFunction) → k < length p.classes → slice_get (functions_of_class p l k) i ≡ Some f →
    slice_get (regions_of p l).functions (length p.functions + sum_of (map class_functions (take k p.classes)) + i) ≡ Some f
in_class p l k i f below e =
    let count = own_count p l 0 p.functions in
    let sum = summed p 0 p.classes k (λ n. let same : 0 + n ≡ n = omega arith in ap (class_at p) same) (omega (arith, below)) in
    let none : k ≡ 0 + k = omega arith in
    behind (own_functions p l 0 p.functions) (functions_of_classes p l 0 (length p.classes))
    (length p.functions + sum_of (map class_functions (take k p.classes)) + i) (before p 0 k + i) (omega (arith, count, sum))
    ∙ classes_at p l 0 (length p.classes) k below i f (subst (λ j. slice_get (functions_of_class p l j) i ≡ Some f) none e)

implicit_in_class : (p : Checked) (l : Layout) (k i : ℕ) (f : RegionFunction) → k < length p.classes →
    slice_get (implicit_default_function p l k ∷ implicit_copy_function p l k ∷ implicit_destructor_function p l k ∷ []) i ≡ Some f →
    slice_get (regions_of p l).functions
    (length p.functions + sum_of (map class_functions (take k p.classes)) + length (class_at p k).functions + i) ≡ Some f
implicit_in_class p l k i f below e =
    let n = length p.functions + sum_of (map class_functions (take k p.classes)) in
    let same : n + (length (class_at p k).functions + i) ≡ n + length (class_at p k).functions + i = omega arith in
    subst (λ m. slice_get (regions_of p l).functions m ≡ Some f) same
    (in_class p l k (length (class_at p k).functions + i) f below (implicit_at p l k i ∙ e))

-- a place that is found is one of the list
pub place_within : (test : Function → Bool) (n : ℕ) (fs : List Function) (i : ℕ) → place_from n test fs ≡ Some i → i < n + length fs
place_within test n [] i h = absurd (cc h)
place_within test n (f ∷ fs) i h = by (test f) h (place_within test (n + 1) fs i)
  where
    by : (b : Bool) → (if b then Some n else place_from (n + 1) test fs) ≡ Some i → (place_from (n + 1) test fs ≡ Some i → i < n + 1 + length fs) →
        i < n + suc (length fs)
    by true q rest = let e : n ≡ i = cc q in omega (arith, e)
    by false q rest = let less = rest q in omega (arith, less)

-- the number of each callee
pub at_number : (p : Checked) (l : Layout) (c : Callee) → IsThere p c →
    slice_get (regions_of p l).functions (number_of p c) ≡ Some (called_function p l c)
at_number p l (function n) h =
    let none : 0 + n ≡ n = omega arith in
    in_front (own_functions p l 0 p.functions) _ n (called_function p l (function n))
    (own_at p l 0 p.functions n h ∙ ap (λ j. Some (declared_function p l false (j == p.main) 0 (function_at p n))) none)
at_number p l (method k i) h = in_class p l k i (called_function p l (method k i)) h.0 (declared_at p l k i h.1)
at_number p l (constructor k (declared i)) h = in_class p l k i (called_function p l (method k i)) h.0 (declared_at p l k i h.1)
at_number p l (constructor k implicit_default) h =
    let n = length p.functions + sum_of (map class_functions (take k p.classes)) + length (class_at p k).functions in
    let same : n + 0 ≡ n = omega arith in
    subst (λ m. slice_get (regions_of p l).functions m ≡ Some (implicit_default_function p l k)) same
    (implicit_in_class p l k 0 (implicit_default_function p l k) h refl)
at_number p l (constructor k implicit_copy) h = implicit_in_class p l k 1 (implicit_copy_function p l k) h refl
at_number p l (destructor k) h = by (destructor_place p k) refl
  where
    by : (o : Option ℕ) → destructor_place p k ≡ o → slice_get (regions_of p l).functions (number_of p (destructor k)) ≡ Some (called_function p l (destructor k))
    by None e = rw e (implicit_in_class p l k 2 (implicit_destructor_function p l k) h refl)
    by (Some i) e =
        let less = place_within (λ f. is_destructor f.kind) 0 (class_at p k).functions i e in
        rw e (in_class p l k i (declared_function p l true false k (method_at p k i)) h (declared_at p l k i (omega (arith, less))))

-- so it is in range
pub number_within : (p : Checked) (l : Layout) (c : Callee) → IsThere p c → number_of p c < length (regions_of p l).functions
number_within p l c h = slice_get_within (regions_of p l).functions (number_of p c) (called_function p l c) (at_number p l c h)
