-- What is given of each callee, by the number of its function.
use Rattle.std.proofs.Common.{◌≡◌, ◌∙◌, refl, sym, ap, ap₂, subst, arith, ℕ, zero, suc, ◌+◌, ◌<◌, ◌≤◌, Bool, true, false, List, [], ◌∷◌, ◌++◌, length, Option, Some, None, if◌then◌else◌, length-append}
use Rattle.std.specs.Prelude.{map, take, slice_get, unwrap_or}
use Rattle.std.proofs.lemmas.List.{length-map}
use Rattle.cxx_ast.specs.Plain.{Checked, Function, Class}
use Rattle.meaning_forms.specs.Class.{class_at, function_at, method_at, no_class, no_function}
use Rattle.meaning_forms.specs.Construct.{place_from, destructor_place, is_destructor}
use Rattle.meaning_forms.specs.Running.{Callee, function, method, constructor, destructor, declared, implicit_default, implicit_copy}
use Rattle.region_forms.specs.Layout.{Layout}
use Rattle.region_forms.specs.Numbering.{sum_of, class_functions, number_of}
use Rattle.region_forms.specs.LowerProgram.{copied_type}
use Rattle.region_simulation.specs.Calls.{IsCallable}
use Rattle.address_bounds.specs.Givens.{Given, own_given, class_given, implicit_given, givens_of_class, givens_of_classes, givens_of, no_given, reach_of, needs_of}

-- the declared or implicit destructor of class k
abbrev pub destructor_given : Checked → ℕ → Option ℕ → Given
destructor_given p k None = implicit_given k []
destructor_given p k (Some i) = class_given k (method_at p k i)

-- what is given of what is called
abbrev pub given_for : Checked → Callee → Given
given_for p (function n) = own_given (function_at p n)
given_for p (method k i) = class_given k (method_at p k i)
given_for p (constructor k (declared i)) = class_given k (method_at p k i)
given_for p (constructor k implicit_default) = implicit_given k []
given_for p (constructor k implicit_copy) = implicit_given k (copied_type (class_at p k))
given_for p (destructor k) = destructor_given p k (destructor_place p k)

-- what stands in front of others, and what stands behind them
in_front : {A : Type 0} (xs ys : List A) (n : ℕ) (x : A) → slice_get xs n ≡ Some x → slice_get (xs ++ ys) n ≡ Some x
in_front [] ys zero x h = absurd (cc h)
in_front [] ys (suc n) x h = absurd (cc h)
in_front (y ∷ xs) ys zero x h = h
in_front (y ∷ xs) ys (suc n) x h = in_front xs ys n x h

behind : {A : Type 0} (xs ys : List A) (n k : ℕ) → n ≡ length xs + k → slice_get (xs ++ ys) n ≡ slice_get ys k
behind [] ys n k h = let e : n ≡ k = omega (arith, h) in ap (slice_get ys) e
behind (x ∷ xs) ys zero k h = absurd (omega (arith, h))
behind (x ∷ xs) ys (suc n) k h = behind xs ys n k (omega (arith, h))

mapped_at : (f : Function → Given) (fs : List Function) (i : ℕ) → i < length fs → slice_get (map f fs) i ≡ Some (f (unwrap_or (slice_get fs i) no_function))
mapped_at f [] i h = absurd (omega (arith, h))
mapped_at f (x ∷ fs) zero h = refl
mapped_at f (x ∷ fs) (suc i) h = mapped_at f fs i (omega (arith, h))

class_count : (p : Checked) (k : ℕ) → length (givens_of_class p k) ≡ class_functions (class_at p k)
class_count p k =
    let e = length-map (class_at p k).functions (class_given k) in
    length-append (map (class_given k) (class_at p k).functions) (implicit_given k [] ∷ implicit_given k (copied_type (class_at p k)) ∷ implicit_given k [] ∷ []) ∙ omega (arith, e)

declared_at : (p : Checked) (k i : ℕ) → i < length (class_at p k).functions → slice_get (givens_of_class p k) i ≡ Some (class_given k (method_at p k i))
declared_at p k i h = in_front (map (class_given k) (class_at p k).functions) _ i (class_given k (method_at p k i)) (mapped_at (class_given k) (class_at p k).functions i h)

implicit_at : (p : Checked) (k i : ℕ) → slice_get (givens_of_class p k) (length (class_at p k).functions + i) ≡
    slice_get (implicit_given k [] ∷ implicit_given k (copied_type (class_at p k)) ∷ implicit_given k [] ∷ []) i
implicit_at p k i =
    let e = length-map (class_at p k).functions (class_given k) in
    behind (map (class_given k) (class_at p k).functions) (implicit_given k [] ∷ implicit_given k (copied_type (class_at p k)) ∷ implicit_given k [] ∷ [])
    (length (class_at p k).functions + i) i (omega (arith, e))

-- how many functions the classes from j on have before the n-th of them
abbrev functions_before : Checked → ℕ → ℕ → ℕ
functions_before p j zero = 0
functions_before p j (suc n) = class_functions (class_at p j) + functions_before p (j + 1) n

classes_at : (p : Checked) (j n m : ℕ) → m < n → (i : ℕ) (g : Given) → slice_get (givens_of_class p (j + m)) i ≡ Some g → slice_get (givens_of_classes p j n) (functions_before p j m + i) ≡ Some g
classes_at p j zero m h i g e = absurd (omega (arith, h))
classes_at p j (suc n) zero h i g e =
    let same : j + 0 ≡ j = omega arith in
    let none : i ≡ 0 + i = omega arith in
    subst (λ x. slice_get (givens_of_classes p j (suc n)) x ≡ Some g) none
    (in_front (givens_of_class p j) (givens_of_classes p (j + 1) n) i g (subst (λ k. slice_get (givens_of_class p k) i ≡ Some g) same e))
classes_at p j (suc n) (suc m) h i g e =
    let same : j + suc m ≡ j + 1 + m = omega arith in
    let count = class_count p j in
    behind (givens_of_class p j) (givens_of_classes p (j + 1) n) (class_functions (class_at p j) + functions_before p (j + 1) m + i) (functions_before p (j + 1) m + i) (omega (arith, count))
    ∙ classes_at p (j + 1) n m (omega (arith, h)) i g (subst (λ k. slice_get (givens_of_class p k) i ≡ Some g) same e)

summed : (p : Checked) (j : ℕ) (cs : List Class) (m : ℕ) → ((n : ℕ) → class_at p (j + n) ≡ unwrap_or (slice_get cs n) no_class) → m ≤ length cs →
    functions_before p j m ≡ sum_of (map class_functions (take m cs))
summed p j cs zero h below = refl
summed p j [] (suc m) h below = absurd (omega (arith, below))
summed p j (c ∷ cs) (suc m) h below =
    let same : j + 0 ≡ j = omega arith in
    ap₂ (λ a b. a + b) (ap class_functions (sym (ap (class_at p) same) ∙ h 0))
    (summed p (j + 1) cs m (λ n. let e : j + 1 + n ≡ j + suc n = omega arith in ap (class_at p) e ∙ h (suc n)) (omega (arith, below)))

-- a function of class k by its place among the functions of the class
in_class : (p : Checked) (k i : ℕ) (g : Given) → k < length p.classes → slice_get (givens_of_class p k) i ≡ Some g →
    slice_get (givens_of p) (length p.functions + sum_of (map class_functions (take k p.classes)) + i) ≡ Some g
in_class p k i g below e =
    let count = length-map p.functions own_given in
    let sum = summed p 0 p.classes k (λ n. let same : 0 + n ≡ n = omega arith in ap (class_at p) same) (omega (arith, below)) in
    let none : k ≡ 0 + k = omega arith in
    behind (map own_given p.functions) (givens_of_classes p 0 (length p.classes))
    (length p.functions + sum_of (map class_functions (take k p.classes)) + i) (functions_before p 0 k + i) (omega (arith, count, sum))
    ∙ classes_at p 0 (length p.classes) k below i g (subst (λ j. slice_get (givens_of_class p j) i ≡ Some g) none e)

implicit_in_class : (p : Checked) (k i : ℕ) (g : Given) → k < length p.classes →
    slice_get (implicit_given k [] ∷ implicit_given k (copied_type (class_at p k)) ∷ implicit_given k [] ∷ []) i ≡ Some g →
    slice_get (givens_of p) (length p.functions + sum_of (map class_functions (take k p.classes)) + length (class_at p k).functions + i) ≡ Some g
implicit_in_class p k i g below e =
    let n = length p.functions + sum_of (map class_functions (take k p.classes)) in
    let same : n + (length (class_at p k).functions + i) ≡ n + length (class_at p k).functions + i = omega arith in
    subst (λ m. slice_get (givens_of p) m ≡ Some g) same (in_class p k (length (class_at p k).functions + i) g below (implicit_at p k i ∙ e))

-- a place that is found is one of the list
pub place_within : (test : Function → Bool) (n : ℕ) (fs : List Function) (i : ℕ) → place_from n test fs ≡ Some i → i < n + length fs
place_within test n [] i h = absurd (cc h)
place_within test n (f ∷ fs) i h = by (test f) h (place_within test (n + 1) fs i)
  where
    by : (b : Bool) → (if b then Some n else place_from (n + 1) test fs) ≡ Some i → (place_from (n + 1) test fs ≡ Some i → i < n + 1 + length fs) → i < n + suc (length fs)
    by true q rest = let e : n ≡ i = cc q in omega (arith, e)
    by false q rest = let less = rest q in omega (arith, less)

no_offset : (n : ℕ) → n + 0 ≡ n
no_offset n = omega arith

-- a function is there
abbrev pub IsThere : Checked → Callee → Type 0
IsThere p (function n) = n < length p.functions
IsThere p (method k i) = (k < length p.classes) × (i < length (class_at p k).functions)
IsThere p (constructor k (declared i)) = (k < length p.classes) × (i < length (class_at p k).functions)
IsThere p (constructor k implicit_default) = k < length p.classes
IsThere p (constructor k implicit_copy) = k < length p.classes
IsThere p (destructor k) = k < length p.classes

pub at_number : (p : Checked) (c : Callee) → IsThere p c → slice_get (givens_of p) (number_of p c) ≡ Some (given_for p c)
at_number p (function n) h = in_front (map own_given p.functions) _ n (own_given (function_at p n)) (mapped_at own_given p.functions n h)
at_number p (method k i) h = in_class p k i (class_given k (method_at p k i)) h.0 (declared_at p k i h.1)
at_number p (constructor k (declared i)) h = in_class p k i (class_given k (method_at p k i)) h.0 (declared_at p k i h.1)
at_number p (constructor k implicit_default) h =
    subst (λ n. slice_get (givens_of p) n ≡ Some (implicit_given k [])) (no_offset (length p.functions + sum_of (map class_functions (take k p.classes)) + length (class_at p k).functions))
    (implicit_in_class p k 0 (implicit_given k []) h refl)
at_number p (constructor k implicit_copy) h = implicit_in_class p k 1 (implicit_given k (copied_type (class_at p k))) h refl
at_number p (destructor k) h = by (destructor_place p k) refl
  where
    by : (o : Option ℕ) → destructor_place p k ≡ o → slice_get (givens_of p) (number_of p (destructor k)) ≡ Some (given_for p (destructor k))
    by None e = rw e (implicit_in_class p k 2 (implicit_given k []) h refl)
    by (Some i) e =
        let less = place_within (λ f. is_destructor f.kind) 0 (class_at p k).functions i e in
        rw e (in_class p k i (class_given k (method_at p k i)) h (declared_at p k i (omega (arith, less))))

pub is_there : (p : Checked) (c : Callee) → IsCallable p c → IsThere p c
is_there p (function n) h = h
is_there p (method k i) h = (h.0, h.1)
is_there p (constructor k (declared i)) h = (h.0, h.1)
is_there p (constructor k implicit_default) h = h.0
is_there p (constructor k implicit_copy) h = h
is_there p (destructor k) h = h

pub needed : (p : Checked) (l : Layout) (c : Callee) → IsThere p c → needs_of p l (number_of p c) ≡ reach_of l (given_for p c)
needed p l c h = ap (λ o. reach_of l (unwrap_or o no_given)) (at_number p c h)
