-- The numbers of the functions of each class, from those of the class before.
use Rattle.std.proofs.Common.{◌≡◌, ◌∙◌, ◌≤◌, ◌<◌, ◌+◌, ℕ, zero, suc, List, [], ◌∷◌, ◌++◌, map, take, length, Option, Some, None, refl, ap, sym, arith}
use Rattle.std.proofs.lemmas.List.{take_all, length-map, length-append}
use Rattle.std.proofs.lemmas.Option.{slice_get_past}
use Rattle.std.specs.Prelude.{slice_get, unwrap_or}
use Rattle.cxx_ast.specs.Plain.{Checked, Class}
use Rattle.cxx_ast.specs.View.{checked_of, function_of, class_of}
use Rattle.cxx_ast.specs.declared.program.Checked.{Checked as CheckedValue}
use Rattle.meaning_forms.specs.Class.{class_at, no_class}
use Rattle.meaning_forms.specs.Construct.{destructor_place, is_destructor, place_from}
use Rattle.region_forms.specs.Numbering.{sum_of, class_functions, first_function, first_implicit, destructor_number}
use Rattle.region_ir.specs.declared.numbers.ClassNumbers.{ClassNumbers}
use Rattle.region_ir.specs.Numbered.{found, numbers_in}

added : (f x y g : ℕ) → x ≡ y + g → f + x ≡ (f + y) + g
added f x y g e = omega (arith, e)

-- the functions of some classes and one class more
sums_next : (cs : List Class) (k : ℕ) → k < length cs →
    sum_of (map class_functions (take (suc k) cs)) ≡ sum_of (map class_functions (take k cs)) + class_functions (unwrap_or (slice_get cs k) no_class)
sums_next [] k inside = absurd (omega (arith, inside))
sums_next (c ∷ cs) zero inside = omega arith
sums_next (c ∷ cs) (suc k) inside =
    added (class_functions c) (sum_of (map class_functions (take (suc k) cs))) (sum_of (map class_functions (take k cs)))
    (class_functions (unwrap_or (slice_get cs k) no_class)) (sums_next cs k (omega (arith, inside)))

joined : (f x y g : ℕ) → x ≡ y + (g + 3) → f + x ≡ ((f + y) + g) + 3
joined f x y g e = omega (arith, e)

-- the functions of a class stand behind those of the class before
first_next : (p : Checked) (k : ℕ) → k < length p.classes → first_function p (k + 1) ≡ first_implicit p k + 3
first_next p k inside =
    let one : k + 1 ≡ suc k = omega arith in
    ap (first_function p) one ∙
    joined (length p.functions) (sum_of (map class_functions (take (suc k) p.classes))) (sum_of (map class_functions (take k p.classes)))
    (length (class_at p k).functions) (sums_next p.classes k inside)

abbrev numbers : ℕ → ℕ → ℕ → ClassNumbers
numbers a b c = record { declared = a; implicit = b; destructor = c }

destructor_same : (p : Checked) (n k : ℕ) → first_function p n ≡ first_function p k → first_implicit p n ≡ first_implicit p k → (o : Option ℕ) →
    destructor_number p n o ≡ destructor_number p k o
destructor_same p n k first implicit None = ap (λ m. m + 2) implicit
destructor_same p n k first implicit (Some i) = ap (λ m. m + i) first

numbers_same : (p : Checked) (n k : ℕ) → first_function p n ≡ first_function p k → class_at p n ≡ class_at p k → numbers_in p n ≡ numbers_in p k
numbers_same p n k first same =
    let implicit : first_implicit p n ≡ first_implicit p k =
    ap (λ f. f + length (class_at p n).functions) first ∙ ap (λ c. first_function p k + length c.functions) same in
    let place : destructor_place p n ≡ destructor_place p k = ap (λ c. place_from 0 (λ f. is_destructor f.kind) c.functions) same in
    let last : destructor_number p n (destructor_place p n) ≡ destructor_number p k (destructor_place p k) =
    destructor_same p n k first implicit (destructor_place p n) ∙ ap (destructor_number p k) place in
    ap (λ a. numbers a (first_implicit p n) (destructor_number p n (destructor_place p n))) first ∙
    (ap (λ b. numbers (first_function p k) b (destructor_number p n (destructor_place p n))) implicit ∙
    ap (numbers (first_function p k) (first_implicit p k)) last)

-- classes that are not there have the same numbers
numbers_past : (p : Checked) (n k : ℕ) → length p.classes ≤ n → length p.classes ≤ k → numbers_in p n ≡ numbers_in p k
numbers_past p n k past too =
    let taken : take n p.classes ≡ take k p.classes = take_all n p.classes past ∙ sym (take_all k p.classes too) in
    let gone : slice_get p.classes n ≡ slice_get p.classes k = slice_get_past p.classes n past ∙ sym (slice_get_past p.classes k too) in
    numbers_same p n k (ap (λ cs. length p.functions + sum_of (map class_functions cs)) taken) (ap (λ o. unwrap_or o no_class) gone)

each_more : (f : ℕ → ClassNumbers) (x : ClassNumbers) (table : List ClassNumbers) → x ≡ f (length table) →
    ((j : ℕ) → j < length table → slice_get table j ≡ Some (f j)) → (j : ℕ) → j < suc (length table) → slice_get (table ++ x ∷ []) j ≡ Some (f j)
each_more f x [] e h zero below = ap (λ y. Some y) e
each_more f x [] e h (suc j) below = absurd (omega (arith, below))
each_more f x (y ∷ ys) e h zero below = h zero (omega arith)
each_more f x (y ∷ ys) e h (suc j) below =
    each_more (λ i. f (suc i)) x ys e (λ i small. h (suc i) (omega (arith, small))) j (omega (arith, below))

each_found : (f : ℕ → ClassNumbers) (beyond : ClassNumbers) (table : List ClassNumbers) →
    ((j : ℕ) → j < length table → slice_get table j ≡ Some (f j)) → ((j : ℕ) → length table ≤ j → beyond ≡ f j) → (k : ℕ) → found table beyond k ≡ f k
each_found f beyond [] h past k = ap (λ o. unwrap_or o beyond) (slice_get_past [] k (omega arith)) ∙ past k (omega arith)
each_found f beyond (y ∷ ys) h past zero = ap (λ o. unwrap_or o beyond) (h zero (omega arith))
each_found f beyond (y ∷ ys) h past (suc k) =
    each_found (λ i. f (suc i)) beyond ys (λ i small. h (suc i) (omega (arith, small))) (λ i over. past (suc i) (omega (arith, over))) k

-- the first classes are numbered, and the functions of the next begin at a number
pub record NumberedTo (p : Checked) (table : List ClassNumbers) (next k : ℕ) : Type 0 where
  pub begins : next ≡ first_function p k
  pub count : length table ≡ k
  pub each : (j : ℕ) → j < length table → slice_get table j ≡ Some (numbers_in p j)

-- no class is
pub none_numbered : (p : CheckedValue) (n : ℕ) → n ≡ 0 + length p.functions.items → NumberedTo (checked_of p) [] n 0
none_numbered p n e = record {
  begins = omega (arith, e, length-map p.functions.items function_of);
  count = refl;
  each = λ j below. absurd (omega (arith, below));
}

-- one class more is
pub one_numbered : (p : CheckedValue) (table : List ClassNumbers) (first next k : ℕ) (x : ClassNumbers) → NumberedTo (checked_of p) table first k →
    x ≡ numbers_in (checked_of p) k → next ≡ x.implicit + 3 → k < length p.classes.items → NumberedTo (checked_of p) (table ++ x ∷ []) next (k + 1)
one_numbered p table first next k x before e behind inside =
    let q = checked_of p in
    let within : k < length q.classes = omega (arith, inside, length-map p.classes.items class_of) in
    let more = each_more (numbers_in q) x table (e ∙ ap (numbers_in q) (sym before.count)) before.each in
    let longer : length (table ++ x ∷ []) ≡ suc (length table) = omega (arith, length-append table (x ∷ [])) in
    record {
      begins = behind ∙ (ap (λ n. n.implicit + 3) e ∙ sym (first_next q k within));
      count = omega (arith, longer, before.count);
      each = λ j below. more j (omega (arith, below, longer));
    }

-- all of them are
pub all_numbered : (p : CheckedValue) (table : List ClassNumbers) (first n : ℕ) (beyond : ClassNumbers) → NumberedTo (checked_of p) table first n →
    length p.classes.items ≤ n → beyond ≡ numbers_in (checked_of p) n → (k : ℕ) → found table beyond k ≡ numbers_in (checked_of p) k
all_numbered p table first n beyond before over e =
    let q = checked_of p in
    let past : length q.classes ≤ n = omega (arith, over, length-map p.classes.items class_of) in
    each_found (numbers_in q) beyond table before.each (λ j further. e ∙ numbers_past q n j past (omega (arith, past, further, before.count)))
