-- Functions, constructors and destructors reach inside what their addresses begin at.
use Rattle.std.proofs.Common.{◌≡◌, ◌∙◌, refl, sym, ap, arith, ℕ, zero, suc, ◌+◌, ◌-◌, ◌<◌, ◌≤◌, Bool, true, false, List, [], ◌∷◌, ◌++◌, append_assoc, length, Option, Some, None, if◌then◌else◌}
use Rattle.std.specs.Prelude.{map, replicate, slice_get, unwrap_or}
use Rattle.std.proofs.lemmas.List.{length-map, length-append}
use Rattle.cxx_ast.specs.Limits.{most_class_bytes}
use Rattle.cxx_ast.specs.declared.types.Ty.TheVariants.{Int}
use Rattle.cxx_ast.specs.Plain.{Checked}
use Rattle.meaning_forms.specs.Class.{class_type, object_type}
use Rattle.region_forms.specs.Form.{Slot, Region}
use Rattle.region_forms.specs.Layout.{Layout, laid_size}
use Rattle.region_forms.specs.LowerExpression.{result_slot}
use Rattle.region_forms.specs.Mentioned.{slots_of}
use Rattle.region_forms.specs.LowerProgram.{slot_for, help, own_slots, lowering, slots_for}
use Rattle.region_statements.specs.Whole.{IsTypedProgram}
use Rattle.linear_forms.specs.Frame.{has_pad}
use Rattle.address_bounds.specs.Givens.{Given, own_reach, reaches_in, reach_of, needs_of}
use Rattle.address_bounds.proofs.Callees.{needed}
use Rattle.address_bounds.proofs.Where.{Where, Known}

-- ---- the slots of a function

found_behind : {A : Type 0} (xs ys : List A) (n : ℕ) → slice_get (xs ++ ys) (length xs + n) ≡ slice_get ys n
found_behind [] ys n = let none : 0 + n ≡ n = omega arith in ap (slice_get ys) none
found_behind (x ∷ xs) ys n = let one : length (x ∷ xs) + n ≡ suc (length xs + n) = omega arith in ap (slice_get (x ∷ (xs ++ ys))) one ∙ found_behind xs ys n

mapped_at : {A B : Type 0} (f : A → B) (d : A) (xs : List A) (n : ℕ) → n < length xs → slice_get (map f xs) n ≡ Some (f (unwrap_or (slice_get xs n) d))
mapped_at f d [] n h = absurd (omega (arith, h))
mapped_at f d (x ∷ xs) zero h = refl
mapped_at f d (x ∷ xs) (suc n) h = mapped_at f d xs n (omega (arith, h))

none_behind : {A : Type 0} (xs : List A) (n : ℕ) → length xs ≤ n → slice_get xs n ≡ None
none_behind [] n h = refl
none_behind (x ∷ xs) zero h = absurd (omega (arith, h))
none_behind (x ∷ xs) (suc n) h = none_behind xs n (omega (arith, h))

-- behind a list, an item is one of what follows
at_behind : {A : Type 0} (xs ys : List A) (n : ℕ) → length xs ≤ n → slice_get (xs ++ ys) n ≡ slice_get ys (n - length xs)
at_behind xs ys n h = let e : n ≡ length xs + (n - length xs) = omega (arith, h) in ap (slice_get (xs ++ ys)) e ∙ found_behind xs ys (n - length xs)

-- the slots that pads use stand behind all others
abbrev pub pad_slots : Bool → List Slot
pad_slots b = if b then help ∷ help ∷ help ∷ [] else []

one_of_helps : (b : Bool) (y : Slot) (count n : ℕ) → slice_get (replicate count help ++ pad_slots b) n ≡ Some y → y ≡ help
one_of_helps true y zero zero e = let same : help ≡ y = cc e in sym same
one_of_helps true y zero (suc zero) e = let same : help ≡ y = cc e in sym same
one_of_helps true y zero (suc (suc zero)) e = let same : help ≡ y = cc e in sym same
one_of_helps true y zero (suc (suc (suc n))) e = absurd (cc e)
one_of_helps false y zero n e = absurd (cc e)
one_of_helps b y (suc count) zero e = let same : help ≡ y = cc e in sym same
one_of_helps b y (suc count) (suc n) e = one_of_helps b y count n e

-- whether a function is one of a class
abbrev pub is_member : Option ℕ → Bool
is_member None = false
is_member (Some k) = true

own_length : (l : Layout) (own : Option ℕ) → length (own_reach l own) ≡ length (own_slots (is_member own))
own_length l None = refl
own_length l (Some k) = refl

-- what is given where a function with these variables and this body is lowered
abbrev pub where_of : Checked → Layout → Given → Region → Where
where_of p l g body = record {
  lowering = lowering p l (is_member g.own) g.variables;
  own = g.own;
  needs = needs_of p l;
  reach = reach_of l g;
  slots = slots_for l (is_member g.own) g.variables body ++ pad_slots (has_pad body);
}

-- there are slots for all variables
pub slots_many : (p : Checked) (l : Layout) (g : Given) (body : Region) → result_slot (lowering p l (is_member g.own) g.variables) ≤ length (slots_for l (is_member g.own) g.variables body)
slots_many p l g body =
    let count : ℕ = 2 + (slots_of body - (length (own_slots (is_member g.own)) + length g.variables + 2)) in
    let a = length-append (own_slots (is_member g.own)) (map (slot_for l) g.variables ++ replicate count help) in
    let b = length-append (map (slot_for l) g.variables) (replicate count help) in
    let c = length-map g.variables (slot_for l) in
    omega (arith, a, b, c)

pub known_of : (p : Checked) (l : Layout) (g : Given) (body : Region) → IsTypedProgram p l → ((k : ℕ) → laid_size l (class_type k) ≤ most_class_bytes) → Known (where_of p l g body)
known_of p l g body typed small = record {
  apart = typed.apart;
  small = small;
  this = λ k is. ap (λ own. unwrap_or (slice_get (own_reach l own ++ map (λ t. laid_size l (object_type t)) g.variables) 0) most_class_bytes) is;
  variables = λ n below.
      let same : length (own_slots (is_member g.own)) + n ≡ length (own_reach l g.own) + n = (let e = own_length l g.own in omega (arith, e)) in
      ap (λ s. unwrap_or (slice_get (reaches_in l g) s) most_class_bytes) same ∙ ap (λ o. unwrap_or o most_class_bytes) (found_behind (own_reach l g.own) (map (λ t. laid_size l (object_type t)) g.variables) n
      ∙ mapped_at (λ t. laid_size l (object_type t)) Int g.variables n below);
  behind = λ s far.
      let a = own_length l g.own in
      let b = length-map g.variables (λ t. laid_size l (object_type t)) in
      let c = length-append (own_reach l g.own) (map (λ t. laid_size l (object_type t)) g.variables) in
      ap (λ o. unwrap_or o most_class_bytes) (none_behind (reaches_in l g) s (omega (arith, a, b, c, far)));
  variable_slots = λ n slot below is.
      let rest : List Slot = replicate (count_of body) help ++ pad_slots (has_pad body) in
      let there = found_behind (own_slots (is_member g.own)) (map (slot_for l) g.variables ++ rest) n ∙ in_first (map (slot_for l) g.variables) rest n (slot_for l (unwrap_or (slice_get g.variables n) Int)) (mapped_at (slot_for l) Int g.variables n below) in
      some_same (sym is ∙ ap (λ xs. slice_get xs (length (own_slots (is_member g.own)) + n)) regrouped ∙ there);
  help_slots = λ s slot far is.
      let a = length-map g.variables (slot_for l) in
      let first = at_behind (own_slots (is_member g.own)) (map (slot_for l) g.variables ++ (replicate (count_of body) help ++ pad_slots (has_pad body))) s (omega (arith, far)) in
      let second = at_behind (map (slot_for l) g.variables) (replicate (count_of body) help ++ pad_slots (has_pad body)) (s - length (own_slots (is_member g.own))) (omega (arith, far, a)) in
      one_of_helps (has_pad body) slot (count_of body) (s - length (own_slots (is_member g.own)) - length (map (slot_for l) g.variables)) (sym (ap (λ xs. slice_get xs s) regrouped ∙ first ∙ second) ∙ is);
  named = typed.named;
  called = λ c there. needed p l c there;
}
  where
    some_same : {x y : Slot} → Some x ≡ Some y → x ≡ y
    some_same e = cc e

    count_of : Region → ℕ
    count_of body = 2 + (slots_of body - (length (own_slots (is_member g.own)) + length g.variables + 2))

    regrouped : (own_slots (is_member g.own) ++ (map (slot_for l) g.variables ++ replicate (count_of body) help)) ++ pad_slots (has_pad body)
        ≡ own_slots (is_member g.own) ++ (map (slot_for l) g.variables ++ (replicate (count_of body) help ++ pad_slots (has_pad body)))
    regrouped =
        append_assoc (own_slots (is_member g.own)) (map (slot_for l) g.variables ++ replicate (count_of body) help) (pad_slots (has_pad body))
        ∙ ap (λ xs. own_slots (is_member g.own) ++ xs) (append_assoc (map (slot_for l) g.variables) (replicate (count_of body) help) (pad_slots (has_pad body)))

    in_first : (xs ys : List Slot) (n : ℕ) (x : Slot) → slice_get xs n ≡ Some x → slice_get (xs ++ ys) n ≡ Some x
    in_first [] ys n x e = absurd (cc e)
    in_first (y ∷ xs) ys zero x e = e
    in_first (y ∷ xs) ys (suc n) x e = in_first xs ys n x e
