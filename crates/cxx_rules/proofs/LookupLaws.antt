-- Members by the first that has a name.
use Rattle.std.proofs.Common.{◌≡◌, ℕ, suc, ◌+◌, Bool, true, false, ◌&&◌, List, [], ◌∷◌, Option, Some, None, refl, ap, ◌∙◌, sym, cond, bytes_eq, position, option_map, drop, arith}
use Rattle.cxx_ast.specs.Environment.{Field, Signature}
use Rattle.cxx_ast.specs.Lookup.{in_reach, is_method, field_named, method_named}
use Rattle.cxx_rules.specs.NamesOf.{field_texts, function_texts}
use Rattle.cxx_ast.proofs.Positions.{position-cons}

never : (b : Bool) → (b && false) ≡ false
never true = refl
never false = refl

-- a position behind one more
data Behind (o : Option ℕ) (b : Bool) (rest : Option ℕ) : Type 0 where
  at_once : b ≡ true → o ≡ Some 0 → Behind o b rest
  later : (j : ℕ) → b ≡ false → rest ≡ Some j → o ≡ Some (suc j) → Behind o b rest
  nowhere : b ≡ false → rest ≡ None → o ≡ None → Behind o b rest

behind : (o : Option ℕ) (b : Bool) (rest : Option ℕ) → o ≡ cond b (Some 0) (option_map suc rest) → Behind o b rest
behind o true rest e = at_once refl e
behind o false (Some j) e = later j refl refl e
behind o false None e = nowhere refl refl e

some_is : (a b : ℕ) → Some a ≡ Some b → a ≡ b
some_is a b e = cc

module _ (limit : Option ℕ) (text : List ℕ) (k : ℕ) where
  abbrev pub place : List (List ℕ) → Option ℕ
  place = position (λ d. bytes_eq d text)

  field_passed : (i : ℕ) (f : Field) (fs : List Field) → bytes_eq f.name.text text ≡ false → field_named limit text k i (f ∷ fs) ≡ field_named limit text k (i + 1) fs
  field_passed i f fs e = rw e (rw (never (in_reach limit f.name)) refl)

  pub no_field : (i : ℕ) (fs : List Field) → place (field_texts fs) ≡ None → field_named limit text k i fs ≡ None
  no_field i [] e = refl
  no_field i (f ∷ fs) e = by (no_field (i + 1) fs) (behind _ _ _ (sym e ∙ position-cons (λ d. bytes_eq d text) f.name.text (field_texts fs)))
    where
      by : (place (field_texts fs) ≡ None → field_named limit text k (i + 1) fs ≡ None) → Behind None (bytes_eq f.name.text text) (place (field_texts fs)) → field_named limit text k i (f ∷ fs) ≡ None
      by rest (at_once b o) = cc
      by rest (later j b r o) = cc
      by rest (nowhere b r o) = field_passed i f fs b ∙ rest r

  pub first_field : (i j : ℕ) (fs : List Field) → place (field_texts fs) ≡ Some j → field_named limit text k i fs ≡ field_named limit text k (i + j) (drop j fs)
  first_field i j [] e = cc
  first_field i j (f ∷ fs) e = by (λ n r. first_field (i + 1) n fs r) (behind _ _ _ (sym e ∙ position-cons (λ d. bytes_eq d text) f.name.text (field_texts fs)))
    where
      by : ((n : ℕ) → place (field_texts fs) ≡ Some n → field_named limit text k (i + 1) fs ≡ field_named limit text k (i + 1 + n) (drop n fs)) →
          Behind (Some j) (bytes_eq f.name.text text) (place (field_texts fs)) → field_named limit text k i (f ∷ fs) ≡ field_named limit text k (i + j) (drop j (f ∷ fs))
      by rest (at_once b o) =
          let none : i ≡ i + 0 = omega arith in
          ap (λ n. field_named limit text k n (f ∷ fs)) none
          ∙ ap (λ n. field_named limit text k (i + n) (drop n (f ∷ fs))) (sym (some_is j 0 o))
      by rest (later n b r o) =
          let next : i + 1 + n ≡ i + suc n = omega arith in
          field_passed i f fs b ∙ rest n r ∙ ap (λ m. field_named limit text k m (drop n fs)) next
          ∙ ap (λ m. field_named limit text k (i + m) (drop m (f ∷ fs))) (sym (some_is j (suc n) o))
      by rest (nowhere b r o) = cc

  method_passed : (i : ℕ) (f : Signature) (fs : List Signature) → bytes_eq f.name.text text ≡ false → method_named limit text k i (f ∷ fs) ≡ method_named limit text k (i + 1) fs
  method_passed i f fs e = rw e (rw (never (is_method f.form && in_reach limit f.name)) refl)

  pub no_method : (i : ℕ) (fs : List Signature) → place (function_texts fs) ≡ None → method_named limit text k i fs ≡ None
  no_method i [] e = refl
  no_method i (f ∷ fs) e = by (no_method (i + 1) fs) (behind _ _ _ (sym e ∙ position-cons (λ d. bytes_eq d text) f.name.text (function_texts fs)))
    where
      by : (place (function_texts fs) ≡ None → method_named limit text k (i + 1) fs ≡ None) → Behind None (bytes_eq f.name.text text) (place (function_texts fs)) → method_named limit text k i (f ∷ fs) ≡ None
      by rest (at_once b o) = cc
      by rest (later j b r o) = cc
      by rest (nowhere b r o) = method_passed i f fs b ∙ rest r

  pub first_method : (i j : ℕ) (fs : List Signature) → place (function_texts fs) ≡ Some j → method_named limit text k i fs ≡ method_named limit text k (i + j) (drop j fs)
  first_method i j [] e = cc
  first_method i j (f ∷ fs) e = by (λ n r. first_method (i + 1) n fs r) (behind _ _ _ (sym e ∙ position-cons (λ d. bytes_eq d text) f.name.text (function_texts fs)))
    where
      by : ((n : ℕ) → place (function_texts fs) ≡ Some n → method_named limit text k (i + 1) fs ≡ method_named limit text k (i + 1 + n) (drop n fs)) →
          Behind (Some j) (bytes_eq f.name.text text) (place (function_texts fs)) → method_named limit text k i (f ∷ fs) ≡ method_named limit text k (i + j) (drop j (f ∷ fs))
      by rest (at_once b o) =
          let none : i ≡ i + 0 = omega arith in
          ap (λ n. method_named limit text k n (f ∷ fs)) none
          ∙ ap (λ n. method_named limit text k (i + n) (drop n (f ∷ fs))) (sym (some_is j 0 o))
      by rest (later n b r o) =
          let next : i + 1 + n ≡ i + suc n = omega arith in
          method_passed i f fs b ∙ rest n r ∙ ap (λ m. method_named limit text k m (drop n fs)) next
          ∙ ap (λ m. method_named limit text k (i + m) (drop m (f ∷ fs))) (sym (some_is j (suc n) o))
      by rest (nowhere b r o) = cc
