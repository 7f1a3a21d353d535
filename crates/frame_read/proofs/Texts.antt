-- Texts and letters, by where a search of bytes stops.
use Rattle.std.proofs.Common.{◌≡◌, ◌+◌, ◌==◌, ℕ, zero, suc, Bool, true, false, List, [], ◌∷◌, length, take, Option, Some, None, option_map, Ok, refl, ap, sym, ◌∙◌, arith, nat_lt, if◌then◌else◌, cond}
use Rattle.std.specs.Prelude.{not}
use Rattle.std.specs.List.{position, position_or_len}
use Rattle.std.proofs.lemmas.Bool.Decides.{nat_tests}
use Rattle.table_forms.specs.Cie.{text, with_letter, is_letter, first_wrong}
use Rattle.frame_read.specs.Texts.{text_before, zero_in, not_letter_in}

less_both : (n m : ℕ) → nat_lt (suc n) (suc m) ≡ nat_lt n m
less_both n m = by (nat_lt n m) refl
  where
    by : (b : Bool) → nat_lt n m ≡ b → nat_lt (suc n) (suc m) ≡ b
    by true e = grind (arith, nat_tests, e)
    by false e = grind (arith, nat_tests, e)

-- a search of a list that begins with an element that does not pass
pub position_later : {X : Type 0} (p : X → Bool) (x : X) (xs : List X) → p x ≡ false → position p (x ∷ xs) ≡ option_map suc (position p xs)
position_later p x xs fails =
    let n = position_or_len p xs in
    let next : position_or_len p (x ∷ xs) ≡ suc n = rw fails (let e : 1 + n ≡ suc n = omega arith in e) in
    rw next (ap (λ b. cond b (Some (suc n)) None) (less_both n (length xs)) ∙ by (nat_lt n (length xs)))
  where
    by : (b : Bool) → cond b (Some (suc (position_or_len p xs))) None ≡ option_map suc (cond b (Some (position_or_len p xs)) None)
    by true = refl
    by false = refl

pub position_first : {X : Type 0} (p : X → Bool) (x : X) (xs : List X) → p x ≡ true → position p (x ∷ xs) ≡ Some 0
position_first p x xs passes =
    let some : nat_lt 0 (length (x ∷ xs)) ≡ true = grind (arith, nat_tests) in
    rw passes (ap (λ b. cond b (Some 0) None) some)

pub text_found : (bytes : List ℕ) → text bytes ≡ text_before bytes (zero_in bytes)
text_found [] = refl
text_found (zero ∷ bytes) = ap (text_before (zero ∷ bytes)) (sym (position_first (λ x. x == 0) zero bytes refl))
text_found (suc b ∷ bytes) =
    ap (with_letter (suc b)) (text_found bytes) ∙ by (zero_in bytes) ∙
    ap (text_before (suc b ∷ bytes)) (sym (position_later (λ x. x == 0) (suc b) bytes (let e : (suc b == 0) ≡ false = grind (arith, nat_tests) in e)))
  where
    by : (o : Option ℕ) → with_letter (suc b) (text_before bytes o) ≡ text_before (suc b ∷ bytes) (option_map suc o)
    by None = refl
    by (Some n) = ap (λ k. Ok (suc b ∷ take n bytes, k)) (let e : 1 + (n + 1) ≡ suc n + 1 = omega arith in e)

pub letters_found : (p : ℕ) (bytes : List ℕ) → first_wrong p bytes ≡ option_map (λ n. p + n) (not_letter_in bytes)
letters_found p [] = refl
letters_found p (b ∷ bytes) = by (is_letter b) refl (letters_found (p + 1) bytes)
  where
    by : (l : Bool) → is_letter b ≡ l → first_wrong (p + 1) bytes ≡ option_map (λ n. p + 1 + n) (not_letter_in bytes) →
        (if l then first_wrong (p + 1) bytes else Some p) ≡ option_map (λ n. p + n) (not_letter_in (b ∷ bytes))
    by true l rest = rest ∙ moved (not_letter_in bytes) ∙ ap (option_map (λ n. p + n)) (sym (position_later (λ x. not (is_letter x)) b bytes (ap not l)))
      where
        moved : (o : Option ℕ) → option_map (λ n. p + 1 + n) o ≡ option_map (λ n. p + n) (option_map suc o)
        moved None = refl
        moved (Some n) = ap Some (let e : p + 1 + n ≡ p + suc n = omega arith in e)
    by false l rest = ap (λ k. Some k) (let e : p ≡ p + 0 = omega arith in e) ∙ ap (option_map (λ n. p + n)) (sym (position_first (λ x. not (is_letter x)) b bytes (ap not l)))
