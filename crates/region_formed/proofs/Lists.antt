-- Lists of what holds of each item, and texts among others.
use Rattle.std.proofs.Common.{◌≡◌, ◌||◌, ℕ, zero, suc, Bool, true, false, List, [], ◌∷◌, ◌++◌, Some, bytes_eq, refl, ap, subst}
use Rattle.std.specs.Prelude.{slice_get}
use Rattle.std.proofs.lemmas.Slice.Eq.{bytes_eq-Decides}
use Rattle.cxx_ast.specs.FunctionRules.{has_text}
use Rattle.cxx_ast.specs.Grammatical.{Each}

pub each_map : {A : Type 0} (P Q : A → Type 0) → ((x : A) → P x → Q x) → (xs : List A) → Each P xs → Each Q xs
each_map P Q f [] h = tt
each_map P Q f (x ∷ xs) h = (f x h.0, each_map P Q f xs h.1)

pub each_both : {A : Type 0} (P Q R : A → Type 0) → ((x : A) → P x → Q x → R x) → (xs : List A) → Each P xs → Each Q xs → Each R xs
each_both P Q R f [] h k = tt
each_both P Q R f (x ∷ xs) h k = (f x h.0 k.0, each_both P Q R f xs h.1 k.1)

pub each_front : {A : Type 0} (P : A → Type 0) (xs ys : List A) → Each P (xs ++ ys) → Each P xs
each_front P [] ys h = tt
each_front P (x ∷ xs) ys h = (h.0, each_front P xs ys h.1)

pub each_back : {A : Type 0} (P : A → Type 0) (xs ys : List A) → Each P (xs ++ ys) → Each P ys
each_back P [] ys h = h
each_back P (x ∷ xs) ys h = each_back P xs ys h.1

pub each_append : {A : Type 0} (P : A → Type 0) (xs ys : List A) → Each P xs → Each P ys → Each P (xs ++ ys)
each_append P [] ys h k = k
each_append P (x ∷ xs) ys h k = (h.0, each_append P xs ys h.1 k)

-- rows by columns
pub flipped : {A B : Type 0} (R : A → B → Type 0) (xs : List A) (ys : List B) → Each (λ x. Each (λ y. R x y) ys) xs → Each (λ y. Each (λ x. R x y) xs) ys
flipped R xs [] h = tt
flipped {A = A} R xs (y ∷ ys) h = (first xs h, flipped R xs ys (others xs h))
  where
    first : (xs : List A) → Each (λ x. Each (λ z. R x z) (y ∷ ys)) xs → Each (λ x. R x y) xs
    first [] k = tt
    first (x ∷ xs) k = (k.0.0, first xs k.1)

    others : (xs : List A) → Each (λ x. Each (λ z. R x z) (y ∷ ys)) xs → Each (λ x. Each (λ z. R x z) ys) xs
    others [] k = tt
    others (x ∷ xs) k = (k.0.1, others xs k.1)

pub each_last : {A : Type 0} (P : A → Type 0) (xs : List A) (x : A) → Each P xs → P x → Each P (xs ++ (x ∷ []))
each_last P [] x h k = (k, tt)
each_last P (y ∷ xs) x h k = (h.0, each_last P xs x h.1 k)

-- an item of a list
pub each_at : {A : Type 0} (P : A → Type 0) (xs : List A) (i : ℕ) (x : A) → Each P xs → slice_get xs i ≡ Some x → P x
each_at P [] zero x h e = absurd (cc e)
each_at P [] (suc i) x h e = absurd (cc e)
each_at P (y ∷ xs) zero x h e = let same : y ≡ x = cc e in subst P same h.0
each_at P (y ∷ xs) (suc i) x h e = each_at P xs i x h.1 e

-- a text is itself, and one of those that it begins
pub same_text : (text : List ℕ) → bytes_eq text text ≡ true
same_text text = (bytes_eq-Decides text text).1 refl

pub text_first : (text : List ℕ) (others : List (List ℕ)) → has_text text (text ∷ others) ≡ true
text_first text others = ap (λ b. b || has_text text others) (same_text text)

pub behind_true : (a b : Bool) → b ≡ true → (a || b) ≡ true
behind_true true b h = refl
behind_true false b h = h
