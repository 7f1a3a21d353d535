-- What is made of kept variables one by one, each beside its register.
use Rattle.std.proofs.Common.{◌≡◌, ◌∙◌, ℕ, zero, suc, ◌+◌, ◌≤◌, List, [], ◌∷◌, ◌++◌, drop, length, None, Some, refl, ap, sym, append_assoc, arith}
use Rattle.std.specs.Prelude.{slice_get}
use Rattle.std.proofs.lemmas.List.{append-nil, drop_all}
use Rattle.machine_forms.specs.KeptCode.{restores, saves, save_moves}
use Rattle.machine_forms.specs.Registers.{saved_registers}
use Rattle.machine_forms.specs.Shape.{Shape}
use Rattle.rv64_emit.proofs.Registered.{from_item, from_none}

none_behind : (xs : List ℕ) (n : ℕ) → slice_get xs n ≡ None → drop (n + 1) xs ≡ []
none_behind [] zero e = refl
none_behind [] (suc n) e =
    let none : List ℕ = [] in
    let on : suc n + 1 ≡ suc (n + 1) = omega arith in
    ap (λ k. drop k none) on
none_behind (x ∷ xs) zero e = absurd (cc e)
none_behind (x ∷ xs) (suc n) e =
    let on : suc n + 1 ≡ suc (n + 1) = omega arith in
    ap (λ k. drop k (x ∷ xs)) on ∙ none_behind xs n e

module _ {X : Type 0} (ks : List ℕ) (i : ℕ) (all : List X) where
  -- the next one
  pub next : (F G : List ℕ → List ℕ → List X) (one a b : List X) (r s : ℕ) →
      F (r ∷ drop (i + 1) saved_registers) (s ∷ drop (i + 1) ks) ≡ one ++ G (drop (i + 1) saved_registers) (drop (i + 1) ks) → slice_get saved_registers i ≡ Some r →
      drop i ks ≡ s ∷ drop (i + 1) ks → a ++ F (drop i saved_registers) (drop i ks) ≡ all → b ≡ a ++ one →
      b ++ G (drop (i + 1) saved_registers) (drop (i + 1) ks) ≡ all
  next F G one a b r s is er es h e =
      let rest = G (drop (i + 1) saved_registers) (drop (i + 1) ks) in
      let here : F (drop i saved_registers) (drop i ks) ≡ one ++ rest
      = ap (λ l. F l (drop i ks)) (from_item saved_registers i r er) ∙ (ap (F (r ∷ drop (i + 1) saved_registers)) es ∙ is) in
      ap (λ l. l ++ rest) e ∙ (append_assoc a one rest ∙ (ap (λ l. a ++ l) (sym here) ∙ h))

  -- there is no register for it
  pub over : (F G : List ℕ → List ℕ → List X) (a : List X) → ((xs : List ℕ) → F [] xs ≡ []) → ((xs : List ℕ) → G [] xs ≡ []) → slice_get saved_registers i ≡ None →
      a ++ F (drop i saved_registers) (drop i ks) ≡ all → a ++ G (drop (i + 1) saved_registers) (drop (i + 1) ks) ≡ all
  over F G a f g e h =
      let here : F (drop i saved_registers) (drop i ks) ≡ [] = ap (λ l. F l (drop i ks)) (from_none saved_registers i e) ∙ f (drop i ks) in
      let there : G (drop (i + 1) saved_registers) (drop (i + 1) ks) ≡ [] = ap (λ l. G l (drop (i + 1) ks)) (none_behind saved_registers i e) ∙ g (drop (i + 1) ks) in
      ap (λ l. a ++ l) (there ∙ sym here) ∙ h

  -- none is left
  pub last : (F : List ℕ → List ℕ → List X) (a : List X) → ((rs : List ℕ) → F rs [] ≡ []) → length ks ≤ i → a ++ F (drop i saved_registers) (drop i ks) ≡ all → a ≡ all
  last F a f past h = sym (append-nil a) ∙ (ap (λ l. a ++ l) (sym (ap (F (drop i saved_registers)) (drop_all i ks past) ∙ f (drop i saved_registers))) ∙ h)

-- where there are no variables nothing is saved, restored, or moved
pub no_saves : (f : Shape) (n : ℕ) (rs : List ℕ) → saves f n rs [] ≡ []
no_saves f n [] = refl
no_saves f n (r ∷ rs) = refl

pub no_restores : (f : Shape) (rs : List ℕ) → restores f rs [] ≡ []
no_restores f [] = refl
no_restores f (r ∷ rs) = refl

pub no_moves : (f : Shape) (n first : ℕ) (rs : List ℕ) → save_moves f n first rs [] ≡ []
no_moves f n first [] = refl
no_moves f n first (r ∷ rs) = refl
