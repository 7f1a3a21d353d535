-- What is said of each operation of code, by the marks of its places.
use Rattle.std.proofs.Common.{◌≡◌, ℕ, zero, suc, ◌+◌, Bool, true, false, List, [], ◌∷◌, ◌++◌, length, sym, ◌∙◌, subst, ap, arith}
use Rattle.linear_forms.specs.Linear.{FunctionCode, LinearOp, jump, jump_zero, pad, jump_filter, resume, unexpected, return}
use Rattle.linear_forms.specs.Sites.{Placed}
use Rattle.linear_forms.specs.Exits.{Exit, exit_to, first_label}
use Rattle.linear_forms.specs.Emission.{Emitting}
use Rattle.cost_paths.specs.Control.{place_of}
use Rattle.exceptions_in_flight.specs.Carrying.{CarriesOn}

pub unmarked : {X : Type 0} (b : Bool) → b ≡ false → b ≡ true → X
unmarked b is_not is = let never : false ≡ true = sym is_not ∙ is in absurd (cc never)

module _ (g : FunctionCode) (em : Emitting) (carries : ℕ → Bool) where
  -- what ends a cleanup is marked, and has the slots of the pads, as these have
  abbrev pub Ends : ℕ → LinearOp → Type 0
  Ends p (resume s) = (carries p ≡ true) × (s ≡ em.object)
  Ends p (unexpected o s) = (carries p ≡ true) × (o ≡ em.object) × (s ≡ em.selector)
  Ends p (pad o s) = (o ≡ em.object) × (s ≡ em.selector)
  Ends p o = Unit {0}

  -- the next place is marked only behind a marked one, or behind a pad
  abbrev pub NextMarked : ℕ → LinearOp → Type 0
  NextMarked p (jump l) = Unit {0}
  NextMarked p (resume s) = Unit {0}
  NextMarked p (unexpected o s) = Unit {0}
  NextMarked p (return result) = Unit {0}
  NextMarked p (pad o s) = Unit {0}
  NextMarked p o = carries (p + 1) ≡ true → carries p ≡ true

  -- a jump goes to a marked place only from a marked one
  abbrev pub JumpMarked : ℕ → LinearOp → Type 0
  JumpMarked p (jump l) = carries (place_of g l) ≡ true → carries p ≡ true
  JumpMarked p (jump_zero v l) = carries (place_of g l) ≡ true → carries p ≡ true
  JumpMarked p (jump_filter s n l) = carries (place_of g l) ≡ true → carries p ≡ true
  JumpMarked p o = Unit {0}

  pub record IsMarked (p : ℕ) (x : Placed) : Type 0 where
    pub form : carries p ≡ true → CarriesOn em x.op
    pub ends : Ends p x.op
    pub next : NextMarked p x.op
    pub jump : JumpMarked p x.op

  abbrev pub AllMarked : ℕ → List Placed → Type 0
  AllMarked p [] = Unit {0}
  AllMarked p (x ∷ xs) = IsMarked p x × AllMarked (p + 1) xs

  pub both_marked : (p q : ℕ) (a b : List Placed) → q ≡ p + length a → AllMarked p a → AllMarked q b → AllMarked p (a ++ b)
  both_marked p q [] b e h k = let same : q ≡ p = omega (arith, e) in subst (λ n. AllMarked n b) same k
  both_marked p q (x ∷ a) b e h k = (h.0, both_marked (p + 1) q a b (omega (arith, e)) h.1 k)

  -- the labels of exits stand at places that are not marked
  abbrev pub ExitsFree : List Exit → Type 0
  ExitsFree xs = (n : ℕ) → carries (place_of g (first_label n xs)) ≡ false

  pub exits_inside : (l : ℕ) (xs : List Exit) → carries (place_of g l) ≡ false → ExitsFree xs → ExitsFree (exit_to l ∷ xs)
  exits_inside l xs own h zero = own
  exits_inside l xs own h (suc n) = h n

  pub free_at : (p q : ℕ) → p ≡ q → carries q ≡ false → carries p ≡ false
  free_at p q e h = ap carries e ∙ h
