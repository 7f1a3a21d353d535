-- What the operation at a place says of its home and of the filters left there.
use Rattle.std.proofs.Common.{◌≡◌, ℕ, zero, suc, ◌+◌, ℤ, true, List, [], ◌∷◌, Some, ap, ◌∙◌, arith}
use Rattle.std.specs.Prelude.{drop, slice_get}
use Rattle.linear_forms.specs.Linear.{FunctionCode, LinearOp, plain, label, jump, jump_zero, pad, jump_filter, free, resume, unexpected, return}
use Rattle.cost_paths.specs.Control.{goes_on}
use Rattle.flight_homes.specs.Places.{two_before, home_from, home_in, tested_by, stopped_by, left_from, left_in}

dropped_at : {A : Type 0} (xs : List A) (p : ℕ) (x : A) → slice_get xs p ≡ Some x → drop p xs ≡ x ∷ drop (p + 1) xs
dropped_at [] p x e = absurd (cc e)
dropped_at (y ∷ xs) zero x e = let same : y ≡ x = cc e in ap (λ z. z ∷ xs) same
dropped_at (y ∷ xs) (suc p) x e = let next : suc (p + 1) ≡ suc p + 1 = omega arith in dropped_at xs p x e ∙ ap (λ n. x ∷ drop n (y ∷ xs)) next

-- an operation that tests no filter
abbrev pub NoTest : LinearOp → Type 0
NoTest (jump_filter s n l) = ⊥
NoTest o = Unit {0}

module _ (g : FunctionCode) where
  home_at : (p : ℕ) (o : LinearOp) → slice_get g.ops p ≡ Some o → home_in g p ≡ home_from (o ∷ drop (p + 1) g.ops) p
  home_at p o e = ap (λ ops. home_from ops p) (dropped_at g.ops p o e)

  left_at : (p : ℕ) (o : LinearOp) → slice_get g.ops p ≡ Some o → left_in g p ≡ left_from g.ops (o ∷ drop (p + 1) g.ops) p
  left_at p o e = ap (λ ops. left_from g.ops ops p) (dropped_at g.ops p o e)

  -- what goes on outwards is at home, with no filter left
  pub home_ends : (p s : ℕ) → slice_get g.ops p ≡ Some (resume s) → home_in g p ≡ p
  home_ends p s e = home_at p (resume s) e

  pub left_ends : (p s : ℕ) → slice_get g.ops p ≡ Some (resume s) → left_in g p ≡ []
  left_ends p s e = left_at p (resume s) e

  -- what a specification stops
  pub home_stops : (p o s : ℕ) → slice_get g.ops (p + 1 + 1) ≡ Some (unexpected o s) → home_in g (p + 1 + 1) ≡ p
  home_stops p o s e = let two : p + 1 + 1 ≡ suc (suc p) = omega arith in home_at (p + 1 + 1) (unexpected o s) e ∙ ap two_before two

  pub left_stops : (p o s t l : ℕ) (n : ℤ) → slice_get g.ops p ≡ Some (jump_filter t n l) → slice_get g.ops (p + 1 + 1 + 1) ≡ Some (unexpected o s) → left_in g (p + 1 + 1 + 1) ≡ n ∷ []
  left_stops p o s t l n test e =
      let three : p + 1 + 1 + 1 ≡ suc (suc (suc p)) = omega arith in
      left_at (p + 1 + 1 + 1) (unexpected o s) e ∙ ap (stopped_by g.ops) three ∙ ap tested_by test

  -- the home of what goes on to the next operation is the home of that
  pub home_on : (p : ℕ) (o : LinearOp) → slice_get g.ops p ≡ Some o → goes_on o ≡ true → home_in g p ≡ home_in g (p + 1)
  home_on p (plain o) e go = home_at p (plain o) e
  home_on p (label l) e go = home_at p (label l) e
  home_on p (jump l) e go = absurd (cc go)
  home_on p (jump_zero v l) e go = home_at p (jump_zero v l) e
  home_on p (pad o s) e go = home_at p (pad o s) e
  home_on p (jump_filter s n l) e go = home_at p (jump_filter s n l) e
  home_on p (free s) e go = home_at p (free s) e
  home_on p (resume s) e go = absurd (cc go)
  home_on p (unexpected o s) e go = absurd (cc go)
  home_on p (return result) e go = absurd (cc go)

  -- so it is with the filters left, but that one is tested
  pub left_on : (p : ℕ) (o : LinearOp) → slice_get g.ops p ≡ Some o → goes_on o ≡ true → NoTest o → left_in g p ≡ left_in g (p + 1)
  left_on p (plain o) e go none = left_at p (plain o) e
  left_on p (label l) e go none = left_at p (label l) e
  left_on p (jump l) e go none = absurd (cc go)
  left_on p (jump_zero v l) e go none = left_at p (jump_zero v l) e
  left_on p (pad o s) e go none = left_at p (pad o s) e
  left_on p (jump_filter s n l) e go none = absurd none
  left_on p (free s) e go none = left_at p (free s) e
  left_on p (resume s) e go none = absurd (cc go)
  left_on p (unexpected o s) e go none = absurd (cc go)
  left_on p (return result) e go none = absurd (cc go)

  pub left_tests : (p s l : ℕ) (n : ℤ) → slice_get g.ops p ≡ Some (jump_filter s n l) → left_in g p ≡ n ∷ left_in g (p + 1)
  left_tests p s l n e = left_at p (jump_filter s n l) e
