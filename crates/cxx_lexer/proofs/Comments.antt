-- Where a comment is closed.
use Rattle.std.proofs.Common.{◌≡◌, ℕ, zero, suc, ◌+◌, ◌<◌, ◌≤◌, Bool, true, false, ◌==◌, ◌&&◌, ◌||◌, List, [], ◌∷◌, ◌++◌, length, take, drop, codes, Some, None, cond, refl, ap, arith, add-one}
use Rattle.cxx_ast.specs.Lexeme.{begins_with, has_close}
use Rattle.cxx_lexer.specs.Close.{close_from}
use Rattle.cxx_lexer.proofs.ByteTests.{begins_is}

-- no close is found where none stands
pub none_closes : (at : ℕ) (text : List ℕ) → close_from at text ≡ None → has_close text ≡ false
none_closes at [] e = refl
none_closes at (b ∷ bs) e = elim (begins_with (codes "*/") (b ∷ bs)) as (λ x. cond x (Some at) (close_from (at + 1) bs) ≡ None → (x || has_close bs) ≡ false) [
  | true ↦ λ some. cc
  | false ↦ λ none. none_closes (at + 1) bs none
] e

-- The first close is found: the text is what stands before it, the close, and the rest.
pub record Closes (text : List ℕ) (before : ℕ) : Type 0 where
  pub spelled : text ≡ take before text ++ (codes "*/" ++ drop (suc (suc before)) text)
  pub first : has_close (take before text) ≡ false
  pub within : suc (suc before) ≤ length text

-- a first part of a text begins no close where the text begins none
short_begins_none : (b : ℕ) (bs : List ℕ) (n : ℕ) → begins_with (codes "*/") (b ∷ bs) ≡ false → begins_with (codes "*/") (b ∷ take n bs) ≡ false
short_begins_none b [] zero e = e
short_begins_none b [] (suc n) e = e
short_begins_none b (c ∷ bs) zero e = and_false (42 == b)
  where
    and_false : (x : Bool) → (x && false) ≡ false
    and_false true = refl
    and_false false = refl
short_begins_none b (c ∷ bs) (suc n) e = e

closes_later : (b : ℕ) (bs : List ℕ) (n : ℕ) → begins_with (codes "*/") (b ∷ bs) ≡ false → Closes bs n → Closes (b ∷ bs) (suc n)
closes_later b bs n none c = record {
  spelled = ap (λ (xs : List ℕ). b ∷ xs) c.spelled;
  first = rw (short_begins_none b bs n none) c.first;
  within = let h : suc (suc n) ≤ length bs = c.within in omega (arith, h);
}

long_enough : (text : List ℕ) → begins_with (codes "*/") text ≡ true → 2 ≤ length text
long_enough text e = omega (arith, ap length (begins_is (codes "*/") text e))

pub first_close : (at end : ℕ) (text : List ℕ) → close_from at text ≡ Some end → (before : ℕ) × (end ≡ at + before) × Closes text before
first_close at end [] e = cc
first_close at end (b ∷ bs) e = elim (begins_with (codes "*/") (b ∷ bs)) as (λ x. begins_with (codes "*/") (b ∷ bs) ≡ x → cond x (Some at) (close_from (at + 1) bs) ≡ Some end → (before : ℕ) × (end ≡ at + before) × Closes (b ∷ bs) before) [
  | true ↦ λ here some. let same : at ≡ end = cc in (0, omega (arith, same), record { spelled = begins_is (codes "*/") (b ∷ bs) here; first = refl; within = long_enough (b ∷ bs) here })
  | false ↦ λ here some. let later = first_close (at + 1) end bs some in (suc later.0, omega (arith, later.1), closes_later b bs later.0 here later.2)
] refl e

-- at a place where a close begins
pub close_here : (at : ℕ) (text : List ℕ) → begins_with (codes "*/") text ≡ true → close_from at text ≡ Some at
close_here at [] e = cc
close_here at (b ∷ bs) e = rw e refl

-- past a place where none begins
pub close_past : (at : ℕ) (text : List ℕ) (i : ℕ) → i < length text → begins_with (codes "*/") (drop i text) ≡ false → close_from at (drop i text) ≡ close_from (at + 1) (drop (i + 1) text)
close_past at text i small e = rw (add-one i) (close_past_suc at text i small e)
  where
    close_past_suc : (at : ℕ) (text : List ℕ) (i : ℕ) → i < length text → begins_with (codes "*/") (drop i text) ≡ false → close_from at (drop i text) ≡ close_from (at + 1) (drop (suc i) text)
    close_past_suc at [] i small e = absurd (omega arith)
    close_past_suc at (b ∷ bs) zero small e = rw e refl
    close_past_suc at (b ∷ bs) (suc i) small e = close_past_suc at bs i (omega arith) e
