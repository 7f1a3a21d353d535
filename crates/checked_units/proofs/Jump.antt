-- The jump to main stands where the words of a unit do.
use Rattle.std.proofs.Common.{◌≡◌, refl, ap, arith, ℕ, zero, suc, ◌+◌, List, [], ◌∷◌, ◌++◌, length}
use Rattle.std.specs.Prelude.{slice_get}
use Rattle.rv64_isa.specs.State.{Part}
use Rattle.linear_forms.specs.Linear.{UnitCode}
use Rattle.machine_forms.specs.StubCode.{stub_words}
use Rattle.machine_forms.specs.Emitted.{unit_words, main_jump, target_byte, emitted_stubs}
use Rattle.machine_pieces.specs.Standing.{PiecesAt, WordsAt}
use Rattle.machine_pieces.specs.UnitAt.{ground_at}

behind : (xs ys : List ℕ) (n k : ℕ) → n ≡ length xs + k → slice_get (xs ++ ys) n ≡ slice_get ys k
behind [] ys n k e = let same : n ≡ k = omega (arith, e) in ap (slice_get ys) same
behind (x ∷ xs) ys zero k e = absurd (omega (arith, e))
behind (x ∷ xs) ys (suc n) k e = behind xs ys n k (omega (arith, e))

stub_length : length emitted_stubs.code ≡ stub_words
stub_length = refl

pub jump_stands : (u : UnitCode) (base : ℕ) (memory : List Part) → WordsAt memory base (emitted_stubs.code ++ unit_words u) →
    PiecesAt memory (ground_at u base (record { target = target_byte u; label = λ l. l })) stub_words (main_jump u)
jump_stands u base memory words = (
  record { inside = omega arith; fits = omega arith; word = words stub_words _ (behind emitted_stubs.code (unit_words u) stub_words 0 (omega (arith, stub_length))) },
  (
    record {
      inside = omega arith;
      fits = (omega arith, omega arith);
      word = words (stub_words + 1) _ (behind emitted_stubs.code (unit_words u) (stub_words + 1) 1 (omega (arith, stub_length)));
    },
    tt,
  ),
)
