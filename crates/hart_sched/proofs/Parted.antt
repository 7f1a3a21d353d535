-- What stands before the first of a byte, and what behind it.
use Rattle.std.proofs.Common.{◌≡◌, ◌==◌, ◌+◌, ◌<◌, ℕ, zero, suc, true, false, cond, List, [], ◌∷◌, length, take, drop, slice_index, Some, None, refl, ap, subst, ◌∙◌, arith}
use Rattle.std.specs.Prelude.{option_map}
use Rattle.memchr.specs.Find.{IsFirstByte, is_byte}
use Rattle.plain_text.proofs.FirstLine.{fails}
use Rattle.hart_sched.specs.Schedule.{parted}

first_is : (byte : ℕ) (text : List ℕ) (i : ℕ) → i < length text → (slice_index text i == byte) ≡ true → ((j : ℕ) → j < i → (slice_index text j == byte) ≡ false) →
    parted byte text ≡ Some (take i text, drop (suc i) text)
unfolding parted
first_is byte [] i inside is none = absurd (omega arith)
first_is byte (b ∷ bs) zero inside is none = ap (λ t. cond t (Some ([], bs)) (option_map (λ (p : List ℕ × List ℕ). (b ∷ p.0, p.1)) (parted byte bs))) is
first_is byte (b ∷ bs) (suc i) inside is none =
    ap (λ t. cond t (Some ([], bs)) (option_map (λ (p : List ℕ × List ℕ). (b ∷ p.0, p.1)) (parted byte bs))) (none 0 (omega arith)) ∙
    ap (option_map (λ (p : List ℕ × List ℕ). (b ∷ p.0, p.1))) (first_is byte bs i (omega (arith, inside)) is (λ j below. none (suc j) (omega (arith, below))))

nowhere : (byte : ℕ) (text : List ℕ) → ((j : ℕ) → j < length text → (slice_index text j == byte) ≡ false) → parted byte text ≡ None
unfolding parted
nowhere byte [] none = refl
nowhere byte (b ∷ bs) none =
    ap (λ t. cond t (Some ([], bs)) (option_map (λ (p : List ℕ × List ℕ). (b ∷ p.0, p.1)) (parted byte bs))) (none 0 (omega arith)) ∙
    ap (option_map (λ (p : List ℕ × List ℕ). (b ∷ p.0, p.1))) (nowhere byte bs (λ j below. none (suc j) (omega (arith, below))))

pub parted_some : (byte : ℕ) (text : List ℕ) (i : ℕ) → IsFirstByte (is_byte byte) text (Some i) → parted byte text ≡ Some (take i text, drop (i + 1) text)
parted_some byte text i (first, is) =
    let next : suc i ≡ i + 1 = omega arith in
    subst (λ n. parted byte text ≡ Some (take i text, drop n text)) next (first_is byte text i first.high is (λ j below. fails (slice_index text j == byte) (first.before j (omega arith) below)))

pub parted_none : (byte : ℕ) (text : List ℕ) → IsFirstByte (is_byte byte) text None → parted byte text ≡ None
parted_none byte text none = nowhere byte text (λ j below. fails (slice_index text j == byte) (none j (omega arith) below))
