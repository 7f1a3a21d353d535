-- The first line of a text.
use Rattle.std.proofs.Common.{◌≡◌, ◌==◌, ◌+◌, ◌<◌, ℕ, zero, suc, Bool, true, false, List, [], ◌∷◌, length, take, drop, slice_index, Some, None, refl, ap, subst, ◌∙◌, arith}
use Rattle.std.proofs.Math.Seq.{take-length, drop-length}
use Rattle.memchr.specs.Find.{IsFirstByte, is_byte}
use Rattle.plain_text.specs.Lines.{lines_of, in_front, IsFirstLine}

pub lines_none : lines_of [] ≡ []
unfolding lines_of
lines_none = refl

-- a line feed ends the first line
ends_here : (byte : ℕ) (bytes : List ℕ) → (byte == 10) ≡ true → lines_of (byte ∷ bytes) ≡ (byte ∷ []) ∷ lines_of bytes
unfolding lines_of
ends_here byte bytes e = rw e refl

-- another byte stands in front of the first line
goes_on : (byte : ℕ) (bytes : List ℕ) → (byte == 10) ≡ false → lines_of (byte ∷ bytes) ≡ in_front byte (lines_of bytes)
unfolding lines_of
goes_on byte bytes e = rw e refl

-- the first line feed ends the first line
parted_at : (text : List ℕ) (end : ℕ) → end < length text → (slice_index text end == 10) ≡ true → ((i : ℕ) → i < end → (slice_index text i == 10) ≡ false) →
    lines_of text ≡ take (suc end) text ∷ lines_of (drop (suc end) text)
parted_at [] end inside is none = absurd (omega arith)
parted_at (b ∷ bs) zero inside is none = ends_here b bs is
parted_at (b ∷ bs) (suc end) inside is none =
    goes_on b bs (none 0 (omega arith)) ∙ ap (in_front b) (parted_at bs end (omega (arith, inside)) is (λ i below. none (suc i) (omega (arith, below))))

-- without a line feed all is one line
whole : (byte : ℕ) (bytes : List ℕ) → ((i : ℕ) → i < length (byte ∷ bytes) → (slice_index (byte ∷ bytes) i == 10) ≡ false) → lines_of (byte ∷ bytes) ≡ (byte ∷ bytes) ∷ []
unfolding lines_of
whole b [] none = goes_on b [] (none 0 (omega arith))
whole b (c ∷ bs) none = goes_on b (c ∷ bs) (none 0 (omega arith)) ∙ ap (in_front b) (whole c bs (λ i below. none (suc i) (omega (arith, below))))

-- a test that does not come true is false
pub fails : (b : Bool) → (b ≡ true → ⊥) → b ≡ false
fails true never = absurd (never refl)
fails false never = refl

pub line_ended : (text : List ℕ) (end : ℕ) → IsFirstByte (is_byte 10) text (Some end) → IsFirstLine text (end + 1)
line_ended text end (first, is) =
    let inside = first.high in
    let next : suc end ≡ end + 1 = omega arith in
    record {
      some = omega arith;
      inside = omega (arith, inside);
      lines = subst (λ n. lines_of text ≡ take n text ∷ lines_of (drop n text)) next (parted_at text end inside is (λ i below. fails (slice_index text i == 10) (first.before i (omega arith) below)));
    }

pub line_unended : (text : List ℕ) → 0 < length text → IsFirstByte (is_byte 10) text None → IsFirstLine text (length text)
line_unended [] some none = absurd (omega (arith, some))
line_unended (b ∷ bs) some none = record {
  some = omega arith;
  inside = omega arith;
  lines = whole b bs (λ i below. fails (slice_index (b ∷ bs) i == 10) (none i (omega arith) below)) ∙ both;
}
  where
    all : take (length (b ∷ bs)) (b ∷ bs) ≡ b ∷ bs
    all = take-length (b ∷ bs)

    nothing : drop (length (b ∷ bs)) (b ∷ bs) ≡ []
    nothing = drop-length (b ∷ bs)

    both : (b ∷ bs) ∷ [] ≡ take (length (b ∷ bs)) (b ∷ bs) ∷ lines_of (drop (length (b ∷ bs)) (b ∷ bs))
    both = rw all (rw nothing (rw lines_none refl))
