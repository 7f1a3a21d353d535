-- Fields of a part of the frames, where the bytes of the part end at a stop.
use Rattle.std.proofs.Common.{◌≡◌, ◌≢◌, ◌+◌, ◌-◌, ◌<◌, ◌≤◌, ◌^◌, ◌==◌, ℕ, ℤ, Bool, true, false, nat_lt, List, [], ◌∷◌, ◌++◌, length, take, drop, Ok, refl, ap, sym, ◌∙◌, arith, if◌then◌else◌}
use Rattle.std.specs.Int.{w32, to_le_bytes}
use Rattle.std.proofs.lemmas.Bool.Decides.{nat_tests}
use Rattle.eh_bytes.specs.declared.encoded.Pointer.{Pointer}
use Rattle.eh_bytes.specs.Memory.{Part}
use Rattle.eh_bytes.specs.Field.{Field, Reading, byte, fixed, behind}
use Rattle.eh_bytes.specs.Leb128.{uleb, sleb}
use Rattle.eh_bytes.specs.Encoded.{encoded, raw, extends, applies}
use Rattle.eh_bytes.specs.Spelling.{uleb_spelling_within, uleb_spelling, sleb_spelling}
use Rattle.std.proofs.lemmas.List.{drop-drop, take-take}
use Rattle.eh_bytes.proofs.Spelled.{magnitude}
use Rattle.eh_bytes.proofs.ReadAgain.{uleb-uleb_spelling, sleb-sleb_spelling}
use Rattle.table_forms.specs.Fault.{frame_reason, with_reason}
use Rattle.table_forms.specs.Instruction.{in_frames}
use Rattle.eh_write.specs.Distance.{distance_bytes, IsNear}
use Rattle.eh_write.proofs.ChainsFound.{cut_stands}
use Rattle.eh_write.proofs.DistanceRead.{four_read, zero_read, relative_read}

-- what stands at a place of the bytes up to a stop
abbrev pub From : Part → ℕ → ℕ → List ℕ → Type 0
From part stop p xs = drop p (take stop part.bytes) ≡ xs

pub read_from : {A : Type 0} (field : Field A) (part : Part) (stop p : ℕ) (xs : List ℕ) → From part stop p xs →
    in_frames field part stop p ≡ with_reason frame_reason (part.file_at + p) (behind p (field xs))
read_from field part stop p xs here = ap (λ ys. with_reason frame_reason (part.file_at + p) (behind p (field ys))) here

pub in_byte : (part : Part) (stop p b : ℕ) (rest : List ℕ) → From part stop p (b ∷ rest) → in_frames byte part stop p ≡ Ok (b, p + 1)
in_byte part stop p b rest here = read_from byte part stop p (b ∷ rest) here

pub in_uleb : (part : Part) (stop p n : ℕ) (rest : List ℕ) → n < 2 ^ 64 → From part stop p (uleb_spelling n ++ rest) →
    in_frames uleb part stop p ≡ Ok (n, p + length (uleb_spelling n))
in_uleb part stop p n rest fits here =
    read_from uleb part stop p (uleb_spelling n ++ rest) here ∙ ap (λ r. with_reason frame_reason (part.file_at + p) (behind p r)) (uleb-uleb_spelling n rest fits)

pub in_sleb : (part : Part) (stop p : ℕ) (z : ℤ) (rest : List ℕ) → magnitude z < 2 ^ 63 → From part stop p (sleb_spelling z ++ rest) →
    in_frames sleb part stop p ≡ Ok (z, p + length (sleb_spelling z))
in_sleb part stop p z rest fits here =
    read_from sleb part stop p (sleb_spelling z ++ rest) here ∙ ap (λ r. with_reason frame_reason (part.file_at + p) (behind p r)) (sleb-sleb_spelling z rest fits)

pub in_four : (part : Part) (stop p n : ℕ) (rest : List ℕ) → n < 2 ^ 32 → From part stop p (to_le_bytes w32 n ++ rest) → in_frames (fixed w32) part stop p ≡ Ok (n, p + 4)
in_four part stop p n rest small here =
    read_from (fixed w32) part stop p (to_le_bytes w32 n ++ rest) here ∙ ap (λ r. with_reason frame_reason (part.file_at + p) (behind p r)) (four_read n rest small)

pub in_relative : (part : Part) (stop p place a : ℕ) (rest : List ℕ) → a < 2 ^ 64 → IsNear place a → a ≢ place → From part stop p (distance_bytes place a ++ rest) →
    in_frames (encoded 27 place) part stop p ≡ Ok (record { value = a; indirect = false }, p + 4)
in_relative part stop p place a rest fits near other here =
    read_from (encoded 27 place) part stop p (distance_bytes place a ++ rest) here ∙
    ap (λ r. with_reason frame_reason (part.file_at + p) (behind p r)) (relative_read place a rest fits near other)

pub in_zero : (part : Part) (stop p place : ℕ) (rest : List ℕ) → From part stop p (to_le_bytes w32 0 ++ rest) →
    in_frames (encoded 27 place) part stop p ≡ Ok (record { value = 0; indirect = false }, p + 4)
in_zero part stop p place rest here =
    read_from (encoded 27 place) part stop p (to_le_bytes w32 0 ++ rest) here ∙ ap (λ r. with_reason frame_reason (part.file_at + p) (behind p r)) (zero_read place rest)

signed_read : (bytes : List ℕ) → encoded 11 0 bytes ≡ applies 11 0 (extends 4 (fixed w32 bytes))
unfolding encoded raw
signed_read bytes = refl

-- a length, in the format without its application
pub in_length : (part : Part) (stop p n : ℕ) (rest : List ℕ) → n < 2 ^ 31 → From part stop p (to_le_bytes w32 n ++ rest) →
    in_frames (encoded 11 0) part stop p ≡ Ok (record { value = n; indirect = false }, p + 4)
in_length part stop p n rest small here =
    read_from (encoded 11 0) part stop p (to_le_bytes w32 n ++ rest) here ∙
    ap (λ r. with_reason frame_reason (part.file_at + p) (behind p r))
    (signed_read (to_le_bytes w32 n ++ rest) ∙ ap (λ r. applies 11 0 (extends 4 r)) (four_read n rest (omega (arith, small))) ∙ positive ∙ by_zero (n == 0) refl)
  where
    below : nat_lt n (2 ^ 31) ≡ true
    below = grind (arith, nat_tests, small)

    positive : applies 11 0 (extends 4 (Ok (n, 4))) ≡ applies 11 0 (Ok (n, 4))
    positive = ap (λ b. applies 11 0 (Ok ((if b then n else n + (2 ^ 64 - 2 ^ 32)), 4))) below

    by_zero : (b : Bool) → (n == 0) ≡ b →
        ◌≡◌ {A = Reading Pointer} (Ok ((if b then record { value = 0; indirect = false } else record { value = n; indirect = false }), 4)) (Ok (record { value = n; indirect = false }, 4))
    by_zero true e = let none : n ≡ 0 = grind (arith, nat_tests, e) in ap (λ v. Ok (record { value = v; indirect = false }, 4)) (sym none)
    by_zero false e = refl

-- a number below 128 is one byte
pub small_spelled : (n : ℕ) → n < 128 → uleb_spelling n ≡ n ∷ []
unfolding uleb_spelling uleb_spelling_within
small_spelled n small = let test : nat_lt n 128 ≡ true = grind (arith, nat_tests, small) in rw test refl

pub in_small : (part : Part) (stop p n : ℕ) (rest : List ℕ) → n < 128 → From part stop p (n ∷ rest) → in_frames uleb part stop p ≡ Ok (n, p + 1)
in_small part stop p n rest small here =
    in_uleb part stop p n rest (omega (arith, small)) (here ∙ ap (λ x. x ++ rest) (sym (small_spelled n small))) ∙
    ap (λ x. Ok (n, p + length x)) (small_spelled n small)

-- the bytes that stand so far behind a place
pub behind_by : (part : Part) (stop p k : ℕ) (xs : List ℕ) → From part stop p xs → From part stop (p + k) (drop k xs)
behind_by part stop p k xs here = sym (drop-drop k p (take stop part.bytes)) ∙ ap (drop k) here

-- what stands before an earlier stop
pub cut_from : (part : Part) (stop p earlier : ℕ) (x rest : List ℕ) → From part stop p (x ++ rest) → p + length x ≤ earlier → earlier ≤ stop →
    From part earlier p (x ++ take (earlier - (p + length x)) rest)
cut_from part stop p earlier x rest here room less =
    ap (λ ys. drop p ys) (sym (take-take earlier stop part.bytes less)) ∙ cut_stands (take stop part.bytes) p earlier x rest here room
