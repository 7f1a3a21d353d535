-- Where the parts of a written list stand.
use Rattle.std.proofs.Common.{◌≡◌, ◌+◌, ◌%◌, ◌<◌, ◌≤◌, ◌^◌, ℕ, zero, suc, Bool, true, nat_lt, nat_le, List, [], ◌∷◌, ◌++◌, length, drop, Ok, refl, ap, ◌∙◌, arith, append_assoc, length-append}
use Rattle.std.specs.Int.{w32, to_le_bytes}
use Rattle.std.proofs.Math.Seq.{take-length}
use Rattle.std.proofs.lemmas.List.{length-drop}
use Rattle.std.proofs.lemmas.Bool.Decides.{nat_tests}
use Rattle.eh_bytes.specs.Memory.{Part}
use Rattle.eh_bytes.specs.Field.{fixed}
use Rattle.eh_bytes.specs.Listed.{ListedFrame}
use Rattle.table_forms.specs.Instruction.{in_frames}
use Rattle.table_forms.specs.Spans.{Span, no_spans, and_spans, spans_after, spans_from, spans_within}
use Rattle.eh_write.specs.WrittenFrames.{padded, fde_body, fde_bytes, fdes_bytes}
use Rattle.eh_write.proofs.Reading.{next_stands}
use Rattle.eh_write.proofs.FrameFields.{From, in_four}

-- up to the end of a part all its bytes count
pub whole_from : (part : Part) (p : ℕ) (xs : List ℕ) → drop p part.bytes ≡ xs → From part (length part.bytes) p xs
whole_from part p xs here = ap (drop p) (take-length part.bytes) ∙ here

-- what stands at a place lies in the bytes
pub room : (bytes : List ℕ) (p : ℕ) (x rest : List ℕ) → 0 < length x → drop p bytes ≡ x ++ rest → p + length x ≤ length bytes
room bytes p x rest some here =
    let long : length (drop p bytes) ≡ length (x ++ rest) = ap length here in
    omega (arith, some, long, length-drop p bytes, length-append x rest)

-- a part of some bytes behind its length
pub span_read : (part : Part) (p n size : ℕ) (body rest : List ℕ) → length body ≡ size → 0 < size → size < 2 ^ 32 → drop p part.bytes ≡ to_le_bytes w32 size ++ (body ++ rest) →
    spans_within (suc n) part p ≡ and_spans (record { at = p; stop = p + 4 + size }) (spans_within n part (p + 4 + size))
unfolding spans_within
span_read part p n size body rest long some small here =
    let more : List ℕ = body ++ rest in
    let head : List ℕ = to_le_bytes w32 size in
    let four : length head ≡ 4 = refl in
    let next : drop (p + 4) part.bytes ≡ body ++ rest = next_stands part.bytes p head more here in
    let fits = room part.bytes (p + 4) body rest (omega (arith, some, long)) next in
    let begins : nat_lt p (length part.bytes) ≡ true = grind (arith, nat_tests, fits) in
    let inside : nat_le (p + 4 + size) (length part.bytes) ≡ true = grind (arith, nat_tests, fits, long) in
    ap (λ b. spans_from part p b (in_frames (fixed w32) part (length part.bytes) p) (spans_within n part)) begins ∙
    ap (λ r. spans_from part p true r (spans_within n part)) (in_four part (length part.bytes) p size more small (whole_from part p (head ++ more) here)) ∙
    by_size size some inside
  where
    by_size : (m : ℕ) → 0 < m → nat_le (p + 4 + m) (length part.bytes) ≡ true →
        spans_from part p true (Ok (m, p + 4)) (spans_within n part) ≡ and_spans (record { at = p; stop = p + 4 + m }) (spans_within n part (p + 4 + m))
    by_size zero none test = absurd (omega (arith, none))
    by_size (suc m) one test = ap (λ b. spans_after part p b (record { at = p; stop = p + 4 + suc m }) (spans_within n part)) test

-- a length 0 ends the list
pub end_read : (part : Part) (p n : ℕ) (rest : List ℕ) → drop p part.bytes ≡ to_le_bytes w32 0 ++ rest → spans_within n part p ≡ no_spans []
unfolding spans_within
end_read part p zero rest here = refl
end_read part p (suc n) rest here =
    let four : length (to_le_bytes w32 0) ≡ 4 = refl in
    let fits = room part.bytes p (to_le_bytes w32 0) rest (omega arith) here in
    let begins : nat_lt p (length part.bytes) ≡ true = grind (arith, nat_tests, fits) in
    ap (λ b. spans_from part p b (in_frames (fixed w32) part (length part.bytes) p) (spans_within n part)) begins ∙
    ap (λ r. spans_from part p true r (spans_within n part)) (in_four part (length part.bytes) p 0 rest (omega arith) (whole_from part p (to_le_bytes w32 0 ++ rest) here))

-- how many bytes an FDE takes behind its length, where it stands at an address
abbrev pub body_size : Bool → ℕ → ℕ → ListedFrame → ℕ
body_size tables cie address f = length (padded (fde_body tables cie address f))

-- the parts of the frames from a place on, whose FDEs stand at addresses from another on
abbrev pub spans_of : Bool → ℕ → ℕ → ℕ → List ListedFrame → List Span
spans_of tables cie address p [] = []
spans_of tables cie address p (f ∷ fs) =
    let size = body_size tables cie address f in
    record { at = p; stop = p + 4 + size } ∷ spans_of tables cie (address + length (fde_bytes tables cie address f)) (p + 4 + size) fs

pub some_body : (tables : Bool) (cie address : ℕ) (f : ListedFrame) → 0 < body_size tables cie address f
unfolding fde_body
some_body tables cie address f = omega arith

pub fde_length : (tables : Bool) (cie address : ℕ) (f : ListedFrame) → length (fde_bytes tables cie address f) ≡ 4 + body_size tables cie address f
unfolding fde_bytes
fde_length tables cie address f =
    let four : length (to_le_bytes w32 (body_size tables cie address f % 2 ^ 32)) ≡ 4 = refl in
    omega (arith, four, length-append (to_le_bytes w32 (body_size tables cie address f % 2 ^ 32)) (padded (fde_body tables cie address f)))

pub fde_shape : (tables : Bool) (cie address : ℕ) (f : ListedFrame) (rest : List ℕ) → body_size tables cie address f < 2 ^ 32 →
    fde_bytes tables cie address f ++ rest ≡ to_le_bytes w32 (body_size tables cie address f) ++ (padded (fde_body tables cie address f) ++ rest)
unfolding fde_bytes
fde_shape tables cie address f rest small =
    let n = body_size tables cie address f in
    let same : n % 2 ^ 32 ≡ n = omega (arith, small) in
    ap (λ m. to_le_bytes w32 m ++ padded (fde_body tables cie address f) ++ rest) same ∙ append_assoc (to_le_bytes w32 n) (padded (fde_body tables cie address f)) rest

pub spans_read : (tables : Bool) (part : Part) (cie address p n : ℕ) (frames : List ListedFrame) (rest : List ℕ) → length (fdes_bytes tables cie address frames) < 2 ^ 32 → length frames ≤ n →
    drop p part.bytes ≡ fdes_bytes tables cie address frames ++ (to_le_bytes w32 0 ++ rest) →
    spans_within n part p ≡ record { list = spans_of tables cie address p frames; cut = [] }
spans_read tables part cie address p n [] rest small fuel here = end_read part p n rest here
spans_read tables part cie address p zero (f ∷ fs) rest small fuel here = absurd (omega (arith, fuel))
spans_read tables part cie address p (suc n) (f ∷ fs) rest small fuel here =
    let x = fde_bytes tables cie address f in
    let xs = fdes_bytes tables cie (address + length x) fs in
    let size = body_size tables cie address f in
    let long = fde_length tables cie address f in
    let both = length-append x xs in
    let more : List ℕ = xs ++ (to_le_bytes w32 0 ++ rest) in
    let first : drop p part.bytes ≡ x ++ more = here ∙ append_assoc x xs (to_le_bytes w32 0 ++ rest) in
    let second : drop (p + 4 + size) part.bytes ≡ more =
    ap (λ q. drop q part.bytes) (let e : p + 4 + size ≡ p + length x = omega (arith, long) in e) ∙ next_stands part.bytes p x more first in
    span_read part p n size (padded (fde_body tables cie address f)) more refl (some_body tables cie address f) (omega (arith, long, both, small)) (first ∙ fde_shape tables cie address f more (omega (arith, long, both, small))) ∙
    ap (and_spans (record { at = p; stop = p + 4 + size }))
    (spans_read tables part cie (address + length x) (p + 4 + size) n fs rest (omega (arith, both, small)) (omega (arith, fuel)) second)
