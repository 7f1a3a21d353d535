-- A header that is written is read as its pointer and its rows.
use Rattle.std.proofs.Common.{◌≡◌, ◌≢◌, ◌+◌, ◌-◌, ◌*◌, ◌%◌, ◌<◌, ◌≤◌, ◌^◌, ◌==◌, ℕ, Bool, true, false, List, [], ◌∷◌, ◌++◌, length, drop, Ok, refl, ap, sym, ◌∙◌, arith, append_assoc, length-append, ◌⊎◌, inl, inr, if◌then◌else◌}
use Rattle.std.specs.Prelude.{Option, Some, None, IsSomeAnd, flat_map}
use Rattle.std.specs.Int.{w32, to_le_bytes}
use Rattle.std.specs.List.{AllByRecursion}
use Rattle.std.proofs.lemmas.List.{drop-drop}
use Rattle.std.proofs.Math.Seq.{take-length}
use Rattle.std.proofs.lemmas.Bool.Decides.{nat_tests}
use Rattle.eh_bytes.specs.declared.frames.HdrRow.{HdrRow}
use Rattle.eh_bytes.specs.Memory.{Part, part_with}
use Rattle.eh_bytes.specs.Field.{Field, byte, fixed, at, behind}
use Rattle.eh_bytes.specs.Encoded.{extended}
use Rattle.table_forms.specs.Fault.{frame_reason, with_reason}
use Rattle.table_forms.specs.Header.{in_header, encodings_at, from_start, row_in, and_rows, rows_from, rows_within, counted_rows, table_rows, with_rows, with_pointer, with_encodings, header_at}
use Rattle.table_forms.specs.WrittenFrames.{WritesHeader}
use Rattle.eh_write.specs.Distance.{distance, distance_bytes, IsNear}
use Rattle.eh_write.specs.WrittenHeader.{IsLow, row_bytes, header_bytes, CanWriteHeader}
use Rattle.eh_write.proofs.Reading.{next_stands}
use Rattle.eh_write.proofs.DistanceRead.{four_read, none_between, led}
use Rattle.eh_write.proofs.Found.{found_covers}

-- a field of the header is one of the whole part
whole : {A : Type 0} (field : Field A) (part : Part) (p : ℕ) → in_header field part p ≡ with_reason frame_reason (part.file_at + p) (at field part.bytes p)
whole field part p = ap (λ bytes. with_reason frame_reason (part.file_at + p) (at field bytes p)) (take-length part.bytes)

byte_in : (part : Part) (p b : ℕ) (rest : List ℕ) → drop p part.bytes ≡ b ∷ rest → in_header byte part p ≡ Ok (b, p + 1)
byte_in part p b rest here = whole byte part p ∙ ap (λ xs. with_reason frame_reason (part.file_at + p) (behind p (byte xs))) here

number_in : (part : Part) (p n : ℕ) (rest : List ℕ) → n < 2 ^ 32 → drop p part.bytes ≡ to_le_bytes w32 n ++ rest → in_header (fixed w32) part p ≡ Ok (n, p + 4)
number_in part p n rest small here =
    whole (fixed w32) part p ∙ ap (λ xs. with_reason frame_reason (part.file_at + p) (behind p (fixed w32 xs))) here ∙
    ap (λ r. with_reason frame_reason (part.file_at + p) (behind p r)) (four_read n rest small)

distance_in : (part : Part) (p place a : ℕ) (rest : List ℕ) → drop p part.bytes ≡ distance_bytes place a ++ rest → in_header (fixed w32) part p ≡ Ok (distance place a, p + 4)
distance_in part p place a rest here = number_in part p (distance place a) rest (omega arith) here

-- so many bytes behind a place
later : (bytes : List ℕ) (p k : ℕ) (xs : List ℕ) → drop p bytes ≡ xs → drop (p + k) bytes ≡ drop k xs
later bytes p k xs here = sym (drop-drop k p bytes) ∙ ap (drop k) here

low_near : (a b : ℕ) → IsLow a → IsLow b → IsNear a b
low_near a b x y = (omega (arith, x, y), omega (arith, x, y))

from_start_is : (start a : ℕ) → IsLow start → IsLow a → from_start start (distance start a) ≡ a
from_start_is start a x y =
    let other_way : start + extended 4 (distance start a) ≡ extended 4 (distance start a) + start = omega arith in
    ap (λ n. n % 2 ^ 64) other_way ∙ led start a (omega (arith, y)) (low_near start a x y)

row_read : (part : Part) (start p : ℕ) (row : HdrRow) (rest : List ℕ) → IsLow start → IsLow row.location → IsLow row.fde → drop p part.bytes ≡ row_bytes start row ++ rest →
    row_in part start p ≡ Ok row
row_read part start p row rest low location fde here =
    let first : drop p part.bytes ≡ distance_bytes start row.location ++ (distance_bytes start row.fde ++ rest) = here ∙ append_assoc (distance_bytes start row.location) (distance_bytes start row.fde) rest in
    let second : drop (p + 4) part.bytes ≡ distance_bytes start row.fde ++ rest = next_stands part.bytes p (distance_bytes start row.location) (distance_bytes start row.fde ++ rest) first in
    rw (distance_in part p start row.location (distance_bytes start row.fde ++ rest) first)
    (rw (distance_in part (p + 4) start row.fde rest second)
    (rw (from_start_is start row.location low location) (rw (from_start_is start row.fde low fde) refl)))

rows_read : (part : Part) (start p : ℕ) (rows : List HdrRow) (rest : List ℕ) → IsLow start → AllByRecursion (λ row. IsLow row.location × IsLow row.fde) rows →
    drop p part.bytes ≡ flat_map (row_bytes start) rows ++ rest → rows_within (length rows) part start p ≡ record { rows = rows; cut = [] }
unfolding rows_within
rows_read part start p [] rest low listed here = refl
rows_read part start p (row ∷ rows) rest low listed here =
    let xs = flat_map (row_bytes start) rows in
    let first : drop p part.bytes ≡ row_bytes start row ++ (xs ++ rest) = here ∙ append_assoc (row_bytes start row) xs rest in
    let second : drop (p + 8) part.bytes ≡ xs ++ rest = next_stands part.bytes p (row_bytes start row) (xs ++ rest) first in
    ap (λ r. rows_from r (rows_within (length rows) part start) (p + 8)) (row_read part start p row (xs ++ rest) low listed.0.0 listed.0.1 first) ∙
    ap (and_rows row) (rows_read part start (p + 8) rows rest low listed.1 second)

rows_length : (start : ℕ) (rows : List HdrRow) → length (flat_map (row_bytes start) rows) ≡ 8 * length rows
rows_length start [] = refl
rows_length start (row ∷ rows) =
    let eight : length (row_bytes start row) ≡ 8 = refl in
    omega (arith, eight, rows_length start rows, length-append (row_bytes start row) (flat_map (row_bytes start) rows))

abbrev body : List HdrRow → ℕ → ℕ → List ℕ
body rows frames_at address = distance_bytes (address + 4) frames_at ++ to_le_bytes w32 (length rows) ++ flat_map (row_bytes address) rows

shaped : (rows : List HdrRow) (frames_at address : ℕ) (rest : List ℕ) → header_bytes rows frames_at address ++ rest ≡ 1 ∷ 0x1b ∷ 0x03 ∷ 0x3b ∷ (body rows frames_at address ++ rest)
unfolding header_bytes
shaped rows frames_at address rest = refl

header_length : (rows : List HdrRow) (frames_at address : ℕ) → length (header_bytes rows frames_at address) ≡ 12 + 8 * length rows
unfolding header_bytes
header_length rows frames_at address =
    let d = distance_bytes (address + 4) frames_at in
    let c = to_le_bytes w32 (length rows) in
    let four : length d ≡ 4 = refl in
    let four_too : length c ≡ 4 = refl in
    omega (arith, four, four_too, rows_length address rows, length-append (d ++ c) (flat_map (row_bytes address) rows), length-append d c)

encodings_read : (part : Part) (p : ℕ) (rest : List ℕ) → drop p part.bytes ≡ 1 ∷ 0x1b ∷ 0x03 ∷ 0x3b ∷ rest →
    encodings_at part p ≡ Ok (record { pointer = 0x1b; count = 0x03; table = 0x3b })
unfolding encodings_at
encodings_read part p rest here =
    rw (byte_in part p 1 (0x1b ∷ 0x03 ∷ 0x3b ∷ rest) here)
    (rw (byte_in part (p + 1) 0x1b (0x03 ∷ 0x3b ∷ rest) (later part.bytes p 1 (1 ∷ 0x1b ∷ 0x03 ∷ 0x3b ∷ rest) here))
    (rw (byte_in part (p + 2) 0x03 (0x3b ∷ rest) (later part.bytes p 2 (1 ∷ 0x1b ∷ 0x03 ∷ 0x3b ∷ rest) here))
    (rw (byte_in part (p + 3) 0x3b rest (later part.bytes p 3 (1 ∷ 0x1b ∷ 0x03 ∷ 0x3b ∷ rest) here)) refl)))

-- the pointer leads to the frames, which don't stand at the pointer
pointer_read : (frames_at place : ℕ) → IsLow frames_at → IsLow place → frames_at ≢ place →
    (if distance place frames_at == 0 then 0 else (place + extended 4 (distance place frames_at)) % 2 ^ 64) ≡ frames_at
pointer_read frames_at place low there other = by_zero (distance place frames_at == 0) refl
  where
    by_zero : (b : Bool) → (distance place frames_at == 0) ≡ b → (if b then 0 else (place + extended 4 (distance place frames_at)) % 2 ^ 64) ≡ frames_at
    by_zero true e =
        let none : distance place frames_at ≡ 0 = grind (arith, nat_tests, e) in
        absurd (other (none_between place frames_at (low_near place frames_at there low) (ap (extended 4) none)))
    by_zero false e = from_start_is place frames_at there low

header_read : (rows : List HdrRow) (frames_at address : ℕ) (part : Part) (p : ℕ) (rest : List ℕ) → CanWriteHeader rows frames_at address → part.address + p ≡ address →
    drop p part.bytes ≡ header_bytes rows frames_at address ++ rest → header_at part p ≡ record { frames_at = Some frames_at; rows = Some rows; faults = [] }
unfolding header_at
header_read rows frames_at address part p rest can at here =
    let d = distance_bytes (address + 4) frames_at in
    let c = to_le_bytes w32 (length rows) in
    let xs = flat_map (row_bytes address) rows in
    let long = header_length rows frames_at address in
    let ends = can.ends in
    let whole_header = here ∙ shaped rows frames_at address rest in
    let pointer : drop (p + 4) part.bytes ≡ d ++ (c ++ (xs ++ rest)) =
    later part.bytes p 4 (1 ∷ 0x1b ∷ 0x03 ∷ 0x3b ∷ (body rows frames_at address ++ rest)) whole_header ∙ append_assoc (d ++ c) xs rest ∙ append_assoc d c (xs ++ rest) in
    let count : drop (p + 4 + 4) part.bytes ≡ c ++ (xs ++ rest) = next_stands part.bytes (p + 4) d (c ++ (xs ++ rest)) pointer in
    let table : drop (p + 4 + 4 + 4) part.bytes ≡ xs ++ rest = next_stands part.bytes (p + 4 + 4) c (xs ++ rest) count in
    let low : IsLow address = omega (arith, ends, long) in
    let place : part.address + (p + 4) ≡ address + 4 = omega (arith, at) in
    let led_to : (if distance (address + 4) frames_at == 0 then 0 else (part.address + (p + 4) + extended 4 (distance (address + 4) frames_at)) % 2 ^ 64) ≡ frames_at =
    ap (λ q. if distance (address + 4) frames_at == 0 then 0 else (q + extended 4 (distance (address + 4) frames_at)) % 2 ^ 64) place ∙
    pointer_read frames_at (address + 4) can.frames (omega (arith, ends, long)) (apart can.outside long) in
    ap (with_encodings part p) (encodings_read part p (body rows frames_at address ++ rest) whole_header) ∙
    ap (with_pointer part p (record { pointer = 0x1b; count = 0x03; table = 0x3b })) (distance_in part (p + 4) (address + 4) frames_at (c ++ (xs ++ rest)) pointer) ∙
    ap (λ f. with_rows (Some f) [] (table_rows true part (part.address + p) (p + 4 + 4))) led_to ∙
    ap (λ r. with_rows (Some frames_at) [] (Some (counted_rows part (part.address + p) (p + 4 + 4) r))) (number_in part (p + 4 + 4) (length rows) (xs ++ rest) (omega (arith, ends, long)) count) ∙
    ap (λ s. with_rows (Some frames_at) [] (Some (rows_within (length rows) part s (p + 4 + 4 + 4)))) at ∙
    ap (λ r. with_rows (Some frames_at) [] (Some r)) (rows_read part address (p + 4 + 4 + 4) rows rest low can.listed table)
  where
    apart : (frames_at < address) ⊎ (address + length (header_bytes rows frames_at address) ≤ frames_at) → length (header_bytes rows frames_at address) ≡ 12 + 8 * length rows →
        frames_at ≢ address + 4
    apart (inl before) long = λ e. absurd (omega (arith, before, e))
    apart (inr after) long = λ e. absurd (omega (arith, after, e, long))

pub writes_header : (rows : List HdrRow) (frames_at address : ℕ) → CanWriteHeader rows frames_at address → WritesHeader rows frames_at address (header_bytes rows frames_at address)
writes_header rows frames_at address can memory has = by_part (part_with memory address) refl has
  where
    by_part : (found : Option Part) → part_with memory address ≡ found →
        IsSomeAnd found (λ part. (rest : List ℕ) × (drop (address - part.address) part.bytes ≡ header_bytes rows frames_at address ++ rest)) →
        IsSomeAnd found (λ part. header_at part (address - part.address) ≡ record { frames_at = Some frames_at; rows = Some rows; faults = [] })
    by_part None is has = absurd has
    by_part (Some part) is (rest, here) =
        let below = found_covers memory address part is in
        header_read rows frames_at address part (address - part.address) rest can (omega (arith, below)) here
