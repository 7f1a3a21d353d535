-- The header of the frames depends only on its own bytes.
use Rattle.std.proofs.Common.{◌≡◌, ◌+◌, ◌*◌, ◌%◌, ◌^◌, ◌≤◌, ◌==◌, ◌&&◌, ℕ, zero, suc, Bool, true, false, List, [], ◌∷◌, length, drop, take, Result, Ok, Err, refl, ap, sym, ◌∙◌, arith}
use Rattle.std.specs.Prelude.{Option, Some, None, if◌then◌else◌}
use Rattle.std.specs.Int.{w32}
use Rattle.eh_bytes.specs.declared.frames.HdrRow.{HdrRow}
use Rattle.eh_bytes.specs.Memory.{Part}
use Rattle.eh_bytes.specs.Field.{byte, behind, fixed}
use Rattle.eh_bytes.specs.Encoded as encodings
use Rattle.table_forms.specs.declared.reason.Reason.TheVariants.{Version}
use Rattle.table_forms.specs.Fault.{Fault, ◌>>=◌, demand, with_reason, frame_reason}
use Rattle.table_forms.specs.Header.{Encodings, in_header, encodings_at, encoding_faults, from_start, row_in, and_rows, rows_from, rows_within, counted_rows, table_rows, with_rows, with_pointer, with_encodings, header_at}
use Rattle.lsda_pack.specs.SharedTables.{header_size}
use Rattle.lsda_pack.proofs.Fronts.{Same, same_inside}
use Rattle.lsda_pack.proofs.FieldFrame.{front_byte, front_fixed}
use Rattle.lsda_pack.proofs.HeadFrame.{with_bytes, bind_ok}
use Rattle.lsda_pack.proofs.LsdaFrame.{both_none}
use Rattle.lsda_pack.proofs.SpansFrame.{behind_four, whole_reads}

abbrev second : Result (ℕ × ℕ) Fault → ℕ
second (Ok x) = x.1
second (Err f) = 0

behind_one : (part : Part) (p n next : ℕ) → in_header byte part p ≡ Ok (n, next) → next ≡ p + 1
behind_one part p n next read = by (drop p (take (length part.bytes) part.bytes)) read
  where
    by : (xs : List ℕ) → with_reason frame_reason (part.file_at + p) (behind p (byte xs)) ≡ Ok (n, next) → next ≡ p + 1
    by [] e = absurd cc
    by (x ∷ xs) e = sym (ap second e)

-- a byte, and a number of four bytes
byte_same : (part : Part) (ys : List ℕ) (p end n next : ℕ) → length ys ≡ length part.bytes → p ≤ length part.bytes → p + 1 ≤ end → Same p end part.bytes ys →
    in_header byte part p ≡ Ok (n, next) → (in_header byte (with_bytes part ys) p ≡ Ok (n, next)) × (p + 1 ≤ length part.bytes)
byte_same part ys p end n next long inside high same read =
    let reads = whole_reads byte front_byte part p (n, next) inside read in
    let one = behind_one part p n next read in
    let own = reads.own in
    (reads.same ys long (same_inside p end p next part.bytes ys (omega arith) (omega (arith, one, high)) same), omega (arith, one, own))

word_same : (part : Part) (ys : List ℕ) (p end n next : ℕ) → length ys ≡ length part.bytes → p ≤ length part.bytes → p + 4 ≤ end → Same p end part.bytes ys →
    in_header (fixed w32) part p ≡ Ok (n, next) → (in_header (fixed w32) (with_bytes part ys) p ≡ Ok (n, next)) × (p + 4 ≤ length part.bytes) × (next ≡ p + 4)
word_same part ys p end n next long inside high same read =
    let reads = whole_reads (fixed w32) (front_fixed w32) part p (n, next) inside read in
    let four = behind_four part (length part.bytes) p n next read in
    let own = reads.own in
    (reads.same ys long (same_inside p end p next part.bytes ys (omega arith) (omega (arith, four, high)) same), omega (arith, four, own), four)

-- the encodings
abbrev pub encodings_made : ℕ × ℕ → ℕ × ℕ → ℕ × ℕ → Result Encodings Fault
encodings_made pointer count table = Ok (record { pointer = pointer.0; count = count.0; table = table.0 })

abbrev pub after_count : Part → ℕ → ℕ × ℕ → ℕ × ℕ → Result Encodings Fault
after_count part p pointer count = in_header byte part (p + 3) >>= encodings_made pointer count

abbrev pub after_pointer : Part → ℕ → ℕ × ℕ → Result Encodings Fault
after_pointer part p pointer = in_header byte part (p + 2) >>= after_count part p pointer

abbrev pub after_known : Part → ℕ → Bool → Result Encodings Fault
after_known part p known = in_header byte part (p + 1) >>= after_pointer part p

abbrev pub after_version : Part → ℕ → ℕ × ℕ → Result Encodings Fault
after_version part p version = demand (version.0 == 1) Version (part.file_at + p) >>= after_known part p

pub in_steps : (part : Part) (p : ℕ) → encodings_at part p ≡ (in_header byte part p >>= after_version part p)
unfolding encodings_at
in_steps part p = refl

encodings_same : (part : Part) (ys : List ℕ) (p end : ℕ) (e : Encodings) → length ys ≡ length part.bytes → p ≤ length part.bytes → p + 4 ≤ end → Same p end part.bytes ys →
    encodings_at part p ≡ Ok e → (encodings_at (with_bytes part ys) p ≡ Ok e) × (p + 4 ≤ length part.bytes)
encodings_same part ys p end e long inside high same read =
    let other = with_bytes part ys in
    let version = bind_ok (in_header byte part p) (after_version part p) e (sym (in_steps part p) ∙ read) in
    let known = bind_ok (demand (version.0.0 == 1) Version (part.file_at + p)) (after_known part p) e version.2 in
    let pointer = bind_ok (in_header byte part (p + 1)) (after_pointer part p) e known.2 in
    let count = bind_ok (in_header byte part (p + 2)) (after_count part p pointer.0) e pointer.2 in
    let table = bind_ok (in_header byte part (p + 3)) (encodings_made pointer.0 count.0) e count.2 in
    let from : (q : ℕ) → p ≤ q → Same q end part.bytes ys = λ q low. same_inside p end q end part.bytes ys low (omega arith) same in
    let one = byte_same part ys p end version.0.0 version.0.1 long inside (omega (arith, high)) same version.1 in
    let two = byte_same part ys (p + 1) end pointer.0.0 pointer.0.1 long one.1 (omega (arith, high)) (from (p + 1) (omega arith)) pointer.1 in
    let room = two.1 in
    let three = byte_same part ys (p + 2) end count.0.0 count.0.1 long (omega (arith, room)) (omega (arith, high)) (from (p + 2) (omega arith)) count.1 in
    let room' = three.1 in
    let four = byte_same part ys (p + 3) end table.0.0 table.0.1 long (omega (arith, room')) (omega (arith, high)) (from (p + 3) (omega arith)) table.1 in
    let last = four.1 in (
      in_steps other p ∙
          ap (λ r. r >>= after_version other p) one.0 ∙
          ap (λ r. r >>= after_known other p) known.1 ∙
          ap (λ r. r >>= after_pointer other p) two.0 ∙
          ap (λ r. r >>= after_count other p pointer.0) three.0 ∙
          ap (λ r. r >>= encodings_made pointer.0 count.0) four.0 ∙ table.2,
      omega (arith, last),
    )

-- a row
abbrev row_made : ℕ → ℕ × ℕ → ℕ × ℕ → Result HdrRow Fault
row_made start location fde = Ok (record { location = from_start start location.0; fde = from_start start fde.0 })

abbrev after_location : Part → ℕ → ℕ × ℕ → Result HdrRow Fault
after_location part start location = in_header (fixed w32) part location.1 >>= row_made start location

row_same : (part : Part) (ys : List ℕ) (start p end : ℕ) (r : HdrRow) → length ys ≡ length part.bytes → p ≤ length part.bytes → p + 8 ≤ end → Same p end part.bytes ys →
    row_in part start p ≡ Ok r → (row_in (with_bytes part ys) start p ≡ Ok r) × (p + 8 ≤ length part.bytes)
row_same part ys start p end r long inside high same read =
    let other = with_bytes part ys in
    let location = bind_ok (in_header (fixed w32) part p) (after_location part start) r read in
    let fde = bind_ok (in_header (fixed w32) part location.0.1) (row_made start location.0) r location.2 in
    let one = word_same part ys p end location.0.0 location.0.1 long inside (omega (arith, high)) same location.1 in
    let room = one.1 in
    let next = one.2 in
    let two = word_same part ys location.0.1 end fde.0.0 fde.0.1 long (omega (arith, room, next)) (omega (arith, high, next))
    (same_inside p end location.0.1 end part.bytes ys (omega (arith, next)) (omega arith) same) fde.1 in
    let last = two.1 in (
      ap (λ x. x >>= after_location other start) one.0 ∙ ap (λ x. x >>= row_made start location.0) two.0 ∙ fde.2,
      omega (arith, last, next),
    )

rows_same : (n : ℕ) (part : Part) (ys : List ℕ) (start p : ℕ) → length ys ≡ length part.bytes → p ≤ length part.bytes → (rows_within n part start p).cut ≡ [] →
    Same p (p + 8 * length (rows_within n part start p).rows) part.bytes ys → rows_within n (with_bytes part ys) start p ≡ rows_within n part start p
unfolding rows_within
rows_same zero part ys start p long inside cut same = refl
rows_same (suc n) part ys start p long inside cut same = by (row_in part start p) refl cut same (λ q i c s. rows_same n part ys start q long i c s)
  where
    other : Part
    other = with_bytes part ys

    Later : Type 0
    Later = (q : ℕ) → q ≤ length part.bytes → (rows_within n part start q).cut ≡ [] → Same q (q + 8 * length (rows_within n part start q).rows) part.bytes ys →
        rows_within n other start q ≡ rows_within n part start q

    by : (r : Result HdrRow Fault) → row_in part start p ≡ r → (rows_from r (rows_within n part start) (p + 8)).cut ≡ [] →
        Same p (p + 8 * length (rows_from r (rows_within n part start) (p + 8)).rows) part.bytes ys → Later →
        rows_from (row_in other start p) (rows_within n other start) (p + 8) ≡ rows_from r (rows_within n part start) (p + 8)
    by (Err f) e c s later = absurd cc
    by (Ok r) e c s later =
        let rest = rows_within n part start (p + 8) in
        let end = p + 8 * length (r ∷ rest.rows) in
        let one = row_same part ys start p end r long inside (omega arith) s e in
        ap (λ x. rows_from x (rows_within n other start) (p + 8)) one.0 ∙
        ap (and_rows r) (later (p + 8) one.1 c (same_inside p end (p + 8) (p + 8 + 8 * length rest.rows) part.bytes ys (omega arith) (omega arith) s))

counted_same : (part : Part) (ys : List ℕ) (start p : ℕ) (r : Result (ℕ × ℕ) Fault) → length ys ≡ length part.bytes → p ≤ length part.bytes → in_header (fixed w32) part p ≡ r →
    (counted_rows part start p r).cut ≡ [] → Same p (p + 4 + 8 * length (counted_rows part start p r).rows) part.bytes ys →
    counted_rows (with_bytes part ys) start p (in_header (fixed w32) (with_bytes part ys) p) ≡ counted_rows part start p r
counted_same part ys start p (Err f) long inside is cut same = absurd cc
counted_same part ys start p (Ok (n, next)) long inside is cut same =
    let rows = (rows_within n part start next).rows in
    let end = p + 4 + 8 * length rows in
    let one = word_same part ys p end n next long inside (omega arith) same is in
    let room = one.1 in
    let four = one.2 in
    ap (counted_rows (with_bytes part ys) start p) one.0 ∙
    rows_same n part ys start next long (omega (arith, room, four)) cut (same_inside p end next (next + 8 * length rows) part.bytes ys (omega (arith, four)) (omega (arith, four)) same)

-- the address of the frames
abbrev pub frames_from : Part → ℕ → Encodings → ℕ → Option ℕ
frames_from part p e n = if e.pointer == 0x1b then Some (if n == 0 then 0 else (part.address + (p + 4) + encodings.extended 4 n) % 2 ^ 64) else None

pub header_same : (part : Part) (ys : List ℕ) (p : ℕ) → length ys ≡ length part.bytes → p ≤ length part.bytes → (header_at part p).faults ≡ [] →
    Same p (p + header_size (header_at part p).rows) part.bytes ys → header_at (with_bytes part ys) p ≡ header_at part p
unfolding header_at
header_same part ys p long inside none same = by_encodings (encodings_at part p) refl none same
  where
    other : Part
    other = with_bytes part ys

    by_table : (e : Encodings) (n next : ℕ) (b : Bool) → next ≡ p + 8 → p + 8 ≤ length part.bytes →
        (with_rows (frames_from part p e n) (encoding_faults part p e) (table_rows b part (part.address + p) next)).faults ≡ [] →
        Same p (p + header_size (with_rows (frames_from part p e n) (encoding_faults part p e) (table_rows b part (part.address + p) next)).rows) part.bytes ys →
        table_rows b other (part.address + p) next ≡ table_rows b part (part.address + p) next
    by_table e n next false at room f s = refl
    by_table e n next true at room f s =
        let start = part.address + p in
        let rows = counted_rows part start next (in_header (fixed w32) part next) in
        let cut = (both_none (encoding_faults part p e) rows.cut f).1 in
        let end = p + (12 + 8 * length rows.rows) in
        ap (λ r. Some r)
        (counted_same part ys start next (in_header (fixed w32) part next) long (omega (arith, at, room)) refl cut
        (same_inside p end next (next + 4 + 8 * length rows.rows) part.bytes ys (omega (arith, at)) (omega (arith, at)) s))

    least_size : (o : Option (List HdrRow)) → 8 ≤ header_size o
    least_size None = omega arith
    least_size (Some rows) = omega arith

    by_pointer : (e : Encodings) → p + 4 ≤ length part.bytes → (r : Result (ℕ × ℕ) Fault) → in_header (fixed w32) part (p + 4) ≡ r → (with_pointer part p e r).faults ≡ [] →
        Same p (p + header_size (with_pointer part p e r).rows) part.bytes ys → with_pointer other p e (in_header (fixed w32) other (p + 4)) ≡ with_pointer part p e r
    by_pointer e room (Err g) is f s = absurd (let last = (both_none (encoding_faults part p e) (g ∷ []) f).1 in cc)
    by_pointer e room (Ok (n, next)) is f s =
        let b = e.count == 0x03 && e.table == 0x3b in
        let rows = (with_pointer part p e (Ok (n, next))).rows in
        let end = p + header_size rows in
        let size = least_size rows in
        let word = word_same part ys (p + 4) end n next long room (omega (arith, size)) (same_inside p end (p + 4) end part.bytes ys (omega arith) (omega arith) s) is in
        let four = word.2 in
        let last = word.1 in
        ap (with_pointer other p e) word.0 ∙
        ap (with_rows (frames_from part p e n) (encoding_faults part p e)) (by_table e n next b (omega (arith, four)) (omega (arith, last)) f s)

    by_encodings : (r : Result Encodings Fault) → encodings_at part p ≡ r → (with_encodings part p r).faults ≡ [] → Same p (p + header_size (with_encodings part p r).rows) part.bytes ys →
        with_encodings other p (encodings_at other p) ≡ with_encodings part p r
    by_encodings (Err g) is f s = absurd cc
    by_encodings (Ok e) is f s =
        let rows = (with_encodings part p (Ok e)).rows in
        let size = least_size rows in
        let one = encodings_same part ys p (p + header_size rows) e long inside (omega (arith, size)) s is in
        ap (with_encodings other p) one.0 ∙ by_pointer e one.1 (in_header (fixed w32) part (p + 4)) refl f s
