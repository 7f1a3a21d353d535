-- How many bytes a header takes of which nothing is refused, by its count.
use Rattle.std.proofs.Common.{◌≡◌, ◌+◌, ◌*◌, ◌<◌, ◌≤◌, ◌==◌, ◌&&◌, ◌||◌, nat_lt, ℕ, zero, suc, Bool, true, false, cond, List, [], ◌∷◌, ◌++◌, length, take, drop, Result, Ok, Err, refl, ap, sym, subst, ◌∙◌, arith, length-drop}
use Rattle.std.proofs.lemmas.Bool.Decides.{nat_tests}
use Rattle.std.proofs.lemmas.List.{length-take-le}
use Rattle.std.specs.Prelude.{Option, Some, None, if◌then◌else◌}
use Rattle.std.specs.Int.{w32, from_le_bytes}
use Rattle.eh_bytes.specs.declared.error.ByteError.TheVariants.{Truncated}
use Rattle.eh_bytes.specs.declared.frames.HdrRow.{HdrRow}
use Rattle.eh_bytes.specs.Memory.{Part}
use Rattle.eh_bytes.specs.Field.{Reading, byte, behind, fixed}
use Rattle.table_forms.specs.declared.reason.Reason.TheVariants.{Version, Encoding}
use Rattle.table_forms.specs.Fault.{Fault, demand, unless, with_reason, frame_reason}
use Rattle.table_forms.specs.Header.{Rows, Encodings, in_header, is_bare, encodings_at, encoding_faults, row_in, rows_from, rows_within, counted_rows, table_rows, with_rows, with_pointer, with_encodings, header_at}
use Rattle.lsda_pack.specs.Extents.{size_counted, size_by}
use Rattle.lsda_pack.specs.SharedTables.{header_size}
use Rattle.lsda_pack.proofs.HeadFrame.{bind_ok}
use Rattle.lsda_pack.proofs.HeaderFrame.{in_steps, after_version, after_known, after_pointer, after_count, encodings_made, frames_from}
use Rattle.lsda_pack.proofs.LsdaFrame.{both_none}
use Rattle.lsda_pack.proofs.SpansFrame.{behind_four}

-- four bytes that are read stand there
pub word_room : (part : Part) (q n next : ℕ) → in_header (fixed w32) part q ≡ Ok (n, next) → q + 4 ≤ length part.bytes
word_room part q n next read = by (nat_lt (length xs) 4) refl read
  where
    xs : List ℕ
    xs = drop q (take (length part.bytes) part.bytes)

    by : (b : Bool) → nat_lt (length xs) 4 ≡ b →
        with_reason frame_reason (part.file_at + q) (behind q (cond {A = Reading ℕ} b (Err Truncated) (Ok (from_le_bytes w32 (take 4 xs), 4)))) ≡ Ok (n, next) → q + 4 ≤ length part.bytes
    by true e r = absurd cc
    by false e r =
        let left = length-drop q (take (length part.bytes) part.bytes) in
        let whole = length-take-le (length part.bytes) part.bytes (omega arith) in
        let long : 4 ≤ length xs = grind (arith, nat_tests, e) in
        omega (arith, left, whole, long)

-- rows of which none is cut are as many as are counted
rows_long : (n : ℕ) (part : Part) (start p : ℕ) → (rows_within n part start p).cut ≡ [] → length (rows_within n part start p).rows ≡ n
unfolding rows_within
rows_long zero part start p none = refl
rows_long (suc n) part start p none = by (λ e. rows_long n part start (p + 8) e) (row_in part start p) none
  where
    by : ((rows_within n part start (p + 8)).cut ≡ [] → length (rows_within n part start (p + 8)).rows ≡ n) → (r : Result HdrRow Fault) → (rows_from r (rows_within n part start) (p + 8)).cut ≡ [] → length (rows_from r (rows_within n part start) (p + 8)).rows ≡ suc n
    by more (Err f) e = absurd cc
    by more (Ok r) e = ap (λ k. suc k) (more e)

counted_long : (part : Part) (start p : ℕ) (r : Result (ℕ × ℕ) Fault) → (counted_rows part start p r).cut ≡ [] → size_counted r ≡ 12 + 8 * length (counted_rows part start p r).rows
counted_long part start p (Err f) none = absurd cc
counted_long part start p (Ok (n, next)) none = ap (λ k. 12 + 8 * k) (sym (rows_long n part start next none))

kept : (b : Bool) (place : ℕ) → unless b Encoding place ≡ [] → b ≡ true
kept true place e = refl
kept false place e = absurd cc

-- the encoding of the count is that of a table, or there is none
has_table : (c t : ℕ) → (c == 255 && t == 255 || c == 3) ≡ true → (c == 255 && t == 255 || t == 59) ≡ true → (c == 3) ≡ (c == 3 && t == 59)
has_table c t one two = by (c == 3) (t == 59) refl refl
  where
    by : (a b : Bool) → (c == 3) ≡ a → (t == 59) ≡ b → (c == 3) ≡ (c == 3 && t == 59)
    by false b e f = rw e refl
    by true true e f = rw (e, f) refl
    by true false e f = absurd (grind (arith, nat_tests, e, f, two))

count_read : (part : Part) (p : ℕ) (e : Encodings) → encodings_at part p ≡ Ok e → (next : ℕ) × (in_header byte part (p + 2) ≡ Ok (e.count, next))
count_read part p e read =
    let version = bind_ok (in_header byte part p) (after_version part p) e (sym (in_steps part p) ∙ read) in
    let known = bind_ok (demand (version.0.0 == 1) Version (part.file_at + p)) (after_known part p) e version.2 in
    let pointer = bind_ok (in_header byte part (p + 1)) (after_pointer part p) e known.2 in
    let count = bind_ok (in_header byte part (p + 2)) (after_count part p pointer.0) e pointer.2 in
    let table = bind_ok (in_header byte part (p + 3)) (encodings_made pointer.0 count.0) e count.2 in
    let same : count.0.0 ≡ e.count = ap count_of table.2 in
    (count.0.1, count.1 ∙ ap (λ c. Ok (c, count.0.1)) same)
  where
    count_of : Result Encodings Fault → ℕ
    count_of (Ok x) = x.count
    count_of (Err f) = 0

pub sized : (part : Part) (p : ℕ) → (header_at part p).faults ≡ [] → size_by part p (in_header byte part (p + 2)) ≡ header_size (header_at part p).rows
unfolding header_at
sized part p none = by_encodings (encodings_at part p) refl none
  where
    by_table : (e : Encodings) (n : ℕ) (b : Bool) → (with_rows (frames_from part p e n) (encoding_faults part p e) (table_rows b part (part.address + p) (p + 8))).faults ≡ [] →
        (if b then size_counted (in_header (fixed w32) part (p + 8)) else 8) ≡ header_size (with_rows (frames_from part p e n) (encoding_faults part p e) (table_rows b part (part.address + p) (p + 8))).rows
    by_table e n false f = refl
    by_table e n true f =
        let rows = counted_rows part (part.address + p) (p + 8) (in_header (fixed w32) part (p + 8)) in
        counted_long part (part.address + p) (p + 8) (in_header (fixed w32) part (p + 8)) (both_none (encoding_faults part p e) rows.cut f).1

    none_first : (o : Option Rows) (s : Option ℕ) (fs : List Fault) → (with_rows s fs o).faults ≡ [] → fs ≡ []
    none_first None s fs e = e
    none_first (Some r) s fs e = (both_none fs r.cut e).0

    is_table : (e : Encodings) → encoding_faults part p e ≡ [] → (e.count == 3) ≡ (e.count == 3 && e.table == 59)
    is_table e none =
        let one = unless (e.pointer == 0x1b) Encoding (part.file_at + (p + 1)) in
        let two = unless (is_bare e || e.count == 0x03) Encoding (part.file_at + (p + 2)) in
        let three = unless (is_bare e || e.table == 0x3b) Encoding (part.file_at + (p + 3)) in
        let later = both_none (one ++ two) three none in
        let first = both_none one two later.0 in
        has_table e.count e.table (kept (is_bare e || e.count == 0x03) (part.file_at + (p + 2)) first.1) (kept (is_bare e || e.table == 0x3b) (part.file_at + (p + 3)) later.1)

    by_pointer : (e : Encodings) (r : Result (ℕ × ℕ) Fault) → in_header (fixed w32) part (p + 4) ≡ r → (with_pointer part p e r).faults ≡ [] →
        (if e.count == 3 then size_counted (in_header (fixed w32) part (p + 8)) else 8) ≡ header_size (with_pointer part p e r).rows
    by_pointer e (Err g) is f = absurd (let last = (both_none (encoding_faults part p e) (g ∷ []) f).1 in cc)
    by_pointer e (Ok (n, next)) is f =
        let b = e.count == 3 && e.table == 59 in
        let at : next ≡ p + 8 = (let four = behind_four part (length part.bytes) (p + 4) n next is in omega (arith, four)) in
        let goal : ℕ → Type 0 = λ q. (with_rows (frames_from part p e n) (encoding_faults part p e) (table_rows b part (part.address + p) q)).faults ≡ [] →
        (if e.count == 3 then size_counted (in_header (fixed w32) part (p + 8)) else 8) ≡
        header_size (with_rows (frames_from part p e n) (encoding_faults part p e) (table_rows b part (part.address + p) q)).rows in
        let here : goal (p + 8) = λ g.
        ap (λ c. if c then size_counted (in_header (fixed w32) part (p + 8)) else 8)
        (is_table e (none_first (table_rows b part (part.address + p) (p + 8)) (frames_from part p e n) (encoding_faults part p e) g)) ∙ by_table e n b g in
        subst goal (sym at) here f

    by_encodings : (r : Result Encodings Fault) → encodings_at part p ≡ r → (with_encodings part p r).faults ≡ [] →
        size_by part p (in_header byte part (p + 2)) ≡ header_size (with_encodings part p r).rows
    by_encodings (Err g) is f = absurd cc
    by_encodings (Ok e) is f = let count = count_read part p e is in ap (size_by part p) count.1 ∙ by_pointer e (in_header (fixed w32) part (p + 4)) refl f

-- without room for a count there is no table
pub sized_short : (part : Part) (p : ℕ) → length part.bytes < p + 12 → (header_at part p).faults ≡ [] → 8 ≡ header_size (header_at part p).rows
sized_short part p short none = by_count (in_header byte part (p + 2)) refl ∙ sized part p none
  where
    counted : (r : Result (ℕ × ℕ) Fault) → in_header (fixed w32) part (p + 8) ≡ r → 8 ≡ size_counted r
    counted (Err f) is = refl
    counted (Ok (n, next)) is = absurd (let room = word_room part (p + 8) n next is in omega (arith, room, short))

    by_encoding : (b : Bool) → 8 ≡ (if b then size_counted (in_header (fixed w32) part (p + 8)) else 8)
    by_encoding true = counted (in_header (fixed w32) part (p + 8)) refl
    by_encoding false = refl

    by_count : (r : Result (ℕ × ℕ) Fault) → in_header byte part (p + 2) ≡ r → 8 ≡ size_by part p r
    by_count (Err f) is = refl
    by_count (Ok (e, next)) is = by_encoding (e == 3)
