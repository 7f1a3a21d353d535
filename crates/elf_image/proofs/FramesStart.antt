-- Where the pointer of a header leads of which nothing is refused.
use Rattle.std.proofs.Common.{◌≡◌, ◌∙◌, refl, sym, ap, add_comm, ℕ, ◌+◌, ◌-◌, ◌<◌, ◌≤◌, ◌%◌, ◌^◌, ◌==◌, ◌&&◌, ◌||◌, nat_lt, Bool, true, false, cond, List, [], ◌∷◌, ◌++◌, length, take, drop, Option, Some, None, Result, Ok, Err, arith, length-drop, if◌then◌else◌}
use Rattle.std.proofs.lemmas.Bool.Decides.{nat_tests}
use Rattle.std.proofs.Math.Seq.{take-length}
use Rattle.std.specs.Int.{w32, from_le_bytes}
use Rattle.eh_bytes.specs.declared.encoded.Pointer.{Pointer}
use Rattle.eh_bytes.specs.declared.error.ByteError.{ByteError}
use Rattle.eh_bytes.specs.declared.error.ByteError.TheVariants.{Truncated}
use Rattle.eh_bytes.specs.Encoded.{applied, applies, extended, extends, raw, encoded}
use Rattle.eh_bytes.specs.Field.{Reading, behind, fixed, at}
use Rattle.eh_bytes.specs.Memory.{Part, Memory, part_with}
use Rattle.table_forms.specs.declared.reason.Reason.TheVariants.{Encoding}
use Rattle.table_forms.specs.Fault.{Fault, least, answer, unless, with_reason, frame_reason, ◌>>=◌}
use Rattle.table_forms.specs.Header.{Rows, Encodings, is_bare, encoding_faults, encodings_at, in_header, table_rows, with_rows, with_pointer, with_encodings, header_at}
use Rattle.table_forms.specs.Parts.{Parts}
use Rattle.table_forms.specs.Frames.{Frames, parts_behind, table_disagreement, frames_in, frames_from, frames}
use Rattle.table_forms.proofs.Least.{none_first, none_second, holds}
use Rattle.elf_image.specs.Runnable.{start_in, frames_start}

-- a pointer that is relative to its field, of four bytes with a sign
abbrev pub pcrel : ℕ
pcrel = 0x1b

-- what is read there with that encoding leads to this start
abbrev pub LeadsTo : Part → ℕ → Option ℕ → Type 0
LeadsTo part place start =
    (pointer : Pointer) × (next : ℕ) × (at (encoded pcrel (part.address + place)) part.bytes place ≡ Ok (pointer, next)) × (start ≡ Some pointer.value) × (place ≤ length part.bytes)

some_fault : (f : Fault) → least (f ∷ []) ≡ None → ⊥
unfolding least
some_fault f e = absurd cc

extended_zero : (n : ℕ) → extended 4 n ≡ 0 → n ≡ 0
extended_zero n e = by (nat_lt n (2 ^ 31)) e
  where
    by : (b : Bool) → cond b n (n + (2 ^ 64 - 2 ^ 32)) ≡ 0 → n ≡ 0
    by true e = e
    by false e = absurd (omega (arith, e))

value_read : (address n : ℕ) → (applied pcrel address (extended 4 n)).value ≡ cond (n == 0) 0 ((address + extended 4 n) % 2 ^ 64)
value_read address n = by (n == 0) (extended 4 n == 0) refl refl
  where
    by : (b c : Bool) → (n == 0) ≡ b → (extended 4 n == 0) ≡ c → (applied pcrel address (extended 4 n)).value ≡ cond (n == 0) 0 ((address + extended 4 n) % 2 ^ 64)
    by true true e f =
        let no : Pointer = record { value = 0; indirect = false } in
        let some : Pointer = record { value = (extended 4 n + address) % 2 ^ 64; indirect = false } in
        ap (λ (b : Bool). (cond {A = Pointer} b no some).value) f ∙ sym (ap (λ (b : Bool). cond b 0 ((address + extended 4 n) % 2 ^ 64)) e)
    by false false e f =
        let no : Pointer = record { value = 0; indirect = false } in
        let some : Pointer = record { value = (extended 4 n + address) % 2 ^ 64; indirect = false } in
        ap (λ (b : Bool). (cond {A = Pointer} b no some).value) f ∙ ap (λ x. x % 2 ^ 64) (add_comm (extended 4 n) address) ∙
        sym (ap (λ (b : Bool). cond b 0 ((address + extended 4 n) % 2 ^ 64)) e)
    by true false e f = let z : n ≡ 0 = grind (arith, nat_tests, e) in absurd (let t : true ≡ false = sym (ap (λ k. extended 4 k == 0) z) ∙ f in cc)
    by false true e f =
        let z : extended 4 n ≡ 0 = grind (arith, nat_tests, f) in
        absurd (let t : true ≡ false = sym (ap (λ k. k == 0) (extended_zero n z)) ∙ e in cc)

reading_ok : {A : Type 0} (place : ℕ) (r : Result A ByteError) (x : A) → with_reason frame_reason place r ≡ Ok x → r ≡ Ok x
reading_ok place (Ok y) x e = cc
reading_ok place (Err cause) x e = absurd cc

-- a number of four bytes with the place behind it, and what its pointer says
there : (part : Part) (q n next : ℕ) → in_header (fixed w32) part q ≡ Ok (n, next) →
    (after : ℕ) × (at (encoded pcrel (part.address + q)) part.bytes q ≡ Ok (applied pcrel (part.address + q) (extended 4 n), after)) × (q ≤ length part.bytes)
unfolding encoded raw
there part q n next e = by (fixed w32 (drop q part.bytes)) refl read
  where
    whole : take (length part.bytes) part.bytes ≡ part.bytes
    whole = take-length part.bytes

    read : at (fixed w32) part.bytes q ≡ Ok (n, next)
    read = sym (ap (λ (b : List ℕ). at (fixed w32) b q) whole) ∙ reading_ok (part.file_at + q) (at (fixed w32) (take (length part.bytes) part.bytes) q) (n, next) e

    room : (b : Bool) → nat_lt (length (drop q part.bytes)) 4 ≡ b → (m taken : ℕ) →
        cond {A = Reading ℕ} b (Err Truncated) (Ok (from_le_bytes w32 (take 4 (drop q part.bytes)), 4)) ≡ Ok (m, taken) → q ≤ length part.bytes
    room true h m taken e = absurd cc
    room false h m taken e = let left = length-drop q part.bytes in let long : 4 ≤ length (drop q part.bytes) = grind (arith, nat_tests, h) in omega (arith, left, long)

    by : (r : Reading ℕ) → fixed w32 (drop q part.bytes) ≡ r → behind q r ≡ Ok (n, next) →
        (after : ℕ) × (behind q (applies pcrel (part.address + q) (extends 4 (fixed w32 (drop q part.bytes)))) ≡ Ok (applied pcrel (part.address + q) (extended 4 n), after)) × (q ≤ length part.bytes)
    by (Err cause) is e = absurd cc
    by (Ok (m, taken)) is e =
        let both : ◌≡◌ {A = ℕ × ℕ} (m, q + taken) (n, next) = cc in
        let same : m ≡ n = ap (λ (x : ℕ × ℕ). x.0) both in (
          q + taken,
          ap (λ (r : Reading ℕ). behind q (applies pcrel (part.address + q) (extends 4 r))) is ∙
              ap (λ (k : ℕ). behind q (applies pcrel (part.address + q) (extends 4 (Ok (k, taken))))) same,
          room (nat_lt (length (drop q part.bytes)) 4) refl m taken is,
        )

-- where the pointer leads
abbrev start_of : Part → ℕ → Encodings → ℕ → Option ℕ
start_of part p e n = if e.pointer == 0x1b then Some (if n == 0 then 0 else (part.address + (p + 4) + extended 4 n) % 2 ^ 64) else None

-- a header of which nothing is refused
with_read : (part : Part) (p : ℕ) (e : Encodings) (r : Result (ℕ × ℕ) Fault) → in_header (fixed w32) part (p + 4) ≡ r → least (with_pointer part p e r).faults ≡ None →
    LeadsTo part (p + 4) (with_pointer part p e r).frames_at
with_read part p e (Err f) is none = absurd (some_fault f (none_second (encoding_faults part p e) (f ∷ []) none))
with_read part p e (Ok (n, next)) is none = by (table_rows (e.count == 0x03 && e.table == 0x3b) part (part.address + p) next) none
  where
    leads : least (encoding_faults part p e) ≡ None → LeadsTo part (p + 4) (start_of part p e n)
    leads none =
        let first : List Fault = unless (e.pointer == 0x1b) Encoding (part.file_at + (p + 1)) in
        let second : List Fault = unless (is_bare e || e.count == 0x03) Encoding (part.file_at + (p + 2)) in
        let third : List Fault = unless (is_bare e || e.table == 0x3b) Encoding (part.file_at + (p + 3)) in
        let known = holds (e.pointer == 0x1b) Encoding (part.file_at + (p + 1)) (none_first first second (none_first (first ++ second) third none)) in
        let read = there part (p + 4) n next is in (
          applied pcrel (part.address + (p + 4)) (extended 4 n),
          read.0,
          read.1,
          ap (λ (b : Bool). cond b (Some (cond (n == 0) 0 ((part.address + (p + 4) + extended 4 n) % 2 ^ 64))) None) known ∙
              ap Some (sym (value_read (part.address + (p + 4)) n)),
          read.2,
        )

    by : (o : Option Rows) → least (with_rows (start_of part p e n) (encoding_faults part p e) o).faults ≡ None → LeadsTo part (p + 4) (with_rows (start_of part p e n) (encoding_faults part p e) o).frames_at
    by None none = leads none
    by (Some r) none = leads (none_first (encoding_faults part p e) r.cut none)

header_read : (part : Part) (p : ℕ) → least (header_at part p).faults ≡ None → LeadsTo part (p + 4) (header_at part p).frames_at
unfolding header_at
header_read part p none = by (encodings_at part p) none
  where
    by : (r : Result Encodings Fault) → least (with_encodings part p r).faults ≡ None → LeadsTo part (p + 4) (with_encodings part p r).frames_at
    by (Err f) none = absurd (some_fault f none)
    by (Ok e) none = with_read part p e (in_header (fixed w32) part (p + 4)) refl none

-- what is read of a header and the parts behind it
abbrev read_with : Memory → ℕ → Part → Parts → Result Frames Fault
read_with memory p part parts = do
  whole ← answer (least ((header_at part p).faults ++ parts.faults)) true
  answer (table_disagreement (part.file_at + (p + 12)) (header_at part p).rows parts.fdes) (record { cies = parts.cies; fdes = parts.fdes })

nothing_refused : (memory : Memory) (p : ℕ) (part : Part) (parts : Parts) (d : Frames) → read_with memory p part parts ≡ Ok d → least ((header_at part p).faults ++ parts.faults) ≡ None
nothing_refused memory p part parts d read = by (least ((header_at part p).faults ++ parts.faults)) read
  where
    by : (o : Option Fault) →
        (answer o true >>= λ _. answer (table_disagreement (part.file_at + (p + 12)) (header_at part p).rows parts.fdes) (record { cies = parts.cies; fdes = parts.fdes })) ≡ Ok d → o ≡ None
    by None e = refl
    by (Some f) e = absurd cc

-- of frames that are read, the header's pointer leads to their start
pub start_read : (memory : Memory) (header : ℕ) (part : Part) (d : Frames) → frames memory header ≡ Ok d → part_with memory header ≡ Some part →
    LeadsTo part (header - part.address + 4) (header_at part (header - part.address)).frames_at
unfolding frames frames_in
start_read memory header part d read is =
    let p = header - part.address in
    let parts = parts_behind memory (part.file_at + (p + 4)) (header_at part p).frames_at in
    let none = nothing_refused memory p part parts d (sym (ap (frames_from memory header) is) ∙ read) in
    header_read part p (none_first (header_at part p).faults parts.faults none)

abbrev pub field_at : ℕ → Part → Reading Pointer
field_at header part = at (encoded pcrel (part.address + (header - part.address + 4))) part.bytes (header - part.address + 4)

pub start_cut : (memory : Memory) (header : ℕ) (part : Part) (d : Frames) → frames memory header ≡ Ok d → part_with memory header ≡ Some part →
    length part.bytes - (header - part.address) < 4 → None ≡ frames_start memory header
start_cut memory header part d read is short =
    let leads = start_read memory header part d read is in
    let room = leads.4 in absurd (omega (arith, room, short))

pub start_refused : (memory : Memory) (header : ℕ) (part : Part) (d : Frames) (cause : ByteError) → frames memory header ≡ Ok d → part_with memory header ≡ Some part →
    field_at header part ≡ Err cause → None ≡ frames_start memory header
start_refused memory header part d cause read is failed =
    let leads = start_read memory header part d read is in
    let both : ◌≡◌ {A = Reading Pointer} (Ok (leads.0, leads.1)) (Err cause) = sym leads.2 ∙ failed in absurd cc

pub start_taken : (memory : Memory) (header : ℕ) (part : Part) (d : Frames) (pointer : Pointer) (next : ℕ) → frames memory header ≡ Ok d → part_with memory header ≡ Some part →
    field_at header part ≡ Ok (pointer, next) → Some pointer.value ≡ frames_start memory header
start_taken memory header part d pointer next read is took =
    let leads = start_read memory header part d read is in
    let both : ◌≡◌ {A = Reading Pointer} (Ok (leads.0, leads.1)) (Ok (pointer, next)) = sym leads.2 ∙ took in
    let pair : ◌≡◌ {A = Pointer × ℕ} (leads.0, leads.1) (pointer, next) = cc in
    let same = ap (λ (x : Pointer × ℕ). Some x.0.value) pair in
    sym (ap (start_in header) is ∙ leads.3 ∙ same)
