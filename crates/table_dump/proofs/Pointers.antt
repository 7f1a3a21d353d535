-- The pointer of the header of frames that are read.
use Rattle.std.proofs.Common.{◌≡◌, ◌+◌, ◌-◌, ◌%◌, ◌^◌, ◌<◌, ◌==◌, ◌&&◌, ◌||◌, ℕ, Bool, true, false, nat_lt, List, [], ◌∷◌, ◌++◌, drop, length, Option, Some, None, Ok, Err, Result, refl, ap, sym, ◌∙◌, append_assoc, arith, if◌then◌else◌}
use Rattle.std.specs.Prelude.{option_and_then}
use Rattle.std.specs.Int.{w32}
use Rattle.std.proofs.lemmas.List.{take_all, drop_all}
use Rattle.std.proofs.lemmas.Bool.Decides.{nat_tests}
use Rattle.eh_bytes.specs.declared.error.ByteError.{ByteError}
use Rattle.eh_bytes.specs.declared.encoded.Pointer.{Pointer}
use Rattle.eh_bytes.specs.Memory.{Part, Memory, part_with}
use Rattle.eh_bytes.specs.Field.{Reading, fixed, at, behind}
use Rattle.eh_bytes.specs.Encoded.{extended, extends, applied, applies, raw, encoded}
use Rattle.table_forms.specs.declared.reason.Reason.{Reason}
use Rattle.table_forms.specs.declared.reason.Reason.TheVariants.{Encoding}
use Rattle.table_forms.specs.Fault.{Fault, ◌>>=◌, least, answer, with_reason, frame_reason, unless}
use Rattle.table_forms.specs.Header.{Encodings, Rows, in_header, is_bare, encodings_at, encoding_faults, with_rows, table_rows, with_pointer, with_encodings, header_at}
use Rattle.table_forms.specs.Frames.{Frames, parts_behind, table_disagreement, frames_in, frames_from, frames}
use Rattle.table_forms.proofs.Least.{none_first, none_second, holds}
use Rattle.elf_image.specs.Runnable.{start_in}
use Rattle.table_dump.specs.Heads.{frames_part}
use Rattle.table_dump.specs.Pointed.{led_by, pointed_in, pointed}

-- what the pointer says, where its four bytes are n
abbrev leads : Part → ℕ → ℕ → ℕ
leads part p n = if n == 0 then 0 else (part.address + (p + 4) + extended 4 n) % 2 ^ 64

-- a list of refusals of which none answers is empty
empty : (f : Fault) → least (f ∷ []) ≡ None → ⊥
unfolding least
empty f e = absurd cc

-- the frames' address of a header of which nothing is refused
rows_kept : (part : Part) (p : ℕ) (e : Encodings) (n : ℕ) (rows : Option Rows) → least (with_rows (if e.pointer == 0x1b then Some (leads part p n) else None) (encoding_faults part p e) rows).faults ≡ None →
    (with_rows (if e.pointer == 0x1b then Some (leads part p n) else None) (encoding_faults part p e) rows).frames_at ≡ Some (leads part p n)
rows_kept part p e n rows none = by rows none
  where
    parted : (e : Encodings) → least (encoding_faults part p e) ≡ None →
        least (unless (e.pointer == 0x1b) Encoding (part.file_at + (p + 1)) ++ (unless (is_bare e || e.count == 0x03) Encoding (part.file_at + (p + 2)) ++ unless (is_bare e || e.table == 0x3b) Encoding (part.file_at + (p + 3)))) ≡ None
    parted e none = ap least (sym (append_assoc (unless (e.pointer == 0x1b) Encoding (part.file_at + (p + 1))) (unless (is_bare e || e.count == 0x03) Encoding (part.file_at + (p + 2))) (unless (is_bare e || e.table == 0x3b) Encoding (part.file_at + (p + 3))))) ∙ none

    right : least (encoding_faults part p e) ≡ None → (if e.pointer == 0x1b then Some (leads part p n) else None) ≡ Some (leads part p n)
    right none =
        let first = none_first (unless (e.pointer == 0x1b) Encoding (part.file_at + (p + 1)))
        (unless (is_bare e || e.count == 0x03) Encoding (part.file_at + (p + 2)) ++ unless (is_bare e || e.table == 0x3b) Encoding (part.file_at + (p + 3))) (parted e none) in
        ap (λ (b : Bool). if b then Some (leads part p n) else None) (holds (e.pointer == 0x1b) Encoding (part.file_at + (p + 1)) first)

    by : (rows : Option Rows) → least (with_rows (if e.pointer == 0x1b then Some (leads part p n) else None) (encoding_faults part p e) rows).faults ≡ None →
        (with_rows (if e.pointer == 0x1b then Some (leads part p n) else None) (encoding_faults part p e) rows).frames_at ≡ Some (leads part p n)
    by None none = right none
    by (Some r) none = right (none_first (encoding_faults part p e) r.cut none)

-- the four bytes of the pointer can be read
pub record IsLed (part : Part) (p : ℕ) : Type 0 where
  pub number : ℕ
  pub next : ℕ
  pub is : in_header (fixed w32) part (p + 4) ≡ Ok (number, next)
  pub leads_to : (header_at part p).frames_at ≡ Some (leads part p number)

header_led : (part : Part) (p : ℕ) → least (header_at part p).faults ≡ None → IsLed part p
unfolding header_at
header_led part p none = encoded_by (encodings_at part p) refl none
  where
    pointed_by : (e : Encodings) (r : Result (ℕ × ℕ) Fault) → encodings_at part p ≡ Ok e → in_header (fixed w32) part (p + 4) ≡ r → least (with_pointer part p e r).faults ≡ None → IsLed part p
    pointed_by e (Err f) is ie none = absurd (empty f (none_second (encoding_faults part p e) (f ∷ []) none))
    pointed_by e (Ok (n, next)) is ie none =
        let rows = table_rows (e.count == 0x03 && e.table == 0x3b) part (part.address + p) next in
        record {
          number = n;
          next = next;
          is = ie;
          leads_to = ap (λ r. (with_encodings part p r).frames_at) is ∙ ap (λ r. (with_pointer part p e r).frames_at) ie ∙ rows_kept part p e n rows none;
        }

    encoded_by : (r : Result Encodings Fault) → encodings_at part p ≡ r → least (with_encodings part p r).faults ≡ None → IsLed part p
    encoded_by (Err f) is none = absurd (empty f none)
    encoded_by (Ok e) is none = pointed_by e (in_header (fixed w32) part (p + 4)) is refl none

-- the same by its encoding
same_value : (a n : ℕ) → (if extended 4 n == 0 then 0 else (extended 4 n + a) % 2 ^ 64) ≡ (if n == 0 then 0 else (a + extended 4 n) % 2 ^ 64)
same_value a n = by (nat_lt n (2 ^ 31)) (n == 0) refl refl
  where
    swapped : (x : ℕ) → (x + a) % 2 ^ 64 ≡ (a + x) % 2 ^ 64
    swapped x = ap (λ y. y % 2 ^ 64) (omega arith)

    by : (b z : Bool) → nat_lt n (2 ^ 31) ≡ b → (n == 0) ≡ z →
        (if (if b then n else n + (2 ^ 64 - 2 ^ 32)) == 0 then 0 else ((if b then n else n + (2 ^ 64 - 2 ^ 32)) + a) % 2 ^ 64) ≡ (if z then 0 else (a + (if b then n else n + (2 ^ 64 - 2 ^ 32))) % 2 ^ 64)
    by true true e f = rw f refl
    by true false e f = rw f (swapped n)
    by false z e f =
        let big : (n == 0) ≡ false = grind (arith, nat_tests, e) in
        let no : (n + (2 ^ 64 - 2 ^ 32) == 0) ≡ false = grind (arith, nat_tests) in
        let zf : z ≡ false = sym f ∙ big in rw (no, zf) (swapped (n + (2 ^ 64 - 2 ^ 32)))

ok_read : (reason : ByteError → Reason) (place : ℕ) (r : Reading ℕ) (x : ℕ × ℕ) → with_reason reason place r ≡ Ok x → r ≡ Ok x
ok_read reason place (Ok y) x e = cc
ok_read reason place (Err cause) x e = absurd cc

pick : ℕ → ℕ → Bool → Pointer
pick a x b = if b then record { value = 0; indirect = false } else record { value = (x + a) % 2 ^ 64; indirect = false }

applied_value : (a x : ℕ) → (applied 0x1b a x).value ≡ (if x == 0 then 0 else (x + a) % 2 ^ 64)
unfolding pick
applied_value a x = by (x == 0)
  where
    by : (b : Bool) → (pick a x b).value ≡ (if b then 0 else (x + a) % 2 ^ 64)
    by true = refl
    by false = refl

led_same : (memory : Memory) (part : Part) (p : ℕ) (l : IsLed part p) → led_by memory (at (encoded 0x1b (part.address + (p + 4))) part.bytes (p + 4)) ≡ part_with memory (leads part p l.number)
unfolding encoded raw
led_same memory part p l =
    let whole = take_all (length part.bytes) part.bytes (omega arith) in
    let read = ok_read frame_reason (part.file_at + (p + 4)) (at (fixed w32) part.bytes (p + 4)) (l.number, l.next) (ap (λ bs. with_reason frame_reason (part.file_at + (p + 4)) (at (fixed w32) bs (p + 4))) (sym whole) ∙ l.is) in
    by (fixed w32 (drop (p + 4) part.bytes)) read
  where
    one : (x y : ℕ × ℕ) (r : Reading ℕ) → Ok x ≡ r → r ≡ Ok y → x ≡ y
    one x y r e f = cc

    by : (r : Reading ℕ) → behind (p + 4) r ≡ Ok (l.number, l.next) →
        led_by memory (behind (p + 4) (applies 0x1b (part.address + (p + 4)) (extends 4 r))) ≡ part_with memory (leads part p l.number)
    by (Err cause) e = absurd cc
    by (Ok (n, taken)) e =
        let same = ap (λ (x : ℕ × ℕ). x.0) (one (n, p + 4 + taken) (l.number, l.next) (Ok (n, p + 4 + taken)) refl e) in
        ap (part_with memory) (applied_value (part.address + (p + 4)) (extended 4 n) ∙ same_value (part.address + (p + 4)) n ∙ ap (leads part p) same)

-- the header's pointer leads where its definition says
pub pointed_same : (memory : Memory) (header : ℕ) (d : Frames) → frames memory header ≡ Ok d → pointed memory header ≡ frames_part memory header
unfolding frames frames_in pointed
pointed_same memory header d e = from (part_with memory header) refl e
  where
    inside : (part : Part) → (answer (least ((header_at part (header - part.address)).faults ++ (parts_behind memory (part.file_at + (header - part.address + 4)) (header_at part (header - part.address)).frames_at).faults)) true >>=
        λ whole. answer (table_disagreement (part.file_at + (header - part.address + 12)) (header_at part (header - part.address)).rows (parts_behind memory (part.file_at + (header - part.address + 4)) (header_at part (header - part.address)).frames_at).fdes)
        (record {
          cies = (parts_behind memory (part.file_at + (header - part.address + 4)) (header_at part (header - part.address)).frames_at).cies;
          fdes = (parts_behind memory (part.file_at + (header - part.address + 4)) (header_at part (header - part.address)).frames_at).fdes;
        })) ≡ Ok d →
        pointed_in memory header part ≡ option_and_then (part_with memory) (header_at part (header - part.address)).frames_at
    inside part e =
        let p = header - part.address in
        let l = header_led part p (none_first (header_at part p).faults (parts_behind memory (part.file_at + (p + 4)) (header_at part p).frames_at).faults (asked _ _ e)) in
        led_same memory part p l ∙ ap (option_and_then (part_with memory)) (sym l.leads_to)
      where
        asked : (o : Option Fault) (k : Bool → Result Frames Fault) → (answer o true >>= k) ≡ Ok d → o ≡ None
        asked None k e = refl
        asked (Some f) k e = absurd cc

    from : (o : Option Part) → part_with memory header ≡ o → frames_from memory header o ≡ Ok d → option_and_then (pointed_in memory header) o ≡ frames_part memory header
    from None is e = absurd cc
    from (Some part) is e = inside part e ∙ ap (option_and_then (part_with memory)) (ap (start_in header) (sym is))

-- a pointer that leaves its segment leads nowhere
pub led_short : (memory : Memory) (a place : ℕ) (bytes : List ℕ) → length bytes < place + 4 → led_by memory (at (encoded 0x1b a) bytes (place + 4)) ≡ None
unfolding encoded raw
led_short memory a place bytes less = ap (λ bs. led_by memory (behind (place + 4) (encoded 0x1b a bs))) (drop_all (place + 4) bytes (omega (arith, less)))
