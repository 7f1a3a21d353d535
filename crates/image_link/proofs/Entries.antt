-- What the first four bytes of a frame entry tell.
use Rattle.std.proofs.Common.{◌≡◌, ℕ, ◌+◌, ◌≤◌, ◌<◌, ◌%◌, ◌^◌, true, List, [], ◌∷◌, ◌++◌, length, length-append, take, drop, length-drop, refl, sym, ◌∙◌, ap, arith}
use Rattle.std.specs.Int.{w32, to_le_bytes, from_le_bytes}
use Rattle.std.proofs.Math.Seq.{take-append_seam, drop-append_seam}
use Rattle.std.proofs.lemmas.Nat.{from_le_bytes-to_le_bytes_4}
use Rattle.std.proofs.lemmas.List.{append_assoc}
use Rattle.eh_bytes.specs.Listed.{ListedFrame}
use Rattle.eh_bytes.specs.declared.frames.HdrRow.{HdrRow}
use Rattle.eh_write.specs.WrittenFrames.{padded, fde_body, fde_bytes, fdes_bytes, frames_bytes}
use Rattle.image_forms.specs.Tables.{rows_from, with_tables}

-- a number of bytes, and so many bytes
sized : List ℕ → List ℕ
sized body = to_le_bytes w32 (length body % 2 ^ 32) ++ body

sized_length : (body : List ℕ) → length (sized body) ≡ 4 + length body
unfolding sized
sized_length body = length-append (to_le_bytes w32 (length body % 2 ^ 32)) body

told : (body more : List ℕ) → length body < 2 ^ 32 → 4 + from_le_bytes w32 (take 4 (sized body ++ more)) ≡ length (sized body)
unfolding sized
told body more few =
    let n = length body % 2 ^ 32 in
    let whole : n ≡ length body = omega (arith, few) in
    let first : take 4 ((to_le_bytes w32 n ++ body) ++ more) ≡ to_le_bytes w32 n
    = ap (take 4) (append_assoc (to_le_bytes w32 n) body more) ∙ take-append_seam (to_le_bytes w32 n) (body ++ more) in
    let below : n < 2 ^ 32 = omega (arith, few, whole) in
    ap (λ bytes. 4 + from_le_bytes w32 bytes) first ∙ (ap (λ m. 4 + m) (from_le_bytes-to_le_bytes_4 n below) ∙ (ap (λ m. 4 + m) whole ∙ sym (sized_length body)))

entry : ℕ → ℕ → ListedFrame → List ℕ
entry cie p f = padded (fde_body true cie p f)

fde_sized : (cie p : ℕ) (f : ListedFrame) → fde_bytes true cie p f ≡ sized (entry cie p f)
unfolding fde_bytes sized entry
fde_sized cie p f = refl

-- an entry has more bytes than its length
pub entry_some : (cie p : ℕ) (f : ListedFrame) → 4 < length (fde_bytes true cie p f)
unfolding entry fde_body
entry_some cie p f = omega (arith, ap length (fde_sized cie p f), sized_length (entry cie p f))

-- of bytes that begin with an entry
pub record Entry (cie p : ℕ) (f : ListedFrame) (bytes more : List ℕ) : Type 0 where
  pub four : 4 ≤ length bytes
  pub size : 4 + from_le_bytes w32 (take 4 bytes) ≡ length (fde_bytes true cie p f)
  pub inside : length (fde_bytes true cie p f) ≤ length bytes
  pub behind : drop (length (fde_bytes true cie p f)) bytes ≡ more

pub entry_read : (cie p : ℕ) (f : ListedFrame) (bytes more : List ℕ) → bytes ≡ fde_bytes true cie p f ++ more → length bytes < 2 ^ 32 → Entry cie p f bytes more
entry_read cie p f bytes more is few =
    let body = entry cie p f in
    let long : length bytes ≡ length (fde_bytes true cie p f) + length more = ap length is ∙ length-append (fde_bytes true cie p f) more in
    let size : length (fde_bytes true cie p f) ≡ 4 + length body = ap length (fde_sized cie p f) ∙ sized_length body in
    let small : length body < 2 ^ 32 = omega (arith, few, long, size) in
    let begins : bytes ≡ sized body ++ more = is ∙ ap (λ b. b ++ more) (fde_sized cie p f) in
    record {
      four = omega (arith, long, size);
      size = ap (λ b. 4 + from_le_bytes w32 (take 4 b)) begins ∙ (told body more small ∙ sym (ap length (fde_sized cie p f)));
      inside = omega (arith, long);
      behind = ap (drop (length (fde_bytes true cie p f))) is ∙ drop-append_seam (fde_bytes true cie p f) more;
    }

-- a turn over entries, the first of which has this size
pub record Turned (cie place p size : ℕ) (all fs : List ListedFrame) (f : ListedFrame) (rows : List HdrRow) (left : List ℕ) : Type 0 where
  pub inside : size ≤ length left
  pub rows_then : rows_from cie place all ≡ (rows ++ record { location = f.region.start; fde = p } ∷ []) ++ rows_from cie (p + size) fs
  pub behind : drop size left ≡ fdes_bytes true cie (p + size) fs ++ to_le_bytes w32 0
  pub few : length (drop size left) < 2 ^ 32

pub first_four : (cie p : ℕ) (f : ListedFrame) (fs : List ListedFrame) (left : List ℕ) →
    left ≡ fdes_bytes true cie p (f ∷ fs) ++ to_le_bytes w32 0 → length left < 2 ^ 32 → 4 ≤ length left
first_four cie p f fs left is few =
    let e = fde_bytes true cie p f in
    let more = fdes_bytes true cie (p + length e) fs in
    (entry_read cie p f left (more ++ to_le_bytes w32 0) (is ∙ append_assoc e more (to_le_bytes w32 0)) few).four

pub turned : (cie place p size : ℕ) (all fs : List ListedFrame) (f : ListedFrame) (rows : List HdrRow) (left : List ℕ) →
    rows_from cie place all ≡ rows ++ rows_from cie p (f ∷ fs) → left ≡ fdes_bytes true cie p (f ∷ fs) ++ to_le_bytes w32 0 →
    length left < 2 ^ 32 → size ≡ 4 + from_le_bytes w32 (take 4 left) → Turned cie place p size all fs f rows left
turned cie place p size all fs f rows left before is few told_size =
    let e = fde_bytes true cie p f in
    let more = fdes_bytes true cie (p + length e) fs in
    let read = entry_read cie p f left (more ++ to_le_bytes w32 0) (is ∙ append_assoc e more (to_le_bytes w32 0)) few in
    let same : length e ≡ size = sym (told_size ∙ read.size) in
    let row : List HdrRow = record { location = f.region.start; fde = p } ∷ [] in
    record {
      inside = omega (arith, same, read.inside);
      rows_then = before ∙ (ap (λ n. rows ++ (row ++ rows_from cie (p + n) fs)) same ∙ sym (append_assoc rows row (rows_from cie (p + size) fs)));
      behind = ap (λ n. drop n left) (sym same) ∙ (read.behind ∙ ap (λ n. fdes_bytes true cie (p + n) fs ++ to_le_bytes w32 0) same);
      few = omega (arith, few, length-drop size left);
    }

-- the entries behind the CIE
pub entries_behind : (frames : List ListedFrame) (address : ℕ) →
    drop 24 (frames_bytes (with_tables frames) address) ≡ fdes_bytes true address (address + 24) frames ++ to_le_bytes w32 0
unfolding frames_bytes
entries_behind frames address = refl
