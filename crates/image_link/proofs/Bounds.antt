-- How many bytes an image has.
use Rattle.std.proofs.Common.{◌≡◌, ℕ, suc, ℤ, ◌+◌, ◌-◌, ◌*◌, ◌/◌, ◌%◌, ◌^◌, true, false, Bool, List, [], ◌∷◌, ◌++◌, length, length-append, reverse, refl, sym, ◌∙◌, ap, arith}
use Rattle.std.specs.Prelude.{◌==◌, if◌then◌else◌, flat_map, sum_by, replicate}
use Rattle.std.specs.Int.{w32, to_le_bytes, cast_unsigned}
use Rattle.std.proofs.lemmas.List.{length-map, length-reverse, length-replicate, reverse-append}
use Rattle.std.proofs.lemmas.List.Sums.{sum_by-cons}
use Rattle.std.proofs.lemmas.Grind.{flat_map-append}
use Rattle.eh_bytes.specs.declared.frames.FrameMove.{FrameMove}
use Rattle.eh_bytes.specs.declared.frames.HdrRow.{HdrRow}
use Rattle.eh_bytes.specs.declared.unit.TypeRow.{TypeRow}
use Rattle.eh_bytes.specs.Listed.{ListedTable, ListedFunction, ListedFrame}
use Rattle.eh_bytes.specs.Spelling.{uleb_spelling}
use Rattle.eh_write.specs.Distance.{distance_bytes}
use Rattle.eh_write.specs.Written.{body_bytes, front_bytes, base_offset, entry_bytes, entries_from, lists_bytes, table_bytes}
use Rattle.eh_write.specs.WrittenFrames.{cie_bytes, advance_bytes, change_bytes, data_bytes, moves_bytes, nops, padded, fde_body, fde_bytes, fdes_bytes, frames_bytes}
use Rattle.eh_write.specs.WrittenHeader.{row_bytes, header_bytes}
use Rattle.image_forms.specs.Placed.{type_at, PlacedFunction, placed_at, placed_from}
use Rattle.image_forms.specs.Room.{table_room, frame_room, function_room, kept_name, type_room}
use Rattle.image_forms.specs.Records.{name_bytes, names_bytes, record_words, records_words, words_bytes, records_bytes, globals_bytes}
use Rattle.image_forms.specs.Tables.{linked_table, filled, placed_table, tables_bytes, placed_moves, linked_frame, linked_frames, with_tables, rows_from}

-- bytes up to a multiple of 4
pub filled_length : (bytes : List ℕ) → length (filled bytes) ≡ (length bytes + 3) / 4 * 4
filled_length bytes =
    let gap = (4 - length bytes % 4) % 4 in
    let zeros : length {A = ℕ} (replicate gap 0) ≡ gap = length-replicate gap 0 in
    omega (arith, length-append bytes (replicate gap 0), zeros)

entry_length : (place t : ℕ) → length (entry_bytes place t) ≡ 4
entry_length place t = both (t == 0)
  where
    both : (b : Bool) → length (if b then to_le_bytes w32 0 else distance_bytes place t) ≡ 4
    both true = refl
    both false = refl

entries_length : (place : ℕ) (ts : List ℕ) → length (entries_from place ts) ≡ 4 * length ts
entries_length place [] = refl
entries_length place (t ∷ ts) = omega (arith, entries_length (place + 4) ts, entry_length place t, length-append (entry_bytes place t) (entries_from (place + 4) ts))

pub table_length : (list : ListedTable) (address : ℕ) →
    length (table_bytes list address) ≡ length (front_bytes list) + 4 * length list.types + length (lists_bytes list.lists)
unfolding table_bytes
table_length list address =
    let f = front_bytes list in let e = entries_from (address + length f) (reverse list.types) in let l = lists_bytes list.lists in
    omega (arith, length-append (f ++ e) l, length-append f e, entries_length (address + length f) (reverse list.types), length-reverse list.types)

-- the front of a table with so many types
front_with : ListedTable → ℕ → List ℕ
front_with list types =
    let least = length (body_bytes list) + 4 * types in
    let offset = base_offset least in
    255 ∷ 27 ∷ uleb_spelling offset ++ body_bytes list ++ replicate (offset - least) 0

front_same : (end : ℕ) (list : ListedTable) → front_bytes (linked_table end list) ≡ front_bytes list
unfolding front_with
front_same end list = ap (front_with list) (length-map list.types (type_at end))

-- the addresses of types change no length
table_same : (end address : ℕ) (list : ListedTable) → length (table_bytes (linked_table end list) address) ≡ length (table_bytes list 0)
table_same end address list =
    omega (arith, table_length (linked_table end list) address, table_length list 0, ap length (front_same end list), length-map list.types (type_at end))

placed_length : (end address : ℕ) (f : PlacedFunction) → length (placed_table end address f) ≡ table_room f.function.table
placed_length end address f =
    filled_length (table_bytes (linked_table end f.function.table) address) ∙ ap (λ n. (n + 3) / 4 * 4) (table_same end address f.function.table)

-- changes are written by the distances between them
moves_same : (a before : ℕ) (ms : List FrameMove) → moves_bytes (a + before) (placed_moves a ms) ≡ moves_bytes before ms
moves_same a before [] = refl
moves_same a before (m ∷ ms) =
    let near : (a + m.location) - (a + before) ≡ m.location - before = omega arith in
    ap (λ steps. advance_bytes (steps / 4 % 2 ^ 32) ++ change_bytes m.change ++ moves_bytes (a + m.location) (placed_moves a ms)) near
    ∙ ap (λ rest. advance_bytes ((m.location - before) / 4 % 2 ^ 32) ++ change_bytes m.change ++ rest) (moves_same a m.location ms)

-- a frame entry with so many bytes of changes
entry_room : ℕ → ℕ
entry_room n = 4 + (17 + n + (4 - (17 + n) % 4) % 4)

data_length : (place lsda : ℕ) → length (data_bytes true place lsda) ≡ 5
data_length place lsda = by_zero (lsda == 0)
  where
    by_zero : (b : Bool) → suc (length (if b then to_le_bytes w32 0 else distance_bytes (place + 1) lsda)) ≡ 5
    by_zero true = refl
    by_zero false = refl

body_length : (cie place : ℕ) (f : ListedFrame) → length (fde_body true cie place f) ≡ 17 + length (moves_bytes f.region.start f.moves)
unfolding fde_body
body_length cie place f =
    let table = data_bytes true (place + 16) f.lsda in
    let front = to_le_bytes w32 ((place + 4 - cie) % 2 ^ 32) ++ distance_bytes (place + 8) f.region.start ++ to_le_bytes w32 (f.region.length % 2 ^ 32) in
    omega (arith, length-append (front ++ table) (moves_bytes f.region.start f.moves), length-append front table, data_length (place + 16) f.lsda)

padded_length : (bytes : List ℕ) → length (padded bytes) ≡ length bytes + (4 - length bytes % 4) % 4
padded_length bytes =
    let gap = (4 - length bytes % 4) % 4 in
    let zeros : length (nops (length bytes)) ≡ gap = length-replicate gap 0 in
    length-append bytes (nops (length bytes)) ∙ ap (λ n. length bytes + n) zeros

fde_length : (cie place : ℕ) (f : ListedFrame) → length (fde_bytes true cie place f) ≡ entry_room (length (moves_bytes f.region.start f.moves))
unfolding fde_bytes entry_room
fde_length cie place f =
    let body = fde_body true cie place f in
    omega (arith, length-append (to_le_bytes w32 (length (padded body) % 2 ^ 32)) (padded body), padded_length body, body_length cie place f)

frame_same : (cie place table : ℕ) (f : PlacedFunction) → length (fde_bytes true cie place (linked_frame table f)) ≡ frame_room f.function.moves
frame_same cie place table f =
    let start : f.address ≡ f.address + 0 = omega arith in
    let moves = ap (λ a. moves_bytes a (placed_moves f.address f.function.moves)) start ∙ moves_same f.address 0 f.function.moves in
    fde_length cie place (linked_frame table f) ∙ (ap (λ bytes. entry_room (length bytes)) moves
    ∙ sym (fde_length 0 0 (record { region = record { start = 0; length = 0 }; lsda = 0; moves = f.function.moves })))

-- the tables, frame entries and rows of functions
pub functions_length : (end a cie place : ℕ) (fs : List PlacedFunction) →
    length (tables_bytes end a fs) + length (fdes_bytes true cie place (linked_frames end a fs)) + 8 * length (rows_from cie place (linked_frames end a fs)) ≡
    sum_by (λ f. function_room f.function) fs
functions_length end a cie place [] = refl
functions_length end a cie place (f ∷ fs) =
    let t = placed_table end a f in
    let e = fde_bytes true cie place (linked_frame a f) in
    let next = a + length t in
    let behind = place + length e in
    omega (
      arith,
      length-append t (tables_bytes end next fs),
      length-append e (fdes_bytes true cie behind (linked_frames end next fs)),
      placed_length end a f,
      frame_same cie place a f,
      functions_length end next cie behind fs,
      sum_by-cons (λ g. function_room g.function) f fs,
    )

-- lists of the same length each
pub flat_length : {X : Type 0} (f : X → List ℕ) (n : ℕ) → ((x : X) → length (f x) ≡ n) → (xs : List X) → length (flat_map f xs) ≡ n * length xs
flat_length f n each [] = omega arith
flat_length f n each (x ∷ xs) =
    let step : n * length (x ∷ xs) ≡ n + n * length xs = omega arith in
    length-append (f x) (flat_map f xs) ∙ (ap (λ m. m + length (flat_map f xs)) (each x) ∙ (ap (λ m. n + m) (flat_length f n each xs) ∙ sym step))

pub code_length : (words : List ℕ) → length (flat_map (to_le_bytes w32) words) ≡ 4 * length words
code_length words = flat_length (to_le_bytes w32) 4 (λ word. refl) words

pub globals_length : (globals : List ℤ) → length (globals_bytes globals) ≡ 4 * length globals
globals_length globals =
    flat_length (λ value. to_le_bytes w32 (cast_unsigned w32 value)) 4 (λ value. refl) (reverse globals) ∙ ap (λ n. 4 * n) (length-reverse globals)

-- three words each
triple_length : (end name : ℕ) (types : List TypeRow) → length (flat_map words_bytes (records_words end name types)) ≡ 24 * length types
triple_length end name [] = refl
triple_length end name (t ∷ types) =
    omega (arith, length-append (words_bytes (record_words end name t)) (flat_map words_bytes (records_words end (name + length (name_bytes t)) types)), triple_length end (name + length (name_bytes t)) types)

-- the other way round there are as many
turned_length : {X : Type 0} (f : X → List ℕ) (xs : List X) → length (flat_map f (reverse xs)) ≡ length (flat_map f xs)
turned_length f [] = refl
turned_length f (x ∷ xs) =
    let last : flat_map f (reverse (x ∷ xs)) ≡ flat_map f (reverse xs) ++ flat_map f (x ∷ [])
    = ap (flat_map f) (reverse-append (x ∷ []) xs) ∙ flat_map-append f (reverse xs) (x ∷ []) in
    let long : length (flat_map f (reverse (x ∷ xs))) ≡ length (flat_map f (reverse xs)) + length (flat_map f (x ∷ []))
    = ap length last ∙ length-append (flat_map f (reverse xs)) (flat_map f (x ∷ [])) in
    omega (arith, long, turned_length f xs, length-append (f x) (flat_map f xs), length-append (f x) [])

pub records_length : (end name : ℕ) (types : List TypeRow) → length (records_bytes end name types) ≡ 24 * length types
records_length end name types = turned_length words_bytes (records_words end name types) ∙ triple_length end name types

-- the records and names of types
pub types_length : (types : List TypeRow) → 24 * length types + length (names_bytes types) ≡ sum_by type_room types
types_length [] = refl
types_length (t ∷ types) =
    omega (arith, types_length types, sum_by-cons type_room t types, length-append (name_bytes t) (names_bytes types), length-append (kept_name t) (0 ∷ []))

rows_length : (cie place : ℕ) (frames : List ListedFrame) → length (rows_from cie place frames) ≡ length frames
rows_length cie place [] = refl
rows_length cie place (f ∷ fs) = omega (arith, rows_length cie (place + length (fde_bytes true cie place f)) fs)

pub frames_length : (frames : List ListedFrame) (address : ℕ) →
    length (frames_bytes (with_tables frames) address) ≡ 28 + length (fdes_bytes true address (address + length (cie_bytes true)) frames)
unfolding frames_bytes
frames_length frames address =
    let fdes = fdes_bytes true address (address + length (cie_bytes true)) frames in
    omega (arith, length-append (cie_bytes true ++ fdes) (to_le_bytes w32 0), length-append (cie_bytes true) fdes)

pub header_length : (rows : List HdrRow) (frames_at address : ℕ) → length (header_bytes rows frames_at address) ≡ 12 + 8 * length rows
unfolding header_bytes
header_length rows frames_at address =
    let front = distance_bytes (address + 4) frames_at ++ to_le_bytes w32 (length rows) in
    omega (arith, length-append front (flat_map (row_bytes address) rows), flat_length (row_bytes address) 8 (λ row. refl) rows)

-- functions whose unit's code begins at an address
pub placed_sum : (code : ℕ) (fs : List ListedFunction) → sum_by (λ f. function_room f.function) (placed_from code fs) ≡ sum_by function_room fs
placed_sum code [] = refl
placed_sum code (f ∷ fs) =
    omega (arith, sum_by-cons (λ g. function_room g.function) (placed_at code f) (placed_from code fs), sum_by-cons function_room f fs, placed_sum code fs)
