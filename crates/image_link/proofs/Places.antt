-- Where frames stand that are read of written ones: each entry behind the one before.
use Rattle.std.proofs.Common.{◌≡◌, ◌≤◌, ◌<◌, ℕ, zero, suc, ◌+◌, ◌-◌, ◌^◌, Bool, true, false, nat_lt, nat_le, List, [], ◌∷◌, ◌++◌, length, length-append, length-drop, map, take, drop, Option, Some, None, Result, Ok, Err, refl, sym, ◌∙◌, ap, arith}
use Rattle.std.specs.Prelude.{filter_map}
use Rattle.std.specs.Int.{w32, to_le_bytes, from_le_bytes}
use Rattle.std.specs.List.{AllZip, cons_option}
use Rattle.std.proofs.Math.Seq.{take-length}
use Rattle.std.proofs.lemmas.List.{append_assoc, drop-drop, drop-take, length-map}
use Rattle.std.proofs.lemmas.Bool.Decides.{nat_tests}
use Rattle.eh_bytes.specs.declared.frames.Region64.{Region64}
use Rattle.eh_bytes.specs.Memory.{Part}
use Rattle.eh_bytes.specs.Field.{fixed, behind}
use Rattle.eh_bytes.specs.Listed.{ListedFrame}
use Rattle.table_forms.specs.Fault.{Fault, ◌>>=◌, frame_reason, with_reason}
use Rattle.table_forms.specs.Instruction.{in_frames}
use Rattle.table_forms.specs.Instructions.{Instructions, instructions_at}
use Rattle.table_forms.specs.Spans.{Span, no_spans, and_spans, spans_after, spans_from, spans_within, distance_at}
use Rattle.table_forms.specs.Cie.{Cie, cie_at}
use Rattle.table_forms.specs.Fde.{Fde, region_at, lsda_at, fde_at}
use Rattle.table_forms.specs.Parts.{Said, refused, said_cie, said_fde, unread, cie_behind, cie_said, fde_said, said_behind, said_of, says, cies_of, fde_in, parts_at}
use Rattle.table_forms.specs.WrittenFrames.{FdeStands}
use Rattle.eh_write.specs.WrittenFrames.{cie_bytes, fde_bytes, fdes_bytes, frames_bytes}
use Rattle.image_forms.specs.Tables.{rows_from, header_rows, with_tables}
use Rattle.image_link.proofs.Entries.{entry_some, entry_read}

-- ---- the parts of the frames
-- the number at a place
length_at : (part : Part) (stop p : ℕ) (bytes : List ℕ) → drop p (take stop part.bytes) ≡ bytes → 4 ≤ length bytes →
    in_frames (fixed w32) part stop p ≡ Ok (from_le_bytes w32 (take 4 bytes), p + 4)
length_at part stop p bytes here four =
    let enough : nat_lt (length bytes) 4 ≡ false = grind (arith, nat_tests, four) in
    ap (λ xs. with_reason frame_reason (part.file_at + p) (behind p (fixed w32 xs))) here ∙
    rw enough refl

-- up to the end of a part all its bytes count
whole_from : (part : Part) (p : ℕ) (bytes : List ℕ) → drop p part.bytes ≡ bytes → drop p (take (length part.bytes) part.bytes) ≡ bytes
whole_from part p bytes here = ap (drop p) (take-length part.bytes) ∙ here

-- a part that is not the last, by its length
step : (part : Part) (p n size : ℕ) → in_frames (fixed w32) part (length part.bytes) p ≡ Ok (size, p + 4) → 0 < size → p + 4 + size ≤ length part.bytes →
    spans_within (suc n) part p ≡ and_spans (record { at = p; stop = p + 4 + size }) (spans_within n part (p + 4 + size))
unfolding spans_within
step part p n size read some fits =
    let begins : nat_lt p (length part.bytes) ≡ true = grind (arith, nat_tests, fits) in
    let inside : nat_le (p + 4 + size) (length part.bytes) ≡ true = grind (arith, nat_tests, fits) in
    ap (λ b. spans_from part p b (in_frames (fixed w32) part (length part.bytes) p) (spans_within n part)) begins ∙
    ap (λ r. spans_from part p true r (spans_within n part)) read ∙
    by_size size some inside
  where
    by_size : (m : ℕ) → 0 < m → nat_le (p + 4 + m) (length part.bytes) ≡ true →
        spans_from part p true (Ok (m, p + 4)) (spans_within n part) ≡ and_spans (record { at = p; stop = p + 4 + m }) (spans_within n part (p + 4 + m))
    by_size zero none inside = absurd (omega (arith, none))
    by_size (suc m) one inside = ap (λ b. spans_after part p b (record { at = p; stop = p + 4 + suc m }) (spans_within n part)) inside

-- a length 0 ends the list
ended : (part : Part) (p n : ℕ) → in_frames (fixed w32) part (length part.bytes) p ≡ Ok (0, p + 4) → spans_within n part p ≡ no_spans []
unfolding spans_within
ended part p zero read = refl
ended part p (suc n) read = by (nat_lt p (length part.bytes)) ∙ refl
  where
    by : (b : Bool) → spans_from part p b (in_frames (fixed w32) part (length part.bytes) p) (spans_within n part) ≡ no_spans []
    by false = refl
    by true = ap (λ r. spans_from part p true r (spans_within n part)) read

abbrev place_of : Part → Span → ℕ
place_of part s = part.address + s.at

-- entries one behind the other, and the end
entries_stand : (part : Part) (cie place p n : ℕ) (frames : List ListedFrame) (rest : List ℕ) → place ≡ part.address + p → length part.bytes < 2 ^ 32 → length part.bytes ≤ p + n →
    drop p part.bytes ≡ fdes_bytes true cie place frames ++ (to_le_bytes w32 0 ++ rest) →
    map (place_of part) (spans_within n part p).list ≡ map (λ r. r.fde) (rows_from cie place frames)
entries_stand part cie place p n [] rest at small fuel here =
    let four : 4 ≤ length (to_le_bytes w32 0 ++ rest) = omega (arith, length-append (to_le_bytes w32 0) rest) in
    let read : in_frames (fixed w32) part (length part.bytes) p ≡ Ok (0, p + 4)
    = length_at part (length part.bytes) p (to_le_bytes w32 0 ++ rest) (whole_from part p (to_le_bytes w32 0 ++ rest) here) four in
    ap (λ s. map (place_of part) s.list) (ended part p n read)
entries_stand part cie place p zero (f ∷ fs) rest at small fuel here =
    let e = fde_bytes true cie place f in
    let more = fdes_bytes true cie (place + length e) fs ++ (to_le_bytes w32 0 ++ rest) in
    absurd (omega (arith, fuel, ap length here, length-drop p part.bytes, length-append (fdes_bytes true cie place (f ∷ fs)) (to_le_bytes w32 0 ++ rest), length-append (to_le_bytes w32 0) rest))
entries_stand part cie place p (suc n) (f ∷ fs) rest at small fuel here =
    let e = fde_bytes true cie place f in
    let more = fdes_bytes true cie (place + length e) fs in
    let bytes = drop p part.bytes in
    let few : length bytes < 2 ^ 32 = omega (arith, small, length-drop p part.bytes) in
    let begins : bytes ≡ e ++ (more ++ (to_le_bytes w32 0 ++ rest)) = here ∙ append_assoc e more (to_le_bytes w32 0 ++ rest) in
    let entry = entry_read cie place f bytes (more ++ (to_le_bytes w32 0 ++ rest)) begins few in
    let size = from_le_bytes w32 (take 4 bytes) in
    let whole = entry.size in
    let inside = entry.inside in
    let some = entry_some cie place f in
    let read = length_at part (length part.bytes) p bytes (whole_from part p bytes refl) entry.four in
    let next : p + 4 + size ≡ p + length e = omega (arith, whole) in
    let behind_here : drop (p + 4 + size) part.bytes ≡ more ++ (to_le_bytes w32 0 ++ rest)
    = ap (λ k. drop k part.bytes) next ∙ (sym (drop-drop (length e) p part.bytes) ∙ entry.behind) in
    let later : place + length e ≡ part.address + (p + 4 + size) = omega (arith, at, whole) in
    ap (λ s. map (place_of part) s.list) (step part p n size read (omega (arith, whole, some)) (omega (arith, whole, inside, some, length-drop p part.bytes))) ∙
    (ap (λ k. k ∷ map (place_of part) (spans_within n part (p + 4 + size)).list) (sym at) ∙
    ap (λ ks. place ∷ ks) (entries_stand part cie (place + length e) (p + 4 + size) n fs rest later small (omega (arith, fuel)) behind_here))

-- ---- the frames that they are read as
ok_same : {X : Type 0} (x y : X) → ◌≡◌ {A = Result X Fault} (Ok x) (Ok y) → x ≡ y
ok_same x y e = cc

-- a frame stands where its part begins
fde_place : (cie : Cie) (part : Part) (at stop p : ℕ) (f : Fde) → fde_at cie part at stop p ≡ Ok f → f.address ≡ part.address + at
unfolding fde_at
fde_place cie part at stop p f is = by_region (region_at cie part stop p) is
  where
    made : Region64 → ℕ → Instructions → Fde
    made region lsda x = record { address = part.address + at; place = part.file_at + at; region = region; lsda = lsda; cie = cie; instructions = x.list }

    by_list : (region : Region64) (lsda : ℕ) (r : Result Instructions Fault) → (r >>= λ x. Ok (made region lsda x)) ≡ Ok f → f.address ≡ part.address + at
    by_list region lsda (Err g) e = absurd cc
    by_list region lsda (Ok x) e = sym (ap (λ (h : Fde). h.address) (ok_same (made region lsda x) f e))

    by_table : (region : Region64) (r : Result (ℕ × ℕ) Fault) → (r >>= λ l. instructions_at cie.coding part stop l.1 cie.states >>= λ x. Ok (made region l.0 x)) ≡ Ok f → f.address ≡ part.address + at
    by_table region (Err g) e = absurd cc
    by_table region (Ok l) e = by_list region l.0 (instructions_at cie.coding part stop l.1 cie.states) e

    by_region : (r : Result (Region64 × ℕ) Fault) →
        (r >>= λ g. lsda_at cie.augmentation cie part stop g.1 >>= λ l. instructions_at cie.coding part stop l.1 cie.states >>= λ x. Ok (made g.0 l.0 x)) ≡ Ok f → f.address ≡ part.address + at
    by_region (Err g) e = absurd cc
    by_region (Ok g) e = by_table g.0 (lsda_at cie.augmentation cie part stop g.1) e

fde_same : (f g : Fde) → said_fde f ≡ said_fde g → f ≡ g
fde_same f g e = cc

abbrev Cies : Type 0
Cies = List (ℕ × Result Cie Fault)

said_place : (part : Part) (cies : Cies) (s : Span) (f : Fde) → says part cies s ≡ said_fde f → f.address ≡ place_of part s
unfolding says
said_place part cies s f is = by_distance (distance_at part s) is
  where
    by_fde : (cie : Cie) (next : ℕ) (r : Result Fde Fault) → fde_at cie part s.at s.stop next ≡ r → fde_said r ≡ said_fde f → f.address ≡ place_of part s
    by_fde cie next (Err g) read e = absurd cc
    by_fde cie next (Ok g) read e = sym (ap (λ (h : Fde). h.address) (fde_same g f e)) ∙ fde_place cie part s.at s.stop next g read

    by_behind : (next : ℕ) (o : Option (Result Cie Fault)) → said_behind part s next o ≡ said_fde f → f.address ≡ place_of part s
    by_behind next None e = absurd cc
    by_behind next (Some (Err g)) e = absurd cc
    by_behind next (Some (Ok cie)) e = by_fde cie next (fde_at cie part s.at s.stop next) refl e

    by_cie : (r : Result Cie Fault) → cie_said r ≡ said_fde f → f.address ≡ place_of part s
    by_cie (Err g) e = absurd cc
    by_cie (Ok c) e = absurd cc

    by_distance : (r : Result (ℕ × ℕ) Fault) → said_of part cies s r ≡ said_fde f → f.address ≡ place_of part s
    by_distance (Err g) e = absurd cc
    by_distance (Ok (zero, next)) e = by_cie (cie_at part s.at s.stop next) e
    by_distance (Ok (suc d, next)) e = by_behind next (cie_behind cies s.at (suc d)) e

-- a part without a distance is no frame
no_frame : (part : Part) (cies : Cies) (s : Span) (next : ℕ) → distance_at part s ≡ Ok (0, next) → fde_in (says part cies s) ≡ None
unfolding says
no_frame part cies s next read = ap (λ r. fde_in (said_of part cies s r)) read ∙ by (cie_at part s.at s.stop next)
  where
    by : (r : Result Cie Fault) → fde_in (cie_said r) ≡ None
    by (Ok c) = refl
    by (Err g) = refl

-- the frames of parts in a row
abbrev frames_in : Part → Cies → List Span → List Fde
frames_in part cies spans = filter_map fde_in (map (says part cies) spans)

no_more : (part : Part) (cies : Cies) (spans : List Span) → length (frames_in part cies spans) ≤ length spans
no_more part cies [] = omega arith
no_more part cies (s ∷ ss) = by (fde_in (says part cies s)) (no_more part cies ss)
  where
    by : (o : Option Fde) → length (frames_in part cies ss) ≤ length ss → length (cons_option o (frames_in part cies ss)) ≤ suc (length ss)
    by None less = omega (arith, less)
    by (Some f) less = omega (arith, less)

-- where each part is a frame, the frames stand where the parts begin
all_placed : (part : Part) (cies : Cies) (spans : List Span) → length spans ≡ length (frames_in part cies spans) →
    map (λ f. f.address) (frames_in part cies spans) ≡ map (place_of part) spans
all_placed part cies [] same = refl
all_placed part cies (s ∷ ss) same = by (says part cies s) refl same (no_more part cies ss) (all_placed part cies ss)
  where
    none : (o : Option Fde) → o ≡ None → suc (length ss) ≡ length (cons_option o (frames_in part cies ss)) → length (frames_in part cies ss) ≤ length ss → ⊥
    none None e count less = absurd (omega (arith, count, less))
    none (Some f) e count less = absurd cc

    by : (x : Said) → says part cies s ≡ x → suc (length ss) ≡ length (cons_option (fde_in x) (frames_in part cies ss)) → length (frames_in part cies ss) ≤ length ss →
        (length ss ≡ length (frames_in part cies ss) → map (λ f. f.address) (frames_in part cies ss) ≡ map (place_of part) ss) →
        map (λ f. f.address) (cons_option (fde_in x) (frames_in part cies ss)) ≡ place_of part s ∷ map (place_of part) ss
    by (said_fde f) is count less more = ap (λ k. k ∷ map (λ g. g.address) (frames_in part cies ss)) (said_place part cies s f is) ∙ ap (λ ks. place_of part s ∷ ks) (more (omega (arith, count)))
    by (refused g) is count less more = absurd (none None refl count less)
    by (said_cie c) is count less more = absurd (none None refl count less)
    by unread is count less more = absurd (none None refl count less)

zip_length : {X Y : Type 0} (R : X → Y → Type 0) (xs : List X) (ys : List Y) → AllZip R xs ys → length xs ≡ length ys
zip_length R [] [] all = refl
zip_length R [] (y ∷ ys) all = absurd all
zip_length R (x ∷ xs) [] all = absurd all
zip_length R (x ∷ xs) (y ∷ ys) all = ap suc (zip_length R xs ys all.1)

rows_count : (cie place : ℕ) (frames : List ListedFrame) → length (rows_from cie place frames) ≡ length frames
rows_count cie place [] = refl
rows_count cie place (f ∷ fs) = ap suc (rows_count cie (place + length (fde_bytes true cie place f)) fs)

-- the part of a CIE: 20 bytes behind its length, and 0 in place of a distance
abbrev first_part : ℕ → Span
first_part c = record { at = c; stop = c + 4 + 20 }

frames_of : Part → List Span → List Fde
frames_of part spans = frames_in part (cies_of part spans) spans

frames_are : (part : Part) (c : ℕ) → (parts_at part c).fdes ≡ frames_of part (spans_within (length part.bytes) part c).list
unfolding parts_at frames_of
frames_are part c = refl

-- behind the CIE each part is a frame
behind_first : (part : Part) (s : Span) (next : ℕ) (tail : List Span) → distance_at part s ≡ Ok (0, next) → length tail ≡ length (frames_of part (s ∷ tail)) →
    map (λ f. f.address) (frames_of part (s ∷ tail)) ≡ map (place_of part) tail
unfolding frames_of
behind_first part s next tail none same =
    let cies = cies_of part (s ∷ tail) in
    let others : frames_in part cies (s ∷ tail) ≡ frames_in part cies tail = ap (λ o. cons_option o (frames_in part cies tail)) (no_frame part cies s next none) in
    ap (map (λ f. f.address)) others ∙ all_placed part cies tail (same ∙ ap length others)

-- the frames of a list that is written at an address stand where the rows of its header lead
pub places_read : (part : Part) (c address : ℕ) (frames : List ListedFrame) (rest : List ℕ) → address ≡ part.address + c → length part.bytes < 2 ^ 32 →
    drop c part.bytes ≡ frames_bytes (with_tables frames) address ++ rest → AllZip FdeStands frames (parts_at part c).fdes →
    map (λ f. f.address) (parts_at part c).fdes ≡ map (λ r. r.fde) (header_rows address frames)
unfolding frames_bytes
places_read part c address frames rest at small here stand =
    let x = fdes_bytes true address (address + 24) frames in
    let more = to_le_bytes w32 0 ++ rest in
    let behind_cie = x ++ more in
    let shape : drop c part.bytes ≡ cie_bytes true ++ behind_cie = here ∙ (append_assoc (cie_bytes true ++ x) (to_le_bytes w32 0) rest ∙ append_assoc (cie_bytes true) x more) in
    let four : 4 ≤ length (cie_bytes true ++ behind_cie) = omega (arith, length-append (cie_bytes true) behind_cie) in
    let long : c + 24 ≤ length part.bytes = omega (arith, ap length shape, length-drop c part.bytes, length-append (cie_bytes true) behind_cie) in
    let n = length part.bytes - 1 in
    let counted : length part.bytes ≡ suc n = omega (arith, long) in
    let size : in_frames (fixed w32) part (length part.bytes) c ≡ Ok (20, c + 4)
    = length_at part (length part.bytes) c (cie_bytes true ++ behind_cie) (whole_from part c (cie_bytes true ++ behind_cie) shape) four in
    let tail = (spans_within n part (c + 4 + 20)).list in
    let spans : spans_within (length part.bytes) part c ≡ and_spans (first_part c) (spans_within n part (c + 4 + 20))
    = ap (λ m. spans_within m part c) counted ∙ step part c n 20 size (omega arith) (omega (arith, long)) in
    let body : drop (c + 4) part.bytes ≡ drop 4 (cie_bytes true) ++ behind_cie = sym (drop-drop 4 c part.bytes) ∙ ap (drop 4) shape in
    let cut : drop (c + 4) (take (c + 4 + 20) part.bytes) ≡ drop 4 (cie_bytes true) = drop-take (c + 4) 20 part.bytes ∙ ap (take 20) body in
    let none : distance_at part (first_part c) ≡ Ok (0, c + 4 + 4) = length_at part (c + 4 + 20) (c + 4) (drop 4 (cie_bytes true)) cut (omega arith) in
    let entries : drop (c + 4 + 20) part.bytes ≡ x ++ more = sym (drop-drop 20 (c + 4) part.bytes) ∙ ap (drop 20) body in
    let rows = entries_stand part address (address + 24) (c + 4 + 20) n frames rest (omega (arith, at)) small (omega (arith, counted)) entries in
    let all : (parts_at part c).fdes ≡ frames_of part (first_part c ∷ tail) = frames_are part c ∙ ap (λ s. frames_of part s.list) spans in
    let same : length tail ≡ length (frames_of part (first_part c ∷ tail))
    = sym (length-map tail (place_of part)) ∙ (ap length rows ∙ (length-map (header_rows address frames) (λ r. r.fde) ∙ (rows_count address (address + 24) frames
    ∙ (zip_length FdeStands frames (parts_at part c).fdes stand ∙ ap length all)))) in
    ap (map (λ f. f.address)) all ∙ (behind_first part (first_part c) (c + 4 + 4) tail none same ∙ rows)
