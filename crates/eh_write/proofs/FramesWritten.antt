-- The bytes of a written list of frames stand for the frames.
use Rattle.std.proofs.Common.{◌≡◌, ◌+◌, ◌-◌, ◌%◌, ◌<◌, ◌≤◌, ◌^◌, ℕ, suc, Bool, true, false, List, [], ◌∷◌, ◌++◌, length, take, drop, Ok, Some, refl, ap, sym, ◌∙◌, arith, append_assoc, length-append, append-nil}
use Rattle.std.specs.Prelude.{Option, None, replicate, IsSomeAnd}
use Rattle.std.specs.Int.{w32, to_le_bytes}
use Rattle.std.specs.List.{AllByRecursion}
use Rattle.eh_bytes.specs.Memory.{Part, part_with}
use Rattle.eh_bytes.specs.Field.{fixed}
use Rattle.eh_bytes.specs.Listed.{ListedFrame, ListedFrames}
use Rattle.table_forms.specs.Instruction.{in_frames}
use Rattle.table_forms.specs.Spans.{and_spans, spans_within}
use Rattle.table_forms.specs.Cie.{cie_at}
use Rattle.table_forms.specs.Parts.{parts_at}
use Rattle.table_forms.specs.WrittenFrames.{FramesStand, WritesFrames}
use Rattle.eh_write.specs.Distance.{distance_bytes}
use Rattle.eh_write.specs.WrittenFrames.{cie_bytes, data_bytes, moves_bytes, fde_body, padded, fde_bytes, fdes_bytes, frames_bytes}
use Rattle.eh_write.specs.CanWriteFrames.{FrameIsGood, CanWriteFrames}
use Rattle.eh_write.specs.Fits.{HasOffset}
use Rattle.eh_write.proofs.Reading.{next_stands}
use Rattle.eh_write.proofs.Found.{found_covers}
use Rattle.eh_write.proofs.ChainsFound.{cut_stands}
use Rattle.eh_write.proofs.FrameFields.{From, in_four, behind_by}
use Rattle.eh_write.proofs.CieRead as read
use Rattle.eh_write.proofs.CieRead.{with_tables, without_tables}
use Rattle.eh_write.proofs.FdeRead.{described, fde_read}
use Rattle.eh_write.proofs.SpansRead.{room, body_size, fde_length, fde_shape, spans_of, span_read, spans_read}
use Rattle.eh_write.proofs.PartsRead.{FdeAt, AllFdes, nops_in, parts_read}

-- what ends at the stop stands alone before it
alone : (part : Part) (p stop : ℕ) (x rest : List ℕ) → drop p part.bytes ≡ x ++ rest → stop ≡ p + length x → From part stop p x
alone part p stop x rest here ends =
    let none : stop - (p + length x) ≡ 0 = omega (arith, ends) in
    cut_stands part.bytes p stop x rest here (omega (arith, ends)) ∙ ap (λ n. x ++ take n rest) none ∙ append-nil x

-- an FDE behind its length: the distance, and what describes the frame
body_shape : (tables : Bool) (cie address : ℕ) (f : ListedFrame) →
    padded (fde_body tables cie address f) ≡ to_le_bytes w32 ((address + 4 - cie) % 2 ^ 32) ++ described tables address (nops_in tables cie address f) f
unfolding fde_body
body_shape tables cie address f =
    let d = to_le_bytes w32 ((address + 4 - cie) % 2 ^ 32) in
    let s = distance_bytes (address + 8) f.region.start in
    let l = to_le_bytes w32 (f.region.length % 2 ^ 32) in
    let t = data_bytes tables (address + 16) f.lsda in
    let m = moves_bytes f.region.start f.moves in
    let z : List ℕ = replicate (nops_in tables cie address f) 0 in
    append_assoc (d ++ s ++ l ++ t) m z ∙ append_assoc (d ++ s ++ l) t (m ++ z) ∙ append_assoc (d ++ s) l (t ++ (m ++ z)) ∙ append_assoc d s (l ++ (t ++ (m ++ z)))

no_more_frames : (tables : Bool) (cie address : ℕ) (frames : List ListedFrame) → length frames ≤ length (fdes_bytes tables cie address frames)
no_more_frames tables cie address [] = omega arith
no_more_frames tables cie address (f ∷ fs) =
    let x = fde_bytes tables cie address f in
    omega (arith, fde_length tables cie address f, no_more_frames tables cie (address + length x) fs, length-append x (fdes_bytes tables cie (address + length x) fs))

one_fde : (tables : Bool) (part : Part) (c q cie address end : ℕ) (f : ListedFrame) (rest : List ℕ) → part.address + c ≡ cie → part.address + q ≡ address → c < q →
    address + length (fde_bytes tables cie address f) < end → end ≤ 2 ^ 31 → FrameIsGood tables cie end f → AllByRecursion (λ m. HasOffset m.change) f.moves →
    drop q part.bytes ≡ fde_bytes tables cie address f ++ rest → FdeAt tables part c q (q + 4 + body_size tables cie address f) (nops_in tables cie address f) f
one_fde tables part c q cie address end f rest at_cie at_fde behind below low good words here =
    let size = body_size tables cie address f in
    let long = fde_length tables cie address f in
    let stop = q + 4 + size in
    let k = nops_in tables cie address f in
    let body = padded (fde_body tables cie address f) in
    let back = address + 4 - cie in
    let d = to_le_bytes w32 (back % 2 ^ 32) in
    let rest_of = described tables address k f in
    let shape = body_shape tables cie address f in
    let sized : drop q part.bytes ≡ to_le_bytes w32 size ++ (body ++ rest) = here ∙ fde_shape tables cie address f rest (omega (arith, long, below, low)) in
    let inner : drop (q + 4) part.bytes ≡ body ++ rest = next_stands part.bytes q (to_le_bytes w32 size) (body ++ rest) sized in
    let from_distance : From part stop (q + 4) (d ++ rest_of) = alone part (q + 4) stop body rest inner refl ∙ shape in
    let small : back % 2 ^ 32 ≡ back = omega (arith, below, low, long) in
    let four : length d ≡ 4 = refl in
    let split : size ≡ 4 + length rest_of = ap length shape ∙ length-append d rest_of ∙ ap (λ n. n + length rest_of) four in
    let place : address ≡ part.address + q = sym at_fde in
    let from_rest : From part stop (q + 4 + 4) (described tables (part.address + q) k f) =
    next_stands (take stop part.bytes) (q + 4) d rest_of from_distance ∙ ap (λ a. described tables a k f) place in
    let ends : stop ≡ q + 4 + 4 + length (described tables (part.address + q) k f) =
    omega (arith, split) ∙ ap (λ a. q + 4 + 4 + length (described tables a k f)) place in
    let read' = fde_read tables c part q stop cie end k f good words (omega (arith, at_cie, at_fde, behind)) (omega (arith, at_fde, long, below)) low from_rest ends in
    record {
      back = back;
      some = omega (arith, at_cie, at_fde, behind);
      leads = omega (arith, at_cie, at_fde, behind);
      distance = in_four part stop (q + 4) (back % 2 ^ 32) rest_of (omega arith) from_distance ∙ ap (λ n. Ok (n, q + 4 + 4)) small;
      region = read'.0;
      fde = read'.1;
    }

all_fdes : (tables : Bool) (part : Part) (c q cie address end : ℕ) (frames : List ListedFrame) (rest : List ℕ) → part.address + c ≡ cie → part.address + q ≡ address → c < q →
    address + length (fdes_bytes tables cie address frames) < end → end ≤ 2 ^ 31 → AllByRecursion (FrameIsGood tables cie end) frames →
    AllByRecursion (λ f. AllByRecursion (λ m. HasOffset m.change) f.moves) frames → drop q part.bytes ≡ fdes_bytes tables cie address frames ++ rest →
    AllFdes tables part c cie address q frames
all_fdes tables part c q cie address end [] rest at_cie at_fde behind below low good words here = tt
all_fdes tables part c q cie address end (f ∷ fs) rest at_cie at_fde behind below low good words here =
    let x = fde_bytes tables cie address f in
    let xs = fdes_bytes tables cie (address + length x) fs in
    let long = fde_length tables cie address f in
    let both = length-append x xs in
    let size = body_size tables cie address f in
    let first : drop q part.bytes ≡ x ++ (xs ++ rest) = here ∙ append_assoc x xs rest in
    let second : drop (q + 4 + size) part.bytes ≡ xs ++ rest =
    ap (λ n. drop n part.bytes) (let e : q + 4 + size ≡ q + length x = omega (arith, long) in e) ∙ next_stands part.bytes q x (xs ++ rest) first in (
      one_fde tables part c q cie address end f (xs ++ rest) at_cie at_fde behind (omega (arith, below, both)) low good.0 words.0 first,
      all_fdes tables part c (q + 4 + size) cie (address + length x) end fs rest at_cie (omega (arith, at_fde, long)) (omega (arith, behind)) (omega (arith, below, both)) low good.1 words.1 second,
    )

-- the CIE behind its length
abbrev cie_body : Bool → List ℕ
cie_body tables = drop 4 (cie_bytes tables)

abbrev cie_size : Bool → ℕ
cie_size true = 20
cie_size false = 16

cie_shape : (tables : Bool) (rest : List ℕ) → cie_bytes tables ++ rest ≡ to_le_bytes w32 (cie_size tables) ++ (cie_body tables ++ rest)
cie_shape true rest = refl
cie_shape false rest = refl

cie_length : (tables : Bool) → length (cie_body tables) ≡ cie_size tables
cie_length true = refl
cie_length false = refl

whole_length : (tables : Bool) → length (cie_bytes tables) ≡ 4 + cie_size tables
whole_length true = refl
whole_length false = refl

some_size : (tables : Bool) → 0 < cie_size tables
some_size true = omega arith
some_size false = omega arith

small_size : (tables : Bool) → cie_size tables < 2 ^ 32
small_size true = omega arith
small_size false = omega arith

cie_read : (tables : Bool) (part : Part) (c stop : ℕ) → From part stop (c + 4) (cie_body tables) → stop ≡ c + 4 + cie_size tables →
    (in_frames (fixed w32) part stop (c + 4) ≡ Ok (0, c + 4 + 4)) × (cie_at part c stop (c + 4 + 4) ≡ Ok (read.cie_of tables part c))
cie_read true part c stop here ends = (
  in_four part stop (c + 4) 0 (drop 8 (cie_bytes true)) (omega arith) here,
  with_tables part c stop (c + 4 + 4) (behind_by part stop (c + 4) 4 (cie_body true) here) (omega (arith, ends)),
)
cie_read false part c stop here ends = (
  in_four part stop (c + 4) 0 (drop 8 (cie_bytes false)) (omega arith) here,
  without_tables part c stop (c + 4 + 4) (behind_by part stop (c + 4) 4 (cie_body false) here) (omega (arith, ends)),
)

frames_length : (list : ListedFrames) (address : ℕ) →
    length (frames_bytes list address) ≡ length (cie_bytes list.lsda) + length (fdes_bytes list.lsda address (address + length (cie_bytes list.lsda)) list.frames) + 4
unfolding frames_bytes
frames_length list address =
    let c = cie_bytes list.lsda in
    let x = fdes_bytes list.lsda address (address + length c) list.frames in
    let z = to_le_bytes w32 0 in
    let four : length z ≡ 4 = refl in
    omega (arith, four, length-append (c ++ x) z, length-append c x)

frames_shape : (list : ListedFrames) (address : ℕ) (rest : List ℕ) →
    frames_bytes list address ++ rest ≡ cie_bytes list.lsda ++ (fdes_bytes list.lsda address (address + length (cie_bytes list.lsda)) list.frames ++ (to_le_bytes w32 0 ++ rest))
unfolding frames_bytes
frames_shape list address rest =
    let c = cie_bytes list.lsda in
    let x = fdes_bytes list.lsda address (address + length c) list.frames in
    let z = to_le_bytes w32 0 in
    append_assoc (c ++ x) z rest ∙ append_assoc c x (z ++ rest)

frames_read : (list : ListedFrames) (address : ℕ) (part : Part) (c : ℕ) (rest : List ℕ) → CanWriteFrames list address →
    AllByRecursion (λ f. AllByRecursion (λ m. HasOffset m.change) f.moves) list.frames → part.address + c ≡ address → drop c part.bytes ≡ frames_bytes list address ++ rest →
    FramesStand list (parts_at part c)
frames_read list address part c rest can words at here =
    let tables = list.lsda in
    let size = cie_size tables in
    let stop = c + 4 + size in
    let first = address + length (cie_bytes tables) in
    let end = address + length (frames_bytes list address) in
    let x = fdes_bytes tables address first list.frames in
    let more = to_le_bytes w32 0 ++ rest in
    let low = can.ends in
    let long = frames_length list address in
    let cie_long = whole_length tables in
    let shaped : drop c part.bytes ≡ to_le_bytes w32 size ++ (cie_body tables ++ (x ++ more)) = here ∙ frames_shape list address rest ∙ cie_shape tables (x ++ more) in
    let body_here : drop (c + 4) part.bytes ≡ cie_body tables ++ (x ++ more) = next_stands part.bytes c (to_le_bytes w32 size) (cie_body tables ++ (x ++ more)) shaped in
    let body_long = cie_length tables in
    let fdes_here : drop stop part.bytes ≡ x ++ more =
    ap (λ n. drop n part.bytes) (let e : stop ≡ c + 4 + length (cie_body tables) = omega (arith, body_long) in e) ∙ next_stands part.bytes (c + 4) (cie_body tables) (x ++ more) body_here in
    let some = some_size tables in
    let n = length part.bytes - 1 in
    let fits = room part.bytes (c + 4) (cie_body tables) (x ++ more) (omega (arith, some, body_long)) body_here in
    let counted : length part.bytes ≡ suc n = omega (arith, fits) in
    let zero_here : drop (stop + length x) part.bytes ≡ to_le_bytes w32 0 ++ rest = next_stands part.bytes stop x more fdes_here in
    let four : length (to_le_bytes w32 0) ≡ 4 = refl in
    let end_fits = room part.bytes (stop + length x) (to_le_bytes w32 0) rest (omega arith) zero_here in
    let spans : spans_within (length part.bytes) part c ≡ record { list = record { at = c; stop = stop } ∷ spans_of tables address first stop list.frames; cut = [] } =
    ap (λ m. spans_within m part c) counted ∙
    span_read part c n size (cie_body tables) (x ++ more) body_long some (small_size tables) shaped ∙
    ap (and_spans (record { at = c; stop = stop }))
    (spans_read tables part address first stop n list.frames rest (omega (arith, low, long)) (omega (arith, no_more_frames tables address first list.frames, end_fits, some)) fdes_here) in
    let cie = cie_read tables part c stop (alone part (c + 4) stop (cie_body tables) (x ++ more) body_here (omega (arith, body_long))) refl in
    let fdes = all_fdes tables part c stop address first end list.frames more at (omega (arith, at, cie_long)) (omega (arith, some)) (omega (arith, long)) low can.frames words fdes_here in
    parts_read tables part c stop address first address end list.frames spans cie.0 cie.1 fdes can.frames can.apart list refl

pub writes_frames : (list : ListedFrames) (address : ℕ) → AllByRecursion (λ f. AllByRecursion (λ m. HasOffset m.change) f.moves) list.frames → CanWriteFrames list address →
    WritesFrames list address (frames_bytes list address)
writes_frames list address words can memory has = by_part (part_with memory address) refl has
  where
    by_part : (found : Option Part) → part_with memory address ≡ found →
        IsSomeAnd found (λ part. (rest : List ℕ) × (drop (address - part.address) part.bytes ≡ frames_bytes list address ++ rest)) →
        IsSomeAnd found (λ part. FramesStand list (parts_at part (address - part.address)))
    by_part None is has = absurd has
    by_part (Some part) is (rest, here) =
        let below = found_covers memory address part is in
        frames_read list address part (address - part.address) rest can words (omega (arith, below)) here
