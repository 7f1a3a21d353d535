-- Header and frames of a memory depend only on their own bytes.
use Rattle.std.proofs.Common.{◌≡◌, ◌+◌, ◌-◌, ◌≤◌, ℕ, Bool, true, List, [], ◌++◌, length, Result, Ok, refl, ap, sym, ◌∙◌}
use Rattle.std.specs.Prelude.{Option, Some, None, flat_map, map}
use Rattle.eh_bytes.specs.Memory.{Part, Memory, part_with}
use Rattle.table_forms.specs.Fault.{Fault, ◌>>=◌, least, answer}
use Rattle.table_forms.specs.Spans.{spans_within}
use Rattle.table_forms.specs.Parts.{Parts, cies_of, says, refusal_said, overlaps, regions_of, parts_at}
use Rattle.table_forms.specs.Header.{Header, header_at}
use Rattle.table_forms.specs.Frames.{Frames, table_disagreement, parts_in, parts_behind, frames_in, frames_from, frames}
use Rattle.lsda_pack.specs.SharedTables.{frames_end, header_size}
use Rattle.lsda_pack.proofs.Fronts.{Same}
use Rattle.lsda_pack.proofs.HeadFrame.{with_bytes, bind_ok}
use Rattle.lsda_pack.proofs.LsdaFrame.{none_refused, both_none}
use Rattle.lsda_pack.proofs.HeaderFrame.{header_same}
use Rattle.lsda_pack.proofs.PartsFrame.{parts_same}

-- a part in another memory has other bytes, of which these are the same
pub record PartKept (other : Memory) (a : ℕ) (part : Part) (from end : ℕ) : Type 0 where
  pub bytes : List ℕ
  pub there : part_with other a ≡ Some (with_bytes part bytes)
  pub long : length bytes ≡ length part.bytes
  pub same : Same from end part.bytes bytes

-- the bytes of the frames stay
abbrev pub FramesAt : Memory → Memory → ℕ → Type 0
FramesAt memory other a = (part : Part) → part_with memory a ≡ Some part → PartKept other a part (a - part.address) (frames_end part (a - part.address))

-- those of their header, and those of the frames to which it leads
pub record FramesKept (memory other : Memory) (header : ℕ) (part : Part) : Type 0 where
  pub here : part_with memory header ≡ Some part
  pub inside : header - part.address ≤ length part.bytes
  pub own : PartKept other header part (header - part.address) (header - part.address + header_size (header_at part (header - part.address)).rows)
  pub frames : (a : ℕ) → (header_at part (header - part.address)).frames_at ≡ Some a → FramesAt memory other a

abbrev pub frames_made : Parts → Frames
frames_made parts = record { cies = parts.cies; fdes = parts.fdes }

abbrev pub frames_agreed : Part → ℕ → Header → Parts → Bool → Result Frames Fault
frames_agreed part p header parts whole = answer (table_disagreement (part.file_at + (p + 12)) header.rows parts.fdes) (frames_made parts)

abbrev pub frames_by : Part → ℕ → Header → Parts → Result Frames Fault
frames_by part p header parts = answer (least (header.faults ++ parts.faults)) true >>= frames_agreed part p header parts

pub in_steps : (memory : Memory) (p : ℕ) (part : Part) → frames_in memory p part ≡ frames_by part p (header_at part p) (parts_behind memory (part.file_at + (p + 4)) (header_at part p).frames_at)
unfolding frames_in
in_steps memory p part = refl

pub answered : (o : Option Fault) (b : Bool) → answer o true ≡ Ok b → o ≡ None
answered None b e = refl
answered (Some f) b e = absurd cc

-- no part leaves its segment where nothing is refused of the parts
pub none_cut : (part : Part) (p : ℕ) → (parts_at part p).faults ≡ [] → (spans_within (length part.bytes) part p).cut ≡ []
unfolding parts_at
none_cut part p none =
    let spans = spans_within (length part.bytes) part p in
    let cies = cies_of part spans.list in
    let said = flat_map refusal_said (map (says part cies) spans.list) in
    (both_none spans.cut said (both_none (spans.cut ++ said) (overlaps part [] (regions_of part cies spans.list)) none).0).0

behind_same : (memory other : Memory) (place : ℕ) (o : Option ℕ) → ((a : ℕ) → o ≡ Some a → FramesAt memory other a) → (parts_behind memory place o).faults ≡ [] →
    parts_behind other place o ≡ parts_behind memory place o
behind_same memory other place None kept none = refl
behind_same memory other place (Some a) kept none = by (part_with memory a) refl none
  where
    by : (o : Option Part) → part_with memory a ≡ o → (parts_in place o a).faults ≡ [] → parts_in place (part_with other a) a ≡ parts_in place o a
    by None is f = absurd cc
    by (Some part) is f =
        let stays = kept a refl part is in
        ap (λ o. parts_in place o a) stays.there ∙ parts_same part stays.bytes (a - part.address) stays.long (none_cut part (a - part.address) f) stays.same

pub frames_same : (memory other : Memory) (header : ℕ) (part : Part) (f : Frames) → FramesKept memory other header part → frames memory header ≡ Ok f → frames other header ≡ Ok f
unfolding frames
frames_same memory other header part f kept read =
    let p = header - part.address in
    let new = with_bytes part kept.own.bytes in
    let place = part.file_at + (p + 4) in
    let H = header_at part p in
    let P = parts_behind memory place H.frames_at in
    let by = sym (in_steps memory p part) ∙ sym (ap (frames_from memory header) kept.here) ∙ read in
    let whole = bind_ok (answer (least (H.faults ++ P.faults)) true) (frames_agreed part p H P) f by in
    let none = both_none H.faults P.faults (none_refused (H.faults ++ P.faults) (answered (least (H.faults ++ P.faults)) whole.0 whole.1)) in
    let head = header_same part kept.own.bytes p kept.own.long kept.inside none.0 kept.own.same in
    ap (frames_from other header) kept.own.there ∙
    in_steps other p new ∙
    ap (λ h. frames_by part p h (parts_behind other place h.frames_at)) head ∙
    ap (frames_by part p H) (behind_same memory other place H.frames_at kept.frames none.1) ∙ by

-- nothing is refused of the header of frames that are read
pub header_clean : (memory : Memory) (header : ℕ) (part : Part) (f : Frames) → part_with memory header ≡ Some part → frames memory header ≡ Ok f → (header_at part (header - part.address)).faults ≡ []
unfolding frames
header_clean memory header part f here read =
    let p = header - part.address in
    let H = header_at part p in
    let P = parts_behind memory (part.file_at + (p + 4)) H.frames_at in
    let by = sym (in_steps memory p part) ∙ sym (ap (frames_from memory header) here) ∙ read in
    let whole = bind_ok (answer (least (H.faults ++ P.faults)) true) (frames_agreed part p H P) f by in
    (both_none H.faults P.faults (none_refused (H.faults ++ P.faults) (answered (least (H.faults ++ P.faults)) whole.0 whole.1))).0
