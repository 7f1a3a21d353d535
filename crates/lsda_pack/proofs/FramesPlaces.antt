-- Where header and frames lie depends only on their own bytes.
use Rattle.std.proofs.Common.{◌≡◌, ◌+◌, ◌-◌, ◌==◌, ℕ, true, List, [], ◌∷◌, ◌++◌, length, Ok, refl, ap, sym, subst, ◌∙◌, if◌then◌else◌}
use Rattle.std.specs.Prelude.{Option, Some, None, fold, max}
use Rattle.eh_bytes.specs.Memory.{Part, Memory, part_with}
use Rattle.elf_image.specs.Runnable.{start_in, frames_start}
use Rattle.table_forms.specs.Fault.{least, answer}
use Rattle.table_forms.specs.Spans.{Spans, spans_within}
use Rattle.table_forms.specs.Header.{Header, header_at}
use Rattle.table_forms.specs.Frames.{Frames, parts_in, parts_behind, frames_from, frames}
use Rattle.lsda_pack.specs.SharedTables.{frames_end, frames_in, frames_extent, header_in, header_size}
use Rattle.lsda_pack.proofs.Fronts.{Same}
use Rattle.lsda_pack.proofs.FramesFrame.{FramesAt, FramesKept, answered, frames_agreed, in_steps, none_cut}
use Rattle.lsda_pack.proofs.HeadFrame.{with_bytes, bind_ok}
use Rattle.lsda_pack.proofs.HeaderFrame.{header_same}
use Rattle.lsda_pack.proofs.LsdaFrame.{none_refused, both_none}
use Rattle.lsda_pack.proofs.SpansFrame.{spans_same}

frames_end_same : (part : Part) (ys : List ℕ) (p : ℕ) → length ys ≡ length part.bytes → (spans_within (length part.bytes) part p).cut ≡ [] → Same p (frames_end part p) part.bytes ys →
    frames_end (with_bytes part ys) p ≡ frames_end part p
frames_end_same part ys p long cut same =
    ap (λ (s : Spans). let last = fold (λ e x. max e x.stop) p s.list in if last == length ys then last else last + 4) (spans_same part ys p long cut same) ∙
    ap (λ n. let last = fold (λ e x. max e x.stop) p (spans_within (length part.bytes) part p).list in if last == n then last else last + 4) long

frames_place : (memory other : Memory) (place a : ℕ) → FramesAt memory other a → (parts_in place (part_with memory a) a).faults ≡ [] → frames_in a (part_with other a) ≡ frames_in a (part_with memory a)
frames_place memory other place a kept none = by (part_with memory a) refl none
  where
    by : (o : Option Part) → part_with memory a ≡ o → (parts_in place o a).faults ≡ [] → frames_in a (part_with other a) ≡ frames_in a o
    by None is f = absurd cc
    by (Some part) is f =
        let stays = kept part is in
        let p = a - part.address in
        ap (frames_in a) stays.there ∙
        ap (λ n. record { first = a; end = part.address + n; place = part.file_at + p } ∷ []) (frames_end_same part stays.bytes p stays.long (none_cut part p f) stays.same)

pub record PlacesSame (memory other : Memory) (header : ℕ) : Type 0 where
  pub start : frames_start other header ≡ frames_start memory header
  pub frames : frames_extent other (frames_start memory header) ≡ frames_extent memory (frames_start memory header)
  pub own : header_in header (part_with other header) ≡ header_in header (part_with memory header)

pub places_same : (memory other : Memory) (header : ℕ) (part : Part) (f : Frames) → FramesKept memory other header part → frames memory header ≡ Ok f → PlacesSame memory other header
unfolding frames
places_same memory other header part f kept read =
    let p = header - part.address in
    let place = part.file_at + (p + 4) in
    let H = header_at part p in
    let P = parts_behind memory place H.frames_at in
    let by = sym (in_steps memory p part) ∙ sym (ap (frames_from memory header) kept.here) ∙ read in
    let whole = bind_ok (answer (least (H.faults ++ P.faults)) true) (frames_agreed part p H P) f by in
    let none = both_none H.faults P.faults (none_refused (H.faults ++ P.faults) (answered (least (H.faults ++ P.faults)) whole.0 whole.1)) in
    let head = header_same part kept.own.bytes p kept.own.long kept.inside none.0 kept.own.same in
    let start : frames_start memory header ≡ H.frames_at = ap (start_in header) kept.here in
    record {
      start = ap (start_in header) kept.own.there ∙ ap (λ (h : Header). h.frames_at) head ∙ sym start;
      frames = subst (λ o. frames_extent other o ≡ frames_extent memory o) (sym start) (by_start H.frames_at refl none.1);
      own = ap (header_in header) kept.own.there ∙ ap (λ (h : Header). record { first = header; end = header + header_size h.rows; place = part.file_at + p } ∷ []) head ∙
          sym (ap (header_in header) kept.here);
    }
  where
    by_start : (o : Option ℕ) → (header_at part (header - part.address)).frames_at ≡ o → (parts_behind memory (part.file_at + (header - part.address + 4)) o).faults ≡ [] →
        frames_extent other o ≡ frames_extent memory o
    by_start None at none = refl
    by_start (Some a) at none = frames_place memory other (part.file_at + (header - part.address + 4)) a (kept.frames a at) none
