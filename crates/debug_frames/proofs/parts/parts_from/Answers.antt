use Rattle.std.proofs.Common.{map, option_map, refl, ap, sym, subst, ◌∙◌, arith}
use Rattle.std.proofs.lemmas.List.Sorted.{IsPermutation-map}
use Rattle.eh_bytes.specs.Memory.{part_of}
use Rattle.table_forms.specs.Fault.{least, joined, answer}
use Rattle.table_forms.specs.Frames.{Frames}
use Rattle.table_forms.specs.Spans.{Spans}
use Rattle.table_forms.specs.Seen.{fault_of}
use Rattle.frame_read.specs.SeenSpan.{spans_seen, cut_of}
use Rattle.frame_read.specs.SeenPart.{entries_seen}
use Rattle.frame_read.specs.SeenParts.{placed_seen}
use Rattle.frame_read.specs.Sweep.{meets_at}
use Rattle.frame_read.proofs.Joined.{least_cut}
use Rattle.frame_read.proofs.Overlaps.{sorted_from}
use Rattle.frame_read.proofs.Rises.{Rise}
use Rattle.debug_frames.specs.DebugParts.{debug_cies}
use Rattle.debug_frames.specs.Gathered.{nothing, gathered, parts_seen}
use Rattle.debug_frames.proofs.Places.{all_rise, entries_rise}
use Rattle.debug_frames.proofs.Wholes.{read_whole}
use Rattle.debug_frames.proofs.parts.parts_from.Goals as goal

pub returns-clause-read : goal.returns-clause-read
returns-clause-read c =
    let s = part_of c.args.section.now in let parts = parts_seen s c.in_ok-parts.parts in
    let spans = c.in_ok-spans.spans.items in let cut = c.in_ok-spans.cut in
    let entries = c.in_ok-entries.entries.items in let sorted = c.first_overlap.new.regions.items in
    let frames : Frames = record { cies = parts.cies; fdes = parts.fdes } in
    sym (ap (λ o. answer o frames)
    (c.joined-parts.ensures ∙
    ap (λ o. joined o (option_map fault_of c.overlap_refusal.result)) (c.joined-refusal.ensures ∙ ap (λ o. joined o parts.least) (sym (least_cut cut))) ∙
    ap (joined (joined (least (cut_of cut)) parts.least)) (c.overlap_refusal.ensures s refl ∙ ap (option_map (meets_at s)) c.in_ok-overlap.ensures.first)) ∙
    read_whole s (spans_seen spans) (cut_of cut) (entries_seen s entries) parts (map placed_seen sorted)
    c.in_ok-spans.ensures.spans
    (c.in_ok-entries.ensures.read ∙ ap (λ x. debug_cies s (spans_seen x)) c.deref.ensures.value)
    (c.in_ok-parts.ensures.seen ∙ ap (λ x. gathered s (entries_seen s x) nothing (spans_seen c.deref-3.result.now)) c.deref-2.ensures.value ∙
    ap (λ x. gathered s (entries_seen s entries) nothing (spans_seen x)) c.deref-3.ensures.value)
    (IsPermutation-map placed_seen c.in_ok-parts.parts.regions.items sorted c.in_ok-overlap.ensures.permutation)
    (sorted_from sorted c.in_ok-overlap.ensures.order 0 (λ d some. omega arith)))

-- the CIEs stand in the order of their places
pub parts_of-requires-clause-rises : goal.parts_of-requires-clause-rises
parts_of-requires-clause-rises c =
    let s = part_of c.args.section.now in let spans = spans_seen c.in_ok-spans.spans.items in
    let entries = c.in_ok-entries.entries.items in
    let rise : Rise 0 spans = subst (λ (x : Spans). Rise 0 x.list) c.in_ok-spans.ensures.spans (all_rise s) in
    let read = c.in_ok-entries.ensures.read ∙ ap (λ x. debug_cies s (spans_seen x)) c.deref.ensures.value in
    (0, rw c.deref-2.ensures.value (entries_rise s 0 spans entries rise read))
