use Rattle.std.proofs.Common.{rules, All, length, subst, ◌≡◌, ◌∷◌, ap, sym, ◌∙◌}
use Rattle.std.proofs.lemmas.List.Elements.{All-tail}
use Rattle.eh_bytes.specs.Memory.{part_of}
use Rattle.table_forms.specs.Spans.{distance_at}
use Rattle.table_forms.specs.Parts.{region_of}
use Rattle.frame_read.specs.SeenSpan.{span_seen, spans_seen, IsInside}
use Rattle.frame_read.specs.SeenPart.{entries_seen}
use Rattle.frame_read.specs.SeenParts.{parts_seen}
use Rattle.frame_read.specs.Gathered.{and_said, and_region, gathered}
use Rattle.frame_read.proofs.parts.parts_of.Goals as goal

pub spans-preserved : goal.spans-preserved
spans-preserved c =
    let s = part_of c.args.segment.now in
    let cut : c.spans.rest.now ≡ c.in-Some.span.now ∷ c.in-Some.others.now = search rules in
    let entries = entries_seen s c.args.entries.now in
    let inside = IsInside (length c.args.segment.now.bytes.items) in
    let span = span_seen c.in-Some.span.now in
    let added = c.in_ok-adds_region.ensures ∙ ap (and_region (parts_seen c.adds.new.self)) c.region_in.ensures.region ∙
    ap (λ g. and_region g (region_of s entries span (distance_at s span))) (c.in_ok-adds.ensures ∙ ap (and_said (parts_seen c.spans.parts)) c.said_by-said.ensures.said) in (
      All-tail inside c.in-Some.span.now c.in-Some.others.now (subst (All inside) cut c.spans.invariant.0),
      ap (λ g. gathered s entries g (spans_seen c.in-Some.others.now)) added ∙
          ap (λ r. gathered s entries (parts_seen c.spans.parts) (spans_seen r)) (sym cut) ∙ c.spans.invariant.1,
    )
