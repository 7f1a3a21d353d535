use Rattle.std.proofs.lemmas.List.Elements.{All-tail}
use Rattle.std.proofs.Common.{rules, All, length, subst, ◌≡◌, ◌∷◌, ◌++◌, None, option_map, ap, sym, ◌∙◌}
use Rattle.eh_bytes.specs.Memory.{part_of}
use Rattle.table_forms.specs.Parts.{cies_of}
use Rattle.frame_read.specs.SeenSpan.{span_seen, spans_seen, IsInside}
use Rattle.frame_read.specs.SeenPart.{entry_seen, entries_seen}
use Rattle.frame_read.proofs.Cies.{cies_some, cies_none, cies_end, empty}
use Rattle.frame_read.proofs.parts.cies_of.Goals as goal

pub spans-preserved-in_ok-push-in-Some : goal.spans-preserved-in_ok-push-in-Some
spans-preserved-in_ok-push-in-Some c =
    let s = part_of c.args.segment.now in
    let cut : c.spans.rest.now ≡ c.in-Some.span.now ∷ c.in-Some.others.now = search rules in
    let xs = entries_seen s c.spans.entries.items in
    let inside = IsInside (length c.args.segment.now.bytes.items) in (
      All-tail inside c.in-Some.span.now c.in-Some.others.now (subst (All inside) cut c.spans.invariant.0),
      cies_some s c.spans.entries.items c.push.new.self.items c.in-Some-cie_entry.entry (span_seen c.in-Some.span.now) (spans_seen c.in-Some.others.now) c.in_ok-push-in-Some.ensures.items
          (sym c.in-Some-cie_entry.ensures) ∙ ap (λ r. xs ++ cies_of s (spans_seen r)) (sym cut) ∙ c.spans.invariant.1,
    )

pub spans-preserved : goal.spans-preserved
spans-preserved c =
    let s = part_of c.args.segment.now in
    let cut : c.spans.rest.now ≡ c.in-Some.span.now ∷ c.in-Some.others.now = search rules in
    let none : c.cie_entry.result ≡ None = search rules in
    let xs = entries_seen s c.spans.entries.items in
    let inside = IsInside (length c.args.segment.now.bytes.items) in (
      All-tail inside c.in-Some.span.now c.in-Some.others.now (subst (All inside) cut c.spans.invariant.0),
      cies_none s c.spans.entries.items (span_seen c.in-Some.span.now) (spans_seen c.in-Some.others.now) (sym c.cie_entry.ensures ∙ ap (option_map (entry_seen s)) none) ∙
          ap (λ r. xs ++ cies_of s (spans_seen r)) (sym cut) ∙ c.spans.invariant.1,
    )

pub returns-in-None : goal.returns-in-None
returns-in-None c =
    let s = part_of c.args.segment.now in
    cies_end s c.spans.entries.items ∙ ap (λ r. entries_seen s c.spans.entries.items ++ cies_of s (spans_seen r)) (sym (empty c.spans.rest.now c.in-None.ensures.cases)) ∙ c.spans.invariant.1
