use Rattle.std.proofs.Common.{◌≡◌, ◌≤◌, length, ◌∙◌, ap, sym, subst}
use Rattle.eh_bytes.specs.Listed.{listed_unit}
use Rattle.image_forms.specs.Linked.{linked}
use Rattle.image_forms.specs.Symbols.{places_for, symbols_for, named}
use Rattle.image_link.specs.Names.{names_of}
use Rattle.image_link.specs.Runs.{RunsUnit}
use Rattle.image_link.proofs.Images.{long_enough}
use Rattle.image_link.proofs.NamedRuns.{named_runs, of_file}
use Rattle.image_link.proofs.named.link_named.Goals as goal

pub with_sections-requires : goal.with_sections-requires
with_sections-requires c =
    let u = listed_unit c.args.emitted.now in
    subst (λ bytes. 64 ≤ length bytes) (sym (c.as_slice.ensures.value ∙ c.in_ok-linked.ensures.bytes)) (long_enough u)

pub returns-clause-bytes : goal.returns-clause-bytes
unfolding named
returns-clause-bytes c =
    let file = c.as_slice.ensures.value ∙ c.in_ok-linked.ensures.bytes in
    let symbols = c.as_slice-2.ensures.value ∙ c.in_ok-symbols.ensures in
    rw (file, c.in_ok-linked.ensures.places, symbols) at c.with_sections.ensures

pub returns-clause-runs : goal.returns-clause-runs
unfolding named
returns-clause-runs c can =
    let u = listed_unit c.args.emitted.now in
    let file = c.as_slice.ensures.value ∙ c.in_ok-linked.ensures.bytes in
    let symbols = c.as_slice-2.ensures.value ∙ c.in_ok-symbols.ensures in
    of_file c.with_sections.result (named (names_of c.args.names.now) u) (RunsUnit u) (rw (file, c.in_ok-linked.ensures.places, symbols) at c.with_sections.ensures)
    (named_runs (names_of c.args.names.now) u (c.in_ok-linked.ensures.behind can) (c.in_ok-linked.ensures.runs can))
