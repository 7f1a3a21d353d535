use Rattle.std.proofs.Common.{rules, ◌≡◌, ◌+◌, ◌-◌, ◌<◌, ap, sym, ◌∙◌, arith}
use Rattle.std.specs.Prelude.{is_some}
use Rattle.std.specs.Option.{option_or}
use Rattle.debug_frames.specs.Least.{least_of, lesser}
use Rattle.debug_frames.specs.Sections.{sections_from, section_at, name_in, headers_at}
use Rattle.debug_frames.specs.FoundSection.{unless, unnamed_places, section_named, first_named}
use Rattle.debug_frames.proofs.Headers.{sections_are, sections_step, sections_end, unnamed_step, unnamed_end, named_step, named_end}
use Rattle.debug_frames.proofs.find.sought_in.Goals as goal

pub headers-init : goal.headers-init
headers-init c =
    let file = c.args.file.now in let names = c.args.names.now.bytes.now in
    let all = sections_are file ∙ ap (λ n. sections_from n file (headers_at file)) (sym c.count_of-left.ensures) ∙ ap (sections_from c.count_of-left.result file) (sym c.headers_at-place.ensures) in
    (ap (λ xs. least_of (unnamed_places names xs)) all, ap (section_named names) all, search rules)

pub headers-preserved : goal.headers-preserved
headers-preserved c =
    let file = c.args.file.now in let names = c.args.names.now.bytes.now in
    let p = c.headers.place in let s = section_at file p in
    let some : 0 < c.headers.left = search rules in
    let rest = sections_from (c.headers.left - 1) file (p + 64) in
    let least_before = c.headers.sought.least in
    let step = sections_step c.headers.left file p some in
    let is : c.section_at.result ≡ s = c.section_at.ensures in
    let taken = c.takes.ensures.least ∙ ap (λ x. lesser least_before (least_of (unless (is_some (name_in names x)) x.place))) is in
    let found = c.takes.ensures.found ∙ ap (first_named c.headers.sought.found names) is in (
      c.headers.invariant.0 ∙ ap (λ xs. lesser least_before (least_of (unnamed_places names xs))) step ∙ unnamed_step least_before names s rest ∙
          ap (λ o. lesser o (least_of (unnamed_places names rest))) (sym taken),
      c.headers.invariant.1 ∙ ap (λ xs. option_or c.headers.sought.found (section_named names xs)) step ∙ named_step c.headers.sought.found names s rest ∙
          ap (λ o. option_or o (section_named names rest)) (sym found),
      omega (arith, c.headers.invariant.2, some),
    )

pub returns-clause-least : goal.returns-clause-least
returns-clause-least c =
    let file = c.args.file.now in let names = c.args.names.now.bytes.now in
    let none = sections_end c.headers.left file c.headers.place (omega (arith, c.headers-test.false)) in
    let o = c.headers.sought.least in
    sym (c.headers.invariant.0 ∙ ap (λ xs. lesser o (least_of (unnamed_places names xs))) none ∙ unnamed_end o names)

pub returns-clause-found : goal.returns-clause-found
returns-clause-found c =
    let file = c.args.file.now in let names = c.args.names.now.bytes.now in
    let none = sections_end c.headers.left file c.headers.place (omega (arith, c.headers-test.false)) in
    sym (c.headers.invariant.1 ∙ ap (λ xs. option_or c.headers.sought.found (section_named names xs)) none ∙ named_end c.headers.sought.found names)
