use Rattle.std.proofs.Common.{rules, ◌≡◌, ◌==◌, ◌+◌, ◌*◌, false, Some, None, ap, sym, ◌∙◌, arith}
use Rattle.std.proofs.lemmas.Bool.Decides.{nat_tests}
use Rattle.debug_frames.specs.Least.{least_of}
use Rattle.debug_frames.specs.Sections.{count_of, sections_of, section_at, headers_at, names_number}
use Rattle.debug_frames.specs.FoundSection.{count_places, found_among}
use Rattle.debug_frames.proofs.Finds.{finds_none, finds_refused, finds_among}
use Rattle.debug_frames.proofs.find.found_section.Goals as goal

pub returns-then-count_of-eq0 : goal.returns-then-count_of-eq0
returns-then-count_of-eq0 c =
    let none : count_of c.args.file.now ≡ 0 = search rules in c.refused.ensures ∙ sym (finds_none c.args.file.now none)

pub returns-in-Some : goal.returns-in-Some
returns-in-Some c =
    let some : (count_of c.args.file.now == 0) ≡ false = let e = c.count_of.ensures in let no = c.if-count_of-eq0.false in grind (arith, nat_tests, e, no) in
    c.refused-in-Some.ensures ∙ sym (finds_refused c.args.file.now c.in-Some.place some (sym c.in-Some.ensures))

pub returns : goal.returns
returns c =
    let file = c.args.file.now in
    let some : (count_of file == 0) ≡ false = let e = c.count_of.ensures in let no = c.if-count_of-eq0.false in grind (arith, nat_tests, e, no) in
    let none : least_of (count_places file) ≡ None = search rules in
    let there : c.section_at-names.result ≡ section_at file (headers_at file + 64 * names_number file) = search rules in
    c.found_among.ensures ∙ ap (λ s. found_among file (sections_of file) (Some s)) there ∙ sym (finds_among file some none)
