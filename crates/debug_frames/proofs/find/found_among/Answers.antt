use Rattle.std.proofs.Common.{rules, ◌≡◌, true, ap, sym, ◌∙◌}
use Rattle.debug_frames.specs.Least.{least_of, lesser}
use Rattle.debug_frames.specs.Sections.{sections_of, bytes_of, is_in_file}
use Rattle.debug_frames.specs.FoundSection.{unnamed_places, found_places, section_named, section_found}
use Rattle.debug_frames.proofs.Leasts.{both}
use Rattle.debug_frames.proofs.Finds.{among_refused, among_found}
use Rattle.debug_frames.proofs.find.found_among.Goals as goal

pub returns-in-Some : goal.returns-in-Some
returns-in-Some c =
    let file = c.args.file.now in let names = c.args.names in let bytes = bytes_of file names in
    let inside : is_in_file file names ≡ true = search rules in
    let these : c.new.result.bytes.now ≡ bytes = c.new.ensures ∙ c.bytes_of.ensures in
    let first = c.sought_in-sought.ensures.least ∙ ap (λ b. least_of (unnamed_places b (sections_of file))) these in
    let second = c.found_place.ensures ∙ ap (λ o. least_of (found_places file o)) (c.sought_in-sought.ensures.found ∙ ap (λ b. section_named b (sections_of file)) these) in
    let all = c.lesser.ensures ∙ ap (λ o. lesser o c.found_place.result) first ∙ ap (lesser (least_of (unnamed_places bytes (sections_of file)))) second ∙
    both (unnamed_places bytes (sections_of file)) (found_places file (section_named bytes (sections_of file))) in
    c.refused-in-Some.ensures ∙ sym (among_refused file names c.in-Some.place inside (sym all ∙ c.in-Some.is))

pub returns-in-None : goal.returns-in-None
returns-in-None c =
    let file = c.args.file.now in let names = c.args.names in let bytes = bytes_of file names in
    let inside : is_in_file file names ≡ true = search rules in
    let these : c.new.result.bytes.now ≡ bytes = c.new.ensures ∙ c.bytes_of.ensures in
    let found = c.sought_in-sought.ensures.found ∙ ap (λ b. section_named b (sections_of file)) these in
    let first = c.sought_in-sought.ensures.least ∙ ap (λ b. least_of (unnamed_places b (sections_of file))) these in
    let second = c.found_place.ensures ∙ ap (λ o. least_of (found_places file o)) found in
    let all = c.lesser.ensures ∙ ap (λ o. lesser o c.found_place.result) first ∙ ap (lesser (least_of (unnamed_places bytes (sections_of file)))) second ∙
    both (unnamed_places bytes (sections_of file)) (found_places file (section_named bytes (sections_of file))) in
    c.section_found.ensures ∙ ap section_found found ∙ sym (among_found file names inside (sym all ∙ c.in-None.is))
