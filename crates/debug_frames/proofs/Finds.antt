-- What a search for the section answers, step by step.
use Rattle.std.proofs.Common.{◌≡◌, ◌<◌, ◌+◌, ◌*◌, ◌==◌, ℕ, true, false, List, Some, None, refl, arith, nat_lt}
use Rattle.std.proofs.lemmas.Bool.Decides.{nat_tests}
use Rattle.table_forms.specs.declared.reason.Reason.TheVariants.{NoDebugFrames, SectionHeader}
use Rattle.debug_frames.specs.declared.section.Section.{Section}
use Rattle.debug_frames.specs.Least.{least_of}
use Rattle.debug_frames.specs.Sections.{is_in_file, bytes_of, section_at, sections_of, headers_at, count_of, names_number}
use Rattle.debug_frames.specs.FoundSection.{unless, count_places, header_places, refused, section_named, section_found, found_among, found_section}
use Rattle.debug_frames.proofs.Headers.{names_there}
use Rattle.debug_frames.proofs.Leasts.{none_second, holds}

pub finds_none : (file : List ℕ) → count_of file ≡ 0 → found_section file ≡ refused NoDebugFrames 40
unfolding found_section
finds_none file e = rw e refl

pub finds_refused : (file : List ℕ) (place : ℕ) → (count_of file == 0) ≡ false → least_of (count_places file) ≡ Some place → found_section file ≡ refused SectionHeader place
unfolding found_section
finds_refused file place e g = rw (e, g) refl

pub finds_among : (file : List ℕ) → (count_of file == 0) ≡ false → least_of (count_places file) ≡ None →
    found_section file ≡ found_among file (sections_of file) (Some (section_at file (headers_at file + 64 * names_number file)))
unfolding found_section
finds_among file e none =
    let last = none_second _ (unless (nat_lt (names_number file) (count_of file)) 62) none in
    let is = holds (nat_lt (names_number file) (count_of file)) 62 last in
    let below : names_number file < count_of file = grind (arith, nat_tests, is) in
    rw (e, none, names_there file below) refl

pub among_refused : (file : List ℕ) (names : Section) (place : ℕ) → is_in_file file names ≡ true →
    least_of (header_places file (bytes_of file names) (sections_of file)) ≡ Some place → found_among file (sections_of file) (Some names) ≡ refused SectionHeader place
among_refused file names place inside some = rw (inside, some) refl

pub among_found : (file : List ℕ) (names : Section) → is_in_file file names ≡ true → least_of (header_places file (bytes_of file names) (sections_of file)) ≡ None →
    found_among file (sections_of file) (Some names) ≡ section_found (section_named (bytes_of file names) (sections_of file))
among_found file names inside none = rw (inside, none) refl
