-- What is found of a section lies in its file.
use Rattle.std.proofs.Common.{◌≡◌, ◌+◌, ◌≤◌, ◌==◌, ℕ, Bool, true, false, List, Option, Some, None, Result, Ok, refl, arith, subst, length, if◌then◌else◌}
use Rattle.std.specs.Prelude.{slice_get}
use Rattle.std.proofs.lemmas.Bool.Decides.{nat_tests}
use Rattle.table_forms.specs.declared.reason.Reason.TheVariants.{NoDebugFrames, SectionHeader, Compressed}
use Rattle.table_forms.specs.declared.refusal.Refusal.{Refusal}
use Rattle.debug_frames.specs.declared.section.Section.{Section}
use Rattle.debug_frames.specs.Least.{least_of}
use Rattle.debug_frames.specs.Sections.{is_in_file, bytes_of, is_compressed, sections_of, count_of, names_number}
use Rattle.debug_frames.specs.FoundSection.{count_places, unnamed_places, found_places, header_places, refused, unless_refused, section_named, section_found, found_among, found_section}
use Rattle.debug_frames.proofs.Leasts.{none_second, holds}

ok_same : {x y : ℕ × ℕ} → (λ (r : Result (ℕ × ℕ) Refusal). r) (Ok x) ≡ Ok y → x ≡ y
ok_same e = cc

inside_found : (file : List ℕ) (o : Option Section) (s : ℕ × ℕ) → least_of (found_places file o) ≡ None → section_found o ≡ Ok s → s.0 + s.1 ≤ length file
inside_found file None s none e = cc
inside_found file (Some t) s none e = by (is_compressed t) (holds (is_in_file file t) t.place none) e
  where
    by : (b : Bool) → is_in_file file t ≡ true → (if b then refused Compressed t.place else Ok (t.offset, t.size)) ≡ Ok s → s.0 + s.1 ≤ length file
    by true is e' = cc
    by false is e' = subst (λ x. x.0 + x.1 ≤ length file) (ok_same e') (grind (arith, nat_tests, is))

pub found_inside : (file : List ℕ) (s : ℕ × ℕ) → found_section file ≡ Ok s → s.0 + s.1 ≤ length file
unfolding found_section
found_inside file s e = by_count (count_of file == 0) e
  where
    sections : List Section
    sections = sections_of file

    by_headers : (names : List ℕ) (o : Option ℕ) → least_of (header_places file names sections) ≡ o → unless_refused o (section_found (section_named names sections)) ≡ Ok s → s.0 + s.1 ≤ length file
    by_headers names (Some place) is e' = cc
    by_headers names None is e' =
        inside_found file (section_named names sections) s (none_second (unnamed_places names sections) (found_places file (section_named names sections)) is) e'

    by_inside : (t : Section) (b : Bool) →
        (if b then unless_refused (least_of (header_places file (bytes_of file t) sections)) (section_found (section_named (bytes_of file t) sections)) else refused SectionHeader t.place) ≡ Ok s →
        s.0 + s.1 ≤ length file
    by_inside t false e' = cc
    by_inside t true e' = by_headers (bytes_of file t) (least_of (header_places file (bytes_of file t) sections)) refl e'

    by_names : (o : Option Section) → found_among file sections o ≡ Ok s → s.0 + s.1 ≤ length file
    by_names None e' = cc
    by_names (Some t) e' = by_inside t (is_in_file file t) e'

    by_places : (o : Option ℕ) → unless_refused o (found_among file sections (slice_get sections (names_number file))) ≡ Ok s → s.0 + s.1 ≤ length file
    by_places (Some place) e' = cc
    by_places None e' = by_names (slice_get sections (names_number file)) e'

    by_count : (b : Bool) → (if b then refused NoDebugFrames 40 else unless_refused (least_of (count_places file)) (found_among file sections (slice_get sections (names_number file)))) ≡ Ok s →
        s.0 + s.1 ≤ length file
    by_count true e' = cc
    by_count false e' = by_places (least_of (count_places file)) e'
