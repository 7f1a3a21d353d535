-- Where .debug_frame stands in a file, or why it is not found.
use Rattle.std.specs.Prelude.{ℕ, ◌+◌, ◌*◌, ◌==◌, nat_lt, nat_le, Bool, false, List, [], ◌∷◌, ◌++◌, length, codes, flat_map, find, slice_get, is_some, Option, Some, None, Result, Ok, Err, bytes_eq, if◌then◌else◌}
use Rattle.table_forms.specs.declared.reason.Reason.{Reason}
use Rattle.table_forms.specs.declared.reason.Reason.TheVariants.{NoDebugFrames, SectionHeader, Compressed}
use Rattle.table_forms.specs.declared.refusal.Refusal.{Refusal}
use Rattle.debug_frames.specs.declared.section.Section.{Section}
use Rattle.debug_frames.specs.Least.{least_of}
use Rattle.debug_frames.specs.Sections.{headers_at, header_size, count_of, names_number, sections_of, is_in_file, bytes_of, name_in, is_compressed}

-- a place, where a condition does not hold
abbrev pub unless : Bool → ℕ → List ℕ
unless holds place = if holds then [] else place ∷ []

-- where the fields of the section headers are refused: headers are not of 64 bytes, they leave the file, or none has the number of the names
abbrev pub count_places : List ℕ → List ℕ
count_places file =
    unless (header_size file == 64) 58 ++ unless (nat_le (headers_at file + 64 * count_of file) (length file)) 40 ++ unless (nat_lt (names_number file) (count_of file)) 62

abbrev pub is_named : List ℕ → Option (List ℕ) → Bool
is_named wanted None = false
is_named wanted (Some name) = bytes_eq name wanted

-- the first section of the name
abbrev pub section_named : List ℕ → List Section → Option Section
section_named names sections = find (λ s. is_named (codes ".debug_frame") (name_in names s)) sections

-- the one that was found, or this one if it is the first
abbrev pub first_named : Option Section → List ℕ → Section → Option Section
first_named (Some found) names s = Some found
first_named None names s = if is_named (codes ".debug_frame") (name_in names s) then Some s else None

-- the header of the section that is sought, where it leaves the file
abbrev pub found_places : List ℕ → Option Section → List ℕ
found_places file None = []
found_places file (Some s) = unless (is_in_file file s) s.place

-- the headers whose names have no end
abbrev pub unnamed_places : List ℕ → List Section → List ℕ
unnamed_places names sections = flat_map (λ s. unless (is_some (name_in names s)) s.place) sections

abbrev pub header_places : List ℕ → List ℕ → List Section → List ℕ
header_places file names sections = unnamed_places names sections ++ found_places file (section_named names sections)

abbrev pub refused : Reason → ℕ → Result (ℕ × ℕ) Refusal
refused reason place = Err (record { reason = reason; place = place; location = 0; other = 0 })

-- the first place where a header is refused, or what is found where none is
abbrev pub unless_refused : Option ℕ → Result (ℕ × ℕ) Refusal → Result (ℕ × ℕ) Refusal
unless_refused None found = found
unless_refused (Some place) found = refused SectionHeader place

-- refused at the number of the headers, where none has the name, and at its header, where it is compressed
abbrev pub section_found : Option Section → Result (ℕ × ℕ) Refusal
section_found None = refused NoDebugFrames 40
section_found (Some s) = if is_compressed s then refused Compressed s.place else Ok (s.offset, s.size)

-- by the section of the names, which is refused at its header, where it leaves the file
abbrev pub found_among : List ℕ → List Section → Option Section → Result (ℕ × ℕ) Refusal
found_among file sections None = refused SectionHeader 62
found_among file sections (Some names) =
    if is_in_file file names then
    unless_refused (least_of (header_places file (bytes_of file names) sections)) (section_found (section_named (bytes_of file names) sections))
    else refused SectionHeader names.place

-- where its bytes begin, and how many they are
unfoldable pub found_section : List ℕ → Result (ℕ × ℕ) Refusal
found_section file =
    if count_of file == 0 then refused NoDebugFrames 40
    else unless_refused (least_of (count_places file)) (found_among file (sections_of file) (slice_get (sections_of file) (names_number file)))
