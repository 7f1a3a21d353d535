-- Sections of an image's file and their headers (ELF-64 Object File Format, "Sections").
use Rattle.std.specs.Prelude.{ℕ, ◌+◌, ◌-◌, List, [], ◌∷◌, ◌++◌, length, codes, find, flat_map, option_map, unwrap_or}
use Rattle.std.specs.Int.{w32, to_le_bytes}
use Rattle.elf_image.specs.declared.program.ProgramHeader.{ProgramHeader}
use Rattle.elf_image.specs.Runtime.{has_address}
use Rattle.elf_image.specs.Written.{words}
use Rattle.elf_sections.specs.declared.section.SectionKind.{SectionKind}
use Rattle.elf_sections.specs.declared.section.SectionKind.TheVariants.{Data, TypeRecords, Code, TypeNames, ExceptionTables, Frames, FrameHeader, Symbols, SymbolNames, SectionNames}
use Rattle.elf_sections.specs.declared.section.Section.{Section}
use Rattle.elf_sections.specs.declared.section.Span.{Span}
use Rattle.elf_sections.specs.declared.section.Places.{Places}

abbrev pub section_text : SectionKind → List ℕ
section_text Data = codes ".data"
section_text TypeRecords = codes ".rodata"
section_text Code = codes ".text"
section_text TypeNames = codes ".rodata.names"
section_text ExceptionTables = codes ".gcc_except_table"
section_text Frames = codes ".eh_frame"
section_text FrameHeader = codes ".eh_frame_hdr"
section_text Symbols = codes ".symtab"
section_text SymbolNames = codes ".strtab"
section_text SectionNames = codes ".shstrtab"

-- in the order in which they stand; section 0 is none
abbrev pub section_number : SectionKind → ℕ
section_number Data = 1
section_number TypeRecords = 2
section_number Code = 3
section_number TypeNames = 4
section_number ExceptionTables = 5
section_number Frames = 6
section_number FrameHeader = 7
section_number Symbols = 8
section_number SymbolNames = 9
section_number SectionNames = 10

-- SHT_PROGBITS, SHT_SYMTAB, SHT_STRTAB
abbrev pub section_type : SectionKind → ℕ
section_type Symbols = 2
section_type SymbolNames = 3
section_type SectionNames = 3
section_type _ = 1

-- SHF_WRITE, SHF_ALLOC, SHF_EXECINSTR
abbrev pub section_flags : SectionKind → ℕ
section_flags Data = 1 + 2
section_flags Code = 2 + 4
section_flags Symbols = 0
section_flags SymbolNames = 0
section_flags SectionNames = 0
section_flags _ = 2

-- the section that has the names of symbols
abbrev pub section_link : SectionKind → ℕ
section_link Symbols = section_number SymbolNames
section_link _ = 0

-- of the symbols behind symbol 0 none is local
abbrev pub section_info : SectionKind → ℕ
section_info Symbols = 1
section_info _ = 0

abbrev pub alignment : SectionKind → ℕ
alignment TypeRecords = 8
alignment Symbols = 8
alignment TypeNames = 1
alignment SymbolNames = 1
alignment SectionNames = 1
alignment _ = 4

abbrev pub entry_size : SectionKind → ℕ
entry_size Symbols = 24
entry_size _ = 0

abbrev pub halves : ℕ → ℕ → List ℕ
halves first second = to_le_bytes w32 first ++ to_le_bytes w32 second

-- a header whose name stands at a place among the names
unfoldable pub section_bytes : ℕ → Section → List ℕ
section_bytes name_at s =
    halves name_at (section_type s.kind) ++ words (section_flags s.kind ∷ s.address ∷ s.offset ∷ s.size ∷ []) ++
    halves (section_link s.kind) (section_info s.kind) ++ words (alignment s.kind ∷ entry_size s.kind ∷ [])

-- headers whose names stand one behind the other from a place on
abbrev pub headers_from : ℕ → List Section → List ℕ
headers_from name_at [] = []
headers_from name_at (s ∷ sections) = section_bytes name_at s ++ headers_from (name_at + length (section_text s.kind) + 1) sections

-- names, each with a zero behind it
abbrev pub section_names : List SectionKind → List ℕ
section_names kinds = flat_map (λ kind. section_text kind ++ 0 ∷ []) kinds

-- all sections, in order
abbrev pub all_kinds : List SectionKind
all_kinds =
    Data ∷ TypeRecords ∷ Code ∷ TypeNames ∷ ExceptionTables ∷ Frames ∷ FrameHeader ∷ Symbols ∷ SymbolNames ∷ SectionNames ∷ []

-- where an address stands in the file; 0 where no segment has it
abbrev pub offset_in : List ProgramHeader → ℕ → ℕ
offset_in loads a = unwrap_or (option_map (λ load. load.offset + (a - load.address)) (find (has_address a) loads)) 0

abbrev pub section_of : List ProgramHeader → SectionKind → Span → Section
section_of loads kind span = record { kind = kind; address = span.address; offset = offset_in loads span.address; size = span.size }

-- the sections of an image's memory
abbrev pub places_sections : List ProgramHeader → Places → List Section
places_sections loads p =
    section_of loads Data p.globals ∷ section_of loads TypeRecords p.type_records ∷ section_of loads Code p.code ∷ section_of loads TypeNames p.type_names ∷
    section_of loads ExceptionTables p.exception_tables ∷ section_of loads Frames p.frames ∷ section_of loads FrameHeader p.frame_header ∷ []
