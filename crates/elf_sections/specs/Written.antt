-- A file with sections and symbols (ELF-64 Object File Format): behind the file stand its symbols, their names, the names of its sections,
-- and the section headers, of which the first is none.
use Rattle.std.specs.Prelude.{ℕ, ◌+◌, ◌-◌, ◌*◌, ◌%◌, List, [], ◌∷◌, ◌++◌, length, take, drop, replicate}
use Rattle.std.specs.Int.{w16, w64, to_le_bytes}
use Rattle.elf_image.specs.Programs.{headers_of, loaded}
use Rattle.elf_sections.specs.declared.section.SectionKind.{SectionKind}
use Rattle.elf_sections.specs.declared.section.SectionKind.TheVariants.{Symbols, SymbolNames, SectionNames}
use Rattle.elf_sections.specs.declared.section.Section.{Section}
use Rattle.elf_sections.specs.declared.section.Places.{Places}
use Rattle.elf_sections.specs.declared.symbol.Symbol.{Symbol}
use Rattle.elf_sections.specs.Section.{headers_from, section_names, all_kinds, places_sections}
use Rattle.elf_sections.specs.Symbol.{symbols_from, symbol_names}

-- so many section headers stand at a place, of 64 bytes each, and the last has the names
unfoldable pub headed : List ℕ → (place count : ℕ) → List ℕ
headed file place count =
    take 40 file ++ to_le_bytes w64 place ++ take 10 (drop 48 file) ++ to_le_bytes w16 64 ++ to_le_bytes w16 count ++ to_le_bytes w16 (count - 1) ++
    drop 64 file

-- zeros from a place up to a multiple of 8
abbrev pub gap : ℕ → List ℕ
gap n = replicate ((8 - n % 8) % 8) 0

-- symbol 0 is none
abbrev pub symbol_table : List Symbol → List ℕ
symbol_table symbols = replicate 24 0 ++ symbols_from 1 symbols

abbrev pub symbol_texts : List Symbol → List ℕ
symbol_texts symbols = 0 ∷ symbol_names symbols

abbrev pub section_texts : List ℕ
section_texts = 0 ∷ section_names all_kinds

-- a section that no segment has
abbrev pub table_section : SectionKind → (offset size : ℕ) → Section
table_section kind offset size = record { kind = kind; address = 0; offset = offset; size = size }

-- behind a file of so many bytes, from a multiple of 8 on: symbols, their names, and the names of sections
abbrev pub tables_behind : ℕ → List Symbol → List ℕ
tables_behind size symbols = gap size ++ symbol_table symbols ++ symbol_texts symbols ++ section_texts

abbrev pub table_sections : ℕ → List Symbol → List Section
table_sections size symbols =
    table_section Symbols (size + length (gap size)) (length (symbol_table symbols)) ∷
    table_section SymbolNames (size + length (gap size ++ symbol_table symbols)) (length (symbol_texts symbols)) ∷
    table_section SectionNames (size + length (gap size ++ symbol_table symbols ++ symbol_texts symbols)) (length section_texts) ∷ []

-- up to where the section headers stand
abbrev pub front_of : ℕ → List Symbol → List ℕ
front_of size symbols = tables_behind size symbols ++ gap (size + length (tables_behind size symbols))

-- what stands behind a file
abbrev pub behind : List ℕ → Places → List Symbol → List ℕ
behind file places symbols =
    let size = length file in
    front_of size symbols ++ replicate 64 0 ++
    headers_from 1 (places_sections (loaded (headers_of file)) places ++ table_sections size symbols)

unfoldable pub with_sections : List ℕ → Places → List Symbol → List ℕ
with_sections file places symbols =
    headed file (length file + length (front_of (length file) symbols)) 11 ++ behind file places symbols
