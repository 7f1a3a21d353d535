-- Symbols of an image's file (ELF-64 Object File Format, "Symbol table").
use Rattle.std.specs.Prelude.{ℕ, ◌+◌, List, [], ◌∷◌, ◌++◌, length, flat_map}
use Rattle.std.specs.Int.{w16, w32, to_le_bytes}
use Rattle.elf_image.specs.Written.{words}
use Rattle.elf_sections.specs.declared.section.SectionKind.{SectionKind}
use Rattle.elf_sections.specs.declared.section.SectionKind.TheVariants.{Code}
use Rattle.elf_sections.specs.declared.symbol.Symbol.{Symbol}
use Rattle.elf_sections.specs.Section.{section_number}

-- STT_FUNC in code, else STT_OBJECT
abbrev pub symbol_type : SectionKind → ℕ
symbol_type Code = 2
symbol_type _ = 1

-- STB_GLOBAL and the type
abbrev pub symbol_info : Symbol → ℕ
symbol_info s = 16 + symbol_type s.section

-- with the usual visibility
abbrev pub info_bytes : Symbol → List ℕ
info_bytes s = symbol_info s ∷ 0 ∷ []

-- a symbol whose name stands at a place among the names
unfoldable pub symbol_bytes : ℕ → Symbol → List ℕ
symbol_bytes name_at s =
    to_le_bytes w32 name_at ++ info_bytes s ++ to_le_bytes w16 (section_number s.section) ++ words (s.address ∷ s.size ∷ [])

-- symbols whose names stand one behind the other from a place on
abbrev pub symbols_from : ℕ → List Symbol → List ℕ
symbols_from name_at [] = []
symbols_from name_at (s ∷ symbols) = symbol_bytes name_at s ++ symbols_from (name_at + length s.name + 1) symbols

-- names, each with a zero behind it
abbrev pub symbol_names : List Symbol → List ℕ
symbol_names symbols = flat_map (λ s. s.name ++ 0 ∷ []) symbols
