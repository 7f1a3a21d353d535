-- How many bytes sections and symbols take.
use Rattle.std.proofs.Common.{◌≡◌, ◌+◌, ◌-◌, ◌*◌, ◌%◌, ◌≤◌, ℕ, List, [], ◌∷◌, ◌++◌, length, refl, ap, ◌∙◌, arith, length-append}
use Rattle.std.specs.Prelude.{sum_by, replicate}
use Rattle.std.proofs.lemmas.List.{length-replicate}
use Rattle.std.proofs.lemmas.List.Sums.{sum_by-cons}
use Rattle.elf_image.specs.Programs.{headers_of, loaded}
use Rattle.elf_sections.specs.declared.section.Section.{Section}
use Rattle.elf_sections.specs.declared.section.Places.{Places}
use Rattle.elf_sections.specs.declared.symbol.Symbol.{Symbol}
use Rattle.elf_sections.specs.Section.{section_text, section_bytes, headers_from, places_sections}
use Rattle.elf_sections.specs.Symbol.{symbol_bytes, symbols_from, symbol_names}
use Rattle.elf_sections.specs.Written.{headed, gap, symbol_table, symbol_texts, section_texts, tables_behind, table_sections, front_of, behind, with_sections}
use Rattle.elf_sections.proofs.Kept.{headed_long}

-- a symbol with its name
abbrev pub symbol_size : Symbol → ℕ
symbol_size s = 25 + length s.name

entry_size : (at : ℕ) (s : Symbol) → length (symbol_bytes at s) ≡ 24
unfolding symbol_bytes
entry_size at s = refl

symbols_size : (at : ℕ) (ss : List Symbol) → length (symbols_from at ss) + length (symbol_names ss) ≡ sum_by symbol_size ss
symbols_size at [] = refl
symbols_size at (s ∷ ss) =
    omega (
      arith,
      length-append (symbol_bytes at s) (symbols_from (at + length s.name + 1) ss),
      length-append (s.name ++ 0 ∷ []) (symbol_names ss),
      length-append s.name (0 ∷ []),
      entry_size at s,
      symbols_size (at + length s.name + 1) ss,
      sum_by-cons symbol_size s ss,
    )

header_size : (at : ℕ) (s : Section) → length (section_bytes at s) ≡ 64
unfolding section_bytes
header_size at s = refl

headers_size : (at : ℕ) (ss : List Section) → length (headers_from at ss) ≡ 64 * length ss
headers_size at [] = refl
headers_size at (s ∷ ss) =
    omega (arith, length-append (section_bytes at s) (headers_from (at + length (section_text s.kind) + 1) ss), header_size at s, headers_size (at + length (section_text s.kind) + 1) ss)

gap_small : (n : ℕ) → length (gap n) ≤ 7
gap_small n = let zeros : length {A = ℕ} (replicate ((8 - n % 8) % 8) 0) ≡ (8 - n % 8) % 8 = length-replicate ((8 - n % 8) % 8) 0 in omega (arith, zeros)

texts_size : length section_texts ≡ 103
texts_size = refl

-- beside symbols and their names, few bytes
pub sections_size : (file : List ℕ) (places : Places) (symbols : List Symbol) → 64 ≤ length file →
    length (with_sections file places symbols) ≤ length file + sum_by symbol_size symbols + 846
unfolding with_sections
sections_size file places symbols whole =
    let size = length file in
    let front = front_of size symbols in
    let sections = places_sections (loaded (headers_of file)) places ++ table_sections size symbols in
    let few : length sections ≡ 10 = refl in
    let none : length {A = ℕ} (replicate 64 0) ≡ 64 = refl in
    let first : length {A = ℕ} (replicate 24 0) ≡ 24 = refl in
    omega (
      arith,
      length-append (headed file (size + length front) 11) (behind file places symbols),
      headed_long file (size + length front) 11 whole,
      length-append (front ++ replicate 64 0) (headers_from 1 sections),
      length-append front (replicate 64 0),
      none,
      headers_size 1 sections,
      few,
      length-append (tables_behind size symbols) (gap (size + length (tables_behind size symbols))),
      gap_small (size + length (tables_behind size symbols)),
      length-append (gap size ++ symbol_table symbols ++ symbol_texts symbols) section_texts,
      length-append (gap size ++ symbol_table symbols) (symbol_texts symbols),
      length-append (gap size) (symbol_table symbols),
      gap_small size,
      texts_size,
      length-append (replicate 24 0) (symbols_from 1 symbols),
      first,
      symbols_size 1 symbols,
    )
