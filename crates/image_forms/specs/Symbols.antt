-- The sections and symbols of a linked image (ELF-64 Object File Format; the names are those of the Itanium C++ ABI, 5.1).
use Rattle.std.specs.Prelude.{ℕ, ◌+◌, ◌-◌, ◌*◌, List, [], ◌∷◌, ◌++◌, length, codes, Option, Some, None}
use Rattle.eh_bytes.specs.Listed.{ListedUnit}
use Rattle.elf_sections.specs.declared.section.SectionKind.{SectionKind}
use Rattle.elf_sections.specs.declared.section.SectionKind.TheVariants.{Data, TypeRecords, Code}
use Rattle.elf_sections.specs.declared.section.Span.{Span}
use Rattle.elf_sections.specs.declared.section.Places.{Places}
use Rattle.elf_sections.specs.declared.symbol.Symbol.{Symbol}
use Rattle.elf_sections.specs.Written.{with_sections}
use Rattle.machine_forms.specs.Emitted.{emitted_stubs}
use Rattle.image_forms.specs.Placed.{globals_at, records_at, code_at, unit_at, all_code, names_at, PlacedFunction, placed_from}
use Rattle.image_forms.specs.Linked.{unit_names, tables_at, unit_tables, frames_at, frames_written, header_at, header_written, linked}

abbrev pub span : (address size : ℕ) → Span
span address size = record { address = address; size = size }

-- the parts of an image that have sections
abbrev pub places_for : ListedUnit → Places
places_for u = record {
  globals = span (globals_at u) (4 * length u.globals);
  type_records = span (records_at u) (24 * length u.types);
  code = span (code_at u) (4 * length (all_code u));
  type_names = span (names_at u) (length (unit_names u));
  exception_tables = span (tables_at u) (length (unit_tables u));
  frames = span (frames_at u) (length (frames_written u));
  frame_header = span (header_at u) (length (header_written u));
}

-- the names of a unit's functions, types and globals; what has none has no symbol
pub record Names : Type 0 where
  pub functions : List (Option (List ℕ))
  pub types : List (Option (List ℕ))
  pub globals : List (Option (List ℕ))

-- start, terminate with its handler, __cxa_end_catch and __cxa_call_unexpected
abbrev pub stub_names : List (Option (List ℕ))
stub_names =
    Some (codes "_start") ∷ Some (codes "_ZN10__cxxabiv111__terminateEPFvvE") ∷ Some (codes "__cxa_end_catch") ∷ Some (codes "__cxa_call_unexpected") ∷ []

abbrev pub symbol_at : SectionKind → (address size : ℕ) → Option (List ℕ) → List Symbol
symbol_at section address size None = []
symbol_at section address size (Some name) = record { name = name; section = section; address = address; size = size } ∷ []

abbrev pub function_symbols : List (Option (List ℕ)) → List PlacedFunction → List Symbol
function_symbols [] fs = []
function_symbols (n ∷ ns) [] = []
function_symbols (n ∷ ns) (f ∷ fs) = symbol_at Code f.address (4 * f.function.words) n ++ function_symbols ns fs

-- records below an address, each below the one before
abbrev pub record_symbols : {T : Type 0} → (end : ℕ) → List (Option (List ℕ)) → List T → List Symbol
record_symbols end [] ts = []
record_symbols end (n ∷ ns) [] = []
record_symbols end (n ∷ ns) (t ∷ ts) = symbol_at TypeRecords (end - 24) 24 n ++ record_symbols (end - 24) ns ts

-- globals below an address, each below the one before
abbrev pub global_symbols : {T : Type 0} → (end : ℕ) → List (Option (List ℕ)) → List T → List Symbol
global_symbols end [] gs = []
global_symbols end (n ∷ ns) [] = []
global_symbols end (n ∷ ns) (g ∷ gs) = symbol_at Data (end - 4) 4 n ++ global_symbols (end - 4) ns gs

abbrev pub symbols_for : Names → ListedUnit → List Symbol
symbols_for names u =
    function_symbols stub_names (placed_from (code_at u) emitted_stubs.functions) ++ function_symbols names.functions (placed_from (unit_at u) u.functions) ++
    record_symbols (code_at u) names.types u.types ++ global_symbols (records_at u) names.globals u.globals

-- the file of an image whose parts have names
unfoldable pub named : Names → ListedUnit → List ℕ
named names u = with_sections (linked u) (places_for u) (symbols_for names u)
