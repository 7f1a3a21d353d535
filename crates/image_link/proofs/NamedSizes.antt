-- An image with sections and symbols is small.
use Rattle.std.proofs.Common.{◌≡◌, ◌+◌, ◌-◌, ◌*◌, ◌≤◌, ℕ, Bool, true, false, nat_le, List, [], ◌∷◌, ◌++◌, length, map, refl, arith, if◌then◌else◌}
use Rattle.std.specs.Prelude.{Option, Some, None, sum_by}
use Rattle.std.specs.List.{AllByRecursion}
use Rattle.std.proofs.lemmas.Bool.Decides.{nat_tests}
use Rattle.std.proofs.lemmas.List.{length-map}
use Rattle.std.proofs.lemmas.List.Sums.{sum_by-cons, sum_by-append}
use Rattle.eh_bytes.specs.declared.unit.TypeRow.{TypeRow}
use Rattle.eh_bytes.specs.Listed.{ListedUnit}
use Rattle.elf_sections.specs.declared.section.SectionKind.{SectionKind}
use Rattle.elf_sections.specs.declared.section.SectionKind.TheVariants.{Data, TypeRecords, Code}
use Rattle.elf_sections.specs.declared.symbol.Symbol.{Symbol}
use Rattle.elf_sections.proofs.Sizes.{symbol_size, sections_size}
use Rattle.machine_forms.specs.Emitted.{emitted_stubs}
use Rattle.image_forms.specs.Linkable.{IsLinkable}
use Rattle.image_forms.specs.Linked.{linked}
use Rattle.image_forms.specs.Placed.{records_at, code_at, unit_at, PlacedFunction, placed_at, placed_from}
use Rattle.image_forms.specs.Room.{symbol_room, type_symbol_room, symbols_room}
use Rattle.image_forms.specs.Symbols.{Names, stub_names, symbol_at, function_symbols, record_symbols, global_symbols, symbols_for, places_for, named}
use Rattle.image_link.specs.Laws.{NamedImagesAreSmall}
use Rattle.image_link.specs.Names.{IsShort, HaveShort, AreShort}
use Rattle.image_link.proofs.Images.{room_left, long_enough}

one_small : (section : SectionKind) (address size : ℕ) (name : Option (List ℕ)) → IsShort name → sum_by symbol_size (symbol_at section address size name) ≤ symbol_room
one_small section address size None short = omega arith
one_small section address size (Some name) short = omega (arith, short)

functions_small : (ns : List (Option (List ℕ))) (fs : List PlacedFunction) → AllByRecursion IsShort ns → sum_by symbol_size (function_symbols ns fs) ≤ symbol_room * length fs
functions_small [] fs short = omega arith
functions_small (n ∷ ns) [] short = omega arith
functions_small (n ∷ ns) (f ∷ fs) short =
    omega (
      arith,
      sum_by-append symbol_size (symbol_at Code f.address (4 * f.function.words) n) (function_symbols ns fs),
      one_small Code f.address (4 * f.function.words) n short.0,
      functions_small ns fs short.1,
    )

globals_small : {T : Type 0} (end : ℕ) (ns : List (Option (List ℕ))) (gs : List T) → AllByRecursion IsShort ns → sum_by symbol_size (global_symbols end ns gs) ≤ symbol_room * length gs
globals_small end [] gs short = omega arith
globals_small end (n ∷ ns) [] short = omega arith
globals_small end (n ∷ ns) (g ∷ gs) short =
    omega (
      arith,
      sum_by-append symbol_size (symbol_at Data (end - 4) 4 n) (global_symbols (end - 4) ns gs),
      one_small Data (end - 4) 4 n short.0,
      globals_small (end - 4) ns gs short.1,
    )

-- a type with a short name has room for a symbol
room_for : (t : TypeRow) → length t.name ≤ 96 → type_symbol_room t ≡ symbol_room
room_for t short = let e : nat_le (length t.name) 96 ≡ true = grind (arith, nat_tests, short) in rw e refl

types_small : (end : ℕ) (ns : List (Option (List ℕ))) (ts : List TypeRow) → HaveShort ns ts → sum_by symbol_size (record_symbols end ns ts) ≤ sum_by type_symbol_room ts
types_small end [] ts short = omega arith
types_small end (n ∷ ns) [] short = omega arith
types_small end (None ∷ ns) (t ∷ ts) short = omega (arith, types_small (end - 24) ns ts short, sum_by-cons type_symbol_room t ts)
types_small end (Some name ∷ ns) (t ∷ ts) short =
    omega (
      arith,
      sum_by-append symbol_size (symbol_at TypeRecords (end - 24) 24 (Some name)) (record_symbols (end - 24) ns ts),
      one_small TypeRecords (end - 24) 24 (Some name) short.0,
      room_for t short.1,
      types_small (end - 24) ns ts short.2,
      sum_by-cons type_symbol_room t ts,
    )

stubs_small : (code : ℕ) → sum_by symbol_size (function_symbols stub_names (placed_from code emitted_stubs.functions)) ≡ 176
stubs_small code = refl

symbols_small : (names : Names) (u : ListedUnit) → AreShort names u → sum_by symbol_size (symbols_for names u) ≤ symbols_room u + 176
symbols_small names u short =
    let a = function_symbols stub_names (placed_from (code_at u) emitted_stubs.functions) in
    let b = function_symbols names.functions (placed_from (unit_at u) u.functions) in
    let c = record_symbols (code_at u) names.types u.types in
    let d = global_symbols (records_at u) names.globals u.globals in
    omega (
      arith,
      sum_by-append symbol_size (a ++ b ++ c) d,
      sum_by-append symbol_size (a ++ b) c,
      sum_by-append symbol_size a b,
      stubs_small (code_at u),
      functions_small names.functions (placed_from (unit_at u) u.functions) short.functions,
      length-map u.functions (placed_at (unit_at u)),
      types_small (code_at u) names.types u.types short.types,
      globals_small (records_at u) names.globals u.globals short.globals,
    )

pub named_images_are_small : NamedImagesAreSmall
unfolding named
named_images_are_small names u can short =
    omega (arith, sections_size (linked u) (places_for u) (symbols_for names u) (long_enough u), symbols_small names u short, room_left u can)
