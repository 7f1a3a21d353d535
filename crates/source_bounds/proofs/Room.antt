-- The image of a checked program takes few bytes for its unit.
use Rattle.std.proofs.Common.{◌≡◌, ℕ, suc, ◌+◌, ◌*◌, ◌≤◌, nat_le, Bool, true, false, List, [], ◌∷◌, map, length, refl, arith, if◌then◌else◌}
use Rattle.std.specs.Prelude.{sum_by}
use Rattle.std.specs.List.{AllByRecursion}
use Rattle.std.proofs.lemmas.Bool.Decides.{nat_tests}
use Rattle.std.proofs.lemmas.List.{length-take}
use Rattle.std.proofs.lemmas.List.Sums.{sum_by-cons}
use Rattle.eh_bytes.specs.declared.unit.TypeRow.{TypeRow as ListedType}
use Rattle.region_forms.specs.Form.{RegionFunction, TypeRow}
use Rattle.region_forms.specs.Layout.{layout_of}
use Rattle.region_forms.specs.LowerProgram.{regions_of}
use Rattle.region_forms.specs.Numbering.{type_rows}
use Rattle.linear_forms.specs.Unit.{function_code, unit_of}
use Rattle.class_layout.proofs.Program.{classes_fit}
use Rattle.landing_pads.specs.Frames.{AllCheckedFramesFit}
use Rattle.landing_pads.specs.Laws.{AllTablesAreShort}
use Rattle.machine_forms.specs.Emitted.{emitted_of, function_routine, listed_type}
use Rattle.machine_forms.specs.Routine.{listed_routine, listed_routines, routine_words}
use Rattle.image_forms.specs.Room.{function_room, type_room, symbol_room, type_symbol_room}
use Rattle.rv64_emit.specs.Laws.{TableIsGood, TablesAreGood}
use Rattle.source_bounds.specs.Laws.{RoomIsSmall}
use Rattle.source_bounds.specs.LeastTokens.{classes_tokens, functions_tokens}
use Rattle.source_bounds.proofs.Counted.{programs_are_short}
use Rattle.source_bounds.proofs.Roomy.{IsRoomy, most_room, all_room, checked_roomy}
use Rattle.source_bounds.proofs.Rooms.{function_room_short}
use Rattle.source_bounds.proofs.Units.{checked_tokens}
use Rattle.source_bounds.proofs.Rows.{rows_counted}

functions_room : AllTablesAreShort → (first : ℕ) (fs : List RegionFunction) → AllByRecursion IsRoomy fs → AllByRecursion (λ g. g.frame ≤ 2032) (map function_code fs) →
    AllByRecursion TableIsGood (listed_routines first (map function_routine (map function_code fs))) →
    sum_by function_room (listed_routines first (map function_routine (map function_code fs))) + symbol_room * length (listed_routines first (map function_routine (map function_code fs))) ≤ all_room fs
functions_room tables first [] h small good = omega arith
functions_room tables first (f ∷ fs) h small good =
    let own = listed_routine first (function_routine (function_code f)) in
    let next = first + routine_words (function_routine (function_code f)) in
    let others = listed_routines next (map function_routine (map function_code fs)) in
    two_rooms (function_room own) (sum_by function_room others) (length others) (sum_by function_room (own ∷ others)) (most_room f) (all_room fs)
    (function_room_short tables first f h.0 small.0 good.0) (functions_room tables next fs h.1 small.1 good.1) (sum_by-cons function_room own others)
  where
    two_rooms : (a b k c m n : ℕ) → a + symbol_room ≤ m → b + symbol_room * k ≤ n → c ≡ a + b → c + symbol_room * suc k ≤ m + n
    two_rooms a b k c m n h g e = omega (arith, h, g, e)

-- a type has a record, and at most 255 bytes of its name; it has a symbol where the name has at most 96
type_small : (t : ListedType) → type_room t + type_symbol_room t ≤ 280
type_small t = by (nat_le (length t.name) 96) refl
  where
    by : (b : Bool) → nat_le (length t.name) 96 ≡ b → type_room t + (if b then symbol_room else 0) ≤ 280
    by true e = let short : length t.name ≤ 96 = grind (arith, nat_tests, e) in omega (arith, short, length-take 255 t.name)
    by false e = omega (arith, length-take 255 t.name)

types_small : (ts : List TypeRow) → sum_by type_room (map listed_type ts) + sum_by type_symbol_room (map listed_type ts) ≤ 280 * length ts
types_small [] = omega arith
types_small (t ∷ ts) =
    omega (
      arith,
      type_small (listed_type t),
      types_small ts,
      sum_by-cons type_room (listed_type t) (map listed_type ts),
      sum_by-cons type_symbol_room (listed_type t) (map listed_type ts),
    )

-- the parts of a unit's room
summed_room : (code functions named types symbols globals tokens most room rows classes classes-tokens functions-tokens : ℕ) → code ≤ 128 * tokens + 2048 → functions + symbol_room * named ≤ room →
    room ≤ most → most + 280 * classes ≤ 256 * (classes-tokens + functions-tokens) → types + symbols ≤ 280 * rows → rows ≡ classes + 1 →
    classes-tokens + functions-tokens + 3 * globals ≤ tokens + 5 →
    4 * code + functions + types + 4 * globals + (symbol_room * (named + globals) + symbols) ≤ 768 * tokens + 65536
summed_room code functions named types symbols globals tokens most room rows classes classes-tokens functions-tokens a b c d e f g = omega (arith, a, b, c, d, e, f, g)

pub room_is_small : AllTablesAreShort → TablesAreGood → AllCheckedFramesFit → RoomIsSmall
room_is_small tables good frames p h =
    let r = regions_of p (layout_of p) in
    let u = unit_of r in
    let roomy = checked_roomy classes_fit p (layout_of p) h in
    summed_room (length (emitted_of u).code) (sum_by function_room (emitted_of u).functions) (length (emitted_of u).functions) (sum_by type_room (emitted_of u).types)
    (sum_by type_symbol_room (emitted_of u).types) (length p.globals) p.program.tokens
    roomy.most (all_room r.functions) (length (type_rows p)) (length p.classes) (classes_tokens p.classes) (functions_tokens p.functions)
    (programs_are_short p (layout_of p) h).words (functions_room tables 2 r.functions roomy.roomy.each (frames p h).frames (good r)) roomy.roomy.room roomy.total
    (types_small (type_rows p)) (rows_counted p h) (checked_tokens p h)
