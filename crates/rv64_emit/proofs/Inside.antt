-- The tables and moves of the functions of a program, and their frames.
use Rattle.std.proofs.Common.{◌≡◌, ◌∙◌, ℕ, zero, suc, ◌+◌, ◌≤◌, List, [], ◌∷◌, length, map, take, Some, refl, ap, arith}
use Rattle.std.specs.Prelude.{slice_get}
use Rattle.std.specs.List.{AllByRecursion}
use Rattle.region_forms.specs.Form.{RegionFunction, Slot}
use Rattle.linear_forms.specs.Frame.{code_slots, frame_bytes, rounded_up, slot_bytes}
use Rattle.linear_forms.specs.Unit.{function_code}
use Rattle.landing_pads.specs.Laws.{AllTablesStand, TablesStand}
use Rattle.machine_forms.specs.Emitted.{function_routine}
use Rattle.machine_forms.specs.Routine.{listed_routine, listed_routines, routine_table, routine_words}
use Rattle.rv64_emit.specs.Laws.{SlotsAreInside, TableIsGood, TablesAreGood}
use Rattle.rv64_emit.proofs.Chains.{chains_there}
use Rattle.rv64_emit.proofs.FiltersThere.{chains_are_good}
use Rattle.rv64_emit.proofs.SitesInside.{all_inside, in_order, pads_inside}

table_good : (first : ℕ) (f : RegionFunction) → TablesStand f → TableIsGood (listed_routine first (function_routine (function_code f)))
table_good first f stand =
    let g = function_code f in
    let r = function_routine g in
    record {
      order = in_order r 0 (length g.ops) 0 r.sites stand.order (omega arith);
      inside = all_inside r 0 (length g.ops) r.sites stand.order (pads_inside g (length f.slots) (length f.slots + 1) r.sites stand.pads);
      sites = chains_there (routine_table r) r refl;
      chains = chains_are_good g [] r.sites tt stand.filters;
      lists = stand.lists;
    }

all_tables : (first : ℕ) (fs : List RegionFunction) → AllTablesStand → AllByRecursion TableIsGood (listed_routines first (map function_routine (map function_code fs)))
all_tables first [] stand = tt
all_tables first (f ∷ fs) stand =
    (table_good first f (stand f), all_tables (first + routine_words (function_routine (function_code f))) fs stand)

pub tables_are_good : AllTablesStand → TablesAreGood
tables_are_good stand r = all_tables 2 r.functions stand

whole_frame : (f : RegionFunction) → 16 + slot_bytes (code_slots f) ≤ frame_bytes (code_slots f)
whole_frame f = omega arith

part_of_all : (slots : List Slot) (s : ℕ) (slot : Slot) → slice_get slots s ≡ Some slot →
    (slot_bytes (take (suc s) slots) ≡ slot_bytes (take s slots) + rounded_up 7 slot.size) × (slot_bytes (take (suc s) slots) ≤ slot_bytes slots)
part_of_all [] s slot e = absurd (cc e)
part_of_all (x ∷ slots) zero slot e =
    let is : x ≡ slot = cc e in
    (ap (λ y. rounded_up 7 y.size + 0) is ∙ omega arith, omega arith)
part_of_all (x ∷ slots) (suc s) slot e =
    let rest = part_of_all slots s slot e in
    (omega (arith, rest.0), omega (arith, rest.1))

size_within : (n : ℕ) → n ≤ rounded_up 7 n
size_within n = omega arith

pub slots_are_inside : SlotsAreInside
slots_are_inside f s slot e =
    let parts = part_of_all (code_slots f) s slot e in
    let next : s + 1 ≡ suc s = omega arith in
    let taken : slot_bytes (take (s + 1) (code_slots f)) ≡ slot_bytes (take (suc s) (code_slots f)) = ap (λ n. slot_bytes (take n (code_slots f))) next in
    record {
      low = omega (arith, taken, parts.1, whole_frame f);
      high = omega (arith, taken, parts.0, parts.1, whole_frame f, size_within slot.size);
    }
