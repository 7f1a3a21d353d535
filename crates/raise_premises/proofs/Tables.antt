-- The tables of a checked program name few types, and their lists have few bytes.
use Rattle.std.proofs.Common.{ℕ, ◌+◌, ◌*◌, ◌<◌, ◌≤◌, List, [], ◌∷◌, map, length, arith, length-append}
use Rattle.std.specs.Prelude.{flat_map}
use Rattle.std.specs.List.{AllByRecursion}
use Rattle.eh_bytes.specs.Spelling.{uleb_spelling}
use Rattle.region_forms.specs.Form.{RegionFunction}
use Rattle.region_forms.specs.Layout.{layout_of}
use Rattle.region_forms.specs.LowerProgram.{regions_of}
use Rattle.class_layout.specs.Fit.{CheckedClassesFit}
use Rattle.linear_forms.specs.Linear.{FunctionCode}
use Rattle.linear_forms.specs.Tables.{list_bytes}
use Rattle.linear_forms.specs.Unit.{function_code}
use Rattle.landing_pads.specs.Laws.{AllTablesAreShort, AllTablesStand}
use Rattle.landing_pads.specs.Named.{TypeIsThere}
use Rattle.flight_homes.specs.Filters.{bytes_of_lists}
use Rattle.source_bounds.specs.TableWeights.{guards_in}
use Rattle.source_bounds.proofs.Bytes.{uleb_two}
use Rattle.source_bounds.proofs.Measures.{types_weigh, list_weight, table_lists_weigh}
use Rattle.source_bounds.proofs.Roomy.{IsRoomy, checked_roomy}
use Rattle.raise_premises.specs.Premises.{HasFew, CheckedTablesAreFew}

-- an index of few types has at most two bytes
list_short : (g : FunctionCode) (l : List ℕ) → length g.types < 16384 → AllByRecursion (TypeIsThere g) l → list_bytes l ≤ 2 * length l + 1
list_short g [] h k = omega arith
list_short g (i ∷ l) h k = omega (arith, length-append (uleb_spelling i) (flat_map uleb_spelling l), uleb_two i (omega (arith, h, k.0.1)), list_short g l h k.1)

lists_short : (g : FunctionCode) (ls : List (List ℕ)) → length g.types < 16384 → AllByRecursion (AllByRecursion (TypeIsThere g)) ls → bytes_of_lists ls ≤ list_weight ls
lists_short g [] h k = omega arith
lists_short g (l ∷ ls) h k = omega (arith, list_short g l h k.0, lists_short g ls h k.1)

module _ (short : AllTablesAreShort) (stand : AllTablesStand) where
  one_few : (f : RegionFunction) → IsRoomy f → HasFew (function_code f)
  one_few f roomy =
      let g = function_code f in
      let types : length g.types ≤ guards_in f.body = omega (arith, (short f).types, types_weigh f.body) in
      let lists = lists_short g g.lists (omega (arith, types, roomy.guards)) (stand f).lists in
      record { types = omega (arith, types, roomy.guards); lists = omega (arith, lists, table_lists_weigh f.body, roomy.guards) }

  all_few : (fs : List RegionFunction) → AllByRecursion IsRoomy fs → AllByRecursion HasFew (map function_code fs)
  all_few [] h = tt
  all_few (f ∷ fs) h = (one_few f h.0, all_few fs h.1)

pub tables_are_few : CheckedClassesFit → AllTablesAreShort → AllTablesStand → CheckedTablesAreFew
tables_are_few fit short stand p checked =
    let l = layout_of p in
    all_few short stand (regions_of p l).functions (checked_roomy fit p l checked).roomy.each
