-- What writers of tables and frames need of the functions of a checked program.
use Rattle.std.proofs.Common.{◌≡◌, ◌∙◌, ap, ℕ, ◌+◌, ◌*◌, ◌≤◌, List, [], ◌∷◌, ◌++◌, map, length, refl, sym, subst, arith}
use Rattle.std.proofs.lemmas.List.{length-map}
use Rattle.std.specs.List.{AllByRecursion}
use Rattle.std.specs.Prelude.{if◌then◌else◌, Bool, true, false}
use Rattle.eh_bytes.specs.declared.frames.FrameMove.{FrameMove}
use Rattle.eh_bytes.specs.declared.table.ListSite.{ListSite}
use Rattle.eh_write.specs.CanWriteFrames.{MovesAreGood}
use Rattle.region_forms.specs.Form.{RegionFunction}
use Rattle.region_forms.specs.Layout.{layout_of}
use Rattle.region_forms.specs.LowerProgram.{regions_of}
use Rattle.region_forms.specs.Numbering.{type_rows}
use Rattle.meaning_forms.specs.Class.{some_of}
use Rattle.linear_forms.specs.Distinct.{added, added_all, same_number}
use Rattle.linear_forms.specs.Filters.{type_uses}
use Rattle.linear_forms.specs.Unit.{function_code, unit_of}
use Rattle.class_layout.proofs.Program.{classes_fit}
use Rattle.landing_pads.specs.Frames.{AllCheckedFramesFit}
use Rattle.machine_forms.specs.Emitted.{emitted_of, function_routine, listed_type}
use Rattle.machine_forms.specs.Shape.{move_at}
use Rattle.machine_forms.specs.Routine.{listed_routine, listed_routines, routine_words}
use Rattle.image_forms.specs.Function.{SiteIsInside, FunctionFits}
use Rattle.rv64_emit.specs.Laws.{AllMovesFit, MovesFit, moved_to, SiteIsInside as SiteInside, TableIsGood, TablesAreGood}
use Rattle.source_bounds.specs.Laws.{FunctionsFit}
use Rattle.source_bounds.proofs.Budget.{AreNamed}
use Rattle.source_bounds.proofs.Units.{checked_fine}
use Rattle.source_bounds.proofs.Lists.{both_all}

sites_inside : (words : ℕ) (sites : List ListSite) → AllByRecursion (SiteInside words) sites → AllByRecursion (SiteIsInside (4 * words)) sites
sites_inside words [] h = tt
sites_inside words (s ∷ sites) h = ((h.0.extent, h.0.pad), sites_inside words sites h.1)

-- the moves of a function that begins at 0
moved_nowhere : (moves : List FrameMove) → map (moved_to 0) moves ≡ moves
moved_nowhere [] = refl
moved_nowhere (m ∷ moves) =
    let same : 0 + m.location ≡ m.location = omega arith in
    ap (λ n. move_at n m.change ∷ map (moved_to 0) moves) same ∙ ap (λ l. m ∷ l) (moved_nowhere moves)

-- each number once, of numbers that are named
module _ (rows : ℕ) where
  one_named : (xs : List ℕ) (y : ℕ) → AreNamed rows xs → y ≤ rows → AreNamed rows (added same_number xs y)
  one_named xs y h k = go (some_of (same_number y) xs)
    where
      go : (b : Bool) → AreNamed rows (if b then xs else xs ++ y ∷ [])
      go true = h
      go false = both_all (λ t. t ≤ rows) xs (y ∷ []) h (k, tt)

  all_named : (ys xs : List ℕ) → AreNamed rows ys → AreNamed rows xs → AreNamed rows (added_all same_number xs ys)
  all_named [] xs h k = k
  all_named (y ∷ ys) xs h k = all_named ys (added same_number xs y) h.1 (one_named xs y k h.0)

  function_fits : (first : ℕ) (f : RegionFunction) → AreNamed rows (type_uses f.body) →
      TableIsGood (listed_routine first (function_routine (function_code f))) → MovesFit (listed_routine first (function_routine (function_code f))) →
      FunctionFits rows (listed_routine first (function_routine (function_code f)))
  function_fits first f named table moves =
      let r = function_routine (function_code f) in
      let n = routine_words r in
      record {
        some = omega arith;
        table = record {
          order = table.order;
          inside = sites_inside n (listed_routine first r).table.sites table.inside;
          sites = table.sites;
          chains = table.chains;
          lists = table.lists;
          types = all_named (type_uses f.body) [] named tt;
        };
        moves = subst (MovesAreGood (record { start = 0; length = 4 * n }) 0) (moved_nowhere (listed_routine first r).moves) (moves (record { start = 0; length = 4 * n }) refl);
      }

  all_fit : (first : ℕ) (fs : List RegionFunction) → AllByRecursion (λ f. AreNamed rows (type_uses f.body)) fs →
      AllByRecursion TableIsGood (listed_routines first (map function_routine (map function_code fs))) →
      AllByRecursion MovesFit (listed_routines first (map function_routine (map function_code fs))) →
      AllByRecursion (FunctionFits rows) (listed_routines first (map function_routine (map function_code fs)))
  all_fit first [] named tables moves = tt
  all_fit first (f ∷ fs) named tables moves =
      (function_fits first f named.0 tables.0 moves.0, all_fit (first + routine_words (function_routine (function_code f))) fs named.1 tables.1 moves.1)

pub functions_fit : TablesAreGood → AllMovesFit → AllCheckedFramesFit → FunctionsFit
functions_fit tables moves frames p h =
    let r = regions_of p (layout_of p) in
    let fine = checked_fine classes_fit p (layout_of p) h in
    let all = all_fit (length (type_rows p)) 2 r.functions fine.named (tables r) (moves r (frames p h).frames) in
    subst (λ n. AllByRecursion (FunctionFits n) (emitted_of (unit_of r)).functions) (sym (length-map (type_rows p) listed_type)) all
