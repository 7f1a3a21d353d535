-- The words of a unit as they are counted.
use Rattle.std.proofs.Common.{◌≡◌, ◌∙◌, ℤ, pos, ◌≤◌, List, [], ◌∷◌, map, length, sym, arith}
use Rattle.std.specs.List.{AllByRecursion}
use Rattle.region_forms.specs.Form.{RegionFunction}
use Rattle.linear_forms.specs.Unit.{function_code, unit_of}
use Rattle.region_forms.specs.LowerProgram.{regions_of}
use Rattle.class_layout.proofs.Program.{classes_fit}
use Rattle.machine_forms.specs.Bounds.{counted, counted_all}
use Rattle.machine_forms.specs.Emitted.{function_routine, unit_routines}
use Rattle.machine_forms.specs.Piece.{Target, Piece}
use Rattle.machine_forms.specs.Routine.{Routine, routine_places, routine_words, all_words}
use Rattle.machine_forms.proofs.Words.{words_stand}
use Rattle.source_bounds.specs.RegionWords.{HasFewWays}
use Rattle.source_bounds.specs.WordLaws.{routine_pieces, ProgramsAreShort}
use Rattle.source_bounds.proofs.Regions.{functions_are_short}
use Rattle.source_bounds.proofs.Units.{code_words, checked_fine}

-- each piece counts
pub counted_once : (xs : List Piece) → length xs ≤ counted xs
counted_once [] = omega arith
counted_once (x ∷ xs) = omega (arith, counted_once xs)

nowhere : Target → ℤ
nowhere t = pos 0

pub pieces_counted : (r : Routine) → length (routine_pieces r) ≡ routine_words r
pieces_counted r = sym (words_stand.pieces (routine_places nowhere 0 r) 0 (routine_pieces r)) ∙ words_stand.routine nowhere 0 r

all_counted_once : (rs : List Routine) → all_words rs ≤ counted_all rs
all_counted_once [] = omega arith
all_counted_once (r ∷ rs) = omega (arith, pieces_counted r, counted_once (routine_pieces r), all_counted_once rs)

functions_counted : (fs : List RegionFunction) → AllByRecursion (λ f. HasFewWays f.body) fs →
    counted_all (map function_routine (map function_code fs)) ≤ code_words fs
functions_counted [] h = omega arith
functions_counted (f ∷ fs) h = omega (arith, functions_are_short f h.0, functions_counted fs h.1)

pub programs_are_short : ProgramsAreShort
programs_are_short p l h =
    let fine = checked_fine classes_fit p l h in
    let u = unit_of (regions_of p l) in
    let all = functions_counted (regions_of p l).functions fine.few in
    record {
      few_ways = fine.few;
      counted = omega (arith, all, fine.words);
      words = omega (arith, words_stand.unit u, all_counted_once (unit_routines u), all, fine.words);
    }
