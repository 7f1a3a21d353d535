-- How many words a call runs from one turn of a loop to the next.
use Rattle.std.specs.Prelude.{◌≡◌, ℕ, ◌≤◌, List, [], ◌∷◌, length, Some, slice_get}
use Rattle.std.specs.List.{AllByRecursion}
use Rattle.region_forms.specs.Form.{Regions}
use Rattle.linear_forms.specs.Linear.{FunctionCode}
use Rattle.linear_forms.specs.Unit.{unit_of}
use Rattle.machine_forms.specs.Routine.{routine_words}
use Rattle.machine_forms.specs.Emitted.{function_routine}
use Rattle.cost_paths.specs.Words.{Leads, LoopTurns}

-- control goes from a word by these, one after the other, and no loop turns
abbrev pub GoesBy : FunctionCode → ℕ → List ℕ → Type 0
GoesBy g n [] = Unit {0}
GoesBy g n (m ∷ ms) = Leads g n m × (LoopTurns g n m → ⊥) × GoesBy g m ms

-- there are no more of them than the function has words, and none comes twice
pub record RunsFew (g : FunctionCode) : Type 0 where
  pub few : (n : ℕ) (ms : List ℕ) → GoesBy g n ms → length ms ≤ routine_words (function_routine g)
  pub once : (n : ℕ) (ms : List ℕ) (i j m : ℕ) → GoesBy g n ms → slice_get (n ∷ ms) i ≡ Some m → slice_get (n ∷ ms) j ≡ Some m → i ≡ j

abbrev pub FewWordsRun : Type 0
FewWordsRun = (r : Regions) → AllByRecursion RunsFew (unit_of r).functions
