-- What the instructions of a CIE leave that move no location: from each start the same but for that.
use Rattle.std.specs.Prelude.{◌≡◌, ◌≤◌, ℕ, Bool, true, false, List, length, fold, map, reverse, Option, Some, None}
use Rattle.std.specs.List.{AllByRecursion}
use Rattle.table_forms.specs.Cie.{Cie}
use Rattle.table_forms.specs.Instruction.{Instruction, go_to, advance}
use Rattle.table_forms.specs.Row.{Folding, begun, after, with_initial}
use Rattle.frame_read.specs.SeenRow.{state_seen}
use Rattle.frame_read.specs.declared.cie_fold.CieFold.{CieFold}

-- whether an instruction moves no location
abbrev pub stays : Instruction → Bool
stays (go_to l) = false
stays (advance n) = false
stays _ = true

abbrev pub AllStay : List Instruction → Type 0
AllStay is = AllByRecursion (λ i. stays i ≡ true) is

-- all of them were taken, and none moved the location
pub record StaysOver (s : Folding) (is : List Instruction) (t : Folding) : Type 0 where
  pub stay : AllStay is
  pub over : t ≡ fold after s is

-- a fold before the instructions of an FDE that begins here
abbrev pub fold_seen : CieFold → ℕ → Folding
fold_seen k start = record { location = start; row = state_seen k.row; states = reverse (map state_seen k.states.items); initial = k.row.rules; stopped = false }

-- it is what the instructions of a CIE leave, none of which moves the location
pub record IsFold (k : CieFold) (cie : Cie) : Type 0 where
  pub stay : AllStay cie.instructions
  pub folds : (start : ℕ) → with_initial (fold after (begun start) cie.instructions) ≡ fold_seen k start
  pub states : length k.states.items ≡ cie.states
  pub few : length k.states.items ≤ 16

-- that, or none where one of them moves it
abbrev pub IsFoldOf : Option CieFold → Cie → Type 0
IsFoldOf (Some k) cie = IsFold k cie
IsFoldOf None cie = AllStay cie.instructions → ⊥
