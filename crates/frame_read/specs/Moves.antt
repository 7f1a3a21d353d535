-- Where instructions move to, inside a region (DWARF 5, 6.4.2.1).
use Rattle.std.specs.Prelude.{◌≡◌, ℕ, ◌^◌, ◌++◌, min, List, fold, filter}
use Rattle.eh_bytes.specs.declared.frames.Region64.{Region64}
use Rattle.table_forms.specs.Instruction.{Instruction}
use Rattle.table_forms.specs.Row.{location_after, locations_from}
use Rattle.table_forms.specs.Fde.{is_in}
use Rattle.frame_read.specs.declared.moves.Moves.{Moves}

-- the location behind instructions
abbrev pub location_behind : ℕ → List Instruction → ℕ
location_behind location is = fold (λ l i. location_after i l) location is

-- the locations inside the region to which they move, in their order
abbrev pub moves_inside : Region64 → ℕ → List Instruction → List ℕ
moves_inside region location is = filter (is_in region) (locations_from location is)

-- instructions were taken at a location; one above 64 bits counts as the first of those
pub record MovesOver (old new : Moves) (location : ℕ) (is : List Instruction) : Type 0 where
  pub at : new.location ≡ min (location_behind location is) (2 ^ 64)
  pub reached : new.reached.items ≡ old.reached.items ++ moves_inside old.region location is
