-- Two FDEs on the way, from change to change.
use Rattle.std.specs.Prelude.{◌≤◌, ℕ}
use Rattle.table_forms.specs.Fde.{Fde}
use Rattle.frame_read.specs.RowWalk.{IsWalk}
use Rattle.frame_read.specs.declared.row_walk.RowWalk.{RowWalk}
use Rattle.debug_frames.specs.Decided.{SameFrom}

-- the rows of both are known up to some location, and up to this one they are the same
pub record OnWay (f g : Fde) (v w : RowWalk) (start pc : ℕ) : Type 0 where
  pub first_at : ℕ
  pub first_walk : IsWalk v f first_at
  pub first_before : first_at ≤ pc
  pub second_at : ℕ
  pub second_walk : IsWalk w g second_at
  pub second_before : second_at ≤ pc
  pub same : SameFrom f g start pc
