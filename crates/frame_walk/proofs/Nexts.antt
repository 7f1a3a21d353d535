-- The frame outward, by the FDE of a frame and its row.
use Rattle.std.proofs.Common.{◌≡◌, List, Option, Some, None, option_map, refl}
use Rattle.table_forms.specs.declared.found.Row.{Row}
use Rattle.table_forms.specs.Fde.{Fde, fde_for}
use Rattle.table_forms.specs.Verdict.{look_up_place}
use Rattle.rv64_isa.specs.State.{State}
use Rattle.frame_read.specs.declared.listed.Fde as shown
use Rattle.frame_walk.specs.declared.frame.Frame.{Frame}
use Rattle.frame_walk.specs.declared.frame.Walk.{Walk}
use Rattle.frame_walk.specs.declared.frame.Walk.TheVariants as walks
use Rattle.frame_walk.specs.Outward.{out_by, out_of, with_row, row_for, next_frame}

abbrev pub by_row : State → Frame → Option (shown.Fde × Row) → Walk
by_row s f None = walks.EndOfStack
by_row s f (Some (fde, row)) = out_by s f fde.return_register fde.signal row

pub next_by_row : (s : State) (fdes : List Fde) (f : Frame) → next_frame s fdes f ≡ by_row s f (row_for fdes f)
unfolding next_frame
next_by_row s fdes f = by (fde_for fdes (look_up_place f.pc f.signal))
  where
    by : (o : Option Fde) → out_of s f o ≡ by_row s f (option_map (with_row f) o)
    by None = refl
    by (Some fde) = refl
