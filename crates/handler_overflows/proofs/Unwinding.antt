-- A forced unwind comes to a call out of which nothing may come.
use Rattle.std.proofs.Common.{arith, ◌∷◌, [], length}
use Rattle.eh_run.specs.Program.{program_of}
use Rattle.linear_forms.specs.Activation.{State}
use Rattle.machine_forms.specs.LinearCode.{linear_code}
use Rattle.machine_pieces.specs.Laws.{CallsAreTurns, ValuesAreComputed}
use Rattle.machine_stubs.specs.Calls.{CallsAreMade}
use Rattle.machine_stubs.specs.Terminate.{TerminateRuns}
use Rattle.raise_simulation.specs.Resumes.{ForcedAgree}
use Rattle.machine_simulation.specs.Plan.{shape}
use Rattle.machine_simulation.specs.Calls.{open_bytes}
use Rattle.stack_bounds.specs.Overflow.{FunctionsOverflow}
use Rattle.raise_ends.specs.Barriers.{barred_state}
use Rattle.raise_ends.proofs.Comes.{any_wish}
use Rattle.raise_ends.proofs.Barriers.{unwind_sends}
use Rattle.machine_simulation.proofs.Matching.{stands_by}
use Rattle.handler_overflows.proofs.Above.{unwind_leaves, page_free}
use Rattle.handler_overflows.specs.Unwinds.{ForcedUnwindsOverflow}
use Rattle.handler_overflows.proofs.Called.{sends_overflow}

pub forced_unwinds_overflow : CallsAreTurns → CallsAreMade → ValuesAreComputed → TerminateRuns → ForcedAgree → FunctionsOverflow → ForcedUnwindsOverflow
forced_unwinds_overflow turns made values runs agree over i pick j p n m k st next w h running at steps is stand named installed hidden lacks many =
    let u = unwind_sends turns values agree i p n m k st next w h running at steps is stand named installed in
    let free = page_free p n st w h.back at.operation (stands_by p n st w h at.runs) at.there (unwind_leaves p n st w k at) in
    let waiting : State = barred_state u.left.barring u.left.outer st.world in
    record {
      left = u.left;
      overflows = (
        u.begins,
        sends_overflow made runs over (program_of i).image pick j p n m st.top.frame st.frames (waiting.top ∷ u.left.outer) st.world w h.back (open_bytes p u.left.calls) (length (linear_code (shape p n) at.operation)) [] any_wish u.sends tt
            (omega (arith, free, hidden, u.taken)) lacks.looks (omega (arith, lacks.lacks, hidden, u.taken)) many,
      );
    }
