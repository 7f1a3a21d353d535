-- What TerminatesRun states.
use Rattle.std.proofs.Common.{[]}
use Rattle.machine_pieces.specs.Laws.{CallsAreTurns}
use Rattle.machine_stubs.specs.Terminates.{CallsTerminate}
use Rattle.machine_stubs.specs.Terminate.{TerminateRuns}
use Rattle.machine_simulation.specs.Plan.{slot_kinds}
use Rattle.machine_simulation.proofs.Given.{same_beside}
use Rattle.machine_exceptions.specs.Terminates.{ending_world, TerminatesRun}
use Rattle.machine_exceptions.proofs.Terminates.{handler_begins, begins_in_two}
use Rattle.machine_exceptions.proofs.Aborts.{aborts, aborts_behind}

pub terminates_run : CallsAreTurns → CallsTerminate → TerminateRuns → TerminatesRun
terminates_run turns calls runs = record {
  calls_the_handler = λ image p n m st w h at quiet installed hidden fits. (
    begins_in_two image p n m st at quiet installed,
    (same_beside (slot_kinds p m) st.world.calls 0 [] (ending_world st.world)).items,
    handler_begins turns calls image p n m st w h at quiet installed hidden fits,
  );
  aborts = aborts turns calls;
  aborts_behind = aborts_behind runs;
}
