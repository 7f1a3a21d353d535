-- Behind its prologue a function saves registers, and stands at its first operation.
use Rattle.std.proofs.Common.{refl, sym, subst, ℕ, List, []}
use Rattle.cxa_runtime.specs.World as abi
use Rattle.cxa_runtime.specs.Raising.{Image}
use Rattle.region_forms.specs.World.{Frame, World}
use Rattle.linear_forms.specs.Stub.{compiled}
use Rattle.linear_forms.specs.Activation.{Activation, State as LinearState}
use Rattle.machine_pieces.specs.Turning.{Turns, SameRuntime}
use Rattle.machine_pieces.proofs.Turning.{executes_turns}
use Rattle.machine_simulation.specs.Plan.{Plan}
use Rattle.machine_simulation.specs.Matches.{RuntimeMatches, Matches}
use Rattle.machine_simulation.proofs.KeptEntered.{BegunCall}
use Rattle.machine_simulation.proofs.Matching.{runtime_stays, Arrives}

-- the state in which a call of a function begins
abbrev pub beginning : (function : ℕ) → Frame → List Activation → World → LinearState
beginning m frame fs u = record { top = record { function = compiled m; place = 0; frame = frame }; frames = fs; world = u }

-- where the saves have run
pub record SavesRun (image : Image) (q : Plan) (m : ℕ) (frame : Frame) (fs : List Activation) (u : World) (words : ℕ) (w : abi.World) : Type 0 where
  pub after : abi.World
  pub runs : Turns image words w after []
  pub holds : Matches q (beginning m frame fs u) after
  pub runtime : SameRuntime w after

pub saves_run : (image : Image) (q : Plan) (m : ℕ) (frame : Frame) (fs : List Activation) (u : World) (back words : ℕ) (w : abi.World) → BegunCall q m frame fs u back words w.hart → RuntimeMatches q fs u w → SavesRun image q m frame fs u words w
saves_run image q m frame fs u back words w b runtime =
    let ran = executes_turns image words w w.hart b.after refl b.runs in
    let at : Arrives q m (beginning m frame fs u) back ran.after.hart
    = subst (Arrives q m (beginning m frame fs u) back) (sym ran.hart) (record { runs = refl; registers = b.registers; pc = b.pc; memory = b.memory; kept = b.kept }) in
    record {
      after = ran.after;
      runs = ran.turns;
      holds = record {
        number = m;
        back = back;
        runs = refl;
        registers = at.registers;
        pc = at.pc;
        memory = at.memory;
        kept = at.kept;
        runtime = runtime_stays q fs u w ran.after ran.runtime runtime;
      };
      runtime = ran.runtime;
    }
