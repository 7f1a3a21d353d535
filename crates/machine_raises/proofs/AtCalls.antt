-- A hart at the ECALL of a runtime call, inside an open call.
use Rattle.std.proofs.Common.{◌≡◌, ◌∙◌, sym, ap, subst, arith, ℕ, ◌+◌, List, []}
use Rattle.rv64_isa.specs.declared.step.Step.TheVariants.{Ecall}
use Rattle.rv64_isa.specs.State.{State}
use Rattle.rv64_isa.specs.Step.{step_of, x}
use Rattle.elf_image.specs.Clean.{CleanImage}
use Rattle.cxa_runtime.specs.Frozen.{frozen}
use Rattle.cxa_runtime.specs.World as abi
use Rattle.cxa_runtime.specs.Raising.{Image}
use Rattle.region_forms.specs.World.{World}
use Rattle.linear_forms.specs.Activation.{Activation, State as LinearState}
use Rattle.machine_forms.specs.Registers.{sp, a7}
use Rattle.machine_pieces.specs.Standing.{Ground}
use Rattle.machine_pieces.proofs.Turning.{turns_then}
use Rattle.machine_stubs.specs.Calls.{asked}
use Rattle.machine_simulation.specs.Plan.{Plan}
use Rattle.machine_simulation.specs.Matches.{RuntimeMatches, MemoryMatches}
use Rattle.machine_simulation.specs.Operations.{Matched}
use Rattle.machine_simulation.proofs.Matching.{Stands, runtime_stays, kept_at}
use Rattle.machine_pieces.specs.Keeping.{saved_of}
use Rattle.machine_exceptions.proofs.Ecalls.{AtEcall}
use Rattle.machine_raises.specs.Stacks.{IsRunning, GoesOnIn, InCall}
use Rattle.machine_raises.proofs.OnStack.{OnStack, call_on_stack}

-- memory that may not be written is as it was
pub running_still : (p : Plan) (i : CleanImage) (s u : State) → u.memory ≡ s.memory → IsRunning p i s → IsRunning p i u
running_still p i s u same h = record { image = h.image; lists = h.lists; base = h.base; tables = h.tables; run = ap frozen same ∙ h.run }

-- the hart, behind it, and what the runtime keeps
pub record AtCall (p : Plan) (i : CleanImage) (number : ℕ) (a : Activation) (fs : List Activation) (v : World) (w : abi.World) (behind : State) : Type 0 where
  pub calls : step_of w.hart ≡ (Ecall, behind)
  pub asks : x behind a7 ≡ number
  pub running : IsRunning p i behind
  pub on : OnStack p a fs v behind
  pub runtime : RuntimeMatches p fs v w

-- so it stands behind the words of an operation of a compiled function
pub call_at : (i : CleanImage) (image : Image) (p : Plan) (n : ℕ) (st : LinearState) (w : abi.World) (back : ℕ) (g : Ground) (here words number : ℕ) (m : State) → Stands p n st w back → IsRunning p i w.hart →
    (ec : AtEcall image g here words number w m) → GoesOnIn p n st.top.place ec.behind.pc → AtCall p i number st.top st.frames st.world ec.at ec.behind
call_at i image p n st w back g here words number m h running ec goes_on =
    let v : World = st.world in
    let incall : InCall p n back st.top st.frames v ec.behind = record {
      runs = h.runs;
      registers = ec.registers;
      goes_on = goes_on;
      memory = subst (λ ps. MemoryMatches p n st.top.frame st.frames v ps (x ec.behind sp) back) (sym ec.memory)
          (subst (λ a. MemoryMatches p n st.top.frame st.frames v w.hart.memory a back) (sym ec.stack) h.memory);
      kept = kept_at p n st (x w.hart sp) w.hart.memory (saved_of w.hart) ec.behind ec.memory ec.stack ec.saved h.kept;
    } in
    record {
      calls = ec.calls;
      asks = ec.asks;
      running = running_still p i w.hart ec.behind ec.memory running;
      on = call_on_stack p n back st.top st.frames v ec.behind running.base incall;
      runtime = runtime_stays p st.frames v w ec.at ec.runtime h.runtime;
    }

-- what the runtime keeps where the call is made
pub when_asked : (p : Plan) (fs : List Activation) (v : World) (s : State) (w : abi.World) → RuntimeMatches p fs v w → RuntimeMatches p fs v (asked s w)
when_asked p fs v s w q = record { input = q.input; replies = q.replies; last_number = q.last_number; terminating = q.terminating; exceptions = q.exceptions; plan = q.plan }

-- the words in front of the call, and what comes of it
pub then_called : (image : Image) (g : Ground) (here words number more most : ℕ) (w : abi.World) (m : State) (P : abi.World → Type 0) → (ec : AtEcall image g here words number w m) → words + 2 ≡ most → Matched image (1 + more) ec.at [] P →
    Matched image (most + more) w [] P
then_called image g here words number more most w m P ec total h = record {
  turns = ec.turns + h.turns;
  few = omega (arith, ec.few, h.few, total);
  some = λ some. omega (arith, ec.some);
  after = h.after;
  runs = turns_then image ec.turns h.turns w ec.at h.after [] [] ec.runs h.runs;
  holds = h.holds;
}
