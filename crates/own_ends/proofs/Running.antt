-- The hart comes to the runtime call by which one of the runtime's own functions goes on.
use Rattle.std.proofs.Common.{◌≡◌, ◌∙◌, sym, ap, subst, ℕ, ◌+◌, ◌≤◌, List, [], ◌∷◌}
use Rattle.run_items.specs.declared.item.Item.{Item}
use Rattle.rv64_isa.specs.declared.step.Step.{Step}
use Rattle.rv64_isa.specs.declared.step.Step.TheVariants.{Ecall}
use Rattle.rv64_isa.specs.State as hart
use Rattle.rv64_isa.specs.State.{Part}
use Rattle.rv64_isa.specs.Step.{step_of, x}
use Rattle.elf_image.specs.Clean.{CleanImage}
use Rattle.caught_stack.specs.Exceptions.{Exceptions}
use Rattle.cxa_runtime.specs.Frozen.{frozen}
use Rattle.cxa_runtime.specs.World as abi
use Rattle.cxa_runtime.specs.World.{a0}
use Rattle.cxa_runtime.proofs.Frozen.{step_keeps_frozen}
use Rattle.eh_run.specs.Program.{program_of}
use Rattle.linear_forms.specs.Stub.{Function, call_unexpected}
use Rattle.linear_forms.specs.Activation.{State}
use Rattle.machine_forms.specs.Registers.{sp}
use Rattle.machine_forms.specs.RuntimeCall.{resume_call}
use Rattle.machine_pieces.specs.Frames.{AddressAt}
use Rattle.machine_pieces.specs.Turning.{Turns}
use Rattle.machine_stubs.specs.CallUnexpected.{thrown_slot, UnexpectedEnds}
use Rattle.machine_simulation.specs.Plan.{Plan}
use Rattle.machine_simulation.specs.Matches.{RuntimeMatches}
use Rattle.machine_simulation.specs.Exceptions.{addresses_of, exceptions_in, kept_by, destroyed, ExceptionsMatch}
use Rattle.machine_simulation.proofs.Matching.{runtime_stays}
use Rattle.machine_raises.specs.Stacks.{IsRunning}
use Rattle.runtime_invariant.specs.Memory.{RunsKeepMemory}
use Rattle.stub_landings.specs.Rests.{StubMemory, LeavesOn}
use Rattle.stub_landings.specs.OwnCalls.{GoesOnInOwn, AtOwnCall}
use Rattle.stub_landings.proofs.Own.{unexpected_resumes}
use Rattle.own_ends.proofs.Registers.{registers_at}
use Rattle.own_ends.proofs.Calling.{unexpected_stands}
use Rattle.machine_pieces.specs.Keeping.{saved_of}

-- no turn changes what may not be written, nor does the ECALL
pub running_on : RunsKeepMemory → (p : Plan) (i : CleanImage) (n : ℕ) (w v : abi.World) (items : List Item) (behind : hart.State) → Turns (program_of i).image n w v items → step_of v.hart ≡ (Ecall, behind) → IsRunning p i w.hart → IsRunning p i behind
running_on keeps p i n w v items behind turns calls h = record {
  image = h.image;
  lists = h.lists;
  base = h.base;
  tables = h.tables;
  run = ap (λ (s : Step × hart.State). frozen s.1.memory) (sym calls) ∙ step_keeps_frozen v.hart ∙ keeps.turns (program_of i).image n w v items turns ∙ h.run;
}

-- at the ECALL, with a number in a0
pub record ComesToResume (i : CleanImage) (q : Plan) (f : Function) (st : State) (w : abi.World) (value most : ℕ) (items : List Item) (e : Exceptions) : Type 0 where
  pub turns : ℕ
  pub few : turns ≤ most
  pub at : abi.World
  pub runs : Turns (program_of i).image turns w at items
  pub behind : hart.State
  pub call : AtOwnCall q i resume_call f st at behind
  pub given : x behind a0 ≡ value
  pub stack : x behind sp ≡ x w.hart sp
  pub exceptions : at.exceptions ≡ e

-- no destructor waits for call_unexpected
pub runtime_without : (p : Plan) (st : State) (w : abi.World) → st.top.function ≡ call_unexpected → RuntimeMatches p (st.top ∷ st.frames) st.world w → RuntimeMatches p st.frames st.world w
runtime_without p st w is h = record {
  input = h.input;
  replies = h.replies;
  last_number = h.last_number;
  terminating = h.terminating;
  exceptions = subst (λ ds. ExceptionsMatch (addresses_of p) ds (exceptions_in st.world) (kept_by w)) (ap (λ f. destroyed (record { function = f; place = st.top.place; frame = st.top.frame } ∷ st.frames)) is) h.exceptions;
  plan = h.plan;
}

-- call_unexpected comes to it
pub unexpected_comes : UnexpectedEnds → RunsKeepMemory → (i : CleanImage) (p : Plan) (value : ℕ) (st : State) (w : abi.World) → LeavesOn p 57 17 st w → IsRunning p i w.hart → AddressAt w.hart.memory (x w.hart sp + thrown_slot) value →
    ComesToResume i p call_unexpected st w value 2 [] w.exceptions
unexpected_comes ends keeps i p value st w h running there =
    let r = h.rests in
    let s : hart.State = w.hart in
    let low : ℕ = x s sp in
    let came = ends.resumes (program_of i).image p.unit p.base value w (unexpected_stands p 57 st w r) there in
    let v : abi.World = came.after in
    let a = came.holds in
    let memory : StubMemory p call_unexpected st.frames st.world a.behind.memory (x a.behind sp) r.back
    = subst (λ b. StubMemory p call_unexpected st.frames st.world a.behind.memory b r.back) (sym a.pointer) (subst (λ ps. StubMemory p call_unexpected st.frames st.world ps low r.back) (sym a.holds.0) r.memory) in
    record {
      turns = came.turns;
      few = came.few;
      at = v;
      runs = came.runs;
      behind = a.behind;
      call = record {
        calls = a.calls;
        asks = a.asks;
        running = running_on keeps p i came.turns w v [] a.behind came.runs a.calls running;
        back = r.back;
        inside = record {
          own = tt;
          runs = r.runs;
          registers = a.stands.registers;
          goes_on = subst (λ n. GoesOnInOwn p call_unexpected n a.behind.pc) (sym h.there) (unexpected_resumes p a.behind.pc a.stands.pc);
          memory = memory;
          kept = registers_at p call_unexpected st.frames st.world s.memory low (saved_of s) a.behind a.holds.0 a.pointer a.variables r.kept;
        };
        runtime = runtime_stays p st.frames st.world w v a.kept.runtime (runtime_without p st w r.runs r.runtime);
      };
      given = a.holds.1;
      stack = a.pointer;
      exceptions = a.kept.runtime.exceptions;
    }
