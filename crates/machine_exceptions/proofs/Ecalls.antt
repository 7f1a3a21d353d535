-- Words in front of a runtime call, and the call's ECALL.
use Rattle.std.proofs.Common.{◌≡◌, ◌≢◌, ◌∙◌, refl, ap, arith, ℕ, ◌+◌, ◌^◌, ◌<◌, ◌≤◌, [], length}
use Rattle.rv64_isa.specs.declared.step.Step.TheVariants.{Ecall}
use Rattle.rv64_isa.specs.State.{State, reg_of, with_reg}
use Rattle.rv64_isa.specs.Step.{step_of, x}
use Rattle.cxa_runtime.specs.World as abi
use Rattle.cxa_runtime.specs.Raising.{Image}
use Rattle.cxa_runtime.specs.Call.{call_effect}
use Rattle.cxa_runtime.specs.Run.{counted}
use Rattle.region_forms.specs.World.{object_address}
use Rattle.machine_forms.specs.Registers.{sp, a0, a7, register}
use Rattle.machine_forms.specs.PlaceCode.{slot_loaded}
use Rattle.machine_forms.specs.RuntimeCall.{runtime_call}
use Rattle.machine_pieces.specs.Standing.{Ground, address, PieceAt, PiecesAt}
use Rattle.machine_pieces.specs.Going.{Goes, Computes}
use Rattle.machine_pieces.specs.Turning.{ForcedTurns, Turns, SameRuntime}
use Rattle.machine_pieces.specs.Laws.{CallsAreTurns}
use Rattle.machine_pieces.proofs.Stepping.{steps_then}
use Rattle.machine_pieces.proofs.Going.{kept_low}
use Rattle.machine_pieces.proofs.Places.{through_address}
use Rattle.machine_pieces.proofs.Values.{code_after}
use Rattle.machine_pieces.proofs.Turning.{as_forced, forced_then, turns_then, executes_turns}
use Rattle.machine_pieces.specs.Keeping.{saved_of}
use Rattle.machine_pieces.proofs.Keeping.{kept_saved, same_saved}
use Rattle.machine_pieces.proofs.Registers.{read_other}
use Rattle.machine_stubs.specs.Calls.{asked, CallsAreMade}
use Rattle.linear_forms.specs.Activation.{State as LinearState}
use Rattle.machine_simulation.specs.Plan.{Plan, shape, slot_kinds, setting}
use Rattle.machine_simulation.proofs.Matching.{Stands, ready_here}
use Rattle.machine_simulation.specs.Objects.{HoldsObject}
use Rattle.machine_simulation.proofs.Lines.{call_saved}

-- Turns lead over so many words and then to the ECALL of a runtime call; the registers are as behind the words, and what the runtime keeps
-- is as before.
pub record AtEcall (image : Image) (g : Ground) (here words number : ℕ) (w : abi.World) (m : State) : Type 0 where
  pub turns : ℕ
  pub few : turns ≤ words + 1
  pub some : 0 < turns
  pub at : abi.World
  pub runs : Turns image turns w at []
  pub behind : State
  pub calls : step_of at.hart ≡ (Ecall, behind)
  pub asks : x behind a7 ≡ number
  pub pc : behind.pc ≡ address g (here + words + 2)
  pub memory : behind.memory ≡ w.hart.memory
  pub registers : length behind.regs ≡ 32
  pub kept : (r : ℕ) → r ≢ a7 → x behind r ≡ x m r
  pub stack : x behind sp ≡ x w.hart sp
  pub saved : saved_of behind ≡ saved_of w.hart
  pub runtime : SameRuntime w at

pub ecall_reached : CallsAreTurns → (image : Image) (g : Ground) (here words k number : ℕ) (w : abi.World) (goes : Goes g here words k w.hart) → number < 2 ^ 11 → PiecesAt w.hart.memory g (here + words) (runtime_call number) →
    AtEcall image g here words number w goes.after
ecall_reached turns image g here words k number w goes small code =
    let m : State = goes.after in
    let call = turns.call g (here + words) number m small (code_after g here words k (here + words) (runtime_call number) w.hart goes code) goes.pc goes.registers in
    let ran = executes_turns image (goes.steps + 1) w w.hart call.called refl (steps_then goes.steps 1 w.hart m call.called goes.runs call.first) in
    record {
      turns = goes.steps + 1;
      few = omega (arith, goes.most);
      some = omega arith;
      at = ran.after;
      runs = ran.turns;
      behind = call.behind;
      calls = ap step_of ran.hart ∙ call.calls;
      asks = call.is;
      pc = call.pc;
      memory = call.memory ∙ goes.memory;
      registers = call.registers;
      kept = call.kept;
      stack = call.kept sp (λ e. absurd (omega (arith, e))) ∙ goes.kept sp (kept_low k sp (omega arith));
      saved = call_saved g (here + words) number m call ∙ same_saved w.hart m (λ r h. goes.kept r (kept_saved k r h));
      runtime = ran.runtime;
    }

-- a value in a0 leaves the registers of kept variables
pub given_in_first : (s t : State) (a : ℕ) → t.regs ≡ with_reg s.regs (register 0) a → saved_of t ≡ saved_of s
given_in_first s t a is = same_saved s t (λ r h. ap (λ regs. reg_of regs r) is ∙ read_other s.regs (register 0) r a (kept_saved 0 r h 0 (omega arith) (omega arith)))

-- a slot's address of an exception's object comes into a0
pub object_loaded : (p : Plan) (n : ℕ) (st : LinearState) (w : abi.World) (back here s e : ℕ) → Stands p n st w back → HoldsObject p n st.top.frame s e → PieceAt w.hart.memory (setting p n).ground here (slot_loaded (shape p n) a0 s) →
    w.hart.pc ≡ address (setting p n).ground here → Computes (setting p n).ground here 1 0 w.hart ((setting p n).at (object_address e).base + 0)
object_loaded p n st w back here s e h holds code at =
    through_address (setting p n) (shape p n) (slot_kinds p n) st.top.frame st.world 0 here s w.hart (object_address e) (ready_here p n st w back h) (omega arith) holds.inside holds.near code at holds.is

-- the runtime call goes on to one world
pub call_made : CallsAreMade → (image : Image) (g : Ground) (here words number : ℕ) (w : abi.World) (m : State) (ec : AtEcall image g here words number w m) (next : abi.World) →
    ((wish : ℕ) → call_effect number image wish (asked ec.behind ec.at) ≡ abi.goes next) → next.unwinding ≡ ec.at.unwinding → Turns image (ec.turns + 1) w (counted next) next.shown
call_made made image g here words number w m ec next effect kept =
    turns_then image ec.turns 1 w ec.at (counted next) [] next.shown ec.runs (made.goes_on image number ec.at next ec.behind ec.calls ec.asks effect kept)

pub call_unwinds : CallsAreMade → (image : Image) (g : Ground) (here words number : ℕ) (w : abi.World) (m : State) (ec : AtEcall image g here words number w m) (next : abi.World) →
    ((wish : ℕ) → call_effect number image wish (asked ec.behind ec.at) ≡ abi.goes next) → ForcedTurns image (ec.turns + 1) w (counted next) next.shown
call_unwinds made image g here words number w m ec next effect =
    forced_then image ec.turns 1 w ec.at (counted next) [] next.shown (as_forced image ec.turns w ec.at [] ec.runs) (made.unwinds image number ec.at next ec.behind ec.calls ec.asks effect)
