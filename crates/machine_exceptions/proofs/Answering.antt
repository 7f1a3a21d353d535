-- A runtime call that comes back, and its value where it is wanted.
use Rattle.std.proofs.Common.{◌≡◌, ◌∙◌, refl, sym, ap, subst, arith, ℕ, ◌+◌, ◌^◌, ◌<◌, ◌≤◌, ℤ, List, [], ◌++◌, length, length-append, Option, Some, None, inl, inr}
use Rattle.std.specs.Prelude.{◌⊎◌, slice_get}
use Rattle.rv64_isa.specs.State.{State}
use Rattle.rv64_isa.specs.Step.{x}
use Rattle.cxa_runtime.specs.World as abi
use Rattle.cxa_runtime.specs.Raising.{Image}
use Rattle.region_forms.specs.Form.{Place}
use Rattle.region_forms.specs.World.{World}
use Rattle.region_forms.specs.Effect.{goes as goes_effect, finished}
use Rattle.linear_forms.specs.Linear.{LinearOp}
use Rattle.linear_forms.specs.Activation.{Activation, State as LinearState}
use Rattle.machine_forms.specs.Registers.{sp, register}
use Rattle.machine_forms.specs.Piece.{Piece}
use Rattle.machine_forms.specs.RuntimeCall.{runtime_call}
use Rattle.machine_forms.specs.LinearCode.{linear_code}
use Rattle.machine_forms.specs.Routine.{op_word}
use Rattle.machine_pieces.specs.Numbers.{IsInt, extended}
use Rattle.machine_pieces.specs.Standing.{Ground, address, PiecesAt}
use Rattle.machine_pieces.specs.Going.{Goes}
use Rattle.machine_pieces.specs.Turning.{Turns}
use Rattle.machine_pieces.specs.Laws.{PlacesAreWritten, CallsAreTurns}
use Rattle.machine_pieces.proofs.Fetching.{pieces_split}
use Rattle.machine_pieces.proofs.Stepping.{no_steps}
use Rattle.machine_pieces.proofs.Turning.{turns_then, executes_turns}
use Rattle.machine_pieces.specs.Keeping.{saved_of}
use Rattle.machine_simulation.specs.Plan.{Plan, function, shape, slot_kinds, routine, first_word, setting}
use Rattle.machine_simulation.specs.Calls.{stored_in}
use Rattle.machine_simulation.specs.Matches.{RuntimeMatches, MemoryMatches, Matches}
use Rattle.machine_simulation.specs.Returns.{WantedStands}
use Rattle.machine_simulation.specs.Operations.{Matched}
use Rattle.machine_simulation.proofs.Words.{OperationAt, operation_at}
use Rattle.machine_simulation.proofs.Matching.{Stands, Arrives, runtime_stays, kept_at}
use Rattle.machine_simulation.proofs.Quiet.{moved}
use Rattle.machine_simulation.proofs.Lines.{matches_alike, registers_alike}
use Rattle.machine_simulation.proofs.Reading.{FinishedStep}
use Rattle.machine_simulation.proofs.Returning.{Received, receives, runtime_finished}
use Rattle.machine_simulation.specs.KeptCalls.{RegistersMatch}
use Rattle.machine_exceptions.proofs.Ecalls.{AtEcall, ecall_reached}

-- a world with the same memory and calls
pub record SameMemory (v u : World) : Type 0 where
  pub memory : u.memory ≡ v.memory
  pub calls : u.calls ≡ v.calls
  pub later : v.last_number ≤ u.last_number

-- One turn makes the call: behind it stands what stood behind the ECALL, with the value in a0 where one is wanted, and the runtime keeps what
-- the machine for linear code has in a world.
pub record Answer (image : Image) (p : Plan) (fs : List Activation) (wants : Option Place) (at : abi.World) (behind : State) (v : World) (z : ℤ) : Type 0 where
  pub after : abi.World
  pub turn : Turns image 1 at after []
  pub pc : after.hart.pc ≡ behind.pc
  pub memory : after.hart.memory ≡ behind.memory
  pub registers : length after.hart.regs ≡ 32
  pub stack : x after.hart sp ≡ x behind sp
  pub saved : saved_of after.hart ≡ saved_of behind
  pub value : (wants ≡ None) ⊎ (IsInt z × (x after.hart (register 0) ≡ extended z))
  pub runtime : RuntimeMatches p fs v after

pub answered : PlacesAreWritten → CallsAreTurns → (image : Image) (p : Plan) (n number : ℕ) (st next : LinearState) (w : abi.World) (back : ℕ) (o : LinearOp) (wants : Option Place) (front : List Piece) (u : World) (z : ℤ) → Stands p n st w back →
    slice_get (function p n).ops st.top.place ≡ Some o → linear_code (shape p n) o ≡ front ++ (runtime_call number ++ stored_in (shape p n) wants) → number < 2 ^ 11 →
    (goes : Goes (setting p n).ground (first_word p n + op_word (routine p n) st.top.place) (length front) 0 w.hart) → SameMemory st.world u → WantedStands p n st.top.frame wants → FinishedStep (slot_kinds p n) wants z u st next →
    ((ec : AtEcall image (setting p n).ground (first_word p n + op_word (routine p n) st.top.place) (length front) number w goes.after) → Answer image p st.frames wants ec.at ec.behind u z) →
    Matched image (length (linear_code (shape p n) o)) w [] (λ v. Matches p next v)
answered places turns image p n number st next w back o wants front u z h there pieces small goes same stands went answer =
    let g : Ground = (setting p n).ground in
    let here : ℕ = first_word p n + op_word (routine p n) st.top.place in
    let s : State = w.hart in
    let rear : List Piece = stored_in (shape p n) wants in
    let own : OperationAt p s.memory n st.top.place (front ++ (runtime_call number ++ rear)) = subst (OperationAt p s.memory n st.top.place) pieces (operation_at p s.memory n st.top.place o h.memory.unit h.memory.top.known there) in
    let sum : length (front ++ (runtime_call number ++ rear)) ≡ length front + (2 + length rear) = length-append front (runtime_call number ++ rear) ∙ omega arith in
    let total : length (linear_code (shape p n) o) ≡ length front + (2 + length rear) = ap length pieces ∙ sum in
    let parts = pieces_split s.memory g here front (runtime_call number ++ rear) own.code in
    let calls = pieces_split s.memory g (here + length front) (runtime_call number) rear parts.1 in
    let ec = ecall_reached turns image g here (length front) 0 number w goes small calls.0 in
    let a = answer ec in
    let t : State = a.after.hart in
    let memory : t.memory ≡ s.memory = a.memory ∙ ec.memory in
    let stack : x t sp ≡ x s sp = a.stack ∙ ec.stack in
    let held = matches_alike p n st.top.frame st.frames st.world u s.memory (x s sp) back same.memory same.calls same.later h.memory in
    let held_t : MemoryMatches p n st.top.frame st.frames u t.memory (x t sp) back
    = subst (λ ps. MemoryMatches p n st.top.frame st.frames u ps (x t sp) back) (sym memory) (subst (λ k. MemoryMatches p n st.top.frame st.frames u s.memory k back) (sym stack) held) in
    let at_u : LinearState = record { top = st.top; frames = st.frames; world = u } in
    let kept_t : RegistersMatch p n st.top.frame st.frames u t.memory (x t sp) (saved_of t)
    = kept_at p n at_u (x s sp) s.memory (saved_of s) t memory stack (a.saved ∙ ec.saved) (registers_alike p n st.top.frame st.frames st.world u s.memory (x s sp) back (saved_of s) same.memory h.memory h.kept) in
    let code_t : PiecesAt t.memory g (here + length front + 2) rear = subst (λ ps. PiecesAt ps g (here + length front + 2) rear) (sym memory) calls.1 in
    let got = received a.value held_t kept_t a.registers (a.pc ∙ ec.pc) code_t in
    let last = executes_turns image got.steps a.after t got.after refl got.runs in
    let to : LinearState = moved st (st.top.place + 1) went.frame went.world in
    let there_t : Arrives p n to back last.after.hart = subst (Arrives p n to back) (sym last.hart) (record { runs = h.runs; registers = got.registers; pc = got.pc ∙ omega (arith, own.next, sum); memory = got.memory; kept = got.kept }) in
    subst (λ (y : LinearState). Matched image (length (linear_code (shape p n) o)) w [] (λ v. Matches p y v)) went.next_is (record {
      turns = ec.turns + 1 + got.steps;
      few = omega (arith, ec.few, got.most, total);
      some = λ words. omega arith;
      after = last.after;
      runs = turns_then image (ec.turns + 1) got.steps w a.after last.after [] [] (turns_then image ec.turns 1 w ec.at a.after [] [] ec.runs a.turn) last.turns;
      holds = record {
        number = n;
        back = back;
        runs = there_t.runs;
        registers = there_t.registers;
        pc = there_t.pc;
        memory = there_t.memory;
        kept = there_t.kept;
        runtime = runtime_finished p st.frames (slot_kinds p n) wants z st.top.frame went.frame u went.world last.after went.stored (runtime_stays p st.frames u a.after last.after last.runtime a.runtime);
      };
    })
  where
    received : {t : State} {here : ℕ} → (wants ≡ None) ⊎ (IsInt z × (x t (register 0) ≡ extended z)) → MemoryMatches p n st.top.frame st.frames u t.memory (x t sp) back →
        RegistersMatch p n st.top.frame st.frames u t.memory (x t sp) (saved_of t) → length t.regs ≡ 32 → t.pc ≡ address (setting p n).ground here →
        PiecesAt t.memory (setting p n).ground here (stored_in (shape p n) wants) → Received p n here (length (stored_in (shape p n) wants)) went.frame st.frames went.world back t
    received {t} {here} (inr ok) m kept regs at code = receives places p n here st.top.frame went.frame st.frames u went.world back wants z t m kept regs at code ok.0 ok.1 stands went.stored
    received {t} {here} (inl none) m kept regs at code = dropped wants none went.stored
      where
        dropped : (q : Option Place) → q ≡ None → finished (slot_kinds p n) q z st.top.frame u ≡ goes_effect went.frame went.world → Received p n here (length (stored_in (shape p n) q)) went.frame st.frames went.world back t
        dropped (Some q) is e = absurd (cc is)
        dropped None is e =
            let same_frame : st.top.frame ≡ went.frame = cc e in
            let same_world : u ≡ went.world = cc e in
            record {
              steps = 0;
              most = omega arith;
              after = t;
              runs = no_steps t;
              registers = regs;
              pc = at ∙ omega arith;
              memory = subst (λ f. MemoryMatches p n f st.frames went.world t.memory (x t sp) back) same_frame (subst (λ v. MemoryMatches p n st.top.frame st.frames v t.memory (x t sp) back) same_world m);
              kept = subst (λ f. RegistersMatch p n f st.frames went.world t.memory (x t sp) (saved_of t)) same_frame (subst (λ v. RegistersMatch p n st.top.frame st.frames v t.memory (x t sp) (saved_of t)) same_world kept);
            }
