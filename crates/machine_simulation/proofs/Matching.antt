-- Steps of the hart that lead from a matching world to a matching one.
use Rattle.std.proofs.Common.{◌≡◌, ◌∙◌, refl, sym, ap, subst, arith, ℕ, zero, suc, ◌+◌, ◌<◌, ◌≤◌, List, [], length}
use Rattle.rv64_isa.specs.State.{State, Part}
use Rattle.rv64_isa.specs.Step.{x}
use Rattle.cxa_runtime.specs.World as abi
use Rattle.cxa_runtime.specs.Raising.{Image}
use Rattle.region_forms.specs.World.{World}
use Rattle.linear_forms.specs.Stub.{compiled}
use Rattle.linear_forms.specs.Activation.{Activation, State as LinearState}
use Rattle.machine_forms.specs.Registers.{sp}
use Rattle.machine_forms.specs.Routine.{op_word}
use Rattle.machine_pieces.specs.Executes.{steps as after_steps, Executes}
use Rattle.machine_pieces.specs.Standing.{Ground, address}
use Rattle.machine_pieces.specs.Frames.{Ready}
use Rattle.machine_pieces.specs.Going.{IsKept}
use Rattle.machine_pieces.specs.Keeping.{saved_of}
use Rattle.machine_pieces.specs.Turning.{SameRuntime}
use Rattle.machine_pieces.proofs.Keeping.{kept_saved, same_saved}
use Rattle.machine_pieces.proofs.Turning.{executes_turns}
use Rattle.machine_simulation.specs.Plan.{Plan, shape, slot_kinds, routine, first_word, setting}
use Rattle.machine_simulation.specs.Exceptions.{addresses_of, exceptions_in, kept_by, destroyed, ExceptionsMatch}
use Rattle.machine_simulation.specs.Matches.{RuntimeMatches, MemoryMatches, Matches}
use Rattle.machine_simulation.specs.KeptCalls.{RegistersMatch}
use Rattle.machine_simulation.specs.Operations.{Matched}
use Rattle.machine_simulation.proofs.KeptSlots.{ready_of}

-- ---- what matches, for a function by its number

pub record Stands (p : Plan) (n : ℕ) (st : LinearState) (w : abi.World) (back : ℕ) : Type 0 where
  pub runs : st.top.function ≡ compiled n
  pub registers : length w.hart.regs ≡ 32
  pub pc : w.hart.pc ≡ address (setting p n).ground (first_word p n + op_word (routine p n) st.top.place)
  pub memory : MemoryMatches p n st.top.frame st.frames st.world w.hart.memory (x w.hart sp) back
  pub kept : RegistersMatch p n st.top.frame st.frames st.world w.hart.memory (x w.hart sp) (saved_of w.hart)
  pub runtime : RuntimeMatches p st.frames st.world w

pub stands_by : (p : Plan) (n : ℕ) (st : LinearState) (w : abi.World) (h : Matches p st w) → st.top.function ≡ compiled n → Stands p n st w h.back
stands_by p n st w h runs =
    let both : compiled h.number ≡ compiled n = sym h.runs ∙ runs in
    let same : h.number ≡ n = cc both in
    subst (λ k. Stands p k st w h.back) same (record { runs = h.runs; registers = h.registers; pc = h.pc; memory = h.memory; kept = h.kept; runtime = h.runtime })

pub ready_here : (p : Plan) (n : ℕ) (st : LinearState) (w : abi.World) (back : ℕ) → Stands p n st w back → Ready (setting p n) (shape p n) (slot_kinds p n) st.top.frame st.world w.hart
ready_here p n st w back h = ready_of p n st.top.frame st.world w.hart h.registers h.memory.top.holds h.kept.top.keeps

-- ---- a step is made where there is a word

none_done : (s t : State) → Executes 0 s t → s ≡ t
unfolding after_steps
none_done s t h = cc h

-- steps that lead to another word are some
pub some_steps : (g : Ground) (here words n : ℕ) (s t : State) → s.pc ≡ address g here → t.pc ≡ address g (here + words) → Executes n s t → 0 < words → 0 < n
some_steps g here words zero s t from to runs some =
    let same : s ≡ t = none_done s t runs in
    let pcs : s.pc ≡ t.pc = ap (λ (u : State). u.pc) same in
    absurd (omega (arith, from, to, pcs, some))
some_steps g here words (suc n) s t from to runs some = omega arith

-- ---- turns

-- the runtime keeps the same of exceptions
kept_same : (w u : abi.World) → SameRuntime w u → kept_by w ≡ kept_by u
kept_same w u same =
    ap (λ e. record { exceptions = e; terminate_handler = w.terminate_handler; unexpected_handler = w.unexpected_handler }) (sym same.exceptions)
    ∙ ap (λ h. record { exceptions = u.exceptions; terminate_handler = h; unexpected_handler = w.unexpected_handler }) (sym same.terminate_handler)
    ∙ ap (λ h. record { exceptions = u.exceptions; terminate_handler = u.terminate_handler; unexpected_handler = h }) (sym same.unexpected_handler)

pub runtime_stays : (p : Plan) (fs : List Activation) (v : World) (w u : abi.World) → SameRuntime w u → RuntimeMatches p fs v w → RuntimeMatches p fs v u
runtime_stays p fs v w u same h = record {
  input = same.input ∙ h.input;
  replies = same.replies ∙ h.replies;
  last_number = same.last_number ∙ h.last_number;
  terminating = same.terminating ∙ h.terminating;
  exceptions = subst (ExceptionsMatch (addresses_of p) (destroyed fs) (exceptions_in v)) (kept_same w u same) h.exceptions;
  plan = h.plan;
}

-- the state of a hart where the next state of the machine for linear code stands
pub record Arrives (p : Plan) (n : ℕ) (next : LinearState) (back : ℕ) (t : State) : Type 0 where
  pub runs : next.top.function ≡ compiled n
  pub registers : length t.regs ≡ 32
  pub pc : t.pc ≡ address (setting p n).ground (first_word p n + op_word (routine p n) next.top.place)
  pub memory : MemoryMatches p n next.top.frame next.frames next.world t.memory (x t sp) back
  pub kept : RegistersMatch p n next.top.frame next.frames next.world t.memory (x t sp) (saved_of t)

pub matched : (image : Image) (p : Plan) (n : ℕ) (next : LinearState) (w : abi.World) (back words k : ℕ) (t : State) → k ≤ words → (0 < words → 0 < k) → Executes k w.hart t → Arrives p n next back t →
    RuntimeMatches p next.frames next.world w → Matched image words w [] (λ v. Matches p next v)
matched image p n next w back words k t few some runs there runtime =
    let ran = executes_turns image k w w.hart t refl runs in
    let at : Arrives p n next back ran.after.hart = subst (Arrives p n next back) (sym ran.hart) there in
    record {
      turns = k;
      few = few;
      some = some;
      after = ran.after;
      runs = ran.turns;
      holds = record {
        number = n;
        back = back;
        runs = at.runs;
        registers = at.registers;
        pc = at.pc;
        memory = at.memory;
        kept = at.kept;
        runtime = runtime_stays p next.frames next.world w ran.after ran.runtime runtime;
      };
    }

-- memory and sp as they are
pub memory_at : (p : Plan) (n : ℕ) (next : LinearState) (back stack : ℕ) (memory : List Part) (t : State) → t.memory ≡ memory → x t sp ≡ stack →
    MemoryMatches p n next.top.frame next.frames next.world memory stack back → MemoryMatches p n next.top.frame next.frames next.world t.memory (x t sp) back
memory_at p n next back stack memory t same at h =
    subst (λ ps. MemoryMatches p n next.top.frame next.frames next.world ps (x t sp) back) (sym same)
    (subst (λ a. MemoryMatches p n next.top.frame next.frames next.world memory a back) (sym at) h)

-- and the registers of kept variables
pub kept_at : (p : Plan) (n : ℕ) (next : LinearState) (stack : ℕ) (memory : List Part) (regs : List ℕ) (t : State) → t.memory ≡ memory → x t sp ≡ stack → saved_of t ≡ regs →
    RegistersMatch p n next.top.frame next.frames next.world memory stack regs → RegistersMatch p n next.top.frame next.frames next.world t.memory (x t sp) (saved_of t)
kept_at p n next stack memory regs t same at saved h =
    subst (λ ps. RegistersMatch p n next.top.frame next.frames next.world ps (x t sp) (saved_of t)) (sym same)
    (subst (λ a. RegistersMatch p n next.top.frame next.frames next.world memory a (saved_of t)) (sym at)
    (subst (λ rs. RegistersMatch p n next.top.frame next.frames next.world memory stack rs) (sym saved) h))

-- values leave them
pub values_saved : (s t : State) → ((r : ℕ) → IsKept 0 r → x t r ≡ x s r) → saved_of t ≡ saved_of s
values_saved s t kept = same_saved s t (λ r h. kept r (kept_saved 0 r h))
