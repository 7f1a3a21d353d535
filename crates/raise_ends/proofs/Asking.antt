-- An operation makes a runtime call.
use Rattle.std.proofs.Common.{◌≡◌, ◌∙◌, sym, ap, subst, arith, ℕ, ◌+◌, ◌-◌, ◌%◌, ◌≤◌, false, List, [], ◌∷◌, length, Some, inl, inr}
use Rattle.std.specs.Prelude.{◌⊎◌, slice_get}
use Rattle.eh_bytes.specs.declared.unit.RuntimeRecord.{RuntimeRecord}
use Rattle.run_items.specs.declared.item.Item.{Item}
use Rattle.rv64_isa.specs.declared.step.Step.TheVariants.{Ecall}
use Rattle.rv64_isa.specs.State.{State}
use Rattle.rv64_isa.specs.Step.{step_of, x}
use Rattle.raise_core.specs.declared.raised.Raised.{Raised}
use Rattle.raise_core.specs.declared.raised.Raised.TheVariants as answers
use Rattle.caught_stack.specs.Exceptions.{Exceptions}
use Rattle.cxa_runtime.specs.declared.object.Object.{Object}
use Rattle.cxa_runtime.specs.World as abi
use Rattle.cxa_runtime.specs.Raising.{Image, raised_as, unhandled}
use Rattle.region_forms.specs.World.{World}
use Rattle.linear_forms.specs.Linear.{LinearOp}
use Rattle.linear_forms.specs.Stub.{terminating}
use Rattle.linear_forms.specs.Activation.{Activation, State as LinearState}
use Rattle.machine_forms.specs.Registers.{sp, a7}
use Rattle.machine_forms.specs.Leaf.{linear_stays}
use Rattle.machine_pieces.specs.Standing.{Ground}
use Rattle.machine_pieces.specs.Turning.{Turns, SameRuntime}
use Rattle.machine_pieces.specs.Keeping.{saved_of, AreSmall}
use Rattle.machine_stubs.specs.Calls.{asked}
use Rattle.machine_stubs.specs.Stretches.{Room, StubAt, stub_word}
use Rattle.machine_stubs.specs.Terminates.{MayTerminate}
use Rattle.machine_simulation.specs.Plan.{Plan, function}
use Rattle.machine_simulation.specs.Calls.{open_bytes, frames_bytes, stack_end}
use Rattle.machine_simulation.specs.Matches.{RuntimeMatches, MemoryMatches}
use Rattle.machine_simulation.specs.KeptCalls.{RegistersMatch}
use Rattle.machine_simulation.proofs.Matching.{Stands, runtime_stays, kept_at}
use Rattle.machine_simulation.proofs.Lines.{matches_alike}
use Rattle.machine_simulation.proofs.Calling.{stack_at}
use Rattle.machine_simulation.proofs.Floors.{caller_above}
use Rattle.machine_exceptions.proofs.Ecalls.{AtEcall}
use Rattle.machine_exceptions.proofs.Terminates.{call_may}
use Rattle.raise_ends.proofs.Comes.{Comes}

-- Its ECALL is reached, and behind it memory is as before.
pub record AtCall (image : Image) (p : Plan) (n : ℕ) (st : LinearState) (w : abi.World) (back number most : ℕ) : Type 0 where
  pub turns : ℕ
  pub few : turns ≤ most
  pub at : abi.World
  pub runs : Turns image turns w at []
  pub behind : State
  pub calls : step_of at.hart ≡ (Ecall, behind)
  pub asks : x behind a7 ≡ number
  pub registers : length behind.regs ≡ 32
  pub memory_is : behind.memory ≡ w.hart.memory
  pub stack : x behind sp ≡ x w.hart sp
  pub high : 0x7000_1000 ≤ x w.hart sp
  pub kept : SameRuntime w at
  pub memory : MemoryMatches p n st.top.frame st.frames st.world behind.memory (x behind sp) back
  pub variables : RegistersMatch p n st.top.frame st.frames st.world behind.memory (x behind sp) (saved_of behind)
  pub runtime : RuntimeMatches p st.frames st.world (asked behind at)
  pub end : x behind sp + open_bytes p (st.top ∷ st.frames) ≡ stack_end

-- an operation that makes a runtime call is none that is done inside its function, so its frame lies above the lowest 4 KiB
pub high_at : (p : Plan) (n : ℕ) (st : LinearState) (w : abi.World) (back : ℕ) (o : LinearOp) → Stands p n st w back → slice_get (function p n).ops st.top.place ≡ Some o → linear_stays o ≡ false → 0x7000_1000 ≤ x w.hart sp
high_at p n st w back o h there calls = caller_above p n st.top.place st.top.frame st.world w.hart.memory (x w.hart sp) back o there calls h.memory.top

abbrev pub at_call : (image : Image) (p : Plan) (n : ℕ) (st : LinearState) (w : abi.World) (back : ℕ) (g : Ground) (here words number most : ℕ) (m : State) → Stands p n st w back → AtEcall image g here words number w m → words + 1 ≤ most → 0x7000_1000 ≤ x w.hart sp →
    AtCall image p n st w back number most
at_call image p n st w back g here words number most m h ec few high =
    let q = runtime_stays p st.frames st.world w ec.at ec.runtime h.runtime in
    record {
      turns = ec.turns;
      few = omega (arith, ec.few, few);
      at = ec.at;
      runs = ec.runs;
      behind = ec.behind;
      calls = ec.calls;
      asks = ec.asks;
      registers = ec.registers;
      memory_is = ec.memory;
      stack = ec.stack;
      high = high;
      kept = ec.runtime;
      memory = subst (λ ps. MemoryMatches p n st.top.frame st.frames st.world ps (x ec.behind sp) back) (sym ec.memory)
          (subst (λ a. MemoryMatches p n st.top.frame st.frames st.world w.hart.memory a back) (sym ec.stack) h.memory);
      variables = kept_at p n st (x w.hart sp) w.hart.memory (saved_of w.hart) ec.behind ec.memory ec.stack ec.saved h.kept;
      runtime = record { input = q.input; replies = q.replies; last_number = q.last_number; terminating = q.terminating; exceptions = q.exceptions; plan = q.plan };
      end = ap (λ a. a + open_bytes p (st.top ∷ st.frames)) ec.stack ∙ stack_at p n st w back h;
    }

-- terminate may be called from there
pub may_terminate : (image : Image) (p : Plan) (n : ℕ) (st : LinearState) (w : abi.World) (back number most : ℕ) → Stands p n st w back → image.places.terminate ≡ stub_word p.base terminating 0 →
    (c : AtCall image p n st w back number most) → MayTerminate p.unit p.base image (asked c.behind c.at)
may_terminate image p n st w back number most h named c = call_may image p n st w back c.behind c.at h c.high named c.registers c.memory_is c.stack

-- from a world whose hart is the same
pub may_from : (image : Image) (p : Plan) (t to : abi.World) → to.hart ≡ t.hart → MayTerminate p.unit p.base image t → MayTerminate p.unit p.base image to
may_from image p t to same may = record {
  named = may.named;
  registers = ap (λ (s : State). length s.regs) same ∙ may.registers;
  code = subst (λ (s : State). StubAt p.unit p.base terminating s.memory) (sym same) may.code;
  deep = omega (arith, ap (λ (s : State). x s sp) same, may.deep);
  room = subst (λ (s : State). Room (x s sp - 32) 32 s.memory) (sym same) may.room;
}

-- The call comes to terminate in a world whose hart is behind the ECALL.
abbrev pub comes : (image : Image) (p : Plan) (n : ℕ) (st : LinearState) (w : abi.World) (back number most : ℕ) (c : AtCall image p n st w back number most) → MayTerminate p.unit p.base image (asked c.behind c.at) →
    (below : List Activation) (v : World) (hidden handler : ℕ) (to : abi.World) (items : List Item) → to.hart ≡ c.behind → v.memory ≡ st.world.memory → v.calls ≡ st.world.calls → st.world.last_number ≤ v.last_number → RuntimeMatches p below v to →
    x c.behind sp + hidden + frames_bytes p.unit hidden below ≡ stack_end → to.shown ≡ items → Comes image p n st.top.frame st.frames below v w back hidden most items
comes image p n st w back number most c may below v hidden handler to items same ints calls later runtime end shown = record {
  turns = c.turns;
  few = c.few;
  at = c.at;
  runs = c.runs;
  number = number;
  behind = c.behind;
  calls = c.calls;
  asks = c.asks;
  handler = handler;
  to = to;
  from = record {
    may = may_from image p (asked c.behind c.at) to same may;
    memory = subst (λ (s : State). MemoryMatches p n st.top.frame st.frames v s.memory (x s sp) back) (sym same) (matches_alike p n st.top.frame st.frames st.world v c.behind.memory (x c.behind sp) back ints calls later c.memory);
    above = omega arith;
    even = subst (λ (s : State). x s sp % 8 ≡ 0) (sym same) (omega (arith, c.memory.top.saved.aligned));
    small = subst (λ (s : State). AreSmall (saved_of s)) (sym same) c.variables.small;
    runtime = runtime;
    end = ap (λ (s : State). x s sp + hidden + frames_bytes p.unit hidden below) same ∙ end;
  };
  shown = shown;
}

-- where nothing is hidden, all frames are those of calls that are open
pub all_open : (image : Image) (p : Plan) (n : ℕ) (st : LinearState) (w : abi.World) (back number most : ℕ) (c : AtCall image p n st w back number most) → p.hidden ≡ 0 →
    x c.behind sp + p.hidden + frames_bytes p.unit p.hidden (st.top ∷ st.frames) ≡ stack_end
all_open image p n st w back number most c hidden = omega (arith, c.end, hidden)

-- ---- the unwinder finds no handler

pub lost_as : (places : RuntimeRecord) (before : Exceptions) (o : Object) (w : abi.World) (raised : Raised × State) (s : State) → (raised ≡ (answers.Terminate, s)) ⊎ (raised ≡ (answers.NoHandler, s)) →
    raised_as places before o w raised ≡ unhandled places before o w o.header.kind
lost_as places before o w raised s (inl is) = ap (raised_as places before o w) is
lost_as places before o w raised s (inr is) = ap (raised_as places before o w) is
