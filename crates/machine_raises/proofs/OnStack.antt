-- What unwinding asks of a hart inside an open call, of a compiled function or of one of the runtime's own.
use Rattle.std.proofs.Common.{◌≡◌, refl, sym, ap, subst, arith, ℕ, ◌+◌, ◌<◌, ◌≤◌, List, [], length}
use Rattle.rv64_isa.specs.State.{State, Part}
use Rattle.rv64_isa.specs.Step.{x}
use Rattle.region_forms.specs.World.{World}
use Rattle.linear_forms.specs.Stub.{Function, compiled, end_catch, terminating, call_unexpected}
use Rattle.linear_forms.specs.Activation.{Activation}
use Rattle.machine_forms.specs.Registers.{sp}
use Rattle.machine_forms.specs.Shape.{return_offset}
use Rattle.machine_pieces.specs.Frames.{AddressAt}
use Rattle.machine_pieces.specs.Keeping.{saved_of, AreSmall, outward}
use Rattle.image_tables.specs.Functions.{frame_of, saved_places, records_end}
use Rattle.raise_simulation.specs.OpenCalls.{AreSaved}
use Rattle.machine_simulation.specs.Plan.{Plan, shape}
use Rattle.machine_simulation.specs.Extents.{StandApart, IntsInside}
use Rattle.machine_simulation.specs.StubCalls.{StubStands}
use Rattle.machine_simulation.specs.Calls.{CallStands, CallsWait}
use Rattle.machine_simulation.specs.KeptCalls.{KeptCall, KeptCalls}
use Rattle.machine_simulation.specs.Matches.{StackMay, StillFresh, ObjectsStand, UnitStands}
use Rattle.machine_simulation.proofs.Floors.{call_floor}
use Rattle.machine_simulation.proofs.KeptClosed.{before_small}
use Rattle.machine_raises.specs.Stacks.{InCall}
use Rattle.machine_raises.specs.Targets.{call_size}
use Rattle.machine_raises.proofs.Waiting.{GoesOnAt, compiled_at, big_frame, call_saved}

-- what memory holds beside the frames of open calls, where calls have numbers below a limit
pub record Around (p : Plan) (v : World) (memory : List Part) (limit : ℕ) : Type 0 where
  pub newest : limit ≤ v.calls
  pub apart : StandApart p memory
  pub inside : IntsInside p v
  pub may : StackMay memory
  pub fresh : StillFresh v
  pub objects : ObjectsStand p v memory
  pub unit : UnitStands p memory

-- the frame of the call itself: one of a compiled function has the limit as its number
abbrev pub OwnFrame : Plan → Function → Activation → World → List Part → (stack back limit : ℕ) → Type 0
OwnFrame p (compiled m) a v memory stack back limit = (a.frame.call ≡ limit) × (limit < v.calls) × CallStands p m a.frame v memory stack back
OwnFrame p end_catch a v memory stack back limit = StubStands p end_catch memory stack back
OwnFrame p terminating a v memory stack back limit = StubStands p terminating memory stack back
OwnFrame p call_unexpected a v memory stack back limit = StubStands p call_unexpected memory stack back

-- what registers hold for the call itself and outward of it: one of the runtime's own functions leaves them
abbrev pub OwnKept : Plan → Function → Activation → World → List Part → (stack : ℕ) → (regs before : List ℕ) → Type 0
OwnKept p (compiled m) a v memory stack regs before = KeptCall p m a.frame v memory stack regs before
OwnKept p end_catch a v memory stack regs before = before ≡ regs
OwnKept p terminating a v memory stack regs before = before ≡ regs
OwnKept p call_unexpected a v memory stack regs before = before ≡ regs

-- what it saved
unfoldable pub own_saved : (p : Plan) (f : Function) (a : Activation) (v : World) (memory : List Part) (stack : ℕ) (regs before : List ℕ) → OwnKept p f a v memory stack regs before → List ℕ
own_saved p (compiled m) a v memory stack regs before h = h.saves.values
own_saved p end_catch a v memory stack regs before h = []
own_saved p terminating a v memory stack regs before h = []
own_saved p call_unexpected a v memory stack regs before h = []

-- A hart that goes on inside an operation of a call, whose frame begins at sp, above the calls that wait.
pub record OnStack (p : Plan) (a : Activation) (fs : List Activation) (v : World) (s : State) : Type 0 where
  pub size : ℕ
  pub back : ℕ
  pub limit : ℕ
  pub registers : length s.regs ≡ 32
  pub goes_on : GoesOnAt p a s.pc
  pub frame : frame_of p.unit a.function ≡ size
  pub called : call_size p a.function ≡ size
  pub big : 16 ≤ size
  pub low : 0x7000_0000 ≤ x s sp
  pub high : x s sp + size ≤ 0x7100_0000
  pub saved : AddressAt s.memory (x s sp + return_offset) back
  pub waiting : CallsWait p fs v s.memory (x s sp + size) back limit
  pub around : Around p v s.memory limit
  pub own : OwnFrame p a.function a v s.memory (x s sp) back limit
  pub small : AreSmall (saved_of s)
  pub before : List ℕ
  pub keeps : OwnKept p a.function a v s.memory (x s sp) (saved_of s) before
  pub kept : KeptCalls p fs v s.memory (x s sp + size) before

-- so it is inside a call of a compiled function
pub call_on_stack : (p : Plan) (n back : ℕ) (a : Activation) (fs : List Activation) (v : World) (s : State) → p.base ≡ records_end p.unit → InCall p n back a fs v s → OnStack p a fs v s
call_on_stack p n back a fs v s base h =
    let m = h.memory in
    let top = m.top in
    let newest = m.newest in
    record {
      size = (shape p n).size;
      back = back;
      limit = a.frame.call;
      registers = h.registers;
      goes_on = compiled_at p n s.pc a base top.known h.runs h.goes_on;
      frame = ap (frame_of p.unit) h.runs;
      called = ap (call_size p) h.runs;
      big = big_frame p n (m.unit.frames n top.known);
      low = call_floor p n a.frame v s.memory (x s sp) back top;
      high = top.below;
      saved = top.saved;
      waiting = m.waiting;
      around = record { newest = omega (arith, newest); apart = m.apart; inside = m.inside; may = m.may; fresh = m.fresh; objects = m.objects; unit = m.unit };
      own = subst (λ f. OwnFrame p f a v s.memory (x s sp) back a.frame.call) (sym h.runs) (refl, newest, top);
      small = h.kept.small;
      before = h.kept.before;
      keeps = subst (λ f. OwnKept p f a v s.memory (x s sp) (saved_of s) h.kept.before) (sym h.runs) h.kept.top;
      kept = h.kept.waiting;
    }

-- ---- what the call saved
-- it is read in its places
pub own_words : (p : Plan) (f : Function) (a : Activation) (v : World) (s : State) (stack : ℕ) (regs before : List ℕ) (h : OwnKept p f a v s.memory stack regs before) →
    AreSaved s stack (frame_of p.unit f) (saved_places p.unit f) (own_saved p f a v s.memory stack regs before h) × (length (own_saved p f a v s.memory stack regs before h) ≤ 10)
unfolding own_saved
own_words p (compiled m) a v s stack regs before h = call_saved p m a.frame v s stack regs before h
own_words p end_catch a v s stack regs before h = (tt, omega arith)
own_words p terminating a v s stack regs before h = (tt, omega arith)
own_words p call_unexpected a v s stack regs before h = (tt, omega arith)

-- so registers hold it outward of the call
pub own_outward : (p : Plan) (f : Function) (a : Activation) (v : World) (memory : List Part) (stack : ℕ) (regs before : List ℕ) (h : OwnKept p f a v memory stack regs before) →
    before ≡ outward (own_saved p f a v memory stack regs before h) regs
unfolding own_saved
own_outward p (compiled m) a v memory stack regs before h = h.saves.before_is
own_outward p end_catch a v memory stack regs before h = h
own_outward p terminating a v memory stack regs before h = h
own_outward p call_unexpected a v memory stack regs before h = h

-- and they are numbers of 64 bits there
pub own_small : (p : Plan) (f : Function) (a : Activation) (v : World) (memory : List Part) (stack : ℕ) (regs before : List ℕ) → OwnKept p f a v memory stack regs before → AreSmall regs → length regs ≡ 10 → AreSmall before × (length before ≡ 10)
own_small p (compiled m) a v memory stack regs before h small ten = before_small p m a.frame v memory stack regs before h small ten
own_small p end_catch a v memory stack regs before h small ten = subst (λ rs. AreSmall rs × (length rs ≡ 10)) (sym h) (small, ten)
own_small p terminating a v memory stack regs before h small ten = subst (λ rs. AreSmall rs × (length rs ≡ 10)) (sym h) (small, ten)
own_small p call_unexpected a v memory stack regs before h small ten = subst (λ rs. AreSmall rs × (length rs ≡ 10)) (sym h) (small, ten)
