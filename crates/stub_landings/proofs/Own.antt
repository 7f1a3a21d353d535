-- A hart inside one of the runtime's own functions stands on the stack as one inside a compiled function does.
use Rattle.std.proofs.Common.{◌≡◌, ◌∙◌, refl, sym, ap, subst, arith, ℕ, ◌+◌, ◌-◌, ◌*◌, ◌<◌, ◌≤◌, List}
use Rattle.rv64_isa.specs.State.{State, Part}
use Rattle.rv64_isa.specs.Step.{x}
use Rattle.region_forms.specs.World.{World}
use Rattle.linear_forms.specs.Stub.{Function, compiled, end_catch, terminating, call_unexpected}
use Rattle.linear_forms.specs.Activation.{Activation}
use Rattle.machine_forms.specs.Registers.{sp}
use Rattle.machine_forms.specs.Routine.{op_byte}
use Rattle.machine_forms.specs.StubCode.{stub_first, stub_routine}
use Rattle.machine_pieces.specs.Keeping.{saved_of}
use Rattle.machine_stubs.specs.Stretches.{stub_word, frame_size}
use Rattle.machine_simulation.proofs.Floors.{stub_floor}
use Rattle.image_tables.specs.Functions.{IsThere, routine_of, frame_of, records_end, first_byte}
use Rattle.image_tables.specs.TableLaws.{IsByteOf}
use Rattle.machine_simulation.specs.Plan.{Plan}
use Rattle.machine_simulation.specs.StubCalls.{StubStands}
use Rattle.machine_raises.specs.Targets.{call_size}
use Rattle.machine_raises.proofs.OnStack.{OwnFrame, OwnKept, OnStack}
use Rattle.machine_raises.proofs.Stacks.{top_found}
use Rattle.machine_raises.proofs.Waiting.{GoesOnAt}
use Rattle.stub_landings.specs.OwnCalls.{IsOwn, GoesOnInOwn, InOwn}
use Rattle.stub_landings.specs.StubStacks.{StubStacksStand}

-- what is so of each of the runtime's own functions
pub record OwnFacts (p : Plan) (f : Function) : Type 0 where
  pub there : IsThere p.unit f
  pub routine : routine_of p.unit f ≡ stub_routine f
  pub first : first_byte p.unit f ≡ records_end p.unit + 4 * stub_first f
  pub frame : frame_of p.unit f ≡ frame_size f
  pub size : call_size p f ≡ frame_size f
  pub big : 16 ≤ frame_size f

pub own_facts : (p : Plan) (f : Function) → IsOwn f → OwnFacts p f
own_facts p (compiled n) own = absurd own
own_facts p end_catch own = record { there = tt; routine = refl; first = refl; frame = refl; size = refl; big = omega arith }
own_facts p terminating own = record { there = tt; routine = refl; first = refl; frame = refl; size = refl; big = omega arith }
own_facts p call_unexpected own = record { there = tt; routine = refl; first = refl; frame = refl; size = refl; big = omega arith }

-- its frame is that of the call
pub own_frame : (p : Plan) (f : Function) (a : Activation) (v : World) (memory : List Part) (stack back limit : ℕ) → IsOwn f → StubStands p f memory stack back → OwnFrame p f a v memory stack back limit
own_frame p (compiled n) a v memory stack back limit own h = absurd own
own_frame p end_catch a v memory stack back limit own h = h
own_frame p terminating a v memory stack back limit own h = h
own_frame p call_unexpected a v memory stack back limit own h = h

pub frame_owned : (p : Plan) (f : Function) (a : Activation) (v : World) (memory : List Part) (stack back limit : ℕ) → IsOwn f → OwnFrame p f a v memory stack back limit → StubStands p f memory stack back
frame_owned p (compiled n) a v memory stack back limit own h = absurd own
frame_owned p end_catch a v memory stack back limit own h = h
frame_owned p terminating a v memory stack back limit own h = h
frame_owned p call_unexpected a v memory stack back limit own h = h

-- and it leaves the registers of kept variables
own_kept : (p : Plan) (f : Function) (a : Activation) (v : World) (memory : List Part) (stack : ℕ) (regs : List ℕ) → IsOwn f → OwnKept p f a v memory stack regs regs
own_kept p (compiled n) a v memory stack regs own = absurd own
own_kept p end_catch a v memory stack regs own = refl
own_kept p terminating a v memory stack regs own = refl
own_kept p call_unexpected a v memory stack regs own = refl

pub kept_owned : (p : Plan) (f : Function) (a : Activation) (v : World) (memory : List Part) (stack : ℕ) (regs before : List ℕ) → IsOwn f → OwnKept p f a v memory stack regs before → before ≡ regs
kept_owned p (compiled n) a v memory stack regs before own h = absurd own
kept_owned p end_catch a v memory stack regs before own h = h
kept_owned p terminating a v memory stack regs before own h = h
kept_owned p call_unexpected a v memory stack regs before own h = h

own_at : (p : Plan) (f : Function) (a : Activation) (ip : ℕ) → p.base ≡ records_end p.unit → OwnFacts p f → a.function ≡ f → GoesOnInOwn p f a.place ip → GoesOnAt p a ip
own_at p f a ip base facts runs on =
    let k = on.word in
    let first : op_byte (stub_routine f) a.place ≤ 4 * k - 1 = omega (arith, on.first) in
    let last : 4 * k - 1 < op_byte (stub_routine f) (a.place + 1) = omega (arith, on.last, on.framed) in
    let inside : IsByteOf p.unit f a.place (4 * k - 1) = record {
      first = subst (λ r. op_byte r a.place ≤ 4 * k - 1) (sym facts.routine) first;
      last = subst (λ r. 4 * k - 1 < op_byte r (a.place + 1)) (sym facts.routine) last;
    } in
    record {
      there = subst (IsThere p.unit) (sym runs) facts.there;
      byte = 4 * k - 1;
      inside = subst (λ g. IsByteOf p.unit g a.place (4 * k - 1)) (sym runs) inside;
      is = omega (arith, on.is, base, on.framed, facts.first) ∙ ap (λ g. first_byte p.unit g + (4 * k - 1) + 1) (sym runs);
    }

pub own_on_stack : (p : Plan) (f : Function) (back : ℕ) (a : Activation) (fs : List Activation) (v : World) (s : State) → p.base ≡ records_end p.unit → InOwn p f back a fs v s → OnStack p a fs v s
own_on_stack p f back a fs v s base h =
    let facts = own_facts p f h.own in
    let m = h.memory in
    let floor = stub_floor f (x s sp) m.stands.above in
    record {
      size = frame_size f;
      back = back;
      limit = v.calls;
      registers = h.registers;
      goes_on = own_at p f a s.pc base facts h.runs h.goes_on;
      frame = ap (frame_of p.unit) h.runs ∙ facts.frame;
      called = ap (call_size p) h.runs ∙ facts.size;
      big = facts.big;
      low = omega (arith, floor);
      high = m.stands.below;
      saved = m.stands.saved;
      waiting = m.waiting;
      around = record { newest = omega arith; apart = m.apart; inside = m.inside; may = m.may; fresh = m.fresh; objects = m.objects; unit = m.unit };
      own = subst (λ g. OwnFrame p g a v s.memory (x s sp) back v.calls) (sym h.runs) (own_frame p f a v s.memory (x s sp) back v.calls h.own m.stands);
      small = h.kept.small;
      before = saved_of s;
      keeps = subst (λ g. OwnKept p g a v s.memory (x s sp) (saved_of s) (saved_of s)) (sym h.runs) (own_kept p f a v s.memory (x s sp) (saved_of s) h.own);
      kept = h.kept.waiting;
    }

pub stub_stacks_stand : StubStacksStand
stub_stacks_stand p i f back a fs v s running h = top_found p i a fs v s running (own_on_stack p f back a fs v s running.base h)

-- ---- where the runtime calls of these functions that raise or go on come back
pub end_catch_resumes : (p : Plan) (ip : ℕ) → ip ≡ stub_word p.base end_catch 28 → GoesOnInOwn p end_catch 6 ip
end_catch_resumes p ip is = record { word = 28; framed = omega arith; first = omega arith; last = omega arith; is = is }

pub unexpected_rethrows : (p : Plan) (ip : ℕ) → ip ≡ stub_word p.base call_unexpected 41 → GoesOnInOwn p call_unexpected 10 ip
unexpected_rethrows p ip is = record { word = 41; framed = omega arith; first = omega arith; last = omega arith; is = is }

pub unexpected_throws : (p : Plan) (ip : ℕ) → ip ≡ stub_word p.base call_unexpected 51 → GoesOnInOwn p call_unexpected 13 ip
unexpected_throws p ip is = record { word = 51; framed = omega arith; first = omega arith; last = omega arith; is = is }

pub unexpected_resumes : (p : Plan) (ip : ℕ) → ip ≡ stub_word p.base call_unexpected 60 → GoesOnInOwn p call_unexpected 17 ip
unexpected_resumes p ip is = record { word = 60; framed = omega arith; first = omega arith; last = omega arith; is = is }
