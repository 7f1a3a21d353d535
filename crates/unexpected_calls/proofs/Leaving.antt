-- call_unexpected calls end_catch.
use Rattle.std.proofs.Common.{◌≡◌, ◌∙◌, refl, sym, ap, subst, arith, ℕ, ◌+◌, ◌%◌, ◌^◌, ◌<◌, ℤ, pos, List, ◌∷◌, ◌++◌, inl, inr}
use Rattle.std.specs.Prelude.{◌⊎◌, if◌then◌else◌}
use Rattle.rv64_isa.specs.State.{Part}
use Rattle.rv64_isa.specs.Step.{x}
use Rattle.cxa_runtime.specs.World as abi
use Rattle.cxa_runtime.specs.Raising.{Image}
use Rattle.region_forms.specs.World.{Word, nothing, number_word, address_word, flying, unwinding, World}
use Rattle.linear_forms.specs.Stub.{Function, end_catch, call_unexpected}
use Rattle.linear_forms.specs.Activation.{Activation, State, Next, goes_to, on}
use Rattle.linear_forms.specs.Machine.{step}
use Rattle.linear_forms.specs.Operation.{holds_number, jumped}
use Rattle.linear_forms.specs.UnitRun.{code_of}
use Rattle.machine_forms.specs.Registers.{ra, sp, a0, a1}
use Rattle.machine_pieces.specs.Frames.{AddressAt}
use Rattle.machine_pieces.specs.Numbers.{extended}
use Rattle.machine_pieces.specs.Turning.{SameRuntime}
use Rattle.machine_stubs.specs.Stretches.{stub_word, Room, Stands as StubStands, AtAddress}
use Rattle.machine_stubs.specs.CallUnexpected.{UnexpectedChecks, UnexpectedEnds, thrown_slot}
use Rattle.machine_simulation.specs.Plan.{Plan}
use Rattle.machine_simulation.specs.StubCalls.{KeepsFlying}
use Rattle.machine_simulation.specs.Exceptions.{addresses_of, exceptions_in, kept_by, destroyed_by, destroyed, ExceptionsMatch}
use Rattle.machine_simulation.specs.Matches.{RuntimeMatches}
use Rattle.machine_simulation.proofs.Matching.{runtime_stays}
use Rattle.machine_exceptions.proofs.EndCatching.{room_below}
use Rattle.machine_raises.specs.Pads.{PadGets}
use Rattle.stub_landings.specs.Rests.{StubMemory, StubRests, ChecksThrown, LeavesBoth, LeavesOn, StubRegisters}
use Rattle.unexpected_calls.specs.Leaves.{CalledByCompiled, leaving_at, in_end_catch, AtEndCatch, CallsEndCatch, UnexpectedLeaves}
use Rattle.unexpected_calls.proofs.OverCall.{OverCall, over_call, over_stub, over_beside, over_registers, over_at}
use Rattle.machine_pieces.specs.Keeping.{saved_of}

-- ---- a hart that rests in call_unexpected

-- it stands there, above a compiled call
pub record Over (p : Plan) (k back : ℕ) (st : State) (w : abi.World) (c : CalledByCompiled st) : Type 0 where
  pub stands : StubStands p.unit p.base call_unexpected k (x w.hart sp) 80 w.hart
  pub over : OverCall p c.number c.caller c.others st.world w.hart.memory (x w.hart sp) back (saved_of w.hart)

pub rests_over : (p : Plan) (k : ℕ) (st : State) (w : abi.World) (c : CalledByCompiled st) → (h : StubRests p call_unexpected k st w) → Over p k h.back st w c
rests_over p k st w c h =
    let s = w.hart in
    let m = h.memory in
    let floor = m.stands.above in
    let room = room_below s.memory (x s sp + 80) 80 m.may (omega (arith, floor)) (omega (arith, m.stands.below)) (omega (arith, m.stands.saved.aligned)) refl in
    record {
      stands = record {
        pc = h.pc;
        registers = h.registers;
        code = m.unit.stubs.call_unexpected;
        room = subst (λ a. Room a 80 s.memory) (omega arith) room;
      };
      over = over_call p c.number c.caller c.others st.world s.memory (x s sp) h.back (saved_of s) c.compiled (subst (λ gs. StubMemory p call_unexpected gs st.world s.memory (x s sp) h.back) c.frames m)
          (subst (λ gs. StubRegisters p call_unexpected gs st.world s.memory (x s sp) (saved_of s)) c.frames h.kept);
    }

-- what a pad got, as it is kept
pub record Gets (p : Plan) (v : World) (word : Word) (a : ℕ) : Type 0 where
  pub small : a < 2 ^ 64
  pub kept : (memory : List Part) (at : ℕ) → AddressAt memory at a → KeepsFlying p word v memory at

pub gets_kept : (p : Plan) (v : World) (word : Word) (a : ℕ) → PadGets p v word a → Gets p v word a
gets_kept p v nothing a h = absurd h
gets_kept p v (number_word z) a h = absurd h
gets_kept p v (address_word b) a h = absurd h
gets_kept p v (flying e d) a h = record { small = h.2; kept = λ memory at there. inl (record { number = e; is = refl; made = h.0; there = subst (AddressAt memory at) h.1 there }) }
gets_kept p v (unwinding n) a h = record { small = omega (arith, h); kept = λ memory at there. inr (n, refl, subst (AddressAt memory at) h there) }

-- ---- where end_catch begins

-- the runtime's calls that wait
waiting_same : (p : Plan) (place : ℕ) (st : State) (v : World) (w : abi.World) → st.top.function ≡ call_unexpected → RuntimeMatches p (st.top ∷ st.frames) v w → RuntimeMatches p (leaving_at place st ∷ st.frames) v w
waiting_same p place st v w runs r = record {
  input = r.input;
  replies = r.replies;
  last_number = r.last_number;
  terminating = r.terminating;
  exceptions = subst (λ ds. ExceptionsMatch (addresses_of p) ds (exceptions_in v) (kept_by w)) (ap (λ f. destroyed_by f st.top.frame ++ destroyed st.frames) runs) r.exceptions;
  plan = r.plan;
}

end_catch_begins : (image : Image) (p : Plan) (place k ret : ℕ) (st : State) (w : abi.World) (c : CalledByCompiled st) (r : StubRests p call_unexpected k st w) (u : abi.World) → (a : AtAddress (stub_word p.base end_catch 0) (x w.hart sp) (x w.hart sp) 80 w (λ t. x t ra ≡ ret) u) →
    ((place ≡ 15) × (ret ≡ stub_word p.base call_unexpected 55)) ⊎ ((place ≡ 16) × (ret ≡ stub_word p.base call_unexpected 57)) →
    OverCall p c.number c.caller c.others st.world u.hart.memory (x w.hart sp) r.back (saved_of w.hart) → KeepsFlying p (st.top.frame.slots 4) st.world u.hart.memory (x w.hart sp + thrown_slot) → AtEndCatch p (leaving_at place st) st.frames (in_end_catch place st) u × SameRuntime w u
end_catch_begins image p place k ret st w c r u a which over kept = (
  record {
    back = r.back;
    runs = refl;
    place = refl;
    frames = refl;
    registers = a.registers;
    pc = a.there;
    memory = subst (λ gs. StubMemory p call_unexpected gs st.world u.hart.memory (x u.hart sp) r.back) (sym c.frames)
        (subst (λ b. StubMemory p call_unexpected (c.caller ∷ c.others) st.world u.hart.memory b r.back) (sym a.pointer) (over_stub p c.number c.caller c.others st.world u.hart.memory (x w.hart sp) r.back (saved_of w.hart) c.compiled over));
    waits = record {
      callee = refl;
      returns = returns which;
      thrown = subst (λ b. KeepsFlying p (st.top.frame.slots 4) st.world u.hart.memory (b + thrown_slot)) (sym a.pointer) kept;
    };
    kept = subst (λ gs. StubRegisters p call_unexpected gs st.world u.hart.memory (x u.hart sp) (saved_of u.hart)) (sym c.frames)
        (over_registers p c.number c.caller c.others st.world u.hart.memory (x u.hart sp) r.back (saved_of u.hart) c.compiled
        (over_at p c.number c.caller c.others st.world u.hart.memory (x w.hart sp) r.back (saved_of w.hart) u.hart refl a.pointer a.variables over));
    runtime = runtime_stays p (leaving_at place st ∷ st.frames) st.world w u a.kept.runtime (waiting_same p place st st.world w r.runs r.runtime);
  },
  a.kept.runtime,
)
  where
    returns : ((place ≡ 15) × (ret ≡ stub_word p.base call_unexpected 55)) ⊎ ((place ≡ 16) × (ret ≡ stub_word p.base call_unexpected 57)) →
        ((place ≡ 15) × (x u.hart ra ≡ stub_word p.base call_unexpected 55)) ⊎ ((place ≡ 16) × (x u.hart ra ≡ stub_word p.base call_unexpected 57))
    returns (inl y) = inl (y.0, a.holds ∙ y.1)
    returns (inr y) = inr (y.0, a.holds ∙ y.1)

-- ---- steps of the machine for linear code

-- a state at a place of call_unexpected
pub in_unexpected_at : (p : Plan) (place : ℕ) (st : State) → st.top.function ≡ call_unexpected → st.top.place ≡ place → step (code_of p.unit) st ≡ step (code_of p.unit) (record { top = leaving_at place st; frames = st.frames; world = st.world })
in_unexpected_at p place st runs there =
    let to : Function → ℕ → State = λ f k. record { top = record { function = f; place = k; frame = st.top.frame }; frames = st.frames; world = st.world } in
    ap (λ f. step (code_of p.unit) (to f st.top.place)) runs ∙ ap (λ k. step (code_of p.unit) (to call_unexpected k)) there

leave_step : (p : Plan) (st : State) → st.top.function ≡ call_unexpected → st.top.place ≡ 16 → step (code_of p.unit) st ≡ goes_to (in_end_catch 16 st)
leave_step p st runs there = in_unexpected_at p 16 st runs there

leave_both : (p : Plan) (st : State) → st.top.function ≡ call_unexpected → st.top.place ≡ 15 → step (code_of p.unit) st ≡ goes_to (in_end_catch 15 st)
leave_both p st runs there = in_unexpected_at p 15 st runs there

filter_step : (p : Plan) (st : State) → st.top.function ≡ call_unexpected → st.top.place ≡ 4 → st.top.frame.slots 5 ≡ number_word (pos 0) →
    step (code_of p.unit) st ≡ goes_to (record { top = leaving_at 16 st; frames = st.frames; world = st.world })
filter_step p st runs there slot =
    let a : Activation = leaving_at 4 st in
    let to : Word → Next = λ word. if holds_number word (pos 0) then jumped (code_of p.unit) 16 a st.frames st.world else on a a.frame st.frames st.world in
    in_unexpected_at p 4 st runs there ∙ ap to slot

-- the register has the number that the slot has
pub selector_held : (p : Plan) (st : State) (w : abi.World) (h : ChecksThrown p st w) (z : ℤ) → st.top.frame.slots 5 ≡ number_word z → x w.hart a1 ≡ extended z
selector_held p st w h z is =
    let same : number_word h.filter ≡ number_word z = sym h.filter_is.0 ∙ is in
    let filter : h.filter ≡ z = cc same in
    h.filter_is.1 ∙ ap extended filter

-- ---- the laws

canceled : UnexpectedChecks → (image : Image) (p : Plan) (st : State) (w : abi.World) → ChecksThrown p st w → CalledByCompiled st → st.top.frame.slots 5 ≡ number_word (pos 0) → CallsEndCatch image p 2 8 16 st w
canceled checks image p st w h c zero =
    let o = rests_over p 13 st w c h.rests in
    let g = gets_kept p st.world (st.top.frame.slots 4) (x w.hart a0) h.gets in
    let selector : x w.hart a1 ≡ extended (pos 0) = selector_held p st w h (pos 0) zero in
    let none : x w.hart a1 % 2 ^ 32 ≡ 0 = ap (λ k. k % 2 ^ 32) selector in
    let come = checks.leaves_canceled image p.unit p.base (x w.hart a0) w h.rests.memory.unit.few o.stands refl g.small none in
    let a = come.holds in
    let over = over_beside p c.number c.caller c.others st.world w.hart.memory come.after.hart.memory (x w.hart sp) h.rests.back (x w.hart sp + 32) 16 (saved_of w.hart) o.over (omega arith) (omega arith) a.holds.2 in
    record {
      linear = (record { top = leaving_at 16 st; frames = st.frames; world = st.world }, filter_step p st h.rests.runs h.place zero, (in_end_catch 16 st, refl, refl));
      machine = record {
        turns = come.turns;
        few = come.few;
        after = come.after;
        runs = come.runs;
        holds = end_catch_begins image p 16 13 (stub_word p.base call_unexpected 57) st w c h.rests come.after
            (record { there = a.there; registers = a.registers; pointer = a.pointer; variables = a.variables; kept = a.kept; holds = a.holds.0 }) (inr (refl, refl)) over (g.kept come.after.hart.memory (x w.hart sp + thrown_slot) a.holds.1);
      };
    }

both : UnexpectedEnds → (image : Image) (p : Plan) (st : State) (w : abi.World) → LeavesBoth p st w → CalledByCompiled st → CallsEndCatch image p 1 4 15 st w
both ends image p st w h c =
    let o = rests_over p 51 st w c h.rests in
    let g = gets_kept p st.world (st.top.frame.slots 4) (x w.hart a0) h.gets in
    let come = ends.leaves_the_thrown image p.unit p.base (x w.hart a0) w h.rests.memory.unit.few o.stands refl g.small in
    let a = come.holds in
    let over = over_beside p c.number c.caller c.others st.world w.hart.memory come.after.hart.memory (x w.hart sp) h.rests.back (x w.hart sp + 32) 16 (saved_of w.hart) o.over (omega arith) (omega arith) a.holds.2 in
    record {
      linear = (in_end_catch 15 st, leave_both p st h.rests.runs h.place, refl);
      machine = record {
        turns = come.turns;
        few = come.few;
        after = come.after;
        runs = come.runs;
        holds = end_catch_begins image p 15 51 (stub_word p.base call_unexpected 55) st w c h.rests come.after
            (record { there = a.there; registers = a.registers; pointer = a.pointer; variables = a.variables; kept = a.kept; holds = a.holds.0 }) (inl (refl, refl)) over (g.kept come.after.hart.memory (x w.hart sp + thrown_slot) a.holds.1);
      };
    }

second : UnexpectedEnds → (image : Image) (p : Plan) (st : State) (w : abi.World) → LeavesOn p 55 16 st w → CalledByCompiled st → CallsEndCatch image p 1 2 16 st w
second ends image p st w h c =
    let o = rests_over p 55 st w c h.rests in
    let come = ends.leaves_the_stopped image p.unit p.base w h.rests.memory.unit.few o.stands in
    let a = come.holds in
    let same : come.after.hart.memory ≡ w.hart.memory = a.holds.1 in
    record {
      linear = (in_end_catch 16 st, leave_step p st h.rests.runs h.there, refl);
      machine = record {
        turns = come.turns;
        few = come.few;
        after = come.after;
        runs = come.runs;
        holds = end_catch_begins image p 16 55 (stub_word p.base call_unexpected 57) st w c h.rests come.after
            (record { there = a.there; registers = a.registers; pointer = a.pointer; variables = a.variables; kept = a.kept; holds = a.holds.0 }) (inr (refl, refl))
            (subst (λ ps. OverCall p c.number c.caller c.others st.world ps (x w.hart sp) h.rests.back (saved_of w.hart)) (sym same) o.over)
            (subst (λ ps. KeepsFlying p (st.top.frame.slots 4) st.world ps (x w.hart sp + thrown_slot)) (sym same) h.thrown);
      };
    }

pub unexpected_leaves : UnexpectedChecks → UnexpectedEnds → UnexpectedLeaves
unexpected_leaves checks ends = record { canceled = canceled checks; both = both ends; second = second ends }
