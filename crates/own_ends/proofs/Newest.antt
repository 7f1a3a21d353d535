-- The newest compiled call, below one of the runtime's own functions.
use Rattle.std.proofs.Common.{◌≡◌, ◌∙◌, sym, ap, subst, arith, ℕ, ◌+◌, ◌≤◌, List, ◌∷◌, inl, inr}
use Rattle.rv64_isa.specs.State.{Part}
use Rattle.region_forms.specs.World.{Frame, World}
use Rattle.linear_forms.specs.Stub.{Function, compiled, terminating, call_unexpected}
use Rattle.linear_forms.specs.Activation.{Activation}
use Rattle.machine_stubs.specs.Stretches.{frame_size}
use Rattle.machine_simulation.specs.Plan.{Plan}
use Rattle.machine_simulation.specs.Extents.{newer}
use Rattle.machine_simulation.specs.Calls.{CallsWait}
use Rattle.machine_simulation.specs.Matches.{MemoryMatches}
use Rattle.machine_simulation.proofs.Returning.{call_waits}
use Rattle.machine_raises.proofs.OnStack.{Around}
use Rattle.stub_landings.specs.Rests.{StubMemory}
use Rattle.own_ends.specs.Callers.{CalledBy, CalledBelow}
use Rattle.own_ends.proofs.Memory.{IsLast, stub_newest, newest_matches, around_stub}

-- its frame begins here or a little above
pub record Newest (p : Plan) (v : World) (memory : List Part) (stack : ℕ) : Type 0 where
  pub number : ℕ
  pub frame : Frame
  pub others : List Activation
  pub high : ℕ
  pub back : ℕ
  pub above : stack ≤ high
  pub near : high ≤ stack + 80
  pub matches : MemoryMatches p number frame others v memory high back

first_found : (p : Plan) (fs : List Activation) (v : World) (memory : List Part) (stack back : ℕ) → Around p v memory v.calls → IsLast p fs → (waiting : CallsWait p fs v memory stack back v.calls) → (c : CalledBy fs) →
    MemoryMatches p c.number c.caller.frame c.others v memory stack (call_waits p c.number c.caller c.others v memory stack back v.calls c.is (subst (λ gs. CallsWait p gs v memory stack back v.calls) c.frames waiting)).outer
first_found p fs v memory stack back around last waiting c =
    let w = call_waits p c.number c.caller c.others v memory stack back v.calls c.is (subst (λ gs. CallsWait p gs v memory stack back v.calls) c.frames waiting) in
    newest_matches p c.number c.caller c.others v memory stack back w.outer v.calls around (subst (IsLast p) c.frames last) (omega arith) w.less w.waits w.rest

-- call_unexpected waits first
record Second (p : Plan) (fs : List Activation) (v : World) (memory : List Part) (stack : ℕ) : Type 0 where
  outer : ℕ
  last : IsLast p fs
  rest : CallsWait p fs v memory (stack + 80) outer v.calls

second_found : (p : Plan) (u : Activation) (fs : List Activation) (v : World) (memory : List Part) (stack back : ℕ) → u.function ≡ call_unexpected → IsLast p (u ∷ fs) → CallsWait p (u ∷ fs) v memory stack back v.calls → Second p fs v memory stack
second_found p u fs v memory stack back is last (inl h) = absurd (let both : compiled h.1 ≡ call_unexpected = sym h.3.callee ∙ is in cc both)
second_found p u fs v memory stack back is last (inr (inl h)) = record {
  outer = h.0;
  last = λ b live. sym (ap (λ d. newer d b) (stub_newest p u fs v memory stack back h.0 h.1)) ∙ last b live;
  rest = subst (λ f. CallsWait p fs v memory (stack + frame_size f) h.0 v.calls) is h.2;
}
second_found p u fs v memory stack back is last (inr (inr h)) = absurd (let both : terminating ≡ call_unexpected = sym h.0.callee ∙ is in cc both)

pub newest_found : (p : Plan) (f : Function) (fs : List Activation) (v : World) (memory : List Part) (stack back : ℕ) → StubMemory p f fs v memory stack back → CalledBelow fs → Newest p v memory (stack + frame_size f)
newest_found p f fs v memory stack back h (inl c) = record {
  number = c.number;
  frame = c.caller.frame;
  others = c.others;
  high = stack + frame_size f;
  back = _;
  above = omega arith;
  near = omega arith;
  matches = first_found p fs v memory (stack + frame_size f) back (around_stub p f fs v memory stack back h) h.last h.waiting c;
}
newest_found p f fs v memory stack back h (inr u) =
    let low : ℕ = stack + frame_size f in
    let s = second_found p u.unexpected u.others v memory low back u.is (subst (IsLast p) u.frames h.last) (subst (λ gs. CallsWait p gs v memory low back v.calls) u.frames h.waiting) in
    record {
      number = u.called.number;
      frame = u.called.caller.frame;
      others = u.called.others;
      high = low + 80;
      back = _;
      above = omega arith;
      near = omega arith;
      matches = first_found p u.others v memory (low + 80) s.outer (around_stub p f fs v memory stack back h) s.last s.rest u.called;
    }
