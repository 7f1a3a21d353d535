-- The bytes of the frames of calls that wait end the stack.
use Rattle.std.proofs.Common.{◌≡◌, ◌∙◌, sym, ap, arith, ℕ, ◌+◌, List, [], ◌∷◌, inl, inr}
use Rattle.std.specs.Prelude.{◌⊎◌}
use Rattle.rv64_isa.specs.State.{Part}
use Rattle.region_forms.specs.World.{World}
use Rattle.linear_forms.specs.Activation.{Activation}
use Rattle.machine_stubs.specs.Stretches.{frame_size}
use Rattle.machine_simulation.specs.Plan.{Plan, shape}
use Rattle.machine_simulation.specs.StubCalls.{StubWaits, DestructorWaits, UnexpectedWaits, LeavingWaits}
use Rattle.machine_simulation.specs.Calls.{CallsWait, frame_of, open_bytes, stack_end}

stub_bytes : (p : Plan) (a : Activation) (v : World) (memory : List Part) (stack back outer : ℕ) → StubWaits p a v memory stack back outer → frame_of p.unit p.hidden a.function ≡ frame_size a.function
stub_bytes p a v memory stack back outer h = by h.waits
  where
    by : DestructorWaits p a v memory stack back ⊎ UnexpectedWaits p a v memory stack back ⊎ LeavingWaits p a v memory stack back → frame_of p.unit p.hidden a.function ≡ frame_size a.function
    by (inl w) = ap (frame_of p.unit p.hidden) w.callee ∙ ap frame_size (sym w.callee)
    by (inr (inl w)) = ap (frame_of p.unit p.hidden) w.callee ∙ ap frame_size (sym w.callee)
    by (inr (inr w)) = ap (frame_of p.unit p.hidden) w.callee ∙ ap frame_size (sym w.callee)

pub waiting_end : (p : Plan) (fs : List Activation) (v : World) (memory : List Part) (stack back limit : ℕ) → CallsWait p fs v memory stack back limit → stack + open_bytes p fs ≡ stack_end
waiting_end p [] v memory stack back limit h = omega (arith, h.1)
waiting_end p (a ∷ fs) v memory stack back limit (inl h) =
    omega (arith, waiting_end p fs v memory (stack + (shape p h.1).size) h.2 a.frame.call h.4, ap (frame_of p.unit p.hidden) h.3.callee)
waiting_end p (a ∷ fs) v memory stack back limit (inr (inl h)) =
    omega (arith, waiting_end p fs v memory (stack + frame_size a.function) h.0 limit h.2, stub_bytes p a v memory stack back h.0 h.1)
waiting_end p (a ∷ fs) v memory stack back limit (inr (inr h)) = omega (arith, h.1, ap (frame_of p.unit p.hidden) h.0.callee)
