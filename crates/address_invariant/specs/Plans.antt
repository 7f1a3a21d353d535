-- How a plan goes on with a step, and what matching says of the newest exception.
use Rattle.std.specs.Prelude.{◌≡◌, ◌≢◌, ℕ, ◌+◌, ◌≤◌}
use Rattle.cxa_runtime.specs.World as abi
use Rattle.region_forms.specs.World.{World}
use Rattle.region_forms.specs.Effect.{newest_of}
use Rattle.linear_forms.specs.Stub.{compiled}
use Rattle.linear_forms.specs.Activation.{State}
use Rattle.machine_simulation.specs.Plan.{Plan, function}
use Rattle.machine_simulation.specs.Matches.{FrameIs, Matches}
use Rattle.machine_simulation.specs.Entering.{opened}
use Rattle.machine_simulation.specs.Objects.{with_object}
use Rattle.address_invariant.specs.Extents.{extents_of}
use Rattle.address_invariant.specs.Reaching.{ObjectsReach}
use Rattle.address_invariant.specs.Laws.{GoesOn}

-- Where a compiled function is called, the plan with its call goes on; so does the plan with an exception's object, where one is made; and the
-- same plan, or one of which less is live, where neither is.
pub record PlansGoOn : Type 0 where
  pub called : (p : Plan) (m stack : ℕ) (v : World) (next : State) → FrameIs (function p m) → ObjectsReach (extents_of p) v → next.world.last_number ≡ v.last_number → next.top.function ≡ compiled m →
      GoesOn (extents_of p) (extents_of (opened p m v.calls stack)) p.unit v next
  pub made : (p : Plan) (slot : ℕ) (v : World) (next : State) → ObjectsReach (extents_of p) v → next.world.last_number ≡ v.last_number + 1 → next.top.frame.call ≢ v.calls →
      GoesOn (extents_of p) (extents_of (with_object p (v.last_number + 1) slot)) p.unit v next
  pub same : (p q : Plan) (v : World) (next : State) → extents_of q ≡ extents_of p → ObjectsReach (extents_of p) v → next.world.last_number ≤ v.last_number → next.top.frame.call ≢ v.calls →
      GoesOn (extents_of p) (extents_of q) p.unit v next

-- The newest exception that is handled was made, in each state that matches a world of the machine with its runtime.
abbrev pub NewestWasMade : Type 0
NewestWasMade = (p : Plan) (st : State) (w : abi.World) → Matches p st w → newest_of st.world.caught ≤ st.world.last_number
