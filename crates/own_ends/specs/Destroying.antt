-- call_unexpected leaves the last handler of an exception with a destructor, up to the destructor; and the destructor comes back.
use Rattle.std.specs.Prelude.{◌≡◌, ℕ, ◌+◌, true, List, [], ◌∷◌, length, Option, Some}
use Rattle.meaning_forms.specs.World.{Installed}
use Rattle.run_items.specs.declared.item.Item.TheVariants.{Leave, Destroy, Free}
use Rattle.cxa_runtime.specs.World as abi
use Rattle.cxa_runtime.specs.Raising.{Image}
use Rattle.region_forms.specs.Caught.{Entry, is_last}
use Rattle.region_forms.specs.World.{native, exception_in_slot}
use Rattle.region_forms.specs.Effect.{freed}
use Rattle.linear_forms.specs.Linear.{return}
use Rattle.linear_forms.specs.Stub.{end_catch, call_unexpected}
use Rattle.linear_forms.specs.Activation.{Activation, State}
use Rattle.linear_forms.specs.UnitRun.{code_of}
use Rattle.flight_homes.specs.Nest.{newest_call}
use Rattle.machine_forms.specs.LinearCode.{linear_code}
use Rattle.machine_pieces.specs.Turning.{Reaches}
use Rattle.machine_simulation.specs.Plan.{Plan, shape}
use Rattle.machine_simulation.specs.Exceptions.{live_in}
use Rattle.machine_simulation.specs.Matches.{Matches}
use Rattle.machine_simulation.specs.Steps.{StepAt}
use Rattle.machine_simulation.specs.Entering.{opened, frame_for, entry_turns}
use Rattle.machine_simulation.specs.Returns.{closed, ResultStands}
use Rattle.machine_simulation.specs.Objects.{without_object, Shows}
use Rattle.machine_exceptions.specs.Leaves.{StepsTo, destroying}
use Rattle.machine_exceptions.specs.Destroys.{waiting_catch, in_destructor, MayDestroy}
use Rattle.stub_landings.specs.Rests.{LeavesOn}
use Rattle.own_ends.specs.Leaving.{IsLeaving, AtOwnLeave}

-- Three steps lead from `leave` to the destructor's first operation. They show that the handler is left and that the object is destroyed; end_catch
-- waits for the destructor, and call_unexpected for end_catch.
abbrev pub OwnDestructorsBegin : Type 0
OwnDestructorsBegin = (image : Image) (p : Plan) (place k : ℕ) (st : State) (x : Entry) (xs : List Entry) (type d : ℕ) (kept : Installed) (w : abi.World) → AtOwnLeave p place k st w x xs → is_last x ≡ true →
    live_in st.world.live x.number ≡ Some (native type (Some d) kept) → let e = x.number in let active = waiting_catch d e ∷ st.top ∷ st.frames in MayDestroy p d e active →
    let next = in_destructor p d e st in let items = Leave e ∷ Destroy e ∷ [] in
    StepsTo (code_of p.unit) 3 st next × Shows st next items × Reaches image (16 + entry_turns p d) w items (λ u. Matches (opened p d (destroying e st.world).calls (frame_for p d active)) next u)

-- end_catch waits for the call that returns, and call_unexpected for end_catch, at its first or its second `leave`
pub record AtOwnReturn (p : Plan) (n place k e : ℕ) (st middle : State) (waiting a : Activation) (fs : List Activation) (r : Option ℕ) : Type 0 where
  pub at : StepAt p st middle n (return r)
  pub frames : st.frames ≡ waiting ∷ a ∷ fs
  pub catch : waiting.function ≡ end_catch
  pub object : exception_in_slot waiting.frame 0 ≡ e
  pub caller : a.function ≡ call_unexpected
  pub which : IsLeaving place k
  pub there : a.place ≡ place
  pub result : ResultStands p n st.top.frame r

-- Three steps lead from the return of the destructor to behind that `leave`. They show that the object is freed. Nothing of the calls that are over is
-- live.
abbrev pub OwnDestructorsEnd : Type 0
OwnDestructorsEnd = (image : Image) (p : Plan) (n place k e : ℕ) (st middle : State) (waiting a : Activation) (fs : List Activation) (r : Option ℕ) (w : abi.World) → Matches p st w → AtOwnReturn p n place k e st middle waiting a fs r →
    let next : State = record { top = record { function = a.function; place = a.place + 1; frame = a.frame }; frames = fs; world = freed e st.world } in let items = Free e ∷ [] in
    StepsTo (code_of p.unit) 3 st next × Shows st next items × Reaches image (length (linear_code (shape p n) (return r)) + 7) w items (λ u. LeavesOn (without_object (closed p (newest_call fs)) e) k (place + 1) next u)
