-- The last handler of an exception with a destructor is left, up to the destructor; and the destructor comes back.
use Rattle.std.specs.Prelude.{◌≡◌, ℕ, ◌+◌, ◌<◌, ◌≤◌, true, List, [], ◌∷◌, length, slice_get, Option, Some}
use Rattle.meaning_forms.specs.World.{Installed}
use Rattle.run_items.specs.declared.item.Item.TheVariants.{Leave, Destroy, Free}
use Rattle.cxa_runtime.specs.World as abi
use Rattle.cxa_runtime.specs.Raising.{Image}
use Rattle.region_forms.specs.Form.{leave}
use Rattle.region_forms.specs.Caught.{Entry, is_last}
use Rattle.region_forms.specs.World.{Word, nothing, address_word, object_address, with_slot, native, exception_in_slot}
use Rattle.region_forms.specs.Effect.{new_frame, new_world, freed}
use Rattle.linear_forms.specs.Linear.{plain, return}
use Rattle.linear_forms.specs.Stub.{compiled, end_catch}
use Rattle.linear_forms.specs.Activation.{Activation, State, depth_of, stub_frame, function_word}
use Rattle.linear_forms.specs.UnitRun.{code_of}
use Rattle.machine_pieces.specs.Turning.{Reaches}
use Rattle.machine_simulation.specs.Plan.{Plan, function, shape, slot_kinds}
use Rattle.machine_simulation.specs.Calls.{open_bytes}
use Rattle.machine_simulation.specs.Exceptions.{live_in}
use Rattle.machine_simulation.specs.Matches.{Matches}
use Rattle.machine_simulation.specs.Steps.{StepAt}
use Rattle.machine_simulation.specs.Entering.{WordsFit, opened, frame_for, begin_room, entry_turns}
use Rattle.machine_simulation.specs.Returns.{closed, ResultStands}
use Rattle.machine_simulation.specs.Objects.{without_object, Shows}
use Rattle.machine_exceptions.specs.Leaves.{StepsTo, AtLeave, destroying}
use Rattle.machine_forms.specs.LinearCode.{linear_code}

-- end_catch waits for a destructor, which is passed the object
abbrev pub waiting_catch : (destructor e : ℕ) → Activation
waiting_catch d e = record {
  function = end_catch;
  place = 1;
  frame = with_slot 1 (function_word (Some d)) (with_slot 0 (address_word (object_address e)) (stub_frame nothing nothing nothing));
}

abbrev pub object_passed : ℕ → List Word
object_passed e = address_word (object_address e) ∷ []

-- the state in which it begins
abbrev pub in_destructor : Plan → (destructor e : ℕ) → State → State
in_destructor p d e st =
    let active = waiting_catch d e ∷ st.top ∷ st.frames in
    let v = destroying e st.world in
    record {
      top = record { function = compiled d; place = 0; frame = new_frame (slot_kinds p d) (object_passed e) v };
      frames = active;
      world = new_world (slot_kinds p d) (object_passed e) (depth_of active + 1) v;
    }

-- The destructor is a function of the unit with one parameter, whose slot is for an address, and the stack has room for it below end_catch.
pub record MayDestroy (p : Plan) (d e : ℕ) (active : List Activation) : Type 0 where
  pub known : d < length p.unit.functions
  pub passed : 1 ≤ length (shape p d).slots
  pub taken : 1 ≡ (function p d).parameters
  pub words : WordsFit (slot_kinds p d) 0 (object_passed e)
  pub room : open_bytes p active + begin_room (shape p d).leaf (shape p d).size ≤ 0x100_0000

-- Three steps lead from `leave` to the destructor's first operation, and are matched by at most fourteen turns and those of its beginning. They show that the handler is left
-- and that the object is destroyed; end_catch waits for the destructor.
abbrev pub DestructorsBegin : Type 0
DestructorsBegin = (image : Image) (p : Plan) (n : ℕ) (st middle : State) (x : Entry) (xs : List Entry) (type d : ℕ) (kept : Installed) (w : abi.World) → Matches p st w → AtLeave p n st middle x xs → is_last x ≡ true →
    live_in st.world.live x.number ≡ Some (native type (Some d) kept) → let e = x.number in let active = waiting_catch d e ∷ st.top ∷ st.frames in MayDestroy p d e active →
    let next = in_destructor p d e st in let items = Leave e ∷ Destroy e ∷ [] in
    StepsTo (code_of p.unit) 3 st next × Shows st next items × Reaches image (14 + entry_turns p d) w items (λ u. Matches (opened p d (destroying e st.world).calls (frame_for p d active)) next u)

-- end_catch waits for the call that returns, and a compiled function for end_catch
pub record AtReturn (p : Plan) (n m e : ℕ) (st middle : State) (waiting a : Activation) (fs : List Activation) (r : Option ℕ) : Type 0 where
  pub at : StepAt p st middle n (return r)
  pub frames : st.frames ≡ waiting ∷ a ∷ fs
  pub catch : waiting.function ≡ end_catch
  pub object : exception_in_slot waiting.frame 0 ≡ e
  pub caller : a.function ≡ compiled m
  pub leaves : slice_get (function p m).ops a.place ≡ Some (plain leave)
  pub result : ResultStands p n st.top.frame r

-- Three steps lead from the return of a destructor to behind `leave` in the function that left the handler, and are matched by at most as many
-- turns as the return has words and seven. They show that the object is freed.
abbrev pub DestructorsEnd : Type 0
DestructorsEnd = (image : Image) (p : Plan) (n m e : ℕ) (st middle : State) (waiting a : Activation) (fs : List Activation) (r : Option ℕ) (w : abi.World) → Matches p st w → AtReturn p n m e st middle waiting a fs r →
    let next : State = record { top = record { function = a.function; place = a.place + 1; frame = a.frame }; frames = fs; world = freed e st.world } in let items = Free e ∷ [] in
    StepsTo (code_of p.unit) 3 st next × Shows st next items × Reaches image (length (linear_code (shape p n) (return r)) + 7) w items (λ u. Matches (without_object (closed p a.frame.call) e) next u)
