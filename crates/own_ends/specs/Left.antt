-- A handler of call_unexpected is left.
use Rattle.std.specs.Prelude.{◌≡◌, ℕ, ◌+◌, true, false, List, [], ◌∷◌, Some, None}
use Rattle.meaning_forms.specs.World.{Installed}
use Rattle.run_items.specs.declared.item.Item.TheVariants.{Leave, Destroy, Free, Clean}
use Rattle.cxa_runtime.specs.World as abi
use Rattle.cxa_runtime.specs.Raising.{Image}
use Rattle.region_forms.specs.Caught.{Entry, is_last}
use Rattle.region_forms.specs.World.{native, foreign}
use Rattle.region_forms.specs.Effect.{left, cleaned_up}
use Rattle.region_forms.specs.Lives.{can_travel, may_leave}
use Rattle.linear_forms.specs.Activation.{State, not_defined}
use Rattle.linear_forms.specs.Machine.{over, exec}
use Rattle.linear_forms.specs.UnitRun.{code_of}
use Rattle.machine_pieces.specs.Turning.{Reaches}
use Rattle.machine_simulation.specs.Plan.{Plan}
use Rattle.machine_simulation.specs.Exceptions.{live_in}
use Rattle.machine_simulation.specs.Objects.{without_object, Shows}
use Rattle.machine_exceptions.specs.Leaves.{StepsTo, behind, destroyed_world}
use Rattle.stub_landings.specs.Rests.{LeavesOn}
use Rattle.own_ends.specs.Leaving.{Leaving, AtOwnLeave}

-- As where a compiled function leaves a handler: where the exception has another handler or travels again, nothing else becomes of it; a foreign one
-- that no handler has any more is cleaned up, and one of this language without a destructor is destroyed and freed. In each case call_unexpected
-- goes on behind its `leave`: at the second one, or with what is on its way. Where no handler may be left, what linear code does is not defined.
pub record OwnHandlersLeft : Type 0 where
  pub breaks : (p : Plan) (place k : ℕ) (st : State) (w : abi.World) → Leaving p place k st w → may_leave st.world st.world.caught ≡ false → exec (code_of p.unit) 2 st ≡ over not_defined st.world
  pub still_handled : (image : Image) (p : Plan) (place k : ℕ) (st : State) (x : Entry) (xs : List Entry) (w : abi.World) → AtOwnLeave p place k st w x xs → can_travel st.world x.number ≡ true → is_last x ≡ false →
      let next = behind st (left st.world) in let items = Leave x.number ∷ [] in
      StepsTo (code_of p.unit) 3 st next × Shows st next items × Reaches image 16 w items (λ u. LeavesOn p k (place + 1) next u)
  pub foreign_cleaned : (image : Image) (p : Plan) (place k : ℕ) (st : State) (x : Entry) (xs : List Entry) (number token : ℕ) (w : abi.World) → AtOwnLeave p place k st w x xs → is_last x ≡ true →
      live_in st.world.live x.number ≡ Some (foreign number token) → let next = behind st (cleaned_up x.number number token (left st.world)) in let items = Leave x.number ∷ Clean number token ∷ [] in
      StepsTo (code_of p.unit) 3 st next × Shows st next items × Reaches image 16 w items (λ u. LeavesOn (without_object p x.number) k (place + 1) next u)
  pub freed_at_once : (image : Image) (p : Plan) (place k : ℕ) (st : State) (x : Entry) (xs : List Entry) (type : ℕ) (kept : Installed) (w : abi.World) → AtOwnLeave p place k st w x xs → is_last x ≡ true →
      live_in st.world.live x.number ≡ Some (native type None kept) → let e = x.number in let next = behind st (destroyed_world type e (st.top ∷ st.frames) st.world) in let items = Leave e ∷ Destroy e ∷ Free e ∷ [] in
      StepsTo (code_of p.unit) 5 st next × Shows st next items × Reaches image 20 w items (λ u. LeavesOn (without_object p e) k (place + 1) next u)
