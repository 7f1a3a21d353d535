-- A handler is left.
use Rattle.std.specs.Prelude.{◌≡◌, ℕ, zero, suc, ◌+◌, true, false, List, [], ◌∷◌, Some, None, if◌then◌else◌}
use Rattle.meaning_forms.specs.World.{Installed}
use Rattle.run_items.specs.declared.item.Item.TheVariants.{Leave, Destroy, Free, Clean}
use Rattle.cxa_runtime.specs.World as abi
use Rattle.cxa_runtime.specs.Raising.{Image}
use Rattle.region_forms.specs.Form.{leave}
use Rattle.region_forms.specs.Caught.{Entry, is_last}
use Rattle.region_forms.specs.World.{World, native, foreign, with_item}
use Rattle.region_forms.specs.Effect.{left, cleaned_up, freed}
use Rattle.region_forms.specs.Lives.{can_travel}
use Rattle.linear_forms.specs.Linear.{plain}
use Rattle.linear_forms.specs.Activation.{Code, Activation, State, goes_to}
use Rattle.linear_forms.specs.StubOperation.{is_bad, empty_call}
use Rattle.linear_forms.specs.Machine.{step}
use Rattle.linear_forms.specs.UnitRun.{code_of}
use Rattle.machine_pieces.specs.Turning.{Reaches}
use Rattle.machine_simulation.specs.Plan.{Plan}
use Rattle.machine_simulation.specs.Exceptions.{live_in}
use Rattle.machine_simulation.specs.Matches.{Matches}
use Rattle.machine_simulation.specs.Steps.{StepAt}
use Rattle.machine_simulation.specs.Objects.{without_object, Shows}

-- so many steps of the machine for linear code lead from a state to another
abbrev pub StepsTo : Code → ℕ → State → State → Type 0
StepsTo code zero st next = st ≡ next
StepsTo code (suc n) st next = (middle : State) × (step code st ≡ goes_to middle) × StepsTo code n middle next

-- the state behind the operation of the call that runs, in a world
abbrev pub behind : State → World → State
behind st v = record { top = record { function = st.top.function; place = st.top.place + 1; frame = st.top.frame }; frames = st.frames; world = v }

-- a call is at `leave`, and handlers are open: the newest is that of an entry
pub record AtLeave (p : Plan) (n : ℕ) (st middle : State) (x : Entry) (xs : List Entry) : Type 0 where
  pub at : StepAt p st middle n (plain leave)
  pub caught : st.world.caught ≡ x ∷ xs

-- the world in which an exception's object is given back that has no destructor: a call of an empty one counts for std::bad_exception
abbrev pub destroying : ℕ → World → World
destroying e v = with_item (Destroy e) (left v)

abbrev pub destroyed_world : (type e : ℕ) → List Activation → World → World
destroyed_world type e fs v = freed e (if is_bad (Some type) then empty_call fs (destroying e v) else destroying e v)

-- Where the exception has another handler or travels again, the handler is left and nothing else: three steps are matched by at most
-- fourteen turns. Where no handler has a foreign exception any more, it is cleaned up too. And one of this language without a destructor is
-- destroyed and freed: five steps are matched by at most eighteen turns.
pub record LeavesRun : Type 0 where
  pub still_handled : (image : Image) (p : Plan) (n : ℕ) (st middle : State) (x : Entry) (xs : List Entry) (w : abi.World) → Matches p st w → AtLeave p n st middle x xs → can_travel st.world x.number ≡ true → is_last x ≡ false →
      let next = behind st (left st.world) in let items = Leave x.number ∷ [] in
      StepsTo (code_of p.unit) 3 st next × Shows st next items × Reaches image 14 w items (λ u. Matches p next u)
  pub foreign_cleaned : (image : Image) (p : Plan) (n : ℕ) (st middle : State) (x : Entry) (xs : List Entry) (k token : ℕ) (w : abi.World) → Matches p st w → AtLeave p n st middle x xs → is_last x ≡ true →
      live_in st.world.live x.number ≡ Some (foreign k token) → let next = behind st (cleaned_up x.number k token (left st.world)) in let items = Leave x.number ∷ Clean k token ∷ [] in
      StepsTo (code_of p.unit) 3 st next × Shows st next items × Reaches image 14 w items (λ u. Matches (without_object p x.number) next u)
  pub freed_at_once : (image : Image) (p : Plan) (n : ℕ) (st middle : State) (x : Entry) (xs : List Entry) (type : ℕ) (kept : Installed) (w : abi.World) → Matches p st w → AtLeave p n st middle x xs → is_last x ≡ true →
      live_in st.world.live x.number ≡ Some (native type None kept) → let e = x.number in let next = behind st (destroyed_world type e (st.top ∷ st.frames) st.world) in let items = Leave e ∷ Destroy e ∷ Free e ∷ [] in
      StepsTo (code_of p.unit) 5 st next × Shows st next items × Reaches image 18 w items (λ u. Matches (without_object p e) next u)
