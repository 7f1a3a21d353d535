-- The runtime's own functions go on with what is on its way, which comes to a landing pad.
use Rattle.std.specs.Prelude.{◌≡◌, ℕ, ◌+◌, ℤ, [], ◌∷◌}
use Rattle.run_items.specs.declared.item.Item.TheVariants.{Free}
use Rattle.elf_image.specs.Clean.{CleanImage}
use Rattle.cxa_runtime.specs.World as abi
use Rattle.eh_run.specs.Program.{program_of}
use Rattle.region_forms.specs.World.{exception_in_slot}
use Rattle.region_forms.specs.Effect.{freed}
use Rattle.linear_forms.specs.Activation.{State, goes_to}
use Rattle.linear_forms.specs.Machine.{step}
use Rattle.linear_forms.specs.UnitRun.{code_of}
use Rattle.machine_simulation.specs.Plan.{Plan}
use Rattle.machine_simulation.specs.Operations.{Matched}
use Rattle.machine_simulation.specs.Objects.{without_object, Shows}
use Rattle.machine_exceptions.specs.Leaves.{StepsTo, behind}
use Rattle.machine_raises.specs.Pads.{PadsArePlain, FiltersAreInts}
use Rattle.machine_raises.specs.Stacks.{IsRunning}
use Rattle.machine_raises.specs.Forced.{KeepsAll}
use Rattle.stub_landings.specs.Rests.{FreesOnTheWay, LeavesOn, Rests}
use Rattle.stub_landings.specs.Landings.{resting, pad_words, GoesOn}
use Rattle.own_ends.specs.Flights.{FliesOn, UnwindsOn}

-- call_unexpected has left both handlers, and goes on with an exception, or with a forced unwind
pub record OwnFlightsGoOn : Type 0 where
  pub resumes : (i : CleanImage) (p : Plan) (e d : ℕ) (st next : State) (w : abi.World) → LeavesOn p 57 17 st w → IsRunning p i w.hart → FliesOn p st w 4 17 e d → step (code_of p.unit) st ≡ goes_to next → PadsArePlain p → FiltersAreInts p →
      GoesOn next → Shows st next [] × Matched (program_of i).image (3 + pad_words next.top.function) w [] (λ u. Rests (resting p next) next u × (u.exceptions ≡ w.exceptions))
  pub unwinds : (i : CleanImage) (p : Plan) (k : ℤ) (st next : State) (w : abi.World) → LeavesOn p 57 17 st w → IsRunning p i w.hart → UnwindsOn st w 4 k → step (code_of p.unit) st ≡ goes_to next → PadsArePlain p → FiltersAreInts p →
      GoesOn next → Shows st next [] × Matched (program_of i).image (3 + pad_words next.top.function) w [] (λ u. Rests (resting p next) next u × KeepsAll w u)

-- the exception whose destructor end_catch has called
abbrev pub held_back : State → ℕ
held_back st = exception_in_slot st.top.frame 0

-- the state in which end_catch has freed it
abbrev pub freed_on_the_way : State → State
freed_on_the_way st = behind st (freed (held_back st) st.world)

-- end_catch goes on
abbrev pub CatchGoesOn : CleanImage → Plan → (st next : State) → abi.World → Type 0
CatchGoesOn i p st next w = let e = held_back st in
    StepsTo (code_of p.unit) 2 st next × Shows st next (Free e ∷ []) × Matched (program_of i).image (8 + pad_words next.top.function) w (Free e ∷ []) (λ u. Rests (resting (without_object p e) next) next u)

-- What came out of a destructor is on its way out of end_catch, which frees the object, and goes on with it.
pub record CatchFreesOnTheWay : Type 0 where
  pub frees : (i : CleanImage) (p : Plan) (st : State) (w : abi.World) → FreesOnTheWay p st w → step (code_of p.unit) st ≡ goes_to (freed_on_the_way st)
  pub resumes : (i : CleanImage) (p : Plan) (e d : ℕ) (st next : State) (w : abi.World) → FreesOnTheWay p st w → IsRunning p i w.hart → FliesOn p st w 2 6 e d → step (code_of p.unit) (freed_on_the_way st) ≡ goes_to next → PadsArePlain p → FiltersAreInts p →
      GoesOn next → CatchGoesOn i p st next w
  pub unwinds : (i : CleanImage) (p : Plan) (k : ℤ) (st next : State) (w : abi.World) → FreesOnTheWay p st w → IsRunning p i w.hart → UnwindsOn st w 2 k → step (code_of p.unit) (freed_on_the_way st) ≡ goes_to next → PadsArePlain p → FiltersAreInts p →
      GoesOn next → CatchGoesOn i p st next w
