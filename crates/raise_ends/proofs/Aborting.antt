-- Both machines abort, where no terminate handler is called.
use Rattle.std.proofs.Common.{◌≡◌, ◌∙◌, refl, sym, ap, subst, arith, ℕ, ◌+◌, ◌≤◌, Bool, true, false, List, [], ◌++◌, Option, None, inl, inr}
use Rattle.std.specs.Prelude.{if◌then◌else◌}
use Rattle.run_items.specs.declared.item.Item.{Item}
use Rattle.rv64_isa.specs.declared.step.Step.TheVariants.{Ecall}
use Rattle.rv64_isa.specs.State.{State}
use Rattle.rv64_isa.specs.Step.{step_of, x}
use Rattle.cxa_runtime.specs.World as abi
use Rattle.cxa_runtime.specs.Raising.{Image}
use Rattle.cxa_runtime.specs.Call.{call_effect}
use Rattle.cxa_runtime.specs.Terminate.{terminates}
use Rattle.region_forms.specs.World.{World}
use Rattle.linear_forms.specs.Activation.{Activation, State as LinearState, terminated}
use Rattle.linear_forms.specs.Machine.{step}
use Rattle.linear_forms.specs.UnitRun.{code_of}
use Rattle.machine_forms.specs.Registers.{a7}
use Rattle.machine_pieces.specs.Turning.{Turns}
use Rattle.machine_stubs.specs.Calls.{asked, CallsAreMade}
use Rattle.machine_stubs.specs.Terminate.{TerminateRuns}
use Rattle.machine_stubs.specs.Terminates.{MayTerminate}
use Rattle.machine_simulation.specs.Plan.{Plan}
use Rattle.machine_simulation.specs.Exceptions.{Addresses, addresses_of, IsFunction}
use Rattle.raise_ends.specs.Ends.{BothAbort, NoneIsCalled, unless_ending}
use Rattle.raise_ends.proofs.Steps.{over_again, over_without}
use Rattle.raise_ends.proofs.Comes.{aborts_again, aborts_without}

-- ---- what is shown, by whether terminate runs

pub shown_again : (v : World) (items : List Item) → v.ending ≡ true → unless_ending v items ≡ []
shown_again v items running = ap (λ b. if b then [] else items) running

pub shown_first : (v : World) (items : List Item) → v.ending ≡ false → unless_ending v items ≡ items
shown_first v items quiet = ap (λ b. if b then [] else items) quiet

-- no handler is called, and terminate does not run
pub no_handler : (v : World) (h : Option ℕ) → NoneIsCalled v h → v.ending ≡ false → h ≡ None
no_handler v h (inl running) quiet = absurd (let both : true ≡ false = sym running ∙ quiet in cc both)
no_handler v h (inr none) quiet = none

pub no_address : (t : Addresses) (h : Option ℕ) (a : ℕ) → IsFunction t h a → h ≡ None → a ≡ 0
no_address t h a is none = subst (λ k. IsFunction t k a) none is

-- both abort, by whether terminate runs
pub both_abort : (image : Image) (pick : ℕ → ℕ) (k : ℕ) (p : Plan) (st : LinearState) (w : abi.World) (items : List Item) → (st.world.ending ≡ true → BothAbort image pick k p st w []) → (st.world.ending ≡ false → BothAbort image pick k p st w items) →
    BothAbort image pick k p st w (unless_ending st.world items)
both_abort image pick k p st w items again first = by st.world.ending refl
  where
    by : (b : Bool) → st.world.ending ≡ b → BothAbort image pick k p st w (unless_ending st.world items)
    by true is = subst (BothAbort image pick k p st w) (sym (shown_again st.world items is)) (again is)
    by false is = subst (BothAbort image pick k p st w) (sym (shown_first st.world items is)) (first is)

-- a runtime call calls terminate, as the step of linear code does
pub aborts_both : CallsAreMade → TerminateRuns → (image : Image) (pick : ℕ → ℕ) (k : ℕ) (p : Plan) (st : LinearState) (fs : List Activation) (v : World) (w : abi.World) (turns number handler : ℕ) (at to : abi.World) (behind : State) (items : List Item) (h : Option ℕ) →
    Turns image turns w at [] → step_of at.hart ≡ (Ecall, behind) → x behind a7 ≡ number → call_effect number image (pick (at.last_number + 1)) (asked behind at) ≡ terminates image.places handler to → to.terminating ≡ st.world.ending →
    MayTerminate p.unit p.base image to → to.shown ≡ items → step (code_of p.unit) st ≡ terminated h fs v → v.ending ≡ st.world.ending → v.items ≡ st.world.items ++ items → NoneIsCalled st.world h → IsFunction (addresses_of p) h handler →
    turns + 8 ≤ k → BothAbort image pick k p st w items
aborts_both made runs image pick k p st fs v w turns number handler at to behind items h goes calls asks effect same may shown steps ending more none known many = by st.world.ending refl
  where
    by : (b : Bool) → st.world.ending ≡ b → BothAbort image pick k p st w items
    by true ends = (
      over_again p st h fs v items steps (ending ∙ ends) more,
      aborts_again made image pick k turns number handler w at to behind items goes calls asks effect (same ∙ ends) shown (omega (arith, many)),
    )
    by false quiet = (
      over_without p st h fs v items steps (ending ∙ quiet) (no_handler st.world h none quiet) more,
      aborts_without made runs image pick k turns number handler p.unit p.base w at to behind items goes calls asks effect (same ∙ quiet) (no_address (addresses_of p) h handler known (no_handler st.world h none quiet)) may shown many,
    )
