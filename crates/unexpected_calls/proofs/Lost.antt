-- What is raised in call_unexpected, and nothing stops: what the runtime call does.
use Rattle.std.proofs.Common.{◌≡◌, ◌∙◌, refl, ap, ℕ, suc, pos, ◌∷◌, Option, Some, None, option_map}
use Rattle.std.specs.Prelude.{◌⊎◌}
use Rattle.table_forms.specs.Verdict.{Thrown}
use Rattle.rv64_isa.specs.State as hart
use Rattle.rv64_isa.specs.Step.{x}
use Rattle.elf_image.specs.Clean.{CleanImage}
use Rattle.raise_core.specs.Raise as unwinder
use Rattle.raise_core.specs.declared.raised.Raised.TheVariants as answers
use Rattle.caught_stack.specs.declared.header.Header.{Header}
use Rattle.caught_stack.specs.Live.{header_of}
use Rattle.caught_stack.specs.Caught.{Caught}
use Rattle.caught_stack.specs.Exceptions.{Exceptions}
use Rattle.caught_stack.specs.Rethrow.{rethrown_on}
use Rattle.cxa_runtime.specs.World as abi
use Rattle.cxa_runtime.specs.World.{needs}
use Rattle.cxa_runtime.specs.Raising.{Image, thrown_of, raises as runtime_raises}
use Rattle.cxa_runtime.specs.Throw.{rethrow as rethrow_effect, rethrows, rethrows_object}
use Rattle.cxa_runtime.specs.Call.{call_effect, numbered}
use Rattle.eh_run.specs.Program.{program_of}
use Rattle.linear_forms.specs.Search.{found_above}
use Rattle.linear_forms.specs.Stub.{call_unexpected}
use Rattle.linear_forms.specs.Activation.{State}
use Rattle.linear_forms.specs.UnitRun.{code_of}
use Rattle.machine_forms.specs.Registers.{sp}
use Rattle.table_verdicts.specs.Types.{thrown_as}
use Rattle.image_tables.specs.Functions.{records_end, operation_at}
use Rattle.raise_simulation.specs.Raises.{RaisesAgree}
use Rattle.machine_simulation.specs.Plan.{Plan}
use Rattle.machine_raises.specs.Resumes.{TypeIsThere}
use Rattle.machine_raises.proofs.Onward.{type_base}
use Rattle.raise_ends.proofs.Again.{again_world}
use Rattle.stub_landings.specs.OwnCalls.{AtOwnCall}
use Rattle.stub_landings.specs.StubStacks.{StubStacksStand}

rethrow_is : (image : Image) (wish : ℕ) (t : abi.World) → call_effect 8 image wish t ≡ rethrow_effect image t
unfolding call_effect numbered
rethrow_is image wish t = refl

-- the unwinder finds no handler
pub own_lost : StubStacksStand → RaisesAgree → (i : CleanImage) (p : Plan) (number : ℕ) (st : State) (w : abi.World) (behind : hart.State) (t : Option ℕ) → AtOwnCall p i number call_unexpected st w behind → TypeIsThere p t →
    found_above (code_of p.unit) t (st.top ∷ st.frames) ≡ None → let raised = unwinder.raise (program_of i).image.fdes (thrown_as (records_end p.unit) p.unit.types t) behind in (raised ≡ (answers.Terminate, behind)) ⊎ (raised ≡ (answers.NoHandler, behind))
own_lost stands agree i p number st w behind t c type none =
    let found = stands p i call_unexpected c.back st.top st.frames st.world behind c.running c.inside in
    agree.lost (code_of p.unit) (operation_at p.unit) (program_of i).image.fdes (thrown_as (records_end p.unit) p.unit.types t) t behind (x behind sp) found.opens found.tail (found.raised t (type_base p t type)) (ap (found_above (code_of p.unit) t) found.are ∙ none)

-- the newest handled exception is thrown again
pub rethrows_so : (image : Image) (wish : ℕ) (y : abi.World) (slot n : ℕ) (more : Caught) (h : Header) (thrown : Thrown) → y.exceptions.caught ≡ (slot, pos (suc n)) ∷ more → header_of y.exceptions.live slot ≡ Some h → thrown_of y.hart h.kind ≡ Some thrown →
    call_effect 8 image wish y ≡ runtime_raises image y.exceptions (record { slot = slot; header = h }) thrown (again_world y slot n more)
rethrows_so image wish y slot n more h thrown caught there known =
    let e : Exceptions = (again_world y slot n more).exceptions in
    rethrow_is image wish y ∙ ap (λ ys. rethrows image y (rethrown_on ys y.exceptions)) caught ∙ ap (λ o. needs y (option_map (λ (z : Header). record { slot = slot; header = z }) o) (rethrows_object image y e)) there
    ∙ ap (λ f. needs y f (λ t. runtime_raises image y.exceptions (record { slot = slot; header = h }) t (again_world y slot n more))) known
