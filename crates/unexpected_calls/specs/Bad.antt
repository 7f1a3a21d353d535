-- What comes out of the unexpected handler is not allowed, but bad_exception is listed: a bad_exception is thrown in its place (ISO/IEC 14882:2003,
-- 15.5.2).
use Rattle.std.specs.Prelude.{◌≡◌, ℕ, ◌+◌, ◌<◌, false, pos, [], ◌∷◌, Option}
use Rattle.meaning_forms.specs.World.{Installed}
use Rattle.run_items.specs.declared.item.Item.TheVariants.{Enter, Make}
use Rattle.elf_image.specs.Clean.{CleanImage}
use Rattle.caught_stack.specs.Live.{slots}
use Rattle.cxa_runtime.specs.World as abi
use Rattle.region_forms.specs.Ending.{bad_row}
use Rattle.region_forms.specs.Unexpected.{made}
use Rattle.region_forms.specs.World.{address_word, number_word, object_address, with_slot}
use Rattle.region_forms.specs.Effect.{entered, is_full}
use Rattle.linear_forms.specs.Stub.{call_unexpected}
use Rattle.linear_forms.specs.StubOperation.{empty_call}
use Rattle.linear_forms.specs.Activation.{State, goes_to}
use Rattle.linear_forms.specs.Machine.{step}
use Rattle.linear_forms.specs.UnitRun.{code_of}
use Rattle.table_verdicts.specs.Types.{ChainEnds}
use Rattle.machine_simulation.specs.Plan.{Plan}
use Rattle.machine_simulation.specs.Objects.{with_object, Shows}
use Rattle.machine_exceptions.specs.Leaves.{StepsTo}
use Rattle.machine_raises.specs.Pads.{PadsArePlain, FiltersAreInts}
use Rattle.machine_raises.specs.Modules.{RaisedForTo}
use Rattle.stub_landings.specs.Rests.{Rests}
use Rattle.stub_landings.specs.Landings.{resting, pad_words, GoesOn}
use Rattle.unexpected_calls.specs.Thrown.{ThrownOut, list_says}

-- the state where it is thrown: it is made, and the call of its empty constructor has counted
abbrev pub bad_state : ℕ → State → State
bad_state e st = record {
  top = record {
    function = call_unexpected;
    place = 13;
    frame = with_slot 7 (address_word (object_address (st.world.last_number + 1))) (with_slot 6 (number_word (pos 1)) st.top.frame);
  };
  frames = st.frames;
  world = empty_call st.frames (made (entered e st.world));
}

-- Where fewer than 1,024 exceptions are live, and something stops it, eight steps lead to where the next state rests, and are matched, whatever slots
-- are picked. They show that the one is entered and the other made, which has its object in a slot that was vacant.
abbrev pub BadIsThrown : Type 0
BadIsThrown = (i : CleanImage) (pick : ℕ → ℕ) (p : Plan) (e d type : ℕ) (destructor : Option ℕ) (kept : Installed) (j : ℕ) (st next : State) (w : abi.World) → (h : ThrownOut i p e d type destructor kept j st w) → list_says p h.rests.kept.owner j type ≡ pos 1 →
    is_full st.world ≡ false → ChainEnds p.unit.types bad_row → let raising = bad_state e st in step (code_of p.unit) raising ≡ goes_to next → GoesOn next → PadsArePlain p → FiltersAreInts p →
    let bad = st.world.last_number + 1 in let items = Enter e ∷ Make bad ∷ [] in
    StepsTo (code_of p.unit) 8 st next × Shows st next items × (slot : ℕ) × (slot < slots) ×
    RaisedForTo (with_object p bad slot) i pick raising next w bad (31 + pad_words next.top.function) items (λ u. Rests (resting (with_object p bad slot) next) next u)
