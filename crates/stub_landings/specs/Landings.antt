-- What is raised, goes on or is unwound in a compiled function comes to a landing pad, of a compiled function or of one of the runtime's own.
use Rattle.std.specs.Prelude.{◌≡◌, ℕ, ◌+◌, ◌<◌, false, ℤ, pos, List, [], ◌∷◌, length, slice_get, Option, Some}
use Rattle.eh_outer.specs.declared.module.Reply.{Reply}
use Rattle.eh_outer.specs.declared.module.Reply.TheVariants.{Raise}
use Rattle.run_items.specs.declared.item.Item.TheVariants.{Foreign}
use Rattle.rv64_isa.specs.Step.{x}
use Rattle.elf_image.specs.Clean.{CleanImage}
use Rattle.caught_stack.specs.Live.{slots}
use Rattle.cxa_runtime.specs.World as abi
use Rattle.eh_run.specs.Program.{program_of}
use Rattle.region_forms.specs.Form.{Place, Value, throw, rethrow}
use Rattle.region_forms.specs.World.{type_at}
use Rattle.region_forms.specs.Evaluation.{value_in}
use Rattle.region_forms.specs.Effect.{is_full, newest_of}
use Rattle.linear_forms.specs.Linear.{LinearOp, plain, resume}
use Rattle.linear_forms.specs.Stub.{Function, compiled, end_catch, terminating, call_unexpected}
use Rattle.linear_forms.specs.Activation.{State}
use Rattle.flight_homes.specs.Nest.{newest_call}
use Rattle.machine_forms.specs.Registers.{sp}
use Rattle.machine_forms.specs.LinearCode.{linear_code}
use Rattle.machine_simulation.specs.Plan.{Plan, shape, slot_kinds}
use Rattle.machine_simulation.specs.Asked.{ValueAsked}
use Rattle.machine_simulation.specs.Matches.{Matches}
use Rattle.machine_simulation.specs.Operations.{Matched, ForcedMatched}
use Rattle.machine_simulation.specs.Returns.{closed}
use Rattle.machine_simulation.specs.Steps.{StepAt}
use Rattle.machine_simulation.specs.Objects.{with_object, Shows}
use Rattle.machine_exceptions.specs.Answers.{CallsModule}
use Rattle.machine_raises.specs.Stacks.{IsRunning}
use Rattle.machine_raises.specs.Pads.{PadsArePlain, FiltersAreInts}
use Rattle.machine_raises.specs.Throws.{MayThrow, RaisedTo}
use Rattle.machine_raises.specs.Resumes.{TypeIsThere, ResumeAsked}
use Rattle.machine_raises.specs.Forced.{ForcedAsked, KeepsAll}
use Rattle.machine_raises.specs.Cancels.{Cancels}
use Rattle.machine_raises.specs.Modules.{RaisedForTo}
use Rattle.stub_landings.specs.Rests.{Rests}

-- the plan of a state that an unwind comes to: slots of calls newer than its newest compiled one are no longer live
abbrev pub resting : Plan → State → Plan
resting p st = closed p (newest_call (st.top ∷ st.frames))

-- the words of a pad that are done where the state rests: both of a compiled function's, and none of the runtime's own functions'
abbrev pub pad_words : Function → ℕ
pad_words (compiled m) = 2
pad_words end_catch = 0
pad_words terminating = 0
pad_words call_unexpected = 0

-- the program does not terminate there
abbrev pub GoesOn : State → Type 0
GoesOn next = next.top.function ≡ terminating → ⊥

-- A step that throws an exception, which something stops.
abbrev pub ThrowsLand : Type 0
ThrowsLand = (i : CleanImage) (p : Plan) (n s e t : ℕ) (d : Option ℕ) (st next : State) (w : abi.World) → Matches p st w → IsRunning p i w.hart → StepAt p st next n (plain (throw s t d)) → MayThrow p n st.top.frame s e t d → PadsArePlain p →
    FiltersAreInts p → GoesOn next → Shows st next [] × RaisedTo p i st next w e (x w.hart sp) (length (linear_code (shape p n) (plain (throw s t d))) + pad_words next.top.function) (λ u. Rests (resting p next) next u)

-- one that throws the newest handled exception again
abbrev pub RethrowsLand : Type 0
RethrowsLand = (i : CleanImage) (p : Plan) (n : ℕ) (st next : State) (w : abi.World) → Matches p st w → IsRunning p i w.hart → StepAt p st next n (plain rethrow) → TypeIsThere p (type_at st.world (newest_of st.world.caught)) → PadsArePlain p →
    FiltersAreInts p → GoesOn next → Shows st next [] × RaisedTo p i st next w (newest_of st.world.caught) (x w.hart sp) (length (linear_code (shape p n) (plain rethrow)) + pad_words next.top.function) (λ u. Rests (resting p next) next u)

-- one that calls a module which raises, where fewer than 1,024 exceptions are live
abbrev pub ModulesLand : Type 0
ModulesLand = (i : CleanImage) (pick : ℕ → ℕ) (p : Plan) (n : ℕ) (st next : State) (w : abi.World) (o : LinearOp) (wants : Option Place) (k token : ℕ) (left : List Reply) → Matches p st w → IsRunning p i w.hart → StepAt p st next n o →
    CallsModule p n st wants o (pos k) → slice_get st.world.replies k ≡ Some (Raise token ∷ left) → is_full st.world ≡ false → PadsArePlain p → FiltersAreInts p → GoesOn next →
    let e = st.world.last_number + 1 in
    Shows st next (Foreign e k token ∷ []) × (slot : ℕ) × (slot < slots) ×
    RaisedForTo p i pick st next w e (length (linear_code (shape p n) o) + pad_words next.top.function) (Foreign e k token ∷ []) (λ u. Rests (resting (with_object p e slot) next) next u)

-- one that goes on with an exception behind a cleanup
abbrev pub ResumesLand : Type 0
ResumesLand = (i : CleanImage) (p : Plan) (n s e d : ℕ) (st next : State) (w : abi.World) → Matches p st w → IsRunning p i w.hart → StepAt p st next n (resume s) → ResumeAsked p n st w s e d → PadsArePlain p → FiltersAreInts p → GoesOn next →
    Shows st next [] × Matched (program_of i).image (length (linear_code (shape p n) (resume s)) + pad_words next.top.function) w [] (λ u. Rests (resting p next) next u × (u.exceptions ≡ w.exceptions))

-- one that goes on with a forced unwind, and comes to a pad
abbrev pub ForcedLands : Type 0
ForcedLands = (i : CleanImage) (p : Plan) (n s : ℕ) (k : ℤ) (st next : State) (w : abi.World) → Matches p st w → IsRunning p i w.hart → StepAt p st next n (resume s) → ForcedAsked p n st w s k → PadsArePlain p → FiltersAreInts p → GoesOn next →
    Shows st next [] × Matched (program_of i).image (length (linear_code (shape p n) (resume s)) + pad_words next.top.function) w [] (λ u. Rests (resting p next) next u × KeepsAll w u)

-- one that begins a forced unwind, and comes to a pad
abbrev pub CancelsLand : Type 0
CancelsLand = (i : CleanImage) (p : Plan) (n : ℕ) (st next : State) (w : abi.World) (o : LinearOp) (v : Value) → Matches p st w → IsRunning p i w.hart → StepAt p st next n o → Cancels v o → ValueAsked p n st.top.frame st.world v → PadsArePlain p →
    FiltersAreInts p → GoesOn next → Shows st next [] × (k : ℤ) × (value_in (slot_kinds p n) st.top.frame st.world v ≡ Some k) ×
    ForcedMatched (program_of i).image (length (linear_code (shape p n) o) + pad_words next.top.function) w [] (λ u. Rests (resting p next) next u × (u.exceptions ≡ w.exceptions) × (u.unwinding ≡ Some k))
