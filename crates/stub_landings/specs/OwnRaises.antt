-- What is raised, goes on or is unwound in one of the runtime's own functions comes to a landing pad, of a compiled function or of one of these.
use Rattle.std.specs.Prelude.{◌≡◌, ◌⊎◌, ℕ, ◌+◌, ◌<◌, ℤ, [], ◌∷◌, length, Some}
use Rattle.rv64_isa.specs.State as hart
use Rattle.rv64_isa.specs.Step.{x}
use Rattle.elf_image.specs.Clean.{CleanImage}
use Rattle.cxa_runtime.specs.World as abi
use Rattle.cxa_runtime.specs.World.{a0, a1}
use Rattle.eh_run.specs.Program.{program_of}
use Rattle.region_forms.specs.Ending.{bad_row}
use Rattle.region_forms.specs.World.{of_exception, flying, unwinding, object_address, address_in, exception_type, type_at, Exception}
use Rattle.region_forms.specs.Effect.{newest_of}
use Rattle.linear_forms.specs.Stub.{Function, end_catch, call_unexpected}
use Rattle.linear_forms.specs.Activation.{State, goes_to}
use Rattle.linear_forms.specs.Machine.{step}
use Rattle.linear_forms.specs.UnitRun.{code_of}
use Rattle.machine_forms.specs.Registers.{sp, a2}
use Rattle.machine_forms.specs.RuntimeCall.{throw_call, rethrow_call, resume_call}
use Rattle.machine_stubs.specs.CallUnexpected.{bad_record}
use Rattle.table_verdicts.specs.Types.{ChainEnds}
use Rattle.exceptions_in_flight.specs.Targets.{HasTarget}
use Rattle.machine_simulation.specs.Plan.{Plan}
use Rattle.machine_simulation.specs.Operations.{Matched}
use Rattle.machine_simulation.specs.Objects.{Shows}
use Rattle.machine_raises.specs.Pads.{PadsArePlain, FiltersAreInts}
use Rattle.machine_raises.specs.Targets.{target_end}
use Rattle.machine_raises.specs.Throws.{AimedAt, RaisedTo}
use Rattle.machine_raises.specs.Resumes.{TypeIsThere, TravelsOn}
use Rattle.machine_raises.specs.Forced.{KeepsAll}
use Rattle.stub_landings.specs.Rests.{Rests}
use Rattle.stub_landings.specs.OwnCalls.{AtOwnCall}
use Rattle.stub_landings.specs.Landings.{resting, pad_words, GoesOn}

-- a step of linear code from a place of one of the runtime's own functions
pub record OwnStep (p : Plan) (f : Function) (place : ℕ) (st next : State) : Type 0 where
  pub there : st.top.place ≡ place
  pub step : step (code_of p.unit) st ≡ goes_to next

-- the last operation of end_catch and that of call_unexpected go on with what their pads got in a slot
abbrev pub ResumesAt : Function → (place slot : ℕ) → Type 0
ResumesAt f place slot = ((f ≡ end_catch) × (place ≡ 6) × (slot ≡ 2)) ⊎ ((f ≡ call_unexpected) × (place ≡ 17) × (slot ≡ 4))

-- A bad_exception is thrown in place of what is not allowed, which something stops.
abbrev pub OwnThrowsLand : Type 0
OwnThrowsLand = (i : CleanImage) (p : Plan) (e : ℕ) (st next : State) (w : abi.World) (behind : hart.State) → AtOwnCall p i throw_call call_unexpected st w behind → OwnStep p call_unexpected 13 st next → address_in (st.top.frame.slots 7) ≡ Some (object_address e) →
    x behind a0 ≡ p.at (of_exception e) → x behind a1 ≡ bad_record p.base → x behind a2 ≡ 0 → bad_row < length p.unit.types → ChainEnds p.unit.types bad_row → PadsArePlain p → FiltersAreInts p → GoesOn next →
    Shows st next [] × RaisedTo p i st next w e (x behind sp) (1 + pad_words next.top.function) (λ u. Rests (resting p next) next u)

-- What the unexpected handler threw is thrown again, which something stops.
abbrev pub OwnRethrowsLand : Type 0
OwnRethrowsLand = (i : CleanImage) (p : Plan) (st next : State) (w : abi.World) (behind : hart.State) → AtOwnCall p i rethrow_call call_unexpected st w behind → OwnStep p call_unexpected 10 st next → TypeIsThere p (type_at st.world (newest_of st.world.caught)) → PadsArePlain p →
    FiltersAreInts p → GoesOn next → Shows st next [] × RaisedTo p i st next w (newest_of st.world.caught) (x behind sp) (1 + pad_words next.top.function) (λ u. Rests (resting p next) next u)

-- an exception goes on towards its target, and its header has that
pub record OwnResumeAsked (p : Plan) (st : State) (w : abi.World) (e d stack : ℕ) : Type 0 where
  pub exception : Exception
  pub travels : TravelsOn p st e exception
  pub target : HasTarget (code_of p.unit) (exception_type exception) d (st.top ∷ st.frames)
  pub aimed : AimedAt w e (target_end p d stack (st.top ∷ st.frames))

-- An exception goes on behind a pad.
abbrev pub OwnResumesLand : Type 0
OwnResumesLand = (i : CleanImage) (p : Plan) (f : Function) (place slot e d : ℕ) (st next : State) (w : abi.World) (behind : hart.State) → AtOwnCall p i resume_call f st w behind → ResumesAt f place slot → OwnStep p f place st next → st.top.frame.slots slot ≡ flying e d →
    x behind a0 ≡ p.at (of_exception e) → OwnResumeAsked p st w e d (x behind sp) → PadsArePlain p → FiltersAreInts p → GoesOn next →
    Shows st next [] × Matched (program_of i).image (1 + pad_words next.top.function) w [] (λ u. Rests (resting p next) next u × (u.exceptions ≡ w.exceptions))

-- A forced unwind goes on behind a pad, and comes to another.
abbrev pub OwnForcedLands : Type 0
OwnForcedLands = (i : CleanImage) (p : Plan) (f : Function) (place slot : ℕ) (k : ℤ) (st next : State) (w : abi.World) (behind : hart.State) → AtOwnCall p i resume_call f st w behind → ResumesAt f place slot → OwnStep p f place st next → st.top.frame.slots slot ≡ unwinding k →
    x behind a0 ≡ 0 → w.unwinding ≡ Some k → PadsArePlain p → FiltersAreInts p → GoesOn next →
    Shows st next [] × Matched (program_of i).image (1 + pad_words next.top.function) w [] (λ u. Rests (resting p next) next u × KeepsAll w u)
