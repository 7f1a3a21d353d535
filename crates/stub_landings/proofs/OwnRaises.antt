-- What is raised, goes on or is unwound in one of the runtime's own functions comes to where the next state rests.
use Rattle.std.proofs.Common.{◌≡◌, ◌∙◌, refl, sym, ap, subst, arith, ℕ, ◌+◌, ◌≤◌, ◌∷◌, append-nil, None, inl, inr}
use Rattle.rv64_isa.specs.State as hart
use Rattle.rv64_isa.specs.Step.{x}
use Rattle.elf_image.specs.Clean.{CleanImage}
use Rattle.cxa_runtime.specs.World as abi
use Rattle.region_forms.specs.Ending.{bad_row}
use Rattle.region_forms.specs.World.{World, exception_of, exception_in_slot, type_at}
use Rattle.region_forms.specs.Lives.{is_being_built}
use Rattle.region_forms.specs.Effect.{raises, only_where, kept, newest_of}
use Rattle.linear_forms.specs.Stub.{Function, end_catch, call_unexpected}
use Rattle.linear_forms.specs.Activation.{State, goes_to, fetch}
use Rattle.linear_forms.specs.Machine.{act_on, step}
use Rattle.linear_forms.specs.Operation.{performed, resumed}
use Rattle.linear_forms.specs.Unwinding.{unwound_above}
use Rattle.linear_forms.specs.Forced.{forced_above}
use Rattle.linear_forms.specs.UnitRun.{code_of}
use Rattle.machine_forms.specs.Registers.{sp}
use Rattle.machine_stubs.specs.Calls.{CallsAreMade}
use Rattle.machine_stubs.specs.CallUnexpected.{bad_record}
use Rattle.image_forms.specs.Placed.{record_at}
use Rattle.image_tables.specs.Functions.{records_end}
use Rattle.raise_simulation.specs.Raises.{RaisesAgree}
use Rattle.raise_simulation.specs.Resumes.{ResumesAgree, ForcedAgree}
use Rattle.machine_simulation.specs.Plan.{Plan}
use Rattle.machine_raises.specs.Throws.{RaisedTo}
use Rattle.machine_raises.specs.Resumes.{TypeIsThere}
use Rattle.machine_raises.proofs.AtCalls.{AtCall}
use Rattle.machine_raises.proofs.Throwing.{throws_from, throw_call}
use Rattle.machine_raises.proofs.Rethrowing.{rethrows_from, rethrow_call}
use Rattle.machine_raises.proofs.Resuming.{resume_call}
use Rattle.machine_raises.proofs.Forcing.{forced_call}
use Rattle.stub_landings.specs.Rests.{Rests}
use Rattle.stub_landings.specs.OwnCalls.{AtOwnCall}
use Rattle.stub_landings.specs.Landings.{resting, pad_words}
use Rattle.stub_landings.specs.OwnRaises.{OwnStep, ResumesAt, OwnThrowsLand, OwnRethrowsLand, OwnResumesLand, OwnForcedLands}
use Rattle.stub_landings.proofs.Own.{own_on_stack}
use Rattle.stub_landings.proofs.Entering.{RaisesHere, enters_any}

abbrev Resting : State → Plan → abi.World → Type 0
Resting next p u = Rests (resting p next) next u

as_call : (p : Plan) (i : CleanImage) (number : ℕ) (f : Function) (st : State) (w : abi.World) (behind : hart.State) → AtOwnCall p i number f st w behind → AtCall p i number st.top st.frames st.world w behind
as_call p i number f st w behind c = record {
  calls = c.calls;
  asks = c.asks;
  running = c.running;
  on = own_on_stack p f c.back st.top st.frames st.world behind c.running.base c.inside;
  runtime = c.runtime;
}

-- a place beside that of a call
elsewhere : (st : State) (k : ℕ) → st.top.place ≡ k → 2 ≤ k → RaisesHere st.top
elsewhere st k there far place own = absurd (omega (arith, there, far, place))

-- the operation at the place
step_from : (p : Plan) (f : Function) (k : ℕ) (st next : State) → st.top.function ≡ f → OwnStep p f k st next → act_on (code_of p.unit) (fetch (code_of p.unit) f k) st.top st.frames st.world ≡ goes_to next
step_from p f k st next runs at =
    sym (ap (λ n. act_on (code_of p.unit) (fetch (code_of p.unit) f n) st.top st.frames st.world) at.there)
    ∙ (sym (ap (λ g. act_on (code_of p.unit) (fetch (code_of p.unit) g st.top.place) st.top st.frames st.world) runs) ∙ at.step)

pub own_throws_land : CallsAreMade → RaisesAgree → OwnThrowsLand
own_throws_land made agree i p e st next w behind c at holds object record_is none known bases plains ints on =
    let enters = enters_any i st.top next (elsewhere st 13 at.there (omega arith)) on in
    let number : exception_in_slot st.top.frame 7 ≡ e = ap exception_of holds in
    let went = ap (λ k. performed (code_of p.unit) (only_where (is_being_built st.world k) (raises k (kept k bad_row None st.world))) st.top st.frames st.world) (sym number) ∙ step_from p call_unexpected 13 st next c.inside.runs at in
    let type : bad_record p.base ≡ record_at (records_end p.unit) bad_row = ap (λ b. record_at b bad_row) c.running.base in
    let all = throw_call made agree (pad_words next.top.function) (Resting next) i p e bad_row 0 None st next w behind enters on (as_call p i 5 call_unexpected st w behind c) object (record_is ∙ type) none refl known bases
    (throws_from p e bad_row None st next went) plains ints in
    (ap (λ (u : World). u.items) all.0 ∙ sym (append-nil st.world.items), all.1)

pub own_rethrows_land : CallsAreMade → RaisesAgree → OwnRethrowsLand
own_rethrows_land made agree i p st next w behind c at types plains ints on =
    let enters = enters_any i st.top next (elsewhere st 10 at.there (omega arith)) on in
    let step = rethrows_from p st next on (step_from p call_unexpected 10 st next c.inside.runs at) in
    let number : newest_of st.world.caught ≡ step.entry.number = ap newest_of step.caught in
    let words : ℕ = pad_words next.top.function in
    let all = rethrow_call made agree words (Resting next) i p st next w behind enters on (as_call p i 8 call_unexpected st w behind c) step (subst (λ k. TypeIsThere p (type_at st.world k)) number types) plains ints in
    (ap (λ (u : World). u.items) all.0 ∙ sym (append-nil st.world.items), subst (λ k. RaisedTo p i st next w k (x behind sp) (1 + words) (Resting next p)) (sym number) all.1)

-- what a resume does
resumes_from : (p : Plan) (f : Function) (place slot : ℕ) (st next : State) → ResumesAt f place slot → st.top.function ≡ f → OwnStep p f place st next → resumed (code_of p.unit) (st.top.frame.slots slot) st.top st.frames st.world ≡ goes_to next
resumes_from p f place slot st next (inl (is, there, at)) runs step =
    ap (λ s. resumed (code_of p.unit) (st.top.frame.slots s) st.top st.frames st.world) at
    ∙ step_from p end_catch 6 st next (runs ∙ is) (record { there = step.there ∙ there; step = step.step })
resumes_from p f place slot st next (inr (is, there, at)) runs step =
    ap (λ s. resumed (code_of p.unit) (st.top.frame.slots s) st.top st.frames st.world) at
    ∙ step_from p call_unexpected 17 st next (runs ∙ is) (record { there = step.there ∙ there; step = step.step })

far : (f : Function) (place slot : ℕ) → ResumesAt f place slot → 2 ≤ place
far f place slot (inl (is, there, at)) = omega (arith, there)
far f place slot (inr (is, there, at)) = omega (arith, there)

pub own_resumes_land : CallsAreMade → ResumesAgree → OwnResumesLand
own_resumes_land made agree i p f place slot e d st next w behind c resumes at is object asks plains ints on =
    let enters = enters_any i st.top next (elsewhere st place at.there (far f place slot resumes)) on in
    let step : unwound_above (code_of p.unit) d e (st.top ∷ st.frames) st.world ≡ goes_to next
    = sym (ap (λ y. resumed (code_of p.unit) y st.top st.frames st.world) is) ∙ resumes_from p f place slot st next resumes c.inside.runs at in
    let all = resume_call made agree (pad_words next.top.function) (Resting next) i p e d st next w behind enters on (as_call p i 9 f st w behind c) object
    (record { exception = asks.exception; travels = asks.travels; target = asks.target; aimed = asks.aimed; unwinds = step }) plains ints in
    (ap (λ (u : World). u.items) all.0 ∙ sym (append-nil st.world.items), all.1)

pub own_forced_lands : CallsAreMade → ForcedAgree → OwnForcedLands
own_forced_lands made agree i p f place slot k st next w behind c resumes at is zero on_way plains ints on =
    let enters = enters_any i st.top next (elsewhere st place at.there (far f place slot resumes)) on in
    let step : forced_above (code_of p.unit) k (st.top ∷ st.frames) st.world ≡ goes_to next
    = sym (ap (λ y. resumed (code_of p.unit) y st.top st.frames st.world) is) ∙ resumes_from p f place slot st next resumes c.inside.runs at in
    let all = forced_call made agree (pad_words next.top.function) (Resting next) i p k st next w behind enters on (as_call p i 9 f st w behind c) zero on_way step plains ints in
    (ap (λ (u : World). u.items) all.0 ∙ sym (append-nil st.world.items), all.1)
