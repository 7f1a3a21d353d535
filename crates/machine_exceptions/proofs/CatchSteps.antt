-- The steps of the machine for linear code where a handler is left.
use Rattle.std.proofs.Common.{◌≡◌, ◌∙◌, ap, ℕ, true, false, pos, List, ◌∷◌, Some}
use Rattle.std.specs.Prelude.{if◌then◌else◌}
use Rattle.region_forms.specs.Form.{leave}
use Rattle.region_forms.specs.Caught.{Entry, is_last, gives_back}
use Rattle.region_forms.specs.World.{World, Exception, Frame, nothing, exception_at}
use Rattle.region_forms.specs.Effect.{left, newest_of, finished}
use Rattle.linear_forms.specs.Linear.{plain}
use Rattle.linear_forms.specs.Stub.{end_catch, linear}
use Rattle.linear_forms.specs.Activation.{Activation, State, goes_to, compiled_op, fetch, kinds, at, stub_frame, next_if}
use Rattle.linear_forms.specs.Machine.{step}
use Rattle.linear_forms.specs.Operation.{settled, wanted_by}
use Rattle.linear_forms.specs.StubOperation.{given_back, newest_left}
use Rattle.linear_forms.specs.UnitRun.{code_of}
use Rattle.machine_simulation.specs.Plan.{Plan}
use Rattle.machine_simulation.specs.Steps.{StepAt}
use Rattle.machine_simulation.proofs.Quiet.{step_is, plain_is}
use Rattle.machine_exceptions.specs.Leaves.{behind}
use Rattle.region_forms.specs.Lives.{can_travel, may_leave}

-- a state in end_catch, called by the call that ran
abbrev pub in_catch : State → (place : ℕ) → Frame → World → State
in_catch st place frame v = record { top = record { function = end_catch; place = place; frame = frame }; frames = st.top ∷ st.frames; world = v }

abbrev pub no_words : Frame
no_words = stub_frame nothing nothing nothing

-- it is called
pub leave_step : (p : Plan) (n : ℕ) (st middle : State) → StepAt p st middle n (plain leave) → step (code_of p.unit) st ≡ goes_to (in_catch st 0 no_words st.world)
leave_step p n st middle h = step_is p n st (plain leave) h.runs h.there ∙ plain_is p n st leave h.runs

-- the newest handler may be left, where its exception is live and built
leaves : (st : State) (x : Entry) (xs : List Entry) → st.world.caught ≡ x ∷ xs → can_travel st.world x.number ≡ true →
    newest_left 0 1 3 (record { function = end_catch; place = 0; frame = no_words }) (st.top ∷ st.frames) st.world
    ≡ (if gives_back st.world.caught then given_back (exception_at st.world (newest_of st.world.caught)) (newest_of st.world.caught) 0 1 3
    (record { function = end_catch; place = 0; frame = no_words }) (st.top ∷ st.frames) (left st.world) else at end_catch 3 no_words (st.top ∷ st.frames) (left st.world))
leaves st x xs caught built =
    ap (λ b. next_if b st.world (if gives_back st.world.caught then given_back (exception_at st.world (newest_of st.world.caught)) (newest_of st.world.caught) 0 1 3
    (record { function = end_catch; place = 0; frame = no_words }) (st.top ∷ st.frames) (left st.world) else at end_catch 3 no_words (st.top ∷ st.frames) (left st.world)))
    (ap (may_leave st.world) caught ∙ built)

-- the handler is left, where the exception has another one
pub still_step : (p : Plan) (st : State) (x : Entry) (xs : List Entry) → st.world.caught ≡ x ∷ xs → can_travel st.world x.number ≡ true → is_last x ≡ false → step (code_of p.unit) (in_catch st 0 no_words st.world) ≡ goes_to (in_catch st 3 no_words (left st.world))
still_step p st x xs caught built last =
    let v : World = st.world in
    let a : Activation = record { function = end_catch; place = 0; frame = no_words } in
    let fs : List Activation = st.top ∷ st.frames in
    let no : gives_back v.caught ≡ false = ap gives_back caught ∙ last in
    leaves st x xs caught built ∙ ap (λ b. if b then given_back (exception_at v (newest_of v.caught)) (newest_of v.caught) 0 1 3 a fs (left v) else at end_catch 3 no_words fs (left v)) no

-- or where it is given back
pub last_step : (p : Plan) (st : State) (x : Entry) (xs : List Entry) (y : Exception) → st.world.caught ≡ x ∷ xs → can_travel st.world x.number ≡ true → is_last x ≡ true → exception_at st.world x.number ≡ y →
    step (code_of p.unit) (in_catch st 0 no_words st.world) ≡ given_back y x.number 0 1 3 (record { function = end_catch; place = 0; frame = no_words }) (st.top ∷ st.frames) (left st.world)
last_step p st x xs y caught built last is =
    let v : World = st.world in
    let a : Activation = record { function = end_catch; place = 0; frame = no_words } in
    let fs : List Activation = st.top ∷ st.frames in
    let yes : gives_back v.caught ≡ true = ap gives_back caught ∙ last in
    leaves st x xs caught built ∙ ap (λ b. if b then given_back (exception_at v (newest_of v.caught)) (newest_of v.caught) 0 1 3 a fs (left v) else at end_catch 3 no_words fs (left v)) yes
    ∙ ap (λ ys. given_back (exception_at v (newest_of ys)) (newest_of ys) 0 1 3 a fs (left v)) caught ∙ ap (λ k. given_back k x.number 0 1 3 a fs (left v)) is

-- end_catch comes back
pub back_step : (p : Plan) (n : ℕ) (st middle : State) (frame : Frame) (v : World) → StepAt p st middle n (plain leave) → step (code_of p.unit) (in_catch st 3 frame v) ≡ goes_to (behind st v)
back_step p n st middle frame v h =
    let op : fetch (code_of p.unit) st.top.function st.top.place ≡ Some (linear (plain leave)) = ap (λ f. fetch (code_of p.unit) f st.top.place) h.runs ∙ ap compiled_op h.there in
    ap (λ o. settled (finished (kinds (code_of p.unit) st.top.function) (wanted_by o) (pos 0) st.top.frame v) st.top st.frames v) op
