-- Where the program terminates, on the machine for linear code.
use Rattle.std.proofs.Common.{◌≡◌, ◌∙◌, refl, ap, ℕ, Bool, true, false, List, [], ◌∷◌, ◌++◌, Option, Some, None, is_some}
use Rattle.std.specs.Prelude.{if◌then◌else◌}
use Rattle.meaning_forms.specs.Outcome.{aborted}
use Rattle.run_items.specs.declared.item.Item.{Item}
use Rattle.region_forms.specs.World.{World, nothing}
use Rattle.linear_forms.specs.Stub.{terminating}
use Rattle.linear_forms.specs.Activation.{Activation, State, Next, at as linear_at, finishes, by_program, stub_frame, function_word, terminated}
use Rattle.linear_forms.specs.Machine.{step, go_on, exec}
use Rattle.linear_forms.specs.UnitRun.{code_of}
use Rattle.machine_simulation.specs.Plan.{Plan, slot_kinds}
use Rattle.machine_simulation.specs.Objects.{Shows}
use Rattle.machine_simulation.proofs.Given.{same_beside}
use Rattle.machine_exceptions.specs.Leaves.{StepsTo}
use Rattle.machine_exceptions.specs.Terminates.{waiting_terminate, ending_world, in_handler}
use Rattle.raise_ends.specs.Ends.{LinearEnds, HandlerBegins}

-- the run is over at once
pub over_at_once : (p : Plan) (st : State) (v : World) (items : List Item) → step (code_of p.unit) st ≡ finishes (by_program aborted) v → v.items ≡ st.world.items ++ items → LinearEnds p 3 st items aborted
over_at_once p st v items is shown = (v, ap (go_on (exec (code_of p.unit) 2)) is, shown)

-- what terminate leads to, where it does not run yet
abbrev pub first_state : Option ℕ → List Activation → World → Next
first_state h fs v = linear_at terminating 0 (stub_frame (function_word h) nothing nothing) fs (record v { ending = is_some h })

abbrev pub first_step : Option ℕ → List Activation → World → Bool → Next
first_step h fs v b = if b then finishes (by_program aborted) v else first_state h fs v

-- it runs already
pub over_again : (p : Plan) (st : State) (h : Option ℕ) (fs : List Activation) (v : World) (items : List Item) → step (code_of p.unit) st ≡ terminated h fs v → v.ending ≡ true → v.items ≡ st.world.items ++ items → LinearEnds p 3 st items aborted
over_again p st h fs v items is running shown = over_at_once p st v items (is ∙ ap (first_step h fs v) running) shown

-- it has no handler
pub over_without : (p : Plan) (st : State) (h : Option ℕ) (fs : List Activation) (v : World) (items : List Item) → step (code_of p.unit) st ≡ terminated h fs v → v.ending ≡ false → h ≡ None → v.items ≡ st.world.items ++ items →
    LinearEnds p 3 st items aborted
over_without p st h fs v items is quiet none shown =
    (record v { ending = false }, ap (go_on (exec (code_of p.unit) 2)) (is ∙ ap (first_step h fs v) quiet ∙ ap (λ o. first_state o fs v) none), shown)

-- its handler begins
pub handler_in_two : (p : Plan) (m : ℕ) (st waiting : State) (h : Option ℕ) (items : List Item) → step (code_of p.unit) st ≡ terminated h (waiting.top ∷ waiting.frames) waiting.world → waiting.world.ending ≡ false → h ≡ Some m →
    waiting.world.items ≡ st.world.items ++ items → HandlerBegins p m st waiting items
handler_in_two p m st waiting h items is quiet some shown =
    let v : World = waiting.world in
    let fs : List Activation = waiting.top ∷ waiting.frames in
    let two : StepsTo (code_of p.unit) 2 st (in_handler p m waiting) = (
      record { top = waiting_terminate m; frames = fs; world = ending_world v },
      is ∙ ap (first_step h fs v) quiet ∙ ap (λ o. first_state o fs v) some,
      (in_handler p m waiting, refl, refl),
    ) in
    let shows : Shows st (in_handler p m waiting) items = (same_beside (slot_kinds p m) v.calls 0 [] (ending_world v)).items ∙ shown in
    (two, shows)
