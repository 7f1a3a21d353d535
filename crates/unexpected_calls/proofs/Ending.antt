-- Steps and turns up to a call that terminates, and what comes then.
use Rattle.std.proofs.Common.{◌≡◌, ◌∙◌, refl, sym, ap, subst, arith, ℕ, ◌+◌, ◌-◌, ◌≤◌, Bool, true, false, List, [], ◌∷◌, ◌++◌, append-nil, append_assoc, Option, Some}
use Rattle.run_items.specs.declared.item.Item.{Item}
use Rattle.cxa_runtime.specs.declared.effect.End.TheVariants.{Aborted, Stack}
use Rattle.cxa_runtime.specs.World as abi
use Rattle.cxa_runtime.specs.Raising.{Image}
use Rattle.linear_forms.specs.Activation.{Activation, State, terminated}
use Rattle.linear_forms.specs.Machine.{step}
use Rattle.linear_forms.specs.UnitRun.{code_of}
use Rattle.machine_pieces.specs.Turning.{Turns, Reaches}
use Rattle.machine_stubs.specs.Calls.{CallsAreMade}
use Rattle.machine_stubs.specs.Terminate.{TerminateRuns}
use Rattle.machine_simulation.specs.Plan.{Plan, slot_kinds}
use Rattle.machine_simulation.specs.Matches.{Matches}
use Rattle.machine_simulation.specs.Entering.{entry_turns}
use Rattle.machine_simulation.specs.Objects.{Shows}
use Rattle.machine_simulation.proofs.Given.{same_beside}
use Rattle.machine_exceptions.specs.Leaves.{StepsTo}
use Rattle.machine_exceptions.specs.Picks.{TurnsFor}
use Rattle.machine_exceptions.specs.Terminates.{ending_world, in_handler}
use Rattle.machine_exceptions.proofs.Picking.{turns_for}
use Rattle.raise_ends.specs.Ends.{RunEnds, NoneIsCalled, HandlerFits, plan_in_handler}
use Rattle.raise_ends.proofs.Steps.{handler_in_two}
use Rattle.raise_ends.proofs.Aborting.{no_handler}
use Rattle.stack_bounds.specs.Overflow.{FunctionsOverflow}
use Rattle.unexpected_calls.specs.Terminates.{BothAbort}
use Rattle.unexpected_calls.specs.Overflow.{TerminateLacksRoom}
use Rattle.unexpected_calls.proofs.Steps.{steps_on, exec_on}
use Rattle.unexpected_calls.proofs.Sent.{Asks, asks_aborts, asks_again, asks_begins, asks_overflows, reaches_most, then_reaches, then_ends}
use Rattle.unexpected_calls.proofs.Without.{linear_ends}

module _ (made : CallsAreMade) (runs : TerminateRuns) (image : Image) (p : Plan) (n count turns most : ℕ) (caller : Activation) (others : List Activation) (st waiting : State) (h : Option ℕ) (w at : abi.World) (back : ℕ) (items : List Item)
    (steps : StepsTo (code_of p.unit) count st waiting) (ends : step (code_of p.unit) waiting ≡ terminated h (waiting.top ∷ waiting.frames) waiting.world) (shown : waiting.world.items ≡ st.world.items ++ items) (front : Turns image turns w at items) (few : turns ≤ most)
    (c : Asks image p n caller others waiting h at back []) where
  pub then_handler : (m : ℕ) → waiting.world.ending ≡ false → h ≡ Some m → p.hidden ≡ 0 → HandlerFits p m waiting →
      StepsTo (code_of p.unit) (count + 2) st (in_handler p m waiting) × Shows st (in_handler p m waiting) items × Reaches image (most + 7 + entry_turns p m) w items (λ u. Matches (plan_in_handler p m waiting) (in_handler p m waiting) u)
  then_handler m quiet some hidden fits =
      let two = handler_in_two p m waiting waiting h [] ends quiet some (sym (append-nil waiting.world.items)) in
      let P : abi.World → Type 0 = λ u. Matches (plan_in_handler p m waiting) (in_handler p m waiting) u in
      let rest = asks_begins image p n caller others waiting h at back [] c made runs m quiet some hidden fits in (
        steps_on (code_of p.unit) count 2 st waiting (in_handler p m waiting) steps two.0,
        (same_beside (slot_kinds p m) waiting.world.calls 0 [] (ending_world waiting.world)).items ∙ shown,
        subst (λ is. Reaches image (most + 7 + entry_turns p m) w is P) (append-nil items) (reaches_most image (most + (7 + entry_turns p m)) (most + 7 + entry_turns p m) w (items ++ []) P (omega arith) (then_reaches image turns (7 + entry_turns p m) w at items [] P most front few rest)),
      )

  pub then_abort : (pick : ℕ → ℕ) (k : ℕ) → NoneIsCalled waiting.world h → most + 8 ≤ k → BothAbort image pick k p (count + 3) st w items
  then_abort pick k none many =
      let last = linear_ends p waiting h (waiting.top ∷ waiting.frames) waiting.world ends refl none in
      record {
        last = last.0;
        linear = exec_on (code_of p.unit) count 3 st waiting _ steps last.1;
        shown = last.2 ∙ append-nil waiting.world.items ∙ shown;
        run = subst (λ is. RunEnds image pick k w is Aborted) (append-nil items) (then_ends image pick k turns w at items [] (turns_for image pick turns w at items front) (omega (arith, few, many)) Aborted (by waiting.world.ending refl));
      }
    where
      by : (b : Bool) → waiting.world.ending ≡ b → RunEnds image pick (k - turns) at [] Aborted
      by true is = asks_again image p n caller others waiting h at back [] c made pick (k - turns) is (omega (arith, few, many))
      by false quiet = asks_aborts image p n caller others waiting h at back [] c made runs pick (k - turns) quiet (no_handler waiting.world h none quiet) (omega (arith, few, many))

-- its handler finds no room, and the run ends
pub then_overflow : CallsAreMade → TerminateRuns → FunctionsOverflow → (image : Image) (pick : ℕ → ℕ) (k : ℕ) (p : Plan) (n m count turns most : ℕ) (caller : Activation) (others : List Activation) (st from waiting : State) (h : Option ℕ) (w at : abi.World) (back : ℕ) (items more : List Item) →
    StepsTo (code_of p.unit) count st from → step (code_of p.unit) from ≡ terminated h (waiting.top ∷ waiting.frames) waiting.world → from.world.items ≡ st.world.items ++ items → waiting.world.items ≡ from.world.items ++ more → TurnsFor image pick turns w at items → turns ≤ most →
    Asks image p n caller others waiting h at back more → waiting.world.ending ≡ false → h ≡ Some m → p.hidden ≡ 0 → TerminateLacksRoom p m waiting → most + 13 ≤ k →
    StepsTo (code_of p.unit) (count + 2) st (in_handler p m waiting) × Shows st (in_handler p m waiting) (items ++ more) × RunEnds image pick k w (items ++ more) Stack
then_overflow made runs over image pick k p n m count turns most caller others st from waiting h w at back items more steps ends first shown front few c quiet some hidden lacks many =
    let two = handler_in_two p m from waiting h more ends quiet some shown in (
      steps_on (code_of p.unit) count 2 st from (in_handler p m waiting) steps two.0,
      (same_beside (slot_kinds p m) waiting.world.calls 0 [] (ending_world waiting.world)).items ∙ shown ∙ ap (λ is. is ++ more) first ∙ append_assoc st.world.items items more,
      then_ends image pick k turns w at items more front (omega (arith, few, many)) Stack
          (asks_overflows image p n caller others waiting h at back more c made runs m quiet some hidden over pick (k - turns) lacks (omega (arith, few, many))),
    )
