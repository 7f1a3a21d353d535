-- A terminate handler finds no room, and the run ends.
use Rattle.std.proofs.Common.{refl, sym, ap, arith, ℕ, ◌+◌, false, pos, List, [], ◌∷◌, append-nil, append_assoc, length, None}
use Rattle.run_items.specs.declared.item.Item.{Item}
use Rattle.run_items.specs.declared.item.Item.TheVariants.{Enter, Make}
use Rattle.rv64_isa.specs.Step.{x}
use Rattle.cxa_runtime.specs.declared.effect.End.TheVariants.{Stack}
use Rattle.cxa_runtime.specs.World as abi
use Rattle.cxa_runtime.specs.Raising.{Image}
use Rattle.eh_run.specs.Program.{program_of}
use Rattle.linear_forms.specs.Linear.{unexpected, return}
use Rattle.linear_forms.specs.Activation.{State}
use Rattle.linear_forms.specs.UnitRun.{code_of}
use Rattle.machine_forms.specs.Registers.{sp}
use Rattle.machine_forms.specs.LinearCode.{linear_code}
use Rattle.machine_stubs.specs.Calls.{CallsAreMade}
use Rattle.machine_stubs.specs.Terminate.{TerminateRuns}
use Rattle.machine_stubs.specs.CallUnexpected.{UnexpectedBegins, UnexpectedChecks, UnexpectedAnswers}
use Rattle.raise_simulation.specs.Raises.{RaisesAgree}
use Rattle.machine_simulation.specs.Plan.{Plan, shape}
use Rattle.machine_simulation.specs.Objects.{with_object, Shows}
use Rattle.machine_simulation.specs.Returns.{closed}
use Rattle.machine_simulation.proofs.Matching.{stands_by}
use Rattle.machine_exceptions.specs.Leaves.{StepsTo}
use Rattle.machine_exceptions.specs.Terminates.{in_handler}
use Rattle.machine_exceptions.proofs.Picking.{turns_for}
use Rattle.machine_exceptions.proofs.DestructorsEnd.{returns_value}
use Rattle.raise_ends.specs.Ends.{RunEnds}
use Rattle.runtime_invariant.specs.Memory.{RunsKeepMemory}
use Rattle.stack_bounds.specs.Overflow.{FunctionsOverflow}
use Rattle.stub_landings.specs.StubStacks.{StubStacksStand}
use Rattle.region_forms.specs.World.{exception_of}
use Rattle.unexpected_calls.specs.Begins.{in_stopped}
use Rattle.unexpected_calls.specs.Lists.{ListsAnswer}
use Rattle.unexpected_calls.specs.Terminates.{came_back}
use Rattle.unexpected_calls.specs.Thrown.{checked_state}
use Rattle.unexpected_calls.specs.Doomed.{doomed_in}
use Rattle.unexpected_calls.specs.Bad.{bad_state}
use Rattle.unexpected_calls.specs.BadDoomed.{bad_doomed}
use Rattle.unexpected_calls.specs.Refused.{entering_state}
use Rattle.unexpected_calls.specs.TerminateOverflow.{NoRoom, TerminateHandlersOverflow}
use Rattle.unexpected_calls.proofs.Sent.{for_asks}
use Rattle.unexpected_calls.proofs.Ending.{then_overflow}
use Rattle.unexpected_calls.proofs.Without.{up_to, terminates_there, asks_without}
use Rattle.unexpected_calls.proofs.Behind.{back_step, terminates_behind, asks_behind}
use Rattle.unexpected_calls.proofs.Thrown.{thrown_checked}
use Rattle.unexpected_calls.proofs.CheckSteps.{goes_on, steps_to_allowed, steps_to_bad, steps_to_unlisted}
use Rattle.unexpected_calls.proofs.Unlisted.{terminates_unlisted, asks_unlisted}
use Rattle.unexpected_calls.proofs.BadMade.{at_make}
use Rattle.unexpected_calls.proofs.Bad.{steps_to_throw}
use Rattle.unexpected_calls.proofs.Refused.{foreign_step, at_enter, full_step, full_asks}
use Rattle.unexpected_calls.proofs.Allowed.{at_rethrow}
use Rattle.unexpected_calls.proofs.Doomed as allowed
use Rattle.unexpected_calls.proofs.BadDoomed as bad_one

no_room : (image : Image) (pick : ℕ → ℕ) (k : ℕ) (p : Plan) (m steps : ℕ) (st waiting : State) (w : abi.World) (items : List Item) → StepsTo (code_of p.unit) steps st (in_handler p m waiting) × Shows st (in_handler p m waiting) items × RunEnds image pick k w items Stack →
    NoRoom image pick k p m steps st waiting w items
no_room image pick k p m steps st waiting w items h = record { linear = h.0; shown = h.1; run = h.2 }

pub terminate_handlers_overflow : CallsAreMade → TerminateRuns → UnexpectedBegins → UnexpectedChecks → UnexpectedAnswers → RunsKeepMemory → ListsAnswer → StubStacksStand → RaisesAgree → FunctionsOverflow → TerminateHandlersOverflow
terminate_handlers_overflow made runs begins checks answers keeps lists stands agree over = record {
  without = λ image pick k p n o s e z type d kept m st w h at none calls many.
      let waiting : State = in_stopped n o s e 2 None st in
      let most : ℕ = length (linear_code (shape p n) (unexpected o s)) + 11 in
      let c = asks_without made begins image p n o s e z type d kept st w h at none calls.named in
      no_room image pick k p m 5 st waiting w (Enter e ∷ []) (then_overflow made runs over image pick k p n m 3 c.turns most st.top st.frames st waiting waiting kept.terminate_handler w c.at h.back (Enter e ∷ []) []
      (up_to p n o s e z type d kept st w image h at none) (terminates_there p n o s e z type d kept st w at) refl (sym (append-nil waiting.world.items)) (turns_for image pick c.turns w c.at (Enter e ∷ []) c.runs) c.few
      (for_asks image p n e kept st.top st.frames waiting w h.back most (Enter e ∷ []) c) calls.quiet calls.some calls.hidden calls.lacks (omega (arith, many)));
  behind = λ image pick k p n c e r type d kept m waiting a fs st middle w h at calls many.
      let to : State = came_back waiting a fs st in
      let stood = stands_by p n st w h at.at.runs in
      let went = returns_value p n st middle waiting (a ∷ fs) r at.at.runs at.at.there at.at.step at.frames in
      let asks = asks_behind begins image p n c e r type d kept waiting a fs st middle w h.back stood at calls.named in
      let q = asks.1 in
      no_room image pick k p m 3 st to w [] (then_overflow made runs over image pick k (closed p a.frame.call) c m 1 q.turns (length (linear_code (shape p n) (return r)) + 2) a fs st to to kept.terminate_handler w q.at asks.0 [] []
      (to, back_step p n r waiting a fs st went at.stub at.place, refl) (terminates_behind p n c e r type d kept waiting a fs st middle at) (sym (append-nil st.world.items)) (sym (append-nil st.world.items))
      (turns_for image pick q.turns w q.at [] q.runs) q.few (for_asks image (closed p a.frame.call) c e kept a fs to w asks.0 (length (linear_code (shape p n) (return r)) + 2) [] q) calls.quiet calls.some calls.hidden (record { looks = calls.lacks.looks; lacks = calls.lacks.lacks }) (omega (arith, many)));
  unlisted = λ i pick k p e d type destructor kept j m type0 destructor0 kept0 st w h says lives calls many.
      let image = (program_of i).image in
      let waiting : State = checked_state 9 e (pos 2) st in
      let number = ap exception_of h.rests.kept.stopped.is in
      let asks = asks_unlisted made checks answers keeps lists i p e d type destructor kept j type0 destructor0 kept0 st w h says lives calls.named in
      let q = asks.1 in
      no_room image pick k p m 7 st waiting w (Enter e ∷ []) (then_overflow made runs over image pick k p h.called.number m 5 q.turns 22 h.called.caller h.called.others st waiting waiting kept0.terminate_handler w q.at asks.0 (Enter e ∷ []) []
      (steps_to_unlisted i p e d type destructor kept j st w h says) (terminates_unlisted p e h.rests.kept.stopped.number type0 destructor0 kept0 st number lives) refl (sym (append-nil waiting.world.items))
      (turns_for image pick q.turns w q.at (Enter e ∷ []) q.runs) q.few (for_asks image p h.called.number h.rests.kept.stopped.number kept0 h.called.caller h.called.others waiting w asks.0 22 (Enter e ∷ []) q) calls.quiet calls.some calls.hidden
      calls.lacks many);
  doomed = λ i pick k p e d type destructor kept j m st w h says none calls many.
      let image = (program_of i).image in
      let raising : State = checked_state 10 e (pos 0) st in
      let waiting : State = doomed_in e raising in
      let c = at_rethrow made checks answers keeps lists i p e d type destructor kept j st w h says in
      let l = allowed.dooms stands agree i p e type destructor kept st c.at c.behind c.call h.native h.may.whole h.type_is none in
      let asks = allowed.doom_asks i p e d type destructor kept j st w h c l calls.named calls.quiet in
      no_room image pick k p m 6 st waiting w (Enter e ∷ Enter e ∷ []) (then_overflow made runs over image pick k p h.called.number m 4 c.turns 18 h.called.caller h.called.others st raising waiting kept.terminate_handler w c.at asks.0 (Enter e ∷ []) (Enter e ∷ [])
      (steps_to_allowed i p e d type destructor kept j st w h says) (allowed.doomed_handler p e type destructor kept st h.native none false calls.quiet) refl refl (turns_for image pick c.turns w c.at (Enter e ∷ []) c.runs) c.few asks.1
      calls.quiet calls.some calls.hidden calls.lacks many);
  bad = λ i pick k p e d type destructor kept j m st w h says free bases none calls many.
      let image = (program_of i).image in
      let made_one : ℕ = st.world.last_number + 1 in
      let raising : State = bad_state e st in
      let waiting : State = bad_doomed e st in
      let all = bad_one.thrown made checks answers keeps lists stands agree i pick p e d type destructor kept j st w h says free bases none in
      let slot : ℕ = all.0 in
      let t = all.2.at in
      let asks = bad_one.doom_asks i pick p e slot (x w.hart sp) st w h.called t all.2.dooms_it calls.named calls.quiet in
      no_room image pick k p m 9 st waiting w (Enter e ∷ Make made_one ∷ Enter made_one ∷ []) (then_overflow made runs over image pick k (with_object p made_one slot) h.called.number m 7 t.turns 30 h.called.caller h.called.others st raising waiting
      st.world.installed.terminate_handler w t.at asks.0 (Enter e ∷ Make made_one ∷ []) (Enter made_one ∷ []) (steps_to_throw i p e d type destructor kept j st w h says free) (bad_one.doomed_step p e st all.2.live none false calls.quiet)
      (append_assoc st.world.items (Enter e ∷ []) (Make made_one ∷ [])) refl t.runs t.few asks.1 calls.quiet calls.some calls.hidden (record { looks = calls.lacks.looks; lacks = calls.lacks.lacks }) many);
  foreign = λ image pick k p e d m st w h calls many.
      let c = at_enter checks image p e d st w h calls.named in
      let waiting : State = entering_state st in
      no_room image pick k p m 3 st waiting w [] (then_overflow made runs over image pick k p h.called.number m 1 c.turns 7 c.caller c.others st waiting waiting st.world.installed.terminate_handler w c.at c.outer [] []
      (waiting, goes_on p st h.rests.rests.runs h.rests.place h.selector, refl) (foreign_step p e d st h.flies h.defined h.crowded) (sym (append-nil st.world.items)) (sym (append-nil st.world.items))
      (turns_for image pick c.turns w c.at [] c.runs) c.few c.asks calls.quiet calls.some calls.hidden calls.lacks many);
  full = λ i pick k p e d type destructor kept j m st w h says full calls many.
      let image = (program_of i).image in
      let q = h.called in
      let waiting : State = checked_state 11 e (pos 1) st in
      let c = at_make answers keeps i p e q.number h.rests.rests.back q.caller q.others st w (thrown_checked made checks keeps lists i p e d type destructor kept j 1 st w h says) in
      no_room image pick k p m 7 st waiting w (Enter e ∷ []) (then_overflow made runs over image pick k p q.number m 5 c.turns 22 q.caller q.others st waiting waiting st.world.installed.terminate_handler w c.at c.over.outer (Enter e ∷ []) []
      (steps_to_bad i p e d type destructor kept j st w h says) (full_step p e st full) refl (sym (append-nil waiting.world.items)) (turns_for image pick c.turns w c.at (Enter e ∷ []) c.runs) c.few
      (full_asks i p e d type destructor kept j st w h full calls.named c) calls.quiet calls.some calls.hidden calls.lacks many);
}
