-- What came out of an unexpected handler terminates the program, in a whole run.
use Rattle.std.proofs.Common.{◌≡◌, ◌∙◌, sym, ap, arith, ℕ, ◌+◌, ◌<◌, ◌≤◌, ◌^◌, true, false, List, ◌∷◌, Option, Some}
use Rattle.meaning_forms.specs.World.{Installed}
use Rattle.run_items.specs.declared.item.Item.{Item}
use Rattle.cxa_runtime.specs.World as abi
use Rattle.eh_run.specs.Program.{program_of}
use Rattle.region_forms.specs.Lives.{may_enter}
use Rattle.region_forms.specs.World.{World, native, exception_at}
use Rattle.linear_forms.specs.Stub.{terminating}
use Rattle.linear_forms.specs.Activation.{State}
use Rattle.source_bounds.specs.Compiled.{unit_for}
use Rattle.machine_stubs.specs.Stretches.{stub_word}
use Rattle.machine_simulation.specs.Plan.{Plan}
use Rattle.machine_simulation.specs.Matches.{Matches}
use Rattle.machine_simulation.specs.Objects.{Shows}
use Rattle.machine_exceptions.specs.Terminates.{waiting_terminate, in_handler}
use Rattle.raise_ends.specs.Ends.{plan_in_handler}
use Rattle.stack_bounds.specs.Taken.{StacksHoldCalls}
use Rattle.address_invariant.specs.Extents.{extents_of}
use Rattle.address_invariant.specs.Reaching.{Reaches}
use Rattle.unexpected_calls.specs.Overflow.{HandlerLacksRoom}
use Rattle.unexpected_calls.specs.Terminates.{BothAbort, NamesTerminate}
use Rattle.unexpected_calls.specs.TerminateOverflow.{NoRoom}
use Rattle.whole_runs.specs.Turns.{Made}
use Rattle.step_law.specs.Facts.{needs_for}
use Rattle.step_law.specs.Rows.{Run, FollowsIn}
use Rattle.step_law.specs.Thrown.{ComesOut}
use Rattle.step_law.proofs.ComesOut.{quiet_world, nothing, stays, paid, checks_pay}
use Rattle.step_law.proofs.Keeping.{RuntimeKept, PlanGoes}
use Rattle.step_law.proofs.LostBehind.{IsLostBehind, abort_behind, handler_begins, handler_overflows}
use Rattle.step_law.proofs.Unshown.{shown_later}

pub out_named : (x : Run) (q : Plan) (before : ℕ) (st : State) (w : abi.World) (e d : ℕ) → ComesOut x q before st w e d → NamesTerminate (program_of x.image).image q
out_named x q before st w e d out = out.here.facts.named ∙ ap (λ b. stub_word b terminating 0) (sym out.here.stands.base)

module _ (x : Run) (q : Plan) (before : ℕ) (st : State) (w : abi.World) (e d : ℕ) (out : ComesOut x q before st w e d) (few : before < 2 ^ 40) (type : ℕ) (destructor : Option ℕ) (kept : Installed)
    (is : exception_at st.world e ≡ native type destructor kept) (may : may_enter st.world e ≡ true)
    (steps : ℕ) (last : State) (v : World) (i : Item) (items : List Item) (more : ℕ) (h : Option ℕ) (lost : IsLostBehind x q st steps last v (i ∷ items) more h) (short : steps ≤ 8) (enough : more ≤ 8) where
  -- no handler is called
  pub out_aborts : (n most : ℕ) (shown : List Item) → n ≤ 10 → most ≤ 64 → ((k : ℕ) → most ≤ k → BothAbort (program_of x.image).image x.pick k q n st w shown) → FollowsIn x before st w
  out_aborts n most shown least few_turns ends = abort_behind x q before st w out.here.facts out.here.stands n most shown (omega (arith, few_turns)) (stays x q before st w e d out few type destructor kept is may n least) ends

  module _ (m : ℕ) (quiet : st.world.ending ≡ false) (some : h ≡ Some m) where
    abbrev waiting : State
    waiting = record { top = last.top; frames = last.frames; world = v }

    -- the handler begins
    pub out_begins : (r0 : Plan) → PlanGoes q r0 → Reaches (extents_of r0) (unit_for x.program) (needs_for x.program) last → (turns : ℕ) (u : abi.World) → turns ≤ 108 → Made (program_of x.image).image x.pick turns w u (i ∷ items) → RuntimeKept w u (i ∷ items) →
        Matches (plan_in_handler r0 m waiting) (in_handler q m waiting) u → Shows st (in_handler q m waiting) (i ∷ items) → FollowsIn x before st w
    out_begins r0 plan reach turns u few_turns made kept_it matches shows =
        let later = shown_later (program_of x.image).image x.pick 7 w (quiet_world x q before st w e d out) (nothing x q before st w e d out) turns u i items made in
        let pays = paid x q before st w e d out few type destructor kept is may (steps + 2) (omega (arith, short)) in
        handler_begins x q before st w out.here.facts out.here.stands steps last v (i ∷ items) more h lost m quiet some r0 plan reach turns u kept_it made matches (omega (arith, later, enough)) (omega (arith, later, pays))
        (let paid_here = checks_pay x q before st w e d out 44 (omega arith) in omega (arith, few_turns, paid_here)) (stays x q before st w e d out few type destructor kept is may (steps + 2) (omega (arith, short))) shows

    pub out_overflows : HandlerLacksRoom q m (waiting_terminate m ∷ last.top ∷ last.frames) → StacksHoldCalls → (most n : ℕ) → most ≤ 64 → ((k : ℕ) → most ≤ k → NoRoom (program_of x.image).image x.pick k q m n st waiting w (i ∷ items)) → FollowsIn x before st w
    out_overflows lacks holds most n few_turns ends =
        handler_overflows x q before st w out.here.facts out.here.stands steps last v (i ∷ items) more h lost m quiet some lacks holds most (omega (arith, few_turns))
        (stays x q before st w e d out few type destructor kept is may (steps + 2) (omega (arith, short))) (ends most (omega arith)).shown (λ k many. (ends k many).run)
