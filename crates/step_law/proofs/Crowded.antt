-- A foreign exception comes out of an unexpected handler while another is handled, in a whole run.
use Rattle.std.proofs.Common.{◌≡◌, ◌∙◌, refl, sym, ap, subst, arith, ℕ, ◌+◌, ◌<◌, ◌≤◌, ◌^◌, Bool, true, false, [], ◌∷◌, Option, Some, if◌then◌else◌}
use Rattle.std.specs.Prelude.{◌&&◌}
use Rattle.meaning_forms.specs.Class.{contains}
use Rattle.cxa_runtime.specs.World as abi
use Rattle.eh_run.specs.Program.{program_of}
use Rattle.region_forms.specs.Caught.{holds_other}
use Rattle.region_forms.specs.Effect.{Effect, goes, raises, terminates, only_where, is_foreign, entered, effect}
use Rattle.region_forms.specs.Form.{Op, enter}
use Rattle.region_forms.specs.Lives.{may_enter}
use Rattle.region_forms.specs.World.{World, exception_in_slot, exception_at}
use Rattle.linear_forms.specs.Defined.{IsDefined, RunsAt}
use Rattle.linear_forms.specs.Linear.{plain}
use Rattle.linear_forms.specs.Stub.{call_unexpected, terminating, linear}
use Rattle.linear_forms.specs.Activation.{State, Code, kinds, terminated}
use Rattle.linear_forms.specs.Machine.{step}
use Rattle.flight_homes.specs.Keeps.{gone}
use Rattle.flight_homes.specs.Lives.{known_in}
use Rattle.linear_invariant.specs.Asked.{EnterAsked}
use Rattle.linear_invariant.specs.Calls.{unmarked}
use Rattle.linear_invariant.proofs.Asked.{enters_are_asked}
use Rattle.linear_invariant.proofs.Calls.{all_spared}
use Rattle.source_bounds.specs.Compiled.{unit_for}
use Rattle.machine_simulation.specs.Plan.{Plan}
use Rattle.machine_exceptions.specs.Enters.{MayEnter, is_crowded}
use Rattle.stack_bounds.specs.Taken.{StacksHoldCalls}
use Rattle.address_invariant.specs.Extents.{extents_of}
use Rattle.address_invariant.specs.Reaching.{Reaches}
use Rattle.unexpected_calls.specs.Refused.{ForeignOut, UnexpectedRefuses}
use Rattle.unexpected_calls.specs.TerminateOverflow.{TerminateHandlersOverflow}
use Rattle.unexpected_calls.proofs.Refused.{foreign_step}
use Rattle.whole_runs.proofs.Counts.{aborts_once, quiet_then, quiet_twice}
use Rattle.whole_runs.proofs.Rounds.{some_ending}
use Rattle.whole_runs.proofs.Single.{made_by_turns}
use Rattle.whole_runs.proofs.Staying.{once_stays}
use Rattle.step_law.specs.Facts.{regions_for, needs_for, code_for}
use Rattle.step_law.specs.Rows.{Run, FollowsIn}
use Rattle.step_law.specs.Thrown.{ComesOut, OutOfHandlerIsCrowded}
use Rattle.step_law.proofs.Aligned.{align_same, itself}
use Rattle.step_law.proofs.ComesOut.{same_code, inv, selector, unpaid, calm_first, five, one, inv_five, held, out_page}
use Rattle.step_law.proofs.Exceptions.{gone_destroyed, handlers_open}
use Rattle.step_law.proofs.Facing.{newest_made}
use Rattle.step_law.proofs.Keeping.{NotEntered, kept_by_turns}
use Rattle.step_law.proofs.LostBehind.{IsLostBehind, abort_behind, handler_begins, handler_overflows, fits_or_not, with_or_without}
use Rattle.step_law.proofs.OutLost.{out_named}
use Rattle.step_law.proofs.OwnSteps.{OwnSteps, own_leads, own_calm, own_reach}
use Rattle.step_law.proofs.Rooms.{few_to_enter, takes_nothing}
use Rattle.step_law.proofs.Terminates.{known_handler, terminated_defined}

module _ (x : Run) (q : Plan) (before e d : ℕ) (st : State) (w : abi.World) (out : ComesOut x q before st w e d) (few : before < 2 ^ 40) (may : may_enter st.world e ≡ true) (crowded : is_crowded st.world e ≡ true) where
  abbrev code : Code
  code = code_for x.program

  abbrev last : State
  last = five x q before st w e d out

  abbrev handler : Option ℕ
  handler = st.world.installed.terminate_handler

  own : OwnSteps code 1 st last
  own = (calm_first x q before st w e d out, last, one x q before st w e d out, refl, refl, refl)

  ends : step code last ≡ terminated handler (last.top ∷ last.frames) st.world
  ends = subst (λ c. step c last ≡ terminated handler (last.top ∷ last.frames) st.world) (same_code x q before st w e d out) (foreign_step q e d st out.flies may crowded)

  asked : EnterAsked (known_in (regions_for x.program)) x.carrying (out.here.stands.steps + 1) last 4
  asked = enters_are_asked (regions_for x.program) x.carrying (out.here.stands.steps + 1) 4 last out.here.facts.fits (inv_five x q before st w e d out) refl
      (subst IsDefined (sym ends) (terminated_defined handler (last.top ∷ last.frames) st.world))

  may_enter_it : MayEnter st.frames st.world e
  may_enter_it =
      let handlers = handlers_open st.world.caught e in
      let turns_few = out.here.stands.few in
      record { whole = ap (λ es. contains es e) (gone_destroyed st.frames) ∙ subst (λ k. contains (gone st.frames) k ≡ false) (held x q before st w e d out) asked.has.whole; few = omega (arith, handlers, turns_few, few) }

  foreign_out : ForeignOut q e d st w
  foreign_out = record { rests = out.rests; called = out.called; flies = out.flies; selector = selector x q before st w e d out; defined = may; may = may_enter_it; crowded = crowded }

  abbrev or_else : ℕ → Bool → Bool → Effect
  or_else k b c = only_where b (if c then terminates handler st.world else goes st.top.frame (entered k st.world))

  never_raises : (k : ℕ) (b c : Bool) (y : ℕ) (u : World) → or_else k b c ≡ raises y u → ⊥
  never_raises k true true y u h = cc h
  never_raises k true false y u h = cc h
  never_raises k false c y u h = cc h

  no_raise : (op : Op) (y : ℕ) (u : World) → RunsAt code last (linear (plain op)) → effect (kinds code last.top.function) op last.top.frame last.world ≡ raises y u → ⊥
  no_raise op y u hit begins =
      let same : enter 4 ≡ op = cc hit in
      let k = exception_in_slot st.top.frame 4 in
      never_raises k (may_enter st.world k) (is_foreign (exception_at st.world k) && holds_other k st.world.caught) y u (ap (λ o. effect (kinds code call_unexpected) o st.top.frame st.world) same ∙ begins)

  lost : IsLostBehind x q st 1 last st.world [] 0 handler
  lost = record {
    leads = own_leads code 1 st last own;
    runs = refl;
    quiet = refl;
    still = refl;
    ends = λ quiet. ends;
    last_number = refl;
    newest = newest_made (unmarked (known_in (regions_for x.program))) code x.carrying out.here.stands.steps st (inv x q before st w e d out);
    calm = own_calm code 1 st last own;
    none = λ op y u b hit begins found. no_raise op y u hit begins;
    aligned = align_same q q (itself q) st.top last.top st.frames (sym out.rests.rests.runs);
    spared = all_spared x.carrying (NotEntered []) (λ y. refl) (Some terminating) (last.top ∷ last.frames);
    known = λ m some. known_handler q handler m w.terminate_handler some out.rests.rests.runtime.exceptions.terminate_handler;
    takes = λ m some. takes_nothing x.program q handler m out.here.stands.unit out.here.stands.stands.lives.handlers.terminate some;
    page = out_page x q before st w e d out;
    frames = out.rests.rests.memory.unit.frames;
    few = omega arith;
  }

  reach : Reaches (extents_of q) (unit_for x.program) (needs_for x.program) last
  reach = own_reach x q out.here.facts 1 out.here.stands.steps st last (inv x q before st w e d out) out.here.stands.reaches own

  follows : UnexpectedRefuses → TerminateHandlersOverflow → StacksHoldCalls → FollowsIn x before st w
  follows run over holds =
      let named = out_named x q before st w e d out in
      with_or_without x q before st w out.here.facts out.here.stands 1 last st.world [] 0 handler lost
      (λ none.
      let first = quiet_then code 3 st last (unpaid x q before st w e d out) (one x q before st w e d out) in
      let rest = aborts_once code last handler (last.top ∷ last.frames) st.world refl ends none in
      abort_behind x q before st w out.here.facts out.here.stands 4 15 [] (omega arith) (once_stays (program_of x.image).image x.pick code 4 st w (omega (arith, first, rest)))
      (λ k many. run.foreign_aborts (program_of x.image).image x.pick k q e d st w foreign_out named none many))
      (λ m quiet some.
      let hidden = out.here.stands.hides quiet in
      let once = quiet_twice code st last (unpaid x q before st w e d out) (one x q before st w e d out) refl in
      let stays = once_stays (program_of x.image).image x.pick code 3 st w once in
      fits_or_not x q before st w out.here.facts out.here.stands 1 last st.world [] 0 handler lost m quiet some
      (λ room.
      let ran = run.foreign_calls (program_of x.image).image q e d m st w foreign_out named quiet some hidden room in
      let comes = ran.2 in
      let made = made_by_turns (program_of x.image).image x.pick comes.turns w comes.after [] comes.runs in
      let more = some_ending (program_of x.image).image x.pick comes.turns w comes.after [] made (out.rests.rests.runtime.terminating ∙ quiet) comes.holds.runtime.terminating in
      handler_begins x q before st w out.here.facts out.here.stands 1 last st.world [] 0 handler lost m quiet some q (record { frames = itself q; base = refl; tables = refl }) reach comes.turns comes.after
      (kept_by_turns (program_of x.image).image comes.turns w comes.after [] comes.runs) made comes.holds (omega arith) (omega (arith, once, more)) (let entry = few_to_enter q m in omega (arith, comes.few, entry)) stays ran.1)
      (λ lacks.
      let ran = λ (k : ℕ) (many : 20 ≤ k). over.foreign (program_of x.image).image x.pick k q e d m st w foreign_out (record { named = named; quiet = quiet; some = some; hidden = hidden; lacks = lacks }) many in
      handler_overflows x q before st w out.here.facts out.here.stands 1 last st.world [] 0 handler lost m quiet some lacks holds 20 (omega arith) stays (ran 20 (omega arith)).shown (λ k many. (ran k many).run)))

pub out_of_handler_is_crowded : UnexpectedRefuses → TerminateHandlersOverflow → StacksHoldCalls → OutOfHandlerIsCrowded
out_of_handler_is_crowded run over holds x q before e d st w out few may crowded = follows x q before e d st w out few may crowded run over holds
