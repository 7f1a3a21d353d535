-- What comes out of an unexpected handler is not allowed, and bad_exception is not listed, in a whole run.
use Rattle.std.proofs.Common.{◌≡◌, ◌∙◌, refl, sym, ap, subst, arith, ℕ, ◌<◌, pos, [], ◌∷◌, length, Option, Some}
use Rattle.meaning_forms.specs.Class.{contains}
use Rattle.meaning_forms.specs.World.{Installed}
use Rattle.run_items.specs.declared.item.Item.TheVariants.{Enter}
use Rattle.cxa_runtime.specs.World as abi
use Rattle.eh_run.specs.Program.{program_of}
use Rattle.region_forms.specs.Effect.{entered}
use Rattle.region_forms.specs.Lives.{is_built}
use Rattle.region_forms.specs.Unexpected.{kept_with}
use Rattle.region_forms.specs.World.{World, native, exception_in_slot, exception_at}
use Rattle.linear_forms.specs.Stub.{call_unexpected}
use Rattle.linear_forms.specs.Activation.{State, Code, terminated}
use Rattle.flight_homes.specs.Lives.{ExceptionKnown, known_in}
use Rattle.linear_invariant.proofs.Asked.{none_gone, exception_known}
use Rattle.linear_invariant.proofs.Lists.{few_entered}
use Rattle.machine_simulation.specs.Plan.{Plan, function}
use Rattle.machine_simulation.proofs.LiveThere.{built_there}
use Rattle.stack_bounds.specs.Taken.{StacksHoldCalls}
use Rattle.unexpected_calls.specs.Thrown.{checked_state}
use Rattle.unexpected_calls.specs.TerminateOverflow.{TerminateHandlersOverflow}
use Rattle.unexpected_calls.specs.Unlisted.{StoppedLives, UnlistedTerminates}
use Rattle.whole_runs.proofs.Single.{made_by_turns}
use Rattle.step_law.specs.Facts.{regions_for, code_for}
use Rattle.step_law.specs.Rows.{Run, FollowsIn}
use Rattle.step_law.specs.Thrown.{IsAnswered, UnlistedFollows}
use Rattle.step_law.proofs.Aligned.{align_same, itself}
use Rattle.step_law.proofs.ComesOut.{inv, live, unheld, number, thrown, stopped_held, stopped_whole, own_from, list_answers, out_page}
use Rattle.step_law.proofs.Dooms.{newest_entered}
use Rattle.step_law.proofs.Exceptions.{spared_others, gone_destroyed}
use Rattle.step_law.proofs.Keeping.{CalmAt, kept_by_turns}
use Rattle.step_law.proofs.LostBehind.{IsLostBehind, fits_or_not, with_or_without}
use Rattle.step_law.proofs.OutLost.{out_named, out_aborts, out_begins, out_overflows}
use Rattle.step_law.proofs.OwnSteps.{OwnSteps, own_leads, own_calm, own_reach}
use Rattle.step_law.proofs.Rooms.{few_to_enter, takes_nothing, handler_there}

module _ (x : Run) (q : Plan) (before e d type type0 : ℕ) (destructor destructor0 : Option ℕ) (kept kept0 : Installed) (st : State) (w : abi.World) (a : IsAnswered x q before st w e d type destructor kept 2)
    (first : exception_at st.world (exception_in_slot st.top.frame 0) ≡ native type0 destructor0 kept0) where
  abbrev code : Code
  code = code_for x.program

  abbrev last : State
  last = checked_state 9 e (pos 2) st

  abbrev v : World
  v = entered e st.world

  abbrev eight : State
  eight = checked_state 8 e (pos 2) st

  own : OwnSteps code 5 st last
  own = own_from x q before st w e d a.out a.few type destructor kept a.native a.may (pos 2) a.says 2 last (calm_seven, eight, refl, refl, refl, (calm_eight, last, refl, refl, refl, refl))
    where
      calm_seven : CalmAt code (checked_state 7 e (pos 2) st)
      calm_seven op hit = absurd (cc hit)

      calm_eight : CalmAt code eight
      calm_eight op hit = absurd (cc hit)

  abbrev stopped : ℕ
  stopped = a.out.rests.kept.stopped.number

  is_stopped : exception_at st.world stopped ≡ native type0 destructor0 kept0
  is_stopped = ap (exception_at st.world) (sym (stopped_held x q before st w e d a.out)) ∙ first

  lives : StoppedLives st stopped type0 destructor0 kept0
  lives = record {
    native = built_there st.world.live stopped (ap is_built is_stopped) ∙ ap (λ y. Some y) is_stopped;
    whole = ap (λ es. contains es stopped) (gone_destroyed st.frames) ∙ none_gone x.carrying (Some st.top.function) st.frames stopped (stopped_whole x q before st w e d a.out);
  }

  known : (m : ℕ) → kept0.terminate_handler ≡ Some m → m < length q.unit.functions
  known m some =
      let lives = subst (ExceptionKnown (known_in (regions_for x.program))) is_stopped (exception_known (known_in (regions_for x.program)) st.world.last_number st.world.live stopped (inv x q before st w e d a.out).lives.lives) in
      handler_there x.program q kept0.terminate_handler m a.out.here.stands.unit lives.2.terminate some

  takes : (m : ℕ) → kept0.terminate_handler ≡ Some m → 0 ≡ (function q m).parameters
  takes m some =
      let lives = subst (ExceptionKnown (known_in (regions_for x.program))) is_stopped (exception_known (known_in (regions_for x.program)) st.world.last_number st.world.live stopped (inv x q before st w e d a.out).lives.lives) in
      takes_nothing x.program q kept0.terminate_handler m a.out.here.stands.unit lives.2.terminate some

  lost : IsLostBehind x q st 5 last v (Enter e ∷ []) 1 kept0.terminate_handler
  lost = record {
    leads = own_leads code 5 st last own;
    runs = refl;
    quiet = refl;
    still = refl;
    ends = λ quiet. ap (λ y. terminated (kept_with y).terminate_handler (last.top ∷ last.frames) v) first;
    last_number = refl;
    newest = (let number = newest_entered e st.world.caught in let made = a.out.rests.rests.runtime.exceptions.numbers e (native type destructor kept) (live x q before st w e d a.out a.few type destructor kept a.native a.may) in omega (arith, number, made));
    calm = own_calm code 5 st last own;
    none = λ op y u b hit begins found. absurd (cc hit);
    aligned = align_same q q (itself q) st.top last.top st.frames (sym a.out.rests.rests.runs);
    spared = (tt, tt, spared_others x.carrying e (Some call_unexpected) st.frames (unheld x q before st w e d a.out a.few type destructor kept a.native a.may));
    known = known;
    takes = takes;
    page = out_page x q before st w e d a.out;
    frames = a.out.rests.rests.memory.unit.frames;
    few = (let more = few_entered e st.world.caught in omega (arith, more));
  }

  follows : UnlistedTerminates → TerminateHandlersOverflow → StacksHoldCalls → FollowsIn x before st w
  follows run over holds =
      let named = out_named x q before st w e d a.out in
      let out = thrown x q before st w e d a.out a.few type destructor kept a.native a.may in
      let j = number x q before st w e d a.out a.few type destructor kept a.native a.may in
      let says = list_answers x q before st w e d a.out a.few type destructor kept a.native a.may (pos 2) a.says in
      with_or_without x q before st w a.out.here.facts a.out.here.stands 5 last v (Enter e ∷ []) 1 kept0.terminate_handler lost
      (λ none. out_aborts x q before st w e d a.out a.few type destructor kept a.native a.may 5 last v (Enter e) [] 1 kept0.terminate_handler lost (omega arith) (omega arith) 8 30 (Enter e ∷ []) (omega arith) (omega arith)
      (λ k many. run.aborts x.image x.pick k q e d type destructor kept j type0 destructor0 kept0 st w out says lives named none many))
      (λ m quiet some.
      let hidden = a.out.here.stands.hides quiet in
      fits_or_not x q before st w a.out.here.facts a.out.here.stands 5 last v (Enter e ∷ []) 1 kept0.terminate_handler lost m quiet some
      (λ room.
      let ran = run.calls_the_handler x.image q e d type destructor kept j m type0 destructor0 kept0 st w out says lives named quiet some hidden room in
      let reaches = ran.2 in
      out_begins x q before st w e d a.out a.few type destructor kept a.native a.may 5 last v (Enter e) [] 1 kept0.terminate_handler lost (omega arith) (omega arith) m quiet some q (record { frames = itself q; base = refl; tables = refl })
      (own_reach x q a.out.here.facts 5 a.out.here.stands.steps st last (inv x q before st w e d a.out) a.out.here.stands.reaches own) reaches.turns reaches.after (let entry = few_to_enter q m in omega (arith, reaches.few, entry))
      (made_by_turns (program_of x.image).image x.pick reaches.turns w reaches.after (Enter e ∷ []) reaches.runs) (kept_by_turns (program_of x.image).image reaches.turns w reaches.after (Enter e ∷ []) reaches.runs) reaches.holds ran.1)
      (λ lacks.
      out_overflows x q before st w e d a.out a.few type destructor kept a.native a.may 5 last v (Enter e) [] 1 kept0.terminate_handler lost (omega arith) (omega arith) m quiet some lacks holds 35 7 (omega arith)
      (λ k many. over.unlisted x.image x.pick k q e d type destructor kept j m type0 destructor0 kept0 st w out says lives (record { named = named; quiet = quiet; some = some; hidden = hidden; lacks = lacks }) many)))

pub unlisted_follows : UnlistedTerminates → TerminateHandlersOverflow → StacksHoldCalls → UnlistedFollows
unlisted_follows run over holds x q before e d type type0 destructor destructor0 kept kept0 st w a first = follows x q before e d type type0 destructor destructor0 kept kept0 st w a first run over holds
