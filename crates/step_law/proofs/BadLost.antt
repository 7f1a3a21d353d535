-- bad_exception is listed, in a whole run: none can be made, or nothing stops the one that is thrown.
use Rattle.std.proofs.Common.{◌≡◌, ◌∙◌, refl, sym, ap, subst, arith, ℕ, ◌+◌, ◌<◌, ◌≤◌, pos, Bool, true, false, List, [], ◌∷◌, length, Option, Some, None, if◌then◌else◌}
use Rattle.std.specs.List.{AllByRecursion}
use Rattle.std.proofs.lemmas.Bool.Decides.{nat_tests}
use Rattle.meaning_forms.specs.Outcome.{aborted}
use Rattle.meaning_forms.specs.World.{Installed}
use Rattle.run_items.specs.declared.item.Item.{Item}
use Rattle.run_items.specs.declared.item.Item.TheVariants.{Enter, Make}
use Rattle.cxa_runtime.specs.World as abi
use Rattle.eh_run.specs.Program.{program_of}
use Rattle.region_forms.specs.Ending.{bad_row}
use Rattle.region_forms.specs.Effect.{Effect, goes, raises, terminates, is_full, entered, entered_doomed, effect}
use Rattle.region_forms.specs.Form.{Op, make, throw}
use Rattle.region_forms.specs.Unexpected.{made}
use Rattle.region_forms.specs.World.{World, native, address_word, object_address, exception_type, type_at, with_slot}
use Rattle.linear_forms.specs.Defined.{IsDefined, RunsAt}
use Rattle.linear_forms.specs.Linear.{plain}
use Rattle.linear_forms.specs.Search.{found, found_above}
use Rattle.linear_forms.specs.Stub.{Function, call_unexpected, linear}
use Rattle.linear_forms.specs.Activation.{Activation, State, Code, finishes, by_program, kinds, look, terminated}
use Rattle.linear_forms.specs.Machine.{step}
use Rattle.flight_homes.specs.Keeps.{Carrying}
use Rattle.linear_invariant.specs.Held.{NoneHolds}
use Rattle.linear_invariant.proofs.Calls.{Spared, others_spared}
use Rattle.linear_invariant.proofs.Lists.{few_entered}
use Rattle.linear_invariant.proofs.Worlds.{But}
use Rattle.table_verdicts.specs.Types.{ChainEnds}
use Rattle.machine_simulation.specs.Plan.{Plan, function}
use Rattle.raise_ends.specs.Ends.{unless_ending}
use Rattle.stack_bounds.specs.Taken.{StacksHoldCalls}
use Rattle.unexpected_calls.specs.Doomed.{NothingStops}
use Rattle.unexpected_calls.specs.BadDoomed.{BadIsDoomed}
use Rattle.unexpected_calls.specs.Refused.{UnexpectedRefuses}
use Rattle.unexpected_calls.specs.TerminateOverflow.{TerminateHandlersOverflow}
use Rattle.unexpected_calls.proofs.BadDoomed.{doomed_step}
use Rattle.unexpected_calls.proofs.Refused.{full_step}
use Rattle.whole_runs.proofs.Single.{made_by_turns}
use Rattle.step_law.specs.Facts.{code_for}
use Rattle.step_law.specs.Rows.{Run, FollowsIn}
use Rattle.step_law.specs.Thrown.{IsAnswered}
use Rattle.step_law.proofs.Aligned.{align_same, itself}
use Rattle.step_law.proofs.BadMade.{eleven, own_eleven, reach_eleven, bad, raising, own_bad, live_bad, v, bad_is, raises_bad, asked_bad, with_bad, reach_bad}
use Rattle.step_law.proofs.Calm.{calm_leads, calm_before}
use Rattle.step_law.proofs.ComesOut.{same_code, live, unheld, number, thrown, list_answers, out_page}
use Rattle.step_law.proofs.Dooms.{newest_entered}
use Rattle.step_law.proofs.Exceptions.{spared_others}
use Rattle.step_law.proofs.Keeping.{NotEntered, kept_by_turns, kept_by_picked}
use Rattle.step_law.proofs.LostBehind.{IsLostBehind, fits_or_not, with_or_without}
use Rattle.step_law.proofs.OutLost.{out_named, out_aborts, out_begins, out_overflows}
use Rattle.step_law.proofs.OwnSteps.{own_leads, own_calm}
use Rattle.step_law.proofs.Rooms.{few_to_enter, takes_nothing}
use Rattle.step_law.proofs.Terminates.{known_handler, terminated_defined}

-- what the calls hold is neither of two
spared_both : (k : Carrying) (items : List Item) (e b : ℕ) → ((y : ℕ) → But e y → But b y → NotEntered items y) → (f : Option Function) (fs : List Activation) → NoneHolds k f fs e → NoneHolds k f fs b → Spared k (NotEntered items) f fs
spared_both k items e b one f fs first second = all f fs (others_spared k e f fs first) (others_spared k b f fs second)
  where
    each : (xs : List ℕ) → AllByRecursion (But e) xs → AllByRecursion (But b) xs → AllByRecursion (NotEntered items) xs
    each [] h i = tt
    each (y ∷ ys) h i = (one y h.0 i.0, each ys h.1 i.1)

    all : (f : Option Function) (fs : List Activation) → Spared k (But e) f fs → Spared k (But b) f fs → Spared k (NotEntered items) f fs
    all f [] h i = tt
    all f (a ∷ fs) h i = (each _ h.0 i.0, each _ h.1 i.1, all (Some a.function) fs h.2 i.2)

not_among : (e b y : ℕ) → But e y → But b y → NotEntered (Enter e ∷ Make b ∷ Enter b ∷ []) y
not_among e b y first second = grind (arith, nat_tests, first, second)

module _ (x : Run) (q : Plan) (before e d type : ℕ) (destructor : Option ℕ) (kept : Installed) (st : State) (w : abi.World) (a : IsAnswered x q before st w e d type destructor kept 1) where
  abbrev code : Code
  code = code_for x.program

  abbrev handler : Option ℕ
  handler = st.world.installed.terminate_handler

  known : (m : ℕ) → handler ≡ Some m → m < length q.unit.functions
  known m some = known_handler q handler m w.terminate_handler some a.out.rests.rests.runtime.exceptions.terminate_handler

  takes : (m : ℕ) → handler ≡ Some m → 0 ≡ (function q m).parameters
  takes m some = takes_nothing x.program q handler m a.out.here.stands.unit a.out.here.stands.stands.lives.handlers.terminate some

  made_before : e ≤ st.world.last_number
  made_before = a.out.rests.rests.runtime.exceptions.numbers e (native type destructor kept) (live x q before st w e d a.out a.few type destructor kept a.native a.may)

  pub chain : ChainEnds q.unit.types bad_row
  chain = subst (λ u. ChainEnds u.types bad_row) (sym a.out.here.stands.unit) (a.out.here.facts.chains bad_row a.out.here.facts.bad)

  -- ---- as many exceptions are live as can be

  module _ (full : is_full st.world ≡ true) where
    abbrev last : State
    last = eleven x q before e d type destructor kept st w a

    abbrev world : World
    world = entered e st.world

    ends : step code last ≡ terminated handler (last.top ∷ last.frames) world
    ends = subst (λ c. step c last ≡ terminated handler (last.top ∷ last.frames) world) (same_code x q before st w e d a.out) (full_step q e st full)

    no_raise : (op : Op) (y : ℕ) (u : World) → RunsAt code last (linear (plain op)) → effect (kinds code last.top.function) op last.top.frame last.world ≡ raises y u → ⊥
    no_raise op y u hit begins =
        let same : make 7 ≡ op = cc hit in
        let is : effect (kinds code call_unexpected) (make 7) last.top.frame world ≡ raises y u = ap (λ o. effect (kinds code call_unexpected) o last.top.frame world) same ∙ begins in
        let no : terminates handler world ≡ raises y u = sym (ap (λ b. full_or b) full) ∙ is in cc no
      where
        full_or : Bool → Effect
        full_or b = if b then terminates handler world else goes (with_slot 7 (address_word (object_address (st.world.last_number + 1))) last.top.frame) (made world)

    lost : IsLostBehind x q st 5 last world (Enter e ∷ []) 1 handler
    lost = record {
      leads = own_leads code 5 st last (own_eleven x q before e d type destructor kept st w a);
      runs = refl;
      quiet = refl;
      still = refl;
      ends = λ quiet. ends;
      last_number = refl;
      newest = (let number = newest_entered e st.world.caught in let made = made_before in omega (arith, number, made));
      calm = own_calm code 5 st last (own_eleven x q before e d type destructor kept st w a);
      none = λ op y u b hit begins found. no_raise op y u hit begins;
      aligned = align_same q q (itself q) st.top last.top st.frames (sym a.out.rests.rests.runs);
      spared = (tt, tt, spared_others x.carrying e (Some call_unexpected) st.frames (unheld x q before st w e d a.out a.few type destructor kept a.native a.may));
      known = known;
      takes = takes;
      page = out_page x q before st w e d a.out;
      frames = a.out.rests.rests.memory.unit.frames;
      few = (let more = few_entered e st.world.caught in omega (arith, more));
    }

    pub full_follows : UnexpectedRefuses → TerminateHandlersOverflow → StacksHoldCalls → FollowsIn x before st w
    full_follows run over holds =
        let named = out_named x q before st w e d a.out in
        let out = thrown x q before st w e d a.out a.few type destructor kept a.native a.may in
        let j = number x q before st w e d a.out a.few type destructor kept a.native a.may in
        let says = list_answers x q before st w e d a.out a.few type destructor kept a.native a.may (pos 1) a.says in
        with_or_without x q before st w a.out.here.facts a.out.here.stands 5 last world (Enter e ∷ []) 1 handler lost
        (λ none. out_aborts x q before st w e d a.out a.few type destructor kept a.native a.may 5 last world (Enter e) [] 1 handler lost (omega arith) (omega arith) 8 30 (Enter e ∷ []) (omega arith) (omega arith)
        (λ k many. run.full_aborts x.image x.pick k q e d type destructor kept j st w out says full named none many))
        (λ m quiet some.
        let hidden = a.out.here.stands.hides quiet in
        fits_or_not x q before st w a.out.here.facts a.out.here.stands 5 last world (Enter e ∷ []) 1 handler lost m quiet some
        (λ room.
        let ran = run.full_calls x.image q e d type destructor kept j m st w out says full named quiet some hidden room in
        let comes = ran.2 in
        out_begins x q before st w e d a.out a.few type destructor kept a.native a.may 5 last world (Enter e) [] 1 handler lost (omega arith) (omega arith) m quiet some q (record { frames = itself q; base = refl; tables = refl })
        (reach_eleven x q before e d type destructor kept st w a) comes.turns comes.after (let entry = few_to_enter q m in omega (arith, comes.few, entry))
        (made_by_turns (program_of x.image).image x.pick comes.turns w comes.after (Enter e ∷ []) comes.runs) (kept_by_turns (program_of x.image).image comes.turns w comes.after (Enter e ∷ []) comes.runs) comes.holds ran.1)
        (λ lacks.
        out_overflows x q before st w e d a.out a.few type destructor kept a.native a.may 5 last world (Enter e) [] 1 handler lost (omega arith) (omega arith) m quiet some lacks holds 35 7 (omega arith)
        (λ k many. over.full x.image x.pick k q e d type destructor kept j m st w out says full (record { named = named; quiet = quiet; some = some; hidden = hidden; lacks = lacks }) many)))

  -- ---- one is thrown, and nothing stops it

  module _ (free : is_full st.world ≡ false) (none : NothingStops q bad_row (raising x q before e d type destructor kept st w a free)) where
    abbrev there : State
    there = raising x q before e d type destructor kept st w a free

    abbrev new : ℕ
    new = bad x q before e d type destructor kept st w a free

    abbrev thrown_world : World
    thrown_world = v x q before e d type destructor kept st w a free

    abbrev doomed_world : World
    doomed_world = entered_doomed new thrown_world

    abbrev items : List Item
    items = Enter e ∷ Make new ∷ Enter new ∷ []

    not_found : found code there.top.function (look code there.top.function there.top.place) (type_at thrown_world new) there.frames ≡ None
    not_found =
        ap (λ y. found code there.top.function (look code there.top.function there.top.place) (exception_type y) there.frames) (bad_is x q before e d type destructor kept st w a free)
        ∙ subst (λ c. found_above c (Some bad_row) (there.top ∷ there.frames) ≡ None) (same_code x q before st w e d a.out) none

    no_target : (op : Op) (y : ℕ) (u : World) (b : ℕ) → RunsAt code there (linear (plain op)) → effect (kinds code there.top.function) op there.top.frame there.world ≡ raises y u →
        found code there.top.function (look code there.top.function there.top.place) (type_at u y) there.frames ≡ Some b → ⊥
    no_target op y u b hit begins found_it =
        let one : throw 7 bad_row None ≡ op = cc hit in
        let same : raises new thrown_world ≡ raises y u = sym (raises_bad x q before e d type destructor kept st w a free) ∙ ap (λ o. effect (kinds code there.top.function) o there.top.frame there.world) one ∙ begins in
        let number : new ≡ y = cc same in
        let world : thrown_world ≡ u = cc same in
        let found_there : found code there.top.function (look code there.top.function there.top.place) (type_at thrown_world new) there.frames ≡ Some b =
        ap (λ z. found code there.top.function (look code there.top.function there.top.place) (type_at z new) there.frames) world
        ∙ ap (λ z. found code there.top.function (look code there.top.function there.top.place) (type_at u z) there.frames) number ∙ found_it in
        let no : None ≡ Some b = sym not_found ∙ found_there in cc no

    steps_to : (b : Bool) → st.world.ending ≡ b → step code there ≡ (if b then finishes (by_program aborted) thrown_world else terminated handler (there.top ∷ there.frames) doomed_world)
    steps_to b is = subst (λ c. step c there ≡ (if b then finishes (by_program aborted) thrown_world else terminated handler (there.top ∷ there.frames) doomed_world)) (same_code x q before st w e d a.out)
        (doomed_step q e st (live_bad x q before e d type destructor kept st w a free) none b is)

    defined : IsDefined (step code there)
    defined = by st.world.ending refl
      where
        by : (b : Bool) → st.world.ending ≡ b → IsDefined (step code there)
        by true is = subst IsDefined (sym (steps_to true is)) tt
        by false is = subst IsDefined (sym (steps_to false is)) (terminated_defined handler (there.top ∷ there.frames) doomed_world)

    doomed_lost : IsLostBehind x q st 7 there doomed_world items 2 handler
    doomed_lost = record {
      leads = calm_leads code 7 st there (own_bad x q before e d type destructor kept st w a free);
      runs = refl;
      quiet = refl;
      still = refl;
      ends = λ quiet. steps_to false quiet;
      last_number = refl;
      newest = (let number = newest_entered new thrown_world.caught in omega (arith, number));
      calm = calm_before code 7 st there (own_bad x q before e d type destructor kept st w a free);
      none = no_target;
      aligned = align_same q q (itself q) st.top there.top st.frames (sym a.out.rests.rests.runs);
      spared = (
        tt,
        tt,
        spared_both x.carrying items e new (not_among e new) (Some call_unexpected) st.frames (unheld x q before st w e d a.out a.few type destructor kept a.native a.may)
            (asked_bad x q before e d type destructor kept st w a free defined).has.unheld,
      );
      known = known;
      takes = takes;
      page = out_page x q before st w e d a.out;
      frames = a.out.rests.rests.memory.unit.frames;
      few = (let once = few_entered e st.world.caught in let twice = few_entered new thrown_world.caught in omega (arith, once, twice));
    }

    pub bad_lost : BadIsDoomed → TerminateHandlersOverflow → StacksHoldCalls → FollowsIn x before st w
    bad_lost run over holds =
        let named = out_named x q before st w e d a.out in
        let out = thrown x q before st w e d a.out a.few type destructor kept a.native a.may in
        let j = number x q before st w e d a.out a.few type destructor kept a.native a.may in
        let says = list_answers x q before st w e d a.out a.few type destructor kept a.native a.may (pos 1) a.says in
        with_or_without x q before st w a.out.here.facts a.out.here.stands 7 there doomed_world items 2 handler doomed_lost
        (λ without. out_aborts x q before st w e d a.out a.few type destructor kept a.native a.may 7 there doomed_world (Enter e) (Make new ∷ Enter new ∷ []) 2 handler doomed_lost (omega arith) (omega arith) 10 38
        (Enter e ∷ Make new ∷ unless_ending st.world (Enter new ∷ [])) (omega arith) (omega arith) (λ k many. run.aborts x.image x.pick k q e d type destructor kept j st w out says free chain none named without many))
        (λ m quiet some.
        let hidden = a.out.here.stands.hides quiet in
        fits_or_not x q before st w a.out.here.facts a.out.here.stands 7 there doomed_world items 2 handler doomed_lost m quiet some
        (λ room.
        let ran = run.calls_the_handler x.image x.pick q e d type destructor kept j m st w out says free chain none named quiet some hidden room in
        let slot = ran.2 in
        let comes = ran.4 in
        out_begins x q before st w e d a.out a.few type destructor kept a.native a.may 7 there doomed_world (Enter e) (Make new ∷ Enter new ∷ []) 2 handler doomed_lost (omega arith) (omega arith) m quiet some
        (with_bad x q before e d type destructor kept st w a free slot) (record { frames = record { unit = refl; hidden = refl }; base = refl; tables = refl })
        (reach_bad x q before e d type destructor kept st w a free slot) comes.turns comes.after (let entry = few_to_enter q m in omega (arith, comes.few, entry)) (record { run = comes.runs.run })
        (kept_by_picked (program_of x.image).image x.pick comes.turns w comes.after items comes.runs) comes.holds ran.1)
        (λ lacks.
        out_overflows x q before st w e d a.out a.few type destructor kept a.native a.may 7 there doomed_world (Enter e) (Make new ∷ Enter new ∷ []) 2 handler doomed_lost (omega arith) (omega arith) m quiet some lacks holds 43 9 (omega arith)
        (λ k many. over.bad x.image x.pick k q e d type destructor kept j m st w out says free chain none (record { named = named; quiet = quiet; some = some; hidden = hidden; lacks = lacks }) many)))
