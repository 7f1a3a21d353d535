-- Forced unwinds that go on from a compiled function, or begin there, and come to a landing pad, in a whole run.
use Rattle.std.proofs.Common.{◌≡◌, ◌∙◌, refl, sym, ap, subst, arith, ℕ, zero, suc, ◌<◌, inl, inr, ℤ, pos, Bool, true, false, List, [], ◌∷◌, Option, Some, None, is_some, if◌then◌else◌}
use Rattle.cxx_ast.specs.declared.name.Builtin.TheVariants.{Cancel}
use Rattle.cxa_runtime.specs.Raising.{Image}
use Rattle.cxa_runtime.specs.World as abi
use Rattle.eh_run.specs.Program.{program_of}
use Rattle.meaning_forms.specs.Outcome.{aborted}
use Rattle.region_forms.specs.Evaluation.{value_in, words_in}
use Rattle.region_forms.specs.Form.{Value, Op, int_argument, Arguments, no_arguments, argument_then}
use Rattle.region_forms.specs.World.{Word, nothing, unwinding, World}
use Rattle.region_forms.specs.Effect.{raises, cancels, number_at, effect, if_some}
use Rattle.linear_forms.specs.Linear.{LinearOp, plain, resume}
use Rattle.linear_forms.specs.Stub.{terminating, linear}
use Rattle.linear_forms.specs.Tables.{Cover, bare, unpadded, padded}
use Rattle.linear_forms.specs.Verdict.{has_cleanup}
use Rattle.linear_forms.specs.Defined.{RunsAt}
use Rattle.linear_forms.specs.Activation.{Activation, State, Code, Next, goes_to, finishes, by_program, not_defined, fetch, look, sense, kinds, stub_frame, function_word, terminated}
use Rattle.linear_forms.specs.Machine.{step}
use Rattle.linear_forms.specs.Operation.{act, performed, resumed}
use Rattle.linear_forms.specs.Pace.{pays_at, linear_pays, one_if, Leads}
use Rattle.linear_forms.specs.Forced.{forced_by, forced_at, forced_above, force}
use Rattle.linear_forms.proofs.Paces
use Rattle.linear_invariant.specs.Forced.{newest_forced}
use Rattle.linear_invariant.specs.Stands.{NewMarked}
use Rattle.linear_invariant.proofs.Forced.{Stays, force_stays}
use Rattle.machine_simulation.specs.Plan.{Plan, slot_kinds}
use Rattle.machine_exceptions.specs.Answers.{CallsBuiltin}
use Rattle.machine_raises.specs.Cancels.{Cancels}
use Rattle.stub_landings.specs.Landings.{GoesOn, resting, ForcedLands, CancelsLand}
use Rattle.whole_runs.proofs.Rounds.{pays_known}
use Rattle.whole_runs.proofs.Single.{goes_on_one, made_by_turns, made_by_forced}
use Rattle.whole_runs.proofs.Landing.{AtPad, Lands, force_lands, at_pad}
use Rattle.cost_turns.specs.Runs.{may_land}
use Rattle.step_law.specs.Facts.{code_for}
use Rattle.step_law.specs.Forced.{ForcedFollow, CancelsFollow}
use Rattle.step_law.specs.Standing.{Standing, aims}
use Rattle.step_law.specs.Rows.{Run, IsAt, FollowsIn}
use Rattle.step_law.proofs.At.{fetches, same_code, step_acts, step_at, pad_paid}
use Rattle.step_law.proofs.Builtins.{given_effect, builtin_is, one_value, one_asked, kinds_same}
use Rattle.step_law.proofs.Exceptions.{calm_other}
use Rattle.step_law.proofs.Keeping.{CalmAt, kept_by_turns, kept_by_forced, calm_forced, stands_behind, marked_behind}
use Rattle.step_law.proofs.Landed.{landed}
use Rattle.step_law.proofs.Landing.{LandsIn, enters_pad}
use Rattle.step_law.proofs.Raises.{is_running, forced_asked}

-- ---- to which call a forced unwind comes

module _ (code : Code) (z : ℤ) (w : World) (next : State) (goes_on : GoesOn next) where
  widened : (a : Activation) (fs : List Activation) → LandsIn fs w next → LandsIn (a ∷ fs) w next
  widened a fs h = record { inner = a ∷ h.inner; call = h.call; outer = h.outer; split = ap (λ gs. a ∷ gs) h.split; function = h.function; frames = h.frames; number = h.number; world = h.world }

  -- where nothing may come out of a call, terminate begins
  none_comes : (h : Option ℕ) (fs : List Activation) → terminated h fs w ≡ goes_to next → ⊥
  none_comes h fs e = by w.ending e
    where
      begun : State
      begun = record { top = record { function = terminating; place = 0; frame = stub_frame (function_word h) nothing nothing }; frames = fs; world = record w { ending = is_some h } }

      by : (b : Bool) → (if b then finishes (by_program aborted) w else goes_to begun) ≡ goes_to next → ⊥
      by true e = cc e
      by false e = let went : begun ≡ next = cc e in goes_on (ap (λ (m : State). m.top.function) (sym went))

  here : (a : Activation) (fs : List Activation) (rest : Next) → (rest ≡ goes_to next → LandsIn fs w next) → (cv : Cover) → forced_at code cv z a.function a.frame fs w rest ≡ goes_to next → LandsIn (a ∷ fs) w next
  here a fs rest on bare e = absurd (none_comes w.installed.terminate_handler (record { function = a.function; place = 0; frame = a.frame } ∷ fs) e)
  here a fs rest on unpadded e = widened a fs (on e)
  here a fs rest on (padded p chain) e = by (has_cleanup (sense code a.function) chain) e
    where
      by : (b : Bool) → forced_by code b p z a.function a.frame fs w rest ≡ goes_to next → LandsIn (a ∷ fs) w next
      by true e =
          let pad = enters_pad (fetch code a.function p) (unwinding z) (pos 0) a.function p a.frame fs w next e in
          record { inner = []; call = a; outer = fs; split = refl; function = pad.function; frames = pad.frames; number = pad.number; world = pad.world }
      by false e = widened a fs (on e)

  above : (fs : List Activation) → forced_above code z fs w ≡ goes_to next → LandsIn fs w next
  above [] e = absurd (cc e)
  above (a ∷ fs) e = here a fs (forced_above code z fs w) (above fs) (look code a.function a.place) e

  pub forced_in : (a : Activation) (fs : List Activation) → force code (look code a.function a.place) z a.function a.frame fs w ≡ goes_to next → LandsIn (a ∷ fs) w next
  forced_in a fs e = here a fs (forced_above code z fs w) (above fs) (look code a.function a.place) e

-- of a run: its linear code, and the machine's image
abbrev in_code : Run → Code
in_code x = code_for x.program

abbrev in_image : Run → Image
in_image x = (program_of x.image).image

-- ---- it goes on

module _ (x : Run) (q : Plan) (before n s : ℕ) (z : ℤ) (st next : State) (w : abi.World) (at : IsAt x q before n (resume s) st w) (is : st.top.frame.slots s ≡ unwinding z) (h : step (code_for x.program) st ≡ goes_to next) (goes_on : GoesOn next) where
  lands : LandsIn (st.top ∷ st.frames) st.world next
  lands = forced_in (in_code x) z st.world next goes_on st.top st.frames (sym (step_acts x q before n (resume s) st w at ∙ ap (λ y. resumed (in_code x) y st.top st.frames st.world) is) ∙ h)

  calm : CalmAt (in_code x) st
  calm = calm_other x q before n (resume s) st w at (λ op same. cc same)

  forces_it : step (in_code x) st ≡ force (in_code x) (look (in_code x) st.top.function st.top.place) z st.top.function st.top.frame st.frames st.world
  forces_it = step_acts x q before n (resume s) st w at ∙ ap (λ y. resumed (in_code x) y st.top st.frames st.world) is

  lands_at : AtPad (in_code x) next
  lands_at = at_pad (in_code x) (step (in_code x) st) next (subst (Lands (in_code x)) (sym forces_it) (force_lands (in_code x) (look (in_code x) st.top.function st.top.place) z st.top.function st.top.frame st.frames st.world)) h goes_on

  forced_follows : ForcedLands → FollowsIn x before st w
  forced_follows run =
      let ran = run x.image q n s z st next w at.matches (is_running x q before n (resume s) st w at) (step_at x q before n (resume s) st w at next h) (forced_asked x q before n s st w at z is)
      (at.facts.pads q at.stands.unit) (at.facts.filters q at.stands.unit) goes_on in
      let paid : pays_at (in_code x) st ≡ false = subst (λ c. pays_at c st ≡ false) (same_code x q before n (resume s) st w at) (pays_known (in_image x) x.pick q st w n (resume s) at.runs at.there) in
      let none = ap one_if paid in
      inl (goes_on_one (in_image x) x.pick (in_code x) st w (Standing x.program x.image x.carrying x.tables) before next [] ran.1.turns ran.1.after h ran.0 (omega (arith, none)) (pad_paid x q before n (resume s) st w at next ran.1.turns h refl lands_at ran.1.few) (made_by_turns (in_image x) x.pick ran.1.turns w ran.1.after [] ran.1.runs) (
        resting q next,
        stands_behind x.program x.image x.carrying x.tables at.facts q (resting q next) before ran.1.turns 1 st next w ran.1.after [] at.stands (Paces.one_step (in_code x) st (goes_to next) h) first_calm
            (kept_by_turns (in_image x) ran.1.turns w ran.1.after [] ran.1.runs)
            (landed x q before st w at.facts at.stands next h lands ran.1.turns ran.1.after ran.1.holds.0 (calm_forced x.program x.image x.carrying x.tables q before st next w ran.1.after at.facts at.stands h calm ran.1.runs.unwinding)),
      ))
    where
      first_calm : (j : ℕ) (middle : State) → j < 1 → Leads (in_code x) j st (goes_to middle) → CalmAt (in_code x) middle
      first_calm zero middle less leads = let one : st ≡ middle = cc leads in subst (λ m. CalmAt (in_code x) m) one calm
      first_calm (suc j) middle less leads = absurd (omega (arith, less))

pub forced_follow : ForcedLands → ForcedFollow
forced_follow run x q before n s z st next w at is h goes_on = forced_follows x q before n s z st next w at is h goes_on run

-- ---- it begins

pub cancels_one : (v : Value) (o : LinearOp) → Cancels v o → CallsBuiltin Cancel (argument_then (int_argument v) no_arguments) None o
cancels_one v o (inl is) = inr (inr (refl, is))
cancels_one v o (inr is) = inr (inl (refl, is))

cancel_may_land : (v : Value) (o : LinearOp) → Cancels v o → may_land (Some (linear o)) ≡ true
cancel_may_land v o (inl is) = ap (λ y. may_land (Some (linear y))) is
cancel_may_land v o (inr is) = ap (λ y. may_land (Some (linear y))) is

pub cancels_unpaid : (v : Value) (o : LinearOp) → Cancels v o → linear_pays o ≡ false
cancels_unpaid v o (inl is) = ap linear_pays is
cancels_unpaid v o (inr is) = ap linear_pays is

-- an exception is none
cancels_alone : (words : Option (List Word)) (w v : World) (e : ℕ) → if_some words (λ given. cancels (number_at given 0) w) ≡ raises e v → ⊥
cancels_alone None w v e is = cc is
cancels_alone (Some given) w v e is = cc is

module _ (x : Run) (q : Plan) (before n : ℕ) (o : LinearOp) (v : Value) (st : State) (w : abi.World) (at : IsAt x q before n o st w) (begins : Cancels v o) where
  abbrev args : Arguments
  args = argument_then (int_argument v) no_arguments

  pub calls : CallsBuiltin Cancel args None o
  calls = cancels_one v o begins

  pub unpaid : pays_at (in_code x) st ≡ false
  unpaid = subst (λ c. pays_at c st ≡ false) (same_code x q before n o st w at) (pays_known (in_image x) x.pick q st w n o at.runs at.there ∙ cancels_unpaid v o begins)

  -- nothing is raised
  pub cancels_marked : NewMarked (aims x.program q (st.top ∷ st.frames) w) (in_code x) st
  cancels_marked = record {
    raised = λ op e u d runs is there. absurd (cancels_alone (words_in (kinds (in_code x) st.top.function) st.top.frame st.world args) st.world u e (sym (effect_is op runs) ∙ is));
    cancelled = λ op z u runs is. tt;
  }
    where
      effect_is : (op : Op) → RunsAt (in_code x) st (linear (plain op)) → effect (kinds (in_code x) st.top.function) op st.top.frame st.world ≡ given_effect Cancel None args (kinds (in_code x) st.top.function) st.top.frame st.world
      effect_is op runs =
          let form = builtin_is Cancel args None o calls in
          let same : Some (linear o) ≡ Some (linear (plain op)) = sym (fetches x q before n o st w at) ∙ runs in
          let one : o ≡ plain op = cc same in
          let both : plain form.0 ≡ plain op = sym form.1 ∙ one in
          let it : form.0 ≡ op = cc both in
          subst (λ y. effect (kinds (in_code x) st.top.function) y st.top.frame st.world ≡ given_effect Cancel None args (kinds (in_code x) st.top.function) st.top.frame st.world) it (form.2 (kinds (in_code x) st.top.function) st.top.frame st.world)

  -- with the number that the value has, where the step is defined
  pub record Begins (z : Next) : Type 0 where
    pub number : ℤ
    pub value : value_in (slot_kinds q n) st.top.frame st.world v ≡ Some number
    pub forces : force (in_code x) (look (in_code x) st.top.function st.top.place) number st.top.function st.top.frame st.frames st.world ≡ z

  performs : (z : Next) → step (in_code x) st ≡ z → performed (in_code x) (given_effect Cancel None args (slot_kinds q n) st.top.frame st.world) st.top st.frames st.world ≡ z
  performs z h =
      let form = builtin_is Cancel args None o calls in
      sym (step_acts x q before n o st w at ∙ ap (λ y. act (in_code x) y st.top st.frames st.world) form.1
      ∙ ap (λ y. performed (in_code x) y st.top st.frames st.world) (form.2 (kinds (in_code x) st.top.function) st.top.frame st.world)
      ∙ ap (λ ks. performed (in_code x) (given_effect Cancel None args ks st.top.frame st.world) st.top st.frames st.world) (kinds_same x q before n o st w at)) ∙ h

  pub begun : (z : Next) → step (in_code x) st ≡ z → (finishes not_defined st.world ≡ z → ⊥) → Begins z
  begun z h defined = by (words_in (slot_kinds q n) st.top.frame st.world args) refl (performs z h)
    where
      by : (g : Option (List Word)) → words_in (slot_kinds q n) st.top.frame st.world args ≡ g → performed (in_code x) (if_some g (λ given. cancels (number_at given 0) st.world)) st.top st.frames st.world ≡ z → Begins z
      by None is e = absurd (defined e)
      by (Some given) is e =
          let one = one_value (slot_kinds q n) st.top.frame st.world v given is in
          let number : number_at given 0 ≡ one.0 = ap (λ ws. number_at ws 0) one.2 in
          record {
            number = one.0;
            value = one.1;
            forces = ap (λ k. force (in_code x) (look (in_code x) st.top.function st.top.place) k st.top.function st.top.frame st.frames st.world) (sym number) ∙ e;
          }

module _ (x : Run) (q : Plan) (before n : ℕ) (o : LinearOp) (v : Value) (st next : State) (w : abi.World) (at : IsAt x q before n o st w) (begins : Cancels v o) (h : step (code_for x.program) st ≡ goes_to next) (goes_on : GoesOn next) where
  begun_here : Begins x q before n o v st w at begins (goes_to next)
  begun_here = begun x q before n o v st w at begins (goes_to next) h (λ no. cc no)

  begun_lands : LandsIn (st.top ∷ st.frames) st.world next
  begun_lands = forced_in (in_code x) begun_here.number st.world next goes_on st.top st.frames begun_here.forces

  -- it is the one that goes on next
  newest_begun : (u : abi.World) → u.unwinding ≡ Some begun_here.number → (z : ℤ) → newest_forced x.carrying None (next.top ∷ next.frames) ≡ Some z → u.unwinding ≡ Some z
  newest_begun u is z now =
      by (subst (Stays (in_code x) x.carrying at.facts.fits.carries (Some begun_here.number) (λ k. ⊥)) begun_here.forces
      (force_stays (in_code x) x.carrying at.facts.fits.carries (Some begun_here.number) (λ k. ⊥) begun_here.number (λ k e. inl e) st.world st.top st.frames))
    where
      by : Stays (in_code x) x.carrying at.facts.fits.carries (Some begun_here.number) (λ k. ⊥) (goes_to next) → u.unwinding ≡ Some z
      by (inl none) = let no : None ≡ Some z = sym none ∙ now in absurd (cc no)
      by (inr (inl same)) = is ∙ sym same ∙ now
      by (inr (inr (k, never, other))) = absurd never

  cancel_lands : AtPad (in_code x) next
  cancel_lands = at_pad (in_code x) (goes_to next) next
      (subst (Lands (in_code x)) begun_here.forces (force_lands (in_code x) (look (in_code x) st.top.function st.top.place) begun_here.number st.top.function st.top.frame st.frames st.world)) refl goes_on

  cancelled_follows : CancelsLand → FollowsIn x before st w
  cancelled_follows run =
      let ran = run x.image q n st next w o v at.matches (is_running x q before n o st w at) (step_at x q before n o st w at next h) begins (one_asked x q before n o st w at Cancel v None begun_here.number (cancels_one v o begins) begun_here.value)
      (at.facts.pads q at.stands.unit) (at.facts.filters q at.stands.unit) goes_on in
      let m = ran.3 in
      let none = ap one_if (unpaid x q before n o v st w at begins) in
      let number : Some ran.1 ≡ Some begun_here.number = sym ran.2 ∙ begun_here.value in
      inl (goes_on_one (in_image x) x.pick (in_code x) st w (Standing x.program x.image x.carrying x.tables) before next [] m.turns m.after h ran.0 (omega (arith, none)) (pad_paid x q before n o st w at next m.turns h (cancel_may_land v o begins) cancel_lands m.few) (made_by_forced (in_image x) x.pick m.turns w m.after [] m.runs) (
        resting q next,
        marked_behind x.program x.image x.carrying x.tables at.facts q (resting q next) before m.turns 1 st next w m.after [] at.stands (Paces.one_step (in_code x) st (goes_to next) h) first_news (kept_by_forced (in_image x) m.turns w m.after [] m.runs)
            (landed x q before st w at.facts at.stands next h begun_lands m.turns m.after m.holds.0 (newest_begun m.after (m.holds.2 ∙ number))),
      ))
    where
      first_news : (j : ℕ) (middle : State) → j < 1 → Leads (in_code x) j st (goes_to middle) → NewMarked (aims x.program q (st.top ∷ st.frames) w) (in_code x) middle
      first_news zero middle less leads = let one : st ≡ middle = cc leads in subst (λ m. NewMarked (aims x.program q (st.top ∷ st.frames) w) (in_code x) m) one (cancels_marked x q before n o v st w at begins)
      first_news (suc j) middle less leads = absurd (omega (arith, less))

pub cancels_follow : CancelsLand → CancelsFollow
cancels_follow run x q before n o v st next w at begins h goes_on = cancelled_follows x q before n o v st next w at begins h goes_on run
