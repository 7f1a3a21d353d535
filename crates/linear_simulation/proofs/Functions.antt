-- Every function of a program runs, with every fuel.
use Rattle.std.proofs.Common.{◌≡◌, ℕ, zero, suc, ◌+◌, ◌<◌, ◌⊎◌, inl, inr, Bool, true, false, List, [], ◌∷◌, ◌++◌, length, Option, Some, None, refl, sym, ap, ◌∙◌, subst, arith}
use Rattle.std.specs.Prelude.{ℤ, nat_le, slice_get, unwrap_or, if◌then◌else◌}
use Rattle.meaning_forms.specs.Outcome.{thrown, cancelled, ended, undefined, out_of_turns, deep}
use Rattle.region_forms.specs.Form.{Kinds, help_slot, in_slot, load, RegionFunction, Regions, kind_of, kinds_of, Slot}
use Rattle.region_forms.specs.LowerProgram.{help}
use Rattle.region_forms.specs.World.{Word, Frame, World}
use Rattle.region_forms.specs.Guard.{Guard}
use Rattle.region_forms.specs.Effect.{passed_to, int_passed_to, frame_passed, world_passed, call_begun, new_frame, new_world, result_in}
use Rattle.region_forms.specs.Outcome.{State as RegionState, Context, Flow, normal, leaves, Result, done, stopped, Action, continued, stop, some}
use Rattle.region_forms.specs.Ending.{Running, spend, spend_turn}
use Rattle.region_forms.specs.Meaning.{after_call, called_state, function_result}
use Rattle.linear_forms.specs.Linear.{return}
use Rattle.linear_forms.specs.Tables.{unpadded}
use Rattle.linear_forms.specs.Stub.{compiled}
use Rattle.linear_forms.specs.Activation.{Code, Activation, State, finishes, not_defined, look, depth_of}
use Rattle.linear_forms.specs.Operation.{returned, returned_with}
use Rattle.linear_forms.specs.Frame.{has_pad}
use Rattle.linear_forms.specs.Exits.{outs_of}
use Rattle.linear_forms.specs.Emission.{Emitting, quiet}
use Rattle.linear_forms.specs.Code.{region_code}
use Rattle.linear_forms.specs.Unit.{emitting, function_code, unit_of}
use Rattle.linear_forms.specs.UnitRun.{no_code, code_of}
use Rattle.linear_forms.specs.Agrees.{Agrees}
use Rattle.linear_forms.specs.Pace.{Paced}
use Rattle.linear_forms.specs.CodeRuns.{Site, SameBelow, LeftAt, Any, Runs, context_of, called_from}
use Rattle.linear_forms.specs.Cost.{cost}
use Rattle.linear_forms.proofs.Lists.{mapped}
use Rattle.linear_forms.proofs.Standing.{functions_stand}
use Rattle.linear_forms.proofs.Running
use Rattle.linear_forms.proofs.Slots
use Rattle.linear_simulation.specs.Watched.{watched, watched_function, watched_call, watched_call_of}
use Rattle.linear_simulation.specs.Comes.{Comes, comes_back, IsNotOpened, Opened, FunctionRuns, CallsRun, state_after}
use Rattle.linear_simulation.specs.FunctionsRun.{ResultIn, AreSound, running_of}
use Rattle.linear_simulation.proofs.Parts
use Rattle.linear_simulation.proofs.Endings.{call_ending}
use Rattle.linear_simulation.proofs.Regions.{region_runs}

-- slots of a pad are for help, and one that is not there is as good as that
help_kind : (b : Bool) (k : ℕ) → kind_of (slice_get (if b then help ∷ help ∷ help ∷ [] else []) k) ≡ help_slot
help_kind false k = refl
help_kind true zero = refl
help_kind true (suc zero) = refl
help_kind true (suc (suc zero)) = refl
help_kind true (suc (suc (suc k))) = refl

-- the kinds of a function's slots are the same at both levels
slots_same : (slots : List Slot) (b : Bool) (s : ℕ) → kinds_of (slots ++ (if b then help ∷ help ∷ help ∷ [] else [])) s ≡ kinds_of slots s
slots_same [] b s = help_kind b s
slots_same (x ∷ slots) b zero = refl
slots_same (x ∷ slots) b (suc s) = slots_same slots b s

pub kinds_same : (p : Regions) (g : ℕ) (f : RegionFunction) → slice_get p.functions g ≡ Some f → (s : ℕ) → (code_of (unit_of p)).kinds_at g s ≡ kinds_of f.slots s
kinds_same p g f e s =
    ap (λ x. kinds_of (unwrap_or x no_code).slots s) (mapped function_code p.functions g f e) ∙ slots_same f.slots (has_pad f.body) s

module _ (j k : Kinds) (same : (s : ℕ) → j s ≡ k s) where
  frame_same : (given : List Word) (s : ℕ) (f : Frame) → frame_passed j s given f ≡ frame_passed k s given f
  frame_same [] s f = refl
  frame_same (x ∷ given) s f = frame_same given (s + 1) (passed_to (j s) s x f) ∙ ap (λ y. frame_passed k (s + 1) given (passed_to y s x f)) (same s)

  world_same : (given : List Word) (c s : ℕ) (w : World) → world_passed j c s given w ≡ world_passed k c s given w
  world_same [] c s w = refl
  world_same (x ∷ given) c s w = world_same given c (s + 1) (int_passed_to (j s) c s x w) ∙ ap (λ y. world_passed k c (s + 1) given (int_passed_to y c s x w)) (same s)

-- the end of a function
module _ (code : Code) (most n : ℕ) (run : Running) (g : ℕ) (a : Activation) (fs : List Activation) (gs : List Guard) (result : Option ℕ) (x0 : Frame) where
  abbrev pub body_site : Site
  body_site = record { func = g; cover = unpadded; frames = a ∷ fs; guards = gs }

  pub result_same : (k : (s : ℕ) → s < n → code.kinds_at g s ≡ run.kinds s) → ResultIn n result → (f : Frame) (st : RegionState) → SameBelow n st.frame f
      → result_in result f st.world (code.kinds_at g) ≡ result_in result st.frame st.world run.kinds
  result_same k h f st same = go result h
    where
      go : (o : Option ℕ) → ResultIn n o → result_in o f st.world (code.kinds_at g) ≡ result_in o st.frame st.world run.kinds
      go None h = refl
      go (Some s) h = Slots.value_same n run.kinds (code.kinds_at g) k st.frame f same st.world (load (record { root = in_slot s; offset = 0 })) (omega (arith, h))

  returns : {c : ℕ} {m : State} {t : ℕ} (em : Emitting) (q : ℕ) (r : Result Flow) → ((s : ℕ) → s < n → code.kinds_at g s ≡ run.kinds s) → ResultIn n result
      → code.op_at g q ≡ Some (return result)
      → Runs code most n c Any (LeftAt code em n body_site [] []) body_site q m t r
      → Comes code most x0 a fs (comes_back code a fs) m t (after_call x0 (continued r (λ u. function_result run.kinds result))) (c + 1)
  returns {c} {m} {t} em q (done normal st) k h op r =
      let x = r.meets in
      let s1 = Running.step_at code most n body_site q x.0 st.world (return result) op ∙
      ap (λ o. returned_with code o (a ∷ fs) st.world) (result_same k h x.0 st x.1) in
      go (result_in result st.frame st.world run.kinds)
      (Running.reaches_on code most n (Running.reaches_to code most n x.3 r.reaches) (Running.free_step code most n st.turns s1
      (Running.uncounted code most n body_site q x.0 st.world (return result) op refl)))
    where
      go : (o : Option ℤ) → Paced code most m t (returned_with code o (a ∷ fs) st.world) st.turns (c + 1)
          → Comes code most x0 a fs (comes_back code a fs) m t (after_call x0 (some o st)) (c + 1)
      go None re = record { next = finishes not_defined st.world; reaches = re; comes = refl }
      go (Some v) re = record { next = returned code v (a ∷ fs) st.world; reaches = re; comes = refl }
  returns em q (done (leaves j) st) k h op r = let lt = r.meets.inside in absurd (omega (arith, lt))
  returns {c} em q (stopped (thrown e) st) k h op r =
      let x = r.meets in
      record { next = r.next; reaches = Running.slower code most n (c + 1) (omega arith) r.reaches; comes = (x.0, x.2, refl, x.4) }
  returns {c} em q (stopped (cancelled z) st) k h op r =
      let x = r.meets in
      record { next = r.next; reaches = Running.slower code most n (c + 1) (omega arith) r.reaches; comes = (refl, x.2) }
  returns {c} em q (stopped (ended e) st) k h op r = record { next = r.next; reaches = Running.slower code most n (c + 1) (omega arith) r.reaches; comes = r.meets }
  returns {c} em q (stopped undefined st) k h op r = record { next = r.next; reaches = Running.slower code most n (c + 1) (omega arith) r.reaches; comes = r.meets }
  returns {c} em q (stopped out_of_turns st) k h op r = record { next = r.next; reaches = Running.slower code most n (c + 1) (omega arith) r.reaches; comes = r.meets }
  returns {c} em q (stopped deep st) k h op r = record { next = r.next; reaches = Running.slower code most n (c + 1) (omega arith) r.reaches; comes = r.meets }

-- a call comes back to the frame that made it
after_frame : (x : Frame) (r : Result ℤ) → (state_after (after_call x r)).frame ≡ x
after_frame x (done v s) = refl
after_frame x (stopped y s) = refl

call_frame : (p : Regions) (limit fuel g : ℕ) (words : List Word) (c : Context) (st : RegionState) → (state_after (watched_call p limit fuel g words c st)).frame ≡ st.frame
call_frame p limit zero g words c st = refl
call_frame p limit (suc fuel) g words c st = go (slice_get p.functions g)
  where
    r : Running
    r = running_of p limit fuel

    spent : (f : RegionFunction) (u : ℕ) → (state_after (continued (spend u st) (λ x. watched_function r f words (record c { depth = c.depth + 1 })))).frame ≡ st.frame
    spent f zero = refl
    spent f (suc u) = after_frame st.frame _

    may_open : (f : RegionFunction) (b : Bool)
        → (state_after (continued ((if b then stop deep else spend_turn) st) (λ x. watched_function r f words (record c { depth = c.depth + 1 })))).frame ≡ st.frame
    may_open f true = refl
    may_open f false = spent f st.turns

    go : (o : Option RegionFunction) → (state_after (watched_call_of o r words c st)).frame ≡ st.frame
    go None = refl
    go (Some f) = may_open f (nat_le limit c.depth)

module _ (p : Regions) (most limit : ℕ) (sound : AreSound p most) where
  abbrev code : Code
  code = code_of (unit_of p)

  -- a function that is there, and for whose call a turn is left
  module _ (fuel : ℕ) (calls_run : CallsRun code most fuel (running_of p limit fuel)) (g : ℕ) (f : RegionFunction) (there : slice_get p.functions g ≡ Some f)
      (a : Activation) (fs : List Activation) (gs : List Guard) (agrees : Agrees code a.function gs (look code a.function a.place) fs) (words : List Word) where
    abbrev n : ℕ
    n = length f.slots

    abbrev run : Running
    run = record (running_of p limit fuel) { kinds = kinds_of f.slots }

    abbrev inner : Context
    inner = record { guards = gs; depth = depth_of (a ∷ fs) + 1 }

    run_calls : CallsRun code most fuel run
    run_calls = record { runs = calls_run.runs; frames = calls_run.frames; ending = calls_run.ending; types = calls_run.types; room = calls_run.room }

    function_comes : (st : RegionState) → st.turns < fuel
        → Comes code most st.frame a fs (comes_back code a fs) (called_from code g words a fs st.world) st.turns (watched_function (running_of p limit fuel) f words inner st) (cost f.body + 1)
    function_comes st lt =
        let stands = functions_stand p g f there in
        let ok = sound.sound g f there in
        let cheap = sound.cheap g f there in
        let s = body_site code most n run g a fs gs f.result st.frame in
        let c = region_code (emitting f) unpadded [] 0 0 f.body in
        let w = new_world (code.kinds_at g) words (depth_of (a ∷ fs) + 1) st.world in
        let x = new_frame (code.kinds_at g) words st.world in
        let st2 = called_state (kinds_of f.slots) words (depth_of (a ∷ fs) + 1) st in
        let same_kinds = kinds_same p g f there in
        let fw : x ≡ st2.frame = frame_same (code.kinds_at g) (kinds_of f.slots) same_kinds words 0 _ in
        let ww : w ≡ st2.world = ap (λ v. call_begun (depth_of (a ∷ fs) + 1) v) (world_same (code.kinds_at g) (kinds_of f.slots) same_kinds words st.world.calls 0 st.world) in
        let body = region_runs code most fuel run run_calls f.body (emitting f) n s [] 0 0 st2.frame st2 (omega (arith, cheap)) lt tt
        (record { same = agrees.same })
        (record { kinds = λ k lt2. same_kinds k; behind = stands.behind; zero = refl })
        stands.means ok.barred ok.clauses ok.inside (λ k lt2. absurd (omega (arith, lt2))) ok.slots (record { call = refl; slots = λ k lt2. refl })
        (Parts.has_front code g 0 c (quiet (return f.result) ∷ []) stands.has) in
        let end = Parts.has_back code g 0 c (quiet (return f.result) ∷ []) stands.has in
        let all_out = Parts.widened code most n s (outs_of f.body) [] (λ k h. let lt3 = ok.inside k h in absurd (omega (arith, lt3))) (watched run f.body inner st2) body in
        let out = returns code most n run g a fs gs f.result st.frame (emitting f) (0 + length c) (watched run f.body inner st2) (λ k lt2. same_kinds k) ok.result end.0 all_out in
        subst (λ v. Comes code most st.frame a fs (comes_back code a fs) (record { top = record { function = compiled g; place = 0; frame = v }; frames = a ∷ fs; world = w }) st.turns
        (watched_function (running_of p limit fuel) f words inner st) (cost f.body + 1)) (sym fw)
        (subst (λ v. Comes code most st.frame a fs (comes_back code a fs) (record { top = record { function = compiled g; place = 0; frame = st2.frame }; frames = a ∷ fs; world = v }) st.turns
        (watched_function (running_of p limit fuel) f words inner st) (cost f.body + 1)) (sym ww) out)

    -- it is opened, if it may be
    opened : (st : RegionState) → st.turns < suc fuel
        → IsNotOpened (watched_call_of (Some f) (running_of p limit fuel) words (context_of gs a fs) st) st ⊎
        Opened code most a fs (called_from code g words a fs st.world) st (watched_call_of (Some f) (running_of p limit fuel) words (context_of gs a fs) st)
    opened st lt = go (nat_le limit (depth_of (a ∷ fs)))
      where
        after : Unit {0} → Action ℤ
        after u = watched_function (running_of p limit fuel) f words inner

        spent : (u : ℕ) → st.turns ≡ u → IsNotOpened (continued (spend u st) after) st ⊎ Opened code most a fs (called_from code g words a fs st.world) st (continued (spend u st) after)
        spent zero q = inl (inl (refl, q))
        spent (suc u) q =
            let cheap = sound.cheap g f there in
            inr (record { left = u; spent = q; cost = cost f.body + 1; paid = omega (arith, cheap); comes = function_comes (record st { turns = u }) (omega (arith, q, lt)) })

        go : (b : Bool) → IsNotOpened (continued ((if b then stop deep else spend_turn) st) after) st ⊎
            Opened code most a fs (called_from code g words a fs st.world) st (continued ((if b then stop deep else spend_turn) st) after)
        go true = inl (inr refl)
        go false = spent st.turns refl

  call_runs : (fuel : ℕ) → CallsRun code most fuel (running_of p limit fuel) → (g : ℕ) → FunctionRuns code most (suc fuel) (running_of p limit (suc fuel)) g
  call_runs fuel calls_run g a fs gs words st lt ag = go (slice_get p.functions g) refl
    where
      go : (o : Option RegionFunction) → slice_get p.functions g ≡ o
          → IsNotOpened (watched_call_of o (running_of p limit fuel) words (context_of gs a fs) st) st ⊎
          Opened code most a fs (called_from code g words a fs st.world) st (watched_call_of o (running_of p limit fuel) words (context_of gs a fs) st)
      go None e = inl (inr refl)
      go (Some f) e = opened fuel calls_run g f e a fs gs ag words st lt

  pub functions_run : (fuel : ℕ) → CallsRun code most fuel (running_of p limit fuel)
  functions_run zero = record {
    runs = λ g a fs gs words st lt ag. absurd (omega (arith, lt));
    frames = λ g words a fs gs st. call_frame p limit 0 g words (context_of gs a fs) st;
    ending = λ g words a fs gs st e. call_ending p limit 0 g words (context_of gs a fs) st e;
    types = refl;
    room = sound.room;
  }
  functions_run (suc fuel) = record {
    runs = call_runs fuel (functions_run fuel);
    frames = λ g words a fs gs st. call_frame p limit (suc fuel) g words (context_of gs a fs) st;
    ending = λ g words a fs gs st e. call_ending p limit (suc fuel) g words (context_of gs a fs) st e;
    types = refl;
    room = sound.room;
  }
