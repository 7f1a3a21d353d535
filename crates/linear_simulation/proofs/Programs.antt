-- Whole programs: what the run of the linear code shows.
use Rattle.std.proofs.Common.{◌≡◌, ℕ, zero, suc, ◌+◌, ◌*◌, ◌-◌, ◌<◌, ◌≤◌, ◌⊎◌, inl, inr, Bool, true, false, List, [], ◌∷◌, length, Option, Some, None, refl, sym, ap, ◌∙◌, subst, arith}
use Rattle.std.specs.Prelude.{ℤ, nat_le, slice_get, if◌then◌else◌}
use Rattle.eh_outer.specs.declared.module.Reply.{Reply}
use Rattle.run_items.specs.declared.item.Item.{Item}
use Rattle.meaning_forms.specs.Meaning.{Meaning, stopped_by}
use Rattle.meaning_forms.specs.Outcome.{exit, aborted, thrown, cancelled, ended, undefined, out_of_turns, deep}
use Rattle.region_forms.specs.Form.{RegionFunction, Regions, kinds_of}
use Rattle.region_forms.specs.World.{World}
use Rattle.region_forms.specs.Effect.{result_in}
use Rattle.region_forms.specs.Outcome.{State as RegionState, Flow, normal, leaves, Result, done, stopped, Action, continued, stop, some}
use Rattle.region_forms.specs.Ending.{Running, spend, spend_turn}
use Rattle.region_forms.specs.Meaning.{after_call, called_state, function_result, no_frame, first_world, after_main}
use Rattle.linear_forms.specs.Linear.{return}
use Rattle.linear_forms.specs.Tables.{unpadded}
use Rattle.linear_forms.specs.Stub.{compiled}
use Rattle.linear_forms.specs.Activation.{Code, State, Next, goes_to, finishes, by_program, not_defined, Final}
use Rattle.linear_forms.specs.Operation.{returned_with}
use Rattle.linear_forms.specs.Exits.{outs_of}
use Rattle.linear_forms.specs.Emission.{Emitting, quiet}
use Rattle.linear_forms.specs.Code.{region_code}
use Rattle.linear_forms.specs.Unit.{emitting, unit_of}
use Rattle.linear_forms.specs.UnitRun.{code_of, first_state, seen_of, seen_run}
use Rattle.linear_forms.specs.Machine.{over, budget, exec, go_on}
use Rattle.linear_forms.specs.Counted.{counts_at}
use Rattle.linear_forms.specs.Pace.{pays_at, paying, counted, Leads, Paced}
use Rattle.linear_forms.specs.CodeRuns.{Site, LeftAt, Any, Runs}
use Rattle.linear_forms.specs.Cost.{cost}
use Rattle.linear_forms.proofs.Standing.{functions_stand}
use Rattle.linear_forms.proofs.Paces
use Rattle.linear_forms.proofs.Running
use Rattle.linear_simulation.specs.Watched.{watched, watched_function, watched_call, watched_call_of}
use Rattle.linear_simulation.specs.Comes.{turns_left, CallsRun}
use Rattle.linear_simulation.specs.FunctionsRun.{ResultIn, AreSound, running_of, program_cost}
use Rattle.linear_simulation.specs.ProgramRuns.{items_of, BeginsWith, RunsToEnd, Shows, ProgramRuns, ProgramsRun, RunShows}
use Rattle.linear_simulation.proofs.Parts
use Rattle.linear_simulation.proofs.Lengthening
use Rattle.linear_simulation.proofs.Sound.{sound_where_well_formed}
use Rattle.linear_simulation.proofs.Watching.{watched_is_meant}
use Rattle.linear_simulation.proofs.Functions.{kinds_same, functions_run}
use Rattle.linear_simulation.proofs.Functions
use Rattle.linear_simulation.proofs.Regions.{region_runs}

-- a state that still runs where the turns are used up; if there was one, main was called
record AtLast (code : Code) (turns : ℕ) (w : World) (x : Next) : Type 0 where
  last : State
  is : x ≡ goes_to last
  items : last.world.items ≡ w.items
  deepest : 1 ≤ turns → last.world.deepest ≡ w.deepest
  pays : 1 ≤ turns → pays_at code last ≡ true

-- what main comes to: an end with what is seen of it, or a state that still runs
abbrev MainMeets : Code → (turns : ℕ) → Result ℤ → Next → Type 0
MainMeets code turns (done v s) x = x ≡ finishes (by_program (exit v)) s.world
MainMeets code turns (stopped (thrown e) s) x = ⊥
MainMeets code turns (stopped (cancelled k) s) x = x ≡ finishes (by_program (exit k)) s.world
MainMeets code turns (stopped (ended e) s) x = x ≡ finishes (by_program e) s.world
MainMeets code turns (stopped undefined s) x = x ≡ finishes not_defined s.world
MainMeets code turns (stopped out_of_turns s) x = AtLast code turns s.world x
MainMeets code turns (stopped deep s) x = (m : State) × (x ≡ goes_to m) × (m.world.items ≡ s.world.items)

-- each call and each loop that turned back in so many steps had a turn of its own, and main's call one
abbrev MainCounts : Code → State → (steps turns : ℕ) → Result ℤ → Type 0
MainCounts code first steps turns (stopped deep s) = Unit {0}
MainCounts code first steps turns (stopped out_of_turns s) = 1 ≤ turns → counted code steps first + 1 ≤ turns
MainCounts code first steps turns r = counted code steps first + 1 ≤ turns

-- it comes to that in so many steps, of which one pays for each turn that was spent but that of main's own call
record MainComes (code : Code) (first : State) (turns : ℕ) (r : Result ℤ) (enough : ℕ) : Type 0 where
  next : Next
  steps : ℕ
  few : steps ≤ enough
  leads : Leads code steps first next
  paid : turns ≤ paying code steps first + turns_left r + 1
  counts : MainCounts code first steps turns r
  meets : MainMeets code turns r next

module _ (code : Code) (first : State) where
  rest_of : (j n : ℕ) → j ≤ n → (d : ℕ) × (n ≡ j + d)
  rest_of j n le = (n - j, omega (arith, le))

  ends_so : (j enough : ℕ) (e : Final) (w : World) → j ≤ enough → exec code j first ≡ over e w → (n : ℕ) → enough ≤ n → exec code n first ≡ over e w
  ends_so j enough e w le q n h =
      let d = rest_of j n (omega (arith, le, h)) in
      ap (λ z. exec code z first) d.1 ∙ Lengthening.end_stays code j d.0 first e w q

  begins_so : (j enough : ℕ) (xs : List Item) (w : World) → w.items ≡ xs → j ≤ enough → exec code j first ≡ budget w → (n : ℕ) → enough ≤ n → BeginsWith xs (items_of (exec code n first))
  begins_so j enough xs w same le q n h =
      let d = rest_of j n (omega (arith, le, h)) in
      subst (λ z. BeginsWith z (items_of (exec code n first))) (ap items_of q ∙ same)
      (subst (λ z. BeginsWith (items_of (exec code j first)) (items_of (exec code z first))) (sym d.1) (Lengthening.longer_run code j d.0 first))

  -- so many steps run to what they lead to
  run_there : (j : ℕ) (x y : Next) → Leads code j first x → x ≡ y → exec code j first ≡ go_on (exec code 0) y
  run_there j x y h e =
      let same : j ≡ j + 0 = omega arith in
      ap (λ n. exec code n first) same ∙ Paces.leads_run code j 0 first x h ∙ ap (go_on (exec code 0)) e

  -- it comes to the end, and every run has as few calls and loops as that to the end
  to_end : (m : Meaning) (turns enough j : ℕ) (x : Next) (e : Final) (w : World) → Leads code j first x → x ≡ finishes e w → j ≤ enough → seen_run (over e w) ≡ seen_of m
      → counted code j first + 1 ≤ turns → RunsToEnd code first m turns enough
  to_end m turns enough j x e w h is few same counts = record {
    ends = λ n le. ap seen_run (ends_so j enough e w few (run_there j x (finishes e w) h is) n le) ∙ same;
    counts = λ n. let less = Paces.tally_ended code (counts_at code) j n first e w (subst (λ y. Leads code j first y) is h) in omega (arith, counts, less);
  }

  -- what is shown of it
  shows : (turns : ℕ) (r : Result ℤ) (enough : ℕ) → MainComes code first turns r enough → Shows (after_main r).main (after_main r) turns enough code first
  shows turns (done v s) enough c = to_end (after_main (done v s)) turns enough c.steps c.next (by_program (exit v)) s.world c.leads c.meets c.few refl c.counts
  shows turns (stopped (thrown e) s) enough c = c.meets
  shows turns (stopped (cancelled k) s) enough c = to_end (after_main (stopped (cancelled k) s)) turns enough c.steps c.next (by_program (exit k)) s.world c.leads c.meets c.few refl c.counts
  shows turns (stopped (ended (exit k)) s) enough c = to_end (after_main (stopped (ended (exit k)) s)) turns enough c.steps c.next (by_program (exit k)) s.world c.leads c.meets c.few refl c.counts
  shows turns (stopped (ended aborted) s) enough c = to_end (after_main (stopped (ended aborted) s)) turns enough c.steps c.next (by_program aborted) s.world c.leads c.meets c.few refl c.counts
  shows turns (stopped undefined s) enough c = to_end (after_main (stopped undefined s)) turns enough c.steps c.next not_defined s.world c.leads c.meets c.few refl c.counts
  shows turns (stopped out_of_turns s) enough c =
      let a = c.meets in
      record {
        begins = begins_so c.steps enough s.world.items a.last.world a.items c.few (run_there c.steps c.next (goes_to a.last) c.leads a.is);
        short = λ one. record {
          steps = c.steps;
          last = a.last;
          few = c.few;
          leads = subst (λ x. Leads code c.steps first x) a.is c.leads;
          items = a.items;
          deepest = a.deepest one;
          pays = a.pays one;
          paid = omega (arith, c.paid);
          counts = c.counts one;
        };
      }
  shows turns (stopped deep s) enough c =
      begins_so c.steps enough s.world.items c.meets.0.world c.meets.2 c.few (run_there c.steps c.next (goes_to c.meets.0) c.leads c.meets.1)

-- the return of main
module _ (code : Code) (most n : ℕ) (run : Running) (g : ℕ) (result : Option ℕ) (first : State) where
  abbrev main_site : Site
  main_site = record { func = g; cover = unpadded; frames = []; guards = [] }

  main_returns : (em : Emitting) (c t enough q : ℕ) (r : Result Flow) → ((s : ℕ) → s < n → code.kinds_at g s ≡ run.kinds s) → ResultIn n result
      → code.op_at g q ≡ Some (return result) → t * most + c + 1 ≤ enough
      → Runs code most n c Any (LeftAt code em n main_site [] []) main_site q first t r
      → MainComes code first (suc t) (after_call no_frame (continued r (λ u. function_result run.kinds result))) enough
  main_returns em c t enough q (done normal st) k h op le r =
      let x = r.meets in
      let s1 = Running.step_at code most n main_site q x.0 st.world (return result) op ∙
      ap (λ o. returned_with code o [] st.world) (Functions.result_same code most n run g (record { function = compiled g; place = 0; frame = x.0 }) [] [] result no_frame k h x.0 st x.1) in
      go (result_in result st.frame st.world run.kinds)
      (Running.reaches_on code most n (Running.reaches_to code most n x.3 r.reaches) (Running.free_step code most n st.turns s1
      (Running.uncounted code most n main_site q x.0 st.world (return result) op refl)))
    where
      go : (o : Option ℤ) → Paced code most first t (returned_with code o [] st.world) st.turns (c + 1)
          → MainComes code first (suc t) (after_call no_frame (some o st)) enough
      go None re =
          record { next = finishes not_defined st.world; steps = re.steps; few = omega (arith, re.quick, le); leads = re.leads; paid = omega (arith, re.paid); counts = omega (arith, re.counts); meets = refl }
      go (Some v) re =
          record { next = finishes (by_program (exit v)) st.world; steps = re.steps; few = omega (arith, re.quick, le); leads = re.leads; paid = omega (arith, re.paid); counts = omega (arith, re.counts); meets = refl }
  main_returns em c t enough q (done (leaves j) st) k h op le r = let lt = r.meets.inside in absurd (omega (arith, lt))
  main_returns em c t enough q (stopped (thrown e) st) k h op le r = let no = r.meets.2 in absurd (cc no)
  main_returns em c t enough q (stopped (cancelled z) st) k h op le r =
      let b = r.reaches in record { next = r.next; steps = b.steps; few = omega (arith, b.quick, le); leads = b.leads; paid = omega (arith, b.paid); counts = omega (arith, b.counts); meets = r.meets.2 }
  main_returns em c t enough q (stopped (ended e) st) k h op le r =
      let b = r.reaches in record { next = r.next; steps = b.steps; few = omega (arith, b.quick, le); leads = b.leads; paid = omega (arith, b.paid); counts = omega (arith, b.counts); meets = r.meets }
  main_returns em c t enough q (stopped undefined st) k h op le r =
      let b = r.reaches in record { next = r.next; steps = b.steps; few = omega (arith, b.quick, le); leads = b.leads; paid = omega (arith, b.paid); counts = omega (arith, b.counts); meets = r.meets }
  main_returns em c t enough q (stopped out_of_turns st) k h op le r =
      let b = r.reaches in
      let x = r.meets in
      record {
        next = r.next;
        steps = b.steps;
        few = omega (arith, b.quick, le);
        leads = b.leads;
        paid = omega (arith, b.paid);
        counts = λ one. omega (arith, b.counts);
        meets = record { last = x.0; is = x.1; items = ap (λ w. w.items) x.2; deepest = λ one. ap (λ w. w.deepest) x.2; pays = λ one. x.3 };
      }
  main_returns em c t enough q (stopped deep st) k h op le r =
      let b = r.reaches in
      let x = r.meets in
      record { next = r.next; steps = b.steps; few = omega (arith, b.quick, le); leads = b.leads; paid = omega (arith, b.paid); counts = tt; meets = (x.0, x.1, ap (λ w. w.items) x.2) }

module _ (p : Regions) (most limit : ℕ) (sound : AreSound p most) (input : List ℕ) (replies : List (List Reply)) where
  abbrev program_code : Code
  program_code = code_of (unit_of p)

  abbrev begin : State
  begin = first_state (unit_of p) input replies

  abbrev before : ℕ → RegionState
  before turns = record { frame = no_frame; world = first_world p.globals input replies; turns = turns }

  -- main runs with a turn less
  main_runs : (u : ℕ) (f : RegionFunction) → slice_get p.functions p.main ≡ Some f
      → MainComes program_code begin (suc u) (watched_function (running_of p limit (suc u)) f [] (record { guards = []; depth = 1 }) (before u)) ((suc u + 1) * most)
  main_runs u f there =
      let calls_run = functions_run p most limit sound (suc u) in
      let stands = functions_stand p p.main f there in
      let ok = sound.sound p.main f there in
      let cheap = sound.cheap p.main f there in
      let run : Running = record (running_of p limit (suc u)) { kinds = kinds_of f.slots } in
      let run_calls : CallsRun program_code most (suc u) run =
      record { runs = calls_run.runs; frames = calls_run.frames; ending = calls_run.ending; types = calls_run.types; room = calls_run.room } in
      let n = length f.slots in
      let s = main_site program_code most n run p.main f.result begin in
      let c = region_code (emitting f) unpadded [] 0 0 f.body in
      let st2 = called_state (kinds_of f.slots) [] 1 (before u) in
      let same_kinds = kinds_same p p.main f there in
      let body = region_runs program_code most (suc u) run run_calls f.body (emitting f) n s [] 0 0 st2.frame st2 (omega (arith, cheap)) (omega arith) tt
      (record { same = λ t. refl })
      (record { kinds = λ k lt2. same_kinds k; behind = stands.behind; zero = refl })
      stands.means ok.barred ok.clauses ok.inside (λ k lt2. absurd (omega (arith, lt2))) ok.slots (record { call = refl; slots = λ k lt2. refl })
      (Parts.has_front program_code p.main 0 c (quiet (return f.result) ∷ []) stands.has) in
      let end = Parts.has_back program_code p.main 0 c (quiet (return f.result) ∷ []) stands.has in
      let all_out = Parts.widened program_code most n s (outs_of f.body) [] (λ k h. let lt3 = ok.inside k h in absurd (omega (arith, lt3)))
      (watched run f.body (record { guards = []; depth = 1 }) st2) body in
      let grown : u * most + cost f.body + 1 ≤ (suc u + 1) * most = enough_for u (cost f.body) cheap in
      main_returns program_code most n run p.main f.result begin (emitting f) (cost f.body) u ((suc u + 1) * most) (0 + length c)
      (watched run f.body (record { guards = []; depth = 1 }) st2) (λ k lt2. same_kinds k) ok.result end.0 grown all_out
    where
      enough_for : (u c : ℕ) → c + 2 ≤ most → u * most + c + 1 ≤ (suc u + 1) * most
      enough_for u c h = let w : (suc u + 1) * most ≡ u * most + most + most = omega arith in omega (arith, w, h)

  main_comes : (turns : ℕ) (o : Option RegionFunction) → slice_get p.functions p.main ≡ o
      → MainComes program_code begin turns (watched_call_of o (running_of p limit turns) [] (record { guards = []; depth = 0 }) (before turns)) ((turns + 1) * most)
  main_comes turns None e = record { next = goes_to begin; steps = 0; few = omega arith; leads = refl; paid = omega arith; counts = tt; meets = (begin, refl, refl) }
  main_comes turns (Some f) e = go (nat_le limit 0)
    where
      after : ℕ → Unit {0} → Action ℤ
      after k u = watched_function (running_of p limit k) f [] (record { guards = []; depth = 1 })

      spent : (k : ℕ) → MainComes program_code begin k (continued (spend k (before k)) (after k)) ((k + 1) * most)
      spent zero = record {
        next = goes_to begin;
        steps = 0;
        few = omega arith;
        leads = refl;
        paid = omega arith;
        counts = λ one. absurd (omega (arith, one));
        meets = record { last = begin; is = refl; items = refl; deepest = λ one. absurd (omega (arith, one)); pays = λ one. absurd (omega (arith, one)) };
      }
      spent (suc u) = main_runs u f e

      go : (b : Bool) → MainComes program_code begin turns (continued ((if b then stop deep else spend_turn) (before turns)) (after turns)) ((turns + 1) * most)
      go true = record { next = goes_to begin; steps = 0; few = omega arith; leads = refl; paid = omega arith; counts = tt; meets = (begin, refl, refl) }
      go false = spent turns

pub program_runs : ProgramRuns
program_runs p most limit sound input replies turns =
    shows (code_of (unit_of p)) (first_state (unit_of p) input replies) turns
    (watched_call p limit (suc turns) p.main [] (record { guards = []; depth = 0 }) (before p most limit sound input replies turns)) ((turns + 1) * most)
    (main_comes p most limit sound input replies turns (slice_get p.functions p.main) refl)

meant_shows : (p : Regions) (turns : ℕ) (input : List ℕ) (replies : List (List Reply)) (m k : Meaning) → (m ≡ k) ⊎ (m.main ≡ stopped_by deep) → (m.main ≡ stopped_by deep → ⊥)
    → RunShows p m turns (program_cost p) input replies → RunShows p k turns (program_cost p) input replies
meant_shows p turns input replies m k (inl e) shallow h = subst (λ z. RunShows p z turns (program_cost p) input replies) e h
meant_shows p turns input replies m k (inr d) shallow h = absurd (shallow d)

pub programs_run : ProgramsRun
programs_run = record {
  watched = λ p limit well catches input replies turns. program_runs p (program_cost p) limit (sound_where_well_formed p well catches) input replies turns;
  meant = λ p limit well catches input replies turns not_deep.
      meant_shows p turns input replies _ _ (watched_is_meant p limit input replies turns) not_deep
      (program_runs p (program_cost p) limit (sound_where_well_formed p well catches) input replies turns);
}
