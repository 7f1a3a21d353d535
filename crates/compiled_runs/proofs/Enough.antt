-- A run with enough instructions comes to the end of what the program means, or shows all that it shows with fewer turns.
use Rattle.std.proofs.Common.{◌≡◌, ℕ, zero, suc, ◌+◌, ◌*◌, ◌≤◌, ◌^◌, ◌⊎◌, inl, inr, List, [], refl, sym, ap, ◌∙◌, subst, arith}
use Rattle.eh_outer.specs.declared.module.Reply.{Reply}
use Rattle.cxx_ast.specs.Checked.{IsChecked}
use Rattle.cxx_ast.specs.Plain.{Checked}
use Rattle.elf_image.specs.Clean.{CleanImage}
use Rattle.meaning_forms.specs.declared.ending.MeanEnd.TheVariants as meanings
use Rattle.meaning_forms.specs.Outcome as source
use Rattle.meaning_forms.specs.Outcome.{thrown, cancelled, ended, undefined, out_of_turns, deep}
use Rattle.meaning_forms.specs.Meaning.{Meaning, MainOutcome, returned, stopped_by, end_of, program_meaning, first_world}
use Rattle.meaning_forms.specs.Call.{call_with}
use Rattle.meaning_forms.specs.Context.{no_context}
use Rattle.meaning_forms.specs.Running.{function}
use Rattle.meaning_forms.specs.World.{nowhere}
use Rattle.region_forms.specs.Layout.{layout_of}
use Rattle.region_forms.specs.LowerProgram.{regions_of}
use Rattle.linear_forms.specs.Activation.{Code, State, by_program, goes_to}
use Rattle.linear_forms.specs.Machine.{over, budget, exec}
use Rattle.linear_forms.specs.Pace.{pays_at, paying, Leads, counted as counted_steps}
use Rattle.linear_forms.specs.UnitRun.{code_of, first_state}
use Rattle.linear_forms.proofs.Paces
use Rattle.linear_simulation.specs.FunctionsRun.{program_cost}
use Rattle.linear_simulation.specs.ProgramRuns.{BeginsWith, RunsToEnd, StopsShort, Shows}
use Rattle.linear_simulation.proofs.Lengthening
use Rattle.linear_meaning.specs.Runs.{CheckedProgramsRunAsMeant}
use Rattle.meaning_depths.specs.Laws.{ShallowMeanings}
use Rattle.source_bounds.specs.Compiled.{unit_for}
use Rattle.cost_turns.specs.Counting.{AllAreCounted}
use Rattle.cost_turns.specs.Once.{counted}
use Rattle.cost_words.specs.Spends.{spends, CheckedRunsSpendLittle}
use Rattle.cxa_runtime.specs.declared.effect.End.TheVariants as ends
use Rattle.cxa_runtime.specs.Run.{Ran, Runs, run}
use Rattle.cxa_runtime.specs.World as abi
use Rattle.eh_run.specs.Program.{program_of}
use Rattle.whole_runs.specs.Steps as steps
use Rattle.whole_runs.specs.Runs as follows
use Rattle.whole_runs.specs.Runs.{IsCutOff, RunFollows}
use Rattle.whole_runs.specs.Enough.{BreaksLate, RunSuffices}
use Rattle.whole_runs.proofs.Arriving.{within_or_behind, still_runs}
use Rattle.whole_runs.proofs.Sufficing.{same_end}
use Rattle.compiled_runs.specs.Compiled.{EndsAs, Compiled, RunsFollow}
use Rattle.compiled_runs.specs.Enough.{HasEnd, enough_for, RunsSufficeFor, SufficientImagesHaveEnough}
use Rattle.compiled_runs.specs.Given.{IsGiven}
use Rattle.compiled_runs.proofs.Meaning.{end_is_meant, OverWith, over_with, end_is}

-- what is spent is no more than what is enough
enough : (tokens c k start spent n : ℕ) → spent ≤ (128 * tokens + 1024) * (c + 2) → c + 1 ≤ k → start ≤ 38 → (k + 1) * (128 * tokens + 4096) ≤ n → start + spent + 128 ≤ n
enough tokens c k start spent n few turns first most =
    let wider = more (128 * tokens + 1024) (c + 2) (k + 1) (omega (arith, turns)) in
    let longer = each (128 * tokens + 1024) (128 * tokens + 4096) k (omega arith) in
    omega (arith, few, wider, longer, first, most)
  where
    more : (l a b : ℕ) → a ≤ b → l * a ≤ l * b
    more zero a b h = omega arith
    more (suc l) a b h = let rest = more l a b h in grind (arith, rest, h)

    each : (l m k : ℕ) → l + 3072 ≤ m → l * (k + 1) + 3072 ≤ (k + 1) * m
    each l m zero h = omega (arith, h)
    each l m (suc k) h = let rest = each l m k h in grind (arith, rest, h)

module _ (p : Checked) (checked : IsChecked p) (i : CleanImage) (input : List ℕ) (replies : List (List Reply)) (turns n : ℕ) (pick : ℕ → ℕ) where
  abbrev code : Code
  code = code_of (unit_for p)

  abbrev first : State
  first = first_state (unit_for p) input replies

  abbrev start : abi.World
  start = abi.begins (program_of i).hart input replies

  abbrev r : Ran
  r = run (program_of i).image pick n start

  abbrev m : Meaning
  m = program_meaning p input replies turns (turns + 1)

  abbrev far : Meaning
  far = program_meaning p input replies n (n + 1)

  module _ (few : n ≤ 2 ^ 40) (most : enough_for p turns ≤ n) (follow : (k : ℕ) → RunFollows (program_of i).image pick code (2 ^ 40) first start k) (before : ℕ) (least : before ≤ 38)
      (suffice : (k : ℕ) → RunSuffices (program_of i).image pick code (2 ^ 40) first start before k) (little : CheckedRunsSpendLittle) (all : AllAreCounted) where
    -- each call and each loop that turns back has a turn of its own
    paid_for : (k : ℕ) → counted_steps code k first + 1 ≤ turns → before + spends code k first + 128 ≤ n
    paid_for k counts = let fewer = all code k first in enough p.program.tokens (counted code k first) turns before (spends code k first) n (little p checked k input replies) (omega (arith, fewer, counts)) least most

    abbrev Ended : Type 0
    Ended = ((r.items ≡ m.items) × EndsAs m.end r.end) ⊎ ((r.end ≡ ends.Stack) × (4096 ≤ m.deepest))

    to_end : (k : ℕ) → (m.end ≡ meanings.Undefined → ⊥) → (m.end ≡ meanings.OutOfTurns → ⊥) → RunsToEnd code first m turns k → Ended
    to_end k defined finite h = by follows_it.end
      where
        o : OverWith m (exec code k first)
        o = over_with m (exec code k first) defined finite (h.ends k (omega arith))

        follows_it : follows.EndsAs r o.why o.world
        follows_it = (follow k).ended n o.why o.world few o.is

        by : ((r.end ≡ steps.end_of o.why) × (r.items ≡ o.world.items)) ⊎ IsCutOff r o.world.deepest → Ended
        by (inl (e, same)) = inl (same ∙ o.items, subst (λ x. EndsAs m.end x) (sym e) (subst (λ x. EndsAs x (steps.end_of o.why)) o.end (end_is_meant o.why)))
        by (inr (inl out)) = absurd ((suffice k).ended n o.why o.world few (paid_for k (h.counts k)) o.is out)
        by (inr (inr (e, d))) = inr (e, subst (λ d. 4096 ≤ d) o.deepest d)

    ended_by : (main : MainOutcome) (k : ℕ) → m.end ≡ end_of main → HasEnd (end_of main) → Shows main m turns k code first → Ended
    ended_by (returned v) k e some h = to_end k (λ q. let no = sym e ∙ q in cc no) (λ q. let no = sym e ∙ q in cc no) h
    ended_by (stopped_by (thrown y)) k e some h = absurd h
    ended_by (stopped_by (cancelled z)) k e some h = to_end k (λ q. let no = sym e ∙ q in cc no) (λ q. let no = sym e ∙ q in cc no) h
    ended_by (stopped_by (ended (source.exit z))) k e some h = to_end k (λ q. let no = sym e ∙ q in cc no) (λ q. let no = sym e ∙ q in cc no) h
    ended_by (stopped_by (ended source.aborted)) k e some h = to_end k (λ q. let no = sym e ∙ q in cc no) (λ q. let no = sym e ∙ q in cc no) h
    ended_by (stopped_by undefined) k e some h = absurd some
    ended_by (stopped_by out_of_turns) k e some h = absurd some
    ended_by (stopped_by deep) k e some h = absurd some

    -- a run of linear code that comes to what is not defined does so behind what pays for all turns of the other meaning
    ends_late : (k : ℕ) → (far.end ≡ meanings.Undefined → ⊥) → (far.end ≡ meanings.OutOfTurns → ⊥) → RunsToEnd code first far n k → BreaksLate code first n
    ends_late k defined finite h j how v broken no_end =
        let o : OverWith far (exec code k first) = over_with far (exec code k first) defined finite (h.ends k (omega arith)) in
        let same = same_end (program_of i).image pick code j k first how (by_program o.why) v o.world broken o.is in
        absurd (no_end o.why same.0)

    stops_late : (s : ℕ) (last : State) → Leads code s first (goes_to last) → n ≤ paying code s first + 1 → BreaksLate code first n
    stops_late s last leads paid j how v broken no_end = by (within_or_behind s j)
      where
        by : ((a : ℕ) × (j ≡ s + a)) ⊎ ((d : ℕ) × (s ≡ j + suc d)) → n ≤ paying code j first + 1
        by (inl (a, e)) =
            let both = Paces.tally_both code (pays_at code) s a first last leads in
            let same : paying code j first ≡ paying code (s + a) first = ap (λ k. paying code k first) e in
            omega (arith, both, same, paid)
        by (inr (d, e)) =
            let never : over how v ≡ budget last.world =
            sym (Lengthening.end_stays code j (suc d) first how v broken) ∙ ap (λ k. exec code k first) (sym e) ∙ still_runs code s first last leads in
            absurd (cc never)

    late_by : (main : MainOutcome) (k : ℕ) → 1 ≤ n → far.end ≡ end_of main → (main ≡ stopped_by undefined → ⊥) → (main ≡ stopped_by deep → ⊥) → Shows main far n k code first → BreaksLate code first n
    late_by (returned v) k some e defined shallow h = ends_late k (λ q. let no = sym e ∙ q in cc no) (λ q. let no = sym e ∙ q in cc no) h
    late_by (stopped_by (thrown y)) k some e defined shallow h = absurd h
    late_by (stopped_by (cancelled z)) k some e defined shallow h = ends_late k (λ q. let no = sym e ∙ q in cc no) (λ q. let no = sym e ∙ q in cc no) h
    late_by (stopped_by (ended (source.exit z))) k some e defined shallow h = ends_late k (λ q. let no = sym e ∙ q in cc no) (λ q. let no = sym e ∙ q in cc no) h
    late_by (stopped_by (ended source.aborted)) k some e defined shallow h = ends_late k (λ q. let no = sym e ∙ q in cc no) (λ q. let no = sym e ∙ q in cc no) h
    late_by (stopped_by undefined) k some e defined shallow h = absurd (defined refl)
    late_by (stopped_by out_of_turns) k some e defined shallow h = let s = h.short some in stops_late s.steps s.last s.leads s.paid
    late_by (stopped_by deep) k some e defined shallow h = absurd (shallow refl)

    abbrev Gone : Type 0
    Gone = BeginsWith m.items r.items ⊎ (r.end ≡ ends.Stack)

    to_stop : BreaksLate code first n → StopsShort code first m turns ((turns + 1) * program_cost (regions_of p (layout_of p))) → Gone
    to_stop late s = by ((suffice s.steps).going n s.last few (paid_for s.steps s.counts) s.leads late)
      where
        by : BeginsWith s.last.world.items r.items ⊎ (r.end ≡ ends.Stack) → Gone
        by (inl front) = inl (subst (λ xs. BeginsWith xs r.items) s.items front)
        by (inr e) = inr e

    gone_by : (main : MainOutcome) → m.end ≡ end_of main → end_of main ≡ meanings.OutOfTurns → 1 ≤ turns → BreaksLate code first n
        → Shows main m turns ((turns + 1) * program_cost (regions_of p (layout_of p))) code first → Gone
    gone_by (returned v) e out some late h = absurd (cc out)
    gone_by (stopped_by (thrown y)) e out some late h = absurd h
    gone_by (stopped_by (cancelled z)) e out some late h = absurd (cc out)
    gone_by (stopped_by (ended (source.exit z))) e out some late h = absurd (cc out)
    gone_by (stopped_by (ended source.aborted)) e out some late h = absurd (cc out)
    gone_by (stopped_by undefined) e out some late h = absurd (cc out)
    gone_by (stopped_by out_of_turns) e out some late h = to_stop late (h.short some)
    gone_by (stopped_by deep) e out some late h = absurd (cc out)

-- without a turn main is not called
nothing_meant : (p : Checked) (input : List ℕ) (replies : List (List Reply)) → (program_meaning p input replies 0 1).items ≡ []
nothing_meant p input replies = refl

main_end : (p : Checked) (input : List ℕ) (replies : List (List Reply)) (turns : ℕ) → let m = program_meaning p input replies turns (turns + 1) in m.end ≡ end_of m.main
main_end p input replies turns = end_is (call_with p (turns + 1) (suc turns) (function p.main) nowhere [] no_context (first_world p input replies turns))

some_enough : (tokens k n : ℕ) → (k + 1) * (128 * tokens + 4096) ≤ n → 1 ≤ n
some_enough tokens zero n h = omega (arith, h)
some_enough tokens (suc k) n h = some_enough tokens k n (grind (arith, h))

module _ (as_meant : CheckedProgramsRunAsMeant) (shallow : ShallowMeanings) (little : CheckedRunsSpendLittle) (all : AllAreCounted) (p : Checked) (checked : IsChecked p) (i : CleanImage) (follow : RunsFollow p i)
    (suffice : RunsSufficeFor p i) (compiled : Compiled p i) (input : List ℕ) (replies : List (List Reply)) (n : ℕ) (given : IsGiven input replies) (few : n ≤ 2 ^ 40) where
  abbrev ran_by : (ℕ → ℕ) → Ran
  ran_by pick = run (program_of i).image pick n (abi.begins (program_of i).hart input replies)

  abbrev meaning : ℕ → Meaning
  meaning turns = program_meaning p input replies turns (turns + 1)

  abbrev cost : ℕ
  cost = program_cost (regions_of p (layout_of p))

  to_its_end : (turns : ℕ) (pick : ℕ → ℕ) → enough_for p turns ≤ n → HasEnd (meaning turns).end
      → (((ran_by pick).items ≡ (meaning turns).items) × EndsAs (meaning turns).end (ran_by pick).end) ⊎ (((ran_by pick).end ≡ ends.Stack) × (4096 ≤ (meaning turns).deepest))
  to_its_end turns pick most some =
      let end = main_end p input replies turns in
      let not_undefined : (meaning turns).main ≡ stopped_by undefined → ⊥ = λ e. subst HasEnd (end ∙ ap end_of e) some in
      let s = suffice pick input replies given in
      ended_by p checked i input replies turns n pick few most (follow pick input replies given) s.0 s.1 s.2 little all (meaning turns).main ((turns + 1) * cost) end (subst HasEnd end some)
      (as_meant p checked input replies turns (turns + 1) not_undefined)

  module _ (defined : (meaning n).end ≡ meanings.Undefined → ⊥) where
    far_defined : (meaning n).main ≡ stopped_by undefined → ⊥
    far_defined e = defined (main_end p input replies n ∙ ap end_of e)

    on_and_on : (turns : ℕ) (pick : ℕ → ℕ) → enough_for p turns ≤ n → (meaning turns).end ≡ meanings.OutOfTurns → BeginsWith (meaning turns).items (ran_by pick).items ⊎ ((ran_by pick).end ≡ ends.Stack)
    on_and_on zero pick most out = inl (subst (λ xs. BeginsWith xs (ran_by pick).items) (sym (nothing_meant p input replies)) ((ran_by pick).items, refl))
    on_and_on (suc t) pick most out =
        let end = main_end p input replies (suc t) in
        let not_undefined : (meaning (suc t)).main ≡ stopped_by undefined → ⊥ = λ e. let no : meanings.OutOfTurns ≡ meanings.Undefined = sym out ∙ end ∙ ap end_of e in cc no in
        let s = suffice pick input replies given in
        let late = late_by p checked i input replies (suc t) n pick few most (follow pick input replies given) s.0 s.1 s.2 little all (meaning n).main ((n + 1) * cost) (some_enough p.program.tokens (suc t) n most)
        (main_end p input replies n) far_defined (shallow p input replies n (n + 1) (omega arith)) (as_meant p checked input replies n (n + 1) far_defined) in
        gone_by p checked i input replies (suc t) n pick few most (follow pick input replies given) s.0 s.1 s.2 little all (meaning (suc t)).main end (sym end ∙ out) (omega arith) late
        (as_meant p checked input replies (suc t) (suc t + 1) not_undefined)

    deep_there : (r : Ran) → Runs (program_of i).image n (abi.begins (program_of i).hart input replies) r → r.end ≡ ends.Stack → 4096 ≤ (meaning n).deepest
    deep_there r ran = (compiled.means input replies n r given few ran defined).deep

pub sufficient_images_have_enough : CheckedProgramsRunAsMeant → ShallowMeanings → CheckedRunsSpendLittle → AllAreCounted → SufficientImagesHaveEnough
sufficient_images_have_enough as_meant shallow little all p checked i follow suffice compiled = record {
  ends = λ input replies turns n r given few most ran some.
      let m : Meaning = program_meaning p input replies turns (turns + 1) in
      subst (λ (x : Ran). ((x.items ≡ m.items) × EndsAs m.end x.end) ⊎ ((x.end ≡ ends.Stack) × (4096 ≤ m.deepest))) ran.1
      (to_its_end as_meant shallow little all p checked i follow suffice compiled input replies n given few turns ran.0 most some);
  goes = λ input replies turns n r given few most ran out defined.
      by (program_meaning p input replies turns (turns + 1)) (program_meaning p input replies n (n + 1)) r (deep_there as_meant shallow little all p checked i follow suffice compiled input replies n given few defined r ran)
      (subst (λ (x : Ran). BeginsWith (program_meaning p input replies turns (turns + 1)).items x.items ⊎ (x.end ≡ ends.Stack)) ran.1
      (on_and_on as_meant shallow little all p checked i follow suffice compiled input replies n given few defined turns ran.0 most out));
}
  where
    by : (m later : Meaning) (r : Ran) → (r.end ≡ ends.Stack → 4096 ≤ later.deepest) → BeginsWith m.items r.items ⊎ (r.end ≡ ends.Stack) → BeginsWith m.items r.items ⊎ ((r.end ≡ ends.Stack) × (4096 ≤ later.deepest))
    by m later r there (inl front) = inl front
    by m later r there (inr e) = inr (e, there e)
