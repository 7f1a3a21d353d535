-- A run that follows the run of linear code shows what the program means.
use Rattle.std.proofs.Common.{◌≡◌, ℕ, zero, suc, ◌+◌, ◌*◌, ◌≤◌, ◌^◌, ◌⊎◌, inl, inr, ℤ, [], refl, sym, ap, ◌∙◌, subst, arith}
use Rattle.meaning_forms.specs.declared.ending.MeanEnd.{MeanEnd}
use Rattle.meaning_forms.specs.declared.ending.MeanEnd.TheVariants as meanings
use Rattle.meaning_forms.specs.Outcome as source
use Rattle.meaning_forms.specs.Outcome.{Result, done, stopped, thrown, cancelled, ended, undefined, out_of_turns, deep}
use Rattle.meaning_forms.specs.Meaning.{Meaning, MainOutcome, returned, stopped_by, after_main, end_of, program_meaning, first_world}
use Rattle.meaning_forms.specs.Call.{call_with}
use Rattle.meaning_forms.specs.Context.{no_context}
use Rattle.meaning_forms.specs.Running.{function}
use Rattle.meaning_forms.specs.World.{nowhere}
use Rattle.region_forms.specs.World.{World}
use Rattle.region_forms.specs.Layout.{layout_of}
use Rattle.region_forms.specs.LowerProgram.{regions_of}
use Rattle.linear_forms.specs.Activation.{Code, State, by_program, not_defined, fault}
use Rattle.linear_forms.specs.Machine.{Run, over, budget, exec}
use Rattle.linear_forms.specs.UnitRun.{seen_of, seen_run}
use Rattle.linear_simulation.specs.FunctionsRun.{program_cost}
use Rattle.linear_simulation.specs.ProgramRuns.{BeginsWith, RunsToEnd, StopsShort, Shows}
use Rattle.linear_meaning.specs.Runs.{CheckedProgramsRunAsMeant}
use Rattle.meaning_depths.specs.Laws.{ShallowMeanings}
use Rattle.cxa_runtime.specs.declared.effect.End.TheVariants as ends
use Rattle.cxa_runtime.specs.Raising.{Image}
use Rattle.cxa_runtime.specs.Run.{Ran, run}
use Rattle.cxa_runtime.specs.World as abi
use Rattle.eh_run.specs.Program.{program_of}
use Rattle.whole_runs.specs.Steps as steps
use Rattle.whole_runs.specs.Runs as follows
use Rattle.whole_runs.specs.Runs.{IsCutOff, StopsBefore, RunFollows}
use Rattle.compiled_runs.specs.Compiled.{IsCut, EndsAs, RunMeans, FollowedImagesAreCompiled}

-- the end of an end of the program, as a meaning has it
abbrev pub meant : source.End → MeanEnd
meant (source.exit n) = meanings.Exit n
meant source.aborted = meanings.Aborted

pub end_is_meant : (why : source.End) → EndsAs (meant why) (steps.end_of why)
end_is_meant (source.exit n) = refl
end_is_meant source.aborted = tt

no_stack : (why : source.End) → steps.end_of why ≡ ends.Stack → ⊥
no_stack (source.exit n) e = cc e
no_stack source.aborted e = cc e

-- where linear code ends, seen as a meaning that has an end
pub record OverWith (m : Meaning) (x : Run) : Type 0 where
  pub why : source.End
  pub world : World
  pub is : x ≡ over (by_program why) world
  pub end : meant why ≡ m.end
  pub items : world.items ≡ m.items
  pub deepest : world.deepest ≡ m.deepest

pub over_with : (m : Meaning) (x : Run) → (m.end ≡ meanings.Undefined → ⊥) → (m.end ≡ meanings.OutOfTurns → ⊥) → seen_run x ≡ seen_of m → OverWith m x
over_with m (over (by_program (source.exit n)) w) defined finite e = record { why = source.exit n; world = w; is = refl; end = cc e; items = cc e; deepest = cc e }
over_with m (over (by_program source.aborted) w) defined finite e = record { why = source.aborted; world = w; is = refl; end = cc e; items = cc e; deepest = cc e }
over_with m (over not_defined w) defined finite e = let same : meanings.Undefined ≡ m.end = cc e in absurd (defined (sym same))
over_with m (over fault w) defined finite e = absurd (cc e)
over_with m (budget w) defined finite e = let same : meanings.OutOfTurns ≡ m.end = cc e in absurd (finite (sym same))

cut_off : (r : Ran) (deepest : ℕ) → IsCutOff r deepest → IsCut r.end
cut_off r deepest (inl e) = subst IsCut (sym e) tt
cut_off r deepest (inr (e, d)) = subst IsCut (sym e) tt

deep_off : (r : Ran) (deepest : ℕ) → IsCutOff r deepest → r.end ≡ ends.Stack → 4096 ≤ deepest
deep_off r deepest (inl e) s = let no : ends.Budget ≡ ends.Stack = sym e ∙ s in absurd (cc no)
deep_off r deepest (inr (e, d)) s = d

module _ (m : Meaning) (r : Ran) where
  -- a run that is cut off before the meaning stops
  stops : (v : World) → v.items ≡ m.items → v.deepest ≡ m.deepest → StopsBefore r v → RunMeans m r
  stops v items deepest h = record {
    front = subst (λ xs. BeginsWith r.items xs) items h.front;
    whole = λ uncut. absurd (uncut (cut_off r v.deepest h.end));
    deep = λ s. subst (λ d. 4096 ≤ d) deepest (deep_off r v.deepest h.end s);
  }

  -- a run that ends as the meaning, or is cut off before
  ends_so : (why : source.End) (v : World) → meant why ≡ m.end → v.items ≡ m.items → v.deepest ≡ m.deepest → follows.EndsAs r why v → RunMeans m r
  ends_so why v end items deepest h = record {
    front = subst (λ xs. BeginsWith r.items xs) items h.front;
    whole = whole h.end;
    deep = deeply h.end;
  }
    where
      whole : ((r.end ≡ steps.end_of why) × (r.items ≡ v.items)) ⊎ IsCutOff r v.deepest → (IsCut r.end → ⊥) → (r.items ≡ m.items) × EndsAs m.end r.end
      whole (inl (e, same)) uncut = (same ∙ items, subst (λ x. EndsAs m.end x) (sym e) (subst (λ x. EndsAs x (steps.end_of why)) end (end_is_meant why)))
      whole (inr cut) uncut = absurd (uncut (cut_off r v.deepest cut))

      deeply : ((r.end ≡ steps.end_of why) × (r.items ≡ v.items)) ⊎ IsCutOff r v.deepest → r.end ≡ ends.Stack → 4096 ≤ m.deepest
      deeply (inl (e, same)) s = absurd (no_stack why (sym e ∙ s))
      deeply (inr cut) s = subst (λ d. 4096 ≤ d) deepest (deep_off r v.deepest cut s)

-- a run without a turn
no_turn : (image : Image) (pick : ℕ → ℕ) (m : Meaning) (w : abi.World) → RunMeans m (run image pick 0 w)
unfolding run
no_turn image pick m w = record { front = (m.items, refl); whole = λ uncut. absurd (uncut tt); deep = λ s. absurd (cc s) }

module _ (image : Image) (pick : ℕ → ℕ) (code : Code) (most : ℕ) (first : State) (w : abi.World) (follow : (k : ℕ) → RunFollows image pick code most first w k) (m : Meaning) (n enough : ℕ)
    (few : n ≤ most) where
  abbrev Means : Type 0
  Means = RunMeans m (run image pick n w)

  to_end : (m.end ≡ meanings.Undefined → ⊥) → (m.end ≡ meanings.OutOfTurns → ⊥) → RunsToEnd code first m n enough → Means
  to_end defined finite h =
      let o = over_with m (exec code enough first) defined finite (h.ends enough (omega arith)) in
      ends_so m (run image pick n w) o.why o.world o.end o.items o.deepest ((follow enough).ended n o.why o.world few o.is)

  to_stop : StopsShort code first m n enough → Means
  to_stop s = stops m (run image pick n w) s.last.world s.items s.deepest ((follow s.steps).going n s.last few s.leads s.pays s.paid)

  -- an end that is neither undefined nor one for want of turns
  has_end : (e : MeanEnd) → m.end ≡ e → (e ≡ meanings.Undefined → ⊥) → (e ≡ meanings.OutOfTurns → ⊥) → RunsToEnd code first m n enough → Means
  has_end e is defined finite h = to_end (λ q. defined (sym is ∙ q)) (λ q. finite (sym is ∙ q)) h

  means : (main : MainOutcome) → m.end ≡ end_of main → (main ≡ stopped_by undefined → ⊥) → (main ≡ stopped_by deep → ⊥) → Shows main m n enough code first → Means
  means (returned v) e defined shallow h = has_end (meanings.Exit v) e (λ q. cc q) (λ q. cc q) h
  means (stopped_by (thrown x)) e defined shallow h = absurd h
  means (stopped_by (cancelled k)) e defined shallow h = has_end (meanings.Exit k) e (λ q. cc q) (λ q. cc q) h
  means (stopped_by (ended (source.exit k))) e defined shallow h = has_end (meanings.Exit k) e (λ q. cc q) (λ q. cc q) h
  means (stopped_by (ended source.aborted)) e defined shallow h = has_end meanings.Aborted e (λ q. cc q) (λ q. cc q) h
  means (stopped_by undefined) e defined shallow h = absurd (defined refl)
  means (stopped_by out_of_turns) e defined shallow h = go n refl
    where
      go : (k : ℕ) → n ≡ k → Means
      go zero none = subst (λ k. RunMeans m (run image pick k w)) (sym none) (no_turn image pick m w)
      go (suc k) some = to_stop (h.short (omega (arith, some)))
  means (stopped_by deep) e defined shallow h = absurd (shallow refl)

-- the end of a meaning is that of its main
pub end_is : (r : Result ℤ) → (after_main r).end ≡ end_of (after_main r).main
end_is (done v w) = refl
end_is (stopped s w) = refl

pub followed_images_are_compiled : CheckedProgramsRunAsMeant → ShallowMeanings → FollowedImagesAreCompiled
followed_images_are_compiled as_meant shallow p checked i follow = record {
  means = λ input replies n r given few ran defined.
      let m : Meaning = program_meaning p input replies n (n + 1) in
      let end : m.end ≡ end_of m.main = end_is (call_with p (n + 1) (suc n) (function p.main) nowhere [] no_context (first_world p input replies n)) in
      let not_undefined : m.main ≡ stopped_by undefined → ⊥ = λ e. defined (end ∙ ap end_of e) in
      subst (λ x. RunMeans m x) ran.1
      (means (program_of i).image ran.0 _ (2 ^ 40) _ (abi.begins (program_of i).hart input replies) (follow ran.0 input replies given) m n ((n + 1) * program_cost (regions_of p (layout_of p))) few
      m.main end not_undefined (shallow p input replies n (n + 1) (omega arith)) (as_meant p checked input replies n (n + 1) not_undefined));
}
