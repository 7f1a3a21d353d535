-- Runs of the ABI machine whose turns are enough for the steps of linear code come to where these come.
use Rattle.std.proofs.Common.{◌≡◌, ℕ, zero, suc, ◌+◌, ◌-◌, ◌≤◌, ◌<◌, ◌⊎◌, inl, inr, Option, Some, None, List, [], ◌++◌, refl, sym, ap, ◌∙◌, subst, append_assoc, arith}
use Rattle.run_items.specs.declared.item.Item.{Item}
use Rattle.cxa_runtime.specs.declared.effect.End.TheVariants as ends
use Rattle.cxa_runtime.specs.Raising.{Image}
use Rattle.cxa_runtime.specs.Run.{Ran, run}
use Rattle.cxa_runtime.specs.World as abi
use Rattle.meaning_forms.specs.Outcome as source
use Rattle.region_forms.specs.World.{World}
use Rattle.linear_forms.specs.Activation.{Code, State, Final, by_program, goes_to}
use Rattle.linear_forms.specs.Machine.{over, budget, exec}
use Rattle.linear_forms.specs.Pace.{pays_at, paying, Leads}
use Rattle.linear_forms.proofs.Paces
use Rattle.linear_simulation.specs.ProgramRuns.{items_of, BeginsWith}
use Rattle.linear_simulation.proofs.Lengthening
use Rattle.machine_pieces.specs.Turning.{with_items}
use Rattle.cost_words.specs.Spends.{spends}
use Rattle.whole_runs.specs.Steps.{end_of, GoesOn, Ends, Overflows, Follows, FollowsFor, FollowsOn}
use Rattle.whole_runs.specs.Runs.{Starts}
use Rattle.whole_runs.specs.Enough.{BreaksLate, RunsSuffice}
use Rattle.whole_runs.proofs.Arriving.{within_or_behind, still_runs, leads_rest}
use Rattle.whole_runs.proofs.Spending.{spends_both, first_among}
use Rattle.whole_runs.proofs.Staying.{led_on}

-- The steps come to an end of the program; or, where none is said, to a state in this world.
abbrev Comes : Code → ℕ → State → World → Option source.End → Type 0
Comes code n st v (Some why) = exec code n st ≡ over (by_program why) v
Comes code n st v None = (last : State) × Leads code n st (goes_to last) × (last.world ≡ v)

-- So a run from a state that has shown items already is not cut off for want of turns; or, where no end is said, it shows all that the world has, unless the stack is used up.
abbrev Suffices : List Item → Option source.End → World → Ran → Type 0
Suffices before (Some why) v r = r.end ≡ ends.Budget → ⊥
Suffices before None v r = BeginsWith v.items (before ++ r.items) ⊎ (r.end ≡ ends.Stack)

no_budget : (why : source.End) → end_of why ≡ ends.Budget → ⊥
no_budget (source.exit n) e = cc e
no_budget source.aborted e = cc e

-- what the items of a state begin with, so do those of a run that has more
more_items : (before items more : List Item) (next : World) (v : World) → next.items ≡ before ++ items → BeginsWith v.items next.items → BeginsWith v.items (before ++ (items ++ more))
more_items before items more next v shows front =
    let all : next.items ++ more ≡ before ++ (items ++ more) = ap (λ xs. xs ++ more) shows ∙ append_assoc before items more in
    subst (λ xs. BeginsWith v.items xs) all (Lengthening.longer_on v.items next.items (next.items ++ more) front (more, refl))

module _ (image : Image) (pick : ℕ → ℕ) (code : Code) where
  -- in no step a state stays what it is
  nothing_yet : (st : State) (v : World) (r : Ran) → Comes code 0 st v None → BeginsWith v.items (st.world.items ++ r.items)
  nothing_yet st v r (last, leads, is) =
      let same : last ≡ st = cc leads in
      let own : v ≡ st.world = sym is ∙ ap (λ (s : State). s.world) same in
      subst (λ (u : World). BeginsWith u.items (st.world.items ++ r.items)) (sym own) (r.items, refl)

  -- an end comes behind a step
  some_step : (n : ℕ) (st : State) (why : source.End) (v : World) → exec code n st ≡ over (by_program why) v → 0 < n
  some_step zero st why v e = absurd (cc e)
  some_step (suc n) st why v e = omega arith

  -- within steps that lead on the code comes to no end
  no_end_within : (n m : ℕ) (st next : State) (why : source.End) (v : World) → n ≤ m → Leads code m st (goes_to next) → exec code n st ≡ over (by_program why) v → ⊥
  no_end_within n m st next why v le leads e =
      let count : n + (m - n) ≡ m = omega (arith, le) in
      let never : over (by_program why) v ≡ budget next.world =
      sym (Lengthening.end_stays code n (m - n) st (by_program why) v e) ∙ ap (λ i. exec code i st) count ∙ still_runs code m st next leads in
      cc never

  -- two ends are one
  pub same_end : (n m : ℕ) (st : State) (e f : Final) (v u : World) → exec code n st ≡ over e v → exec code m st ≡ over f u → (e ≡ f) × (v ≡ u)
  same_end n m st e f v u first second =
      let count : n + m ≡ m + n = omega arith in
      let same : over e v ≡ over f u = sym (Lengthening.end_stays code n m st e v first) ∙ ap (λ i. exec code i st) count ∙ Lengthening.end_stays code m n st f u second in
      (cc same, cc same)

  -- what steps on the way to an end have shown
  front_of_end : (n m : ℕ) (st last : State) (e : Final) (v : World) → Leads code n st (goes_to last) → exec code m st ≡ over e v → BeginsWith last.world.items v.items
  front_of_end n m st last e v leads ends =
      let count : m + n ≡ n + m = omega arith in
      let all = ap items_of (ap (λ i. exec code i st) (sym count) ∙ Lengthening.end_stays code m n st e v ends) in
      subst (λ xs. BeginsWith xs v.items) (ap items_of (still_runs code n st last leads)) (subst (λ xs. BeginsWith (items_of (exec code n st)) xs) all (Lengthening.longer_run code n m st))

  -- what is left of them behind the first
  late_behind : (a turns k left : ℕ) (st next : State) → Leads code a st (goes_to next) → paying code a st ≤ turns → k ≡ turns + left → BreaksLate code st k → BreaksLate code next left
  late_behind a turns k left st next leads paid total late m how v ends no_end =
      let whole : exec code (a + m) st ≡ over how v = Paces.leads_run code a m st (goes_to next) leads ∙ ends in
      let many = late (a + m) how v whole no_end in
      let both = Paces.tally_both code (pays_at code) a m st next leads in
      omega (arith, many, both, paid, total)

  -- where the code comes behind some steps
  comes_behind : (a j n : ℕ) (st next : State) (v : World) (o : Option source.End) → n ≡ a + j → Leads code a st (goes_to next) → Comes code n st v o → Comes code j next v o
  comes_behind a j n st next v (Some why) e leads c = sym (Paces.leads_run code a j st (goes_to next) leads) ∙ ap (λ i. exec code i st) (sym e) ∙ c
  comes_behind a j n st next v None e leads (last, on, is) = (last, leads_rest code a j st next (goes_to last) leads (subst (λ i. Leads code i st (goes_to last)) e on), is)

  module _ (most : ℕ) where
    -- what is shown of a round is asked of those behind it
    abbrev Later : ℕ → World → Option source.End → Type 0
    Later rounds v o =
        (n k before : ℕ) (st : State) (w : abi.World) → n < rounds → before + k ≤ most → FollowsFor image pick code most rounds before st w → Comes code n st v o → spends code n st + 128 ≤ k
        → BreaksLate code st k → Suffices st.world.items o v (run image pick k w)

    suffices : (rounds n k before : ℕ) (st : State) (w : abi.World) (v : World) (o : Option source.End) → n < rounds → before + k ≤ most → FollowsFor image pick code most rounds before st w
        → Comes code n st v o → spends code n st + 128 ≤ k → BreaksLate code st k → Suffices st.world.items o v (run image pick k w)
    suffices zero n k before st w v o lt few follow c enough late = absurd (omega (arith, lt))
    suffices (suc rounds) n k before st w v o lt few follow c enough late =
        by (follow (omega (arith, few, enough))) (λ m j t x u lt2 few2 go on many later. suffices rounds m j t x u v o lt2 few2 go on many later)
      where
        r : Ran
        r = run image pick k w

        -- behind a round
        behind : (g : GoesOn image pick code (FollowsFor image pick code most rounds) before st w) → Later rounds v o → (j : ℕ) → n ≡ g.steps + j → Suffices st.world.items o v r
        behind g later j e =
            let both = spends_both code g.steps j st g.next g.leads in
            let same : spends code n st ≡ spends code (g.steps + j) st = ap (λ i. spends code i st) e in
            let left : ℕ = k - g.turns in
            let total : k ≡ g.turns + left = omega (arith, both, same, enough, g.few) in
            let is : r ≡ with_items g.items (run image pick left g.after) = ap (λ i. run image pick i w) total ∙ g.made.run left in
            on o left is (later j left (before + g.turns) g.next g.after (omega (arith, lt, e, g.some)) (omega (arith, few, total)) g.stands (comes_behind g.steps j n st g.next v o e g.leads c)
            (omega (arith, both, same, enough, g.few, total)) (late_behind g.steps g.turns k left st g.next g.leads g.paid total late))
          where
            on : (o : Option source.End) (left : ℕ) → r ≡ with_items g.items (run image pick left g.after) → Suffices g.next.world.items o v (run image pick left g.after) → Suffices st.world.items o v r
            on (Some why) left is h = λ out. h (sym (ap (λ (x : Ran). x.end) is) ∙ out)
            on None left is (inl front) = inl (
                let all : g.next.world.items ++ (run image pick left g.after).items ≡ st.world.items ++ r.items =
                ap (λ xs. xs ++ (run image pick left g.after).items) g.shows ∙ append_assoc st.world.items g.items (run image pick left g.after).items ∙ ap (λ (x : Ran). st.world.items ++ x.items) (sym is) in
                subst (λ xs. BeginsWith v.items xs) all front
                )
            on None left is (inr e) = inr (ap (λ (x : Ran). x.end) is ∙ e)

        -- within a round, behind its first step
        within : (g : GoesOn image pick code (FollowsFor image pick code most rounds) before st w) → (o : Option source.End) → Comes code n st v o → (d : ℕ) → g.steps ≡ n + suc d → Suffices st.world.items o v r
        within g (Some why) c d e = absurd (no_end_within n g.steps st g.next why v (omega (arith, e)) g.leads c)
        within g None (last, leads, is) d e = go n refl
          where
            go : (m : ℕ) → n ≡ m → Suffices st.world.items None v r
            go zero none = inl (nothing_yet st v r (subst (λ i. Comes code i st v None) none (last, leads, is)))
            go (suc m) some =
                let first = first_among code n st (omega (arith, some)) in
                let left : ℕ = k - g.turns in
                let total : k ≡ g.turns + left = omega (arith, first, enough, g.soon) in
                let ran : r ≡ with_items g.items (run image pick left g.after) = ap (λ i. run image pick i w) total ∙ g.made.run left in
                let on : Leads code (suc d) last (goes_to g.next) = leads_rest code n (suc d) st last (goes_to g.next) leads (subst (λ i. Leads code i st (goes_to g.next)) e g.leads) in
                let front : BeginsWith v.items g.next.world.items = subst (λ (u : World). BeginsWith u.items g.next.world.items) is (led_on code (suc d) last g.next on) in
                inl (subst (λ (x : Ran). BeginsWith v.items (st.world.items ++ x.items)) (sym ran) (more_items st.world.items g.items (run image pick left g.after).items g.next.world v g.shows front))

        turned : (g : GoesOn image pick code (FollowsFor image pick code most rounds) before st w) → Later rounds v o → ((j : ℕ) × (n ≡ g.steps + j)) ⊎ ((d : ℕ) × (g.steps ≡ n + suc d)) → Suffices st.world.items o v r
        turned g later (inl (j, e)) = behind g later j e
        turned g later (inr (d, e)) = within g o c d e

        over_with : (e : Ends image pick code st w) → (o : Option source.End) → Comes code n st v o → Suffices st.world.items o v r
        over_with e (Some why) c = λ out.
            let first = first_among code n st (some_step n st why v c) in
            let whole : r.end ≡ end_of e.why = e.ends.ends k (omega (arith, first, enough, e.few)) in
            no_budget e.why (sym whole ∙ out)
        over_with e None (last, leads, is) = go n refl
          where
            go : (m : ℕ) → n ≡ m → Suffices st.world.items None v r
            go zero none = inl (nothing_yet st v r (subst (λ i. Comes code i st v None) none (last, leads, is)))
            go (suc m) some =
                let first = first_among code n st (omega (arith, some)) in
                let whole : r.items ≡ e.items = e.ends.shows k (omega (arith, first, enough, e.few)) in
                let front : BeginsWith last.world.items e.world.items = front_of_end n e.steps st last (by_program e.why) e.world leads e.over in
                let all : e.world.items ≡ st.world.items ++ r.items = e.shows ∙ ap (λ xs. st.world.items ++ xs) (sym whole) in
                inl (subst (λ (u : World). BeginsWith u.items (st.world.items ++ r.items)) is (subst (λ xs. BeginsWith last.world.items xs) all front))

        used_up : (f : Overflows image pick code st w) → (o : Option source.End) → Comes code n st v o → Suffices st.world.items o v r
        used_up f (Some why) c = λ out.
            let first = first_among code n st (some_step n st why v c) in
            let whole : r.end ≡ ends.Stack = f.ends.ends k (omega (arith, first, enough, f.few)) in
            let no : ends.Stack ≡ ends.Budget = sym whole ∙ out in
            cc no
        used_up f None c = go n refl
          where
            go : (m : ℕ) → n ≡ m → Suffices st.world.items None v r
            go zero none = inl (nothing_yet st v r (subst (λ i. Comes code i st v None) none c))
            go (suc m) some = let first = first_among code n st (omega (arith, some)) in inr (f.ends.ends k (omega (arith, first, enough, f.few)))

        by : Follows image pick code (FollowsFor image pick code most rounds) before st w → Later rounds v o → Suffices st.world.items o v r
        by (inl g) later = turned g later (within_or_behind g.steps n)
        by (inr (inl e)) later = over_with e o c
        by (inr (inr (inl f))) later = used_up f o c
        by (inr (inr (inr b))) later = let many = late b.steps b.how b.world b.over b.no_end in absurd (omega (arith, many, enough, b.few))

    module _ (first : State) (w : abi.World) (s : Starts image pick (FollowsOn image pick code most) first w) (steps n : ℕ) (v : World) (o : Option source.End) (few : n ≤ most)
        (enough : s.turns + spends code steps first + 128 ≤ n) (late : BreaksLate code first n) (c : Comes code steps first v o) where
      abbrev left : ℕ
      left = n - s.turns

      total : n ≡ s.turns + left
      total = omega (arith, enough)

      ran : run image pick n w ≡ with_items [] (run image pick left s.after)
      ran = ap (λ i. run image pick i w) total ∙ s.made.run left

      late_left : BreaksLate code first left
      late_left m how u ends no_end = let many = late m how u ends no_end in omega (arith, many, total)

      -- what is behind the first turns is a run of its own
      from_start : Suffices first.world.items o v (run image pick left s.after)
      from_start = suffices (suc steps) steps left s.turns first s.after v o (omega arith) (omega (arith, few, total)) (s.stands (suc steps)) c (omega (arith, enough, total)) late_left

pub runs_suffice : RunsSuffice
runs_suffice image pick code most first w s steps = record {
  ended = λ n why v few enough ends out.
      let late : BreaksLate code first n = λ m how u other no_end. let same = same_end image pick code m steps first how (by_program why) u v other ends in absurd (no_end why same.0) in
      let is = ran image pick code most first w s steps n v (Some why) few enough late ends in
      from_start image pick code most first w s steps n v (Some why) few enough late ends (sym (ap (λ (x : Ran). x.end) is) ∙ out);
  going = λ n last few enough leads late.
      let is = ran image pick code most first w s steps n last.world None few enough late (last, leads, refl) in
      by n last (n - s.turns) is (from_start image pick code most first w s steps n last.world None few enough late (last, leads, refl));
}
  where
    by : (n : ℕ) (last : State) (k : ℕ) → run image pick n w ≡ with_items [] (run image pick k s.after)
        → BeginsWith last.world.items (first.world.items ++ (run image pick k s.after).items) ⊎ ((run image pick k s.after).end ≡ ends.Stack)
        → BeginsWith last.world.items (run image pick n w).items ⊎ ((run image pick n w).end ≡ ends.Stack)
    by n last k is (inl front) =
        let fresh : first.world.items ++ (run image pick k s.after).items ≡ (run image pick n w).items =
        ap (λ xs. xs ++ (run image pick k s.after).items) s.fresh ∙ ap (λ (x : Ran). x.items) (sym is) in
        inl (subst (λ xs. BeginsWith last.world.items xs) fresh front)
    by n last k is (inr e) = inr (ap (λ (x : Ran). x.end) is ∙ e)
