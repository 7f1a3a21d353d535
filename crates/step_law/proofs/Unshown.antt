-- Where the first turns show nothing, steps behind which as many are paid at most stay behind them, and turns that show something are more.
use Rattle.std.proofs.Common.{◌≡◌, ◌∙◌, refl, sym, ap, subst, arith, ℕ, suc, ◌+◌, ◌-◌, ◌≤◌, ◌<◌, ◌⊎◌, inl, inr, List, [], ◌∷◌, ◌++◌, append-nil}
use Rattle.run_items.specs.declared.item.Item.{Item}
use Rattle.cxa_runtime.specs.declared.effect.End.TheVariants as ends
use Rattle.cxa_runtime.specs.Raising.{Image}
use Rattle.cxa_runtime.specs.Run.{Ran, run}
use Rattle.cxa_runtime.specs.World as abi
use Rattle.linear_forms.specs.Activation.{Code, State}
use Rattle.linear_forms.specs.Pace.{pays_at, one_if, after, tally, paying}
use Rattle.linear_forms.specs.Machine.{step}
use Rattle.linear_forms.proofs.Paces
use Rattle.linear_simulation.specs.ProgramRuns.{BeginsWith}
use Rattle.whole_runs.specs.Turns.{Made}
use Rattle.whole_runs.specs.Steps.{StaysBehind}
use Rattle.whole_runs.proofs.Arriving.{within_or_behind}
use Rattle.whole_runs.proofs.Staying.{led_on}
use Rattle.whole_runs.proofs.Turning.{before_world}

nothing_before : (xs : List Item) → BeginsWith xs [] → xs ≡ []
nothing_before [] h = refl
nothing_before (y ∷ xs) h = let no : [] ≡ y ∷ (xs ++ h.0) = h.1 in absurd (cc no)

module _ (image : Image) (pick : ℕ → ℕ) (many : ℕ) (w v : abi.World) (nothing : Made image pick many w v []) where
  -- a run of no more turns shows nothing either
  shows_nothing : (k : ℕ) → k ≤ many → ((run image pick k w).items ≡ []) × ((run image pick k w).end ≡ ends.Budget)
  shows_nothing k less =
      let total : many ≡ k + (many - k) = omega (arith, less) in
      let cut = before_world image pick k (many - k) many w v [] total nothing in (nothing_before (run image pick k w).items cut.front, cut.end)

  pub unshown_stays : (code : Code) (steps : ℕ) (st : State) → paying code steps st ≤ many + 1 → StaysBehind image pick code steps st w
  unshown_stays code steps st few n k last early leads pays paid = by (within_or_behind steps n)
    where
      by : ((j : ℕ) × (n ≡ steps + j)) ⊎ ((d : ℕ) × (steps ≡ n + suc d)) → BeginsWith (st.world.items ++ (run image pick k w).items) last.world.items × ((run image pick k w).end ≡ ends.Budget)
      by (inl (j, e)) = absurd (omega (arith, e, early))
      by (inr (d, e)) =
          let one : one_if (pays_at code last) ≡ 1 = ap one_if pays in
          let both = Paces.tally_both code (pays_at code) n (suc d) st last leads in
          let here : paying code (suc d) last ≡ one_if (pays_at code last) + after (tally (pays_at code) code d) (step code last) = refl in
          let all : paying code (n + suc d) st ≤ many + 1 = subst (λ i. paying code i st ≤ many + 1) e few in
          let least : k ≤ many = omega (arith, one, both, here, all, paid) in
          let none = shows_nothing k least in
          let same : st.world.items ++ (run image pick k w).items ≡ st.world.items = ap (λ xs. st.world.items ++ xs) none.0 ∙ append-nil st.world.items in
          (subst (λ xs. BeginsWith xs last.world.items) (sym same) (led_on code n st last leads), none.1)

  -- turns that show something are more
  pub shown_later : (turns : ℕ) (u : abi.World) (i : Item) (items : List Item) → Made image pick turns w u (i ∷ items) → many < turns
  shown_later turns u i items made = by (within_or_behind turns many)
    where
      by : ((j : ℕ) × (many ≡ turns + j)) ⊎ ((d : ℕ) × (turns ≡ many + suc d)) → many < turns
      by (inr (d, e)) = omega (arith, e)
      by (inl (j, e)) =
          let none = shows_nothing turns (omega (arith, e)) in
          let count : turns + 0 ≡ turns = omega arith in
          let there : (run image pick turns w).items ≡ i ∷ (items ++ (run image pick 0 u).items) = ap (λ k. (run image pick k w).items) (sym count) ∙ ap (λ (r : Ran). r.items) (made.run 0) in
          let no : [] ≡ i ∷ (items ++ (run image pick 0 u).items) = sym none.0 ∙ there in absurd (cc no)
