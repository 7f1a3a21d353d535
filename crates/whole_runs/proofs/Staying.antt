-- Steps within which a run with few turns does not come past what pays: of which at most one pays, and put together.
use Rattle.std.proofs.Common.{◌≡◌, ℕ, suc, ◌+◌, ◌≤◌, ◌⊎◌, inl, inr, List, ◌++◌, sym, ap, ◌∙◌, subst, append_assoc, arith}
use Rattle.run_items.specs.declared.item.Item.{Item}
use Rattle.cxa_runtime.specs.declared.effect.End.TheVariants as ends
use Rattle.cxa_runtime.specs.Raising.{Image}
use Rattle.cxa_runtime.specs.Run.{Ran, run}
use Rattle.cxa_runtime.specs.World as abi
use Rattle.linear_forms.specs.Activation.{Code, State, goes_to}
use Rattle.linear_forms.specs.Machine.{exec}
use Rattle.linear_forms.specs.Pace.{pays_at, paying, Leads}
use Rattle.linear_forms.proofs.Paces
use Rattle.linear_simulation.specs.ProgramRuns.{items_of, BeginsWith}
use Rattle.linear_simulation.proofs.Lengthening
use Rattle.machine_pieces.specs.Turning.{with_items}
use Rattle.whole_runs.specs.Turns.{Made}
use Rattle.whole_runs.specs.Deepest.{DeepestGrows}
use Rattle.whole_runs.specs.Steps.{StaysBehind}
use Rattle.whole_runs.proofs.Deepening.{deepest_of, run_deep}
use Rattle.whole_runs.proofs.Turning.{before_world, nothing_run, nothing_shown}
use Rattle.whole_runs.proofs.Arriving.{within_or_behind, still_runs, leads_rest, unpaid}

-- steps that lead on have the items of their beginning, and perhaps more
pub led_on : (code : Code) (n : ℕ) (st last : State) → Leads code n st (goes_to last) → BeginsWith st.world.items last.world.items
led_on code n st last h =
    let on = Lengthening.longer_run code 0 n st in
    let count : 0 + n ≡ n = omega arith in
    subst (λ xs. BeginsWith st.world.items xs) (ap (λ j. items_of (exec code j st)) count ∙ ap items_of (still_runs code n st last h)) on

-- and as many calls were open
pub led_deep : (code : Code) (n d : ℕ) (st last : State) → Leads code n st (goes_to last) → d ≤ st.world.deepest → d ≤ last.world.deepest
led_deep code n d st last h low = let deep = run_deep code d n st low in let same = ap deepest_of (still_runs code n st last h) in omega (arith, deep, same)

pub deepest_grows : DeepestGrows
deepest_grows code n st last h = led_deep code n st.world.deepest st last h (omega arith)

module _ (image : Image) (pick : ℕ → ℕ) (code : Code) where
  -- at most one of the steps may pay
  pub once_stays : (steps : ℕ) (st : State) (w : abi.World) → paying code steps st ≤ 1 → StaysBehind image pick code steps st w
  once_stays steps st w once n k last early leads pays few = go (within_or_behind steps n)
    where
      go : ((j : ℕ) × (n ≡ steps + j)) ⊎ ((d : ℕ) × (steps ≡ n + suc d))
          → BeginsWith (st.world.items ++ (run image pick k w).items) last.world.items × ((run image pick k w).end ≡ ends.Budget)
      go (inl (j, e)) = absurd (omega (arith, e, early))
      go (inr (d, e)) =
          let unspent = unpaid code n d st last leads pays (subst (λ i. paying code i st ≤ 1) e once) in
          let none : k ≡ 0 = omega (arith, few, unspent) in
          let shown : st.world.items ++ (run image pick k w).items ≡ st.world.items = ap (λ i. st.world.items ++ (run image pick i w).items) none ∙ nothing_shown image pick w st.world.items in
          (subst (λ xs. BeginsWith xs last.world.items) (sym shown) (led_on code n st last leads), ap (λ i. (run image pick i w).end) none ∙ nothing_run image pick w)

  -- one step alone
  pub one_stays : (st : State) (w : abi.World) → StaysBehind image pick code 1 st w
  one_stays st w = let one = Paces.tally_once code (pays_at code) st in let few = Paces.one_at_most (pays_at code st) in once_stays 1 st w (omega (arith, one, few))

  -- steps, then others behind a world to which turns lead, at least as many as were paid
  pub both_stay : (a b : ℕ) (st mid : State) (w v : abi.World) (items : List Item) (turns : ℕ) → StaysBehind image pick code a st w → Leads code a st (goes_to mid) → mid.world.items ≡ st.world.items ++ items
      → paying code a st ≤ turns → Made image pick turns w v items → StaysBehind image pick code b mid v → StaysBehind image pick code (a + b) st w
  both_stay a b st mid w v items turns first leads shows paid made second n k last early leads_on pays few = go (within_or_behind a n)
    where
      r : Ran
      r = run image pick k w

      behind : (j : ℕ) → n ≡ a + j → ((i : ℕ) × (k ≡ turns + i)) ⊎ ((d : ℕ) × (turns ≡ k + suc d)) → BeginsWith (st.world.items ++ r.items) last.world.items × (r.end ≡ ends.Budget)
      behind j e (inl (i, total)) =
          let both = Paces.tally_both code (pays_at code) a j st mid leads in
          let same : paying code n st ≡ paying code (a + j) st = ap (λ m. paying code m st) e in
          let h = second j i last (omega (arith, early, e)) (leads_rest code a j st mid (goes_to last) leads (subst (λ m. Leads code m st (goes_to last)) e leads_on)) pays
          (omega (arith, both, same, few, paid, total)) in
          let is : r ≡ with_items items (run image pick i v) = ap (λ m. run image pick m w) total ∙ made.run i in
          let shown : mid.world.items ++ (run image pick i v).items ≡ st.world.items ++ r.items =
          ap (λ xs. xs ++ (run image pick i v).items) shows ∙ append_assoc st.world.items items (run image pick i v).items ∙ ap (λ (x : Ran). st.world.items ++ x.items) (sym is) in
          (subst (λ xs. BeginsWith xs last.world.items) shown h.0, ap (λ x. x.end) is ∙ h.1)
      behind j e (inr (d, total)) =
          let short = before_world image pick k (suc d) turns w v items total made in
          let front : BeginsWith (st.world.items ++ r.items) (st.world.items ++ items) = (short.front.0, ap (λ l. st.world.items ++ l) short.front.1 ∙ sym (append_assoc st.world.items r.items short.front.0)) in
          let on = led_on code j mid last (leads_rest code a j st mid (goes_to last) leads (subst (λ m. Leads code m st (goes_to last)) e leads_on)) in
          (Lengthening.longer_on (st.world.items ++ r.items) mid.world.items last.world.items (subst (λ xs. BeginsWith (st.world.items ++ r.items) xs) (sym shows) front) on, short.end)

      go : ((j : ℕ) × (n ≡ a + j)) ⊎ ((d : ℕ) × (a ≡ n + suc d)) → BeginsWith (st.world.items ++ r.items) last.world.items × (r.end ≡ ends.Budget)
      go (inl (j, e)) = behind j e (within_or_behind turns k)
      go (inr (d, e)) = first n k last (omega (arith, e)) leads_on pays few
