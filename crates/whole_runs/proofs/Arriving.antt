-- Where a run of linear code comes in so many steps, and what is left of it behind some of them.
use Rattle.std.proofs.Common.{◌≡◌, ℕ, zero, suc, ◌+◌, ◌-◌, ◌≤◌, ◌<◌, ◌⊎◌, inl, inr, Bool, true, false, Option, Some, None, refl, sym, ap, ◌∙◌, subst, arith}
use Rattle.std.specs.Prelude.{nat_le}
use Rattle.std.proofs.lemmas.Bool.Decides.{nat_tests}
use Rattle.meaning_forms.specs.Outcome as source
use Rattle.region_forms.specs.World.{World}
use Rattle.linear_forms.specs.Activation.{Code, State, Final, Next, goes_to, finishes, by_program}
use Rattle.linear_forms.specs.Machine.{step, over, budget, exec}
use Rattle.linear_forms.specs.Pace.{pays_at, one_if, after, tally, paying, Leads, LeadsOn}
use Rattle.linear_forms.proofs.Paces
use Rattle.linear_simulation.specs.ProgramRuns.{items_of, BeginsWith}
use Rattle.linear_simulation.proofs.Lengthening
use Rattle.whole_runs.proofs.Deepening.{deepest_of, run_deep}

-- The steps come to an end of the program; or, where none is said, to an operation that may pay, and so many turns were paid on the way.
abbrev pub Arrives : Code → (steps budget : ℕ) → State → World → Option source.End → Type 0
Arrives code n k st v (Some why) = exec code n st ≡ over (by_program why) v
Arrives code n k st v None = (last : State) × Leads code n st (goes_to last) × (last.world ≡ v) × (pays_at code last ≡ true) × (k ≤ paying code n st)

pub within_or_behind : (m n : ℕ) → ((j : ℕ) × (n ≡ m + j)) ⊎ ((d : ℕ) × (m ≡ n + suc d))
within_or_behind m n = go (nat_le m n) refl
  where
    low : nat_le m n ≡ true → m ≤ n
    low e = grind (arith, nat_tests, e)

    high : nat_le m n ≡ false → n < m
    high e = grind (arith, nat_tests, e)

    go : (b : Bool) → nat_le m n ≡ b → ((j : ℕ) × (n ≡ m + j)) ⊎ ((d : ℕ) × (m ≡ n + suc d))
    go true e = let le = low e in inl (n - m, omega (arith, le))
    go false e = let lt = high e in inr (m - (n + 1), omega (arith, lt))

same_state : (m n : State) → goes_to m ≡ goes_to n → m ≡ n
same_state m n e = cc e

none_before : (b : ℕ) → 0 + b ≡ b
none_before b = omega arith

none_behind : (b : ℕ) → b + 0 ≡ b
none_behind b = omega arith

one_before : (a b : ℕ) → suc a + b ≡ suc (a + b)
one_before a b = omega arith

module _ (code : Code) where
  -- what is left of steps behind the first of them
  pub leads_rest : (a b : ℕ) (m mid : State) (x : Next) → Leads code a m (goes_to mid) → Leads code (a + b) m x → Leads code b mid x
  leads_rest zero b m mid x h k = subst (λ s. Leads code b s x) (sym (same_state mid m h)) (subst (λ n. Leads code n m x) (none_before b) k)
  leads_rest (suc a) b m mid x h k = go (λ s i j. leads_rest a b s mid x i j) (step code m) h (subst (λ n. Leads code n m x) (one_before a b) k)
    where
      go : ((s : State) → Leads code a s (goes_to mid) → Leads code (a + b) s x → Leads code b mid x) → (y : Next) → LeadsOn a (λ s. Leads code a s (goes_to mid)) (goes_to mid) y
          → LeadsOn (a + b) (λ s. Leads code (a + b) s x) x y → Leads code b mid x
      go rest (goes_to s) h k = rest s h k
      go rest (finishes e w) h k = let never = h.1 in absurd (cc never)

  -- a run is still on where steps lead
  pub still_runs : (n : ℕ) (st last : State) → Leads code n st (goes_to last) → exec code n st ≡ budget last.world
  still_runs n st last h = ap (λ j. exec code j st) (sym (none_behind n)) ∙ Paces.leads_run code n 0 st (goes_to last) h

  -- among steps of which at most one pays none pays before another that does
  pub unpaid : (n d : ℕ) (st last : State) → Leads code n st (goes_to last) → pays_at code last ≡ true → paying code (n + suc d) st ≤ 1 → paying code n st ≡ 0
  unpaid n d st last h pays once =
      let one : one_if (pays_at code last) ≡ 1 = ap one_if pays in
      let both = Paces.tally_both code (pays_at code) n (suc d) st last h in
      let here : paying code (suc d) last ≡ one_if (pays_at code last) + after (tally (pays_at code) code d) (step code last) = refl in
      omega (arith, one, both, here, once)

  module _ (n k : ℕ) (st : State) (v : World) where
    -- the items and the deepest call where a run arrives
    comes_with : (o : Option source.End) → Arrives code n k st v o → (items_of (exec code n st) ≡ v.items) × (deepest_of (exec code n st) ≡ v.deepest)
    comes_with (Some why) a = (ap items_of a, ap deepest_of a)
    comes_with None (last, leads, is, pays, few) =
        let on = still_runs n st last leads in (ap items_of on ∙ ap (λ w. w.items) is, ap deepest_of on ∙ ap (λ w. w.deepest) is)

    -- no item is taken back on the way
    pub begun : (o : Option source.End) → Arrives code n k st v o → BeginsWith st.world.items v.items
    begun o a =
        let on = Lengthening.longer_run code 0 n st in
        subst (λ xs. BeginsWith st.world.items xs) (comes_with o a).0 (subst (λ j. BeginsWith st.world.items (items_of (exec code j st))) (none_before n) on)

    pub deepened : (d : ℕ) (o : Option source.End) → d ≤ st.world.deepest → Arrives code n k st v o → d ≤ v.deepest
    deepened d o h a = let deep = run_deep code d n st h in let same = (comes_with o a).1 in omega (arith, deep, same)

    -- where the run arrives within steps
    pub record Within (m : ℕ) (o : Option source.End) : Type 0 where
      pub last : State
      pub early : n < m
      pub leads : Leads code n st (goes_to last)
      pub world : last.world ≡ v
      pub pays : pays_at code last ≡ true
      pub few : k ≤ paying code n st

    -- what is left behind them, where turns were spent at least for those of them that paid
    pub record Behind (m : ℕ) (next : State) (o : Option source.End) : Type 0 where
      pub left : ℕ
      pub count : n ≡ m + left
      pub comes : Arrives code left 0 next v o
      pub arrives : (spent rest : ℕ) → paying code m st ≤ spent → k ≡ spent + rest → Arrives code left rest next v o

    pub behind : (m : ℕ) (next : State) (o : Option source.End) → Leads code m st (goes_to next) → Arrives code n k st v o → Within m o ⊎ Behind m next o
    behind m next (Some why) leads a = go (within_or_behind m n)
      where
        go : ((j : ℕ) × (n ≡ m + j)) ⊎ ((d : ℕ) × (m ≡ n + suc d)) → Within m (Some why) ⊎ Behind m next (Some why)
        go (inl (j, e)) =
            let rest : exec code j next ≡ over (by_program why) v = sym (Paces.leads_run code m j st (goes_to next) leads) ∙ ap (λ i. exec code i st) (sym e) ∙ a in
            inr (record { left = j; count = e; comes = rest; arrives = λ spent left paid total. rest })
        go (inr (d, e)) =
            let never : over (by_program why) v ≡ budget next.world =
            sym (Lengthening.end_stays code n (suc d) st (by_program why) v a) ∙ ap (λ i. exec code i st) (sym e) ∙ still_runs m st next leads in
            absurd (cc never)
    behind m next None leads (last, leads_on, is, pays, few) = go (within_or_behind m n)
      where
        go : ((j : ℕ) × (n ≡ m + j)) ⊎ ((d : ℕ) × (m ≡ n + suc d)) → Within m None ⊎ Behind m next None
        go (inl (j, e)) =
            let rest = leads_rest m j st next (goes_to last) leads (subst (λ i. Leads code i st (goes_to last)) e leads_on) in inr (record {
              left = j;
              count = e;
              comes = (last, rest, is, pays, omega arith);
              arrives = λ spent left paid total.
                  let both = Paces.tally_both code (pays_at code) m j st next leads in
                  let same : paying code n st ≡ paying code (m + j) st = ap (λ i. paying code i st) e in
                  (last, rest, is, pays, omega (arith, both, same, few, paid, total));
            })
        go (inr (d, e)) = inl (record { last = last; early = omega (arith, e); leads = leads_on; world = is; pays = pays; few = few })

    -- where steps come to an end, that is what the run comes to
    pub record AtEnd (e : Final) (u : World) (o : Option source.End) : Type 0 where
      pub why : source.End
      pub is : o ≡ Some why
      pub final : e ≡ by_program why
      pub world : u ≡ v

    pub at_end : (m : ℕ) (e : Final) (u : World) (o : Option source.End) → exec code m st ≡ over e u → Arrives code n k st v o → Within m o ⊎ AtEnd e u o
    at_end m e u (Some why) ends a =
        let count : n + m ≡ m + n = omega arith in
        let same : over e u ≡ over (by_program why) v =
        sym (Lengthening.end_stays code m n st e u ends) ∙ ap (λ i. exec code i st) (sym count) ∙ Lengthening.end_stays code n m st (by_program why) v a in
        inr (record { why = why; is = refl; final = cc same; world = cc same })
    at_end m e u None ends (last, leads, is, pays, few) = go (within_or_behind m n)
      where
        go : ((j : ℕ) × (n ≡ m + j)) ⊎ ((d : ℕ) × (m ≡ n + suc d)) → Within m None ⊎ AtEnd e u None
        go (inl (j, q)) =
            let never : over e u ≡ budget last.world = sym (Lengthening.end_stays code m j st e u ends) ∙ ap (λ i. exec code i st) (sym q) ∙ still_runs n st last leads in
            absurd (cc never)
        go (inr (d, q)) = inl (record { last = last; early = omega (arith, q); leads = leads; world = is; pays = pays; few = few })
