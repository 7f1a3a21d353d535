-- A front of a run shows no more than the meaning, and ends as it does, as long as fewer steps pay than the meaning has turns.
use Rattle.std.proofs.Common.{◌≡◌, ℕ, suc, ◌+◌, ◌-◌, ◌*◌, ◌<◌, ◌≤◌, ◌⊎◌, inl, inr, Bool, true, false, refl, sym, ap, ◌∙◌, subst, arith}
use Rattle.std.specs.Prelude.{nat_le}
use Rattle.std.proofs.lemmas.Bool.Decides.{nat_tests}
use Rattle.meaning_forms.specs.Outcome.{exit, aborted, thrown, cancelled, ended, undefined, out_of_turns, deep}
use Rattle.meaning_forms.specs.Meaning.{Meaning, MainOutcome, returned, stopped_by}
use Rattle.region_forms.specs.World.{World}
use Rattle.linear_forms.specs.Activation.{Code, State, Final, goes_to, by_program, not_defined, fault}
use Rattle.linear_forms.specs.Machine.{step, Run, over, budget, exec}
use Rattle.linear_forms.specs.UnitRun.{code_of, first_state, seen_of, seen_run}
use Rattle.linear_forms.specs.Unit.{unit_of}
use Rattle.linear_forms.specs.Pace.{pays_at, one_if, after, tally, paying}
use Rattle.linear_forms.proofs.Paces
use Rattle.linear_simulation.specs.ProgramRuns.{items_of, BeginsWith, Ends, StopsShort, Shows}
use Rattle.linear_simulation.specs.Fronts.{FrontsAreMeant, EndsAreMeant}
use Rattle.linear_simulation.proofs.Lengthening

-- what is seen of a run has its items
items_seen : (m : Meaning) (r : Run) → seen_run r ≡ seen_of m → items_of r ≡ m.items
items_seen m (over (by_program (exit k)) w) e = cc e
items_seen m (over (by_program aborted) w) e = cc e
items_seen m (over not_defined w) e = cc e
items_seen m (over fault w) e = absurd (cc e)
items_seen m (budget w) e = cc e

within_or_behind : (n j : ℕ) → ((d : ℕ) × (j ≡ n + d)) ⊎ ((d : ℕ) × (n ≡ j + suc d))
within_or_behind n j = go (nat_le n j) refl
  where
    low : nat_le n j ≡ true → n ≤ j
    low e = grind (arith, nat_tests, e)

    high : nat_le n j ≡ false → j < n
    high e = grind (arith, nat_tests, e)

    go : (b : Bool) → nat_le n j ≡ b → ((d : ℕ) × (j ≡ n + d)) ⊎ ((d : ℕ) × (n ≡ j + suc d))
    go true e = let le = low e in inl (j - n, omega (arith, le))
    go false e = let lt = high e in inr (n - (j + 1), omega (arith, lt))

module _ (code : Code) (first : State) (m : Meaning) (turns enough : ℕ) where
  abbrev Front : ℕ → Type 0
  Front n = BeginsWith (items_of (exec code n first)) m.items

  -- before an end
  front_of_end : Ends m enough (λ n. exec code n first) → (n : ℕ) → Front n
  front_of_end ends n =
      subst (λ xs. BeginsWith (items_of (exec code n first)) xs) (items_seen m (exec code (n + enough) first) (ends (n + enough) (omega arith)))
      (Lengthening.longer_run code n enough first)

  -- an end in a front is that of the meaning
  end_of_end : Ends m enough (λ n. exec code n first) → (n : ℕ) (e : Final) (w : World) → exec code n first ≡ over e w → seen_run (over e w) ≡ seen_of m
  end_of_end ends n e w over_by = sym (ap seen_run (Lengthening.end_stays code n enough first e w over_by)) ∙ ends (n + enough) (omega arith)

  module _ (s : StopsShort code first m turns enough) (n : ℕ) (few : paying code n first < turns) where
    -- behind the place where the turns are used up another step pays
    not_behind : (d : ℕ) → n ≡ s.steps + suc d → ⊥
    not_behind d e =
        let one : one_if (pays_at code s.last) ≡ 1 = ap one_if s.pays in
        let both = Paces.tally_both code (pays_at code) s.steps (suc d) first s.last s.leads in
        let same : paying code n first ≡ paying code (s.steps + suc d) first = ap (λ j. paying code j first) e in
        let last : paying code (suc d) s.last ≡ one_if (pays_at code s.last) + after (tally (pays_at code) code d) (step code s.last) = refl in
        omega (arith, one, both, same, last, s.paid, few)

    -- up to there the run goes on
    still_runs : (d : ℕ) → s.steps ≡ n + d → exec code (n + d) first ≡ budget s.last.world
    still_runs d e = let same : n + d ≡ s.steps + 0 = omega (arith, e) in ap (λ j. exec code j first) same ∙ Paces.leads_run code s.steps 0 first (goes_to s.last) s.leads

    front_of_short : Front n
    front_of_short = go (within_or_behind n s.steps)
      where
        go : ((d : ℕ) × (s.steps ≡ n + d)) ⊎ ((d : ℕ) × (n ≡ s.steps + suc d)) → Front n
        go (inl (d, e)) = subst (λ xs. BeginsWith (items_of (exec code n first)) xs) (ap items_of (still_runs d e) ∙ s.items) (Lengthening.longer_run code n d first)
        go (inr (d, e)) = absurd (not_behind d e)

    end_of_short : (e : Final) (w : World) → exec code n first ≡ over e w → seen_run (over e w) ≡ seen_of m
    end_of_short e w over_by = go (within_or_behind n s.steps)
      where
        go : ((d : ℕ) × (s.steps ≡ n + d)) ⊎ ((d : ℕ) × (n ≡ s.steps + suc d)) → seen_run (over e w) ≡ seen_of m
        go (inl (d, q)) = let no : over e w ≡ budget s.last.world = sym (Lengthening.end_stays code n d first e w over_by) ∙ still_runs d q in absurd (cc no)
        go (inr (d, q)) = absurd (not_behind d q)

  front_of : (main : MainOutcome) → (main ≡ stopped_by deep → ⊥) → Shows main m turns enough code first → (n : ℕ) → paying code n first < turns → Front n
  front_of (returned v) shallow h n few = front_of_end h.ends n
  front_of (stopped_by (thrown e)) shallow h n few = absurd h
  front_of (stopped_by (cancelled k)) shallow h n few = front_of_end h.ends n
  front_of (stopped_by (ended e)) shallow h n few = front_of_end h.ends n
  front_of (stopped_by undefined) shallow h n few = front_of_end h.ends n
  front_of (stopped_by out_of_turns) shallow h n few = front_of_short (h.short (omega (arith, few))) n few
  front_of (stopped_by deep) shallow h n few = absurd (shallow refl)

  end_of : (main : MainOutcome) → (main ≡ stopped_by deep → ⊥) → Shows main m turns enough code first → (n : ℕ) (e : Final) (w : World) → exec code n first ≡ over e w
      → paying code n first < turns → seen_run (over e w) ≡ seen_of m
  end_of (returned v) shallow h n e w q few = end_of_end h.ends n e w q
  end_of (stopped_by (thrown x)) shallow h n e w q few = absurd h
  end_of (stopped_by (cancelled k)) shallow h n e w q few = end_of_end h.ends n e w q
  end_of (stopped_by (ended x)) shallow h n e w q few = end_of_end h.ends n e w q
  end_of (stopped_by undefined) shallow h n e w q few = end_of_end h.ends n e w q
  end_of (stopped_by out_of_turns) shallow h n e w q few = end_of_short (h.short (omega (arith, few))) n few e w q
  end_of (stopped_by deep) shallow h n e w q few = absurd (shallow refl)

pub fronts_are_meant : FrontsAreMeant
fronts_are_meant p m turns most input replies shallow h n few =
    front_of (code_of (unit_of p)) (first_state (unit_of p) input replies) m turns ((turns + 1) * most) m.main shallow h n few

pub ends_are_meant : EndsAreMeant
ends_are_meant p m turns most input replies shallow h n e w q few =
    end_of (code_of (unit_of p)) (first_state (unit_of p) input replies) m turns ((turns + 1) * most) m.main shallow h n e w q few
