-- Steps of call_unexpected that raise nothing, one after the other.
use Rattle.std.proofs.Common.{◌≡◌, refl, sym, ap, subst, arith, ℕ, zero, suc, ◌+◌, ◌<◌}
use Rattle.linear_forms.specs.Stub.{call_unexpected}
use Rattle.linear_forms.specs.Activation.{State, Code, goes_to}
use Rattle.linear_forms.specs.Machine.{step}
use Rattle.linear_forms.specs.Pace.{Leads, LeadsOn}
use Rattle.linear_forms.proofs.Paces
use Rattle.flight_homes.specs.Lives.{known_in}
use Rattle.linear_invariant.specs.Calls.{unmarked}
use Rattle.linear_invariant.specs.Stands.{StandsIn}
use Rattle.linear_invariant.proofs.Steps.{steps_stand}
use Rattle.source_bounds.specs.Compiled.{unit_for}
use Rattle.machine_simulation.specs.Plan.{Plan}
use Rattle.address_invariant.specs.Extents.{extents_of}
use Rattle.address_invariant.specs.Reaching.{VariablesLie, Reaches}
use Rattle.address_invariant.proofs.Steps.{steps_reach}
use Rattle.step_law.specs.Facts.{regions_for, needs_for, code_for, Facts}
use Rattle.step_law.specs.Rows.{Run}
use Rattle.step_law.proofs.Calm.{CalmSteps}
use Rattle.step_law.proofs.Facing.{newest_made}
use Rattle.step_law.proofs.Keeping.{CalmAt}

-- so many lead from a state to another; none makes an exception
abbrev pub OwnSteps : Code → ℕ → State → State → Type 0
OwnSteps code zero st last = st ≡ last
OwnSteps code (suc n) st last = CalmAt code st × (mid : State) × (step code st ≡ goes_to mid) × (mid.top.function ≡ call_unexpected) × (mid.world.last_number ≡ st.world.last_number) × OwnSteps code n mid last

pub own_leads : (code : Code) (n : ℕ) (st last : State) → OwnSteps code n st last → Leads code n st (goes_to last)
own_leads code zero st last h = ap goes_to (sym h)
own_leads code (suc n) st last h = Paces.stepped code n st h.1 (goes_to last) h.2 (own_leads code n h.1 last h.5)

pub own_calm : (code : Code) (n : ℕ) (st last : State) → OwnSteps code n st last → (j : ℕ) (between : State) → j < n → Leads code j st (goes_to between) → CalmAt code between
own_calm code zero st last h j between less leads = absurd (omega (arith, less))
own_calm code (suc n) st last h zero between less leads = let one : st ≡ between = cc leads in subst (λ m. CalmAt code m) one h.0
own_calm code (suc n) st last h (suc j) between less leads =
    own_calm code n h.1 last h.5 j between (omega (arith, less)) (subst (LeadsOn j (λ m. Leads code j m (goes_to between)) (goes_to between)) h.2 leads)

pub own_both : (code : Code) (a b : ℕ) (st mid last : State) → OwnSteps code a st mid → OwnSteps code b mid last → OwnSteps code (a + b) st last
own_both code zero b st mid last h k = subst (λ n. OwnSteps code n st last) (sym (none_more b)) (subst (λ m. OwnSteps code b m last) (sym h) k)
  where
    none_more : (n : ℕ) → 0 + n ≡ n
    none_more n = omega arith
own_both code (suc a) b st mid last h k = subst (λ n. OwnSteps code n st last) (sym (one_more a b)) (h.0, h.1, h.2, h.3, h.4, own_both code a b h.1 mid last h.5 k)
  where
    one_more : (n m : ℕ) → suc n + m ≡ suc (n + m)
    one_more n m = omega arith

module _ (x : Run) (q : Plan) (facts : Facts x.program x.image x.carrying x.tables) where
  abbrev code : Code
  code = code_for x.program

  pub own_reach : (n steps : ℕ) (st last : State) → StandsIn (unmarked (known_in (regions_for x.program))) code x.carrying steps st → Reaches (extents_of q) (unit_for x.program) (needs_for x.program) st → OwnSteps code n st last →
      Reaches (extents_of q) (unit_for x.program) (needs_for x.program) last
  own_reach zero steps st last inv reach h = subst (λ m. Reaches (extents_of q) (unit_for x.program) (needs_for x.program) m) h reach
  own_reach (suc n) steps st last inv reach h =
      own_reach n (steps + 1) h.1 last (steps_stand (regions_for x.program) x.carrying steps st h.1 facts.fits inv h.2)
      (steps_reach (extents_of q) (extents_of q) (unit_for x.program) (needs_for x.program) st h.1 facts.reach reach (newest_made (unmarked (known_in (regions_for x.program))) code x.carrying steps st inv) h.2 (record {
        same = λ b begun. (refl, refl);
        objects = record { globals = reach.objects.globals; exceptions = λ e made. reach.objects.exceptions e (omega (arith, made, h.4)) };
        opened = λ new. subst (λ f. VariablesLie (extents_of q) (unit_for x.program) f h.1.top.frame.call) (sym h.3) tt;
      })) h.5

-- they raise nothing
pub own_calm_steps : (c : Code) (n : ℕ) (st last : State) → OwnSteps c n st last → CalmSteps c n st last
own_calm_steps c zero st last h = h
own_calm_steps c (suc n) st last h = (h.0, h.1, h.2, own_calm_steps c n h.1 last h.5)
