-- After any number of steps open calls have that in the slots for numbers.
use Rattle.std.proofs.Common.{◌≡◌, ℕ, zero, suc, ◌+◌, ◌∷◌, refl, sym, subst}
use Rattle.linear_forms.specs.Activation.{Code, State, Next, goes_to, finishes}
use Rattle.linear_forms.specs.Machine.{step}
use Rattle.linear_forms.specs.Pace.{LeadsOn, Leads}
use Rattle.linear_forms.specs.Unit.{unit_of}
use Rattle.linear_forms.specs.UnitRun.{code_of, first_state}
use Rattle.region_forms.specs.Form.{Regions}
use Rattle.flight_homes.specs.Keeps.{Carrying}
use Rattle.flight_homes.specs.Lives.{known_in}
use Rattle.linear_invariant.specs.Calls.{unmarked}
use Rattle.linear_invariant.specs.Code.{CodeFits}
use Rattle.linear_invariant.specs.Stands.{StandsIn}
use Rattle.linear_invariant.proofs.Steps.{steps_stand, first_states_stand}
use Rattle.kept_selectors.specs.Stopping.{CodeStops}
use Rattle.kept_selectors.specs.Selectors.{SelectorsNamed, RunsKeepSelectors}
use Rattle.kept_selectors.proofs.Ends.{first_selectors}
use Rattle.kept_selectors.proofs.Stubs.{steps_keep_selectors}

module _ (r : Regions) (k : Carrying) (fits : CodeFits (known_in r) (code_of (unit_of r)) k) (stops : CodeStops (code_of (unit_of r))) where
  abbrev code : Code
  code = code_of (unit_of r)

  abbrev Named : State → Type 0
  Named st = SelectorsNamed code k (st.top ∷ st.frames)

  pub leads_keep : (n before : ℕ) (st next : State) → StandsIn (unmarked (known_in r)) code k before st → Named st → Leads code n st (goes_to next) → Named next
  leads_keep zero before st next stands h e = let same : next ≡ st = cc e in subst Named (sym same) h
  leads_keep (suc n) before st next stands h e =
      go (step code st) refl e (λ middle here more. leads_keep n (before + 1) middle next (steps_stand r k before st middle fits stands here) (steps_keep_selectors r k before st middle fits stops stands h here) more)
    where
      go : (x : Next) → step code st ≡ x → LeadsOn n (λ m. Leads code n m (goes_to next)) (goes_to next) x → ((middle : State) → step code st ≡ goes_to middle → Leads code n middle (goes_to next) → Named next) → Named next
      go (goes_to middle) i j rest = rest middle i j
      go (finishes f w) i j rest = absurd (cc j.1)

pub runs_keep_selectors : RunsKeepSelectors
runs_keep_selectors r k input replies n st fits stops given e =
    leads_keep r k fits stops n 0 (first_state (unit_of r) input replies) st (first_states_stand r k input replies fits given) (first_selectors (unit_of r) k input replies fits.carries) e
