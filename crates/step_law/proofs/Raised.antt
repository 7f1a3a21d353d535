-- The header of what was raised, where it came to rest at a landing pad.
use Rattle.std.proofs.Common.{◌≡◌, ◌∙◌, sym, ap, ℕ, ◌+◌, ◌<◌, arith, inl, inr, Bool, true, false, ◌==◌, ◌||◌, List, [], ◌∷◌, ◌++◌, length, Option}
use Rattle.std.proofs.lemmas.Bool.Decides.{nat_tests}
use Rattle.meaning_forms.specs.Class.{contains}
use Rattle.cxa_runtime.specs.World as abi
use Rattle.region_forms.specs.Caught.{Entry}
use Rattle.region_forms.specs.Lives.{can_travel}
use Rattle.linear_forms.specs.Activation.{Activation, State, Code}
use Rattle.exceptions_in_flight.specs.Targets.{AimsAt}
use Rattle.flight_homes.specs.Keeps.{TravelsAgain, destroyed_in, gone}
use Rattle.linear_invariant.specs.Handled.{Unhandled}
use Rattle.machine_simulation.specs.Plan.{Plan}
use Rattle.machine_simulation.specs.Calls.{stack_end, open_bytes}
use Rattle.machine_simulation.specs.Exceptions.{HasHeader}
use Rattle.machine_simulation.specs.Matches.{RuntimeMatches}
use Rattle.machine_raises.specs.Throws.{HasAim}
use Rattle.runtime_invariant.specs.Aims.{IsOnItsWay}
use Rattle.stub_landings.specs.Rests.{Rests}
use Rattle.step_law.specs.Standing.{HeaderAims}
use Rattle.step_law.proofs.Aiming.{on_its_way, ends_meet}
use Rattle.step_law.proofs.Aligned.{CallsAlign}
use Rattle.step_law.proofs.Exceptions.{gone_destroyed}

-- what is in none of two lists is not in the second
pub in_neither : (xs ys : List ℕ) (e : ℕ) → contains (xs ++ ys) e ≡ false → contains ys e ≡ false
in_neither [] ys e h = h
in_neither (x ∷ xs) ys e h = by (x == e) h (in_neither xs ys e)
  where
    by : (b : Bool) → (b || contains (xs ++ ys) e) ≡ false → (contains (xs ++ ys) e ≡ false → contains ys e ≡ false) → contains ys e ≡ false
    by true h rest = absurd (cc h)
    by false h rest = rest h

-- where no handler has an exception, it travels as a new one
pub unhandled_travels : (e : ℕ) (xs : List Entry) → Unhandled e xs → TravelsAgain e xs
unhandled_travels e [] h = tt
unhandled_travels e (y ∷ ys) h = ((λ same. let yes : (y.number == e) ≡ true = grind (arith, nat_tests, same) in let never : true ≡ false = sym yes ∙ h.0 in absurd (cc never)), unhandled_travels e ys h.1)

module _ (r : Plan) (next : State) (u : abi.World) (e slot : ℕ) (can : can_travel next.world e ≡ true) (whole : contains (gone (next.top ∷ next.frames)) e ≡ false) (again : TravelsAgain e next.world.caught)
    (a : HasHeader u.exceptions.live e slot) where
  with_top : RuntimeMatches r (next.top ∷ next.frames) next.world u → IsOnItsWay slot a.header u.exceptions
  with_top m = on_its_way r (next.top ∷ next.frames) next.world u e slot m can (ap (λ es. contains es e) (gone_destroyed (next.top ∷ next.frames)) ∙ whole) again a

  below_top : RuntimeMatches r next.frames next.world u → IsOnItsWay slot a.header u.exceptions
  below_top m =
      let fewer = in_neither (destroyed_in next.top.function next.top.frame) (gone next.frames) e whole in
      on_its_way r next.frames next.world u e slot m can (ap (λ es. contains es e) (gone_destroyed next.frames) ∙ fewer) again a

  -- wherever it rests
  rests_on_its_way : Rests r next u → IsOnItsWay slot a.header u.exceptions
  rests_on_its_way (inl m) = below_top m.runtime
  rests_on_its_way (inr (inl h)) = with_top h.rests.runtime
  rests_on_its_way (inr (inr (inl h))) = with_top h.rests.runtime
  rests_on_its_way (inr (inr (inr (inl h)))) = with_top h.rests.runtime
  rests_on_its_way (inr (inr (inr (inr (inl h))))) = with_top h.rests.runtime
  rests_on_its_way (inr (inr (inr (inr (inr h))))) = with_top h.rests.runtime

-- What a raise says of the header stands in the state that it comes to.
pub raised_aims : (code : Code) (t : Option ℕ) (q r : Plan) (here : List Activation) (next : State) (u : abi.World) (e d stack : ℕ) → (h : HasAim q u e d stack here) → AimsAt code t d here → stack + open_bytes q here ≡ stack_end →
    CallsAlign q r here (next.top ∷ next.frames) → r.tables ≡ q.tables → Rests r next u → can_travel next.world e ≡ true → contains (gone (next.top ∷ next.frames)) e ≡ false → TravelsAgain e next.world.caught →
    d < length here → d < length (next.top ∷ next.frames) → HeaderAims r (next.top ∷ next.frames) u e d
raised_aims code t q r here next u e d stack h aims stands aligned tables rests can whole again inside below = record {
  inside = below;
  slot = h.at.slot;
  header = h.at.has.header;
  way = rests_on_its_way r next u e h.at.slot can whole again h.at.has rests;
  number = h.at.has.number;
  target = h.at.aimed ∙ ends_meet code t q d here stack aims stands ∙ sym (aligned.targets d inside below);
  table = λ n is. h.table n (sym (aligned.calls d inside below) ∙ is) ∙ ap (λ f. f n) (sym tables);
}
