-- A chain is called a loop exactly where it comes to a record twice.
use Rattle.std.proofs.Common.{◌≡◌, ◌≤◌, ◌<◌, ◌+◌, ℕ, zero, suc, Bool, true, false, length, take, Some, refl, ap, sym, ◌∙◌, arith}
use Rattle.std.specs.Prelude.{◌↔◌, nat_lt, option_and_then}
use Rattle.std.proofs.lemmas.Bool.Decides.{nat_tests}
use Rattle.std.proofs.lemmas.List.{length-take}
use Rattle.eh_bytes.specs.Memory.{Part}
use Rattle.table_forms.specs.declared.found.Next.TheVariants.{Ends, Leaves, Goes}
use Rattle.table_forms.specs.declared.found.Action.{Action}
use Rattle.table_forms.specs.declared.found.Action.TheVariants.{Record, Outside, Ranged}
use Rattle.table_forms.specs.LsdaHead.{Head}
use Rattle.table_forms.specs.Walk.{walk}
use Rattle.table_forms.specs.LsdaChain.{repeated, action_end, action_at, links_from, links_within, chain_of, first_record, goes_to, next_record, MeetsTwice}
use Rattle.table_forms.proofs.Beyond.{action_behind}
use Rattle.table_forms.proofs.Walks as walks

-- the walk goes on for as many records as the chain may have
far : (n : ℕ) (part : Part) (h : Head) (p : ℕ) → (links_within n part h p).ending ≡ repeated → walks.Goes (next_record part h) n p
unfolding links_within walk
far zero part h p ends = record { place = p; there = refl }
far (suc n) part h p ends = let on = step (action_at part h p) ends (far n part h) in record { place = on.0; there = on.1 }
  where
    step : (action : Action) → (links_from p action (links_within n part h)).ending ≡ repeated →
        ((q : ℕ) → (links_within n part h q).ending ≡ repeated → walks.Goes (next_record part h) n q) →
        (place : ℕ) × (option_and_then (walk (next_record part h) n) (goes_to action) ≡ Some place)
    step Outside ends rest = cc
    step (Ranged q) ends rest = cc
    step (Record filter Ends) ends rest = cc
    step (Record filter Leaves) ends rest = cc
    step (Record filter (Goes q)) ends rest = let goes = rest q ends in (goes.place, goes.there)

-- a chain that goes so far has not ended
near : (n : ℕ) (part : Part) (h : Head) (p : ℕ) → walks.Goes (next_record part h) n p → (links_within n part h p).ending ≡ repeated
unfolding links_within walk
near zero part h p goes = refl
near (suc n) part h p goes = step (action_at part h p) goes.there (near n part h)
  where
    step : (action : Action) → option_and_then (walk (next_record part h) n) (goes_to action) ≡ Some goes.place →
        ((q : ℕ) → walks.Goes (next_record part h) n q → (links_within n part h q).ending ≡ repeated) → (links_from p action (links_within n part h)).ending ≡ repeated
    step Outside there rest = cc
    step (Ranged q) there rest = cc
    step (Record filter Ends) there rest = cc
    step (Record filter Leaves) there rest = cc
    step (Record filter (Goes q)) there rest = rest q (record { place = goes.place; there = there })

-- a record lies before the end of its part
inside : (part : Part) (h : Head) (q r : ℕ) → next_record part h q ≡ Some r → q < length part.bytes
inside part h q r on = cases (nat_lt q (length part.bytes)) refl
  where
    end : ℕ
    end = action_end part h.types

    short : length (take end part.bytes) ≤ length part.bytes
    short = omega (arith, length-take end part.bytes)

    cases : (b : Bool) → nat_lt q (length part.bytes) ≡ b → q < length part.bytes
    cases true below = grind (arith, nat_tests)
    cases false above =
        let behind : length part.bytes ≤ q = grind (arith, nat_tests) in
        let none : action_at part h q ≡ Outside = action_behind (take end part.bytes) h.actions_at q (omega (arith, short)) in
        let nowhere : goes_to Outside ≡ Some r = sym (ap goes_to none) ∙ on in
        absurd (cc)

-- called a loop, it comes to a record twice, and the other way round
pub loop_exact : (part : Part) (h : Head) (a : ℕ) → ((chain_of part h a).ending ≡ repeated) ↔ MeetsTwice part h a
loop_exact part h a =
    let count : 1 + length part.bytes ≡ suc (length part.bytes) = omega arith in (
      λ ends. walks.returns (next_record part h) (first_record h a) (length part.bytes) (inside part h)
          (rw count at (far (1 + length part.bytes) part h (first_record h a) ends)),
      λ twice. near (1 + length part.bytes) part h (first_record h a) (walks.goes_on (next_record part h) (first_record h a) (1 + length part.bytes) twice),
    )
