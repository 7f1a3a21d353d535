-- What a specification stopped has come to its target.
use Rattle.std.proofs.Common.{◌≡◌, ◌⊎◌, inl, inr, ℕ, ℤ, pos, negsuc, Bool, true, false, List, ◌∷◌, length, Option, Some, None, sym, ap, ◌∙◌, subst, if◌then◌else◌}
use Rattle.region_forms.specs.Form.{Regions}
use Rattle.region_forms.specs.World.{Word, number_word, flying, type_at}
use Rattle.linear_forms.specs.Linear.{unexpected}
use Rattle.linear_forms.specs.Stub.{compiled, linear}
use Rattle.linear_forms.specs.Activation.{Activation, Code, State, fetch}
use Rattle.linear_forms.specs.Defined.{RunsAt}
use Rattle.linear_forms.specs.Unit.{unit_of}
use Rattle.linear_forms.specs.UnitRun.{code_of}
use Rattle.exceptions_in_flight.specs.Targets.{AimsAt}
use Rattle.flight_homes.specs.Homes.{is_one_of}
use Rattle.flight_homes.specs.Keeps.{Carrying, Carried, carried_in}
use Rattle.flight_homes.specs.Lives.{known_in}
use Rattle.linear_invariant.specs.Calls.{Marks, unmarked, IsOther, OnItsWay, WordGoes, FlightGoes}
use Rattle.linear_invariant.specs.Code.{CodeFits}
use Rattle.linear_invariant.specs.Stands.{StandsIn}
use Rattle.kept_selectors.specs.Selectors.{SelectorsNamed, PassesList, StoppedAreThere}
use Rattle.kept_selectors.proofs.Ends.{compiled_is, passes_have_lists}

module _ (r : Regions) (k : Carrying) (steps n o s e d : ℕ) (st : State) (fits : CodeFits (known_in r) (code_of (unit_of r)) k) (stands : StandsIn (unmarked (known_in r)) (code_of (unit_of r)) k steps st)
    (named : SelectorsNamed (code_of (unit_of r)) k (st.top ∷ st.frames)) (same : st.top.function ≡ compiled n) (runs : RunsAt (code_of (unit_of r)) st (linear (unexpected o s))) (is : st.top.frame.slots o ≡ flying e d) where
  abbrev code : Code
  code = code_of (unit_of r)

  abbrev marks : Marks
  marks = unmarked (known_in r)

  abbrev p : ℕ
  p = st.top.place

  there : code.op_at n p ≡ Some (unexpected o s)
  there = compiled_is (code.op_at n p) (unexpected o s) (subst (λ f. fetch code f p ≡ Some (linear (unexpected o s))) same runs)

  passes : (k.carries n p ≡ true) × (o ≡ k.object n) × (s ≡ k.selector n)
  passes = fits.carries.passes n p o s there

  list : PassesList code k n p (st.top.frame.slots s)
  list = passes_have_lists code k st n o s fits.carries named same runs

  abbrev carries : Carried
  carries = record { word = st.top.frame.slots (k.object n); home = k.home n p; number = st.top.frame.slots (k.selector n); left = k.left n p }

  on_its_way : OnItsWay code st.top st.frames carries e d st.world
  on_its_way =
      let goes = subst (λ f. FlightGoes marks code st.top st.frames (carried_in k f st.top) st.world) same stands.calls.0.carries in
      let some = subst (λ b. FlightGoes marks code st.top st.frames (if b then Some carries else None) st.world) passes.0 goes in
      (subst (λ y. WordGoes marks code st.top st.frames carries y st.world) (ap st.top.frame.slots (sym passes.1) ∙ is) some).0

  number : on_its_way.selector ≡ negsuc list.list
  number =
      let both : number_word on_its_way.selector ≡ number_word (negsuc list.list) = sym on_its_way.number ∙ (ap st.top.frame.slots (sym passes.2) ∙ list.is) in
      cc both

  other : IsOther on_its_way.selector (k.left n p) → {X : Type 0} → X
  other (inl none) = let never : true ≡ false = sym list.left ∙ (ap (λ z. is_one_of z (k.left n p)) (sym number) ∙ none) in absurd (cc never)
  other (inr zero) = let never : negsuc list.list ≡ pos 0 = sym number ∙ zero in absurd (cc never)

  pub there_at_last : d ≡ length st.frames
  there_at_last = by on_its_way.goes
    where
      by : ((is_one_of on_its_way.selector (k.left n p) ≡ true) × (d ≡ length st.frames)) ⊎ (IsOther on_its_way.selector (k.left n p) × AimsAt code (type_at st.world e) d (record { function = st.top.function; place = k.home n p; frame = st.top.frame } ∷ st.frames)) →
          d ≡ length st.frames
      by (inl here) = here.1
      by (inr aims) = other aims.0

pub stopped_are_there : StoppedAreThere
stopped_are_there r k steps n o s e d st fits stands named same runs is = there_at_last r k steps n o s e d st fits stands named same runs is
