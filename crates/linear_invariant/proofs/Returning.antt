-- Where a destructor comes back, leaving a handler waits for it.
use Rattle.std.proofs.Common.{◌≡◌, ℕ, zero, suc, true, false, List, ◌∷◌, Some, refl, sym, ap, ◌∙◌, subst}
use Rattle.region_forms.specs.World.{exception_in_slot, address_in, Frame, exception_of}
use Rattle.linear_forms.specs.Stub.{Function, compiled, end_catch, CodeOp, stub_op}
use Rattle.linear_forms.specs.Activation.{Code, Activation, State}
use Rattle.linear_forms.specs.Unit.{unit_of}
use Rattle.linear_forms.specs.UnitRun.{code_of}
use Rattle.flight_homes.specs.Keeps.{Carrying}
use Rattle.flight_homes.specs.Lives.{known_in}
use Rattle.flight_homes.specs.Nest.{is_called_by, CallsNest}
use Rattle.linear_invariant.specs.Handled.{IsGone}
use Rattle.linear_invariant.specs.Calls.{HasDestructor, makes_call, Marks, unmarked, CallKeeps, CallsKeep, StubHolds}
use Rattle.linear_invariant.specs.Asked.{ReturnAsked, ReturnsAreAsked}
use Rattle.linear_invariant.proofs.Tops.{called}
use Rattle.linear_invariant.proofs.Given.{some_same}

-- leaving a handler waits at one place for one of the program's functions
catch_place : (p : ℕ) (op : CodeOp) → stub_op end_catch p ≡ Some op → makes_call op ≡ true → 1 ≡ p
catch_place zero op there made = let never : false ≡ true = ap makes_call (some_same there) ∙ made in absurd (cc never)
catch_place (suc zero) op there made = refl
catch_place (suc (suc zero)) op there made = let never : false ≡ true = ap makes_call (some_same there) ∙ made in absurd (cc never)
catch_place (suc (suc (suc zero))) op there made = let never : false ≡ true = ap makes_call (some_same there) ∙ made in absurd (cc never)
catch_place (suc (suc (suc (suc zero)))) op there made = let never : false ≡ true = ap makes_call (some_same there) ∙ made in absurd (cc never)
catch_place (suc (suc (suc (suc (suc zero))))) op there made = let never : false ≡ true = ap makes_call (some_same there) ∙ made in absurd (cc never)
catch_place (suc (suc (suc (suc (suc (suc zero)))))) op there made = let never : false ≡ true = ap makes_call (some_same there) ∙ made in absurd (cc never)
catch_place (suc (suc (suc (suc (suc (suc (suc p))))))) op there made = absurd (cc there)

module _ (marks : Marks) (code : Code) (k : Carrying) (n p q : ℕ) (x : Frame) (g : Function) (y : Frame) (outer : List Activation) (st : State) where
  return_asked : CallKeeps code k marks (Some (compiled n)) (called end_catch p x) (called g q y ∷ outer) st.world → CallKeeps code k marks (Some end_catch) (called g q y) outer st.world → is_called_by end_catch g ≡ true →
      ReturnAsked marks.known code k st (called end_catch p x) (called g q y) outer
  return_asked own caller by =
      let place = catch_place p own.waits.op own.waits.there own.waits.made in
      let holds : HasDestructor marks.known.destructors x = subst (λ i. StubHolds marks end_catch i x) (sym place) own.slots in
      let there : exception_in_slot x 0 ≡ holds.number = ap (λ u. exception_of (address_in u)) holds.object in
      record {
        place = sym place;
        destroys = holds;
        gone = subst (IsGone st.world) there own.gone.0;
        unheld = own.forgets 0 holds.number tt (ap address_in holds.object);
        leaves = caller.waits.there ∙ ap (λ o. Some o) caller.waits.made;
        called = by;
      }

pub returns_are_asked : ReturnsAreAsked
returns_are_asked r k steps n st waiting caller outer fits h top split catch =
    let marks = unmarked (known_in r) in
    let code = code_of (unit_of r) in
    let calls = subst (λ f. CallsKeep code k marks (Some f) (waiting ∷ caller ∷ outer) st.world) top (subst (λ fs. CallsKeep code k marks (Some st.top.function) fs st.world) split h.calls.1) in
    let nest = subst (λ fs. CallsNest (st.top ∷ fs)) split h.stand.nest in
    let own = subst (λ f. CallKeeps code k marks (Some (compiled n)) (called f waiting.place waiting.frame) (caller ∷ outer) st.world) catch calls.0 in
    let second = subst (λ f. CallKeeps code k marks (Some f) caller outer st.world) catch calls.1.0 in
    let by = subst (λ f. is_called_by f caller.function ≡ true) catch nest.1.0 in
    subst (λ f. ReturnAsked (known_in r) code k st (called f waiting.place waiting.frame) caller outer) (sym catch)
    (return_asked marks code k n waiting.place caller.place waiting.frame caller.function caller.frame outer st own second by)
