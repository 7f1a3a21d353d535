-- Each step keeps the handlers of open calls in step, so they are after any number of steps.
use Rattle.std.proofs.Common.{◌≡◌, ℕ, zero, suc, ◌+◌, ◌≤◌, true, List, Some, None, refl, sym, subst, arith}
use Rattle.std.specs.Prelude.{not, ◌&&◌, ◌==◌}
use Rattle.std.proofs.lemmas.Bool.{and_parts}
use Rattle.region_forms.specs.Form.{Regions}
use Rattle.region_forms.specs.Lives.{can_travel, is_on_top, may_enter}
use Rattle.region_forms.specs.World.{object_address, address_in, exception_in_slot, Frame, World}
use Rattle.linear_forms.specs.Stub.{Function, compiled, end_catch, terminating, call_unexpected}
use Rattle.linear_forms.specs.Activation.{Code, Activation, State, Next, goes_to, finishes, fetch, kinds}
use Rattle.linear_forms.specs.Machine.{act_on, step}
use Rattle.linear_forms.specs.Pace.{LeadsOn, Leads}
use Rattle.linear_forms.specs.Unit.{unit_of}
use Rattle.linear_forms.specs.UnitRun.{code_of, first_state}
use Rattle.flight_homes.specs.Keeps.{Carrying}
use Rattle.flight_homes.specs.Lives.{known_in, WorldKnown}
use Rattle.flight_homes.specs.Whole.{IsWhole}
use Rattle.linear_invariant.specs.Handled.{WorldKeeps}
use Rattle.linear_invariant.specs.Calls.{Marks, unmarked, CallKeeps, CallsKeep}
use Rattle.linear_invariant.specs.Code.{CodeCarries, CodeFits}
use Rattle.linear_invariant.specs.Stands.{StandsIn}
use Rattle.linear_invariant.proofs.Effects.{numbered, has_object}
use Rattle.linear_invariant.proofs.Returns.{helps_whole}
use Rattle.linear_invariant.proofs.Steps.{steps_stand, first_states_stand}
use Rattle.kept_handlers.specs.Depths.{Depths, CodeOpens}
use Rattle.kept_handlers.specs.Handlers.{IsStopped, KeepsStopped, HandlersStand, StateOpens, StepsKeepHandlers, FirstOpens, LeadsOpen, RunsOpen, ReturnsToStopped, RunsWithStopped}
use Rattle.kept_handlers.proofs.Kept.{called}
use Rattle.kept_handlers.proofs.Unwinds.{Goes, Stands}
use Rattle.kept_handlers.proofs.Steps.{compiled_goes}
use Rattle.kept_handlers.proofs.Stubs.{catch_goes, ending_goes, passing_goes}

module _ (marks : Marks) (code : Code) (k : Carrying) (d : Depths) (opened : CodeOpens code d) (c : CodeCarries code k) (n p : ℕ) (x : Frame) (fs : List Activation) (w : World) (lives : WorldKnown marks.known w) (world : WorldKeeps n w) where
  -- the slot of what may be entered has its object
  begins : CallKeeps code k marks None (called call_unexpected p x) fs w → CallsKeep code k marks (Some call_unexpected) fs w → IsWhole (kinds code call_unexpected) x → may_enter w (exception_in_slot x 0) ≡ true →
      address_in (x.slots 0) ≡ Some (object_address (exception_in_slot x 0))
  begins own rest whole may =
      let e = exception_in_slot x 0 in
      let can = (and_parts (can_travel w e) (not (w.uncaught == 0) && is_on_top e w.caught) may).0 in
      let holds = helps_whole code call_unexpected x whole in
      has_object marks code k c n call_unexpected p x fs w own rest world lives holds 0 tt (numbered marks code k c n call_unexpected p x fs w own rest world lives holds e can).0

  step_goes : (f : Function) → CallKeeps code k marks None (called f p x) fs w → CallsKeep code k marks (Some f) fs w → IsWhole (kinds code f) x → Stands d (called f p x) fs w → Goes d (act_on code (fetch code f p) (called f p x) fs w)
  step_goes (compiled m) own rest whole h = compiled_goes code d opened k marks w m p x fs w h rest (code.op_at m p) refl
  step_goes end_catch own rest whole h = catch_goes code d opened k marks w x fs w p own.gone.0 h rest
  step_goes terminating own rest whole h = ending_goes code d opened k marks w x fs w p h
  step_goes call_unexpected own rest whole h = passing_goes code d opened k marks w x fs w rest (begins own rest whole) p h

pub step_keeps : (marks : Marks) (code : Code) (k : Carrying) (d : Depths) (steps : ℕ) (st next : State) → CodeFits marks.known code k → CodeOpens code d → StandsIn marks code k steps st → StateOpens d st → step code st ≡ goes_to next → StateOpens d next
step_keeps marks code k d steps st next fits opened stands h e =
    subst (Goes d) e
    (step_goes marks code k d opened fits.carries steps st.top.place st.top.frame st.frames st.world stands.lives stands.world st.top.function stands.calls.0 stands.calls.1 stands.whole.0 h)

pub steps_keep_handlers : StepsKeepHandlers
steps_keep_handlers r k d steps st next fits opened stands h e = step_keeps (unmarked (known_in r)) (code_of (unit_of r)) k d steps st next fits opened stands h e

pub first_opens : FirstOpens
first_opens u d input replies opened = let first = opened.first u.main in (0, record { few = omega (arith, first); stopped = tt; waits = tt; goes_on = tt }, tt)

module _ (r : Regions) (k : Carrying) (d : Depths) (fits : CodeFits (known_in r) (code_of (unit_of r)) k) (opened : CodeOpens (code_of (unit_of r)) d) where
  abbrev code : Code
  code = code_of (unit_of r)

  leads_keep : (n before : ℕ) (st next : State) → StandsIn (unmarked (known_in r)) code k before st → StateOpens d st → Leads code n st (goes_to next) → StateOpens d next
  leads_keep zero before st next stands h e = let same : next ≡ st = cc e in subst (StateOpens d) (sym same) h
  leads_keep (suc n) before st next stands h e =
      go (step code st) refl e (λ middle here more. leads_keep n (before + 1) middle next (steps_stand r k before st middle fits stands here) (steps_keep_handlers r k d before st middle fits opened stands h here) more)
    where
      go : (x : Next) → step code st ≡ x → LeadsOn n (λ m. Leads code n m (goes_to next)) (goes_to next) x → ((middle : State) → step code st ≡ goes_to middle → Leads code n middle (goes_to next) → StateOpens d next) → StateOpens d next
      go (goes_to middle) i j rest = rest middle i j
      go (finishes f w) i j rest = absurd (cc j.1)

pub leads_open : LeadsOpen
leads_open r k d before n st next fits opened stands h e = leads_keep r k d fits opened n before st next stands h e

pub runs_open : RunsOpen
runs_open r k d input replies n st fits opened given e =
    let first = first_state (unit_of r) input replies in
    leads_open r k d 0 n first st fits opened (first_states_stand r k input replies fits given) (first_opens (unit_of r) d input replies opened) e

-- ---- what was stopped

stopped_there : (f : Function) (a : Activation) (older : ℕ) (w : World) → f ≡ call_unexpected → 1 ≤ a.place → a.place ≤ 15 → KeepsStopped f a older w → IsStopped a older w
stopped_there (compiled n) a older w e first last h = absurd (cc e)
stopped_there end_catch a older w e first last h = absurd (cc e)
stopped_there terminating a older w e first last h = absurd (cc e)
stopped_there call_unexpected a older w e first last h = h first last

pub runs_with_stopped : RunsWithStopped
runs_with_stopped d st h e first last = (h.0, stopped_there st.top.function st.top h.0 st.world e first last h.1.stopped)

pub returns_to_stopped : ReturnsToStopped
returns_to_stopped d st n a fs h top below e =
    let it = subst (λ xs. HandlersStand d (compiled n) xs h.0 st.world) below (subst (λ f. HandlersStand d f st.frames h.0 st.world) top h.2) in
    let here = it.1.waits e in
    (here, it.0, stopped_there a.function a it.0 st.world e (omega (arith, here)) (omega (arith, here)) it.1.stopped)
