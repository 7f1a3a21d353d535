-- What comes out of an unexpected handler is allowed, in a whole run: it is thrown again.
use Rattle.std.proofs.Common.{◌≡◌, ◌∙◌, refl, sym, ap, subst, arith, ℕ, ◌+◌, ◌==◌, pos, true, List, [], ◌∷◌, Option, Some, None, if◌then◌else◌}
use Rattle.meaning_forms.specs.World.{Installed}
use Rattle.run_items.specs.declared.item.Item.{Item}
use Rattle.run_items.specs.declared.item.Item.TheVariants.{Enter}
use Rattle.rv64_isa.specs.Step as isa
use Rattle.cxa_runtime.specs.World as abi
use Rattle.eh_run.specs.Program.{program_of}
use Rattle.region_forms.specs.Caught.{flown, entered_on}
use Rattle.region_forms.specs.Effect.{entered}
use Rattle.region_forms.specs.Form.{rethrow}
use Rattle.region_forms.specs.Lives.{is_built}
use Rattle.region_forms.specs.World.{World, Frame, exception_type, type_at}
use Rattle.linear_forms.specs.Search.{found_above}
use Rattle.linear_forms.specs.Stub.{call_unexpected}
use Rattle.linear_forms.specs.Activation.{Activation, State, Code, Next, goes_to, finishes}
use Rattle.linear_forms.specs.Machine.{step}
use Rattle.flight_homes.specs.Keeps.{Carrying, TravelsAgain}
use Rattle.linear_invariant.specs.Handled.{Unhandled}
use Rattle.linear_invariant.specs.Held.{NoneHolds}
use Rattle.linear_invariant.proofs.Asked.{none_gone, leaves_are_asked}
use Rattle.linear_invariant.proofs.Lists.{few_entered, few_flown, unhandled_again}
use Rattle.machine_forms.specs.Registers.{sp}
use Rattle.machine_simulation.specs.Plan.{Plan}
use Rattle.machine_simulation.specs.Calls.{stack_end, frame_of, open_bytes}
use Rattle.machine_raises.specs.Throws.{HasAim}
use Rattle.stack_bounds.specs.Taken.{StacksHoldCalls}
use Rattle.unexpected_calls.specs.Allowed.{AllowedIsThrown}
use Rattle.unexpected_calls.specs.Doomed.{AllowedIsDoomed}
use Rattle.unexpected_calls.specs.TerminateOverflow.{TerminateHandlersOverflow}
use Rattle.unexpected_calls.proofs.Doomed.{entered_newest}
use Rattle.whole_runs.proofs.Single.{made_by_turns}
use Rattle.step_law.proofs.At.{few_pad_words}
use Rattle.step_law.specs.Facts.{regions_for, code_for}
use Rattle.step_law.specs.Rows.{Run, FollowsIn}
use Rattle.step_law.specs.Thrown.{ComesOut, IsAnswered, AllowedFollows}
use Rattle.step_law.proofs.Aligned.{itself}
use Rattle.step_law.proofs.AllowedLost.{raising, own_allowed, raises_it, allowed_lost}
use Rattle.step_law.proofs.Calm.{CalmSteps}
use Rattle.step_law.proofs.ComesOut.{same_code, inv, unheld, number, thrown, list_answers, quiet_world, nothing, stays, paid, checks_pay}
use Rattle.step_law.proofs.Exceptions.{entered_alone}
use Rattle.step_law.proofs.Flying.{own_whole}
use Rattle.step_law.proofs.StoppedHere.{same_test}
use Rattle.step_law.proofs.Keeping.{kept_by_turns}
use Rattle.step_law.proofs.OwnSteps.{own_calm_steps, own_reach}
use Rattle.step_law.proofs.RaisedOut.{MayTravelOut, no_pad, inv_raising, on, lands, pad_follows}
use Rattle.step_law.proofs.Unshown.{shown_later}

-- behind its first pad call_unexpected itself has nothing that calls hold
pub none_at_first : (k : Carrying) (a : Activation) (fs : List Activation) (e : ℕ) → a.function ≡ call_unexpected → a.place ≡ 4 → NoneHolds k (Some call_unexpected) fs e → NoneHolds k None (a ∷ fs) e
none_at_first k a fs e is place none =
    subst (λ g. NoneHolds k None (record { function = g; place = a.place; frame = a.frame } ∷ fs) e) (sym is)
    (subst (λ p. NoneHolds k None (record { function = call_unexpected; place = p; frame = a.frame } ∷ fs) e) (sym place) (refl, refl, none))

-- where the frame of call_unexpected begins, whatever it is at
pub out_whole : (x : Run) (q : Plan) (before : ℕ) (st : State) (w : abi.World) (e d : ℕ) → ComesOut x q before st w e d → (place : ℕ) (frame : Frame) → isa.x w.hart sp + open_bytes q (record { function = call_unexpected; place = place; frame = frame } ∷ st.frames) ≡ stack_end
out_whole x q before st w e d out place frame =
    let whole = own_whole q call_unexpected st w out.rests.rests.back out.rests.rests.runs refl out.rests.rests.memory in
    let same = ap (frame_of q.unit q.hidden) out.rests.rests.runs in
    omega (arith, whole, same)

module _ (x : Run) (q : Plan) (before e d type : ℕ) (destructor : Option ℕ) (kept : Installed) (st : State) (w : abi.World) (a : IsAnswered x q before st w e d type destructor kept 0) where
  abbrev code : Code
  code = code_for x.program

  abbrev there : State
  there = raising x q before e d type destructor kept st w a

  abbrev items : List Item
  items = Enter e ∷ []

  own : CalmSteps code 4 st there
  own = own_calm_steps code 4 st there (own_allowed x q before e d type destructor kept st w a)

  none : NoneHolds x.carrying None (st.top ∷ st.frames) e
  none = none_at_first x.carrying st.top st.frames e a.out.rests.rests.runs a.out.rests.place (unheld x q before st w e d a.out a.few type destructor kept a.native a.may)

  type_is : type_at there.world e ≡ Some type
  type_is = ap exception_type a.native

  module _ (c : ℕ) (found_it : found_above code (type_at there.world e) (there.top ∷ there.frames) ≡ Some c) where
    again : TravelsAgain e (flown e (entered_on e st.world.caught))
    again =
        let n = entered_newest e st.world.caught in
        let asked = leaves_are_asked (regions_for x.program) x.carrying (a.out.here.stands.steps + 4) there n.entry n.others a.out.here.facts.fits
        (inv_raising x q before st w a.out.here.facts a.out.here.stands e none 4 there own (sym a.out.rests.rests.runs) refl rethrow refl e there.world (raises_it x q before e d type destructor kept st w a) c found_it) n.is in
        let alone : Unhandled e n.others = subst (λ k. Unhandled k n.others) n.number asked.once in
        let self : (n.entry.number == e) ≡ true = ap (λ k. k == e) n.number ∙ same_test e in
        subst (λ es. TravelsAgain e (flown e es)) (sym n.is) (subst (λ b. TravelsAgain e ((if b then record n.entry { again = true } else n.entry) ∷ n.others)) (sym self) ((λ same. refl), unhandled_again e n.others alone))

    may : MayTravelOut there e there.world
    may = record {
      can = ap is_built a.native;
      whole = none_gone x.carrying (Some call_unexpected) st.frames e (unheld x q before st w e d a.out a.few type destructor kept a.native a.may);
      again = again;
    }

    lands_there : AllowedIsThrown → (next : State) → step code there ≡ goes_to next → FollowsIn x before st w
    lands_there run next goes =
        let out = thrown x q before st w e d a.out a.few type destructor kept a.native a.may in
        let j = number x q before st w e d a.out a.few type destructor kept a.native a.may in
        let says = list_answers x q before st w e d a.out a.few type destructor kept a.native a.may (pos 0) a.says in
        let same = same_code x q before st w e d a.out in
        let going = on x q before st w a.out.here.facts a.out.here.stands e none 4 there own (sym a.out.rests.rests.runs) refl rethrow refl e there.world (raises_it x q before e d type destructor kept st w a) c found_it next goes in
        let lands_it = lands x q before st w a.out.here.facts a.out.here.stands e none 4 there own (sym a.out.rests.rests.runs) refl rethrow refl e there.world (raises_it x q before e d type destructor kept st w a) c found_it next goes in
        let ran = run x.image q e d type destructor kept j st next w out says (ap (λ k. step k there) same ∙ goes) going (a.out.here.facts.pads q a.out.here.stands.unit) (a.out.here.facts.filters q a.out.here.stands.unit) in
        let raised = ran.2 in
        let found_there : found_above code (type_at there.world e) (there.top ∷ there.frames) ≡ Some raised.depth =
        subst (λ (y : World). found_above code (type_at y e) (there.top ∷ there.frames) ≡ Some raised.depth) lands_it.world (subst (λ k. found_above k (type_at next.world e) (there.top ∷ there.frames) ≡ Some raised.depth) same raised.found) in
        let depths : Some raised.depth ≡ Some c = sym found_there ∙ found_it in
        let depth : raised.depth ≡ c = cc depths in
        let comes_to = raised.ran in
        let aim : HasAim q comes_to.after e c (isa.x w.hart sp) (there.top ∷ there.frames) = subst (λ k. HasAim q comes_to.after e k (isa.x w.hart sp) (there.top ∷ there.frames)) depth comes_to.holds.1 in
        let made = made_by_turns (program_of x.image).image x.pick comes_to.turns w comes_to.after items comes_to.runs in
        let later = shown_later (program_of x.image).image x.pick 7 w (quiet_world x q before st w e d a.out) (nothing x q before st w e d a.out) comes_to.turns comes_to.after (Enter e) [] made in
        let pays = paid x q before st w e d a.out a.few type destructor kept a.native a.may 5 (omega arith) in
        let once = few_entered e st.world.caught in
        let flown_so = few_flown e (entered e st.world).caught in
        pad_follows x q before st w a.out.here.facts a.out.here.stands e none 4 there own (sym a.out.rests.rests.runs) refl rethrow refl e there.world (raises_it x q before e d type destructor kept st w a) c found_it next goes may 1
        (omega (arith, once, flown_so)) refl q (record { frames = itself q; base = refl; tables = refl })
        (own_reach x q a.out.here.facts 4 a.out.here.stands.steps st there (inv x q before st w e d a.out) a.out.here.stands.reaches (own_allowed x q before e d type destructor kept st w a)) refl
        comes_to.turns comes_to.after items (λ y other. entered_alone e y other) (kept_by_turns (program_of x.image).image comes_to.turns w comes_to.after items comes_to.runs) comes_to.holds.0 (isa.x w.hart sp) aim
        (out_whole x q before st w e d a.out there.top.place there.top.frame) (omega (arith, later)) made (omega (arith, later, pays))
        (checks_pay x q before st w e d a.out comes_to.turns (omega (arith, comes_to.few, few_pad_words next.top.function))) (stays x q before st w e d a.out a.few type destructor kept a.native a.may 5 (omega arith)) ran.1

    follows_there : AllowedIsThrown → FollowsIn x before st w
    follows_there run = by (step code there) refl
      where
        by : (y : Next) → step code there ≡ y → FollowsIn x before st w
        by (goes_to next) h = lands_there run next h
        by (finishes f u) h = no_pad x q before st w a.out.here.facts a.out.here.stands e none 4 there own (sym a.out.rests.rests.runs) refl rethrow refl e there.world (raises_it x q before e d type destructor kept st w a) c found_it f u h
            (omega arith) (stays x q before st w e d a.out a.few type destructor kept a.native a.may 5 (omega arith))

  follows : AllowedIsThrown → AllowedIsDoomed → TerminateHandlersOverflow → StacksHoldCalls → FollowsIn x before st w
  follows run dooms over holds = by (found_above code (type_at there.world e) (there.top ∷ there.frames)) refl
    where
      by : (y : Option ℕ) → found_above code (type_at there.world e) (there.top ∷ there.frames) ≡ y → FollowsIn x before st w
      by (Some c) some = follows_there c some run
      by None lost = allowed_lost x q before e d type destructor kept st w a
          (subst (λ k. found_above k (Some type) (there.top ∷ there.frames) ≡ None) (sym (same_code x q before st w e d a.out)) (ap (λ t. found_above code t (there.top ∷ there.frames)) (sym type_is) ∙ lost)) dooms over holds

pub allowed_follows : AllowedIsThrown → AllowedIsDoomed → TerminateHandlersOverflow → StacksHoldCalls → AllowedFollows
allowed_follows run dooms over holds x q before e d type destructor kept st w a = follows x q before e d type destructor kept st w a run dooms over holds
