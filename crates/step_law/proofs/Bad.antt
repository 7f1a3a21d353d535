-- What comes out of an unexpected handler is not allowed, but bad_exception is listed, in a whole run: one is thrown in its place.
use Rattle.std.proofs.Common.{◌≡◌, ◌∙◌, refl, sym, ap, subst, arith, ℕ, pos, Bool, true, false, List, [], ◌∷◌, Option, Some, None}
use Rattle.std.proofs.lemmas.Bool.Decides.{nat_tests}
use Rattle.meaning_forms.specs.World.{Installed}
use Rattle.run_items.specs.declared.item.Item.{Item}
use Rattle.run_items.specs.declared.item.Item.TheVariants.{Enter, Make}
use Rattle.rv64_isa.specs.Step as isa
use Rattle.cxa_runtime.specs.World as abi
use Rattle.eh_run.specs.Program.{program_of}
use Rattle.region_forms.specs.Ending.{bad_row}
use Rattle.region_forms.specs.Effect.{is_full}
use Rattle.region_forms.specs.Form.{throw}
use Rattle.region_forms.specs.Lives.{is_built}
use Rattle.region_forms.specs.World.{World, exception_type, type_at}
use Rattle.linear_forms.specs.Defined.{IsDefined}
use Rattle.linear_forms.specs.Search.{found_above}
use Rattle.linear_forms.specs.Activation.{State, Code, Next, goes_to, finishes}
use Rattle.linear_forms.specs.Machine.{step}
use Rattle.flight_homes.specs.Lives.{known_in}
use Rattle.linear_invariant.specs.Asked.{ThrowAsked}
use Rattle.linear_invariant.specs.Held.{NoneHolds}
use Rattle.linear_invariant.proofs.Lists.{few_entered, few_flown, unhandled_again, again_flown}
use Rattle.linear_invariant.proofs.Worlds.{But}
use Rattle.machine_forms.specs.Registers.{sp}
use Rattle.machine_simulation.specs.Plan.{Plan}
use Rattle.machine_raises.specs.Throws.{HasAim}
use Rattle.stack_bounds.specs.Taken.{StacksHoldCalls}
use Rattle.unexpected_calls.specs.Bad.{BadIsThrown}
use Rattle.unexpected_calls.specs.BadDoomed.{BadIsDoomed}
use Rattle.unexpected_calls.specs.Refused.{UnexpectedRefuses}
use Rattle.unexpected_calls.specs.TerminateOverflow.{TerminateHandlersOverflow}
use Rattle.whole_runs.specs.Turns.{Made}
use Rattle.step_law.proofs.At.{few_pad_words}
use Rattle.step_law.specs.Facts.{regions_for, code_for}
use Rattle.step_law.specs.Rows.{Run, FollowsIn}
use Rattle.step_law.specs.Thrown.{IsAnswered, BadFollows}
use Rattle.step_law.proofs.Allowed.{none_at_first, out_whole}
use Rattle.step_law.proofs.BadLost.{chain, full_follows, bad_lost}
use Rattle.step_law.proofs.BadMade.{bad, raising, own_bad, v, bad_is, raises_bad, asked_bad, with_bad, reach_bad}
use Rattle.step_law.proofs.Calm.{CalmSteps}
use Rattle.step_law.proofs.ComesOut.{same_code, unheld, number, thrown, list_answers, quiet_world, nothing, stays, paid, checks_pay}
use Rattle.step_law.proofs.Keeping.{NotEntered, kept_by_picked}
use Rattle.step_law.proofs.RaisedOut.{MayTravelOut, no_pad, on, lands, pad_follows}
use Rattle.step_law.proofs.Unshown.{shown_later}

entered_and_made : (e b y : ℕ) → But e y → NotEntered (Enter e ∷ Make b ∷ []) y
entered_and_made e b y other = grind (arith, nat_tests, other)

module _ (x : Run) (q : Plan) (before e d type : ℕ) (destructor : Option ℕ) (kept : Installed) (st : State) (w : abi.World) (a : IsAnswered x q before st w e d type destructor kept 1) (free : is_full st.world ≡ false) where
  abbrev code : Code
  code = code_for x.program

  abbrev there : State
  there = raising x q before e d type destructor kept st w a free

  abbrev new : ℕ
  new = bad x q before e d type destructor kept st w a free

  abbrev world : World
  world = v x q before e d type destructor kept st w a free

  abbrev items : List Item
  items = Enter e ∷ Make new ∷ []

  own : CalmSteps code 7 st there
  own = own_bad x q before e d type destructor kept st w a free

  none : NoneHolds x.carrying None (st.top ∷ st.frames) e
  none = none_at_first x.carrying st.top st.frames e a.out.rests.rests.runs a.out.rests.place (unheld x q before st w e d a.out a.few type destructor kept a.native a.may)

  type_is : type_at world new ≡ Some bad_row
  type_is = ap exception_type (bad_is x q before e d type destructor kept st w a free)

  module _ (c : ℕ) (found_it : found_above code (type_at world new) (there.top ∷ there.frames) ≡ Some c) where
    may : IsDefined (step code there) → MayTravelOut there new world
    may defined =
        let asked : ThrowAsked (known_in (regions_for x.program)) x.carrying there 7 bad_row None = asked_bad x q before e d type destructor kept st w a free defined in
        record {
          can = ap is_built (bad_is x q before e d type destructor kept st w a free);
          whole = asked.has.whole;
          again = again_flown new new world.caught (unhandled_again new world.caught asked.unhandled);
        }

    lands_there : BadIsThrown → (next : State) → step code there ≡ goes_to next → FollowsIn x before st w
    lands_there run next goes =
        let out = thrown x q before st w e d a.out a.few type destructor kept a.native a.may in
        let j = number x q before st w e d a.out a.few type destructor kept a.native a.may in
        let says = list_answers x q before st w e d a.out a.few type destructor kept a.native a.may (pos 1) a.says in
        let same = same_code x q before st w e d a.out in
        let does = raises_bad x q before e d type destructor kept st w a free in
        let going = on x q before st w a.out.here.facts a.out.here.stands e none 7 there own (sym a.out.rests.rests.runs) refl (throw 7 bad_row None) refl new world does c found_it next goes in
        let lands_it = lands x q before st w a.out.here.facts a.out.here.stands e none 7 there own (sym a.out.rests.rests.runs) refl (throw 7 bad_row None) refl new world does c found_it next goes in
        let ran = run x.image x.pick q e d type destructor kept j st next w out says free (chain x q before e d type destructor kept st w a) (ap (λ k. step k there) same ∙ goes) going
        (a.out.here.facts.pads q a.out.here.stands.unit) (a.out.here.facts.filters q a.out.here.stands.unit) in
        let slot = ran.2 in
        let raised = ran.4 in
        let plan = with_bad x q before e d type destructor kept st w a free slot in
        let found_there : found_above code (type_at world new) (there.top ∷ there.frames) ≡ Some raised.depth =
        subst (λ (y : World). found_above code (type_at y new) (there.top ∷ there.frames) ≡ Some raised.depth) lands_it.world (subst (λ k. found_above k (type_at next.world new) (there.top ∷ there.frames) ≡ Some raised.depth) same raised.found) in
        let depths : Some raised.depth ≡ Some c = sym found_there ∙ found_it in
        let depth : raised.depth ≡ c = cc depths in
        let comes_to = raised.ran in
        let aim : HasAim plan comes_to.after new c (isa.x w.hart sp) (there.top ∷ there.frames) = subst (λ k. HasAim plan comes_to.after new k (isa.x w.hart sp) (there.top ∷ there.frames)) depth comes_to.holds.1 in
        let made : Made (program_of x.image).image x.pick comes_to.turns w comes_to.after items = record { run = comes_to.runs.run } in
        let later = shown_later (program_of x.image).image x.pick 7 w (quiet_world x q before st w e d a.out) (nothing x q before st w e d a.out) comes_to.turns comes_to.after (Enter e) (Make new ∷ []) made in
        let pays = paid x q before st w e d a.out a.few type destructor kept a.native a.may 8 (omega arith) in
        let once = few_entered e st.world.caught in
        let flown_so = few_flown new world.caught in
        pad_follows x q before st w a.out.here.facts a.out.here.stands e none 7 there own (sym a.out.rests.rests.runs) refl (throw 7 bad_row None) refl new world does c found_it next goes (may (subst IsDefined (sym goes) tt)) 1
        (omega (arith, once, flown_so)) refl plan (record { frames = record { unit = refl; hidden = refl }; base = refl; tables = refl }) (reach_bad x q before e d type destructor kept st w a free slot) refl
        comes_to.turns comes_to.after items (λ y other. entered_and_made e new y other) (kept_by_picked (program_of x.image).image x.pick comes_to.turns w comes_to.after items comes_to.runs) comes_to.holds.0 (isa.x w.hart sp) aim
        (out_whole x q before st w e d a.out there.top.place there.top.frame) (omega (arith, later)) made (omega (arith, later, pays))
        (checks_pay x q before st w e d a.out comes_to.turns (omega (arith, comes_to.few, few_pad_words next.top.function))) (stays x q before st w e d a.out a.few type destructor kept a.native a.may 8 (omega arith)) ran.1

    follows_there : BadIsThrown → FollowsIn x before st w
    follows_there run = by (step code there) refl
      where
        by : (y : Next) → step code there ≡ y → FollowsIn x before st w
        by (goes_to next) h = lands_there run next h
        by (finishes f u) h =
            no_pad x q before st w a.out.here.facts a.out.here.stands e none 7 there own (sym a.out.rests.rests.runs) refl (throw 7 bad_row None) refl new world (raises_bad x q before e d type destructor kept st w a free) c found_it f u h
            (omega arith) (stays x q before st w e d a.out a.few type destructor kept a.native a.may 8 (omega arith))

  follows : BadIsThrown → BadIsDoomed → TerminateHandlersOverflow → StacksHoldCalls → FollowsIn x before st w
  follows run dooms over holds = by (found_above code (type_at world new) (there.top ∷ there.frames)) refl
    where
      by : (y : Option ℕ) → found_above code (type_at world new) (there.top ∷ there.frames) ≡ y → FollowsIn x before st w
      by (Some c) some = follows_there c some run
      by None lost = bad_lost x q before e d type destructor kept st w a free
          (subst (λ k. found_above k (Some bad_row) (there.top ∷ there.frames) ≡ None) (sym (same_code x q before st w e d a.out)) (ap (λ t. found_above code t (there.top ∷ there.frames)) (sym type_is) ∙ lost)) dooms over holds

pub bad_follows : BadIsThrown → BadIsDoomed → UnexpectedRefuses → TerminateHandlersOverflow → StacksHoldCalls → BadFollows
bad_follows run dooms refuses over holds x q before e d type destructor kept st w a = by (is_full st.world) refl
  where
    by : (b : Bool) → is_full st.world ≡ b → FollowsIn x before st w
    by true full = full_follows x q before e d type destructor kept st w a full refuses over holds
    by false free = follows x q before e d type destructor kept st w a free run dooms over holds
