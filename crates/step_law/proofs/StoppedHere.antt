-- Where a specification of a compiled function has stopped an exception: what is known there, as the laws of call_unexpected ask.
use Rattle.std.proofs.lemmas.Bool.Decides.{nat_tests}
use Rattle.std.proofs.Common.{◌≡◌, ◌∙◌, sym, ap, subst, arith, ℕ, ◌<◌, ◌^◌, ◌==◌, true, List, ◌∷◌, length, Option, Some, None, if◌then◌else◌}
use Rattle.meaning_forms.specs.Class.{contains}
use Rattle.meaning_forms.specs.World.{Installed}
use Rattle.cxa_runtime.specs.World as abi
use Rattle.region_forms.specs.Lives.{may_enter}
use Rattle.region_forms.specs.World.{flying, native, address_in, exception_of, exception_in_slot, exception_at}
use Rattle.linear_forms.specs.Defined.{RunsAt}
use Rattle.linear_forms.specs.Linear.{unexpected}
use Rattle.linear_forms.specs.Stub.{compiled, linear}
use Rattle.linear_forms.specs.Activation.{Activation, State, Code}
use Rattle.flight_homes.specs.Keeps.{Carried, carried_in}
use Rattle.flight_homes.specs.Lives.{known_in}
use Rattle.linear_invariant.specs.Asked.{PassAsked, FlightAsked}
use Rattle.linear_invariant.specs.Calls.{Marks, unmarked, WordGoes, FlightGoes}
use Rattle.linear_invariant.specs.Stands.{StandsIn}
use Rattle.linear_invariant.proofs.Asked.{passes_are_asked}
use Rattle.kept_selectors.proofs.Targets.{stopped_are_there}
use Rattle.machine_simulation.specs.Plan.{Plan}
use Rattle.machine_simulation.specs.Exceptions.{live_in}
use Rattle.machine_simulation.proofs.LiveThere.{built_there}
use Rattle.machine_exceptions.specs.Enters.{MayEnter}
use Rattle.machine_raises.specs.Targets.{target_call}
use Rattle.unexpected_calls.specs.Begins.{AtStopped}
use Rattle.unexpected_calls.proofs.Answer.{tables_are_low}
use Rattle.step_law.specs.Facts.{regions_for, code_for}
use Rattle.step_law.specs.Standing.{HeaderAims, aims}
use Rattle.step_law.specs.Rows.{Run, IsAt}
use Rattle.step_law.proofs.At.{fetches, in_unit, is_static, less}
use Rattle.step_law.proofs.Exceptions.{gone_destroyed, handlers_open, word_slot}
use Rattle.step_law.proofs.Keeping.{unmarked_stands}
use Rattle.step_law.proofs.Raises.{is_running}

-- a number is the same as itself
pub same_test : (n : ℕ) → (n == n) ≡ true
same_test n = grind (arith, nat_tests)

module _ (x : Run) (q : Plan) (before n o s type : ℕ) (d : Option ℕ) (kept : Installed) (st : State) (w : abi.World) (here : IsAt x q before n (unexpected o s) st w) (few : before < 2 ^ 40)
    (e t : ℕ) (word : st.top.frame.slots o ≡ flying e t) (is : exception_at st.world e ≡ native type d kept) (may : may_enter st.world e ≡ true) where
  abbrev code : Code
  code = code_for x.program

  abbrev open_calls : List Activation
  open_calls = st.top ∷ st.frames

  pub inv_stopped : StandsIn (unmarked (known_in (regions_for x.program))) code x.carrying here.stands.steps st
  inv_stopped = unmarked_stands x.program x.image x.carrying x.tables q before st w here.stands

  pub runs_stopped : RunsAt code st (linear (unexpected o s))
  runs_stopped = fetches x q before n (unexpected o s) st w here

  pub asked_stopped : PassAsked (known_in (regions_for x.program)) x.carrying st o s
  asked_stopped = passes_are_asked (regions_for x.program) x.carrying here.stands.steps o s st here.facts.fits inv_stopped runs_stopped

  pub flight_stopped : FlightAsked (known_in (regions_for x.program)) x.carrying st e t
  flight_stopped = asked_stopped.asked e t word

  -- it has come to its target, this call, whose function's exception table its header has
  there : t ≡ length st.frames
  there = stopped_are_there (regions_for x.program) x.carrying here.stands.steps n o s e t st here.facts.fits inv_stopped here.stands.selectors here.runs runs_stopped word

  target_here : target_call t open_calls ≡ Some (compiled n)
  target_here =
      let same : (length st.frames == t) ≡ true = subst (λ k. (length st.frames == k) ≡ true) (sym there) (same_test (length st.frames)) in
      ap (λ b. if b then Some st.top.function else target_call t st.frames) same ∙ ap (λ f. Some f) here.runs

  carried_word : HeaderAims q open_calls w e t
  carried_word =
      let at_pass = here.facts.fits.carries.passes n st.top.place o s (in_unit x q before n (unexpected o s) st w here) in
      let goes = subst (λ f. FlightGoes marks code st.top st.frames (carried_in x.carrying f st.top) st.world) here.runs here.stands.stands.calls.0.carries in
      let some = subst (λ b. FlightGoes marks code st.top st.frames (if b then Some carried_here else None) st.world) at_pass.0 goes in
      (subst (λ y. WordGoes marks code st.top st.frames carried_here y st.world) (ap st.top.frame.slots (sym at_pass.1) ∙ word) some).1
    where
      marks : Marks
      marks = aims x.program q open_calls w

      carried_here : Carried
      carried_here = record {
        word = st.top.frame.slots (x.carrying.object n);
        home = x.carrying.home n st.top.place;
        number = st.top.frame.slots (x.carrying.selector n);
        left = x.carrying.left n st.top.place;
      }

  pub lives_stopped : live_in st.world.live e ≡ Some (native type d kept)
  lives_stopped = built_there st.world.live e flight_stopped.can ∙ ap (λ y. Some y) is

  may_enter_it : MayEnter st.frames st.world e
  may_enter_it =
      let handlers = handlers_open st.world.caught e in
      let turns_few = here.stands.few in
      record { whole = ap (λ es. contains es e) (gone_destroyed st.frames) ∙ flight_stopped.whole; few = omega (arith, handlers, turns_few, few) }

  pub at_stopped : AtStopped q n o s e asked_stopped.selector type d kept st w
  at_stopped =
      let static = is_static x q before n (unexpected o s) st w here in
      record {
        at = record {
          runs = here.runs;
          there = here.there;
          object = record { inside = static.0.inside; near = static.0.near; is = ap address_in word };
          word = word_slot x q before n (unexpected o s) st w here s static.1;
          selector = asked_stopped.number;
          exception = native type d kept;
          live = lives_stopped;
        };
        native = lives_stopped;
        defined = may;
        may = may_enter_it;
        slot = carried_word.slot;
        has = record { header = carried_word.header; there = carried_word.way.there; number = carried_word.number };
        table = carried_word.table n target_here;
        near = tables_are_low x.image q n w.hart (is_running x q before n (unexpected o s) st w here) (subst (λ u. n < length u.functions) (sym here.stands.unit) (less x q before n (unexpected o s) st w here));
      }

  pub held_stopped : exception_in_slot st.top.frame o ≡ e
  held_stopped = ap (λ y. exception_of (address_in y)) word
