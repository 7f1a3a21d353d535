-- What comes out of what is `noexcept` is entered, and terminate is called, out of which nothing comes.
use Rattle.std.proofs.Common.{◌≡◌, ℕ, ℤ, Bool, List, [], ◌∷◌, Option, refl, sym, ap, subst, ◌∙◌}
use Rattle.std.specs.Prelude.{if◌then◌else◌}
use Rattle.cxx_ast.specs.declared.name.Builtin.TheVariants.{Terminate}
use Rattle.meaning_forms.specs.World.{World as SourceWorld, Reference}
use Rattle.meaning_forms.specs.Context.{Context as SourceContext, handling, with_travelling}
use Rattle.meaning_forms.specs.Frame.{Frame as SourceFrame}
use Rattle.meaning_forms.specs.Outcome.{End, Result as SourceResult, done as source_done, stopped as source_stopped, thrown, cancelled, ended, undefined, out_of_turns, deep, Action as SourceAction, Flow as SourceFlow, continued as source_continued}
use Rattle.meaning_forms.specs.Running.{Running as SourceRunning, Argument as SourceArgument, Callee}
use Rattle.meaning_forms.specs.Terminate.{terminate as source_terminate}
use Rattle.meaning_forms.specs.Handler.{enter as source_enter}
use Rattle.meaning_forms.specs.Specification.{end_noexcept}
use Rattle.region_forms.specs.Form.{call as called, builtin, no_arguments, leave_handler, enter, op, protect, in_order, RegionList, regions_from}
use Rattle.region_forms.specs.Laws.{CaughtListFollows}
use Rattle.region_forms.specs.World.{address_word, object_address, exception_of, exception_in_slot, address_in}
use Rattle.region_forms.specs.Outcome.{State, Context, Result, stopped, Flow, normal, pure, continued}
use Rattle.region_forms.specs.Ending.{Running, terminate}
use Rattle.region_forms.specs.LowerExpression.{Lowering, exception_slot}
use Rattle.region_forms.specs.LowerStatement.{variable_slot}
use Rattle.region_forms.specs.LowerProgram.{ending}
use Rattle.region_forms.specs.Meaning.{operation, outwards, followed, with_object}
use Rattle.linear_simulation.specs.Watched.{watched_all as regions, watched_protect}
use Rattle.region_simulation.specs.Places.{Places}
use Rattle.region_simulation.specs.Stands.{Stands, context_of}
use Rattle.region_simulation.specs.Alike.{Alike}
use Rattle.region_simulation.specs.Flows.{FlowAgrees}
use Rattle.region_simulation.specs.Expressions.{source_running}
use Rattle.region_simulation.proofs.Storing.{same_number}
use Rattle.region_exceptions.specs.Same.{RunAlike}
use Rattle.region_exceptions.specs.Ends.{EndsAlike}
use Rattle.region_exceptions.specs.Raises.{Never}
use Rattle.region_exceptions.specs.Scopes.{Any}
use Rattle.region_exceptions.specs.Barred.{StaysInside}
use Rattle.region_exceptions.specs.Tries.{CatchesAlike}
use Rattle.region_exceptions.proofs.Standing.{stands_framed}
use Rattle.region_exceptions.proofs.Ends.{ends_out, never_on, terminates as terminates_out}
use Rattle.region_exceptions.proofs.Entering.{enters_alike}

-- what leaves every end for good as it is
record LeavesEnds {B C : Type 0} (f : Result B → Result C) : Type 0 where
  at_end : (x : End) (s : State) → f (stopped (ended x) s) ≡ stopped (ended x) s
  at_turns : (s : State) → f (stopped out_of_turns s) ≡ stopped out_of_turns s
  too_deep : (s : State) → f (stopped deep s) ≡ stopped deep s

-- ends alike still do behind it
ends_after : {A B C : Type 0} (f : Result B → Result C) → LeavesEnds f → (x : SourceResult A) (y : Result B) → EndsAlike x y → EndsAlike x (f y)
ends_after f h (source_done v w) y ends = absurd ends
ends_after f h (source_stopped (thrown e) w) y ends = absurd ends
ends_after f h (source_stopped (cancelled n) w) y ends = absurd ends
ends_after f h (source_stopped (ended x) w) y (s, is, seen) = (s, ap f is ∙ h.at_end x s, seen)
ends_after f h (source_stopped undefined w) y ends = tt
ends_after f h (source_stopped out_of_turns w) y (s, is, seen) = (s, ap f is ∙ h.at_turns s, seen)
ends_after f h (source_stopped deep w) y (s, is, seen) = (s, ap f is ∙ h.too_deep s, seen)

module _ (laws : CaughtListFollows) (l : Lowering) (own : Option ℕ) (gives : Bool) (call : Callee → Reference → List SourceArgument → SourceContext → SourceAction ℤ) (b : Running)
    (v : SourceFrame) (c : SourceContext) (same : RunAlike l.layout (source_running l call) b) (n i d : ℕ) where
  abbrev a : SourceRunning
  a = source_running l call

  abbrev k : ℕ
  k = variable_slot l n

  abbrev X : ℕ
  X = exception_slot l

  -- the call of terminate, behind which the handler is left
  abbrev last : RegionList
  last = regions_from (protect (in_order (op (called (builtin Terminate) no_arguments) ∷ [])) leave_handler ∷ [])

  module _ (e : ℕ) (at : Places) (w0 w : SourceWorld) (s : State) where
    abbrev ctx : Context
    ctx = context_of w.open_calls c

    -- what would be done behind the call
    abbrev behind : Result (Unit {0}) → Result Flow
    behind y =
        continued (continued (watched_protect b leave_handler ctx (continued (continued (continued y (λ u. pure normal)) (followed (pure normal))) (λ flow. pure (outwards flow))))
        (λ flow. pure (outwards flow))) (followed (pure normal))

    behind_leaves : LeavesEnds behind
    behind_leaves = record { at_end = λ x t. refl; at_turns = λ t. refl; too_deep = λ t. refl }

    -- it ends, where the exception was entered
    terminated : (there : Places) (w2 : SourceWorld) (s2 : State) → Stands l.layout l.program there (handling e c) w2 s2 → w2.open_calls ≡ w.open_calls
        → Alike l.layout l.program at k c w0 s Never (source_terminate {A = SourceFlow} a (handling e c) w2) (regions b last ctx s2)
    terminated there w2 s2 standing opened =
        let ends : EndsAlike {A = SourceFlow} {B = Unit {0}} (source_terminate a (handling e c) w2) (terminate b ctx s2) =
        subst (λ m. EndsAlike {A = SourceFlow} {B = Unit {0}} (source_terminate a (handling e c) w2) (terminate b (context_of m c) s2)) opened
        (terminates_out l.layout a b same SourceFlow (Unit {0}) there (handling e c) w2 s2 standing) in
        ends_out l.layout a b same Never at k c w0 s (source_terminate {A = SourceFlow} a (handling e c) w2) (regions b last ctx s2)
        (ends_after behind behind_leaves (source_terminate {A = SourceFlow} a (handling e c) w2) (terminate {A = Unit {0}} b ctx s2) ends)

    -- so it is however the entry comes out
    entered : (x : SourceResult (Unit {0})) (y : Result (Unit {0})) → StaysInside x → Alike l.layout l.program at k (handling e c) w (with_object X e s) Any x y
        → Alike l.layout l.program at k c w0 s Never (source_continued x (λ u. source_terminate {A = SourceFlow} a (handling e c)))
        (continued (continued y (λ u. pure normal)) (followed (regions b last ctx)))
    entered (source_done u w2) y inside (u2, s2, is, (h, any)) =
        subst (λ z. Alike l.layout l.program at k c w0 s Never (source_terminate {A = SourceFlow} a (handling e c) w2) (continued (continued z (λ u. pure normal)) (followed (regions b last ctx)))) (sym is)
        (terminated h.places w2 s2 h.stands h.open_calls)
    entered (source_stopped (thrown f) w2) y inside h = absurd inside
    entered (source_stopped (cancelled q) w2) y inside h = absurd inside
    entered (source_stopped undefined w2) y inside h = tt
    entered (source_stopped (ended z) w2) y inside (s2, is, seen) = (s2, ap (λ r. continued (continued r (λ u. pure normal)) (followed (regions b last ctx))) is, seen)
    entered (source_stopped out_of_turns w2) y inside (s2, is, seen) = (s2, ap (λ r. continued (continued r (λ u. pure normal)) (followed (regions b last ctx))) is, seen)
    entered (source_stopped deep w2) y inside (s2, is, seen) = (s2, ap (λ r. continued (continued r (λ u. pure normal)) (followed (regions b last ctx))) is, seen)

  pub ending_catches : CatchesAlike l own gives b v c n i d (end_noexcept (source_running l call) c) (ending l)
  ending_catches e at w0 w s stands inside fresh can =
      let s1 = with_object X e s in
      let ctx = context_of w.open_calls c in
      let slot : s1.frame.slots X ≡ address_word (object_address e) = ap (λ z. if z then address_word (object_address e) else s.frame.slots X) (same_number X) in
      let address : exception_in_slot s1.frame X ≡ e = ap (λ x. exception_of (address_in x)) slot in
      let enters = enters_alike laws l.layout a b same at k c w s1 e X (stands_framed l.layout l.program at (with_travelling e c) w s s1.frame stands) fresh address in
      never_on l.layout a b same (FlowAgrees l gives i d) at k c w0 s (end_noexcept {A = SourceFlow} a c e w)
      (continued (continued (operation b (enter X) ctx s1) (λ u. pure normal)) (followed (regions b last ctx))) (λ flow. pure (outwards flow))
      (entered e at w0 w s (source_enter a e c w) (operation b (enter X) ctx s1) enters.0 enters.1)
