-- Handlers do the same: the entry, what is done while the exception is handled, and the leaving.
use Rattle.std.proofs.Common.{◌≡◌, ℕ, ◌+◌, ◌<◌, Bool, true, false, List, [], ◌∷◌, ◌++◌, refl, sym, ap, subst}
use Rattle.std.specs.Prelude.{◌==◌, ◌&&◌, not, if◌then◌else◌}
use Rattle.run_items.specs.declared.item.Item.TheVariants.{Enter}
use Rattle.meaning_forms.specs.Class.{some_of, contains}
use Rattle.meaning_forms.specs.World.{World as SourceWorld, exception_at as source_exception_at}
use Rattle.meaning_forms.specs.Context.{Context as SourceContext, handling, with_travelling}
use Rattle.meaning_forms.specs.Outcome.{Result as SourceResult, done as source_done, stopped as source_stopped, thrown, cancelled, ended, undefined, out_of_turns, deep, Action as SourceAction, Flow as SourceFlow, emit, continued as source_continued, ◌>>◌}
use Rattle.meaning_forms.specs.Running.{Running as SourceRunning}
use Rattle.meaning_forms.specs.Terminate.{terminate as source_terminate}
use Rattle.meaning_forms.specs.Handler.{is_foreign as source_is_foreign, enter as source_enter, while_handled}
use Rattle.region_forms.specs.Form.{Region, op, enter, protect, leave_handler, in_order, regions_from}
use Rattle.region_forms.specs.Laws.{CaughtListFollows}
use Rattle.region_forms.specs.World.{address_word, object_address, exception_of, exception_in_slot, address_in, exception_at}
use Rattle.region_forms.specs.Effect.{terminates, goes, entered, enters, only_where, is_foreign}
use Rattle.region_forms.specs.Outcome.{State, Context, normal, Result, continued, pure}
use Rattle.region_forms.specs.Ending.{Running, perform, terminate}
use Rattle.region_forms.specs.Meaning.{followed}
use Rattle.linear_simulation.specs.Watched.{watched as region, watched_all as regions}
use Rattle.region_forms.specs.LowerExpression.{Lowering, exception_slot}
use Rattle.region_simulation.specs.Places.{Places}
use Rattle.region_simulation.specs.Stands.{Stands, context_of}
use Rattle.region_simulation.specs.Alike.{Alike}
use Rattle.region_simulation.specs.Flows.{FlowAgrees}
use Rattle.region_simulation.proofs.Flowing.{single}
use Rattle.region_exceptions.specs.Fares.{CallsFare}
use Rattle.region_exceptions.specs.Same.{RunAlike}
use Rattle.region_exceptions.specs.Raises.{Never}
use Rattle.region_exceptions.specs.Handlers.{CanBeEntered, EmptyDestructor}
use Rattle.region_exceptions.proofs.Standing.{follows_changed}
use Rattle.region_exceptions.proofs.Ends.{ends_out, terminates as terminates_out}
use Rattle.region_exceptions.proofs.Entering.{entered_stands, tested}
use Rattle.region_exceptions.proofs.LettingGo.{handlers_end_alike}
use Rattle.region_exceptions.specs.Left.{CanBeLeft}
use Rattle.region_exceptions.proofs.Since.{follows_older, alike_since}
use Rattle.region_exceptions.proofs.Asked.{enterable}
use Rattle.region_forms.specs.Caught.{holds_other}

module _ (laws : CaughtListFollows) (l : Lowering) (gives : Bool) (i d : ℕ) (lt : i < d) (a : SourceRunning) (b : Running) (same : RunAlike l.layout a b) (fare : CallsFare a)
    (empty : EmptyDestructor l.layout a b) (at : Places) (k : ℕ) (c : SourceContext) (w : SourceWorld) (s : State) (e : ℕ)
    (stands : Stands l.layout a.program at (with_travelling e c) w s) (fresh : CanBeEntered c e)
    (act : SourceContext → SourceAction SourceFlow) (inner : List Region) where
  abbrev ctx : Context
  ctx = context_of w.open_calls c

  -- the world and the state behind the entry
  abbrev pub entered_world : SourceWorld
  entered_world = record w { items = w.items ++ Enter e ∷ [] }

  abbrev pub entered_state : State
  entered_state = record s { world = entered e s.world }

  pub entry_stands : Stands l.layout a.program at (handling e c) entered_world entered_state
  entry_stands = entered_stands l.layout a.program at c w s e stands fresh.rests fresh.front laws

  abbrev behind : List Region
  behind = protect (in_order inner) leave_handler ∷ []

  abbrev tests : Bool
  tests = source_is_foreign (source_exception_at w e) && some_of (λ f. not (f == e)) c.handled

  module _ (w0 : SourceWorld) (can : CanBeLeft (contains c.handled e) e at w0 w)
      (does : Alike l.layout a.program at k (handling e c) entered_world entered_state (FlowAgrees l gives i (d + 1)) (act (handling e c) entered_world)
      (region b (in_order inner) ctx entered_state)) where
    handled_on : Alike l.layout a.program at k c w0 s (FlowAgrees l gives i d) (while_handled a e c act entered_world) (regions b (regions_from behind) ctx entered_state)
    handled_on =
        let h = follows_older l.layout a.program at k w0 w s (handling e c) entered_world entered_state can.objects can.open_calls
        (follows_changed l.layout a.program at k (handling e c) w entered_world s (entered e s.world) refl refl refl entry_stands) in
        let still : CanBeLeft (contains c.handled e) e at w0 entered_world = record { objects = can.objects; open_calls = can.open_calls; new = can.new } in
        alike_since l.layout a.program (FlowAgrees l gives i d) at k c (handling e c) w0 s entered_world entered_state h (while_handled a e c act entered_world)
        (regions b (regions_from behind) ctx entered_state)
        (subst (λ z. Alike l.layout a.program at k c w0 entered_state (FlowAgrees l gives i d) (while_handled a e c act entered_world) z)
        (sym (single b (protect (in_order inner) leave_handler) ctx entered_state))
        (handlers_end_alike laws l gives i d lt a b same fare empty at k c w0 entered_world entered_state e entry_stands fresh.rests still act (in_order inner) does))

    abbrev Entered : Bool → Bool → Type 0
    Entered x y = Alike l.layout a.program at k c w0 s (FlowAgrees l gives i d)
        (source_continued ((if x then source_terminate a (with_travelling e c) else emit (Enter e)) w) (λ u. while_handled a e c act))
        (continued (continued (perform b (if y then terminates s.world.installed.terminate_handler s.world else goes s.frame (entered e s.world)) ctx s) (λ u. pure normal))
        (followed (regions b (regions_from behind) ctx)))

    entry : (x : Bool) → Entered x x
    entry true =
        let x = source_terminate {A = Unit {0}} a (with_travelling e c) w in
        let y = terminate {A = Unit {0}} b ctx s in
        never_first (source_terminate {A = Unit {0}} a (with_travelling e c) w) y
        (ends_out l.layout a b same Never at k c w0 s x y (terminates_out l.layout a b same (Unit {0}) (Unit {0}) at (with_travelling e c) w s stands))
      where
        never_first : (x : SourceResult (Unit {0})) (y : Result (Unit {0})) → Alike l.layout a.program at k c w0 s Never x y
            → Alike l.layout a.program at k c w0 s (FlowAgrees l gives i d) (source_continued x (λ u. while_handled a e c act))
            (continued (continued y (λ u. pure normal)) (followed (regions b (regions_from behind) ctx)))
        never_first (source_done u w2) y (z, s2, is, (h, never)) = absurd never
        never_first (source_stopped (thrown x) w2) y (s2, is, h) = (s2, ap (λ z. continued (continued z (λ u. pure normal)) (followed (regions b (regions_from behind) ctx))) is, h)
        never_first (source_stopped (cancelled x) w2) y (s2, is, h) = (s2, ap (λ z. continued (continued z (λ u. pure normal)) (followed (regions b (regions_from behind) ctx))) is, h)
        never_first (source_stopped undefined w2) y h = tt
        never_first (source_stopped (ended x) w2) y (s2, is, h) = (s2, ap (λ z. continued (continued z (λ u. pure normal)) (followed (regions b (regions_from behind) ctx))) is, h)
        never_first (source_stopped out_of_turns w2) y (s2, is, h) = (s2, ap (λ z. continued (continued z (λ u. pure normal)) (followed (regions b (regions_from behind) ctx))) is, h)
        never_first (source_stopped deep w2) y (s2, is, h) = (s2, ap (λ z. continued (continued z (λ u. pure normal)) (followed (regions b (regions_from behind) ctx))) is, h)
    entry false = handled_on

    -- the entry by the exception's slot, then the rest
    pub handled_from : s.frame.slots (exception_slot l) ≡ address_word (object_address e)
        → Alike l.layout a.program at k c w0 s (FlowAgrees l gives i d) ((source_enter a e c >> while_handled a e c act) w)
        (regions b (regions_from (op (enter (exception_slot l)) ∷ behind)) ctx s)
    handled_from slot =
        let address : exception_in_slot s.frame (exception_slot l) ≡ e = ap (λ x. exception_of (address_in x)) slot in
        subst (λ m. Alike l.layout a.program at k c w0 s (FlowAgrees l gives i d) ((source_enter a e c >> while_handled a e c act) w)
        (continued (continued (perform b (enters m s.frame s.world) ctx s) (λ u. pure normal)) (followed (regions b (regions_from behind) ctx)))) (sym address)
        (subst (λ z. Alike l.layout a.program at k c w0 s (FlowAgrees l gives i d) ((source_enter a e c >> while_handled a e c act) w)
        (continued (continued (perform b (only_where z (if is_foreign (exception_at s.world e) && holds_other e s.world.caught then terminates s.world.installed.terminate_handler s.world
        else goes s.frame (entered e s.world))) ctx s) (λ u. pure normal)) (followed (regions b (regions_from behind) ctx)))) (sym (enterable l.layout a.program at c w s e stands fresh.front))
        (subst (Entered tests) (sym (tested l.layout a.program at c w s e stands fresh.rests fresh.front laws)) (entry tests)))
