-- Terminate ends alike.
use Rattle.std.proofs.Common.{ℕ, ℤ, Bool, true, false, [], Option, Some, None, refl, sym, ap, subst, arith}
use Rattle.std.specs.Prelude.{if◌then◌else◌}
use Rattle.meaning_forms.specs.World.{World as SourceWorld, nowhere}
use Rattle.meaning_forms.specs.Context.{Context as SourceContext, barrier, guarded_by as source_guarded_by}
use Rattle.meaning_forms.specs.Outcome.{Result as SourceResult, done as source_done, stopped as source_stopped, thrown, cancelled, ended, aborted, undefined, out_of_turns, deep, stop as source_stop}
use Rattle.meaning_forms.specs.Expression.{types_of}
use Rattle.meaning_forms.specs.Running.{Running as SourceRunning, function}
use Rattle.meaning_forms.specs.Terminate.{after_terminate_handler as source_after, run_terminate_handler as source_run, terminate_with as source_terminate_with, terminate as source_terminate}
use Rattle.region_forms.specs.Layout.{Layout}
use Rattle.region_forms.specs.World.{World}
use Rattle.region_forms.specs.Outcome.{State, Result, Action, stop, continued}
use Rattle.region_forms.specs.Ending.{Running, after_terminate_handler, run_terminate_handler, terminate_with, terminate}
use Rattle.region_simulation.specs.Places.{Places}
use Rattle.region_simulation.specs.Stands.{IsHandler, Stands, context_of}
use Rattle.region_simulation.specs.Alike.{Alike}
use Rattle.region_simulation.specs.Calls.{SameArguments}
use Rattle.region_simulation.proofs.Following.{Agreement}
use Rattle.region_exceptions.specs.Same.{RunAlike}
use Rattle.region_exceptions.specs.Ends.{EndsAlike, TerminatesAlike}
use Rattle.region_exceptions.specs.Raises.{Never}
use Rattle.region_exceptions.proofs.Standing.{sound_guarded, sound_ending, all_old, stands_on, seen}

module _ (l : Layout) (a : SourceRunning) (b : Running) (same : RunAlike l a b) where
  -- what ends alike comes out alike, whatever came before
  pub ends_out : {A B : Type 0} (agree : Agreement A B) (at : Places) (k : ℕ) (c : SourceContext) (w : SourceWorld) (s : State) (x : SourceResult A) (y : Result B)
      → EndsAlike x y → Alike l a.program at k c w s agree x y
  ends_out agree at k c w s (source_done v w2) y h = absurd h
  ends_out agree at k c w s (source_stopped (thrown e) w2) y h = absurd h
  ends_out agree at k c w s (source_stopped (cancelled n) w2) y h = absurd h
  ends_out agree at k c w s (source_stopped (ended e) w2) y h = h
  ends_out agree at k c w s (source_stopped undefined w2) y h = tt
  ends_out agree at k c w s (source_stopped out_of_turns w2) y h = h
  ends_out agree at k c w s (source_stopped deep w2) y h = h

  -- what is never done comes out of what would come behind it
  pub never_on : {A B C : Type 0} (next : Agreement A C) (at : Places) (k : ℕ) (c : SourceContext) (w : SourceWorld) (s : State) (x : SourceResult A) (y : Result B) (g : B → Action C)
      → Alike l a.program at k c w s Never x y → Alike l a.program at k c w s next x (continued y g)
  never_on next at k c w s (source_done u w2) y g (z, s2, e, (h, never)) = absurd never
  never_on next at k c w s (source_stopped (thrown x) w2) y g (s2, e, h) = (s2, ap (λ z. continued z g) e, h)
  never_on next at k c w s (source_stopped (cancelled n) w2) y g (s2, e, h) = (s2, ap (λ z. continued z g) e, h)
  never_on next at k c w s (source_stopped undefined w2) y g h = tt
  never_on next at k c w s (source_stopped (ended x) w2) y g (s2, e, h) = (s2, ap (λ z. continued z g) e, h)
  never_on next at k c w s (source_stopped out_of_turns w2) y g (s2, e, h) = (s2, ap (λ z. continued z g) e, h)
  never_on next at k c w s (source_stopped deep w2) y g (s2, e, h) = (s2, ap (λ z. continued z g) e, h)

  -- however a terminate handler comes out
  after_ends : {A B : Type 0} (C D : Type 0) (agree : Agreement A B) (at : Places) (k : ℕ) (c : SourceContext) (w : SourceWorld) (s : State) (x : SourceResult A) (y : Result B)
      → Alike l a.program at k c w s agree x y → EndsAlike {A = C} {B = D} (source_after x) (after_terminate_handler y)
  after_ends C D agree at k c w s (source_done v w2) y (u, s2, e, (h, agrees)) = (s2, ap after_terminate_handler e, seen l a.program h.places c w2 s2 h.stands)
  after_ends C D agree at k c w s (source_stopped (thrown x) w2) y (s2, e, h) = (s2, ap after_terminate_handler e, seen l a.program h.places _ w2 s2 h.stands)
  after_ends C D agree at k c w s (source_stopped (cancelled n) w2) y (s2, e, h) = (s2, ap after_terminate_handler e, seen l a.program h.places _ w2 s2 h.stands)
  after_ends C D agree at k c w s (source_stopped (ended x) w2) y (s2, e, h) = (s2, ap after_terminate_handler e, h)
  after_ends C D agree at k c w s (source_stopped undefined w2) y h = tt
  after_ends C D agree at k c w s (source_stopped out_of_turns w2) y (s2, e, h) = (s2, ap after_terminate_handler e, h)
  after_ends C D agree at k c w s (source_stopped deep w2) y (s2, e, h) = (s2, ap after_terminate_handler e, h)

  module _ (A B : Type 0) (at : Places) (c : SourceContext) (w : SourceWorld) (s : State) (stands : Stands l a.program at c w s) where
    runs_handler : (h : Option ℕ) → IsHandler a.program h → EndsAlike {A = A} {B = B} (source_run a h c w) (run_terminate_handler b h (context_of w.open_calls c) s)
    runs_handler None is = (s, refl, seen l a.program at c w s stands)
    runs_handler (Some n) is =
        let d = source_guarded_by barrier (record c { ending = true }) in
        let s2 = record s { world = record (s.world) { ending = true } } in
        let standing = stands_on l a.program at c d w w s s2.world (ap {A = World} (λ y. record y { ending = true }) stands.world) refl refl (omega arith)
        (sound_guarded barrier (record c { ending = true }) (sound_ending c stands.sound)) stands.handlers (all_old w.live) stands in
        after_ends A B _ at 0 d w s2 (a.call (function n) nowhere [] d w) (b.call n [] (context_of w.open_calls d) s2)
        (same.calls at (function n) nowhere [] [] 0 d w s2 is.0 standing (subst (λ ps. SameArguments l a.program at (types_of ps) [] []) (sym is.1) tt))

    pub terminates_with : (h : Option ℕ) → IsHandler a.program h
        → EndsAlike {A = A} {B = B} (source_terminate_with a h c w) (terminate_with b h (context_of w.open_calls c) s)
    terminates_with h is =
        subst (λ z. EndsAlike {A = A} {B = B} (source_terminate_with a h c w) ((if z then stop (ended aborted) else run_terminate_handler b h (context_of w.open_calls c)) s))
        (sym (ap (λ y. y.ending) stands.world)) (go c.ending)
      where
        go : (z : Bool) → EndsAlike {A = A} {B = B} ((if z then source_stop (ended aborted) else source_run a h c) w)
            ((if z then stop (ended aborted) else run_terminate_handler b h (context_of w.open_calls c)) s)
        go true = (s, refl, seen l a.program at c w s stands)
        go false = runs_handler h is

    pub terminates : EndsAlike {A = A} {B = B} (source_terminate a c w) (terminate b (context_of w.open_calls c) s)
    terminates =
        subst (λ h. EndsAlike {A = A} {B = B} (source_terminate a c w) (terminate_with b h (context_of w.open_calls c) s)) (sym (ap (λ y. y.installed.terminate_handler) stands.world))
        (terminates_with w.installed.terminate_handler stands.handlers.0)

pub terminates_alike : TerminatesAlike
terminates_alike l a b same at c w s stands = terminates l a b same ℤ ℤ at c w s stands
