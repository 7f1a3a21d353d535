-- Exceptions that travel are entered alike.
use Rattle.std.proofs.Common.{◌≡◌, ℕ, suc, ◌-◌, ◌≤◌, Bool, true, false, List, [], ◌∷◌, ◌++◌, refl, sym, ap, ◌∙◌, subst, arith, length}
use Rattle.std.specs.Prelude.{◌==◌, ◌&&◌, ◌||◌, not, if◌then◌else◌}
use Rattle.std.proofs.lemmas.Bool.Decides.{nat_tests}
use Rattle.cxx_ast.specs.Plain.{Checked}
use Rattle.run_items.specs.declared.item.Item.TheVariants.{Enter}
use Rattle.meaning_forms.specs.Class.{some_of, contains}
use Rattle.meaning_forms.specs.World.{World as SourceWorld, Exception as SourceException, building as source_building, native as source_native, foreign as source_foreign, exception_at as source_exception_at}
use Rattle.meaning_forms.specs.Context.{Context as SourceContext, handling, with_travelling}
use Rattle.meaning_forms.specs.Outcome.{emit}
use Rattle.meaning_forms.specs.Running.{Running as SourceRunning}
use Rattle.meaning_forms.specs.Terminate.{terminate as source_terminate}
use Rattle.meaning_forms.specs.Handler.{is_foreign as source_is_foreign, enter as source_enter}
use Rattle.region_forms.specs.Caught.{entered_on, holds_other, caught_of, only_front}
use Rattle.region_forms.specs.Layout.{Layout}
use Rattle.region_forms.specs.World.{World, exception_at}
use Rattle.region_forms.specs.Effect.{is_foreign, terminates, goes, entered, enters, only_where}
use Rattle.region_forms.specs.Outcome.{State}
use Rattle.region_forms.specs.Ending.{Running, perform, terminate}
use Rattle.region_forms.specs.Laws.{CaughtListFollows}
use Rattle.region_simulation.specs.Places.{Places}
use Rattle.region_simulation.specs.Stands.{exception_of, world_of, Stands, context_of}
use Rattle.region_simulation.specs.Alike.{Alike}
use Rattle.region_exceptions.specs.Same.{RunAlike}
use Rattle.region_exceptions.specs.Barred.{StaysInside}
use Rattle.region_exceptions.specs.Scopes.{Any}
use Rattle.region_exceptions.specs.Handlers.{EntersAlike}
use Rattle.region_exceptions.proofs.Barriers.{ends_inside}
use Rattle.region_exceptions.proofs.Caught.{holds_is}
use Rattle.region_exceptions.proofs.Standing.{sound_handled, sound_resting, all_old, stands_on, follows_changed}
use Rattle.region_exceptions.proofs.Ends.{ends_out, terminates as terminates_out}
use Rattle.region_exceptions.proofs.Raises.{exception_same}
use Rattle.region_exceptions.proofs.Asked.{enterable}

foreign_same : (p : Checked) (x : SourceException) → is_foreign (exception_of p x) ≡ source_is_foreign x
foreign_same p source_building = refl
foreign_same p (source_native t o kept) = refl
foreign_same p (source_foreign k t) = refl

contains_newest : (e : ℕ) (es : List ℕ) → contains (e ∷ es) e ≡ true
contains_newest e es = let same : (e == e) ≡ true = grind (arith, nat_tests) in ap (λ b. b || contains es e) same

module _ (l : Layout) (p : Checked) (at : Places) (c : SourceContext) (w : SourceWorld) (s : State) (e : ℕ) (stands : Stands l p at (with_travelling e c) w s)
    (rests : contains c.travelling e ≡ false) (front : only_front e c.handled ≡ true) (laws : CaughtListFollows) where
  abbrev pub after_entry : SourceWorld
  after_entry = record w { items = w.items ++ Enter e ∷ [] }

  pub made_before : e ≤ w.last_number
  made_before = stands.sound.travelling e (contains_newest e c.travelling)

  pub entered_stands : Stands l p at (handling e c) after_entry (record s { world = entered e s.world })
  entered_stands =
      let world = world_of p (handling e c) after_entry s.world.memory s.world.calls in
      let fewer : suc (length c.travelling) - 1 ≡ length c.travelling = omega arith in
      stands_on l p at (with_travelling e c) (handling e c) w after_entry s (entered e s.world)
      (ap (entered e) stands.world ∙
      ap {A = ℕ} {B = World} (λ n. record world { uncaught = n; caught = entered_on e (caught_of (e ∷ c.travelling) c.handled) }) fewer ∙
      ap {B = World} (λ xs. record world { caught = xs }) (laws.entered e c.travelling c.handled rests front))
      refl refl (omega arith) (sound_handled e c made_before (stands.sound.thrown e (contains_newest e c.travelling)) front (sound_resting e c stands.sound)) stands.handlers (all_old w.live) stands

  pub tested : (is_foreign (exception_at s.world e) && holds_other e s.world.caught) ≡ (source_is_foreign (source_exception_at w e) && some_of (λ f. not (f == e)) c.handled)
  tested =
      ap (λ x. is_foreign x && holds_other e s.world.caught) (exception_same l p at (with_travelling e c) w s stands e) ∙
      ap (λ x. x && holds_other e s.world.caught) (foreign_same p (source_exception_at w e)) ∙
      ap (λ y. source_is_foreign (source_exception_at w e) && holds_other e y.caught) stands.world ∙
      ap (λ x. source_is_foreign (source_exception_at w e) && x) (holds_is e (e ∷ c.travelling) c.handled)

module _ (l : Layout) (a : SourceRunning) (b : Running) (same : RunAlike l a b) (at : Places) (k : ℕ) (c : SourceContext) (w : SourceWorld) (s : State) (e : ℕ)
    (stands : Stands l a.program at (with_travelling e c) w s) (rests : contains c.travelling e ≡ false) (front : only_front e c.handled ≡ true) (laws : CaughtListFollows) where
  abbrev Entry : Bool → Bool → Type 0
  Entry x y =
      let act = (if x then source_terminate a (with_travelling e c) else emit (Enter e)) in
      StaysInside (act w) × Alike l a.program at k (handling e c) w s Any (act w)
      (perform b (if y then terminates s.world.installed.terminate_handler s.world else goes s.frame (entered e s.world)) (context_of w.open_calls c) s)

  entry : (x : Bool) → Entry x x
  entry true =
      let ends = terminates_out l a b same (Unit {0}) (Unit {0}) at (with_travelling e c) w s stands in (
        ends_inside (source_terminate a (with_travelling e c) w) (terminate b (context_of w.open_calls c) s) ends,
        ends_out l a b same Any at k (handling e c) w s (source_terminate a (with_travelling e c) w) (terminate b (context_of w.open_calls c) s) ends,
      )
  entry false = (
    tt,
    (
      tt,
      record s { world = entered e s.world },
      refl,
      (
        follows_changed l a.program at k (handling e c) w (after_entry l a.program at c w s e stands rests front laws) s (entered e s.world) refl refl refl
            (entered_stands l a.program at c w s e stands rests front laws),
        tt,
      ),
    ),
  )

  pub enters_out : StaysInside (source_enter a e c w) ×
      Alike l a.program at k (handling e c) w s Any (source_enter a e c w) (perform b (enters e s.frame s.world) (context_of w.open_calls c) s)
  enters_out =
      let x = source_is_foreign (source_exception_at w e) && some_of (λ f. not (f == e)) c.handled in
      subst (λ z. StaysInside (source_enter a e c w) × Alike l a.program at k (handling e c) w s Any (source_enter a e c w)
      (perform b (only_where z (if is_foreign (exception_at s.world e) && holds_other e s.world.caught then terminates s.world.installed.terminate_handler s.world
      else goes s.frame (entered e s.world))) (context_of w.open_calls c) s)) (sym (enterable l a.program at c w s e stands front))
      (subst (Entry x) (sym (tested l a.program at c w s e stands rests front laws)) (entry x))

pub enters_alike : CaughtListFollows → EntersAlike
enters_alike laws l a b same at k c w s e slot stands fresh is =
    subst (λ n. StaysInside (source_enter a e c w) × Alike l a.program at k (handling e c) w s Any (source_enter a e c w)
    (perform b (enters n s.frame s.world) (context_of w.open_calls c) s)) (sym is)
    (enters_out l a b same at k c w s e stands fresh.rests fresh.front laws)
