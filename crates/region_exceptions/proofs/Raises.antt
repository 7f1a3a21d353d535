-- Exceptions are raised alike.
use Rattle.std.proofs.Common.{◌≡◌, ℕ, suc, ◌+◌, ℤ, Bool, true, false, List, [], ◌∷◌, ◌++◌, Some, refl, sym, ap, ◌∙◌, subst, arith, length}
use Rattle.std.specs.Prelude.{◌==◌, map, slice_get, if◌then◌else◌}
use Rattle.std.proofs.lemmas.Bool.Decides.{nat_tests}
use Rattle.cxx_ast.specs.Plain.{Checked}
use Rattle.run_items.specs.declared.item.Item.TheVariants.{Enter}
use Rattle.meaning_forms.specs.Class.{ObjectType}
use Rattle.meaning_forms.specs.World.{World as SourceWorld, Live as SourceLive, Exception as SourceException, Installed, building as source_building, native as source_native, foreign as source_foreign, exception_in as source_exception_in, exception_at as source_exception_at, exception_type as source_exception_type, type_at as source_type_at}
use Rattle.meaning_forms.specs.Context.{Context as SourceContext, handling, with_travelling}
use Rattle.meaning_forms.specs.Guard.{is_doomed as source_is_doomed}
use Rattle.meaning_forms.specs.Outcome.{ended, aborted, thrown, stop as source_stop}
use Rattle.meaning_forms.specs.Running.{Running as SourceRunning}
use Rattle.meaning_forms.specs.Terminate.{enter_and_terminate as source_enter_and_terminate, terminate_because as source_terminate_because}
use Rattle.meaning_forms.specs.Throw.{raise_exception}
use Rattle.region_forms.specs.Caught.{Entry, handled_on, flown, caught_of}
use Rattle.region_forms.specs.Guard.{is_doomed}
use Rattle.region_forms.specs.Laws.{CaughtListFollows}
use Rattle.region_forms.specs.Layout.{Layout}
use Rattle.region_forms.specs.Numbering.{type_rows}
use Rattle.region_forms.specs.World.{World, exception_in, exception_at, exception_type, type_at}
use Rattle.region_forms.specs.Effect.{flies, entered_doomed}
use Rattle.region_forms.specs.Outcome.{State, stop, change, ◌>>◌}
use Rattle.region_forms.specs.Ending.{Running, enter_and_terminate, terminate_because, raise}
use Rattle.region_simulation.specs.Lives.{CanBeThrown}
use Rattle.region_simulation.specs.Places.{Places}
use Rattle.region_simulation.specs.Stands.{exception_of, live_of, guard_of, context_of, world_of, Stands}
use Rattle.region_simulation.specs.Alike.{Alike}
use Rattle.region_simulation.proofs.Following.{Agreement}
use Rattle.region_exceptions.specs.Doomed.{numbered}
use Rattle.region_exceptions.specs.Same.{RunAlike}
use Rattle.region_exceptions.specs.Ends.{EndsAlike}
use Rattle.region_exceptions.specs.Raises.{CanBeRaised, RaisesAlike, Never}
use Rattle.region_exceptions.proofs.Doomed.{doomed_alike}
use Rattle.region_exceptions.proofs.Caught.{flown_front}
use Rattle.region_exceptions.proofs.Standing.{sound_handled, sound_travelling, all_old, stands_on, seen, follows_changed}
use Rattle.region_exceptions.proofs.Ends.{ends_out, terminates_with, terminates}

-- the exception with a number, by the numbers of its type and its destructor
live_in : (p : Checked) (xs : List SourceLive) (e : ℕ) → exception_in (map (live_of p) xs) e ≡ exception_of p (source_exception_in xs e)
live_in p [] e = refl
live_in p (x ∷ xs) e = go (x.number == e) (live_in p xs e)
  where
    go : (b : Bool) → exception_in (map (live_of p) xs) e ≡ exception_of p (source_exception_in xs e) → (if b then exception_of p x.exception else exception_in (map (live_of p) xs) e) ≡ exception_of p (if b then x.exception else source_exception_in xs e)
    go true ih = refl
    go false ih = ih

type_of : (p : Checked) (x : SourceException) → exception_type (exception_of p x) ≡ numbered (source_exception_type x)
type_of p source_building = refl
type_of p (source_native t o kept) = refl
type_of p (source_foreign k t) = refl

-- a native exception stands in the list
pub native_in : (xs : List SourceLive) (e o : ℕ) (t : ObjectType) (kept : Installed) → source_exception_in xs e ≡ source_native t o kept
    → (i : ℕ) × (slice_get xs i ≡ Some (record { number = e; exception = source_native t o kept }))
native_in [] e o t kept is = absurd (cc is)
native_in (x ∷ xs) e o t kept is = go (x.number == e) refl is (native_in xs e o t kept)
  where
    go : (b : Bool) → (x.number == e) ≡ b → (if b then x.exception else source_exception_in xs e) ≡ source_native t o kept
        → (source_exception_in xs e ≡ source_native t o kept → (i : ℕ) × (slice_get xs i ≡ Some (record { number = e; exception = source_native t o kept })))
        → (i : ℕ) × (slice_get (x ∷ xs) i ≡ Some (record { number = e; exception = source_native t o kept }))
    go true same is ih =
        let number : x.number ≡ e = grind (arith, nat_tests, same) in
        (0, ap (λ n. Some (record { number = n; exception = x.exception })) number ∙ ap (λ y. Some (record { number = e; exception = y })) is)
    go false same is ih = let (i, there) = ih is in (suc i, there)

module _ (l : Layout) (p : Checked) (at : Places) (c : SourceContext) (w : SourceWorld) (s : State) (stands : Stands l p at c w s) where
  pub exception_same : (e : ℕ) → exception_at s.world e ≡ exception_of p (source_exception_at w e)
  exception_same e = ap (λ y. exception_at y e) stands.world ∙ live_in p w.live e

  pub type_same : (e : ℕ) → type_at s.world e ≡ numbered (source_type_at w e)
  type_same e = ap exception_type (exception_same e) ∙ type_of p (source_exception_at w e)

  -- an exception begins to travel
  pub travels_on : CaughtListFollows → (e : ℕ) → CanBeRaised c w e → CanBeThrown w.live e → Stands l p at (with_travelling e c) w (record s { world = flies e s.world })
  travels_on laws e can built =
      let more : length c.travelling + 1 ≡ suc (length c.travelling) = omega arith in
      let d = with_travelling e c in
      let world = world_of p d w s.world.memory s.world.calls in
      stands_on l p at c d w w s (flies e s.world)
      (ap (flies e) stands.world ∙ ap {A = ℕ} {B = World} (λ n. record world { uncaught = n; caught = flown_list e }) more ∙
      ap {B = World} (λ xs. record world { caught = xs }) (flown_front laws e c.travelling c.handled can.front))
      refl refl (omega arith) (sound_travelling e c can.made built stands.sound) stands.handlers (all_old w.live) stands
    where
      flown_list : ℕ → List Entry
      flown_list e = flown e (caught_of c.travelling c.handled)

  -- a doomed exception is entered
  pub doomed_on : (e : ℕ) → CanBeRaised c w e → CanBeThrown w.live e
      → Stands l p at (handling e c) (record w { items = w.items ++ Enter e ∷ [] }) (record s { world = entered_doomed e s.world })
  doomed_on e can built =
      let d = handling e c in
      let w2 = record w { items = w.items ++ Enter e ∷ [] } in
      let world = world_of p d w2 s.world.memory s.world.calls in
      stands_on l p at c d w w2 s (entered_doomed e s.world)
      (ap (entered_doomed e) stands.world ∙ ap {B = World} (λ b. record world { caught = handled_on e b (caught_of c.travelling c.handled) }) (sym can.rests))
      refl refl (omega arith) (sound_handled e c can.made built can.front stands.sound) stands.handlers (all_old w.live) stands

module _ (l : Layout) (a : SourceRunning) (b : Running) (same : RunAlike l a b) (laws : CaughtListFollows) where
  module _ (A B : Type 0) (at : Places) (c : SourceContext) (w : SourceWorld) (s : State) (stands : Stands l a.program at c w s) (e : ℕ) (can : CanBeRaised c w e)
      (built : CanBeThrown w.live e) where
    enters_and_terminates : (x : SourceException) → source_exception_at w e ≡ x
        → EndsAlike {A = A} {B = B} (source_enter_and_terminate a e x c w) (enter_and_terminate b e (exception_of a.program x) (context_of w.open_calls c) s)
    enters_and_terminates source_building is = terminates l a b same A B at c w s stands
    enters_and_terminates (source_foreign k t) is = terminates l a b same A B at c w s stands
    enters_and_terminates (source_native t o kept) is =
        let (i, there) = native_in w.live e o t kept is in
        terminates_with l a b same A B at (handling e c) (record w { items = w.items ++ Enter e ∷ [] }) (record s { world = entered_doomed e s.world })
        (doomed_on l a.program at c w s stands e can built) kept.terminate_handler (stands.kept i e o t kept there).handlers.0

    because : EndsAlike {A = A} {B = B} (source_terminate_because a e c w) (terminate_because b e (context_of w.open_calls c) s)
    because =
        subst (λ z. EndsAlike {A = A} {B = B} (source_terminate_because a e c w)
        ((if z then stop (ended aborted) else enter_and_terminate b e (exception_at s.world e) (context_of w.open_calls c)) s))
        (sym (ap (λ y. y.ending) stands.world))
        (subst (λ z. EndsAlike {A = A} {B = B} (source_terminate_because a e c w)
        ((if c.ending then stop (ended aborted) else enter_and_terminate b e z (context_of w.open_calls c)) s))
        (sym (exception_same l a.program at c w s stands e)) (go c.ending))
      where
        go : (z : Bool) → EndsAlike {A = A} {B = B} ((if z then source_stop (ended aborted) else source_enter_and_terminate a e (source_exception_at w e) c) w)
            ((if z then stop (ended aborted) else enter_and_terminate b e (exception_of a.program (source_exception_at w e)) (context_of w.open_calls c)) s)
        go true = (s, refl, seen l a.program at c w s stands)
        go false = enters_and_terminates (source_exception_at w e) refl

    doomed_same : is_doomed b.types (map guard_of c.guards) (type_at s.world e) ≡ source_is_doomed a.program c.guards (source_type_at w e)
    doomed_same =
        ap (λ rows. is_doomed rows (map guard_of c.guards) (type_at s.world e)) same.types ∙
        ap (is_doomed (type_rows a.program) (map guard_of c.guards)) (type_same l a.program at c w s stands e) ∙
        (doomed_alike a.program same.ordered (source_type_at w e)).doomed c.guards

    pub raises : (agree : Agreement A B) (k : ℕ)
        → Alike l a.program at k c w s agree (raise_exception {A = A} a e c w) (raise {A = B} b e (context_of w.open_calls c) s)
    raises agree k =
        subst (λ z. Alike l a.program at k c w s agree (raise_exception {A = A} a e c w)
        ((if z then terminate_because b e (context_of w.open_calls c) else (change (flies e) >> stop (thrown e))) s)) (sym doomed_same)
        (go (source_is_doomed a.program c.guards (source_type_at w e)))
      where
        go : (z : Bool) → Alike l a.program at k c w s agree ((if z then source_terminate_because {A = A} a e c else source_stop (thrown e)) w)
            ((if z then terminate_because {A = B} b e (context_of w.open_calls c) else (change (flies e) >> stop (thrown e))) s)
        go true = ends_out l a b same agree at k c w s (source_terminate_because a e c w) (terminate_because b e (context_of w.open_calls c) s) because
        go false = (
          record s { world = flies e s.world },
          refl,
          follows_changed l a.program at k (with_travelling e c) w w s (flies e s.world) refl refl refl (travels_on l a.program at c w s stands laws e can built),
        )

pub raises_alike : CaughtListFollows → RaisesAlike
raises_alike laws l a b same at k c w s e stands can built = raises l a b same laws ℤ ℤ at c w s stands e can built Never k
