-- Exceptions are given back alike.
use Rattle.std.proofs.Common.{◌≡◌, ℕ, zero, suc, false, [], ◌∷◌, ◌++◌, Some, refl, ap, ◌∙◌, arith, ◌<◌, length, true}
use Rattle.std.specs.Prelude.{slice_get, ◌||◌}
use Rattle.cxx_ast.specs.Plain.{Checked}
use Rattle.run_items.specs.declared.item.Item.TheVariants.{Destroy, Free, Clean}
use Rattle.meaning_forms.specs.Class.{ObjectType, int_type, class_type, contains}
use Rattle.meaning_forms.specs.World.{World as SourceWorld, Exception as SourceException, Installed, building as source_building, native as source_native, foreign as source_foreign, exception_at as source_exception_at, whole}
use Rattle.meaning_forms.specs.Context.{Context as SourceContext, barrier, guarded_by, with_travelling}
use Rattle.meaning_forms.specs.Outcome.{Result as SourceResult, done as source_done, stopped as source_stopped, thrown, cancelled, ended, undefined, out_of_turns, deep, pure as source_pure}
use Rattle.meaning_forms.specs.Running.{Running as SourceRunning, destructor}
use Rattle.meaning_forms.specs.Construct.{destroy as source_destroy}
use Rattle.meaning_forms.specs.Handler.{after_destructor as source_after_destructor, give_back as source_give_back}
use Rattle.region_forms.specs.Layout.{Layout}
use Rattle.region_forms.specs.Numbering.{type_number, destructor_of}
use Rattle.region_forms.specs.World.{of_exception, object_address, with_item}
use Rattle.region_forms.specs.Effect.{freed, cleaned_up}
use Rattle.region_forms.specs.Outcome.{State, Context, Result, only_if, change, continued, stop}
use Rattle.region_forms.specs.Ending.{Running, empty_call, after_destructor, call_destructor, give_back}
use Rattle.region_simulation.specs.Places.{Places, Refers}
use Rattle.region_simulation.specs.Stands.{exception_of, IsOfProgram, IsSound, Stands, context_of}
use Rattle.region_simulation.specs.Alike.{Alike, Follows}
use Rattle.region_simulation.proofs.Following.{follows_now}
use Rattle.region_simulation.proofs.Evaluating.{alike_map}
use Rattle.region_exceptions.specs.Same.{RunAlike}
use Rattle.region_exceptions.specs.Barred.{NotThrown, CallsAreBarred}
use Rattle.region_exceptions.specs.Scopes.{Any}
use Rattle.region_exceptions.specs.Handlers.{EmptyDestructor}
use Rattle.region_exceptions.proofs.Standing.{all_old, stands_on, follows_changed}
use Rattle.region_exceptions.proofs.Raises.{native_in}
use Rattle.region_exceptions.proofs.Protecting.{destruction_barred, destructor_called}
use Rattle.region_exceptions.specs.Left.{CanBeLeft}
use Rattle.region_exceptions.proofs.Since.{follows_older, alike_since}
use Rattle.region_exceptions.proofs.Freeing.{follows_without, without}
use Rattle.region_exceptions.proofs.Keeping.{IsOther}
use Rattle.region_simulation.proofs.There.{live_alike}
use Rattle.region_forms.specs.Lives.{is_live}

-- what comes out of a destructor is other than the exception where what comes out behind the freeing is
other_inside : (e : ℕ) (x : SourceResult (Unit {0})) → IsOther e (source_after_destructor e x) → IsOther e x
other_inside e (source_done u w2) h = tt
other_inside e (source_stopped (thrown f) w2) h = h
other_inside e (source_stopped (cancelled n) w2) h = tt
other_inside e (source_stopped undefined w2) h = tt
other_inside e (source_stopped (ended x) w2) h = tt
other_inside e (source_stopped out_of_turns w2) h = tt
other_inside e (source_stopped deep w2) h = tt

module _ (l : Layout) (p : Checked) (at : Places) (m : ℕ) (c : SourceContext) (w0 w : SourceWorld) (s : State) (e o : ℕ) (t : ObjectType) (rests : contains c.travelling e ≡ false)
    (unhandled : contains c.handled e ≡ false) (can : CanBeLeft (contains c.handled e) e at w0 w) (there : o < length w.objects)
    (placed : at o ≡ Some (record { base = of_exception e; type = t })) where
  -- its object stands there still, so it is live
  still_live : (d : SourceContext) (w2 : SourceWorld) (s2 : State) → Follows l p at m w s d w2 s2 → is_live s2.world e ≡ true
  still_live d w2 s2 h =
      live_alike l p h.places d w2 s2 h.stands e ∙ (h.stands.made o (record { base = of_exception e; type = t }) (h.stay o there ∙ placed)).1

  freed_since : (d : SourceContext) (w2 : SourceWorld) (s2 : State) → contains d.travelling e ≡ false → contains d.handled e ≡ false → Follows l p at m w s d w2 s2
      → Follows l p at m w0 s d (without l p at e (Free e) w2) (record s2 { world = freed e s2.world })
  freed_since d w2 s2 resting left_out h =
      follows_without l p h.places e (Free e) at m w0 s d w2 s2 resting left_out (can.new unhandled) (follows_older l p at m w0 w s d w2 s2 can.objects can.open_calls h) refl

  -- an exception object is freed after its destructor
  freed_after : (x : SourceResult (Unit {0})) (y : Result (Unit {0})) → IsOther e x → Alike l p at m c w s Any x y
      → Alike l p at m c w0 s Any (source_after_destructor e x) (after_destructor e y)
  freed_after (source_done u w2) y other (v, s2, is, (h, any)) = (
    tt,
    record s2 { world = freed e s2.world },
    ap (after_destructor e) is ∙ ap (λ b. only_if b (change (freed e)) s2) (still_live c w2 s2 h),
    (freed_since c w2 s2 rests unhandled h, tt),
  )
  freed_after (source_stopped (thrown f) w2) y other (s2, is, h) =
      let d = with_travelling f c in
      let still : contains d.travelling e ≡ false = ap (λ z. z || contains c.travelling e) other ∙ rests in (
        record s2 { world = freed e s2.world },
        ap (after_destructor e) is ∙ ap (λ b. continued {B = Unit {0}} (only_if b (change (freed e)) s2) (λ u. stop (thrown f))) (still_live d w2 s2 h),
        freed_since d w2 s2 still unhandled h,
      )
  freed_after (source_stopped (cancelled n) w2) y other (s2, is, h) = (
    record s2 { world = freed e s2.world },
    ap (after_destructor e) is ∙ ap (λ b. continued {B = Unit {0}} (only_if b (change (freed e)) s2) (λ u. stop (cancelled n))) (still_live c w2 s2 h),
    freed_since c w2 s2 rests unhandled h,
  )
  freed_after (source_stopped undefined w2) y other h = tt
  freed_after (source_stopped (ended x) w2) y other (s2, is, h) = (s2, ap (after_destructor e) is, h)
  freed_after (source_stopped out_of_turns w2) y other (s2, is, h) = (s2, ap (after_destructor e) is, h)
  freed_after (source_stopped deep w2) y other (s2, is, h) = (s2, ap (after_destructor e) is, h)

-- an exception object stands at its exception
pub object_refers : (l : Layout) (p : Checked) (at : Places) (c : SourceContext) (w : SourceWorld) (s : State) (i e o : ℕ) (t : ObjectType) (kept : Installed)
    → Stands l p at c w s → slice_get w.live i ≡ Some (record { number = e; exception = source_native t o kept }) → Refers l p at (whole o) t (object_address e)
object_refers l p at c w s i e o t kept stands there = record {
  stood = record { base = of_exception e; type = t };
  stands = stands.exceptions i e o t kept there;
  typed = refl;
  address = refl;
}

module _ (l : Layout) (a : SourceRunning) (b : Running) (same : RunAlike l a b) (empty : EmptyDestructor l a b)
    (at : Places) (m : ℕ) (c : SourceContext) (w : SourceWorld) (s : State) (stands : Stands l a.program at c w s) (e : ℕ) where
  abbrev ctx : Context
  ctx = context_of w.open_calls c

  destroyed : (t : ObjectType) (o : ℕ) → IsOfProgram a.program t → Refers l a.program at (whole o) t (object_address e)
      → Alike l a.program at m c w s Any (source_destroy a t (whole o) c w) (call_destructor b (type_number t) (destructor_of a.program t) e ctx s)
  destroyed int_type o there refers = (tt, s, refl, (follows_now l a.program at m c w s stands, tt))
  destroyed (class_type zero) o there refers =
      alike_map l a.program Any Any at m c w s (a.call (destructor 0) (whole o) [] c w) (empty_call b ctx s) (λ v. source_pure (tt {0}))
      (empty (whole o) at m c w s stands)
      (λ v v2 w2 s2 h any. (v2, s2, refl, (follows_now l a.program h.places m c w2 s2 h.stands, tt)))
  destroyed (class_type (suc j)) o there refers = destructor_called l a b same at m c w s (whole o) (suc j) (object_address e) there stands refers

module _ (l : Layout) (a : SourceRunning) (b : Running) (same : RunAlike l a b) (empty : EmptyDestructor l a b)
    (at : Places) (m : ℕ) (c : SourceContext) (w0 w : SourceWorld) (s : State) (stands : Stands l a.program at c w s) (e : ℕ) (rests : contains c.travelling e ≡ false)
    (unhandled : contains c.handled e ≡ false) (can : CanBeLeft (contains c.handled e) e at w0 w) where
  -- an exception is destroyed and freed, or cleaned up by its module
  pub gives_back_alike : (x : SourceException) → source_exception_at w e ≡ x → IsOther e (source_give_back a e x c w)
      → Alike l a.program at m c w0 s Any (source_give_back a e x c w) (give_back b e (exception_of a.program x) (context_of w.open_calls c) s)
  gives_back_alike source_building is other =
      (tt, s, refl, (follows_older l a.program at m w0 w s c w s can.objects can.open_calls (follows_now l a.program at m c w s stands), tt))
  gives_back_alike (source_foreign k t) is other =
      let h = follows_older l a.program at m w0 w s c w s can.objects can.open_calls (follows_now l a.program at m c w s stands) in
      (tt, record s { world = cleaned_up e k t s.world }, refl, (follows_without l a.program at e (Clean k t) at m w0 s c w s rests unhandled (can.new unhandled) h refl, tt))
  gives_back_alike (source_native t o kept) is other =
      let (i, there) = native_in w.live e o t kept is in
      let w2 = record w { items = w.items ++ Destroy e ∷ [] } in
      let s2 = record s { world = with_item (Destroy e) s.world } in
      let stands2 = stands_on l a.program at c c w w2 s s2.world (ap (λ y. with_item (Destroy e) y) stands.world) refl refl (omega arith) stands.sound stands.handlers (all_old w.live) stands in
      let h = follows_older l a.program at m w0 w s c w2 s2 can.objects can.open_calls (follows_changed l a.program at m c w w2 s s2.world refl refl refl stands2) in
      let x = source_destroy a t (whole o) c w2 in
      let y = call_destructor b (type_number t) (destructor_of a.program t) e (context_of w.open_calls c) s2 in
      alike_since l a.program Any at m c c w0 s w2 s2 h (source_after_destructor e x) (after_destructor e y)
      (freed_after l a.program at m c w0 w2 s2 e o t rests unhandled (record { objects = can.objects; open_calls = can.open_calls; new = can.new })
      (stands2.memory.made o (record { base = of_exception e; type = t }) (stands2.exceptions i e o t kept there)) (stands2.exceptions i e o t kept there) x y (other_inside e x other)
      (destroyed l a b same empty at m c w2 s2 stands2 e t o (stands.kept i e o t kept there).type (object_refers l a.program at c w2 s2 i e o t kept stands2 there)))

-- behind a barrier no exception comes out where one is given back
freed_barred : (e : ℕ) (x : SourceResult (Unit {0})) → NotThrown x → NotThrown (source_after_destructor e x)
freed_barred e (source_done u w2) h = tt
freed_barred e (source_stopped (thrown f) w2) h = h
freed_barred e (source_stopped (cancelled n) w2) h = tt
freed_barred e (source_stopped undefined w2) h = tt
freed_barred e (source_stopped (ended x) w2) h = tt
freed_barred e (source_stopped out_of_turns w2) h = tt
freed_barred e (source_stopped deep w2) h = tt

pub giving_barred : (a : SourceRunning) → CallsAreBarred a → (e : ℕ) (x : SourceException) (c : SourceContext) (w : SourceWorld) → IsSound c w.last_number w.live
    → NotThrown (source_give_back a e x (guarded_by barrier c) w)
giving_barred a bar e source_building c w sound = tt
giving_barred a bar e (source_foreign k t) c w sound = tt
giving_barred a bar e (source_native int_type o kept) c w sound = tt
giving_barred a bar e (source_native (class_type j) o kept) c w sound =
    let w2 = record w { items = w.items ++ Destroy e ∷ [] } in
    freed_barred e (source_destroy a (class_type j) (whole o) (guarded_by barrier c) w2) (destruction_barred a bar j (whole o) c w2 sound)
