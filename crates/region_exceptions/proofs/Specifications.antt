-- What a specification does with an exception that it does not allow comes out alike.
use Rattle.std.proofs.Common.{◌≡◌, ℕ, zero, suc, ◌+◌, ℤ, Bool, true, false, List, [], ◌∷◌, ◌++◌, Option, Some, None, refl, sym, ap, ◌∙◌, subst, arith, ap₂}
use Rattle.std.specs.Prelude.{◌==◌, ◌&&◌, ◌||◌, not, is_none, find, cond, map, if◌then◌else◌}
use Rattle.std.proofs.lemmas.Bool.Decides.{nat_tests}
use Rattle.cxx_ast.specs.Plain.{Checked}
use Rattle.run_items.specs.declared.item.Item.TheVariants.{Enter}
use Rattle.meaning_forms.specs.Class.{ObjectType, int_type, class_type, some_of, contains}
use Rattle.meaning_forms.specs.World.{World as SourceWorld, Installed, nowhere, Exception as SourceException, building as source_building, native as source_native, foreign as source_foreign, exception_at as source_exception_at, exception_type as source_exception_type, type_at as source_type_at}
use Rattle.meaning_forms.specs.Context.{Context as SourceContext, Guard as SourceGuard, catch_all, try_block, specification, guarded_by, handling, with_travelling}
use Rattle.meaning_forms.specs.Guard.{allows as source_allows, stops as source_stops, dooms as source_dooms}
use Rattle.meaning_forms.specs.Outcome.{Result as SourceResult, done as source_done, stopped as source_stopped, thrown, cancelled, ended, undefined, out_of_turns, deep, continued as source_continued, stop as source_stop, emit}
use Rattle.meaning_forms.specs.Expression.{types_of}
use Rattle.meaning_forms.specs.Running.{Running as SourceRunning, function}
use Rattle.meaning_forms.specs.Terminate.{terminate as source_terminate, terminate_with as source_terminate_with}
use Rattle.meaning_forms.specs.Throw.{throw_new, raise_exception}
use Rattle.meaning_forms.specs.Handler.{is_foreign as source_is_foreign, enter as source_enter, while_handled as source_while_handled}
use Rattle.meaning_forms.specs.Specification.{kept_with as source_kept_with, is_bad_exception, new_bad_exception, pass_on as source_pass_on, after_unexpected as source_after_unexpected, run_unexpected_handler as source_run_unexpected, unexpected as source_unexpected, after_extent}
use Rattle.region_forms.specs.Caught.{only_front}
use Rattle.region_forms.specs.Guard.{allows}
use Rattle.region_forms.specs.Laws.{CaughtListFollows}
use Rattle.region_forms.specs.Layout.{Layout}
use Rattle.region_forms.specs.Numbering.{type_number, type_rows}
use Rattle.region_forms.specs.World.{type_at, exception_at}
use Rattle.region_forms.specs.Effect.{enters, entered}
use Rattle.region_forms.specs.Outcome.{State, Context, Result, stopped, stop, continued, only_if, change}
use Rattle.region_forms.specs.Ending.{Running, bad_row, terminate_with, raise, perform}
use Rattle.linear_simulation.specs.Watched.{same_type, terminate_for, watched_handled, watched_pass, watched_after, watched_handler, watched_unexpected, watched_limit}
use Rattle.region_forms.specs.Unexpected.{kept_with, throw_bad}
use Rattle.region_simulation.specs.Places.{Places}
use Rattle.region_simulation.specs.Stands.{exception_of, AreHandlers, IsHandler, Stands, context_of}
use Rattle.region_simulation.specs.Alike.{Alike}
use Rattle.region_simulation.specs.Calls.{SameArguments}
use Rattle.region_simulation.proofs.Following.{Agreement}
use Rattle.region_exceptions.specs.Same.{RunAlike}
use Rattle.region_exceptions.specs.Ends.{EndsAlike}
use Rattle.region_exceptions.specs.Raises.{CanBeRaised}
use Rattle.region_exceptions.specs.Scopes.{Any}
use Rattle.region_exceptions.specs.Fares.{IsOrderly, GoesOn, Fares, CallsFare}
use Rattle.region_exceptions.specs.Handlers.{EmptyDestructor}
use Rattle.region_exceptions.specs.Extents.{EmptyConstructor}
use Rattle.region_exceptions.proofs.Standing.{stands_guarded, stands_outside, follows_changed}
use Rattle.region_exceptions.proofs.Barriers.{follows_outside}
use Rattle.region_exceptions.proofs.Caught.{front_newest}
use Rattle.region_exceptions.proofs.Doomed.{doomed_alike}
use Rattle.region_exceptions.proofs.Ends.{ends_out, terminates_with as terminates_out}
use Rattle.region_exceptions.proofs.Raises.{native_in, exception_same, type_same, raises as raises_out}
use Rattle.region_exceptions.proofs.Scopes.{IsSteady}
use Rattle.region_exceptions.proofs.Entering.{entered_stands, enters_out}
use Rattle.region_exceptions.proofs.LettingGo.{handler_watched}
use Rattle.region_exceptions.proofs.Keeping.{same_itself}
use Rattle.region_exceptions.proofs.FaringHandlers.{entry_fares}
use Rattle.region_exceptions.proofs.FaringScopes.{contains_first, contains_more}
use Rattle.region_exceptions.proofs.Faring.{orderly_sound}
use Rattle.region_exceptions.proofs.BadExceptions.{bad_out}
use Rattle.region_simulation.specs.Lives.{CanBeThrown}
use Rattle.region_exceptions.specs.Left.{CanBeLeft}
use Rattle.region_exceptions.proofs.Since.{follows_older, alike_older, alike_since, inside_since, left_on, left_newly}
use Rattle.region_exceptions.proofs.Asked.{stays_native, enterable}
use Rattle.region_forms.specs.Lives.{is_native, may_enter}

-- bad_exception is listed by its row where it is by its class
bad_listed : (types : List ObjectType) → contains (map type_number types) bad_row ≡ some_of is_bad_exception types
bad_listed [] = refl
bad_listed (int_type ∷ types) = bad_listed types
bad_listed (class_type zero ∷ types) = refl
bad_listed (class_type (suc k) ∷ types) =
    let other : (suc k + 1 == 1) ≡ false = grind (arith, nat_tests) in
    let another : (suc k == 0) ≡ false = grind (arith, nat_tests) in
    ap (λ z. z || contains (map type_number types) bad_row) other ∙ bad_listed types ∙ sym (ap (λ z. z || some_of is_bad_exception types) another)

kept_same : (p : Checked) (x : SourceException) → kept_with (exception_of p x) ≡ source_kept_with x
kept_same p source_building = refl
kept_same p (source_native t o kept) = refl
kept_same p (source_foreign k t) = refl

-- what has a type is not foreign
typed_is_native : (x : SourceException) → is_none (source_exception_type x) ≡ false → source_is_foreign x ≡ false
typed_is_native source_building h = refl
typed_is_native (source_native t o kept) h = refl
typed_is_native (source_foreign k t) h = absurd (cc h)

kept_handlers : (l : Layout) (p : Checked) (at : Places) (c : SourceContext) (w : SourceWorld) (s : State) → Stands l p at c w s → (e : ℕ)
    → AreHandlers p (source_kept_with (source_exception_at w e))
kept_handlers l p at c w s stands e = go (source_exception_at w e) refl
  where
    go : (x : SourceException) → source_exception_at w e ≡ x → AreHandlers p (source_kept_with x)
    go source_building is = (tt, tt)
    go (source_native t o kept) is = let (i, there) = native_in w.live e o t kept is in (stands.kept i e o t kept there).handlers
    go (source_foreign k t) is = (tt, tt)

module _ (laws : CaughtListFollows) (l : Layout) (a : SourceRunning) (b : Running) (same : RunAlike l a b) (fare : CallsFare a) (empty : EmptyDestructor l a b)
    (makes : EmptyConstructor l a b) {A B : Type 0} (agree : Agreement A B) (m : ℕ) (steady : IsSteady agree m) (types : List ObjectType) where
  abbrev numbers : List ℕ
  numbers = map type_number types

  allowed_same : (at : Places) (c : SourceContext) (w : SourceWorld) (s : State) → Stands l a.program at c w s → (e : ℕ)
      → allows b.types numbers (type_at s.world e) ≡ source_allows a.program types (source_type_at w e)
  allowed_same at c w s stands e =
      ap (λ rows. allows rows numbers (type_at s.world e)) same.types ∙ ap (allows (type_rows a.program) numbers) (type_same l a.program at c w s stands e) ∙
      (doomed_alike a.program same.ordered (source_type_at w e)).allowed types

  -- terminate is called with the handler kept with an exception, which stays
  for_same : (C : Type 0) (at : Places) (c : SourceContext) (w : SourceWorld) (s : State) (e : ℕ) (kept : Installed) → Stands l a.program at c w s → source_kept_with (source_exception_at w e) ≡ kept
      → (ctx : Context) → terminate_for {A = C} b e kept.terminate_handler ctx s ≡ terminate_with b kept.terminate_handler ctx s
  for_same C at c w s e kept stands keeps ctx =
      ap (λ z. (if z then terminate_with {A = C} b kept.terminate_handler ctx else stop deep) s)
      (ap (λ x. same_type kept.terminate_handler x.terminate_handler) (ap kept_with (exception_same l a.program at c w s stands e) ∙ kept_same a.program (source_exception_at w e) ∙ keeps) ∙
      same_itself kept.terminate_handler)

  -- what is known where it goes on
  goes_alike : (at : Places) (k n : ℕ) (c d : SourceContext) (w : SourceWorld) (s : State) (x : SourceResult (Unit {0})) (y : Result (Unit {0})) → Alike l a.program at k d w s Any x y
      → Fares a.program n c w x → Alike l a.program at k d w s (λ u v w2 at2 s2. GoesOn c w w2) x y
  goes_alike at k n c d w s (source_done u w2) y (v, s2, is, (h, z)) fares = (v, s2, is, (h, fares))
  goes_alike at k n c d w s (source_stopped (thrown f) w2) y h fares = h
  goes_alike at k n c d w s (source_stopped (cancelled q) w2) y h fares = h
  goes_alike at k n c d w s (source_stopped undefined w2) y h fares = tt
  goes_alike at k n c d w s (source_stopped (ended q) w2) y h fares = h
  goes_alike at k n c d w s (source_stopped out_of_turns w2) y h fares = h
  goes_alike at k n c d w s (source_stopped deep w2) y h fares = h

  -- an exception out of the unexpected handler is passed on
  pass_out : (e : ℕ) (kept : Installed) → AreHandlers a.program kept → (at : Places) (k : ℕ) (d : SourceContext) (w : SourceWorld) (s : State) (f : ℕ) → Stands l a.program at d w s
      → source_kept_with (source_exception_at w e) ≡ kept → CanBeRaised d w f → CanBeThrown w.live f → Alike l a.program at k d w s agree (source_pass_on a types kept f d w) (watched_pass b numbers e kept.terminate_handler f (context_of w.open_calls d) s)
  pass_out e kept handlers at k d w s f stands keeps can built =
      let ctx = context_of w.open_calls d in
      subst (λ z. Alike l a.program at k d w s agree (source_pass_on a types kept f d w)
      ((if z then raise b f ctx else if contains numbers bad_row then throw_bad b ctx else terminate_for b e kept.terminate_handler ctx) s)) (sym (allowed_same at d w s stands f))
      (subst (λ z. Alike l a.program at k d w s agree (source_pass_on a types kept f d w)
      ((if source_allows a.program types (source_type_at w f) then raise b f ctx else if z then throw_bad b ctx else terminate_for b e kept.terminate_handler ctx) s)) (sym (bad_listed types))
      (go (source_allows a.program types (source_type_at w f)) (some_of is_bad_exception types)))
    where
      go : (y z : Bool) → Alike l a.program at k d w s agree
          ((if y then raise_exception {A = A} a f d else if z then throw_new a d (new_bad_exception a d) else source_terminate_with a kept.terminate_handler d) w)
          ((if y then raise {A = B} b f (context_of w.open_calls d) else
          if z then throw_bad b (context_of w.open_calls d) else terminate_for b e kept.terminate_handler (context_of w.open_calls d)) s)
      go true z = raises_out l a b same laws A B at d w s stands f can built agree k
      go false true = bad_out laws l a b same makes fare agree at k d w s stands
      go false false =
          subst (Alike l a.program at k d w s agree (source_terminate_with a kept.terminate_handler d w)) (sym (for_same B at d w s e kept stands keeps (context_of w.open_calls d)))
          (ends_out l a b same agree at k d w s (source_terminate_with a kept.terminate_handler d w) (terminate_with b kept.terminate_handler (context_of w.open_calls d) s)
          (terminates_out l a b same A B at d w s stands kept.terminate_handler handlers.0))

  module _ (e : ℕ) (kept : Installed) (handlers : AreHandlers a.program kept) (c : SourceContext) (held : contains c.handled e ≡ true) where
    abbrev stop_all : SourceGuard
    stop_all = try_block (catch_all ∷ [])

    abbrev inside : SourceContext
    inside = guarded_by stop_all c

    keeps_on : (w w2 : SourceWorld) → GoesOn c w w2 → source_kept_with (source_exception_at w e) ≡ kept → source_kept_with (source_exception_at w2 e) ≡ kept
    keeps_on w w2 g keeps = ap source_kept_with (g.held e held) ∙ keeps

    -- an exception that came out of it is entered, passed on and left
    entered_out : (at : Places) (k : ℕ) (w0 w : SourceWorld) (s : State) (f : ℕ) → Stands l a.program at (with_travelling f c) w s → contains c.travelling f ≡ false → only_front f c.handled ≡ true
        → source_kept_with (source_exception_at w e) ≡ kept → CanBeLeft (contains c.handled f) f at w0 w
        → Alike l a.program at k c w0 s agree (source_after_unexpected a types kept c (source_stopped (thrown f) w))
        (watched_after b numbers e kept.terminate_handler (context_of w.open_calls c) (stopped (thrown f) s))
    entered_out at k w0 w s f stands rests front keeps left =
        let (within_ends, enters_same) = enters_out l a b same at k c w s f stands rests front laws in
        let sound = stands.sound in
        let order : IsOrderly c w =
        record { handled = sound.handled; travelling = λ g is. sound.travelling g (contains_more f g c.travelling is); live = sound.live; together = sound.together } in
        inside_since l a.program (λ u v w2 at2 s2. GoesOn c w w2) agree at k (handling f c) c w0 s (source_enter a f c w) (perform b (enters f s.frame s.world) (context_of w.open_calls c) s)
        (λ u. source_while_handled a f c (source_pass_on a types kept f)) (λ u. watched_handled b (context_of w.open_calls c) (watched_pass b numbers e kept.terminate_handler f (context_of w.open_calls c))) within_ends
        (alike_older l a.program (λ u v w2 at2 s2. GoesOn c w w2) at k (handling f c) w0 w s (source_enter a f c w) (perform b (enters f s.frame s.world) (context_of w.open_calls c) s) left.objects left.open_calls
        (goes_alike at k 0 c (handling f c) w s (source_enter a f c w) (perform b (enters f s.frame s.world) (context_of w.open_calls c) s) enters_same (entry_fares a fare 0 c w f order)))
        (λ u v w3 s3 h g.
        let can : CanBeRaised (handling f c) w3 f = record {
          made = h.stands.sound.handled f (contains_first f c.handled);
          rests = rests;
          front = front_newest f c.handled h.stands.sound.together.0;
        } in
        let still = left_on l a.program (contains c.handled f) f at k w0 w s (handling f c) w3 s3 left h in
        let x = source_pass_on {A = A} a types kept f (handling f c) w3 in
        subst (λ n. Alike l a.program h.places k c w0 s3 agree (source_while_handled a f c (source_pass_on a types kept f) w3)
        (watched_handled b (context_of n c) (watched_pass b numbers e kept.terminate_handler f (context_of n c)) s3)) (sym left.open_calls)
        (handler_watched l a b same empty laws fare agree m steady h.places k c w0 s3 f h.stands.sound.together.0 rests still.new x
        (watched_pass b numbers e kept.terminate_handler f (context_of w0.open_calls c) s3)
        (subst (λ n. Alike l a.program h.places k (handling f c) w0 s3 agree x (watched_pass b numbers e kept.terminate_handler f (context_of n c) s3)) h.open_calls
        (alike_older l a.program agree h.places k (handling f c) w0 w3 s3 x (watched_pass b numbers e kept.terminate_handler f (context_of w3.open_calls c) s3) still.objects still.open_calls
        (pass_out e kept handlers h.places k (handling f c) w3 s3 f h.stands (keeps_on w w3 g keeps) can (h.stands.sound.entered f (contains_first f c.handled)))))))

    module _ (at : Places) (k : ℕ) (w : SourceWorld) (s : State) (stands : Stands l a.program at c w s) (keeps : source_kept_with (source_exception_at w e) ≡ kept) where
      abbrev ctx : Context
      ctx = context_of w.open_calls c

      after_out : (answers : Agreement ℤ ℤ) (x : SourceResult ℤ) (y : Result ℤ) → Alike l a.program at k inside w s answers x y → Fares a.program w.last_number inside w x
          → Alike l a.program at k c w s agree (source_after_unexpected a types kept c x) (watched_after b numbers e kept.terminate_handler ctx y)
      after_out answers (source_done u w2) y (v, s2, is, (h, z)) fares =
          let g = follows_outside l a.program stop_all at k w s c w2 s2 h in
          ends_out l a b same agree at k c w s (source_terminate_with a kept.terminate_handler c w2) (watched_after b numbers e kept.terminate_handler ctx y)
          (subst (λ r. EndsAlike {A = A} {B = B} (source_terminate_with a kept.terminate_handler c w2) (watched_after b numbers e kept.terminate_handler ctx r)) (sym is)
          (subst (λ q. EndsAlike {A = A} {B = B} (source_terminate_with a kept.terminate_handler c w2) (terminate_for b e kept.terminate_handler (context_of q c) s2)) h.open_calls
          (subst (EndsAlike {A = A} {B = B} (source_terminate_with a kept.terminate_handler c w2))
          (sym (for_same B h.places c w2 s2 e kept g.stands (ap source_kept_with (fares.held e held) ∙ keeps) (context_of w2.open_calls c)))
          (terminates_out l a b same A B h.places c w2 s2 g.stands kept.terminate_handler handlers.0))))
      after_out answers (source_stopped (thrown f) w2) y (s2, is, h) fares =
          let standing = stands_outside l a.program h.places stop_all (with_travelling f c) w2 s2 h.stands in
          let x = source_after_unexpected {A = A} a types kept c (source_stopped (thrown f) w2) in
          subst (λ r. Alike l a.program at k c w s agree x (watched_after b numbers e kept.terminate_handler ctx r)) (sym is)
          (alike_since l a.program agree at k c (with_travelling f inside) w s w2 s2 h x (watched_after b numbers e kept.terminate_handler ctx (stopped (thrown f) s2))
          (subst (λ q. Alike l a.program h.places k c w s2 agree x (watched_after b numbers e kept.terminate_handler (context_of q c) (stopped (thrown f) s2))) h.open_calls
          (entered_out h.places k w w2 s2 f standing fares.1.raised.rests fares.1.raised.front (ap source_kept_with (fares.0.held e held) ∙ keeps)
          (left_newly l a.program at k c w s stands f (with_travelling f inside) w2 s2 h fares.1.known))))
      after_out answers (source_stopped (cancelled q) w2) y (s2, is, h) fares =
          (s2, ap (watched_after b numbers e kept.terminate_handler ctx) is, follows_outside l a.program stop_all at k w s c w2 s2 h)
      after_out answers (source_stopped undefined w2) y h fares = tt
      after_out answers (source_stopped (ended q) w2) y (s2, is, h) fares = (s2, ap (watched_after b numbers e kept.terminate_handler ctx) is, h)
      after_out answers (source_stopped out_of_turns w2) y (s2, is, h) fares = (s2, ap (watched_after b numbers e kept.terminate_handler ctx) is, h)
      after_out answers (source_stopped deep w2) y (s2, is, h) fares = (s2, ap (watched_after b numbers e kept.terminate_handler ctx) is, h)

      run_out : (h : Option ℕ) → IsHandler a.program h
          → Alike l a.program at k c w s agree (source_run_unexpected a types kept h c w) (watched_handler b numbers e kept.terminate_handler h ctx s)
      run_out None is =
          subst (Alike l a.program at k c w s agree (source_terminate_with a kept.terminate_handler c w)) (sym (for_same B at c w s e kept stands keeps ctx))
          (ends_out l a b same agree at k c w s (source_terminate_with a kept.terminate_handler c w) (terminate_with b kept.terminate_handler ctx s)
          (terminates_out l a b same A B at c w s stands kept.terminate_handler handlers.0))
      run_out (Some n) is =
          let standing = stands_guarded l a.program at stop_all c w s stands in
          after_out (λ x y w2 at2 s2. x ≡ y) (a.call (function n) nowhere [] inside w) (b.call n [] (context_of w.open_calls inside) s)
          (same.calls at (function n) nowhere [] [] k inside w s is.0 standing (subst (λ ps. SameArguments l a.program at (types_of ps) [] []) (sym is.1) tt))
          (fare (function n) nowhere [] inside w.last_number w (omega arith) (orderly_sound inside w standing.sound))

  module _ (c : SourceContext) where
    unexpected_out : (at : Places) (k : ℕ) (w0 w : SourceWorld) (s : State) (e : ℕ) → Stands l a.program at (with_travelling e c) w s → contains c.travelling e ≡ false → only_front e c.handled ≡ true
        → source_is_foreign (source_exception_at w e) ≡ false
        → CanBeLeft (contains c.handled e) e at w0 w
        → Alike l a.program at k c w0 s agree (source_unexpected a types e c w) (watched_unexpected b numbers e (context_of w.open_calls c) s)
    unexpected_out at k w0 w s e stands rests front native left =
        subst (λ z. Alike l a.program at k c w0 s agree
        (source_continued ((if z && some_of (λ f. not (f == e)) c.handled then source_terminate a (with_travelling e c) else emit (Enter e)) w)
        (λ u w2. source_while_handled a e c (source_run_unexpected a types (source_kept_with (source_exception_at w2 e)) (source_kept_with (source_exception_at w2 e)).unexpected_handler) w2))
        (watched_unexpected b numbers e (context_of w.open_calls c) s)) (sym native)
        (subst (λ z. Alike l a.program at k c w0 s agree handled (continued (only_if z (change (entered e)) s)
        (λ u. watched_handled b ctx (watched_handler b numbers e (kept_with (exception_at s.world e)).terminate_handler (kept_with (exception_at s.world e)).unexpected_handler ctx)))) (sym may)
        (subst (λ q. Alike l a.program at k c w0 s agree handled (watched_handled b ctx (watched_handler b numbers e q.terminate_handler q.unexpected_handler ctx) s1))
        (sym (ap kept_with (exception_same l a.program at (with_travelling e c) w s stands e) ∙ kept_same a.program (source_exception_at w e)))
        (alike_since l a.program agree at k c (handling e c) w0 s w1 s1
        (follows_older l a.program at k w0 w s (handling e c) w1 s1 left.objects left.open_calls (follows_changed l a.program at k (handling e c) w w1 s s1.world refl refl refl stands1))
        handled (watched_handled b ctx (watched_handler b numbers e kept.terminate_handler kept.unexpected_handler ctx) s1)
        (subst (λ n. Alike l a.program at k c w0 s1 agree handled (watched_handled b (context_of n c) (watched_handler b numbers e kept.terminate_handler kept.unexpected_handler (context_of n c)) s1))
        (sym left.open_calls)
        (handler_watched l a b same empty laws fare agree m steady at k c w0 s1 e stands1.sound.together.0 rests left.new run
        (watched_handler b numbers e kept.terminate_handler kept.unexpected_handler (context_of w0.open_calls c) s1)
        (subst (λ n. Alike l a.program at k (handling e c) w0 s1 agree run (watched_handler b numbers e kept.terminate_handler kept.unexpected_handler (context_of n c) s1)) left.open_calls
        (alike_older l a.program agree at k (handling e c) w0 w1 s1 run (watched_handler b numbers e kept.terminate_handler kept.unexpected_handler ctx s1) left.objects left.open_calls
        (run_out e kept handlers (handling e c) (contains_first e c.handled) at k w1 s1 stands1 refl kept.unexpected_handler handlers.1))))))))
      where
        ctx : Context
        ctx = context_of w.open_calls c

        may : (is_native (exception_at s.world e) && may_enter s.world e) ≡ true
        may =
            ap₂ (λ x y. x && y)
            (stays_native l a.program at (with_travelling e c) w s stands e (stands.sound.thrown e (contains_first e c.travelling)) native)
            (enterable l a.program at c w s e stands front)

        kept : Installed
        kept = source_kept_with (source_exception_at w e)

        handlers : AreHandlers a.program kept
        handlers = kept_handlers l a.program at (with_travelling e c) w s stands e

        w1 : SourceWorld
        w1 = record w { items = w.items ++ Enter e ∷ [] }

        s1 : State
        s1 = record s { world = entered e s.world }

        stands1 : Stands l a.program at (handling e c) w1 s1
        stands1 = entered_stands l a.program at c w s e stands rests front laws

        run : SourceResult A
        run = source_run_unexpected a types kept kept.unexpected_handler (handling e c) w1

        handled : SourceResult A
        handled = source_while_handled a e c (source_run_unexpected a types kept kept.unexpected_handler) w1

    -- however what is under a specification comes out
    pub extent_out : (at : Places) (k : ℕ) (w : SourceWorld) (s : State) → Stands l a.program at c w s → (x : SourceResult A) (y : Result B) → Alike l a.program at k (guarded_by (specification types) c) w s agree x y
        → Fares a.program w.last_number (guarded_by (specification types) c) w x
        → Alike l a.program at k c w s agree (after_extent a types c x) (watched_limit b numbers (context_of w.open_calls c) y)
    extent_out at k w s stands (source_done u w2) y (v, s2, is, (h, z)) fares =
        (v, s2, ap (watched_limit b numbers (context_of w.open_calls c)) is, (follows_outside l a.program (specification types) at k w s c w2 s2 h, z))
    extent_out at k w s stands (source_stopped (thrown e) w2) y (s2, is, h) fares =
        let inside = guarded_by (specification types) c in
        let standing = stands_outside l a.program h.places (specification types) (with_travelling e c) w2 s2 h.stands in
        let x = after_extent {A = A} a types c (source_stopped (thrown e) w2) in
        subst (λ r. Alike l a.program at k c w s agree x (watched_limit b numbers (context_of w.open_calls c) r)) (sym is)
        (subst (λ z. Alike l a.program at k c w s agree x ((if z then stop (thrown e) else watched_unexpected b numbers e (context_of w.open_calls c)) s2))
        (sym (allowed_same h.places (with_travelling e inside) w2 s2 h.stands e)) (go standing (source_allows a.program types (source_type_at w2 e)) refl))
      where
        go : Stands l a.program h.places (with_travelling e c) w2 s2 → (z : Bool) → source_allows a.program types (source_type_at w2 e) ≡ z
            → Alike l a.program at k c w s agree ((if z then source_stop (thrown e) else source_unexpected a types e c) w2)
            ((if z then stop (thrown e) else watched_unexpected b numbers e (context_of w.open_calls c)) s2)
        go standing true said = (s2, refl, follows_outside l a.program (specification types) at k w s (with_travelling e c) w2 s2 h)
        go standing false said =
            let t = source_type_at w2 e in
            let safe = subst (λ z. source_dooms t (cond (not z) (Some (specification types)) (find (source_stops a.program t) c.guards)) ≡ false) said fares.1.safe in
            let x = source_unexpected {A = A} a types e c w2 in
            alike_since l a.program agree at k c (with_travelling e (guarded_by (specification types) c)) w s w2 s2 h x (watched_unexpected b numbers e (context_of w.open_calls c) s2)
            (subst (λ q. Alike l a.program h.places k c w s2 agree x (watched_unexpected b numbers e (context_of q c) s2)) h.open_calls
            (unexpected_out h.places k w w2 s2 e standing fares.1.raised.rests fares.1.raised.front (typed_is_native (source_exception_at w2 e) safe)
            (left_newly l a.program at k c w s stands e (with_travelling e (guarded_by (specification types) c)) w2 s2 h fares.1.known)))
    extent_out at k w s stands (source_stopped (cancelled q) w2) y (s2, is, h) fares =
        (s2, ap (watched_limit b numbers (context_of w.open_calls c)) is, follows_outside l a.program (specification types) at k w s c w2 s2 h)
    extent_out at k w s stands (source_stopped undefined w2) y h fares = tt
    extent_out at k w s stands (source_stopped (ended q) w2) y (s2, is, h) fares = (s2, ap (watched_limit b numbers (context_of w.open_calls c)) is, h)
    extent_out at k w s stands (source_stopped out_of_turns w2) y (s2, is, h) fares = (s2, ap (watched_limit b numbers (context_of w.open_calls c)) is, h)
    extent_out at k w s stands (source_stopped deep w2) y (s2, is, h) fares = (s2, ap (watched_limit b numbers (context_of w.open_calls c)) is, h)
