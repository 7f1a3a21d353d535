-- What is watched is what regions do, or it stops as a call that is too deep.
use Rattle.std.proofs.Common.{◌≡◌, ℕ, zero, suc, ◌+◌, ◌⊎◌, inl, inr, Bool, true, false, List, [], ◌∷◌, Option, Some, None, refl, sym, ap, ◌∙◌, subst}
use Rattle.std.specs.Prelude.{ℤ, not, max, ◌==◌, slice_get, unwrap_or, if◌then◌else◌}
use Rattle.run_items.specs.declared.item.Item.TheVariants.{Destroy}
use Rattle.meaning_forms.specs.Arithmetic.{is_zero}
use Rattle.meaning_forms.specs.Class.{contains}
use Rattle.meaning_forms.specs.Outcome.{Stop, thrown, cancelled, ended, undefined, out_of_turns, deep, aborted}
use Rattle.region_forms.specs.Caught.{gives_back}
use Rattle.region_forms.specs.Form.{Op, evaluate, store, bind, call, construct, destroy, make, throw, rethrow, enter, leave, Cleanup, destroy_scope, destroy_part, free_object, leave_handler, Region, seq, op, branch, loop, protect, catch, limit, barrier, leave_region, RegionList, no_regions, region_then, Clauses, no_clauses, clause_then, RegionFunction, Regions, Value, kinds_of, no_function}
use Rattle.region_forms.specs.World.{Word, address_word, object_address, Frame, Exception, building, native, foreign, exception_at, type_at, with_item}
use Rattle.region_forms.specs.Guard.{clauses, listed, everything, matches, allows, types_of, is_doomed}
use Rattle.meaning_forms.specs.World.{Installed}
use Rattle.region_forms.specs.Evaluation.{value_in}
use Rattle.region_forms.specs.Effect.{Effect, goes, calls, raises, terminates, ends, cancels, leaves_newest, meaningless, effect, finished, newest_of, left, enters, flies, is_full}
use Rattle.region_forms.specs.Outcome.{State, Context, Flow, normal, leaves, Result, done, stopped, Action, continued, pure, stop, some, change, guarded_by, ◌>>=◌, ◌>>◌, only_if}
use Rattle.region_forms.specs.Ending.{Running, terminate_with, terminate, run_terminate_handler, after_terminate_handler, terminate_because, enter_and_terminate, raise, after_barrier, behind_barrier, unwound, after_scope, after_part, after_destructor, spend, empty_call, open_call, call_destructor, give_back, leave_newest, settled, perform, bad_row}
use Rattle.region_forms.specs.Unexpected.{kept_with, throw_bad, pass_on, made, while_handled, after_unexpected, run_unexpected_handler, unexpected, after_limit, keep_bad, enter_stopped}
use Rattle.region_forms.specs.Meaning.{outwards, followed, operation, value_of, loop_of, cleaned, after_try, with_object, region, regions, caught, after_call, called_state, function_result, run_function, call_with, no_frame, first_world, after_main}
use Rattle.meaning_forms.specs.Meaning.{stopped_by}
use Rattle.linear_simulation.specs.ProgramRuns.{WatchedIsMeant}
use Rattle.linear_simulation.specs.Watched.{same_type, still, kept_type, kept_on, not_its_own, watched_leave, watched_operation, watched_cleaned, watched_handled, watched_pass, terminate_for, watched_after, watched_handler, watched_unexpected, watched_limit, watched_protect, watched, watched_all, watched_caught, watched_function, watched_call, watched_call_of}
use Rattle.region_forms.specs.Lives.{may_leave}

-- the first result is the second, or stops as deep
abbrev pub Watches : {A : Type 0} → Result A → Result A → Type 0
Watches x y = (x ≡ y) ⊎ ((s : State) × (x ≡ stopped deep s))

watches_same : {A : Type 0} (x : Result A) → Watches x x
watches_same x = inl refl

bind_watches : {A B : Type 0} (x y : Result A) (f g : A → Action B) → Watches x y → ((a : A) (s : State) → Watches (f a s) (g a s)) → Watches (continued x f) (continued y g)
bind_watches {A} {B} x y f g (inr (s, e)) h = inr (s, ap (λ z. continued z f) e)
bind_watches {A} {B} x y f g (inl e) h = subst (λ z. Watches (continued z f) (continued y g)) (sym e) (go y)
  where
    go : (z : Result A) → Watches (continued z f) (continued z g)
    go (done a s) = h a s
    go (stopped q s) = inl refl

-- through what leaves a stop as deep as it is
through : {A B : Type 0} (x y : Result A) (f g : Result A → Result B) → Watches x y → ((s : State) → f (stopped deep s) ≡ stopped deep s) → ((z : Result A) → Watches (f z) (g z)) → Watches (f x) (g y)
through x y f g (inl e) d h = subst (λ z. Watches (f z) (g y)) (sym e) (h y)
through x y f g (inr (s, e)) d h = inr (s, ap f e ∙ d s)

-- the same runs but for calls
module _ (v r : Running) (types : v.types ≡ r.types) (kinds : v.kinds ≡ r.kinds) (limits : v.limit ≡ r.limit)
    (calls_watch : (g : ℕ) (words : List Word) (c : Context) (s : State) → Watches (v.call g words c s) (r.call g words c s)) where
  handler_watches : {A : Type 0} (h : Option ℕ) (c : Context) (s : State) → Watches (run_terminate_handler {A = A} v h c s) (run_terminate_handler r h c s)
  handler_watches None c s = inl refl
  handler_watches {A} (Some h) c s = through _ _ (after_terminate_handler {B = A}) (after_terminate_handler {B = A}) (calls_watch h [] (guarded_by everything c) _) (λ s2. refl) (λ z. inl refl)

  terminate_watches : {A : Type 0} (h : Option ℕ) (c : Context) (s : State) → Watches (terminate_with {A = A} v h c s) (terminate_with r h c s)
  terminate_watches {A} h c s = go (s.world.ending)
    where
      go : (b : Bool) → Watches ((if b then stop {A = A} (ended aborted) else run_terminate_handler v h c) s) ((if b then stop (ended aborted) else run_terminate_handler r h c) s)
      go true = inl refl
      go false = handler_watches {A = A} h c s

  enter_watches : {A : Type 0} (e : ℕ) (x : Exception) (c : Context) (s : State) → Watches (enter_and_terminate {A = A} v e x c s) (enter_and_terminate r e x c s)
  enter_watches {A} e (native t d k) c s = terminate_watches {A = A} k.terminate_handler c _
  enter_watches {A} e building c s = terminate_watches {A = A} s.world.installed.terminate_handler c s
  enter_watches {A} e (foreign k t) c s = terminate_watches {A = A} s.world.installed.terminate_handler c s

  because_watches : {A : Type 0} (e : ℕ) (c : Context) (s : State) → Watches (terminate_because {A = A} v e c s) (terminate_because r e c s)
  because_watches {A} e c s = go (s.world.ending)
    where
      go : (b : Bool) → Watches ((if b then stop {A = A} (ended aborted) else enter_and_terminate v e (exception_at s.world e) c) s) ((if b then stop (ended aborted) else enter_and_terminate r e (exception_at s.world e) c) s)
      go true = inl refl
      go false = enter_watches {A = A} e (exception_at s.world e) c s

  raise_watches : {A : Type 0} (e : ℕ) (c : Context) (s : State) → Watches (raise {A = A} v e c s) (raise r e c s)
  raise_watches {A} e c s =
      subst (λ rows. Watches ((if is_doomed rows c.guards (type_at s.world e) then terminate_because {A = A} v e c else (change (flies e) >> stop (thrown e))) s) (raise r e c s)) (sym types)
      (go (is_doomed r.types c.guards (type_at s.world e)))
    where
      go : (b : Bool) → Watches ((if b then terminate_because {A = A} v e c else (change (flies e) >> stop (thrown e))) s) ((if b then terminate_because r e c else (change (flies e) >> stop (thrown e))) s)
      go true = because_watches {A = A} e c s
      go false = inl refl

  barrier_watches : {A : Type 0} (c : Context) (x y : Result A) → Watches x y → Watches (after_barrier v c x) (after_barrier r c y)
  barrier_watches {A} c x y h = through x y (after_barrier v c) (after_barrier r c) h (λ s. refl) go
    where
      go : (z : Result A) → Watches (after_barrier v c z) (after_barrier r c z)
      go (done a s) = inl refl
      go (stopped (thrown e) s) = inl refl
      go (stopped (cancelled n) s) = terminate_watches {A = A} s.world.installed.terminate_handler c s
      go (stopped (ended e) s) = inl refl
      go (stopped undefined s) = inl refl
      go (stopped out_of_turns s) = inl refl
      go (stopped deep s) = inl refl

  module _ (f g : Context → Action (Unit {0})) (h : (c : Context) (s : State) → Watches (f c s) (g c s)) where
    behind_watches : (c : Context) (s : State) → Watches (behind_barrier v c f s) (behind_barrier r c g s)
    behind_watches c s = barrier_watches c (f (guarded_by everything c) s) (g (guarded_by everything c) s) (h (guarded_by everything c) s)

    unwound_watches : {A : Type 0} (c : Context) (x : Stop) (s : State) → Watches (unwound {A = A} v c f x s) (unwound r c g x s)
    unwound_watches {A} c (thrown e) s = bind_watches _ _ (λ u. stop {A = A} (thrown e)) (λ u. stop (thrown e)) (behind_watches c s) (λ u s2. inl refl)
    unwound_watches {A} c (cancelled n) s = bind_watches _ _ (λ u. stop {A = A} (cancelled n)) (λ u. stop (cancelled n)) (behind_watches c s) (λ u s2. inl refl)
    unwound_watches c (ended e) s = inl refl
    unwound_watches c undefined s = inl refl
    unwound_watches c out_of_turns s = inl refl
    unwound_watches c deep s = inl refl

    scope_watches : {A : Type 0} (c : Context) (z : Result A) → Watches (after_scope v c f z) (after_scope r c g z)
    scope_watches c (done a s) = bind_watches (f c s) (g c s) (λ u. pure a) (λ u. pure a) (h c s) (λ u s2. inl refl)
    scope_watches {A} c (stopped x s) = unwound_watches {A = A} c x s

    part_watches : {A : Type 0} (c : Context) (z : Result A) → Watches (after_part v c f z) (after_part r c g z)
    part_watches c (done a s) = inl refl
    part_watches {A} c (stopped x s) = unwound_watches {A = A} c x s

  empty_watches : (c : Context) (s : State) → Watches (empty_call v c s) (empty_call r c s)
  empty_watches c s = subst (λ l. Watches ((open_call l c >> change (λ w. record w { deepest = max w.deepest (c.depth + 1) })) s) (empty_call r c s)) (sym limits) (inl refl)

  destructor_watches : (t : ℕ) (d : Option ℕ) (e : ℕ) (c : Context) (s : State) → Watches (call_destructor v t d e c s) (call_destructor r t d e c s)
  destructor_watches t None e c s = go (t == bad_row)
    where
      go : (b : Bool) → Watches ((if b then empty_call v c else pure tt) s) ((if b then empty_call r c else pure tt) s)
      go true = empty_watches c s
      go false = inl refl
  destructor_watches t (Some d) e c s =
      bind_watches (v.call d (address_word (object_address e) ∷ []) c s) (r.call d (address_word (object_address e) ∷ []) c s) (λ u. pure tt) (λ u. pure tt)
      (calls_watch d (address_word (object_address e) ∷ []) c s) (λ u s2. inl refl)

  give_watches : (e : ℕ) (x : Exception) (c : Context) (s : State) → Watches (give_back v e x c s) (give_back r e x c s)
  give_watches e building c s = inl refl
  give_watches e (native t d handlers) c s =
      let s2 : State = record s { world = with_item (Destroy e) s.world } in
      through (call_destructor v t d e c s2) (call_destructor r t d e c s2) (after_destructor e) (after_destructor e) (destructor_watches t d e c s2) (λ s3. refl) (λ z. inl refl)
  give_watches e (foreign k t) c s = inl refl

  only_watches : {A : Type 0} (b : Bool) (f g : Action A) (s : State) → Watches (f s) (g s) → Watches (only_if b f s) (only_if b g s)
  only_watches true f g s h = h
  only_watches false f g s h = inl refl

  newest_watches : (c : Context) (s : State) → Watches (leave_newest v c s) (leave_newest r c s)
  newest_watches c s = only_watches (may_leave s.world s.world.caught) _ _ s (go (gives_back s.world.caught))
    where
      e : ℕ
      e = newest_of s.world.caught

      go : (b : Bool) → Watches ((if b then give_back v e (exception_at s.world e) c else pure tt) (record s { world = left s.world }))
          ((if b then give_back r e (exception_at s.world e) c else pure tt) (record s { world = left s.world }))
      go true = give_watches e (exception_at s.world e) c (record s { world = left s.world })
      go false = inl refl

  still_watches : {A : Type 0} (b : Bool) (e : ℕ) (s : State) → Watches (still {A = A} b e s) (stopped (thrown e) s)
  still_watches true e s = inl refl
  still_watches false e s = inr (s, refl)

  own_watches : {A : Type 0} (e : ℕ) (z : Result A) → Watches (not_its_own e z) z
  own_watches e (done a s) = inl refl
  own_watches {A} e (stopped (thrown f) s) = still_watches {A = A} (not (f == e)) f s
  own_watches e (stopped (cancelled n) s) = inl refl
  own_watches e (stopped (ended n) s) = inl refl
  own_watches e (stopped undefined s) = inl refl
  own_watches e (stopped out_of_turns s) = inl refl
  own_watches e (stopped deep s) = inl refl

  type_watches : {A : Type 0} (t : Option ℕ) (z : Result A) → Watches (kept_type t z) z
  type_watches t (done a s) = inl refl
  type_watches {A} t (stopped (thrown f) s) = still_watches {A = A} (same_type t (type_at s.world f)) f s
  type_watches t (stopped (cancelled n) s) = inl refl
  type_watches t (stopped (ended n) s) = inl refl
  type_watches t (stopped undefined s) = inl refl
  type_watches t (stopped out_of_turns s) = inl refl
  type_watches t (stopped deep s) = inl refl

  -- one after the other
  watches_on : {A : Type 0} (x y z : Result A) → Watches x y → Watches y z → Watches x z
  watches_on x y z (inr d) h = inr d
  watches_on x y z (inl e) (inl q) = inl (e ∙ q)
  watches_on x y z (inl e) (inr (s, q)) = inr (s, e ∙ q)

  kept_watches : {A B : Type 0} (before : Result A) (x y : Result B) → Watches x y → Watches (kept_on before x) y
  kept_watches (done a s) x y h = h
  kept_watches (stopped (thrown e) s) x y h = watches_on (kept_type (type_at s.world e) x) x y (type_watches (type_at s.world e) x) h
  kept_watches (stopped (cancelled n) s) x y h = h
  kept_watches (stopped (ended n) s) x y h = h
  kept_watches (stopped undefined s) x y h = h
  kept_watches (stopped out_of_turns s) x y h = h
  kept_watches (stopped deep s) x y h = h

  leave_watches : (c : Context) (s : State) → Watches (watched_leave v c s) (leave_newest r c s)
  leave_watches c s =
      watches_on (watched_leave v c s) (leave_newest v c s) (leave_newest r c s) (own_watches (newest_of s.world.caught) (leave_newest v c s)) (newest_watches c s)

  perform_watches : (x : Effect) (c : Context) (s : State) → Watches (perform v x c s) (perform r x c s)
  perform_watches (goes f w) c s = inl refl
  perform_watches (calls p n given) c s =
      bind_watches (v.call n given c s) (r.call n given c s) (λ a s2. settled (finished v.kinds p a s2.frame s2.world) s2) (λ a s2. settled (finished r.kinds p a s2.frame s2.world) s2)
      (calls_watch n given c s) (λ a s2. inl (ap (λ k. settled (finished k p a s2.frame s2.world) s2) kinds))
  perform_watches (raises e w) c s = raise_watches {A = Unit {0}} e c (record s { world = w })
  perform_watches (terminates h w) c s = terminate_watches {A = Unit {0}} h c (record s { world = w })
  perform_watches (ends e w) c s = inl refl
  perform_watches (cancels n w) c s = inl refl
  perform_watches leaves_newest c s = newest_watches c s
  perform_watches meaningless c s = inl refl

  operation_watches : (o : Op) (c : Context) (s : State) → Watches (operation v o c s) (operation r o c s)
  operation_watches o c s =
      subst (λ k. Watches (perform v (effect k o s.frame s.world) c s) (operation r o c s)) (sym kinds) (perform_watches (effect r.kinds o s.frame s.world) c s)

  watched_watches : (o : Op) (c : Context) (s : State) → Watches (watched_operation v o c s) (operation r o c s)
  watched_watches (evaluate x) c s = operation_watches (evaluate x) c s
  watched_watches (store p x) c s = operation_watches (store p x) c s
  watched_watches (bind x p) c s = operation_watches (bind x p) c s
  watched_watches (call k args) c s = operation_watches (call k args) c s
  watched_watches (construct p k args) c s = operation_watches (construct p k args) c s
  watched_watches (destroy p k) c s = operation_watches (destroy p k) c s
  watched_watches (make x) c s = operation_watches (make x) c s
  watched_watches (throw x t d) c s = operation_watches (throw x t d) c s
  watched_watches rethrow c s = operation_watches rethrow c s
  watched_watches (enter x) c s = operation_watches (enter x) c s
  watched_watches leave c s = leave_watches c s

  cleaned_watches : (cl : Cleanup) (c : Context) (z : Result Flow) → Watches (watched_cleaned v cl c z) (cleaned r cl c z)
  cleaned_watches (destroy_scope p d) c z = scope_watches (operation v (destroy p d)) (operation r (destroy p d)) (operation_watches (destroy p d)) c z
  cleaned_watches (destroy_part p d) c z = part_watches (operation v (destroy p d)) (operation r (destroy p d)) (operation_watches (destroy p d)) c z
  cleaned_watches (free_object x) c z = inl refl
  cleaned_watches leave_handler c z = scope_watches (watched_leave v) (operation r leave) leave_watches c z

  protect_watches : (cl : Cleanup) (c : Context) (x y : Result Flow) → Watches x y → Watches (watched_protect v cl c x) (cleaned r cl c y)
  protect_watches cl c x y h = through x y (watched_protect v cl c) (cleaned r cl c) h (deeper cl) (λ z. kept_watches z (watched_cleaned v cl c z) (cleaned r cl c z) (cleaned_watches cl c z))
    where
      deeper : (cl : Cleanup) (s : State) → watched_protect v cl c (stopped deep s) ≡ stopped deep s
      deeper (destroy_scope p d) s = refl
      deeper (destroy_part p d) s = refl
      deeper (free_object k) s = refl
      deeper leave_handler s = refl

  handled_watches : {A : Type 0} (c : Context) (f g : Action A) (s : State) → Watches (f s) (g s) → Watches (watched_handled v c f s) (while_handled r c g s)
  handled_watches c f g s h =
      through (f s) (g s) (λ z. kept_on z (after_scope v c (watched_leave v) z)) (after_scope r c (leave_newest r)) h (λ s2. refl)
      (λ z. kept_watches z (after_scope v c (watched_leave v) z) (after_scope r c (leave_newest r) z) (scope_watches (watched_leave v) (leave_newest r) leave_watches c z))

  bad_watches : {A : Type 0} (c : Context) (s : State) → Watches (throw_bad {A = A} v c s) (throw_bad r c s)
  bad_watches {A} c s = go (is_full s.world)
    where
      e : ℕ
      e = s.world.last_number + 1

      f : Running → Action A
      f q = keep_bad e >> raise q e c

      go : (b : Bool) → Watches ((if b then terminate {A = A} v c else (change made >> (empty_call v c >> f v))) s) ((if b then terminate r c else (change made >> (empty_call r c >> f r))) s)
      go true = terminate_watches {A = A} s.world.installed.terminate_handler c s
      go false =
          let s1 : State = record s { world = made s.world } in
          bind_watches (empty_call v c s1) (empty_call r c s1) (λ u. f v) (λ u. f r) (empty_watches c s1)
          (λ u s2. bind_watches (keep_bad e s2) (keep_bad e s2) (λ x. raise v e c) (λ x. raise r e c) (inl refl) (λ x s3. raise_watches {A = A} e c s3))

  for_watches : {A : Type 0} (e : ℕ) (h : Option ℕ) (c : Context) (s : State) → Watches (terminate_for {A = A} v e h c s) (terminate_with r h c s)
  for_watches {A} e h c s = go (same_type h (kept_with (exception_at s.world e)).terminate_handler)
    where
      go : (b : Bool) → Watches ((if b then terminate_with {A = A} v h c else stop deep) s) (terminate_with r h c s)
      go true = terminate_watches {A = A} h c s
      go false = inr (s, refl)

  pass_watches : {A : Type 0} (ts : List ℕ) (e : ℕ) (handlers : Installed) (f : ℕ) (c : Context) (s : State) → Watches (watched_pass {A = A} v ts e handlers.terminate_handler f c s) (pass_on r ts handlers f c s)
  pass_watches {A} ts e handlers f c s =
      subst (λ rows. Watches ((if allows rows ts (type_at s.world f) then raise {A = A} v f c else (if contains ts bad_row then throw_bad v c else terminate_for v e handlers.terminate_handler c)) s)
      (pass_on r ts handlers f c s)) (sym types) (go (allows r.types ts (type_at s.world f)) (contains ts bad_row))
    where
      go : (b d : Bool) → Watches ((if b then raise {A = A} v f c else (if d then throw_bad v c else terminate_for v e handlers.terminate_handler c)) s)
          ((if b then raise r f c else (if d then throw_bad r c else terminate_with r handlers.terminate_handler c)) s)
      go true d = raise_watches {A = A} f c s
      go false true = bad_watches {A = A} c s
      go false false = for_watches {A = A} e handlers.terminate_handler c s

  after_watches : {A : Type 0} (ts : List ℕ) (e : ℕ) (handlers : Installed) (c : Context) (z : Result ℤ)
      → Watches (watched_after {A = A} v ts e handlers.terminate_handler c z) (after_unexpected r ts handlers c z)
  after_watches {A} ts e handlers c (done a s) = for_watches {A = A} e handlers.terminate_handler c s
  after_watches {A} ts e handlers c (stopped (thrown f) s) =
      bind_watches (perform v (enters f s.frame s.world) c s) (perform r (enters f s.frame s.world) c s) _ _ (perform_watches (enters f s.frame s.world) c s)
      (λ u s2. handled_watches c (watched_pass {A = A} v ts e handlers.terminate_handler f c) (pass_on r ts handlers f c) s2 (pass_watches {A = A} ts e handlers f c s2))
  after_watches ts e handlers c (stopped (cancelled n) s) = inl refl
  after_watches ts e handlers c (stopped (ended n) s) = inl refl
  after_watches ts e handlers c (stopped undefined s) = inl refl
  after_watches ts e handlers c (stopped out_of_turns s) = inl refl
  after_watches ts e handlers c (stopped deep s) = inl refl

  called_watches : {A : Type 0} (ts : List ℕ) (e : ℕ) (handlers : Installed) (u : Option ℕ) (c : Context) (s : State)
      → Watches (watched_handler {A = A} v ts e handlers.terminate_handler u c s) (run_unexpected_handler r ts handlers u c s)
  called_watches {A} ts e handlers None c s = for_watches {A = A} e handlers.terminate_handler c s
  called_watches {A} ts e handlers (Some u) c s =
      through (v.call u [] (guarded_by (clauses (None ∷ [])) c) s) (r.call u [] (guarded_by (clauses (None ∷ [])) c) s) (watched_after {A = A} v ts e handlers.terminate_handler c)
      (after_unexpected r ts handlers c) (calls_watch u [] (guarded_by (clauses (None ∷ [])) c) s) (λ s2. refl) (after_watches {A = A} ts e handlers c)

  limit_watches : (ts : List ℕ) (c : Context) (x y : Result Flow) → Watches x y → Watches (watched_limit v ts c x) (after_limit r ts c y)
  limit_watches ts c x y h = through x y (watched_limit v ts c) (after_limit r ts c) h (λ s. refl) each
    where
      either : (e : ℕ) (s : State) (b : Bool) → Watches ((if b then stop {A = Flow} (thrown e) else watched_unexpected v ts e c) s) ((if b then stop (thrown e) else unexpected r ts e c) s)
      either e s true = inl refl
      either e s false =
          let k = kept_with (exception_at s.world e) in
          bind_watches (enter_stopped e s) (enter_stopped e s) _ _ (inl refl)
          (λ u s1. handled_watches c (watched_handler {A = Flow} v ts e k.terminate_handler k.unexpected_handler c) (run_unexpected_handler r ts k k.unexpected_handler c) s1
          (called_watches {A = Flow} ts e k k.unexpected_handler c s1))

      each : (z : Result Flow) → Watches (watched_limit v ts c z) (after_limit r ts c z)
      each (done a s) = inl refl
      each (stopped (thrown e) s) =
          subst (λ rows. Watches ((if allows rows ts (type_at s.world e) then stop {A = Flow} (thrown e) else watched_unexpected v ts e c) s) (after_limit r ts c (stopped (thrown e) s))) (sym types)
          (either e s (allows r.types ts (type_at s.world e)))
      each (stopped (cancelled n) s) = inl refl
      each (stopped (ended n) s) = inl refl
      each (stopped undefined s) = inl refl
      each (stopped out_of_turns s) = inl refl
      each (stopped deep s) = inl refl

  try_watches : (f g : ℕ → Action Flow) (x y : Result Flow) → ((e : ℕ) (s : State) → Watches (f e s) (g e s)) → Watches x y → Watches (after_try f x) (after_try g y)
  try_watches f g x y n h = through x y (after_try f) (after_try g) h (λ s. refl) each
    where
      each : (z : Result Flow) → Watches (after_try f z) (after_try g z)
      each (done a s) = inl refl
      each (stopped (thrown e) s) = n e s
      each (stopped (cancelled k) s) = inl refl
      each (stopped (ended k) s) = inl refl
      each (stopped undefined s) = inl refl
      each (stopped out_of_turns s) = inl refl
      each (stopped deep s) = inl refl

  followed_watches : (f g : Action Flow) → ((s : State) → Watches (f s) (g s)) → (flow : Flow) (s : State) → Watches (followed f flow s) (followed g flow s)
  followed_watches f g h normal s = h s
  followed_watches f g h (leaves k) s = inl refl

  bounded_watches : (x y : Result Flow) → Watches x y → Watches (continued x (λ flow. pure (outwards flow))) (continued y (λ flow. pure (outwards flow)))
  bounded_watches x y h = bind_watches x y (λ flow. pure (outwards flow)) (λ flow. pure (outwards flow)) h (λ flow s. inl refl)

  value_same : (x : Value) → value_of v x ≡ value_of r x
  value_same x = ap (λ k s. some (value_in k s.frame s.world x) s) kinds

  either_watches : (b : Bool) (s : State) (f g p q : Action Flow) → Watches (f s) (p s) → Watches (g s) (q s) → Watches ((if b then f else g) s) ((if b then p else q) s)
  either_watches true s f g p q h k = h
  either_watches false s f g p q h k = k

  loop_watches : (x : Value) (f g : Action Flow) → ((s : State) → Watches (f s) (g s)) → (n : ℕ) (s : State) → Watches (loop_of n (value_of r x) f s) (loop_of n (value_of r x) g s)
  loop_watches x f g h zero s = inl refl
  loop_watches x f g h (suc n) s = spent s.turns (loop_watches x f g h n)
    where
      rest : Action Flow → ℤ → Action Flow
      rest y z = if is_zero z then pure normal else (y >>= followed (loop_of n (value_of r x) y))

      spent : (u : ℕ) → ((s2 : State) → Watches (loop_of n (value_of r x) f s2) (loop_of n (value_of r x) g s2))
          → Watches (continued (spend u s) (λ t. value_of r x >>= rest f)) (continued (spend u s) (λ t. value_of r x >>= rest g))
      spent zero more = inl refl
      spent (suc u) more =
          let s1 : State = record s { turns = u } in
          bind_watches (value_of r x s1) (value_of r x s1) (rest f) (rest g) (inl refl)
          (λ z s2. either_watches (is_zero z) s2 (pure normal) (f >>= followed (loop_of n (value_of r x) f)) (pure normal) (g >>= followed (loop_of n (value_of r x) g)) (inl refl)
          (bind_watches (f s2) (g s2) (followed (loop_of n (value_of r x) f)) (followed (loop_of n (value_of r x) g)) (h s2)
          (λ flow s3. followed_watches (loop_of n (value_of r x) f) (loop_of n (value_of r x) g) more flow s3)))

  mutual
    region_watches : (a : Region) (c : Context) (s : State) → Watches (watched v a c s) (region r a c s)
    region_watches (seq rs) c s = bounded_watches (watched_all v rs c s) (regions r rs c s) (rows_watch rs c s)
    region_watches (op o) c s = bind_watches (watched_operation v o c s) (operation r o c s) (λ u. pure normal) (λ u. pure normal) (watched_watches o c s) (λ u s2. inl refl)
    region_watches (branch x a b) c s =
        bounded_watches (continued (value_of v x s) (λ z. if is_zero z then watched v b c else watched v a c)) (continued (value_of r x s) (λ z. if is_zero z then region r b c else region r a c))
        (bind_watches (value_of v x s) (value_of r x s) (λ z. if is_zero z then watched v b c else watched v a c) (λ z. if is_zero z then region r b c else region r a c)
        (inl (ap (λ y. y s) (value_same x)))
        (λ z s2. either_watches (is_zero z) s2 (watched v b c) (watched v a c) (region r b c) (region r a c) (region_watches b c s2) (region_watches a c s2)))
    region_watches (loop x a) c s =
        bounded_watches (loop_of (suc s.turns) (value_of v x) (watched v a c) s) (loop_of (suc s.turns) (value_of r x) (region r a c) s)
        (subst (λ y. Watches (loop_of (suc s.turns) y (watched v a c) s) (loop_of (suc s.turns) (value_of r x) (region r a c) s)) (sym (value_same x))
        (loop_watches x (watched v a c) (region r a c) (region_watches a c) (suc s.turns) s))
    region_watches (protect a cl) c s =
        bounded_watches (watched_protect v cl c (watched v a c s)) (cleaned r cl c (region r a c s)) (protect_watches cl c (watched v a c s) (region r a c s) (region_watches a c s))
    region_watches (catch a cs) c s =
        let d = guarded_by (clauses (types_of cs)) c in
        bounded_watches (after_try (watched_caught v cs c) (watched v a d s)) (after_try (caught r cs c) (region r a d s))
        (try_watches (watched_caught v cs c) (caught r cs c) (watched v a d s) (region r a d s) (handlers_watch cs c) (region_watches a d s))
    region_watches (limit a ts) c s =
        let d = guarded_by (listed ts) c in
        bounded_watches (watched_limit v ts c (watched v a d s)) (after_limit r ts c (region r a d s)) (limit_watches ts c (watched v a d s) (region r a d s) (region_watches a d s))
    region_watches (barrier a) c s =
        let d = guarded_by everything c in
        bounded_watches (after_barrier v c (watched v a d s)) (after_barrier r c (region r a d s)) (barrier_watches c (watched v a d s) (region r a d s) (region_watches a d s))
    region_watches (leave_region k) c s = inl refl

    rows_watch : (rs : RegionList) (c : Context) (s : State) → Watches (watched_all v rs c s) (regions r rs c s)
    rows_watch no_regions c s = inl refl
    rows_watch (region_then a rs) c s =
        bind_watches (watched v a c s) (region r a c s) (followed (watched_all v rs c)) (followed (regions r rs c)) (region_watches a c s)
        (λ flow s2. followed_watches (watched_all v rs c) (regions r rs c) (rows_watch rs c) flow s2)

    handlers_watch : (cs : Clauses) (c : Context) (e : ℕ) (s : State) → Watches (watched_caught v cs c e s) (caught r cs c e s)
    handlers_watch no_clauses c e s = inl refl
    handlers_watch (clause_then t x a cs) c e s =
        subst (λ rows. Watches ((if matches rows (type_at s.world e) t then (λ u. watched v a c (with_object x e u)) else watched_caught v cs c e) s) (caught r (clause_then t x a cs) c e s)) (sym types)
        (either_watches (matches r.types (type_at s.world e) t) s (λ u. watched v a c (with_object x e u)) (watched_caught v cs c e) (λ u. region r a c (with_object x e u)) (caught r cs c e)
        (region_watches a c (with_object x e s)) (handlers_watch cs c e s))

call_back : (x : Frame) (a b : Result ℤ) → Watches a b → Watches (after_call x a) (after_call x b)
call_back x a b (inl e) = inl (ap (after_call x) e)
call_back x a b (inr (s, e)) = inr (record s { frame = x }, ap (after_call x) e)

pub call_watches : (p : Regions) (most fuel g : ℕ) (words : List Word) (c : Context) (s : State) → Watches (watched_call p most fuel g words c s) (call_with p most fuel g words c s)
call_watches p most zero g words c s = inl refl
call_watches p most (suc fuel) g words c s = go (slice_get p.functions g) (call_watches p most fuel)
  where
    before : Running
    before = record { types = p.types; kinds = kinds_of []; limit = most; call = watched_call p most fuel }

    real : Running
    real = record { types = p.types; kinds = kinds_of []; limit = most; call = call_with p most fuel }

    inner : Context
    inner = record c { depth = c.depth + 1 }

    function_watches : (f : RegionFunction) → ((h : ℕ) (ws : List Word) (d : Context) (s2 : State) → Watches (watched_call p most fuel h ws d s2) (call_with p most fuel h ws d s2))
        → (s1 : State) → Watches (watched_function before f words inner s1) (run_function real f words inner s1)
    function_watches f h s1 =
        let v2 : Running = record before { kinds = kinds_of f.slots } in
        let r2 : Running = record real { kinds = kinds_of f.slots } in
        let s2 = called_state (kinds_of f.slots) words inner.depth s1 in
        call_back s1.frame _ _ (bind_watches (watched v2 f.body inner s2) (region r2 f.body inner s2) (λ u. function_result (kinds_of f.slots) f.result) (λ u. function_result (kinds_of f.slots) f.result)
        (region_watches v2 r2 refl refl refl h f.body inner s2) (λ u s3. inl refl))

    go : (o : Option RegionFunction) → ((h : ℕ) (ws : List Word) (d : Context) (s2 : State) → Watches (watched_call p most fuel h ws d s2) (call_with p most fuel h ws d s2))
        → Watches (watched_call_of o before words c s) ((open_call most c >> run_function real (unwrap_or o no_function) words inner) s)
    go None h = inr (s, refl)
    go (Some f) h = bind_watches (open_call most c s) (open_call most c s) (λ u. watched_function before f words inner) (λ u. run_function real f words inner) (inl refl) (λ u s1. function_watches f h s1)

pub watched_is_meant : WatchedIsMeant
watched_is_meant p most input replies turns =
    go _ _ (call_watches p most (suc turns) p.main [] (record { guards = []; depth = 0 }) (record { frame = no_frame; world = first_world p.globals input replies; turns = turns }))
  where
    go : (a b : Result ℤ) → Watches a b → (after_main a ≡ after_main b) ⊎ ((after_main a).main ≡ stopped_by deep)
    go a b (inl e) = inl (ap after_main e)
    go a b (inr (s, e)) = inr (ap (λ z. (after_main z).main) e)
