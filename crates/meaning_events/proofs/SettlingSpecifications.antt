-- What specifications and the unexpected handler settle.
use Rattle.std.proofs.Common.{◌≡◌, ℕ, ◌<◌, ◌⊎◌, inl, inr, ℤ, Bool, true, false, List, [], ◌∷◌, ◌++◌, Option, Some, None, refl, sym, ap, ◌∙◌, arith, length}
use Rattle.std.specs.Prelude.{not, find, cond, map, if◌then◌else◌}
use Rattle.cxx_ast.specs.Plain.{Checked, Specification, listed, noexcept}
use Rattle.meaning_forms.specs.Class.{ObjectType, class_type, some_of, contains, object_type}
use Rattle.meaning_forms.specs.Part.{unset}
use Rattle.meaning_forms.specs.World.{World, Installed, Reference, whole, nowhere, exception_at, type_at}
use Rattle.meaning_forms.specs.Context.{Context, Guard, catch_all, try_block, specification, guarded_by, handling}
use Rattle.meaning_forms.specs.Guard.{allows, stops, dooms, is_doomed}
use Rattle.meaning_forms.specs.Outcome.{Result, done, stopped, thrown, cancelled, ended, undefined, out_of_turns, deep, Action, pure, stop, continued}
use Rattle.meaning_forms.specs.Running.{Running, function, constructor}
use Rattle.meaning_forms.specs.Construct.{constructor_for, default_object}
use Rattle.meaning_forms.specs.Terminate.{terminate_with, terminate}
use Rattle.meaning_forms.specs.Throw.{throw_new, raise_exception}
use Rattle.meaning_forms.specs.Handler.{enter, while_handled}
use Rattle.meaning_forms.specs.Specification.{kept_with, is_bad_exception, new_bad_exception, pass_on, after_unexpected, run_unexpected_handler, unexpected, after_extent, under_specification, after_specification}
use Rattle.meaning_events.specs.Fates.{Story, story, fate, IsWhole, Tells}
use Rattle.meaning_events.specs.Settles.{Nobody, Unless, IsOwn, Spares, Settles, SettlesIn, AlwaysSettles, CallsSettle}
use Rattle.meaning_events.proofs.Sparing.{never, spares_none, spares_out, spares_caught}
use Rattle.meaning_events.proofs.Telling.{held_first, handled_old}
use Rattle.meaning_events.proofs.Settling.{settled_same, settled_out, settles_map, settles_then, ends_settle, terminates_with, raise_settles, terminates}
use Rattle.meaning_events.proofs.SettlingThrows.{throw_settles}
use Rattle.meaning_events.proofs.SettlingHandlers.{while_handled_settles, entered_settles}

module _ (p : Checked) (hs : List ℕ) (gs : List Guard) where
  -- an exception that came out is settled by what follows
  pub caught_on : {A : Type 0} (s s1 : Story) (e : ℕ) (x : Result A) → Tells hs s → Spares Nobody s s1 (λ q. q ≡ e) → (contains hs e ≡ true) ⊎ IsOwn Nobody s e
      → Settles p hs gs (Unless (contains hs e) e) s1 x → Settles p hs gs Nobody s x
  caught_on s s1 e x tells h known g =
      settles_map p hs gs s1 s x (λ s3 Q k. spares_caught s s1 s3 e (contains hs e) h k (λ there. handled_old hs s e tells there) (goes known)) own g
    where
      goes : (contains hs e ≡ true) ⊎ IsOwn Nobody s e → contains hs e ≡ false → s.last < e
      goes (inl there) none = absurd (never (sym there ∙ none))
      goes (inr (inl nobody)) none = absurd nobody
      goes (inr (inr lt)) none = lt

      own : (q : ℕ) → IsOwn (Unless (contains hs e) e) s1 q → IsOwn Nobody s q
      own q (inl (same, none)) = let lt = goes known none in inr (omega (arith, lt, same))
      own q (inr lt) = let a = h.later in inr (omega (arith, lt, a))

  -- an exception goes on, with nothing done
  pub goes_on_out : (A : Type 0) (w : World) (e : ℕ) → Tells hs (story w) → IsWhole (fate (story w) e) → is_doomed p gs (type_at w e) ≡ false
      → Settles {A = A} p hs gs (Unless (contains hs e) e) (story w) (stopped (thrown e) w)
  goes_on_out A w e tells whole safe = (
    record { tells = tells; spares = spares_out (story w) (story w) (λ q out. out.0) (spares_none hs (story w) tells) },
    record { known = go (contains hs e) refl; whole = whole; safe = safe },
  )
    where
      go : (z : Bool) → contains hs e ≡ z → (contains hs e ≡ true) ⊎ IsOwn (Unless (contains hs e) e) (story w) e
      go true is = inl is
      go false is = inr (inl (refl, is))

module _ (r : Running) (calls : CallsSettle r) where
  pub default_settles : (k : ℕ) (target : Reference) → AlwaysSettles r.program (default_object r k target)
  default_settles k target c w tells =
      settles_then r.program c.handled c.guards Nobody (story w) (r.call (constructor k (constructor_for r.program k 0)) target [] c w) (λ v. pure (tt {0}))
      (calls (constructor k (constructor_for r.program k 0)) target [] c w tells) (λ v w2 more. settled_same c.handled (story w2) more)

  pub bad_settles : AlwaysSettles r.program (new_bad_exception r)
  bad_settles c w tells =
      let w1 : World = record w { objects = w.objects ++ unset r.program (class_type 0) ∷ [] } in
      let o = length w.objects in
      settles_then r.program c.handled c.guards Nobody (story w) (default_object r 0 (whole o) c w1) (λ u. pure o) (default_settles 0 (whole o) c w1 tells)
      (λ u w2 more. settled_same c.handled (story w2) more)

  -- an exception out of the unexpected handler is passed on
  pass_settles : (A : Type 0) (types : List ObjectType) (kept : Installed) (f : ℕ) (c : Context) → SettlesIn {A = A} r.program (handling f c) (pass_on r types kept f (handling f c))
  pass_settles A types kept f c w tells = go (allows r.program types (type_at w f)) (some_of is_bad_exception types)
    where
      go : (y z : Bool) → Settles {A = A} r.program (f ∷ c.handled) c.guards Nobody (story w)
          ((if y then raise_exception r f (handling f c) else
          if z then throw_new r (handling f c) (new_bad_exception r (handling f c)) else terminate_with r kept.terminate_handler (handling f c)) w)
      go true z =
          raise_settles r calls A (handling f c) (story w) w f (settled_out (f ∷ c.handled) (story w) f tells) (tells.whole f (held_first f c.handled)) (inl (held_first f c.handled))
      go false true = throw_settles r calls (handling f c) A (new_bad_exception r (handling f c)) (bad_settles (handling f c)) w tells
      go false false =
          ends_settle r.program (f ∷ c.handled) c.guards Nobody (story w) (terminate_with r kept.terminate_handler (handling f c) w)
          (terminates_with r calls A (handling f c) w kept.terminate_handler tells)

  -- however the unexpected handler comes out
  after_unexpected_settles : (A : Type 0) (types : List ObjectType) (kept : Installed) (c : Context) (s : Story) → Tells c.handled s → (x : Result ℤ)
      → Settles r.program c.handled (try_block (catch_all ∷ []) ∷ c.guards) Nobody s x → Settles {A = A} r.program c.handled c.guards Nobody s (after_unexpected r types kept c x)
  after_unexpected_settles A types kept c s tells (done v w2) h =
      ends_settle r.program c.handled c.guards Nobody s (terminate_with r kept.terminate_handler c w2) (terminates_with r calls A c w2 kept.terminate_handler h.tells)
  after_unexpected_settles A types kept c s tells (stopped (thrown f) w2) h =
      caught_on r.program c.handled c.guards s (story w2) f (continued (enter r f c w2) (λ u. while_handled r f c (pass_on {A = A} r types kept f))) tells h.0.spares h.1.known
      (entered_settles r calls c (Unless (contains c.handled f) f) w2 f (λ u. while_handled r f c (pass_on {A = A} r types kept f)) h.0.tells h.1.whole
      (λ w3 more same. while_handled_settles r calls c w3 f (pass_on {A = A} r types kept f) more (pass_settles A types kept f c)))
  after_unexpected_settles A types kept c s tells (stopped (cancelled v) w2) h = h
  after_unexpected_settles A types kept c s tells (stopped undefined w2) h = h
  after_unexpected_settles A types kept c s tells (stopped (ended x) w2) h = h
  after_unexpected_settles A types kept c s tells (stopped out_of_turns w2) h = h
  after_unexpected_settles A types kept c s tells (stopped deep w2) h = h

  run_settles : (A : Type 0) (types : List ObjectType) (kept : Installed) (h : Option ℕ) (c : Context) → SettlesIn {A = A} r.program c (run_unexpected_handler r types kept h c)
  run_settles A types kept None c w tells =
      ends_settle r.program c.handled c.guards Nobody (story w) (terminate_with r kept.terminate_handler c w) (terminates_with r calls A c w kept.terminate_handler tells)
  run_settles A types kept (Some h) c w tells =
      let d = guarded_by (try_block (catch_all ∷ [])) c in
      after_unexpected_settles A types kept c (story w) tells (r.call (function h) nowhere [] d w) (calls (function h) nowhere [] d w tells)

  unexpected_settles : (A : Type 0) (types : List ObjectType) (c : Context) (w : World) (e : ℕ) → Tells c.handled (story w) → IsWhole (fate (story w) e)
      → Settles {A = A} r.program c.handled c.guards (Unless (contains c.handled e) e) (story w) (unexpected r types e c w)
  unexpected_settles A types c w e tells whole =
      entered_settles r calls c (Unless (contains c.handled e) e) w e
      (λ u w2. while_handled r e c (run_unexpected_handler {A = A} r types (kept_with (exception_at w2 e)) (kept_with (exception_at w2 e)).unexpected_handler) w2) tells whole
      (λ w2 more same. let kept = kept_with (exception_at w2 e) in
      while_handled_settles r calls c w2 e (run_unexpected_handler {A = A} r types kept kept.unexpected_handler) more (run_settles A types kept kept.unexpected_handler (handling e c)))

  -- the extent of a specification
  pub extent_settles : {A : Type 0} (types : List ObjectType) (c : Context) (s : Story) → Tells c.handled s → (x : Result A)
      → Settles r.program c.handled (specification types ∷ c.guards) Nobody s x → Settles r.program c.handled c.guards Nobody s (after_extent r types c x)
  extent_settles types c s tells (done u w2) h = h
  extent_settles {A} types c s tells (stopped (thrown e) w2) h =
      caught_on r.program c.handled c.guards s (story w2) e ((if allows r.program types (type_at w2 e) then stop (thrown e) else unexpected r types e c) w2) tells h.0.spares h.1.known
      (go (allows r.program types (type_at w2 e)) refl)
    where
      go : (z : Bool) → allows r.program types (type_at w2 e) ≡ z
          → Settles {A = A} r.program c.handled c.guards (Unless (contains c.handled e) e) (story w2) ((if z then stop (thrown e) else unexpected r types e c) w2)
      go true is =
          goes_on_out r.program c.handled c.guards A w2 e h.0.tells h.1.whole
          (ap (λ z. dooms (type_at w2 e) (cond (not z) (Some (specification types)) (find (stops r.program (type_at w2 e)) c.guards))) (sym is) ∙ h.1.safe)
      go false is = unexpected_settles A types c w2 e h.0.tells h.1.whole
  extent_settles types c s tells (stopped (cancelled v) w2) h = h
  extent_settles types c s tells (stopped undefined w2) h = h
  extent_settles types c s tells (stopped (ended x) w2) h = h
  extent_settles types c s tells (stopped out_of_turns w2) h = h
  extent_settles types c s tells (stopped deep w2) h = h

  -- what comes out of what is noexcept is entered, and ends
  noexcept_settles : {A : Type 0} (place : ℕ) (b : Bool) (c : Context) (s : Story) → Tells c.handled s → (x : Result A)
      → Settles r.program c.handled (try_block (catch_all ∷ []) ∷ c.guards) Nobody s x → Settles r.program c.handled c.guards Nobody s (after_specification r (noexcept place b) c x)
  noexcept_settles place b c s tells (done u w2) h = h
  noexcept_settles {A} place b c s tells (stopped (thrown e) w2) h =
      caught_on r.program c.handled c.guards s (story w2) e (continued (enter r e c w2) (λ u. terminate {A = A} r (handling e c))) tells h.0.spares h.1.known
      (entered_settles r calls c (Unless (contains c.handled e) e) w2 e (λ u. terminate {A = A} r (handling e c)) h.0.tells h.1.whole
      (λ w3 more same.
      ends_settle r.program c.handled c.guards (Unless (contains c.handled e) e) (story w3) (terminate {A = A} r (handling e c) w3) (terminates r calls A (handling e c) w3 more)))
  noexcept_settles place b c s tells (stopped (cancelled v) w2) h = h
  noexcept_settles place b c s tells (stopped undefined w2) h = h
  noexcept_settles place b c s tells (stopped (ended x) w2) h = h
  noexcept_settles place b c s tells (stopped out_of_turns w2) h = h
  noexcept_settles place b c s tells (stopped deep w2) h = h

  pub specified_settles : {A : Type 0} (o : Option Specification) (act : Context → Action A) → AlwaysSettles r.program act → AlwaysSettles r.program (under_specification r o act)
  specified_settles None act settles c w tells = settles c w tells
  specified_settles (Some (listed listing)) act settles c w tells =
      let types = map object_type listing in
      extent_settles types c (story w) tells (act (guarded_by (specification types) c) w) (settles (guarded_by (specification types) c) w tells)
  specified_settles (Some (noexcept place b)) act settles c w tells =
      noexcept_settles place b c (story w) tells (act (guarded_by (try_block (catch_all ∷ [])) c) w) (settles (guarded_by (try_block (catch_all ∷ [])) c) w tells)
