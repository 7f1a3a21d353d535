-- What computations settle one after the other, through raising, terminate and barriers.
use Rattle.std.proofs.Common.{◌≡◌, ℕ, ◌≤◌, ◌⊎◌, inl, inr, Bool, true, false, List, [], ◌∷◌, ◌++◌, Option, Some, None, refl, sym, ap, ◌∙◌, subst, arith}
use Rattle.std.specs.Prelude.{if◌then◌else◌}
use Rattle.cxx_ast.specs.Plain.{Checked}
use Rattle.run_items.specs.declared.item.Item.TheVariants.{Enter}
use Rattle.meaning_forms.specs.Class.{contains}
use Rattle.meaning_forms.specs.World.{World, Exception, nowhere, building, native, foreign, exception_at, exception_type, type_at}
use Rattle.meaning_forms.specs.Context.{Context, Guard, barrier, guarded_by, handling}
use Rattle.meaning_forms.specs.Guard.{is_doomed}
use Rattle.meaning_forms.specs.Outcome.{Result, done, stopped, thrown, cancelled, ended, aborted, undefined, out_of_turns, deep, Action, stop, continued}
use Rattle.meaning_forms.specs.Running.{Running, function}
use Rattle.meaning_forms.specs.Terminate.{after_terminate_handler, run_terminate_handler, terminate_with, terminate, enter_and_terminate, terminate_because, after_barrier}
use Rattle.meaning_forms.specs.Throw.{raise_exception}
use Rattle.meaning_events.specs.Fates.{Story, story, fate, IsWhole, Tells}
use Rattle.meaning_events.specs.Settles.{Nobody, IsOwn, Spares, Settled, ComesOut, Settles, Inside, Ends, CallsSettle}
use Rattle.meaning_events.proofs.Sparing.{made_before, spares_none, spares_on, spares_more}
use Rattle.meaning_events.proofs.Telling.{tells_enter}

pub settled_same : (hs : List ℕ) (s : Story) → Tells hs s → Settled hs Nobody s s Nobody
settled_same hs s h = record { tells = h; spares = spares_none hs s h }

-- one that stays comes out, with nothing done
pub settled_out : (hs : List ℕ) (s : Story) (e : ℕ) → Tells hs s → Settled hs Nobody s s (λ q. q ≡ e)
settled_out hs s e h = record { tells = h; spares = spares_more s s (λ q no_one. no_one) (λ q no_one. absurd no_one) (spares_none hs s h) }

pub since_on : {own P : ℕ → Type 0} (s s1 : Story) → Spares own s s1 P → (q : ℕ) → IsOwn Nobody s1 q → IsOwn own s q
since_on s s1 h q (inl nobody) = absurd nobody
since_on s s1 h q (inr lt) = let a = h.later in inr (omega (arith, lt, a))

-- what is known already is no number given since
pub not_since : (s : Story) (e : ℕ) → e ≤ s.last → IsOwn Nobody s e → ⊥
not_since s e le (inl nobody) = nobody
not_since s e le (inr lt) = omega (arith, le, lt)

module _ (p : Checked) (hs : List ℕ) (gs : List Guard) where
  -- what is said from one story on is said from another
  pub settles_map : {A : Type 0} {own own2 : ℕ → Type 0} (s1 s : Story) (x : Result A) → ((s3 : Story) (Q : ℕ → Type 0) → Spares own s1 s3 Q → Spares own2 s s3 Q)
      → ((q : ℕ) → IsOwn own s1 q → IsOwn own2 s q) → Settles p hs gs own s1 x → Settles p hs gs own2 s x
  settles_map s1 s (done a w) spares own h = record { tells = h.tells; spares = spares (story w) Nobody h.spares }
  settles_map {A} {own} {own2} s1 s (stopped (thrown e) w) spares own1 h =
      (record { tells = h.0.tells; spares = spares (story w) (λ q. q ≡ e) h.0.spares }, record { known = go h.1.known; whole = h.1.whole; safe = h.1.safe })
    where
      go : (contains hs e ≡ true) ⊎ IsOwn own s1 e → (contains hs e ≡ true) ⊎ IsOwn own2 s e
      go (inl there) = inl there
      go (inr mine) = inr (own1 e mine)
  settles_map s1 s (stopped (cancelled n) w) spares own h = record { tells = h.tells; spares = spares (story w) Nobody h.spares }
  settles_map s1 s (stopped undefined w) spares own h = h
  settles_map s1 s (stopped (ended e) w) spares own h = h
  settles_map s1 s (stopped out_of_turns w) spares own h = h
  settles_map s1 s (stopped deep w) spares own h = h

  -- what follows what began earlier
  pub settles_on : {A : Type 0} {own : ℕ → Type 0} (s s1 : Story) (x : Result A) → Settled hs own s s1 Nobody → Settles p hs gs Nobody s1 x → Settles p hs gs own s x
  settles_on s s1 x h g = settles_map s1 s x (λ s3 Q k. spares_on s s1 s3 h.spares k (λ q no_one. absurd no_one) (λ q out. out)) (since_on s s1 h.spares) g

  -- and then what is known of what goes on
  pub settles_seq : {A B : Type 0} {own : ℕ → Type 0} (s : Story) (x : Result A) (f : A → Action B) → Settles p hs gs own s x
      → ((a : A) (w : World) → Settled hs own s (story w) Nobody → Settles p hs gs own s (f a w)) → Settles p hs gs own s (continued x f)
  settles_seq s (done a w) f h next = next a w h
  settles_seq s (stopped (thrown e) w) f h next = h
  settles_seq s (stopped (cancelled n) w) f h next = h
  settles_seq s (stopped undefined w) f h next = h
  settles_seq s (stopped (ended e) w) f h next = h
  settles_seq s (stopped out_of_turns w) f h next = h
  settles_seq s (stopped deep w) f h next = h

  pub settles_then : {A B : Type 0} (own : ℕ → Type 0) (s : Story) (x : Result A) (f : A → Action B) → Settles p hs gs own s x
      → ((a : A) (w : World) → Tells hs (story w) → Settles p hs gs Nobody (story w) (f a w)) → Settles p hs gs own s (continued x f)
  settles_then own s x f h next = settles_seq s x f h (λ a w g. settles_on s (story w) (f a w) g (next a w g.tells))

  pub inside_then : {A B : Type 0} (own : ℕ → Type 0) {own2 : ℕ → Type 0} (s : Story) (x : Result A) (f : A → Action B) → Inside hs own2 s x
      → ((a : A) (w : World) → Settled hs own2 s (story w) Nobody → Settles p hs gs own s (f a w)) → Settles p hs gs own s (continued x f)
  inside_then own s (done a w) f h next = next a w h
  inside_then own s (stopped (thrown e) w) f h next = absurd h
  inside_then own s (stopped (cancelled n) w) f h next = absurd h
  inside_then own s (stopped undefined w) f h next = h
  inside_then own s (stopped (ended e) w) f h next = h
  inside_then own s (stopped out_of_turns w) f h next = h
  inside_then own s (stopped deep w) f h next = h

  pub ends_then : {A B : Type 0} (own : ℕ → Type 0) (s : Story) (x : Result A) (f : A → Action B) → Ends x → Settles p hs gs own s (continued x f)
  ends_then own s (done a w) f h = absurd h
  ends_then own s (stopped (thrown e) w) f h = absurd h
  ends_then own s (stopped (cancelled n) w) f h = absurd h
  ends_then own s (stopped undefined w) f h = h
  ends_then own s (stopped (ended e) w) f h = h
  ends_then own s (stopped out_of_turns w) f h = h
  ends_then own s (stopped deep w) f h = h

  pub ends_settle : {A : Type 0} (own : ℕ → Type 0) (s : Story) (x : Result A) → Ends x → Settles p hs gs own s x
  ends_settle own s (done a w) h = absurd h
  ends_settle own s (stopped (thrown e) w) h = absurd h
  ends_settle own s (stopped (cancelled n) w) h = absurd h
  ends_settle own s (stopped undefined w) h = h
  ends_settle own s (stopped (ended e) w) h = h
  ends_settle own s (stopped out_of_turns w) h = h
  ends_settle own s (stopped deep w) h = h

  pub inside_settles : {A : Type 0} (own : ℕ → Type 0) (s : Story) (x : Result A) → Inside hs own s x → Settles p hs gs own s x
  inside_settles own s (done a w) h = h
  inside_settles own s (stopped (thrown e) w) h = absurd h
  inside_settles own s (stopped (cancelled n) w) h = absurd h
  inside_settles own s (stopped undefined w) h = h
  inside_settles own s (stopped (ended e) w) h = h
  inside_settles own s (stopped out_of_turns w) h = h
  inside_settles own s (stopped deep w) h = h

  -- a cleanup of an exceptional exit, then the stop
  pub thrown_settles : (A : Type 0) {own : ℕ → Type 0} (s s1 : Story) (e : ℕ) (x : Result (Unit {0})) → Settled hs own s s1 (λ q. q ≡ e) → ComesOut p hs gs own s s1 e
      → Inside hs Nobody s1 x → Settles {A = A} p hs gs own s (continued x (λ u. stop (thrown e)))
  thrown_settles A s s1 e (done u w) h comes g =
      let same : fate (story w) e ≡ fate s1 e = g.spares.spared e (not_since s1 e (made_before hs s1 e h.tells comes.whole.live)) in (
        record { tells = g.tells; spares = spares_on s s1 (story w) h.spares g.spares (λ q out. out) (λ q no_one. absurd no_one) },
        record { known = comes.known; whole = subst IsWhole (sym same) comes.whole; safe = ap (λ f. is_doomed p gs (exception_type f.exception)) same ∙ comes.safe },
      )
  thrown_settles A s s1 e (stopped (thrown f) w) h comes g = absurd g
  thrown_settles A s s1 e (stopped (cancelled n) w) h comes g = absurd g
  thrown_settles A s s1 e (stopped undefined w) h comes g = g
  thrown_settles A s s1 e (stopped (ended f) w) h comes g = g
  thrown_settles A s s1 e (stopped out_of_turns w) h comes g = g
  thrown_settles A s s1 e (stopped deep w) h comes g = g

pub ends_inside : {A : Type 0} (hs : List ℕ) (own : ℕ → Type 0) (s : Story) (x : Result A) → Ends x → Inside hs own s x
ends_inside hs own s (done a w) h = absurd h
ends_inside hs own s (stopped (thrown e) w) h = absurd h
ends_inside hs own s (stopped (cancelled n) w) h = absurd h
ends_inside hs own s (stopped undefined w) h = h
ends_inside hs own s (stopped (ended e) w) h = h
ends_inside hs own s (stopped out_of_turns w) h = h
ends_inside hs own s (stopped deep w) h = h

-- one action inside after the other
pub inside_on : {A B : Type 0} (hs : List ℕ) (s : Story) (x : Result A) (f : A → Action B) → Inside hs Nobody s x
    → ((a : A) (w : World) → Settled hs Nobody s (story w) Nobody → Inside hs Nobody s (f a w)) → Inside hs Nobody s (continued x f)
inside_on hs s (done a w) f h next = next a w h
inside_on hs s (stopped (thrown e) w) f h next = absurd h
inside_on hs s (stopped (cancelled n) w) f h next = absurd h
inside_on hs s (stopped undefined w) f h next = h
inside_on hs s (stopped (ended e) w) f h next = h
inside_on hs s (stopped out_of_turns w) f h next = h
inside_on hs s (stopped deep w) f h next = h

-- however a terminate handler comes out, the program ends
after_ends : {A : Type 0} (B : Type 0) (p : Checked) (hs : List ℕ) (gs : List Guard) (s : Story) (x : Result A) → Settles p hs gs Nobody s x → Ends {A = B} (after_terminate_handler x)
after_ends B p hs gs s (done a w) h = h.tells.allowed
after_ends B p hs gs s (stopped (thrown e) w) h = h.0.tells.allowed
after_ends B p hs gs s (stopped (cancelled n) w) h = h.tells.allowed
after_ends B p hs gs s (stopped undefined w) h = h
after_ends B p hs gs s (stopped (ended e) w) h = h
after_ends B p hs gs s (stopped out_of_turns w) h = h
after_ends B p hs gs s (stopped deep w) h = h

module _ (r : Running) (calls : CallsSettle r) where
  pub terminates_with : (A : Type 0) (c : Context) (w : World) (h : Option ℕ) → Tells c.handled (story w) → Ends {A = A} (terminate_with r h c w)
  terminates_with A c w h tells = go c.ending
    where
      run : (h : Option ℕ) → Ends {A = A} (run_terminate_handler r h c w)
      run None = tells.allowed
      run (Some f) =
          let d = guarded_by barrier (record c { ending = true }) in
          after_ends A r.program c.handled (barrier ∷ c.guards) (story w) (r.call (function f) nowhere [] d w) (calls (function f) nowhere [] d w tells)

      go : (z : Bool) → Ends {A = A} ((if z then stop (ended aborted) else run_terminate_handler r h c) w)
      go true = tells.allowed
      go false = run h

  pub terminates : (A : Type 0) (c : Context) (w : World) → Tells c.handled (story w) → Ends {A = A} (terminate r c w)
  terminates A c w tells = terminates_with A c w w.installed.terminate_handler tells

  -- a doomed exception is entered before
  pub terminates_because : (A : Type 0) (c : Context) (w : World) (e : ℕ) → Tells c.handled (story w) → IsWhole (fate (story w) e) → Ends {A = A} (terminate_because r e c w)
  terminates_because A c w e tells whole = go c.ending (exception_at w e)
    where
      enter : (x : Exception) → Ends {A = A} (enter_and_terminate r e x c w)
      enter building = terminates A c w tells
      enter (foreign k t) = terminates A c w tells
      enter (native t o kept) =
          terminates_with A (handling e c) (record w { items = w.items ++ Enter e ∷ [] }) kept.terminate_handler (tells_enter c.handled (story w) e whole tells)

      go : (z : Bool) (x : Exception) → Ends {A = A} ((if z then stop (ended aborted) else enter_and_terminate r e x c) w)
      go true x = tells.allowed
      go false x = enter x

  -- an exception that is whole is doomed, or comes out
  pub raise_settles : (A : Type 0) {own : ℕ → Type 0} (c : Context) (s : Story) (w : World) (e : ℕ) → Settled c.handled own s (story w) (λ q. q ≡ e) → IsWhole (fate (story w) e)
      → (contains c.handled e ≡ true) ⊎ IsOwn own s e → Settles {A = A} r.program c.handled c.guards own s (raise_exception r e c w)
  raise_settles A {own} c s w e h whole known = go (is_doomed r.program c.guards (type_at w e)) refl
    where
      go : (z : Bool) → is_doomed r.program c.guards (type_at w e) ≡ z → Settles {A = A} r.program c.handled c.guards own s ((if z then terminate_because r e c else stop (thrown e)) w)
      go true is = ends_settle r.program c.handled c.guards own s (terminate_because r e c w) (terminates_because A c w e h.tells whole)
      go false is = (h, record { known = known; whole = whole; safe = is })

  -- behind a barrier nothing is thrown
  pub barrier_inside : {A : Type 0} (own : ℕ → Type 0) (c : Context) (s : Story) (x : Result A) → Settles r.program c.handled (barrier ∷ c.guards) own s x
      → Inside c.handled own s (after_barrier r c x)
  barrier_inside own c s (done a w) h = h
  barrier_inside own c s (stopped (thrown e) w) h = absurd (cc h.1.safe)
  barrier_inside {A} own c s (stopped (cancelled n) w) h = ends_inside c.handled own s (terminate r c w) (terminates A c w h.tells)
  barrier_inside own c s (stopped undefined w) h = h
  barrier_inside own c s (stopped (ended e) w) h = h
  barrier_inside own c s (stopped out_of_turns w) h = h
  barrier_inside own c s (stopped deep w) h = h
