-- What a source's computations keep, through raising, terminate, barriers and scopes.
use Rattle.std.proofs.Common.{◌≡◌, ℕ, ◌<◌, ◌≤◌, ◌⊎◌, inl, inr, Bool, true, false, List, [], ◌∷◌, ◌++◌, Option, Some, None, refl, ap, ◌∙◌, subst, arith}
use Rattle.std.specs.Prelude.{slice_get, if◌then◌else◌}
use Rattle.cxx_ast.specs.Plain.{Checked}
use Rattle.run_items.specs.declared.item.Item.TheVariants.{Enter}
use Rattle.meaning_forms.specs.Class.{contains}
use Rattle.meaning_forms.specs.World.{World, Exception, nowhere, building, native, foreign, exception_in, exception_at, type_at}
use Rattle.meaning_forms.specs.Context.{Context, Guard, barrier, guarded_by, handling, with_travelling}
use Rattle.meaning_forms.specs.Guard.{is_doomed}
use Rattle.meaning_forms.specs.Outcome.{Result, done, stopped, thrown, cancelled, ended, aborted, undefined, out_of_turns, deep, Action, pure, stop, change, continued}
use Rattle.meaning_forms.specs.Running.{Running, function}
use Rattle.meaning_forms.specs.Terminate.{after_terminate_handler, run_terminate_handler, terminate_with, terminate, enter_and_terminate, terminate_because, after_barrier}
use Rattle.meaning_forms.specs.Throw.{raise_exception}
use Rattle.region_forms.specs.Caught.{only_front}
use Rattle.region_simulation.specs.Stands.{IsSound}
use Rattle.region_exceptions.specs.Raises.{CanBeRaised}
use Rattle.region_exceptions.specs.Barred.{NotThrown}
use Rattle.region_exceptions.specs.Fares.{IsOrderly, GoesOn, Fares, FaresIn, FaringCallsAreBarred}
use Rattle.region_exceptions.proofs.Standing.{held}
use Rattle.region_simulation.specs.Lives.{is_live}

pub goes_same : (c : Context) (w : World) → IsOrderly c w → GoesOn c w w
goes_same c w h = record { later = omega arith; live = h.live; kept = λ e is. refl; held = λ e is. refl; unbuilt = λ e le u. u }

pub goes_on : (c : Context) (w w2 w3 : World) → GoesOn c w w2 → GoesOn c w2 w3 → GoesOn c w w3
goes_on c w w2 w3 h g =
    let a = h.later in let b = g.later in
    record {
      later = omega (arith, a, b);
      live = g.live;
      kept = λ e is. g.kept e is ∙ h.kept e is;
      held = λ e is. g.held e is ∙ h.held e is;
      unbuilt = λ e le u. g.unbuilt e (omega (arith, le, a)) (h.unbuilt e le u);
    }

-- a world that is live as another is
pub goes_live : (c : Context) (w w2 w3 : World) → w3.live ≡ w2.live → w3.last_number ≡ w2.last_number → GoesOn c w w2 → GoesOn c w w3
goes_live c w w2 w3 live last h =
    let a = h.later in
    record {
      later = omega (arith, a, last);
      live = λ i x is. (let le = h.live i x (subst (λ xs. slice_get xs i ≡ Some x) live is) in omega (arith, le, last));
      kept = λ e is. (ap (λ xs. exception_in xs e) live ∙ h.kept e is);
      held = λ e is. (ap (λ xs. exception_in xs e) live ∙ h.held e is);
      unbuilt = λ e le u. (let v = h.unbuilt e le u in (
        ap (λ xs. is_live xs e) live ∙ v.0,
        ap (λ xs. exception_in xs e) live ∙ v.1,
        λ i o t kept is. v.2 i o t kept (subst (λ xs. slice_get xs i ≡ Some (record { number = e; exception = native t o kept })) live is),
      ));
    }

pub orderly_on : (c : Context) (w w2 : World) → IsOrderly c w → GoesOn c w w2 → IsOrderly c w2
orderly_on c w w2 h g =
    let a = g.later in
    record {
      handled = λ e is. (let le = h.handled e is in omega (arith, le, a));
      travelling = λ e is. (let le = h.travelling e is in omega (arith, le, a));
      live = g.live;
      together = h.together;
    }

pub orderly_as : (c : Context) (w : World) (guards : List Guard) (ending : Bool) → IsOrderly c w → IsOrderly (record c { guards = guards; ending = ending }) w
orderly_as c w guards ending h = record { handled = h.handled; travelling = h.travelling; live = h.live; together = h.together }

pub orderly_travelling : (c : Context) (w : World) (e : ℕ) → e ≤ w.last_number → IsOrderly c w → IsOrderly (with_travelling e c) w
orderly_travelling c w e made h = record { handled = h.handled; travelling = λ f is. go f (held e f c.travelling is); live = h.live; together = h.together }
  where
    go : (f : ℕ) → (f ≡ e) ⊎ (contains c.travelling f ≡ true) → f ≤ w.last_number
    go f (inl same) = omega (arith, same, made)
    go f (inr is) = h.travelling f is

pub orderly_handling : (c : Context) (w : World) (e : ℕ) → e ≤ w.last_number → only_front e c.handled ≡ true → IsOrderly c w → IsOrderly (handling e c) w
orderly_handling c w e made front h = record { handled = λ f is. go f (held e f c.handled is); travelling = h.travelling; live = h.live; together = (front, h.together) }
  where
    go : (f : ℕ) → (f ≡ e) ⊎ (contains c.handled f ≡ true) → f ≤ w.last_number
    go f (inl same) = omega (arith, same, made)
    go f (inr is) = h.handled f is

pub orderly_sound : (c : Context) (w : World) → IsSound c w.last_number w.live → IsOrderly c w
orderly_sound c w h = record { handled = h.handled; travelling = h.travelling; live = h.live; together = h.together }

module _ (p : Checked) (n : ℕ) (c : Context) where
  -- what follows what began earlier
  pub fares_on : {A : Type 0} (w w2 : World) (x : Result A) → GoesOn c w w2 → Fares p n c w2 x → Fares p n c w x
  fares_on w w2 (done a w3) h g = goes_on c w w2 w3 h g
  fares_on w w2 (stopped (thrown e) w3) h g = (goes_on c w w2 w3 h g.0, g.1)
  fares_on w w2 (stopped (cancelled v) w3) h g = goes_on c w w2 w3 h g
  fares_on w w2 (stopped undefined w3) h g = tt
  fares_on w w2 (stopped (ended e) w3) h g = tt
  fares_on w w2 (stopped out_of_turns w3) h g = tt
  fares_on w w2 (stopped deep w3) h g = tt

  pub fares_then : {A B : Type 0} (w : World) (x : Result A) (f : A → Action B) → n ≤ w.last_number → IsOrderly c w → Fares p n c w x → ((a : A) → FaresIn p c (f a)) → Fares p n c w (continued x f)
  fares_then w (done a w2) f few order h next = let later = h.later in fares_on w w2 (f a w2) h (next a n w2 (omega (arith, few, later)) (orderly_on c w w2 order h))
  fares_then w (stopped (thrown e) w2) f few order h next = h
  fares_then w (stopped (cancelled v) w2) f few order h next = h
  fares_then w (stopped undefined w2) f few order h next = tt
  fares_then w (stopped (ended e) w2) f few order h next = tt
  fares_then w (stopped out_of_turns w2) f few order h next = tt
  fares_then w (stopped deep w2) f few order h next = tt

  -- and then what is known of what goes on
  pub fares_seq : {A B : Type 0} (w : World) (x : Result A) (f : A → Action B) → Fares p n c w x → ((a : A) (w2 : World) → GoesOn c w w2 → Fares p n c w2 (f a w2)) → Fares p n c w (continued x f)
  fares_seq w (done a w2) f h next = fares_on w w2 (f a w2) h (next a w2 h)
  fares_seq w (stopped (thrown e) w2) f h next = h
  fares_seq w (stopped (cancelled v) w2) f h next = h
  fares_seq w (stopped undefined w2) f h next = tt
  fares_seq w (stopped (ended e) w2) f h next = tt
  fares_seq w (stopped out_of_turns w2) f h next = tt
  fares_seq w (stopped deep w2) f h next = tt

  pub fares_pure : {A : Type 0} (a : A) → FaresIn p c (pure a)
  fares_pure a m w few order = goes_same c w order

  -- a change of what is neither live nor a number of exceptions
  pub fares_change : (f : World → World) → ((w : World) → (f w).live ≡ w.live) → ((w : World) → (f w).last_number ≡ w.last_number) → FaresIn p c (change f)
  fares_change f live last m w few order = goes_live c w w (f w) (live w) (last w) (goes_same c w order)

-- however a terminate handler comes out, nothing is thrown
after_fares : {A : Type 0} (B : Type 0) (p : Checked) (n : ℕ) (c : Context) (w : World) (x : Result A) → Fares {A = B} p n c w (after_terminate_handler x)
after_fares B p n c w (done a w2) = tt
after_fares B p n c w (stopped (thrown e) w2) = tt
after_fares B p n c w (stopped (cancelled v) w2) = tt
after_fares B p n c w (stopped undefined w2) = tt
after_fares B p n c w (stopped (ended e) w2) = tt
after_fares B p n c w (stopped out_of_turns w2) = tt
after_fares B p n c w (stopped deep w2) = tt

-- terminate gives nothing, in whatever context and world
pub terminates_with_fares : (A : Type 0) (r : Running) (p : Checked) (n : ℕ) (c d : Context) (w w2 : World) (h : Option ℕ) → Fares {A = A} p n d w (terminate_with r h c w2)
terminates_with_fares A r p n c d w w2 h = go c.ending
  where
    run : (h : Option ℕ) → Fares {A = A} p n d w (run_terminate_handler r h c w2)
    run None = tt
    run (Some f) = after_fares A p n d w (r.call (function f) nowhere [] (guarded_by barrier (record c { ending = true })) w2)

    go : (z : Bool) → Fares {A = A} p n d w ((if z then stop (ended aborted) else run_terminate_handler r h c) w2)
    go true = tt
    go false = run h

pub terminate_fares : (A : Type 0) (r : Running) (p : Checked) (n : ℕ) (c d : Context) (w w2 : World) → Fares {A = A} p n d w (terminate r c w2)
terminate_fares A r p n c d w w2 = terminates_with_fares A r p n c d w w2 w2.installed.terminate_handler

because_fares : (A : Type 0) (r : Running) (p : Checked) (n : ℕ) (c d : Context) (w w2 : World) (e : ℕ) → Fares {A = A} p n d w (terminate_because r e c w2)
because_fares A r p n c d w w2 e = go c.ending (exception_at w2 e)
  where
    enter : (x : Exception) → Fares {A = A} p n d w (enter_and_terminate r e x c w2)
    enter building = terminate_fares A r p n c d w w2
    enter (foreign k t) = terminate_fares A r p n c d w w2
    enter (native t o kept) = terminates_with_fares A r p n (handling e c) d w (record w2 { items = w2.items ++ Enter e ∷ [] }) kept.terminate_handler

    go : (z : Bool) (x : Exception) → Fares {A = A} p n d w ((if z then stop (ended aborted) else enter_and_terminate r e x c) w2)
    go true x = tt
    go false x = enter x

-- an exception that can be raised is doomed, or comes out
pub raise_fares : (A : Type 0) (r : Running) (n : ℕ) (c : Context) (w : World) (e : ℕ) → IsOrderly c w → CanBeRaised c w e → (contains c.handled e ≡ true) ⊎ (n < e) → Fares {A = A} r.program n c w (raise_exception r e c w)
raise_fares A r n c w e order can known = go (is_doomed r.program c.guards (type_at w e)) refl
  where
    go : (z : Bool) → is_doomed r.program c.guards (type_at w e) ≡ z → Fares {A = A} r.program n c w ((if z then terminate_because r e c else stop (thrown e)) w)
    go true is = because_fares A r r.program n c c w w e
    go false is = (goes_same c w order, record { raised = can; known = known; safe = is })

-- only the guards are others
pub goes_as : (c : Context) (guards : List Guard) (w w2 : World) → GoesOn (record c { guards = guards }) w w2 → GoesOn c w w2
goes_as c guards w w2 h = record { later = h.later; live = h.live; kept = h.kept; held = h.held; unbuilt = h.unbuilt }

-- behind a barrier nothing is thrown
pub barrier_fares : {A : Type 0} (r : Running) (n : ℕ) (c : Context) (w : World) (x : Result A) → Fares r.program n (guarded_by barrier c) w x → Fares r.program n c w (after_barrier r c x)
barrier_fares r n c w (done a w2) h = goes_as c (barrier ∷ c.guards) w w2 h
barrier_fares r n c w (stopped (thrown e) w2) h = absurd (cc h.1.safe)
barrier_fares {A} r n c w (stopped (cancelled v) w2) h = terminate_fares A r r.program n c c w w2
barrier_fares r n c w (stopped undefined w2) h = tt
barrier_fares r n c w (stopped (ended e) w2) h = tt
barrier_fares r n c w (stopped out_of_turns w2) h = tt
barrier_fares r n c w (stopped deep w2) h = tt

pub not_thrown_behind : {A : Type 0} (p : Checked) (n : ℕ) (c : Context) (w : World) (x : Result A) → Fares p n (guarded_by barrier c) w x → NotThrown x
not_thrown_behind p n c w (done a w2) h = tt
not_thrown_behind p n c w (stopped (thrown e) w2) h = absurd (cc h.1.safe)
not_thrown_behind p n c w (stopped (cancelled v) w2) h = tt
not_thrown_behind p n c w (stopped undefined w2) h = tt
not_thrown_behind p n c w (stopped (ended e) w2) h = tt
not_thrown_behind p n c w (stopped out_of_turns w2) h = tt
not_thrown_behind p n c w (stopped deep w2) h = tt

pub faring_calls_are_barred : FaringCallsAreBarred
faring_calls_are_barred r fare callee this given c w sound =
    not_thrown_behind r.program 0 c w (r.call callee this given (guarded_by barrier c) w)
    (fare callee this given (guarded_by barrier c) 0 w (omega arith) (orderly_as c w (barrier ∷ c.guards) c.ending (orderly_sound c w sound)))
