-- What specifications and try blocks keep.
use Rattle.std.proofs.Common.{◌≡◌, ℕ, ◌<◌, ◌≤◌, ◌⊎◌, inl, ℤ, Bool, true, false, List, [], ◌∷◌, ◌++◌, Option, Some, None, refl, sym, ap, ◌∙◌, arith, length}
use Rattle.std.specs.Prelude.{not, find, cond, map, if◌then◌else◌}
use Rattle.meaning_forms.specs.Class.{ObjectType, class_type, some_of, contains, object_type}
use Rattle.meaning_forms.specs.Part.{unset}
use Rattle.meaning_forms.specs.World.{World, Installed, Reference, whole, nowhere, exception_at, type_at}
use Rattle.meaning_forms.specs.Context.{Context, catch_all, try_block, specification, guarded_by, handling}
use Rattle.meaning_forms.specs.Guard.{allows, stops, dooms}
use Rattle.meaning_forms.specs.Outcome.{Result, done, stopped, thrown, cancelled, ended, undefined, out_of_turns, deep, Action, pure, stop, continued}
use Rattle.meaning_forms.specs.Running.{Running, function, constructor}
use Rattle.meaning_forms.specs.Construct.{constructor_for, default_object}
use Rattle.meaning_forms.specs.Terminate.{terminate_with, terminate}
use Rattle.meaning_forms.specs.Throw.{throw_new, raise_exception}
use Rattle.meaning_forms.specs.Handler.{enter, while_handled}
use Rattle.meaning_forms.specs.Specification.{kept_with, is_bad_exception, new_bad_exception, pass_on, after_unexpected, run_unexpected_handler, unexpected, after_extent, under_specification, end_noexcept}
use Rattle.region_exceptions.specs.Raises.{CanBeRaised}
use Rattle.region_exceptions.specs.Fares.{IsOrderly, GoesOn, Fares, FaresIn, AlwaysFares, CallsFare}
use Rattle.region_exceptions.proofs.Caught.{front_newest}
use Rattle.region_exceptions.proofs.Faring.{goes_same, goes_live, goes_as, orderly_on, orderly_as, fares_on, fares_then, fares_seq, fares_pure, terminates_with_fares, raise_fares, terminate_fares}
use Rattle.region_exceptions.proofs.FaringScopes.{contains_first}
use Rattle.region_exceptions.proofs.FaringThrows.{throw_fares}
use Rattle.region_exceptions.proofs.FaringHandlers.{entry_fares, while_handled_fares, entered_fares}
use Rattle.cxx_ast.specs.Plain.{Specification, listed, noexcept}
use Rattle.meaning_forms.specs.Statement.{after_try}

module _ (r : Running) (fare : CallsFare r) where
  pub default_fares : (k : ℕ) (target : Reference) → AlwaysFares r.program (default_object r k target)
  default_fares k target c n w few order =
      fares_then r.program n c w (r.call (constructor k (constructor_for r.program k 0)) target [] c w) (λ v. pure (tt {0})) few order
      (fare (constructor k (constructor_for r.program k 0)) target [] c n w few order) (λ v. fares_pure r.program n c (tt {0}))

  bad_fares : AlwaysFares r.program (new_bad_exception r)
  bad_fares c n w few order =
      let w1 : World = record w { objects = w.objects ++ unset r.program (class_type 0) ∷ [] } in
      let o = length w.objects in
      let h = goes_live c w w w1 refl refl (goes_same c w order) in
      fares_on r.program n c w w1 (continued (default_object r 0 (whole o) c w1) (λ u. pure o)) h
      (fares_then r.program n c w1 (default_object r 0 (whole o) c w1) (λ u. pure o) few (orderly_on c w w1 order h) (default_fares 0 (whole o) c n w1 few (orderly_on c w w1 order h))
      (λ u. fares_pure r.program n c o))

  -- an exception out of the unexpected handler is passed on
  pass_fares : (A : Type 0) (types : List ObjectType) (kept : Installed) (f : ℕ) (c : Context) → contains c.travelling f ≡ false
      → FaresIn {A = A} r.program (handling f c) (pass_on r types kept f (handling f c))
  pass_fares A types kept f c rests n w few order = go (allows r.program types (type_at w f)) (some_of is_bad_exception types)
    where
      go : (y z : Bool) → Fares {A = A} r.program n (handling f c) w
          ((if y then raise_exception r f (handling f c) else
          if z then throw_new r (handling f c) (new_bad_exception r (handling f c)) else terminate_with r kept.terminate_handler (handling f c)) w)
      go true z =
          raise_fares A r n (handling f c) w f order (record {
            made = order.handled f (contains_first f c.handled);
            rests = rests;
            front = front_newest f c.handled order.together.0;
          }) (inl (contains_first f c.handled))
      go false true = throw_fares r n (handling f c) w few order A (new_bad_exception r (handling f c)) (bad_fares (handling f c))
      go false false = terminates_with_fares A r r.program n (handling f c) (handling f c) w w kept.terminate_handler

  -- however the unexpected handler comes out
  after_unexpected_fares : (A : Type 0) (types : List ObjectType) (kept : Installed) (n : ℕ) (c : Context) (w : World) → n ≤ w.last_number → IsOrderly c w → (x : Result ℤ)
      → Fares r.program n (guarded_by (try_block (catch_all ∷ [])) c) w x → Fares {A = A} r.program n c w (after_unexpected r types kept c x)
  after_unexpected_fares A types kept n c w few order (done v w2) h = terminates_with_fares A r r.program n c c w w2 kept.terminate_handler
  after_unexpected_fares A types kept n c w few order (stopped (thrown f) w2) h =
      let g = goes_as c (try_block (catch_all ∷ []) ∷ c.guards) w w2 h.0 in
      let later = g.later in
      fares_on r.program n c w w2 (continued (enter r f c w2) (λ u. while_handled r f c (pass_on r types kept f))) g
      (entered_fares r fare n c w2 (omega (arith, few, later)) (orderly_on c w w2 order g) f h.1.raised.made h.1.raised.rests h.1.raised.front h.1.known (pass_on {A = A} r types kept f)
      (pass_fares A types kept f c h.1.raised.rests))
  after_unexpected_fares A types kept n c w few order (stopped (cancelled v) w2) h = goes_as c (try_block (catch_all ∷ []) ∷ c.guards) w w2 h
  after_unexpected_fares A types kept n c w few order (stopped undefined w2) h = tt
  after_unexpected_fares A types kept n c w few order (stopped (ended x) w2) h = tt
  after_unexpected_fares A types kept n c w few order (stopped out_of_turns w2) h = tt
  after_unexpected_fares A types kept n c w few order (stopped deep w2) h = tt

  run_fares : (A : Type 0) (types : List ObjectType) (kept : Installed) (h : Option ℕ) (c : Context) → FaresIn {A = A} r.program c (run_unexpected_handler r types kept h c)
  run_fares A types kept None c n w few order = terminates_with_fares A r r.program n c c w w kept.terminate_handler
  run_fares A types kept (Some h) c n w few order =
      let d = guarded_by (try_block (catch_all ∷ [])) c in
      after_unexpected_fares A types kept n c w few order (r.call (function h) nowhere [] d w)
      (fare (function h) nowhere [] d n w few (orderly_as c w (try_block (catch_all ∷ []) ∷ c.guards) c.ending order))

  unexpected_fares : (A : Type 0) (types : List ObjectType) (n : ℕ) (c : Context) (w : World) → n ≤ w.last_number → IsOrderly c w → (e : ℕ) → CanBeRaised c w e
      → (contains c.handled e ≡ true) ⊎ (n < e) → Fares {A = A} r.program n c w (unexpected r types e c w)
  unexpected_fares A types n c w few order e can known =
      fares_seq r.program n c w (enter r e c w)
      (λ u w2. while_handled r e c (run_unexpected_handler {A = A} r types (kept_with (exception_at w2 e)) (kept_with (exception_at w2 e)).unexpected_handler) w2) (entry_fares r fare n c w e order)
      (λ u w2 g. let later = g.later in let made = can.made in let kept = kept_with (exception_at w2 e) in
      while_handled_fares r fare n c w2 (omega (arith, few, later)) (orderly_on c w w2 order g) e (omega (arith, made, later)) can.rests can.front known
      (run_unexpected_handler {A = A} r types kept kept.unexpected_handler) (run_fares A types kept kept.unexpected_handler (handling e c)))

  -- the extent of a specification
  pub extent_fares : {A : Type 0} (types : List ObjectType) (n : ℕ) (c : Context) (w : World) → n ≤ w.last_number → IsOrderly c w → (x : Result A)
      → Fares r.program n (guarded_by (specification types) c) w x → Fares r.program n c w (after_extent r types c x)
  extent_fares types n c w few order (done u w2) h = goes_as c (specification types ∷ c.guards) w w2 h
  extent_fares {A} types n c w few order (stopped (thrown e) w2) h =
      fares_on r.program n c w w2 ((if allows r.program types (type_at w2 e) then stop (thrown e) else unexpected r types e c) w2) g (go (allows r.program types (type_at w2 e)) refl)
    where
      g : GoesOn c w w2
      g = goes_as c (specification types ∷ c.guards) w w2 h.0

      go : (z : Bool) → allows r.program types (type_at w2 e) ≡ z → Fares {A = A} r.program n c w2 ((if z then stop (thrown e) else unexpected r types e c) w2)
      go true is = (
        goes_same c w2 (orderly_on c w w2 order g),
        record {
          raised = record { made = h.1.raised.made; rests = h.1.raised.rests; front = h.1.raised.front };
          known = h.1.known;
          safe = ap (λ z. dooms (type_at w2 e) (cond (not z) (Some (specification types)) (find (stops r.program (type_at w2 e)) c.guards))) (sym is) ∙ h.1.safe;
        },
      )
      go false is =
          let later = g.later in
          unexpected_fares A types n c w2 (omega (arith, few, later)) (orderly_on c w w2 order g) e
          (record { made = h.1.raised.made; rests = h.1.raised.rests; front = h.1.raised.front }) h.1.known
  extent_fares types n c w few order (stopped (cancelled v) w2) h = goes_as c (specification types ∷ c.guards) w w2 h
  extent_fares types n c w few order (stopped undefined w2) h = tt
  extent_fares types n c w few order (stopped (ended x) w2) h = tt
  extent_fares types n c w few order (stopped out_of_turns w2) h = tt
  extent_fares types n c w few order (stopped deep w2) h = tt

  -- the extent of what is `noexcept`
  pub noexcept_fares : {A : Type 0} (n : ℕ) (c : Context) (w : World) → n ≤ w.last_number → IsOrderly c w → (x : Result A)
      → Fares r.program n (guarded_by (try_block (catch_all ∷ [])) c) w x → Fares r.program n c w (after_try (end_noexcept r c) x)
  noexcept_fares n c w few order (done u w2) h = goes_as c (try_block (catch_all ∷ []) ∷ c.guards) w w2 h
  noexcept_fares {A} n c w few order (stopped (thrown e) w2) h =
      let g = goes_as c (try_block (catch_all ∷ []) ∷ c.guards) w w2 h.0 in
      fares_on r.program n c w w2 (end_noexcept {A = A} r c e w2) g
      (fares_seq r.program n c w2 (enter r e c w2) (λ u. terminate {A = A} r (handling e c)) (entry_fares r fare n c w2 e (orderly_on c w w2 order g))
      (λ u w3 k. terminate_fares A r r.program n (handling e c) c w3 w3))
  noexcept_fares n c w few order (stopped (cancelled v) w2) h = goes_as c (try_block (catch_all ∷ []) ∷ c.guards) w w2 h
  noexcept_fares n c w few order (stopped undefined w2) h = tt
  noexcept_fares n c w few order (stopped (ended x) w2) h = tt
  noexcept_fares n c w few order (stopped out_of_turns w2) h = tt
  noexcept_fares n c w few order (stopped deep w2) h = tt

  pub specified_fares : {A : Type 0} (s : Option Specification) (act : Context → Action A) → AlwaysFares r.program act → AlwaysFares r.program (under_specification r s act)
  specified_fares None act fares c n w few order = fares c n w few order
  specified_fares (Some (listed names)) act fares c n w few order =
      let types = map object_type names in
      extent_fares types n c w few order (act (guarded_by (specification types) c) w)
      (fares (guarded_by (specification types) c) n w few (orderly_as c w (specification types ∷ c.guards) c.ending order))
  specified_fares (Some (noexcept place b)) act fares c n w few order =
      noexcept_fares n c w few order (act (guarded_by (try_block (catch_all ∷ [])) c) w)
      (fares (guarded_by (try_block (catch_all ∷ [])) c) n w few (orderly_as c w (try_block (catch_all ∷ []) ∷ c.guards) c.ending order))
