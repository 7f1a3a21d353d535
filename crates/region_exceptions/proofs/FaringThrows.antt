-- What throws and modules keep.
use Rattle.std.proofs.Common.{◌≡◌, ℕ, ◌+◌, ◌<◌, ◌≤◌, ◌⊎◌, inl, inr, ℤ, pos, negsuc, Bool, true, false, List, [], ◌∷◌, ◌++◌, Option, Some, None, refl, sym, ap, ◌∙◌, subst, arith}
use Rattle.std.specs.Prelude.{◌==◌, not, slice_get, slice_set, if◌then◌else◌}
use Rattle.std.proofs.lemmas.Bool.Decides.{nat_tests}
use Rattle.eh_outer.specs.declared.module.Reply.{Reply}
use Rattle.eh_outer.specs.declared.module.Reply.TheVariants.{Value, Raise}
use Rattle.run_items.specs.declared.item.Item.{Item}
use Rattle.run_items.specs.declared.item.Item.TheVariants.{Make, Foreign, Free}
use Rattle.meaning_forms.specs.Class.{ObjectType, contains}
use Rattle.meaning_forms.specs.Part.{part_type}
use Rattle.meaning_forms.specs.World.{World, Live, Exception, building, native, foreign, Installed, object_at, exception_at, exception_type, type_at, with_exception, without_exception}
use Rattle.meaning_forms.specs.Context.{Context}
use Rattle.meaning_forms.specs.Guard.{is_doomed}
use Rattle.meaning_forms.specs.Outcome.{Result, done, stopped, thrown, cancelled, ended, undefined, out_of_turns, deep, Action, continued, ◌>>=◌, ◌>>◌}
use Rattle.meaning_forms.specs.Running.{Running}
use Rattle.meaning_forms.specs.Terminate.{terminate}
use Rattle.meaning_forms.specs.Throw.{is_full, new_exception, after_building, keep, raise_exception, throw_new, rethrow_newest, rethrow, raise_foreign, answered, take_reply, call_module}
use Rattle.region_forms.specs.Caught.{only_front}
use Rattle.region_simulation.specs.Stands.{AreTogether}
use Rattle.region_exceptions.specs.Raises.{CanBeRaised}
use Rattle.region_exceptions.specs.Unbuilt.{IsUnbuilt, IsNotNative}
use Rattle.region_exceptions.specs.Fares.{IsOrderly, GoesOn, Fares, FaresIn}
use Rattle.region_exceptions.proofs.Caught.{front_unhandled, front_newest}
use Rattle.region_exceptions.proofs.Raises.{native_in}
use Rattle.region_exceptions.proofs.New.{IsPlain, newly, new_unbuilt, last_or_before, new_number, plain_only}
use Rattle.region_exceptions.proofs.Kept.{Replaces, is_new, is_old, replaces}
use Rattle.region_exceptions.proofs.Faring.{goes_same, goes_on, goes_live, orderly_on, fares_on, terminate_fares, raise_fares}
use Rattle.region_exceptions.proofs.FaringScopes.{contains_first}
use Rattle.region_simulation.specs.Lives.{is_built}
use Rattle.region_exceptions.proofs.Lives.{added, taken, put, live_added, live_taken, live_put}
use Rattle.region_exceptions.proofs.Freeing.{left_before}

pub not_number : (e f : ℕ) → e < f → (f == e) ≡ false
not_number e f lt = grind (arith, nat_tests, lt)

pub other_number : (e f : ℕ) (es : List ℕ) → contains es f ≡ true → contains es e ≡ false → (e == f) ≡ false
other_number e f es there gone = go (e == f) refl
  where
    never : true ≡ false → ⊥
    never e = cc e

    go : (b : Bool) → (e == f) ≡ b → b ≡ false
    go true is = absurd (never (sym there ∙ ap (contains es) (let same : f ≡ e = grind (arith, nat_tests, is) in same) ∙ gone))
    go false is = refl

-- what is built is another than what is being built
pub built_apart : (w : World) (e f : ℕ) → is_built (exception_at w e) ≡ true → IsUnbuilt f w → (e == f) ≡ false
built_apart w e f built u = go (e == f) refl
  where
    never : true ≡ false → ⊥
    never e = cc e

    go : (b : Bool) → (e == f) ≡ b → b ≡ false
    go true is = absurd (never (sym built ∙ ap (λ n. is_built (exception_at w n)) (let same : e ≡ f = grind (arith, nat_tests, is) in same) ∙ ap is_built u.1))
    go false is = refl

-- an exception that neither travels nor is handled is no longer live, nor is it one of those that were being built before
pub goes_freed : (c : Context) (w w2 : World) (e : ℕ) (i : Item) → contains c.travelling e ≡ false → contains c.handled e ≡ false
    → ((f : ℕ) → f ≤ w.last_number → IsUnbuilt f w → (e == f) ≡ false) → GoesOn c w w2 → GoesOn c w (without_exception (record w2 { items = w2.items ++ i ∷ [] }) e)
goes_freed c w w2 e i rests unhandled apart h = record {
  later = h.later;
  live = λ j y there. (let (k, before) = left_before (λ x. not (x.number == e)) w2.live j y there in h.live k y before);
  kept = λ f is. (taken w2.live e f (other_number e f c.travelling is rests) ∙ h.kept f is);
  held = λ f is. (taken w2.live e f (other_number e f c.handled is unhandled) ∙ h.held f is);
  unbuilt = λ f le u. (let v = h.unbuilt f le u in let other = apart f le u in (
    live_taken w2.live e f other ∙ v.0,
    taken w2.live e f other ∙ v.1,
    λ j o t kept there. (let (k, before) = left_before (λ x. not (x.number == e)) w2.live j (record { number = f; exception = native t o kept }) there in v.2 k o t kept before),
  ));
}

module _ (c : Context) (w : World) (order : IsOrderly c w) where
  -- a new exception that is not native
  pub goes_new : (x : Exception) (i : Item) → IsPlain x → GoesOn c w (newly x i w)
  goes_new x i plain = record {
    later = omega arith;
    live = λ j y there. made j y (last_or_before w.live (record { number = w.last_number + 1; exception = x }) y j there);
    kept = λ e is. added w.live (record { number = w.last_number + 1; exception = x }) e (let le = order.travelling e is in not_number e (w.last_number + 1) (omega (arith, le)));
    held = λ e is. added w.live (record { number = w.last_number + 1; exception = x }) e (let le = order.handled e is in not_number e (w.last_number + 1) (omega (arith, le)));
    unbuilt = λ e le u. (
      live_added w.live (record { number = w.last_number + 1; exception = x }) e u.0,
      added w.live (record { number = w.last_number + 1; exception = x }) e (not_number e (w.last_number + 1) (omega (arith, le))) ∙ u.1,
      λ j o t kept there. gone e le u o t kept j
          (last_or_before w.live (record { number = w.last_number + 1; exception = x }) (record { number = e; exception = native t o kept }) j there),
    );
  }
    where
      made : (j : ℕ) (y : Live) → ((slice_get w.live j ≡ Some y) ⊎ (◌≡◌ {A = Live} (record { number = w.last_number + 1; exception = x }) y)) → y.number ≤ w.last_number + 1
      made j y (inl there) = (let le = order.live j y there in omega (arith, le))
      made j y (inr same) = (let e : w.last_number + 1 ≡ y.number = ap {A = Live} (λ q. q.number) same in omega (arith, e))

      gone : (e : ℕ) → e ≤ w.last_number → IsUnbuilt e w → (o : ℕ) (t : ObjectType) (kept : Installed) (j : ℕ)
          → ((slice_get w.live j ≡ Some (record { number = e; exception = native t o kept })) ⊎
          (◌≡◌ {A = Live} (record { number = w.last_number + 1; exception = x }) (record { number = e; exception = native t o kept }))) → ⊥
      gone e le u o t kept j (inl there) = u.2 j o t kept there
      gone e le u o t kept j (inr same) = plain_only (w.last_number + 1) e o x t kept plain same

  -- a new exception can be raised
  pub new_raised : (w2 : World) → GoesOn c w w2 → w.last_number + 1 ≤ w2.last_number → CanBeRaised c w2 (w.last_number + 1)
  new_raised w2 h made = record {
    made = made;
    rests = new_number w.last_number c.travelling order.travelling;
    front = front_unhandled (w.last_number + 1) c.handled (new_number w.last_number c.handled order.handled);
  }

-- an exception made since is kept as built
pub goes_kept : (c : Context) (w w2 : World) (e : ℕ) (q : Exception) → w.last_number < e → IsOrderly c w → GoesOn c w w2 → GoesOn c w (with_exception w2 e q)
goes_kept c w w2 e q new order h = record {
  later = h.later;
  live = λ i y there. made i y (replaces e q w2.live i y there);
  kept = λ f is. (put w2.live e f q (let le = order.travelling f is in not_number f e (omega (arith, le, new))) ∙ h.kept f is);
  held = λ f is. (put w2.live e f q (let le = order.handled f is in not_number f e (omega (arith, le, new))) ∙ h.held f is);
  unbuilt = λ f le u. (let v = h.unbuilt f le u in (
    live_put w2.live e f q ∙ v.0,
    put w2.live e f q (not_number f e (omega (arith, le, new))) ∙ v.1,
    λ i o t kept there. gone f le u o t kept i (replaces e q w2.live i (record { number = f; exception = native t o kept }) there),
  ));
}
  where
    made : (i : ℕ) (y : Live) → Replaces e q w2.live i y → y.number ≤ w2.last_number
    made i y (is_new z there number same) = (let le = h.live i z there in let n : y.number ≡ e = ap {A = Live} (λ x. x.number) same in omega (arith, le, n, number))
    made i y (is_old there) = h.live i y there

    gone : (f : ℕ) → f ≤ w.last_number → IsUnbuilt f w → (o : ℕ) (t : ObjectType) (kept : Installed) (i : ℕ)
        → Replaces e q w2.live i (record { number = f; exception = native t o kept }) → ⊥
    gone f le u o t kept i (is_new z there number same) = (let n : f ≡ e = ap {A = Live} (λ x. x.number) same in omega (arith, le, n, new))
    gone f le u o t kept i (is_old there) = (h.unbuilt f le u).2 i o t kept there

-- an exception that is not native has no type
unbuilt_type : (w : World) (e : ℕ) → IsNotNative e w → type_at w e ≡ None
unbuilt_type w e u = go (exception_at w e) refl
  where
    go : (x : Exception) → exception_at w e ≡ x → exception_type x ≡ None
    go building is = refl
    go (foreign k t) is = refl
    go (native t o kept) is = let (i, there) = native_in w.live e o t kept is in absurd (u i o t kept there)

pub removed_type : (w : World) (e f : ℕ) (i : Item) → IsUnbuilt e w → type_at (without_exception (record w { items = w.items ++ i ∷ [] }) e) f ≡ type_at w f
removed_type w e f i u = go (e == f) refl
  where
    gone : IsNotNative e (without_exception (record w { items = w.items ++ i ∷ [] }) e)
    gone j o t kept there = let (k, before) = left_before (λ x. not (x.number == e)) w.live j (record { number = e; exception = native t o kept }) there in u.2 k o t kept before

    go : (b : Bool) → (e == f) ≡ b → type_at (without_exception (record w { items = w.items ++ i ∷ [] }) e) f ≡ type_at w f
    go true is =
        let same : f ≡ e = grind (arith, nat_tests, is) in
        ap (type_at (without_exception (record w { items = w.items ++ i ∷ [] }) e)) same ∙ unbuilt_type (without_exception (record w { items = w.items ++ i ∷ [] }) e) e gone ∙
        sym (unbuilt_type w e u.2) ∙ ap (type_at w) (sym same)
    go false is = ap exception_type (taken w.live e f is)

module _ (r : Running) (n : ℕ) (c : Context) (w : World) (few : n ≤ w.last_number) (order : IsOrderly c w) where
  abbrev e : ℕ
  e = w.last_number + 1

  rests : contains c.travelling e ≡ false
  rests = new_number w.last_number c.travelling order.travelling

  unhandled : contains c.handled e ≡ false
  unhandled = new_number w.last_number c.handled order.handled

  -- it is another than those that were being built before
  apart : (f : ℕ) → f ≤ w.last_number → IsUnbuilt f w → (e == f) ≡ false
  apart f le u = let other = not_number f e (omega (arith, le)) in other

  -- an exception that was made is raised
  raised_fares : (A : Type 0) (w2 : World) → GoesOn c w w2 → e ≤ w2.last_number → Fares {A = A} r.program n c w (raise_exception r e c w2)
  raised_fares A w2 h made =
      fares_on r.program n c w w2 (raise_exception r e c w2) h
      (raise_fares A r n c w2 e (orderly_on c w w2 order h) (new_raised c w order w2 h made) (inr (omega (arith, few))))

  -- what is done with an exception that is being built, whose building began in a world
  built_fares : (A : Type 0) (w1 : World) (x : Result ℕ) → GoesOn c w w1 → w1.last_number ≡ e → IsUnbuilt e w1 → Fares r.program n c w1 x
      → Fares {A = A} r.program n c w (continued (after_building e x) (λ o. keep e o >> raise_exception r e c))
  built_fares A w1 (done o w2) h made u g =
      let all = goes_on c w w1 w2 h g in
      let later = g.later in
      raised_fares A (with_exception w2 e (native (part_type (object_at w2 o)) o w2.installed))
      (goes_kept c w w2 e (native (part_type (object_at w2 o)) o w2.installed) (omega arith) order all) (omega (arith, later, made))
  built_fares A w1 (stopped (thrown f) w2) h made u g =
      let all = goes_on c w w1 w2 h g.0 in
      let w3 = without_exception (record w2 { items = w2.items ++ Free e ∷ [] }) e in
      let unbuilt = g.0.unbuilt e (omega (arith, made)) u in (
        goes_freed c w w2 e (Free e) rests unhandled apart all,
        record {
          raised = record { made = g.1.raised.made; rests = g.1.raised.rests; front = g.1.raised.front };
          known = g.1.known;
          safe = ap (is_doomed r.program c.guards) (removed_type w2 e f (Free e) unbuilt) ∙ g.1.safe;
        },
      )
  built_fares A w1 (stopped (cancelled v) w2) h made u g =
      let all = goes_on c w w1 w2 h g in
      goes_freed c w w2 e (Free e) rests unhandled apart all
  built_fares A w1 (stopped undefined w2) h made u g = tt
  built_fares A w1 (stopped (ended f) w2) h made u g = tt
  built_fares A w1 (stopped out_of_turns w2) h made u g = tt
  built_fares A w1 (stopped deep w2) h made u g = tt

  -- an object is thrown
  pub throw_fares : (A : Type 0) (build : Action ℕ) → FaresIn r.program c build → Fares {A = A} r.program n c w (throw_new r c build w)
  throw_fares A build fare = go (is_full w)
    where
      made : World
      made = newly building (Make e) w

      unbuilt : IsUnbuilt e (newly building (Make e) w)
      unbuilt = new_unbuilt w (Make e) order.live

      go : (z : Bool) → Fares {A = A} r.program n c w
          ((if z then terminate r c else (new_exception building Make >>= (λ e. (λ w. after_building e (build w)) >>= (λ o. keep e o >> raise_exception r e c)))) w)
      go true = terminate_fares A r r.program n c c w w
      go false =
          let h = goes_new c w order building (Make e) tt in
          built_fares A (newly building (Make e) w) (build (newly building (Make e) w)) h refl unbuilt
          (fare n (newly building (Make e) w) (omega (arith, few)) (orderly_on c w (newly building (Make e) w) order h))

  -- a module raises an exception
  foreign_fares : (A : Type 0) (k t : ℕ) → Fares {A = A} r.program n c w (raise_foreign r k t c w)
  foreign_fares A k t = go (is_full w)
    where
      go : (z : Bool) → Fares {A = A} r.program n c w ((if z then terminate r c else (new_exception (foreign k t) (λ m. Foreign m k t) >>= (λ e. raise_exception r e c))) w)
      go true = terminate_fares A r r.program n c c w w
      go false = raised_fares A (newly (foreign k t) (Foreign e k t) w) (goes_new c w order (foreign k t) (Foreign e k t) tt) (omega arith)

  -- the newest handled exception is thrown again
  pub rethrow_fares : (A : Type 0) → Fares {A = A} r.program n c w (rethrow r c w)
  rethrow_fares A = go c.handled refl
    where
      again : (f : ℕ) (es : List ℕ) → c.handled ≡ f ∷ es → (z : Bool) → contains c.travelling f ≡ z → Fares {A = A} r.program n c w ((if z then terminate r c else raise_exception r f c) w)
      again f es is true travels = terminate_fares A r r.program n c c w w
      again f es is false stays =
          let there : contains c.handled f ≡ true = ap (λ hs. contains hs f) is ∙ contains_first f es in
          raise_fares A r n c w f order (record {
            made = order.handled f there;
            rests = stays;
            front = subst (λ hs. only_front f hs ≡ true) (sym is) (front_newest f es (subst AreTogether is order.together).0);
          }) (inl there)

      go : (hs : List ℕ) → c.handled ≡ hs → Fares {A = A} r.program n c w (rethrow_newest r hs c w)
      go [] is = terminate_fares A r r.program n c c w w
      go (f ∷ es) is = again f es is (contains c.travelling f) refl

-- a module is called
pub module_fares : (r : Running) (v : ℤ) (c : Context) → FaresIn r.program c (call_module r v c)
module_fares r (negsuc k) c n w few order = goes_same c w order
module_fares r (pos k) c n w few order = go (slice_get w.replies k)
  where
    go : (xs : Option (List Reply)) → Fares r.program n c w (take_reply r k xs c w)
    go None = goes_same c w order
    go (Some []) = goes_same c w order
    go (Some (x ∷ left)) = reply x
      where
        w2 : World
        w2 = record w { replies = slice_set w.replies k left }

        reply : (x : Reply) → Fares r.program n c w (answered r k x c (record w { replies = slice_set w.replies k left }))
        reply (Value v) = goes_live c w w (record w { replies = slice_set w.replies k left }) refl refl (goes_same c w order)
        reply (Raise t) =
            let w3 : World = record w { replies = slice_set w.replies k left } in
            let h = goes_live c w w w3 refl refl (goes_same c w order) in
            fares_on r.program n c w w3 (raise_foreign r k t c w3) h (foreign_fares r n c w3 few (orderly_on c w w3 order h) ℤ k t)
