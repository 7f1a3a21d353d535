-- What handlers keep.
use Rattle.std.proofs.Common.{◌≡◌, ℕ, ◌<◌, ◌≤◌, ◌⊎◌, inl, inr, Bool, true, false, [], ◌∷◌, ◌++◌, Option, Some, None, refl, sym, ap, ◌∙◌, subst, arith, length}
use Rattle.std.specs.Prelude.{◌==◌, ◌&&◌, ◌||◌, not, if◌then◌else◌}
use Rattle.std.proofs.lemmas.Bool.Decides.{nat_tests}
use Rattle.cxx_ast.specs.declared.name.Name.{Name}
use Rattle.cxx_ast.specs.declared.types.Ty.{Ty}
use Rattle.cxx_ast.specs.declared.types.Ty.TheVariants.{Int, Void, Object, IntRef, ObjectRef}
use Rattle.cxx_ast.specs.Plain.{Checked}
use Rattle.run_items.specs.declared.item.Item.TheVariants.{Enter, Leave, Destroy, Free, Clean}
use Rattle.meaning_forms.specs.Class.{ObjectType, int_type, class_type, class_named, some_of, contains}
use Rattle.meaning_forms.specs.Part.{Part, cell, object, unset}
use Rattle.meaning_forms.specs.World.{World, Exception, building, native, foreign, Reference, whole, as_class, part_of, exception_at, exception_type}
use Rattle.meaning_forms.specs.Context.{Context, barrier, guarded_by, handling, with_travelling}
use Rattle.meaning_forms.specs.Guard.{is_doomed}
use Rattle.meaning_forms.specs.Outcome.{Result, done, stopped, thrown, cancelled, ended, undefined, out_of_turns, deep, Action, pure, stop, continued, emit, new_object, read, read_part, ◌>>=◌, ◌>>◌}
use Rattle.meaning_forms.specs.Running.{Running, by_reference, constructor, destructor}
use Rattle.meaning_forms.specs.Construct.{copy_constructor, copy_object, destroy}
use Rattle.meaning_forms.specs.Frame.{Frame, with_parameter}
use Rattle.meaning_forms.specs.Scope.{scope}
use Rattle.meaning_forms.specs.Terminate.{terminate, after_barrier, behind_barrier}
use Rattle.meaning_forms.specs.Handler.{is_foreign, enter, after_destructor, give_back, let_go, after_handler, while_handled, new_copy, catch_parameter, destroy_parameter, exception_object, handle}
use Rattle.region_forms.specs.Caught.{only_front}
use Rattle.region_exceptions.specs.Raises.{CanBeRaised}
use Rattle.region_exceptions.specs.Fares.{IsOrderly, GoesOn, ComesOut, Fares, FaresIn, AlwaysFares, CallsFare}
use Rattle.region_exceptions.proofs.Caught.{front_out}
use Rattle.region_exceptions.proofs.Standing.{held}
use Rattle.region_exceptions.proofs.Faring.{goes_same, goes_live, orderly_on, orderly_as, orderly_travelling, orderly_handling, fares_on, fares_then, fares_seq, fares_pure, terminate_fares, barrier_fares, not_thrown_behind}
use Rattle.region_exceptions.proofs.FaringScopes.{contains_more, goes_resting, thrown_fares, behind_not_thrown, scope_fares}
use Rattle.region_exceptions.proofs.FaringThrows.{other_number, not_number, goes_freed, built_apart}
use Rattle.region_simulation.specs.Lives.{is_built}
use Rattle.region_exceptions.proofs.Lives.{taken}

-- a destructor, or nothing
pub destroy_fares : (r : Running) → CallsFare r → (t : ObjectType) (target : Reference) → AlwaysFares r.program (destroy r t target)
destroy_fares r fare int_type target c n w few order = goes_same c w order
destroy_fares r fare (class_type k) target c n w few order =
    fares_then r.program n c w (r.call (destructor k) target [] c w) (λ v. pure (tt {0})) few order (fare (destructor k) target [] c n w few order) (λ v. fares_pure r.program n c (tt {0}))

module _ (r : Running) (fare : CallsFare r) (n : ℕ) (c : Context) (w : World) (few : n ≤ w.last_number) (order : IsOrderly c w) (e : ℕ) (made : e ≤ w.last_number) where
  -- an exception that comes out of a destructor is another
  other_out : (f : ℕ) → contains c.handled e ≡ false → (contains c.handled f ≡ true) ⊎ (w.last_number < f) → (e == f) ≡ false
  other_out f gone (inl there) = other_number e f c.handled there gone
  other_out f gone (inr new) = let same = not_number e f (omega (arith, made, new)) in flip e f same
    where
      flip : (a b : ℕ) → (b == a) ≡ false → (a == b) ≡ false
      flip a b h = grind (arith, nat_tests, h)

  freed_fares : contains c.travelling e ≡ false → contains c.handled e ≡ false → is_built (exception_at w e) ≡ true → (x : Result (Unit {0})) → Fares r.program w.last_number c w x → Fares r.program n c w (after_destructor e x)
  freed_fares rests gone built (done u w2) h =
      goes_freed c w w2 e (Free e) rests gone (λ q le u. built_apart w e q built u) h
  freed_fares rests gone built (stopped (thrown f) w2) h = (
    goes_freed c w w2 e (Free e) rests gone (λ q le u. built_apart w e q built u) h.0,
    record {
      raised = record { made = h.1.raised.made; rests = h.1.raised.rests; front = h.1.raised.front };
      known = earlier h.1.known;
      safe = ap (is_doomed r.program c.guards) (ap exception_type (taken w2.live e f (other_out f gone h.1.known))) ∙ h.1.safe;
    },
  )
    where
      earlier : (contains c.handled f ≡ true) ⊎ (w.last_number < f) → (contains c.handled f ≡ true) ⊎ (n < f)
      earlier (inl there) = inl there
      earlier (inr new) = inr (omega (arith, few, new))
  freed_fares rests gone built (stopped (cancelled v) w2) h =
      goes_freed c w w2 e (Free e) rests gone (λ q le u. built_apart w e q built u) h
  freed_fares rests gone built (stopped undefined w2) h = tt
  freed_fares rests gone built (stopped (ended x) w2) h = tt
  freed_fares rests gone built (stopped out_of_turns w2) h = tt
  freed_fares rests gone built (stopped deep w2) h = tt

module _ (r : Running) (fare : CallsFare r) (n : ℕ) where
  give_fares : (c : Context) (w : World) → n ≤ w.last_number → IsOrderly c w → (e : ℕ) → e ≤ w.last_number → contains c.travelling e ≡ false → contains c.handled e ≡ false → (x : Exception)
      → exception_at w e ≡ x → Fares r.program n c w (give_back r e x c w)
  give_fares c w few order e made rests gone building is = goes_same c w order
  give_fares c w few order e made rests gone (foreign k t) is = goes_freed c w w e (Clean k t) rests gone (λ q le u. built_apart w e q (ap is_built is) u) (goes_same c w order)
  give_fares c w few order e made rests gone (native t o kept) is =
      let w2 : World = record w { items = w.items ++ Destroy e ∷ [] } in
      let h = goes_live c w w w2 refl refl (goes_same c w order) in
      let order2 = orderly_on c w w2 order h in
      fares_on r.program n c w w2 (after_destructor e (destroy r t (whole o) c w2)) h
      (freed_fares r fare n c w2 few order2 e made rests gone (ap is_built is) (destroy r t (whole o) c w2) (destroy_fares r fare t (whole o) c w2.last_number w2 (omega arith) order2))

  pub let_go_fares : (c : Context) (w : World) → n ≤ w.last_number → IsOrderly c w → (e : ℕ) → e ≤ w.last_number → (kept : Bool)
      → (kept ≡ false → (contains c.travelling e ≡ false) × (contains c.handled e ≡ false)) → Fares r.program n c w (let_go r e kept c w)
  let_go_fares c w few order e made kept gone =
      fares_on r.program n c w (record w { items = w.items ++ Leave e ∷ [] }) (let_go r e kept c w) h (go kept gone)
    where
      h : GoesOn c w (record w { items = w.items ++ Leave e ∷ [] })
      h = goes_live c w w (record w { items = w.items ++ Leave e ∷ [] }) refl refl (goes_same c w order)

      go : (z : Bool) → (z ≡ false → (contains c.travelling e ≡ false) × (contains c.handled e ≡ false))
          → Fares r.program n c (record w { items = w.items ++ Leave e ∷ [] })
          ((if z then pure tt else give_back r e (exception_at w e) c) (record w { items = w.items ++ Leave e ∷ [] }))
      go true gone = goes_same c (record w { items = w.items ++ Leave e ∷ [] }) (orderly_on c w (record w { items = w.items ++ Leave e ∷ [] }) order h)
      go false gone =
          give_fares c (record w { items = w.items ++ Leave e ∷ [] }) few (orderly_on c w (record w { items = w.items ++ Leave e ∷ [] }) order h) e made (gone refl).0 (gone refl).1 (exception_at w e) refl

  -- behind a barrier, in an exceptional exit
  barred_fares : (A : Type 0) (c : Context) (w w2 : World) (f : ℕ) (x : Result (Unit {0})) → GoesOn c w w2 → ComesOut r.program n c w2 f
      → Fares r.program n (guarded_by barrier (with_travelling f c)) w2 x
      → Fares {A = A} r.program n c w (continued (after_barrier r (with_travelling f c) x) (λ u. stop (thrown f)))
  barred_fares A c w w2 f x h comes inner =
      let d = with_travelling f c in
      thrown_fares r n c A w w2 f (after_barrier r d x) h comes (barrier_fares r n d w2 x inner) (behind_not_thrown r n c d x (not_thrown_behind r.program n d w2 x inner))

  module _ (c : Context) (w : World) (few : n ≤ w.last_number) (order : IsOrderly c w) (e : ℕ) (made : e ≤ w.last_number) (rests : contains c.travelling e ≡ false)
      (front : only_front e c.handled ≡ true) (known : (contains c.handled e ≡ true) ⊎ (n < e)) where
    outside : (w2 : World) → GoesOn (handling e c) w w2 → GoesOn c w w2
    outside w2 h = record { later = h.later; live = h.live; kept = h.kept; held = λ f is. h.held f (contains_more e f c.handled is); unbuilt = h.unbuilt }

    comes_outside : (w2 : World) (f : ℕ) → ComesOut r.program n (handling e c) w2 f → ComesOut r.program n c w2 f
    comes_outside w2 f h = record {
      raised = record { made = h.raised.made; rests = h.raised.rests; front = front_out f e c.handled h.raised.front };
      known = go h.known;
      safe = h.safe;
    }
      where
        by : (f ≡ e) ⊎ (contains c.handled f ≡ true) → (contains c.handled f ≡ true) ⊎ (n < f)
        by (inl same) = subst (λ q. (contains c.handled q ≡ true) ⊎ (n < q)) (sym same) known
        by (inr there) = inl there

        go : (contains (e ∷ c.handled) f ≡ true) ⊎ (n < f) → (contains c.handled f ≡ true) ⊎ (n < f)
        go (inl there) = by (held e f c.handled there)
        go (inr new) = inr new

    -- however what is done in a handler comes out
    pub handler_fares : {A : Type 0} (x : Result A) → Fares r.program n (handling e c) w x → Fares r.program n c w (after_handler r e c x)
    handler_fares (done u w2) h =
        let g = outside w2 h in let later = g.later in
        fares_seq r.program n c w (let_go r e (contains c.handled e) c w2) (λ z. pure u)
        (fares_on r.program n c w w2 (let_go r e (contains c.handled e) c w2) g
        (let_go_fares c w2 (omega (arith, few, later)) (orderly_on c w w2 order g) e (omega (arith, made, later)) (contains c.handled e) (λ gone. (rests, gone))))
        (λ z w3 k. goes_same c w3 (orderly_on c w w3 order k))
    handler_fares {A} (stopped (thrown f) w2) h =
        let g = outside w2 h.0 in let later = g.later in
        let comes = comes_outside w2 f h.1 in
        let kept = f == e || contains c.handled e in
        let d = guarded_by barrier (with_travelling f c) in
        let order2 = orderly_as (with_travelling f c) w2 (barrier ∷ c.guards) c.ending (orderly_travelling c w2 f comes.raised.made (orderly_on c w w2 order g)) in
        barred_fares A c w w2 f (let_go r e kept d w2) g comes (let_go_fares d w2 (omega (arith, few, later)) order2 e (omega (arith, made, later)) kept (λ is. last (f == e) refl is))
      where
        last : (z : Bool) → (f == e) ≡ z → (z || contains c.handled e) ≡ false → (contains (f ∷ c.travelling) e ≡ false) × (contains c.handled e ≡ false)
        last true same is = absurd (cc is)
        last false other is = (ap (λ b. b || contains c.travelling e) other ∙ rests, is)
    handler_fares (stopped (cancelled v) w2) h =
        let g = outside w2 h in let later = g.later in
        let kept = contains c.handled e in
        let d = guarded_by barrier c in
        let x = let_go r e kept d w2 in
        let inner = let_go_fares d w2 (omega (arith, few, later)) (orderly_as c w2 (barrier ∷ c.guards) c.ending (orderly_on c w w2 order g)) e (omega (arith, made, later)) kept (λ gone. (rests, gone)) in
        fares_seq r.program n c w (after_barrier r c x) (λ u. stop (cancelled v)) (fares_on r.program n c w w2 (after_barrier r c x) g (barrier_fares r n c w2 x inner))
        (λ z w3 k. goes_same c w3 (orderly_on c w w3 order k))
    handler_fares (stopped undefined w2) h = tt
    handler_fares (stopped (ended x) w2) h = tt
    handler_fares (stopped out_of_turns w2) h = tt
    handler_fares (stopped deep w2) h = tt

  module _ (c : Context) (w : World) (few : n ≤ w.last_number) (order : IsOrderly c w) (e : ℕ) (made : e ≤ w.last_number) (rests : contains c.travelling e ≡ false)
      (front : only_front e c.handled ≡ true) (known : (contains c.handled e ≡ true) ⊎ (n < e)) where
    -- what is done while an exception is handled, and the entry before it
    pub while_handled_fares : {A : Type 0} (act : Context → Action A) → FaresIn r.program (handling e c) (act (handling e c)) → Fares r.program n c w (while_handled r e c act w)
    while_handled_fares act fares =
        handler_fares c w few order e made rests front known (act (handling e c) w) (fares n w few (orderly_handling c w e made front order))

  pub entry_fares : (c : Context) (w : World) (e : ℕ) → IsOrderly c w → Fares r.program n c w (enter r e c w)
  entry_fares c w e order = go (is_foreign (exception_at w e) && some_of (λ f. not (f == e)) c.handled)
    where
      go : (z : Bool) → Fares r.program n c w ((if z then terminate r (with_travelling e c) else emit (Enter e)) w)
      go true = terminate_fares (Unit {0}) r r.program n (with_travelling e c) c w w
      go false = goes_live c w w (record w { items = w.items ++ Enter e ∷ [] }) refl refl (goes_same c w order)

  pub entered_fares : {A : Type 0} (c : Context) (w : World) → n ≤ w.last_number → IsOrderly c w → (e : ℕ) → e ≤ w.last_number → contains c.travelling e ≡ false → only_front e c.handled ≡ true
      → (contains c.handled e ≡ true) ⊎ (n < e) → (act : Context → Action A) → FaresIn r.program (handling e c) (act (handling e c))
      → Fares r.program n c w ((enter r e c >> while_handled r e c act) w)
  entered_fares c w few order e made rests front known act fares =
      fares_seq r.program n c w (enter r e c w) (λ u. while_handled r e c act) (entry_fares c w e order)
      (λ u w2 g. let later = g.later in
      while_handled_fares c w2 (omega (arith, few, later)) (orderly_on c w w2 order g) e (omega (arith, made, later)) rests front known act fares)

  -- less travels outside
  resting_fares : {A : Type 0} (c : Context) (w : World) (e : ℕ) (x : Result A) → Fares r.program n (with_travelling e c) w x → Fares r.program n c w x
  resting_fares c w e (done u w2) h = goes_resting c e w w2 h
  resting_fares c w e (stopped (thrown f) w2) h =
      (goes_resting c e w w2 h.0, record { raised = record { made = h.1.raised.made; rests = fewer (e == f) h.1.raised.rests; front = h.1.raised.front }; known = h.1.known; safe = h.1.safe })
    where
      fewer : (z : Bool) → (z || contains c.travelling f) ≡ false → contains c.travelling f ≡ false
      fewer true h = absurd (cc h)
      fewer false h = h
  resting_fares c w e (stopped (cancelled v) w2) h = goes_resting c e w w2 h
  resting_fares c w e (stopped undefined w2) h = tt
  resting_fares c w e (stopped (ended x) w2) h = tt
  resting_fares c w e (stopped out_of_turns w2) h = tt
  resting_fares c w e (stopped deep w2) h = tt

-- an object, and a copy of one
pub object_fares : (p : Checked) (c : Context) (a : Part) → FaresIn p c (new_object a)
object_fares p c a n w few order = goes_live c w w (record w { objects = w.objects ++ a ∷ [] }) refl refl (goes_same c w order)

pub read_fares : (p : Checked) (c : Context) (q : Reference) → FaresIn p c (read q)
read_fares p c q n w few order = go (part_of w q)
  where
    go : (a : Part) → Fares p n c w (read_part a w)
    go (cell (Some v)) = goes_same c w order
    go (cell None) = tt
    go (object k parts) = tt

module _ (r : Running) (fare : CallsFare r) where
  pub copy_object_fares : (k : ℕ) (target source : Reference) → AlwaysFares r.program (copy_object r k target source)
  copy_object_fares k target source c n w few order =
      fares_then r.program n c w (r.call (constructor k (copy_constructor r.program k)) target (by_reference source ∷ []) c w) (λ v. pure (tt {0})) few order
      (fare (constructor k (copy_constructor r.program k)) target (by_reference source ∷ []) c n w few order) (λ v. fares_pure r.program n c (tt {0}))

  pub barrier_act_fares : (act : Context → Action (Unit {0})) → AlwaysFares r.program act → (c : Context) → FaresIn r.program c (behind_barrier r c act)
  barrier_act_fares act fares c n w few order =
      barrier_fares r n c w (act (guarded_by barrier c) w) (fares (guarded_by barrier c) n w few (orderly_as c w (barrier ∷ c.guards) c.ending order))

  pub new_copy_fares : (k : ℕ) (source : Reference) → AlwaysFares r.program (new_copy r k source)
  new_copy_fares k source c n w few order =
      let w1 : World = record w { objects = w.objects ++ unset r.program (class_type k) ∷ [] } in
      let o = length w.objects in
      let h = goes_live c w w w1 refl refl (goes_same c w order) in
      let act = copy_object r k (whole o) source in
      fares_on r.program n c w w1 (continued (behind_barrier r c act w1) (λ u. pure o)) h
      (fares_then r.program n c w1 (behind_barrier r c act w1) (λ u. pure o) few (orderly_on c w w1 order h)
      (barrier_act_fares act (copy_object_fares k (whole o) source) c n w1 few (orderly_on c w w1 order h)) (λ u. fares_pure r.program n c o))

  -- a parameter
  parameter_fares : (t : Option Ty) (source : Reference) → AlwaysFares r.program (catch_parameter r t source)
  parameter_fares None source c n w few order = goes_same c w order
  parameter_fares (Some Int) source c n w few order =
      fares_then r.program n c w (read source w) (λ v. new_object (cell (Some v)) >>= (λ o. pure (whole o))) few order (read_fares r.program c source n w few order)
      (λ v m w2 few2 order2. fares_then r.program m c w2 (new_object (cell (Some v)) w2) (λ o. pure (whole o)) few2 order2 (object_fares r.program c (cell (Some v)) m w2 few2 order2)
      (λ o. fares_pure r.program m c (whole o)))
  parameter_fares (Some (Object q)) source c n w few order =
      fares_then r.program n c w (new_copy r (class_named q) (as_class w (class_named q) source) c w) (λ o. pure (whole o)) few order
      (new_copy_fares (class_named q) (as_class w (class_named q) source) c n w few order) (λ o. fares_pure r.program n c (whole o))
  parameter_fares (Some Void) source c n w few order = goes_same c w order
  parameter_fares (Some (IntRef k)) source c n w few order = goes_same c w order
  parameter_fares (Some (ObjectRef k q)) source c n w few order = goes_same c w order

  parameter_destroyed : (t : Option Ty) (target : Reference) → AlwaysFares r.program (destroy_parameter r t target)
  parameter_destroyed None target c n w few order = goes_same c w order
  parameter_destroyed (Some Int) target c n w few order = goes_same c w order
  parameter_destroyed (Some Void) target c n w few order = goes_same c w order
  parameter_destroyed (Some (Object q)) target c n w few order = destroy_fares r fare (class_type (class_named q)) target c n w few order
  parameter_destroyed (Some (IntRef k)) target c n w few order = goes_same c w order
  parameter_destroyed (Some (ObjectRef k q)) target c n w few order = goes_same c w order

  -- a handler of an exception that came out
  pub handle_fares : {A : Type 0} (n : ℕ) (c : Context) (w : World) → n ≤ w.last_number → IsOrderly c w → (e : ℕ) → CanBeRaised c w e → (contains c.handled e ≡ true) ⊎ (n < e)
      → (t : Option Ty) (x : Option Name) (body : Frame → Context → Action A) (f : Frame) → ((g : Frame) → AlwaysFares r.program (body g)) → Fares r.program n c w (handle r e t x body f c w)
  handle_fares n c w few order e can known t x body f fares =
      let source = exception_object (exception_at w e) in
      let d = with_travelling e c in
      fares_seq r.program n c w (catch_parameter r t source d w)
      (λ q. enter r e c >> while_handled r e c (λ d. scope r d (destroy_parameter r t q) (body (with_parameter x q f) d)))
      (resting_fares r fare n c w e (catch_parameter r t source d w) (parameter_fares t source d n w few (orderly_travelling c w e can.made order)))
      (λ q w2 g. let later = g.later in let made = can.made in
      entered_fares r fare n c w2 (omega (arith, few, later)) (orderly_on c w w2 order g) e (omega (arith, made, later)) can.rests can.front known
      (λ d. scope r d (destroy_parameter r t q) (body (with_parameter x q f) d))
      (λ m w3 few3 order3. scope_fares r m (handling e c) (destroy_parameter r t q) (parameter_destroyed t q) w3 (body (with_parameter x q f) (handling e c) w3) few3 order3
      (fares (with_parameter x q f) (handling e c) m w3 few3 order3)))
