-- What handlers settle.
use Rattle.std.proofs.Common.{◌≡◌, ℕ, ◌≤◌, ◌⊎◌, inl, inr, Bool, true, false, List, [], ◌∷◌, ◌++◌, Option, Some, None, refl, sym, ap, ◌∙◌, subst, arith, length}
use Rattle.std.specs.Prelude.{◌==◌, ◌&&◌, ◌||◌, not, if◌then◌else◌}
use Rattle.cxx_ast.specs.declared.name.Name.{Name}
use Rattle.cxx_ast.specs.declared.types.Ty.{Ty}
use Rattle.cxx_ast.specs.declared.types.Ty.TheVariants.{Int, Void, Object, IntRef, ObjectRef}
use Rattle.cxx_ast.specs.Plain.{Checked}
use Rattle.run_items.specs.declared.item.Item.TheVariants.{Enter}
use Rattle.meaning_forms.specs.Class.{class_type, class_named, some_of, contains}
use Rattle.meaning_forms.specs.Part.{Part, cell, object, unset}
use Rattle.meaning_forms.specs.World.{World, Reference, whole, as_class, part_of, exception_at, exception_type}
use Rattle.meaning_forms.specs.Context.{Context, Guard, barrier, guarded_by, handling, with_travelling}
use Rattle.meaning_forms.specs.Guard.{is_doomed}
use Rattle.meaning_forms.specs.Outcome.{Result, done, stopped, thrown, cancelled, ended, undefined, out_of_turns, deep, Action, pure, stop, continued, emit, new_object, read, read_part, ◌>>=◌, ◌>>◌}
use Rattle.meaning_forms.specs.Running.{Running, by_reference, constructor}
use Rattle.meaning_forms.specs.Construct.{copy_constructor, copy_object}
use Rattle.meaning_forms.specs.Frame.{Frame, with_parameter}
use Rattle.meaning_forms.specs.Scope.{scope}
use Rattle.meaning_forms.specs.Terminate.{terminate, after_barrier, behind_barrier}
use Rattle.meaning_forms.specs.Handler.{is_foreign, enter, let_go, after_handler, while_handled, new_copy, catch_parameter, destroy_parameter, exception_object, handle}
use Rattle.meaning_events.specs.Fates.{Story, story, fate, IsWhole, Tells}
use Rattle.meaning_events.specs.Settles.{Nobody, Unless, IsOwn, Spares, Settled, ComesOut, Settles, Inside, SettlesIn, AlwaysSettles, CallsSettle}
use Rattle.meaning_events.proofs.Live.{same_number, number_is}
use Rattle.meaning_events.proofs.Sparing.{never, made_before, spares_left, spares_since}
use Rattle.meaning_events.proofs.Telling.{told, tacit_same, held, held_first, tells_enter}
use Rattle.meaning_events.proofs.Settling.{settled_same, not_since, settles_map, settles_then, inside_then, inside_on, ends_then, terminates, barrier_inside}
use Rattle.meaning_events.proofs.SettlingScopes.{scope_settles}
use Rattle.meaning_events.proofs.Leaving.{destroy_settles, let_go_settles}

own_before : (out : Bool) (e : ℕ) (s s1 : Story) → s.last ≤ s1.last → (q : ℕ) → IsOwn (Unless out e) s1 q → IsOwn (Unless out e) s q
own_before out e s s1 le q (inl mine) = inl mine
own_before out e s s1 le q (inr lt) = inr (omega (arith, le, lt))

-- what settles an exception also settles what was done before
pub left_on : {A : Type 0} (p : Checked) (hs : List ℕ) (gs : List Guard) (s s1 : Story) (e : ℕ) (out : Bool) (x : Result A) → Spares Nobody s s1 Nobody → e ≤ s.last
    → Settles p hs gs (Unless out e) s1 x → Settles p hs gs (Unless out e) s x
left_on p hs gs s s1 e out x h made g =
    settles_map p hs gs s1 s x
    (λ s3 Q k. spares_left s s1 s3 e out out h k made (λ none. none) (λ none there. absurd (never (sym there ∙ none))) (λ q nobody. absurd nobody) (λ q more. more)) (own_before out e s s1 h.later) g

-- an exception is left while another, or the same, travels
module _ (p : Checked) (hs : List ℕ) (gs : List Guard) (s1 s2 : Story) (e f : ℕ) (kept : Bool) (made : e ≤ s1.last) (h : Settled (e ∷ hs) Nobody s1 s2 (λ q. q ≡ f))
    (comes : ComesOut p (e ∷ hs) gs Nobody s1 s2 f) (fewer : kept ≡ false → contains hs e ≡ false) (stays : contains hs e ≡ false → kept ≡ true → e ≡ f) (other : kept ≡ false → f ≡ e → ⊥) where
  not_left : IsOwn (Unless kept e) s2 f → ⊥
  not_left (inl (same, is)) = other is same
  not_left (inr lt) = not_since s2 f (made_before (e ∷ hs) s2 f h.tells comes.whole.live) (inr lt)

  known : (contains hs f ≡ true) ⊎ IsOwn (Unless (contains hs e) e) s1 f
  known = go comes.known
    where
      outside : (z : Bool) → contains hs e ≡ z → f ≡ e → (contains hs f ≡ true) ⊎ IsOwn (Unless (contains hs e) e) s1 f
      outside true is same = inl (ap (contains hs) same ∙ is)
      outside false is same = inr (inl (same, is))

      by : (f ≡ e) ⊎ (contains hs f ≡ true) → (contains hs f ≡ true) ⊎ IsOwn (Unless (contains hs e) e) s1 f
      by (inl same) = outside (contains hs e) refl same
      by (inr there) = inl there

      go : (contains (e ∷ hs) f ≡ true) ⊎ IsOwn Nobody s1 f → (contains hs f ≡ true) ⊎ IsOwn (Unless (contains hs e) e) s1 f
      go (inl there) = by (held e f hs there)
      go (inr (inl nobody)) = absurd nobody
      go (inr (inr lt)) = inr (inr lt)

  pub left_thrown : (A : Type 0) (x : Result (Unit {0})) → Inside hs (Unless kept e) s2 x → Settles {A = A} p hs gs (Unless (contains hs e) e) s1 (continued x (λ u. stop (thrown f)))
  left_thrown A (done u w) g =
      let same : fate (story w) f ≡ fate s2 f = g.spares.spared f not_left in (
        record {
          tells = g.tells;
          spares = spares_left s1 s2 (story w) e kept (contains hs e) h.spares g.spares made fewer stays (λ q out. out) (λ q nobody. absurd nobody);
        },
        record { known = known; whole = subst IsWhole (sym same) comes.whole; safe = ap (λ x. is_doomed p gs (exception_type x.exception)) same ∙ comes.safe },
      )
  left_thrown A (stopped (thrown q) w) g = absurd g
  left_thrown A (stopped (cancelled n) w) g = absurd g
  left_thrown A (stopped undefined w) g = g
  left_thrown A (stopped (ended q) w) g = g
  left_thrown A (stopped out_of_turns w) g = g
  left_thrown A (stopped deep w) g = g

module _ (r : Running) (calls : CallsSettle r) (c : Context) where
  -- however what is done in a handler comes out
  module _ (w : World) (e : ℕ) (tells : Tells (e ∷ c.handled) (story w)) where
    made : e ≤ (story w).last
    made = made_before (e ∷ c.handled) (story w) e tells (tells.whole e (held_first e c.handled)).live

    pub handler_settles : {A : Type 0} (x : Result A) → Settles r.program (e ∷ c.handled) c.guards Nobody (story w) x
        → Settles r.program c.handled c.guards (Unless (contains c.handled e) e) (story w) (after_handler r e c x)
    handler_settles (done a w2) h =
        settles_then r.program c.handled c.guards (Unless (contains c.handled e) e) (story w) (let_go r e (contains c.handled e) c w2) (λ u. pure a)
        (left_on r.program c.handled c.guards (story w) (story w2) e (contains c.handled e) (let_go r e (contains c.handled e) c w2) h.spares made
        (let_go_settles r calls c w2 e (contains c.handled e) h.tells (λ none. none)))
        (λ u w3 more. settled_same c.handled (story w3) more)
    handler_settles {A} (stopped (thrown f) w2) h =
        left_thrown r.program c.handled c.guards (story w) (story w2) e f (f == e || contains c.handled e) made h.0 h.1 (fewer (f == e)) (stays (f == e) refl) (other (f == e) refl) A
        (after_barrier r (with_travelling f c) (let_go r e (f == e || contains c.handled e) (guarded_by barrier (with_travelling f c)) w2))
        (barrier_inside r calls (Unless (f == e || contains c.handled e) e) (with_travelling f c) (story w2)
        (let_go r e (f == e || contains c.handled e) (guarded_by barrier (with_travelling f c)) w2)
        (let_go_settles r calls (guarded_by barrier (with_travelling f c)) w2 e (f == e || contains c.handled e) h.0.tells (fewer (f == e))))
      where
        fewer : (z : Bool) → (z || contains c.handled e) ≡ false → contains c.handled e ≡ false
        fewer true is = absurd (never is)
        fewer false is = is

        stays : (z : Bool) → (f == e) ≡ z → contains c.handled e ≡ false → (z || contains c.handled e) ≡ true → e ≡ f
        stays true is none there = sym (number_is f e is)
        stays false is none there = absurd (never (sym there ∙ none))

        other : (z : Bool) → (f == e) ≡ z → (z || contains c.handled e) ≡ false → f ≡ e → ⊥
        other true is none same = never none
        other false is none same = never (sym (ap (λ n. n == e) same ∙ same_number e) ∙ is)
    handler_settles (stopped (cancelled n) w2) h =
        let y = let_go r e (contains c.handled e) (guarded_by barrier c) w2 in
        left_on r.program c.handled c.guards (story w) (story w2) e (contains c.handled e) (continued (after_barrier r c y) (λ u. stop (cancelled n))) h.spares made
        (inside_then r.program c.handled c.guards (Unless (contains c.handled e) e) (story w2) (after_barrier r c y) (λ u. stop (cancelled n))
        (barrier_inside r calls (Unless (contains c.handled e) e) c (story w2) y
        (let_go_settles r calls (guarded_by barrier c) w2 e (contains c.handled e) h.tells (λ none. none)))
        (λ u w3 g. g))
    handler_settles (stopped undefined w2) h = h
    handler_settles (stopped (ended x) w2) h = h
    handler_settles (stopped out_of_turns w2) h = h
    handler_settles (stopped deep w2) h = h

  -- what is done while an exception is handled, and the entry before it
  pub while_handled_settles : {A : Type 0} (w : World) (e : ℕ) (act : Context → Action A) → Tells (e ∷ c.handled) (story w) → SettlesIn r.program (handling e c) (act (handling e c))
      → Settles r.program c.handled c.guards (Unless (contains c.handled e) e) (story w) (while_handled r e c act w)
  while_handled_settles w e act tells settles = handler_settles w e tells (act (handling e c) w) (settles w tells)

  pub entered_settles : {A : Type 0} (own : ℕ → Type 0) (w : World) (e : ℕ) (next : Unit {0} → Action A) → Tells c.handled (story w) → IsWhole (fate (story w) e)
      → ((w2 : World) → Tells (e ∷ c.handled) (story w2) → exception_at w2 e ≡ exception_at w e → Settles r.program c.handled c.guards own (story w2) (next tt w2))
      → Settles r.program c.handled c.guards own (story w) (continued (enter r e c w) next)
  entered_settles {A} own w e next tells whole settles = go (is_foreign (exception_at w e) && some_of (λ f. not (f == e)) c.handled)
    where
      same : (q : ℕ) → fate (told (Enter e) (story w)) q ≡ fate (story w) q
      same q = tacit_same (Enter e) (story w) (λ n. (refl, refl, refl, refl)) q

      own_same : (q : ℕ) → IsOwn own (told (Enter e) (story w)) q → IsOwn own (story w) q
      own_same q (inl mine) = inl mine
      own_same q (inr lt) = inr lt

      go : (z : Bool) → Settles r.program c.handled c.guards own (story w) (continued ((if z then terminate r (with_travelling e c) else emit (Enter e)) w) next)
      go true = ends_then r.program c.handled c.guards own (story w) (terminate r (with_travelling e c) w) next (terminates r calls (Unit {0}) (with_travelling e c) w tells)
      go false =
          let w2 : World = record w { items = w.items ++ Enter e ∷ [] } in
          settles_map r.program c.handled c.guards (told (Enter e) (story w)) (story w) (next tt w2) (λ s3 Q h. spares_since (story w) (told (Enter e) (story w)) s3 refl same h) own_same
          (settles w2 (tells_enter c.handled (story w) e whole tells) refl)

-- an object, and a copy of one
pub object_settles : (hs : List ℕ) (a : Part) (w : World) → Tells hs (story w) → Inside hs Nobody (story w) (new_object a w)
object_settles hs a w tells = settled_same hs (story w) tells

pub read_settles : (hs : List ℕ) (q : Reference) (w : World) → Tells hs (story w) → Inside hs Nobody (story w) (read q w)
read_settles hs q w tells = go (part_of w q)
  where
    go : (a : Part) → Inside hs Nobody (story w) (read_part a w)
    go (cell (Some v)) = settled_same hs (story w) tells
    go (cell None) = tells.allowed
    go (object k parts) = tells.allowed

module _ (r : Running) (calls : CallsSettle r) where
  pub copy_object_settles : (k : ℕ) (target source : Reference) → AlwaysSettles r.program (copy_object r k target source)
  copy_object_settles k target source c w tells =
      settles_then r.program c.handled c.guards Nobody (story w) (r.call (constructor k (copy_constructor r.program k)) target (by_reference source ∷ []) c w) (λ v. pure (tt {0}))
      (calls (constructor k (copy_constructor r.program k)) target (by_reference source ∷ []) c w tells) (λ v w2 more. settled_same c.handled (story w2) more)

  pub barrier_act_inside : (act : Context → Action (Unit {0})) → AlwaysSettles r.program act → (c : Context) (w : World) → Tells c.handled (story w)
      → Inside c.handled Nobody (story w) (behind_barrier r c act w)
  barrier_act_inside act settles c w tells = barrier_inside r calls Nobody c (story w) (act (guarded_by barrier c) w) (settles (guarded_by barrier c) w tells)

  pub new_copy_inside : (k : ℕ) (source : Reference) (c : Context) (w : World) → Tells c.handled (story w) → Inside c.handled Nobody (story w) (new_copy r k source c w)
  new_copy_inside k source c w tells =
      let w1 : World = record w { objects = w.objects ++ unset r.program (class_type k) ∷ [] } in
      let o = length w.objects in
      let act = copy_object r k (whole o) source in
      inside_on c.handled (story w) (behind_barrier r c act w1) (λ u. pure o) (barrier_act_inside act (copy_object_settles k (whole o) source) c w1 tells) (λ u w2 g. g)

  -- a parameter
  parameter_inside : (t : Option Ty) (source : Reference) (c : Context) (w : World) → Tells c.handled (story w) → Inside c.handled Nobody (story w) (catch_parameter r t source c w)
  parameter_inside None source c w tells = settled_same c.handled (story w) tells
  parameter_inside (Some Int) source c w tells =
      inside_on c.handled (story w) (read source w) (λ v. new_object (cell (Some v)) >>= (λ o. pure (whole o))) (read_settles c.handled source w tells) (λ v w2 g. g)
  parameter_inside (Some (Object q)) source c w tells =
      inside_on c.handled (story w) (new_copy r (class_named q) (as_class w (class_named q) source) c w) (λ o. pure (whole o))
      (new_copy_inside (class_named q) (as_class w (class_named q) source) c w tells) (λ o w2 g. g)
  parameter_inside (Some Void) source c w tells = settled_same c.handled (story w) tells
  parameter_inside (Some (IntRef k)) source c w tells = settled_same c.handled (story w) tells
  parameter_inside (Some (ObjectRef k q)) source c w tells = settled_same c.handled (story w) tells

  parameter_destroyed : (t : Option Ty) (target : Reference) → AlwaysSettles r.program (destroy_parameter r t target)
  parameter_destroyed None target c w tells = settled_same c.handled (story w) tells
  parameter_destroyed (Some Int) target c w tells = settled_same c.handled (story w) tells
  parameter_destroyed (Some Void) target c w tells = settled_same c.handled (story w) tells
  parameter_destroyed (Some (Object q)) target c w tells = destroy_settles r calls (class_type (class_named q)) target c w tells
  parameter_destroyed (Some (IntRef k)) target c w tells = settled_same c.handled (story w) tells
  parameter_destroyed (Some (ObjectRef k q)) target c w tells = settled_same c.handled (story w) tells

  -- a handler of an exception that came out
  pub handle_settles : {A : Type 0} (c : Context) (w : World) (e : ℕ) → Tells c.handled (story w) → IsWhole (fate (story w) e)
      → (t : Option Ty) (x : Option Name) (body : Frame → Context → Action A) (f : Frame) → ((g : Frame) → AlwaysSettles r.program (body g))
      → Settles r.program c.handled c.guards (Unless (contains c.handled e) e) (story w) (handle r e t x body f c w)
  handle_settles {A} c w e tells whole t x body f settles =
      inside_then r.program c.handled c.guards (Unless (contains c.handled e) e) (story w) (catch_parameter r t (exception_object (exception_at w e)) (with_travelling e c) w) entry
      (parameter_inside t (exception_object (exception_at w e)) (with_travelling e c) w tells)
      (λ q w2 g. left_on r.program c.handled c.guards (story w) (story w2) e (contains c.handled e) (entry q w2) g.spares made
      (entered_settles r calls c (Unless (contains c.handled e) e) w2 e (λ u. while_handled r e c (inner q)) g.tells (subst IsWhole (sym (g.spares.spared e (not_since (story w) e made))) whole)
      (λ w3 more same. while_handled_settles r calls c w3 e (inner q) more
      (λ w4 tells4. scope_settles r calls (handling e c) (destroy_parameter r t q) (parameter_destroyed t q) Nobody (story w4) (body (with_parameter x q f) (handling e c) w4)
      (settles (with_parameter x q f) (handling e c) w4 tells4)))))
    where
      made : e ≤ (story w).last
      made = made_before c.handled (story w) e tells whole.live

      inner : Reference → Context → Action A
      inner q d = scope r d (destroy_parameter r t q) (body (with_parameter x q f) d)

      entry : Reference → Action A
      entry q = enter r e c >> while_handled r e c (inner q)
