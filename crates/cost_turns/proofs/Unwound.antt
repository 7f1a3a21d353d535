-- Whatever call an unwind comes to, no more is left than before.
use Rattle.std.proofs.Common.{◌≡◌, ℤ, ℕ, ◌+◌, ◌-◌, ◌≤◌, Bool, true, false, List, [], ◌∷◌, Option, Some, None, refl, sym, ap, ◌∙◌, subst, if◌then◌else◌, arith}
use Rattle.meaning_forms.specs.Outcome.{aborted}
use Rattle.region_forms.specs.World.{Frame, World, Exception, building, native, foreign, exception_at, type_at}
use Rattle.region_forms.specs.Effect.{entered_doomed, flies}
use Rattle.linear_forms.specs.Linear.{plain, label, jump, jump_zero, pad, jump_filter, free, resume, unexpected, return}
use Rattle.linear_forms.specs.Tables.{bare}
use Rattle.linear_forms.specs.Stub.{Function, compiled, end_catch, terminating, call_unexpected, CodeOp, linear, runtime, leave_newest, destroy_held, call_held, begin_unexpected, check_unexpected, construct_bad, terminate_for, abort, terminating_rows}
use Rattle.linear_forms.specs.Activation.{Code, Activation, Next, goes_to, finishes, by_program, fetch, look}
use Rattle.linear_forms.specs.Search.{found}
use Rattle.linear_forms.specs.Unwinding.{unwound_at, unwound_above, unwind, doomed_by, doomed, raised_to, raise}
use Rattle.linear_forms.specs.Forced.{forced_at, forced_above, force}
use Rattle.cost_turns.specs.Weights.{is_own, rows_weight, whole, weight_of}
use Rattle.cost_turns.specs.Turns.{is_terminating}
use Rattle.cost_turns.proofs.Pace.{NoJump, cap, Paced}
use Rattle.cost_turns.proofs.Credit.{beneath, Unless, WaitsAt, below_left, Linked, Reached, terminated_reached, terminate_bare, unwound_reached, forced_reached}

-- the operation at which a call waits
pub record WaitsFor (o : Option CodeOp) (f : Function) : Type 0 where
  pub op : CodeOp
  pub is : o ≡ Some op
  pub no_jump : NoJump op

pub waits_for : (f : Function) (o : Option CodeOp) → WaitsAt f o → WaitsFor o f
waits_for f None h = absurd h
waits_for f (Some (linear (plain o))) h = record { op = linear (plain o); is = refl; no_jump = λ l e. cc e }
waits_for f (Some (linear (unexpected o s))) h = record { op = linear (unexpected o s); is = refl; no_jump = λ l e. cc e }
waits_for f (Some (runtime (destroy_held s o))) h = record { op = runtime (destroy_held s o); is = refl; no_jump = λ l e. cc e }
waits_for f (Some (runtime (call_held s))) h = record { op = runtime (call_held s); is = refl; no_jump = λ l e. cc e }
waits_for f (Some (linear (label l))) h = absurd h
waits_for f (Some (linear (jump l))) h = absurd h
waits_for f (Some (linear (jump_zero v l))) h = absurd h
waits_for f (Some (linear (pad o s))) h = absurd h
waits_for f (Some (linear (jump_filter s n l))) h = absurd h
waits_for f (Some (linear (free s))) h = absurd h
waits_for f (Some (linear (resume s))) h = absurd h
waits_for f (Some (linear (return r))) h = absurd h
waits_for f (Some (runtime (leave_newest o d l))) h = absurd h
waits_for f (Some (runtime (begin_unexpected o s))) h = absurd h
waits_for f (Some (runtime (check_unexpected s g o x))) h = absurd h
waits_for f (Some (runtime construct_bad)) h = absurd h
waits_for f (Some (runtime (terminate_for o))) h = absurd h
waits_for f (Some (runtime abort)) h = absurd h

is_terminate : (f : Function) → is_terminating f ≡ true → f ≡ terminating
is_terminate (compiled n) e = absurd (cc e)
is_terminate end_catch e = absurd (cc e)
is_terminate terminating e = refl
is_terminate call_unexpected e = absurd (cc e)

module _ (code : Code) (weigh : Bool → CodeOp → ℕ) (longest : ℕ) (rank : Function → ℕ → ℕ) (pace : Paced code weigh longest rank) (ending : rows_weight (weigh true) terminating_rows ≤ longest) where
  abbrev R : ℕ → Next → Type 0
  R n next = Reached code weigh longest rank pace ending n next

  pub reached_more : (m n : ℕ) (next : Next) → m ≤ n → R m next → R n next
  reached_more m n (finishes e w) le h = tt
  reached_more m n (goes_to st) le h = (omega (arith, le, h.0), h.1)

  no_cover : (f : Function) (p : ℕ) → is_terminating f ≡ true → look code f p ≡ bare
  no_cover f p e = ap (λ g. look code g p) (is_terminate f e) ∙ terminate_bare code weigh longest rank pace ending p

  module _ (n : ℕ) (f : Function) (p : ℕ) (o : CodeOp) (fs : List Activation) (there : fetch code f p ≡ Some o) (no_jump : NoJump o)
      (room : cap weigh longest f - (rank f p + whole weigh (is_own f) o) + beneath (is_terminating f) (below_left code weigh longest rank pace ending fs) ≤ n) (linked : Linked code weigh longest rank pace ending f fs) where
    more_room : is_terminating f ≡ false → below_left code weigh longest rank pace ending fs ≤ n
    more_room e = let same = ap (λ b. beneath b (below_left code weigh longest rank pace ending fs)) e in omega (arith, room, same)

    pub unwound_with : (t e : ℕ) (x : Frame) (w : World) (rest : Next) → (is_terminating f ≡ false → R (below_left code weigh longest rank pace ending fs) rest) → R n (unwound_at code (look code f p) t e f x fs w rest)
    unwound_with t e x w rest h = go (is_terminating f) refl
      where
        go : (b : Bool) → is_terminating f ≡ b → R n (unwound_at code (look code f p) t e f x fs w rest)
        go false i = unwound_reached code weigh longest rank pace ending n f p o fs there no_jump room linked t e x w rest (reached_more (below_left code weigh longest rank pace ending fs) n rest (more_room i) (h i))
        go true i =
            subst (λ c. R n (unwound_at code c t e f x fs w rest)) (sym (no_cover f p i))
            (terminated_reached code weigh longest rank pace ending n w.installed.terminate_handler (record { function = f; place = 0; frame = x } ∷ fs) w)

    pub forced_with : (z : ℤ) (x : Frame) (w : World) (rest : Next) → (is_terminating f ≡ false → R (below_left code weigh longest rank pace ending fs) rest) → R n (forced_at code (look code f p) z f x fs w rest)
    forced_with z x w rest h = go (is_terminating f) refl
      where
        go : (b : Bool) → is_terminating f ≡ b → R n (forced_at code (look code f p) z f x fs w rest)
        go false i = forced_reached code weigh longest rank pace ending n f p o fs there no_jump room linked z x w rest (reached_more (below_left code weigh longest rank pace ending fs) n rest (more_room i) (h i))
        go true i =
            subst (λ c. R n (forced_at code c z f x fs w rest)) (sym (no_cover f p i))
            (terminated_reached code weigh longest rank pace ending n w.installed.terminate_handler (record { function = f; place = 0; frame = x } ∷ fs) w)

  -- the call that waits behind another that is not terminate's
  pub unlink : (f : Function) (a : Activation) (fs : List Activation) → is_terminating f ≡ false → Linked code weigh longest rank pace ending f (a ∷ fs) →
      WaitsAt f (fetch code a.function a.place) × Linked code weigh longest rank pace ending a.function fs
  unlink f a fs e h = subst (λ b. Unless b (WaitsAt f (fetch code a.function a.place) × Linked code weigh longest rank pace ending a.function fs)) e h

  waiting_room : (a : Activation) (fs : List Activation) (o : CodeOp) → fetch code a.function a.place ≡ Some o →
      cap weigh longest a.function - (rank a.function a.place + whole weigh (is_own a.function) o) + beneath (is_terminating a.function) (below_left code weigh longest rank pace ending fs) ≤
      below_left code weigh longest rank pace ending (a ∷ fs)
  waiting_room a fs o e = let weights = ap (weight_of (whole weigh (is_own a.function))) e in omega (arith, weights)

  pub above_unwound : (fs : List Activation) (f : Function) (t e : ℕ) (w : World) → is_terminating f ≡ false → Linked code weigh longest rank pace ending f fs →
      R (below_left code weigh longest rank pace ending fs) (unwound_above code t e fs w)
  above_unwound [] f t e w i h = tt
  above_unwound (a ∷ fs) f t e w i h =
      let both = unlink f a fs i h in
      let o = waits_for f (fetch code a.function a.place) both.0 in
      unwound_with (below_left code weigh longest rank pace ending (a ∷ fs)) a.function a.place o.op fs o.is o.no_jump (waiting_room a fs o.op o.is) both.1 t e a.frame w (unwound_above code t e fs w)
      (λ j. above_unwound fs a.function t e w j both.1)

  pub above_forced : (fs : List Activation) (f : Function) (z : ℤ) (w : World) → is_terminating f ≡ false → Linked code weigh longest rank pace ending f fs →
      R (below_left code weigh longest rank pace ending fs) (forced_above code z fs w)
  above_forced [] f z w i h = tt
  above_forced (a ∷ fs) f z w i h =
      let both = unlink f a fs i h in
      let o = waits_for f (fetch code a.function a.place) both.0 in
      forced_with (below_left code weigh longest rank pace ending (a ∷ fs)) a.function a.place o.op fs o.is o.no_jump (waiting_room a fs o.op o.is) both.1 z a.frame w (forced_above code z fs w)
      (λ j. above_forced fs a.function z w j both.1)

  -- what comes out of the operation at a place
  module _ (n : ℕ) (a : Activation) (o : CodeOp) (fs : List Activation) (there : fetch code a.function a.place ≡ Some o) (no_jump : NoJump o)
      (room : cap weigh longest a.function - (rank a.function a.place + whole weigh (is_own a.function) o) + beneath (is_terminating a.function) (below_left code weigh longest rank pace ending fs) ≤ n)
      (linked : Linked code weigh longest rank pace ending a.function fs) where
    pub unwind_reached : (t e : ℕ) (w : World) → R n (unwind code (look code a.function a.place) t e a.function a.frame fs w)
    unwind_reached t e w = unwound_with n a.function a.place o fs there no_jump room linked t e a.frame w (unwound_above code t e fs w) (λ j. above_unwound fs a.function t e w j linked)

    pub force_reached : (z : ℤ) (w : World) → R n (force code (look code a.function a.place) z a.function a.frame fs w)
    force_reached z w = forced_with n a.function a.place o fs there no_jump room linked z a.frame w (forced_above code z fs w) (λ j. above_forced fs a.function z w j linked)

    doomed_reached : (e : ℕ) (w : World) → R n (doomed e (a ∷ fs) w)
    doomed_reached e w = go w.ending
      where
        by : (x : Exception) → R n (doomed_by e x (a ∷ fs) w)
        by (native t d handlers) = terminated_reached code weigh longest rank pace ending n handlers.terminate_handler (a ∷ fs) (entered_doomed e w)
        by building = terminated_reached code weigh longest rank pace ending n w.installed.terminate_handler (a ∷ fs) w
        by (foreign k t) = terminated_reached code weigh longest rank pace ending n w.installed.terminate_handler (a ∷ fs) w

        go : (b : Bool) → R n (if b then finishes (by_program aborted) w else doomed_by e (exception_at w e) (a ∷ fs) w)
        go true = tt
        go false = by (exception_at w e)

    pub raise_reached : (e : ℕ) (w : World) → R n (raise code e a fs w)
    raise_reached e w = go (found code a.function (look code a.function a.place) (type_at w e) fs)
      where
        go : (t : Option ℕ) → R n (raised_to t e (a ∷ fs) w (λ t. unwind code (look code a.function a.place) t e a.function a.frame fs (flies e w)))
        go None = doomed_reached e w
        go (Some t) = unwind_reached t e (flies e w)
