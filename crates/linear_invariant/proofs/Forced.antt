-- Unwinds keep which forced unwind is on its way.
use Rattle.std.proofs.Common.{◌≡◌, ◌⊎◌, inl, inr, ℕ, zero, suc, ◌+◌, ℤ, pos, Bool, true, false, ◌==◌, List, [], ◌∷◌, length, Option, Some, None, is_some, refl, sym, ap, ◌∙◌, subst, if◌then◌else◌}
use Rattle.meaning_forms.specs.Outcome.{aborted}
use Rattle.region_forms.specs.Form.{Op, leave}
use Rattle.region_forms.specs.World.{Word, nothing, number_word, flying, unwinding, with_slot, Frame, World, Exception, building, native, foreign, exception_at, type_at}
use Rattle.region_forms.specs.Effect.{entered_doomed}
use Rattle.linear_forms.specs.Linear.{LinearOp, plain, label, jump, jump_zero, pad, jump_filter, free, resume, unexpected, return}
use Rattle.linear_forms.specs.Tables.{Cover, bare, unpadded, padded}
use Rattle.linear_forms.specs.Verdict.{Verdict, target, no_way, clean, nothing_here, pad_verdict, has_cleanup}
use Rattle.linear_forms.specs.Stub.{Function, compiled, end_catch, terminating, call_unexpected, CodeOp, linear, stub_cover}
use Rattle.linear_forms.specs.Activation.{Code, Activation, Next, goes_to, finishes, by_program, fault, compiled_op, fetch, look, sense, at, stub_frame, function_word, terminated}
use Rattle.linear_forms.specs.Unwinding.{pad_entered, unwound_by, unwound_at, unwound_above, unwind, doomed_by, raised_to}
use Rattle.linear_forms.specs.Forced.{forced_by as forced_at_pad, forced_at, forced_above, force}
use Rattle.flight_homes.specs.Keeps.{Carrying, Carried, carried}
use Rattle.flight_homes.specs.Nest.{is_terminate}
use Rattle.linear_invariant.specs.Held.{takes_over, carried_below}
use Rattle.linear_invariant.specs.Calls.{Marks, makes_call, Waits, CallsKeep}
use Rattle.linear_invariant.specs.Code.{CodeCarries}
use Rattle.linear_invariant.specs.Forced.{forced_word, forced_carried, forced_by, or_else, newest_forced}
use Rattle.linear_invariant.proofs.Given.{some_same}
use Rattle.linear_invariant.proofs.Landing.{pad_object, catch_pads, PassingPads, passing_pads, no_pads}
use Rattle.linear_invariant.proofs.Tops.{called}

-- an operation that calls one of the program's functions is one of a region
pub plain_calls : (o : LinearOp) → makes_call (linear o) ≡ true → (i : Op) × (o ≡ plain i)
plain_calls (plain i) e = (i, refl)
plain_calls (label l) e = absurd (cc e)
plain_calls (jump l) e = absurd (cc e)
plain_calls (jump_zero v l) e = absurd (cc e)
plain_calls (pad o s) e = absurd (cc e)
plain_calls (jump_filter s z l) e = absurd (cc e)
plain_calls (free s) e = absurd (cc e)
plain_calls (resume s) e = absurd (cc e)
plain_calls (unexpected o s) e = absurd (cc e)
plain_calls (return r) e = absurd (cc e)

module _ (code : Code) (k : Carrying) (c : CodeCarries code k) where
  -- what a call has below another as the newest, unless that takes it over
  pub below_same : (g : Function) → takes_over (Some g) ≡ false → (f : Function) (p : ℕ) (a : Activation) → forced_by (Some g) k f p a ≡ forced_by None k f p a
  below_same g e (compiled n) p a = ap (λ b. forced_carried (if b then None else carried k a)) e
  below_same g e end_catch p a = ap (λ b. forced_carried (if b then None else carried k a)) e
  below_same g e terminating p a = refl
  below_same g e call_unexpected zero a = refl
  below_same g e call_unexpected (suc zero) a = ap (λ b. forced_carried (if b then None else carried k a)) e
  below_same g e call_unexpected (suc (suc zero)) a = ap (λ b. forced_carried (if b then None else carried k a)) e
  below_same g e call_unexpected (suc (suc (suc zero))) a = ap (λ b. forced_carried (if b then None else carried k a)) e
  below_same g e call_unexpected (suc (suc (suc (suc zero)))) a = refl
  below_same g e call_unexpected (suc (suc (suc (suc (suc p))))) a = ap (λ b. forced_carried (if b then None else carried k a)) e

  -- where a function does not carry
  pub none_carried : (b : Bool) (cd : Carried) → b ≡ false → forced_carried (if b then Some cd else None) ≡ None
  none_carried true cd e = absurd (cc e)
  none_carried false cd e = refl

  -- where it does, or what it carries is no forced unwind
  pub word_carried : (b : Bool) (cd : Carried) → b ≡ true → forced_carried (if b then Some cd else None) ≡ forced_word cd.word
  word_carried true cd e = refl
  word_carried false cd e = absurd (cc e)

  pub no_word_carried : (b : Bool) (cd : Carried) → forced_word cd.word ≡ None → forced_carried (if b then Some cd else None) ≡ None
  no_word_carried true cd e = e
  no_word_carried false cd e = refl

  abbrev pub at_place : ℕ → ℕ → Frame → Carried
  at_place n q x = record { word = x.slots (k.object n); home = k.home n q; number = x.slots (k.selector n); left = k.left n q }

  -- A call that an unwind passes, or to whose pad it comes: it is not terminate's, and has no forced unwind on its way.
  pub record Passes (f : Option Function) (a : Activation) : Type 0 where
    pub other : is_terminate a.function ≡ false
    pub none : forced_by f k a.function a.place a ≡ None

  no_cover : (p : ℕ) → stub_cover terminating p ≡ bare
  no_cover zero = refl
  no_cover (suc zero) = refl
  no_cover (suc (suc p)) = refl

  -- a call at an operation of a region
  pub compiled_passes : (f : Option Function) (n p : ℕ) (x : Frame) (o : Op) → code.op_at n p ≡ Some (plain o) → (look code (compiled n) p ≡ bare → ⊥) → Passes f (called (compiled n) p x)
  compiled_passes f n p x o there sited = record { other = refl; none = go (takes_over f) (k.carries n p) refl }
    where
      go : (t b : Bool) → k.carries n p ≡ b → forced_carried (if t then None else if b then Some (at_place n p x) else None) ≡ None
      go true b e = refl
      go false true e = absurd (sited (c.quiet n p o there e))
      go false false e = refl

  some_op : (x : Option LinearOp) (op : CodeOp) → compiled_op x ≡ Some op → (o : LinearOp) × ((x ≡ Some o) × (op ≡ linear o))
  some_op None op e = absurd (cc e)
  some_op (Some o) op e = (o, (refl, cc e))

  compiled_waits : (g : Function) (n p : ℕ) (x : Frame) → Waits code (Some g) (called (compiled n) p x) → is_terminate g ≡ false → (look code (compiled n) p ≡ bare → ⊥) → Passes (Some g) (called (compiled n) p x)
  compiled_waits (compiled m) n p x waits other sited =
      let at = some_op (code.op_at n p) waits.op waits.there in
      let is = plain_calls at.0 (ap makes_call (sym at.1.1) ∙ waits.made) in
      compiled_passes (Some (compiled m)) n p x is.0 (at.1.0 ∙ ap (λ o. Some o) is.1) sited
  compiled_waits end_catch n p x waits other sited =
      let at = some_op (code.op_at n p) waits.op waits.there in
      let is : linear at.0 ≡ linear (plain leave) = sym at.1.1 ∙ waits.made in
      let same : at.0 ≡ plain leave = cc is in
      compiled_passes (Some end_catch) n p x leave (at.1.0 ∙ ap (λ o. Some o) same) sited
  compiled_waits terminating n p x waits other sited = absurd (cc other)
  compiled_waits call_unexpected n p x waits other sited = record { other = refl; none = refl }

  -- what goes on outwards waits for nothing
  none_waits : {X : Type 0} (g : Function) (f : Function) (p s : ℕ) (x : Frame) → fetch code f p ≡ Some (linear (resume s)) → Waits code (Some g) (called f p x) → is_terminate g ≡ false → X
  none_waits (compiled m) f p s x e waits other =
      let is : waits.op ≡ linear (resume s) = some_same (sym waits.there ∙ e) in let never : false ≡ true = sym (ap makes_call is) ∙ waits.made in absurd (cc never)
  none_waits end_catch f p s x e waits other =
      let is : linear (resume s) ≡ linear (plain leave) = some_same (sym e ∙ waits.there) ∙ waits.made in absurd (cc is)
  none_waits terminating f p s x e waits other = absurd (cc other)
  none_waits call_unexpected f p s x e waits other =
      let is : linear (resume s) ≡ linear (unexpected waits.made.0 waits.made.1) = some_same (sym e ∙ waits.there) ∙ waits.made.2 in absurd (cc is)

  -- one of the runtime's own functions that carries nothing
  stub_none : (g : Function) (a : Activation) → carried k a ≡ None → forced_carried (carried_below (Some g) k a) ≡ None
  stub_none g a e = go (takes_over (Some g))
    where
      go : (t : Bool) → forced_carried (if t then None else carried k a) ≡ None
      go true = refl
      go false = ap forced_carried e

  catch_waits : (g : Function) (p : ℕ) (x : Frame) → Waits code (Some g) (called end_catch p x) → is_terminate g ≡ false → (look code end_catch p ≡ bare → ⊥) → Passes (Some g) (called end_catch p x)
  catch_waits g zero x waits other sited = absurd (sited refl)
  catch_waits g (suc zero) x waits other sited = record { other = refl; none = stub_none g (called end_catch 1 x) refl }
  catch_waits g (suc (suc zero)) x waits other sited = absurd (sited refl)
  catch_waits g (suc (suc (suc zero))) x waits other sited = absurd (sited refl)
  catch_waits g (suc (suc (suc (suc zero)))) x waits other sited = absurd (sited refl)
  catch_waits g (suc (suc (suc (suc (suc zero))))) x waits other sited = absurd (sited refl)
  catch_waits g (suc (suc (suc (suc (suc (suc zero)))))) x waits other sited = none_waits g end_catch 6 2 x refl waits other
  catch_waits g (suc (suc (suc (suc (suc (suc (suc p))))))) x waits other sited = absurd (sited refl)

  passing_waits : (g : Function) (p : ℕ) (x : Frame) → Waits code (Some g) (called call_unexpected p x) → is_terminate g ≡ false → (look code call_unexpected p ≡ bare → ⊥) → Passes (Some g) (called call_unexpected p x)
  passing_waits g zero x waits other sited = absurd (sited refl)
  passing_waits g (suc zero) x waits other sited = record { other = refl; none = stub_none g (called call_unexpected 1 x) refl }
  passing_waits g (suc (suc zero)) x waits other sited = absurd (sited refl)
  passing_waits g (suc (suc (suc zero))) x waits other sited = absurd (sited refl)
  passing_waits g (suc (suc (suc (suc zero)))) x waits other sited = absurd (sited refl)
  passing_waits g (suc (suc (suc (suc (suc zero))))) x waits other sited = absurd (sited refl)
  passing_waits g (suc (suc (suc (suc (suc (suc zero)))))) x waits other sited = absurd (sited refl)
  passing_waits g (suc (suc (suc (suc (suc (suc (suc zero))))))) x waits other sited = absurd (sited refl)
  passing_waits g (suc (suc (suc (suc (suc (suc (suc (suc zero)))))))) x waits other sited = absurd (sited refl)
  passing_waits g (suc (suc (suc (suc (suc (suc (suc (suc (suc zero))))))))) x waits other sited = absurd (sited refl)
  passing_waits g (suc (suc (suc (suc (suc (suc (suc (suc (suc (suc zero)))))))))) x waits other sited = record { other = refl; none = stub_none g (called call_unexpected 10 x) refl }
  passing_waits g (suc (suc (suc (suc (suc (suc (suc (suc (suc (suc (suc zero))))))))))) x waits other sited = absurd (sited refl)
  passing_waits g (suc (suc (suc (suc (suc (suc (suc (suc (suc (suc (suc (suc zero)))))))))))) x waits other sited = absurd (sited refl)
  passing_waits g (suc (suc (suc (suc (suc (suc (suc (suc (suc (suc (suc (suc (suc zero))))))))))))) x waits other sited = record { other = refl; none = stub_none g (called call_unexpected 13 x) refl }
  passing_waits g (suc (suc (suc (suc (suc (suc (suc (suc (suc (suc (suc (suc (suc (suc zero)))))))))))))) x waits other sited = absurd (sited refl)
  passing_waits g (suc (suc (suc (suc (suc (suc (suc (suc (suc (suc (suc (suc (suc (suc (suc zero))))))))))))))) x waits other sited = absurd (sited refl)
  passing_waits g (suc (suc (suc (suc (suc (suc (suc (suc (suc (suc (suc (suc (suc (suc (suc (suc zero)))))))))))))))) x waits other sited = absurd (sited refl)
  passing_waits g (suc (suc (suc (suc (suc (suc (suc (suc (suc (suc (suc (suc (suc (suc (suc (suc (suc zero))))))))))))))))) x waits other sited = none_waits g call_unexpected 17 4 x refl waits other
  passing_waits g (suc (suc (suc (suc (suc (suc (suc (suc (suc (suc (suc (suc (suc (suc (suc (suc (suc (suc p)))))))))))))))))) x waits other sited = absurd (sited refl)

  -- a call that waits and lets something out has no forced unwind on its way
  waits_passes : (g f : Function) (p : ℕ) (x : Frame) → Waits code (Some g) (called f p x) → is_terminate g ≡ false → (look code f p ≡ bare → ⊥) → Passes (Some g) (called f p x)
  waits_passes g (compiled n) p x waits other sited = compiled_waits g n p x waits other sited
  waits_passes g end_catch p x waits other sited = catch_waits g p x waits other sited
  waits_passes g terminating p x waits other sited = absurd (sited (no_cover p))
  waits_passes g call_unexpected p x waits other sited = passing_waits g p x waits other sited

  -- what is newest, past such a call
  past : (f : Option Function) (a : Activation) (fs : List Activation) → Passes f a → newest_forced k f (a ∷ fs) ≡ newest_forced k (Some a.function) fs
  past f a fs h =
      ap (λ b. if b then None else or_else (forced_by f k a.function a.place a) (newest_forced k (Some a.function) fs)) h.other ∙ ap (λ o. or_else o (newest_forced k (Some a.function) fs)) h.none

  module _ (before : Option ℤ) (Begins : ℤ → Type 0) where
    -- what comes next keeps the newest, or begins one
    abbrev pub Stays : Next → Type 0
    Stays (finishes e w) = Unit {0}
    Stays (goes_to st) =
        (newest_forced k None (st.top ∷ st.frames) ≡ None) ⊎ ((newest_forced k None (st.top ∷ st.frames) ≡ before) ⊎ ((z : ℤ) × Begins z × (newest_forced k None (st.top ∷ st.frames) ≡ Some z)))

    pub either_stays : (b : Bool) (x y : Next) → Stays x → Stays y → Stays (if b then x else y)
    either_stays true x y h i = h
    either_stays false x y h i = i

    pub terminated_stays : (h : Option ℕ) (fs : List Activation) (w : World) → Stays (terminated h fs w)
    terminated_stays h fs w =
        either_stays w.ending (finishes (by_program aborted) w) (at terminating 0 (stub_frame (function_word h) nothing nothing) fs (record w { ending = is_some h })) tt (inl refl)

    pad_by : (f : Function) (q : ℕ) (x : Frame) (outer : List Activation) (w : World) (word : Word) (z : ℤ) (o : Option LinearOp) →
        ((a b : ℕ) → o ≡ Some (pad a b) → Stays (at f (q + 1) (with_slot b (number_word z) (with_slot a word x)) outer w)) → Stays (pad_entered (compiled_op o) word z f q x outer w)
    pad_by f q x outer w word z None h = tt
    pad_by f q x outer w word z (Some (plain o)) h = tt
    pad_by f q x outer w word z (Some (label l)) h = tt
    pad_by f q x outer w word z (Some (jump l)) h = tt
    pad_by f q x outer w word z (Some (jump_zero v l)) h = tt
    pad_by f q x outer w word z (Some (pad a b)) h = h a b refl
    pad_by f q x outer w word z (Some (jump_filter s u l)) h = tt
    pad_by f q x outer w word z (Some (free s)) h = tt
    pad_by f q x outer w word z (Some (resume s)) h = tt
    pad_by f q x outer w word z (Some (unexpected a b)) h = tt
    pad_by f q x outer w word z (Some (return r)) h = tt

    -- what the pad's slot has
    pad_word : (n q a b : ℕ) (x : Frame) (word number : Word) → code.op_at n q ≡ Some (pad a b) → (with_slot b number (with_slot a word x)).slots (k.object n) ≡ word
    pad_word n q a b x word number there =
        let is = c.pads n q a b there in ap (with_slot b number (with_slot a word x)).slots (sym is.0) ∙ pad_object a b word number x is.2

    -- an exception comes to a pad
    excepted : (f : Function) (p q : ℕ) (chain : List ℤ) (x : Frame) (outer : List Activation) (w : World) (e d : ℕ) (z : ℤ) → look code f p ≡ padded q chain → before ≡ newest_forced k (Some f) outer →
        Stays (pad_entered (fetch code f q) (flying e d) z f q x outer w)
    excepted (compiled n) p q chain x outer w e d z covers is =
        pad_by (compiled n) q x outer w (flying e d) z (code.op_at n q) (λ a b there.
        inr (inl (ap (λ o. or_else o (newest_forced k (Some (compiled n)) outer))
        (no_word_carried (k.carries n (q + 1)) (at_place n (q + 1) (with_slot b (number_word z) (with_slot a (flying e d) x))) (ap forced_word (pad_word n q a b x (flying e d) (number_word z) there))) ∙ sym is)))
    excepted end_catch p q chain x outer w e d z covers is =
        subst (λ i. Stays (pad_entered (fetch code end_catch i) (flying e d) z end_catch i x outer w)) (catch_pads p q chain covers).0 (inr (inl (sym is)))
    excepted terminating p q chain x outer w e d z covers is = absurd (no_pads p q chain covers)
    excepted call_unexpected p q chain x outer w e d z covers is = go (passing_pads p q chain covers)
      where
        go : PassingPads q chain → Stays (pad_entered (fetch code call_unexpected q) (flying e d) z call_unexpected q x outer w)
        go (inl s) = subst (λ i. Stays (pad_entered (fetch code call_unexpected i) (flying e d) z call_unexpected i x outer w)) s.0 (inr (inl (sym is)))
        go (inr s) = subst (λ i. Stays (pad_entered (fetch code call_unexpected i) (flying e d) z call_unexpected i x outer w)) s.0 (inr (inl (sym is)))

    module _ (below : Option Function) (f : Function) (p : ℕ) (x : Frame) (outer : List Activation) (w : World) (passes : (look code f p ≡ bare → ⊥) → Passes below (called f p x))
        (is : before ≡ newest_forced k below (called f p x ∷ outer)) (next : Next) (rest : Passes below (called f p x) → before ≡ newest_forced k (Some f) outer → Stays next) where
      on_past : (look code f p ≡ bare → ⊥) → Stays next
      on_past sited = let h = passes sited in rest h (is ∙ past below (called f p x) outer h)

      by_verdict : (v : Verdict) (q t e : ℕ) (chain : List ℤ) → look code f p ≡ padded q chain → (look code f p ≡ bare → ⊥) → Stays (unwound_by code v q t e f x outer w next)
      by_verdict (target n) q t e chain covers sited =
          either_stays (length outer == t) (pad_entered (fetch code f q) (flying e t) n f q x outer w) (finishes fault w)
          (excepted f p q chain x outer w e t n covers (is ∙ past below (called f p x) outer (passes sited))) tt
      by_verdict no_way q t e chain covers sited = terminated_stays w.installed.terminate_handler (called f 0 x ∷ outer) w
      by_verdict clean q t e chain covers sited = excepted f p q chain x outer w e t (pos 0) covers (is ∙ past below (called f p x) outer (passes sited))
      by_verdict nothing_here q t e chain covers sited = on_past sited

      by_cover : (cv : Cover) → look code f p ≡ cv → (t e : ℕ) → Stays (unwound_at code cv t e f x outer w next)
      by_cover bare e t i = terminated_stays w.installed.terminate_handler (called f 0 x ∷ outer) w
      by_cover unpadded e t i = on_past (λ j. let never : unpadded ≡ bare = sym e ∙ j in cc never)
      by_cover (padded q chain) e t i =
          by_verdict (pad_verdict code.rows (sense code f) chain (type_at w i)) q t i chain e (λ j. let never : padded q chain ≡ bare = sym e ∙ j in cc never)

    module _ (marks : Marks) (w v : World) where
      above_stays : (g : Function) (fs : List Activation) (t e : ℕ) → is_terminate g ≡ false → CallsKeep code k marks (Some g) fs w → before ≡ newest_forced k (Some g) fs → Stays (unwound_above code t e fs v)
      above_stays g [] t e other h is = tt
      above_stays g (a ∷ fs) t e other h is =
          by_cover (Some g) a.function a.place a.frame fs v (λ sited. waits_passes g a.function a.place a.frame h.0.waits other sited) is (unwound_above code t e fs v)
          (λ passes i. above_stays a.function fs t e passes.other h.1 i) (look code a.function a.place) refl t e

      -- an exception goes on, or is raised, from the newest call
      module _ (a : Activation) (fs : List Activation) (rest : CallsKeep code k marks (Some a.function) fs w) (is : before ≡ newest_forced k None (a ∷ fs)) (passes : (look code a.function a.place ≡ bare → ⊥) → Passes None a) where
        pub unwind_stays : (t e : ℕ) → Stays (unwind code (look code a.function a.place) t e a.function a.frame fs v)
        unwind_stays t e =
            by_cover None a.function a.place a.frame fs v passes is (unwound_above code t e fs v) (λ h i. above_stays a.function fs t e h.other rest i) (look code a.function a.place) refl t e

    -- it is raised in a world, and found a target or none
    pub raised_stays : (e : ℕ) (a : Activation) (fs : List Activation) (v : World) (go : ℕ → Next) → ((t : ℕ) → Stays (go t)) → (o : Option ℕ) → Stays (raised_to o e (a ∷ fs) v go)
    raised_stays e a fs v go h None = either_stays v.ending (finishes (by_program aborted) v) (doomed_by e (exception_at v e) (a ∷ fs) v) tt (ends (exception_at v e))
      where
        ends : (x : Exception) → Stays (doomed_by e x (a ∷ fs) v)
        ends building = terminated_stays v.installed.terminate_handler (a ∷ fs) v
        ends (native t d handlers) = terminated_stays handlers.terminate_handler (a ∷ fs) (entered_doomed e v)
        ends (foreign i t) = terminated_stays v.installed.terminate_handler (a ∷ fs) v
    raised_stays e a fs v go h (Some t) = h t

    -- a forced unwind comes to a pad
    module _ (z : ℤ) (arrives : (n : Option ℤ) → n ≡ Some z → (n ≡ before) ⊎ ((u : ℤ) × Begins u × (n ≡ Some u))) (w : World) where
      forced_pad : (f : Function) (p q : ℕ) (chain : List ℤ) (x : Frame) (outer : List Activation) → look code f p ≡ padded q chain → Stays (pad_entered (fetch code f q) (unwinding z) (pos 0) f q x outer w)
      forced_pad (compiled n) p q chain x outer covers =
          pad_by (compiled n) q x outer w (unwinding z) (pos 0) (code.op_at n q) (λ a b there.
          inr (arrives _ (ap (λ o. or_else o (newest_forced k (Some (compiled n)) outer))
          (word_carried (k.carries n (q + 1)) (at_place n (q + 1) (with_slot b (number_word (pos 0)) (with_slot a (unwinding z) x))) (c.behind n q a b there)
          ∙ ap forced_word (pad_word n q a b x (unwinding z) (number_word (pos 0)) there)))))
      forced_pad end_catch p q chain x outer covers =
          subst (λ i. Stays (pad_entered (fetch code end_catch i) (unwinding z) (pos 0) end_catch i x outer w)) (catch_pads p q chain covers).0 (inr (arrives (Some z) refl))
      forced_pad terminating p q chain x outer covers = absurd (no_pads p q chain covers)
      forced_pad call_unexpected p q chain x outer covers = go (passing_pads p q chain covers)
        where
          go : PassingPads q chain → Stays (pad_entered (fetch code call_unexpected q) (unwinding z) (pos 0) call_unexpected q x outer w)
          go (inl s) = subst (λ i. Stays (pad_entered (fetch code call_unexpected i) (unwinding z) (pos 0) call_unexpected i x outer w)) s.0 (inr (arrives (Some z) refl))
          go (inr s) = subst (λ i. Stays (pad_entered (fetch code call_unexpected i) (unwinding z) (pos 0) call_unexpected i x outer w)) s.0 (inr (arrives (Some z) refl))

      forced_cover : (f : Function) (p : ℕ) (x : Frame) (outer : List Activation) (next : Next) → Stays next → (cv : Cover) → look code f p ≡ cv → Stays (forced_at code cv z f x outer w next)
      forced_cover f p x outer next on bare e = terminated_stays w.installed.terminate_handler (called f 0 x ∷ outer) w
      forced_cover f p x outer next on unpadded e = on
      forced_cover f p x outer next on (padded q chain) e = go (has_cleanup (sense code f) chain)
        where
          go : (b : Bool) → Stays (forced_at_pad code b q z f x outer w next)
          go true = forced_pad f p q chain x outer e
          go false = on

      above_forced : (fs : List Activation) → Stays (forced_above code z fs w)
      above_forced [] = tt
      above_forced (a ∷ fs) = forced_cover a.function a.place a.frame fs (forced_above code z fs w) (above_forced fs) (look code a.function a.place) refl

      pub force_stays : (a : Activation) (fs : List Activation) → Stays (force code (look code a.function a.place) z a.function a.frame fs w)
      force_stays a fs = forced_cover a.function a.place a.frame fs (forced_above code z fs w) (above_forced fs) (look code a.function a.place) refl
