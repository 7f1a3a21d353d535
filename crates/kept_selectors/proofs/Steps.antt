-- Each step keeps what open calls have in the slots for numbers.
use Rattle.std.proofs.Common.{◌≡◌, ◌⊎◌, inl, inr, ℕ, zero, suc, ◌+◌, ℤ, pos, negsuc, Bool, true, false, ◌==◌, List, [], ◌∷◌, Option, Some, None, refl, sym, ap, ◌∙◌, subst, if◌then◌else◌}
use Rattle.std.specs.Prelude.{⊤, slice_get}
use Rattle.meaning_forms.specs.Arithmetic.{is_zero}
use Rattle.region_forms.specs.Form.{Place, Op, evaluate, store, bind, call, construct, destroy, make, throw, rethrow, enter, leave}
use Rattle.region_forms.specs.World.{Address, Word, nothing, number_word, address_word, flying, unwinding, Frame, World, exception_in_slot}
use Rattle.region_forms.specs.Evaluation.{address_of, value_in}
use Rattle.region_forms.specs.Effect.{Effect, goes, calls, raises, terminates, ends, cancels, leaves_newest, meaningless, if_some, effect, finished, freed, result_in, new_frame}
use Rattle.linear_forms.specs.Linear.{LinearOp, plain, label, jump, jump_zero, pad, jump_filter, free, resume, unexpected, return}
use Rattle.linear_forms.specs.Stub.{Function, compiled, end_catch, terminating, call_unexpected, CodeOp, linear, StubRow, call_unexpected_rows, stub_op}
use Rattle.linear_forms.specs.Activation.{Code, Activation, Next, compiled_op, fetch, kinds, on, enters_function}
use Rattle.linear_forms.specs.Operation.{settled, performed, wanted_by, returned_with, jumped, jumped_zero, holds_number, resumed, may_free, act}
use Rattle.linear_forms.specs.Machine.{act_on}
use Rattle.linear_forms.proofs.Integers.{equal_is_same}
use Rattle.flight_homes.specs.Keeps.{Carrying}
use Rattle.linear_invariant.specs.Calls.{makes_call}
use Rattle.linear_invariant.specs.Code.{carries_on, CodeCarries}
use Rattle.kept_selectors.specs.Stopping.{IsList, CodeStops}
use Rattle.kept_selectors.specs.Selectors.{IsChained, IsSelector, HasList, FrameNamed, SelectorsNamed}
use Rattle.kept_selectors.proofs.Frames.{carried_here, goes_next, goes_tested, goes_off}
use Rattle.kept_selectors.proofs.Unwinds.{Named, either, next_named, terminated_named, unwind_named, force_named, raise_named}

abbrev pub called : Function → ℕ → Frame → Activation
called f p x = record { function = f; place = p; frame = x }

-- the runtime's own operations have no place for a value
abbrev NoStore : Option CodeOp → Type 0
NoStore x = wanted_by x ≡ None

abbrev RowsStore : List StubRow → Type 0
RowsStore [] = Unit {0}
RowsStore (x ∷ xs) = NoStore (Some x.op) × RowsStore xs

row_stores : (rows : List StubRow) → RowsStore rows → (p : ℕ) → NoStore (elim (slice_get rows p) [ None ↦ None | Some x ↦ Some x.op ])
row_stores [] h p = refl
row_stores (x ∷ xs) h zero = h.0
row_stores (x ∷ xs) h (suc p) = row_stores xs h.1 p

own_stores : RowsStore call_unexpected_rows
own_stores = (refl, (refl, (refl, (refl, (refl, (refl, (refl, (refl, (refl, (refl, (refl, (refl, (refl, (refl, (refl, (refl, (refl, (refl, tt))))))))))))))))))

module _ (code : Code) (k : Carrying) (c : CodeCarries code k) (t : CodeStops code) where
  abbrev Goes : Next → Type 0
  Goes = Named code k c t

  -- the frame with which an operation of a function goes on to a place
  abbrev pub Leaves : Function → ℕ → Effect → Type 0
  Leaves f q (goes x w) = FrameNamed code k f q x
  Leaves f q e = ⊤

  any_leaves : (f : Function) (q : ℕ) → ((x : Frame) → FrameNamed code k f q x) → (e : Effect) → Leaves f q e
  any_leaves f q h (goes x w) = h x
  any_leaves f q h (calls p n given) = tt
  any_leaves f q h (raises e w) = tt
  any_leaves f q h (terminates m w) = tt
  any_leaves f q h (ends e w) = tt
  any_leaves f q h (cancels z w) = tt
  any_leaves f q h leaves_newest = tt
  any_leaves f q h meaningless = tt

  -- nothing is asked at a place at which a call doesn't carry
  uncarried : (n q : ℕ) → k.carries n q ≡ false → (x : Frame) → FrameNamed code k (compiled n) q x
  uncarried n q without x there = let never : false ≡ true = sym without ∙ there in absurd (cc never)

  -- of plain operations a call that carries makes only those of cleanups
  only_cleanups : (X : Op → Type 0) → ((q : Place) (m : ℕ) → X (destroy q m)) → X leave → (o : Op) → carries_on (plain o) ≡ true → X o
  only_cleanups X d l (evaluate v) e = absurd (cc e)
  only_cleanups X d l (store p v) e = absurd (cc e)
  only_cleanups X d l (bind s p) e = absurd (cc e)
  only_cleanups X d l (call b args) e = absurd (cc e)
  only_cleanups X d l (construct p m args) e = absurd (cc e)
  only_cleanups X d l (destroy p m) e = d p m
  only_cleanups X d l (make s) e = absurd (cc e)
  only_cleanups X d l (throw s u b) e = absurd (cc e)
  only_cleanups X d l rethrow e = absurd (cc e)
  only_cleanups X d l (enter s) e = absurd (cc e)
  only_cleanups X d l leave e = l

  compiled_leaves : (n p : ℕ) (o : Op) (x : Frame) (w : World) → code.op_at n p ≡ Some (plain o) → Leaves (compiled n) (p + 1) (effect (code.kinds_at n) o x w)
  compiled_leaves n p o x w there = go (k.carries n (p + 1)) refl
    where
      some : (a : Option Address) (m : ℕ) → Leaves (compiled n) (p + 1) (if_some a (λ a. calls None m (address_word a ∷ [])))
      some None m = tt
      some (Some a) m = tt

      go : (b : Bool) → k.carries n (p + 1) ≡ b → Leaves (compiled n) (p + 1) (effect (code.kinds_at n) o x w)
      go false e = any_leaves (compiled n) (p + 1) (uncarried n (p + 1) e) (effect (code.kinds_at n) o x w)
      go true e =
          only_cleanups (λ o. Leaves (compiled n) (p + 1) (effect (code.kinds_at n) o x w)) (λ q m. some (address_of (code.kinds_at n) x q) m) tt o
          (c.form n p (plain o) there (carried_here code k c t n p (plain o) there refl (p + 1) (inl (refl, refl)) e))

  settled_named : (e : Effect) (a : Activation) (fs : List Activation) (w : World) → Leaves a.function (a.place + 1) e → SelectorsNamed code k fs → Goes (settled e a fs w)
  settled_named (goes x v) a fs w l i = (l, i)
  settled_named (calls p n given) a fs w l i = tt
  settled_named (raises e v) a fs w l i = tt
  settled_named (terminates m v) a fs w l i = tt
  settled_named (ends e v) a fs w l i = tt
  settled_named (cancels z v) a fs w l i = tt
  settled_named leaves_newest a fs w l i = tt
  settled_named meaningless a fs w l i = tt

  -- a call of a function of the program begins at its first place
  pub begins_named : (n : ℕ) (given : List Word) (fs : List Activation) (w : World) → SelectorsNamed code k fs → Goes (enters_function code n given fs w)
  begins_named n given fs w i = (uncarried n 0 (c.first n) (new_frame (code.kinds_at n) given w), i)

  pub performed_named : (e : Effect) (a : Activation) (fs : List Activation) (w : World) → Leaves a.function (a.place + 1) e → SelectorsNamed code k (a ∷ fs) → Goes (performed code e a fs w)
  performed_named (goes x v) a fs w l h = (l, h.1)
  performed_named (calls p n given) a fs w l h = begins_named n given (a ∷ fs) w h
  performed_named (raises e v) a fs w l h = raise_named code k c t a fs h e v
  performed_named (terminates m v) a fs w l h = terminated_named code k c t m (a ∷ fs) v h
  performed_named (ends e v) a fs w l h = tt
  performed_named (cancels z v) a fs w l h = force_named code k c t a fs h z v
  performed_named leaves_newest a fs w l h = (tt, h)
  performed_named meaningless a fs w l h = tt

  pub resumed_named : (x : Word) (a : Activation) (fs : List Activation) (w : World) → SelectorsNamed code k (a ∷ fs) → Goes (resumed code x a fs w)
  resumed_named (flying e d) a fs w h = unwind_named code k c t a fs h d e w
  resumed_named (unwinding z) a fs w h = force_named code k c t a fs h z w
  resumed_named nothing a fs w h = tt
  resumed_named (number_word z) a fs w h = tt
  resumed_named (address_word q) a fs w h = tt

  -- a call comes back to one that waits for it
  abbrev pub WaitsFor : Function → List Activation → Type 0
  WaitsFor f [] = ⊤
  WaitsFor f (r ∷ fs) = (op : CodeOp) × (fetch code r.function r.place ≡ Some op) × ((makes_call op ≡ true) ⊎ (op ≡ linear (plain leave)))

  module _ (op : CodeOp) (made : (makes_call op ≡ true) ⊎ (op ≡ linear (plain leave))) (z : ℤ) (w : World) where
    abbrev Back : (f : Function) (p : ℕ) (x : Frame) → Type 0
    Back f p x = Leaves f (p + 1) (finished (kinds code f) (wanted_by (fetch code f p)) z x w)

    is_plain : (o : LinearOp) → (makes_call op ≡ true) ⊎ (op ≡ linear (plain leave)) → op ≡ linear o → (q : Op) × (o ≡ plain q)
    is_plain (plain q) m e = (q, refl)
    is_plain (label l) (inl m) e = let never : false ≡ true = sym (ap makes_call e) ∙ m in absurd (cc never)
    is_plain (jump l) (inl m) e = let never : false ≡ true = sym (ap makes_call e) ∙ m in absurd (cc never)
    is_plain (jump_zero v l) (inl m) e = let never : false ≡ true = sym (ap makes_call e) ∙ m in absurd (cc never)
    is_plain (pad o s) (inl m) e = let never : false ≡ true = sym (ap makes_call e) ∙ m in absurd (cc never)
    is_plain (jump_filter s n l) (inl m) e = let never : false ≡ true = sym (ap makes_call e) ∙ m in absurd (cc never)
    is_plain (free s) (inl m) e = let never : false ≡ true = sym (ap makes_call e) ∙ m in absurd (cc never)
    is_plain (resume s) (inl m) e = let never : false ≡ true = sym (ap makes_call e) ∙ m in absurd (cc never)
    is_plain (unexpected o s) (inl m) e = let never : false ≡ true = sym (ap makes_call e) ∙ m in absurd (cc never)
    is_plain (return q) (inl m) e = let never : false ≡ true = sym (ap makes_call e) ∙ m in absurd (cc never)
    is_plain o (inr m) e = let same : linear o ≡ linear (plain leave) = sym e ∙ m in (leave, cc same)

    in_code : (n p : ℕ) (x : Frame) (q : Op) → code.op_at n p ≡ Some (plain q) → FrameNamed code k (compiled n) p x → Back (compiled n) p x
    in_code n p x q e h = go (k.carries n (p + 1)) refl
      where
        wants : carries_on (plain q) ≡ true → wanted_by (Some (linear (plain q))) ≡ None
        wants = only_cleanups (λ q. wanted_by (Some (linear (plain q))) ≡ None) (λ a m. refl) refl q

        go : (b : Bool) → k.carries n (p + 1) ≡ b → Back (compiled n) p x
        go false i = any_leaves (compiled n) (p + 1) (uncarried n (p + 1) i) (finished (code.kinds_at n) (wanted_by (fetch code (compiled n) p)) z x w)
        go true i =
            let here = carried_here code k c t n p (plain q) e refl (p + 1) (inl (refl, refl)) i in
            let none : wanted_by (fetch code (compiled n) p) ≡ None = ap (λ o. wanted_by (compiled_op o)) e ∙ wants (c.form n p (plain q) e here) in
            subst (λ o. Leaves (compiled n) (p + 1) (finished (code.kinds_at n) o z x w)) (sym none) (goes_next code k c t n p (plain q) x e refl refl h)

    in_compiled : (n p : ℕ) (x : Frame) (o : Option LinearOp) → code.op_at n p ≡ o → compiled_op o ≡ Some op → FrameNamed code k (compiled n) p x → Back (compiled n) p x
    in_compiled n p x None e i h = absurd (cc i)
    in_compiled n p x (Some o) e i h =
        let is : op ≡ linear o = cc i in
        let it = is_plain o made is in
        in_code n p x it.0 (e ∙ ap (λ y. Some y) it.1) h

    came_back : (f : Function) (p : ℕ) (x : Frame) → fetch code f p ≡ Some op → FrameNamed code k f p x → Back f p x
    came_back (compiled n) p x e h = in_compiled n p x (code.op_at n p) refl e h
    came_back end_catch p x e h = any_leaves end_catch (p + 1) (λ y. tt) (finished (kinds code end_catch) (wanted_by (stub_op end_catch p)) z x w)
    came_back terminating p x e h = any_leaves terminating (p + 1) (λ y. tt) (finished (kinds code terminating) (wanted_by (stub_op terminating p)) z x w)
    came_back call_unexpected p x e h =
        subst (λ o. Leaves call_unexpected (p + 1) (finished (kinds code call_unexpected) o z x w)) (sym (row_stores call_unexpected_rows own_stores p)) h

  pub returned_named : (f : Function) (o : Option ℤ) (fs : List Activation) (w : World) → WaitsFor f fs → SelectorsNamed code k fs → Goes (returned_with code o fs w)
  returned_named f None fs w wait i = tt
  returned_named f (Some z) [] w wait i = tt
  returned_named f (Some z) (r ∷ fs) w wait i =
      settled_named (finished (kinds code r.function) (wanted_by (fetch code r.function r.place)) z r.frame w) r fs w (came_back wait.0 wait.2 z w r.function r.place r.frame wait.1 i.0) i.1

  -- an operation of a compiled function
  module _ (n p : ℕ) (x : Frame) (fs : List Activation) (w : World) (h : FrameNamed code k (compiled n) p x) (i : SelectorsNamed code k fs) (wait : WaitsFor (compiled n) fs) where
    abbrev a : Activation
    a = called (compiled n) p x

    act_named : (o : LinearOp) → code.op_at n p ≡ Some o → Goes (act code o a fs w)
    act_named (plain o) e = performed_named (effect (code.kinds_at n) o x w) a fs w (compiled_leaves n p o x w e) (h, i)
    act_named (label l) e = (goes_next code k c t n p (label l) x e refl refl h, i)
    act_named (jump l) e = (goes_off code k c t n p l (jump l) x e refl refl refl, i)
    act_named (jump_zero v l) e = go (value_in (code.kinds_at n) x w v)
      where
        go : (o : Option ℤ) → Goes (jumped_zero code o l a fs w)
        go None = tt
        go (Some z) =
            either code k c t (is_zero z) (jumped code l a fs w) (on a x fs w) (goes_off code k c t n p l (jump_zero v l) x e refl refl refl, i) (goes_next code k c t n p (jump_zero v l) x e refl refl h, i)
    act_named (pad o s) e = tt
    act_named (jump_filter s z l) e = go (holds_number (x.slots s) z) refl
      where
        slot : k.carries n p ≡ true → s ≡ k.selector n
        slot here = (c.tests n p s l z e here).0

        go : (b : Bool) → holds_number (x.slots s) z ≡ b → Goes (if b then jumped code l a fs w else on a x fs w)
        go true j = (
          goes_tested code k c t n p s l z x e
              (λ y is.
              let here : x.slots s ≡ number_word y = ap x.slots (slot (c.filters n p s l z e)) ∙ is in
              equal_is_same y z (sym (ap (λ u. holds_number u z) here) ∙ j)) h,
          i,
        )
        go false j = (goes_next code k c t n p (jump_filter s z l) x e refl refl h, i)
    act_named (free s) e =
        next_named code k c t (may_free (compiled n) w (exception_in_slot x s)) w (on a x fs (freed (exception_in_slot x s) w)) (goes_next code k c t n p (free s) x e refl refl h, i)
    act_named (resume s) e = resumed_named (x.slots s) a fs w (h, i)
    act_named (unexpected o s) e = (given, (h, i))
      where
        own : IsSelector code k n p (x.slots (k.selector n))
        own = h (c.passes n p o s e).0

        list : IsList own.number
        list = (own.stopped (inl (o, s, e))).0

        named : (own.number ≡ pos 0) ⊎ IsChained code n own.number → IsChained code n (negsuc list.0)
        named (inl j) = let never : pos 0 ≡ negsuc list.0 = sym j ∙ list.1 in absurd (cc never)
        named (inr j) = subst (IsChained code n) list.1 j

        given : HasList code (record { call = 0; slots = λ u. if u == 0 then x.slots o else if u == 1 then x.slots s else if u == 2 then number_word (pos n) else nothing })
        given = record {
          owner = n;
          owner_is = refl;
          list = list.0;
          list_is = ap x.slots (c.passes n p o s e).2 ∙ own.is ∙ ap number_word list.1;
          chained = named own.named;
        }
    act_named (return r) e = returned_named (compiled n) (result_in r x w (code.kinds_at n)) fs w wait i

    pub compiled_named : (o : Option LinearOp) → code.op_at n p ≡ o → Goes (act_on code (compiled_op o) a fs w)
    compiled_named None e = tt
    compiled_named (Some o) e = act_named o e
