-- What operations of linear code, and those of the runtime's own functions, come to.
use Rattle.std.proofs.Common.{◌≡◌, refl, sym, subst, arith, ℕ, ◌+◌, ◌<◌, ◌≤◌, List, [], ◌∷◌, Option, Some, None, inl, inr}
use Rattle.std.specs.Prelude.{Bool, true, false, ℤ, if◌then◌else◌}
use Rattle.meaning_forms.specs.Arithmetic.{is_zero}
use Rattle.region_forms.specs.World.{Address, Word, nothing, number_word, address_word, flying, unwinding, address_in, object_address, exception_of, exception_in_slot, Frame, World}
use Rattle.region_forms.specs.Evaluation.{value_in}
use Rattle.region_forms.specs.Effect.{Effect, goes, calls, raises, terminates, ends, cancels, leaves_newest, meaningless, finished, freed, newest_of, result_in, effect, new_frame, new_world}
use Rattle.linear_forms.specs.Linear.{UnitCode, LinearOp, plain, label, jump, jump_zero, pad, jump_filter, free, resume, unexpected, return}
use Rattle.linear_forms.specs.Stub.{Function, compiled, end_catch, call_unexpected}
use Rattle.linear_forms.specs.Activation.{next_if, Activation, Next, at, on, place_of, look, kinds, fetch, depth_of, enters_function, stub_frame, function_word}
use Rattle.linear_forms.specs.Operation.{may_free, settled, performed, wanted_by, returned_with, jumped, jumped_zero, holds_number, resumed, number_of, act}
use Rattle.linear_forms.specs.UnitRun.{code_of}
use Rattle.machine_simulation.proofs.Given.{frame_call, same_beside, number_beside}
use Rattle.address_bounds.specs.Reaches.{Needs, exception_bytes, LinearReaches}
use Rattle.address_invariant.specs.Extents.{Extents}
use Rattle.address_invariant.specs.Reaching.{reach_in, CallReaches, CallsReach, ObjectsReach}
use Rattle.address_invariant.proofs.Places.{slots_in}
use Rattle.address_invariant.proofs.Following.{Grows, Comes, WordComes, CallComes, Reached, old_frame, goes_at}
use Rattle.address_invariant.proofs.Unwinding.{stub_slots, function_comes, nothing_comes, call_comes, terminate_reached, unwind_reached, raise_reached, force_reached}
use Rattle.address_invariant.proofs.Given.{GivenComes, new_frame_comes}
use Rattle.address_invariant.proofs.Effects.{SameCall, EffectComes, finished_comes, slot_made, effect_comes}

module _ (x : Extents) (u : UnitCode) (needs : Needs) (v : World) (small : (n s : ℕ) → needs n s ≤ exception_bytes) (objects : ObjectsReach x v) where
  pub grown : Grows v v
  grown = record { calls = omega arith; last_number = omega arith }

  -- a call goes on with slots of its own
  pub same_call : (f : Function) (place : ℕ) (old new : Frame) (fs : List Activation) (w : World) → Grows v w → CallReaches x u needs v f old → SameCall x needs v w f old new → CallsReach x u needs v fs →
      Reached x u needs v (at f place new fs w)
  same_call f place old new fs w grows call same waiting =
      goes_at x u needs v f place new fs w grows (subst (λ c. CallComes x u v w f c) (sym same.call) (call_comes x u needs v small w f old call)) same.held waiting

  -- with the slots that it had
  pub still_at : (f : Function) (place : ℕ) (frame : Frame) (fs : List Activation) (w : World) → Grows v w → CallReaches x u needs v f frame → CallsReach x u needs v fs → Reached x u needs v (at f place frame fs w)
  still_at f place frame fs w grows call waiting = goes_at x u needs v f place frame fs w grows (call_comes x u needs v small w f frame call) (old_frame x u needs v w f frame call) waiting

  -- what is defined only where a test holds
  pub where_defined : (b : Bool) (n : Next) → Reached x u needs v n → Reached x u needs v (next_if b v n)
  where_defined true n h = h
  where_defined false n h = tt

  -- ---- a call begins

  pub entered_reached : (n : ℕ) (given : List Word) (fs : List Activation) → GivenComes x v v (needs n) 0 given → CallsReach x u needs v fs → Reached x u needs v (enters_function (code_of u) n given fs v)
  entered_reached n given fs comes waiting =
      let k = (code_of u).kinds_at n in
      let frame = new_frame k given v in
      let w = new_world k given (depth_of fs + 1) v in
      let beside = same_beside k v.calls 0 given v in
      let number = number_beside k v.calls 0 given v in
      let called : frame.call ≡ v.calls = frame_call k 0 given (record { call = v.calls; slots = λ s. nothing }) in
      let later : v.last_number ≤ w.last_number = omega (arith, number) in
      let one_more : v.calls < w.calls = omega (arith, beside.calls) in
      goes_at x u needs v (compiled n) 0 frame fs w (record { calls = omega (arith, one_more); last_number = later }) (inr (called, one_more)) (new_frame_comes x needs v w n k given v (grown_given w later)) waiting
    where
      grown_given : (w : World) → v.last_number ≤ w.last_number → GivenComes x v w (needs n) 0 given
      grown_given w later j word there b is = to (comes j word there b is)
        where
          to : Comes x v v b (needs n (0 + j)) → Comes x v w b (needs n (0 + j))
          to (inl h) = inl h
          to (inr (e, begins, made, few)) = inr (e, begins, omega (arith, made, later), few)

  -- ---- effects

  pub performed_reached : (z : Effect) (a : Activation) (fs : List Activation) → CallReaches x u needs v a.function a.frame → CallsReach x u needs v fs → EffectComes x needs v a.function a.frame z →
      Reached x u needs v (performed (code_of u) z a fs v)
  performed_reached (goes g w) a fs call waiting h = same_call a.function (a.place + 1) a.frame g fs w h.0 call h.1 waiting
  performed_reached (calls p n given) a fs call waiting h = entered_reached n given (a ∷ fs) h (call, waiting)
  performed_reached (raises e w) a fs call waiting h = raise_reached x u needs v small e a fs w h.0 h.1 call waiting
  performed_reached (terminates handler w) a fs call waiting h = terminate_reached x u needs v small handler (a ∷ fs) w h (call, waiting)
  performed_reached (ends e w) a fs call waiting h = tt
  performed_reached (cancels n w) a fs call waiting h = force_reached x u needs v small (look (code_of u) a.function a.place) n a.function a.frame fs w h call waiting
  performed_reached leaves_newest a fs call waiting h =
      goes_at x u needs v end_catch 0 (stub_frame nothing nothing nothing) (a ∷ fs) v grown (inl (tt, tt))
      (λ s. stub_slots (λ word. WordComes x v v word exception_bytes) nothing nothing nothing s (none exception_bytes) (none exception_bytes) (none exception_bytes) (none exception_bytes)) (call, waiting)
    where
      none : (n : ℕ) → WordComes x v v nothing n
      none n = nothing_comes x u needs v small v n
  performed_reached meaningless a fs call waiting h = tt

  settled_reached : (z : Effect) (a : Activation) (fs : List Activation) → CallReaches x u needs v a.function a.frame → CallsReach x u needs v fs → EffectComes x needs v a.function a.frame z →
      Reached x u needs v (settled z a fs v)
  settled_reached (goes g w) a fs call waiting h = same_call a.function (a.place + 1) a.frame g fs w h.0 call h.1 waiting
  settled_reached (calls p n given) a fs call waiting h = tt
  settled_reached (raises e w) a fs call waiting h = tt
  settled_reached (terminates handler w) a fs call waiting h = tt
  settled_reached (ends e w) a fs call waiting h = tt
  settled_reached (cancels n w) a fs call waiting h = tt
  settled_reached leaves_newest a fs call waiting h = tt
  settled_reached meaningless a fs call waiting h = tt

  -- ---- a call comes back

  returned_reached : (t : Option ℤ) (fs : List Activation) → CallsReach x u needs v fs → Reached x u needs v (returned_with (code_of u) t fs v)
  returned_reached None fs waiting = tt
  returned_reached (Some z) [] waiting = tt
  returned_reached (Some z) (a ∷ fs) waiting =
      let p = wanted_by (fetch (code_of u) a.function a.place) in
      settled_reached (finished (kinds (code_of u) a.function) p z a.frame v) a fs waiting.0 waiting.1 (finished_comes x u needs v small a.function a.frame waiting.0 p z v grown)

  -- ---- linear code

  resumed_reached : (word : Word) (a : Activation) (fs : List Activation) → CallReaches x u needs v a.function a.frame → CallsReach x u needs v fs → ((b : Address) → address_in word ≡ Some b → exception_of (address_in word) ≤ v.last_number) →
      Reached x u needs v (resumed (code_of u) word a fs v)
  resumed_reached (flying e t) a fs call waiting made = unwind_reached x u needs v small (look (code_of u) a.function a.place) t e a.function a.frame fs v grown (made (object_address e) refl) call waiting
  resumed_reached (unwinding n) a fs call waiting made = force_reached x u needs v small (look (code_of u) a.function a.place) n a.function a.frame fs v grown call waiting
  resumed_reached nothing a fs call waiting made = tt
  resumed_reached (number_word z) a fs call waiting made = tt
  resumed_reached (address_word b) a fs call waiting made = tt

  module _ (a : Activation) (fs : List Activation) (call : CallReaches x u needs v a.function a.frame) (waiting : CallsReach x u needs v fs) where
    -- the call goes on at a place of its own
    stays : (place : ℕ) → Reached x u needs v (at a.function place a.frame fs v)
    stays place = still_at a.function place a.frame fs v grown call waiting

    either : (b : Bool) (one other : Next) → Reached x u needs v one → Reached x u needs v other → Reached x u needs v (if b then one else other)
    either true one other h k = h
    either false one other h k = k

    zero_reached : (t : Option ℤ) (l : ℕ) → Reached x u needs v (jumped_zero (code_of u) t l a fs v)
    zero_reached None l = tt
    zero_reached (Some z) l = either (is_zero z) (jumped (code_of u) l a fs v) (on a a.frame fs v) (stays (place_of (code_of u) a.function l)) (stays (a.place + 1))

    pub act_reached : (o : LinearOp) → LinearReaches needs (reach_in needs a.function) (slots_in u a.function) o → newest_of v.caught ≤ v.last_number → Reached x u needs v (act (code_of u) o a fs v)
    act_reached (plain o) h newest =
        performed_reached (effect (kinds (code_of u) a.function) o a.frame v) a fs call waiting (effect_comes x u needs v small a.function a.frame call objects o h newest)
    act_reached (label l) h newest = stays (a.place + 1)
    act_reached (jump l) h newest = stays (place_of (code_of u) a.function l)
    act_reached (jump_zero z l) h newest = zero_reached (value_in (kinds (code_of u) a.function) a.frame v z) l
    act_reached (pad o s) h newest = tt
    act_reached (jump_filter s n l) h newest =
        either (holds_number (a.frame.slots s) n) (jumped (code_of u) l a fs v) (on a a.frame fs v) (stays (place_of (code_of u) a.function l)) (stays (a.place + 1))
    act_reached (free s) h newest = where_defined (may_free a.function v (exception_in_slot a.frame s)) (on a a.frame fs (freed (exception_in_slot a.frame s) v)) (still_at a.function (a.place + 1) a.frame fs (freed (exception_in_slot a.frame s) v) (record { calls = grown.calls; last_number = grown.last_number }) call waiting)
    act_reached (resume s) h newest = resumed_reached (a.frame.slots s) a fs call waiting (λ b e. slot_made x u needs v small a.function a.frame call objects s)
    act_reached (unexpected o s) h newest =
        goes_at x u needs v call_unexpected 0 (stub_frame (a.frame.slots o) (a.frame.slots s) (function_word (number_of a.function))) (a ∷ fs) v grown (inl (tt, tt))
        (λ t. stub_slots (λ word. WordComes x v v word 0) (a.frame.slots o) (a.frame.slots s) (function_word (number_of a.function)) t (held o) (held s) (function_comes x u needs v small v (number_of a.function) 0) (nothing_comes x u needs v small v 0))
        (call, waiting)
      where
        held : (s : ℕ) → WordComes x v v (a.frame.slots s) 0
        held s b e = let lies = call.held s b e in inl (record { begun = lies.begun; ints = lies.ints; within = omega (arith, lies.within); whole = lies.whole })
    act_reached (return result) h newest = returned_reached (result_in result a.frame v (kinds (code_of u) a.function)) fs waiting
