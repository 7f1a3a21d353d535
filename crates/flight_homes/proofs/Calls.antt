-- Each step keeps what holds of the open calls.
use Rattle.std.proofs.Common.{◌≡◌, ℕ, ◌+◌, ℤ, pos, negsuc, Bool, true, false, List, [], ◌∷◌, Option, Some, None, refl, if◌then◌else◌, arith}
use Rattle.std.specs.Prelude.{◌&&◌}
use Rattle.meaning_forms.specs.Arithmetic.{is_zero}
use Rattle.run_items.specs.declared.item.Item.TheVariants.{Destroy}
use Rattle.region_forms.specs.Form.{Op, evaluate, store, bind, call, construct, destroy, make, throw, rethrow, enter, leave}
use Rattle.region_forms.specs.Caught.{gives_back}
use Rattle.region_forms.specs.World.{Word, nothing, number_word, address_word, flying, unwinding, Frame, World, Exception, building, native, foreign, with_slot, with_item, address_in, object_address, exception_of, exception_in_slot, exception_at, type_at}
use Rattle.region_forms.specs.Lives.{is_native, may_enter, may_leave}
use Rattle.region_forms.specs.Unexpected.{kept_with}
use Rattle.region_forms.specs.Evaluation.{value_in}
use Rattle.region_forms.specs.Effect.{Effect, goes, calls, raises, terminates, ends, cancels, leaves_newest, meaningless, effect, finished, entered, left, newest_of, cleaned_up, freed, result_in}
use Rattle.linear_forms.specs.Linear.{LinearOp, plain, label, jump, jump_zero, pad, jump_filter, free, resume, unexpected, return}
use Rattle.linear_forms.specs.Stub.{Function, compiled, end_catch, call_unexpected, StubOp, leave_newest, destroy_held, call_held, begin_unexpected, check_unexpected, construct_bad, terminate_for, abort}
use Rattle.linear_forms.specs.Activation.{Code, Activation, fetch, look, place_of, kinds, at, on, counts, stub_frame, function_word}
use Rattle.linear_forms.specs.Operation.{performed, wanted_by, returned, returned_with, jumped, jumped_zero, holds_number, resumed, number_of, may_free, act}
use Rattle.linear_forms.specs.StubOperation.{given_back, newest_left, is_bad, empty_call, called_held, destroyed, checked, sense_held, act_stub}
use Rattle.flight_homes.specs.Nest.{is_called_by, is_terminate}
use Rattle.flight_homes.proofs.Kept.{Same, itself, Keeps, finished_keeps, effect_keeps}
use Rattle.flight_homes.proofs.Below.{Below, Goes, either, next_goes, below_world, below_out, goes_at, called_goes, stub_goes, terminated_goes, settled_goes}
use Rattle.flight_homes.proofs.Unwinds.{unwind_goes, force_goes, raise_goes}

same : (v w : World) → v.ending ≡ w.ending → v.deepest ≡ w.deepest → Same v w
same v w e h = record { ending = e; deepest = h }

-- what a function may do: leaving a handler and passing on what a specification stopped call the runtime's own functions
abbrev pub May : Function → LinearOp → Type 0
May f (plain leave) = is_called_by end_catch f ≡ true
May f (unexpected o s) = is_called_by call_unexpected f ≡ true
May f o = Unit {0}

module _ (code : Code) (d : ℕ) (a : Activation) (fs : List Activation) (w : World) (other : is_terminate a.function ≡ false) (b : Below d (a ∷ fs) w) where
  -- the next operation of the same call
  on_goes : (x : Frame) (v : World) → Same v w → Goes d (on a x fs v)
  on_goes x v s = goes_at d a (a.place + 1) x fs v w s b

  label_goes : (l : ℕ) → Goes d (jumped code l a fs w)
  label_goes l = goes_at d a (place_of code a.function l) a.frame fs w w (itself w) b

  performed_goes : (e : Effect) → Keeps w e → Goes d (performed code e a fs w)
  performed_goes (goes x v) k = on_goes x v k
  performed_goes (calls p n given) k = called_goes d code n given a fs w b
  performed_goes (raises e v) k = raise_goes code d a fs other e v (below_world d (a ∷ fs) v w k b)
  performed_goes (terminates h v) k = terminated_goes d h a fs v (below_world d (a ∷ fs) v w k b)
  performed_goes (ends e v) k = tt
  performed_goes (cancels z v) k = force_goes code d a fs other (look code a.function a.place) z v (below_world d (a ∷ fs) v w k b)
  performed_goes leaves_newest k = absurd k
  performed_goes meaningless k = tt

  returned_goes : (z : ℤ) → Goes d (returned code z fs w)
  returned_goes z = go fs (below_out d a fs w other b)
    where
      go : (fs : List Activation) → Below d fs w → Goes d (returned code z fs w)
      go [] c = tt
      go (r ∷ fs) c =
          let p = wanted_by (fetch code r.function r.place) in
          settled_goes d (finished (kinds code r.function) p z r.frame w) r fs w (finished_keeps w (kinds code r.function) p z r.frame w (itself w)) c

  with_goes : (o : Option ℤ) → Goes d (returned_with code o fs w)
  with_goes None = tt
  with_goes (Some z) = returned_goes z

  zero_goes : (o : Option ℤ) (l : ℕ) → Goes d (jumped_zero code o l a fs w)
  zero_goes None l = tt
  zero_goes (Some z) l = either d (is_zero z) (jumped code l a fs w) (on a a.frame fs w) (label_goes l) (on_goes a.frame w (itself w))

  resumed_goes : (x : Word) → Goes d (resumed code x a fs w)
  resumed_goes (flying e t) = unwind_goes code d a fs other (look code a.function a.place) t e w b
  resumed_goes (unwinding z) = force_goes code d a fs other (look code a.function a.place) z w b
  resumed_goes nothing = tt
  resumed_goes (number_word z) = tt
  resumed_goes (address_word q) = tt

  op_goes : (o : Op) → May a.function (plain o) → Goes d (act code (plain o) a fs w)
  op_goes (evaluate v) h = performed_goes (effect (kinds code a.function) (evaluate v) a.frame w) (effect_keeps (kinds code a.function) (evaluate v) a.frame w tt)
  op_goes (store p v) h = performed_goes (effect (kinds code a.function) (store p v) a.frame w) (effect_keeps (kinds code a.function) (store p v) a.frame w tt)
  op_goes (bind s p) h = performed_goes (effect (kinds code a.function) (bind s p) a.frame w) (effect_keeps (kinds code a.function) (bind s p) a.frame w tt)
  op_goes (call c args) h = performed_goes (effect (kinds code a.function) (call c args) a.frame w) (effect_keeps (kinds code a.function) (call c args) a.frame w tt)
  op_goes (construct p n args) h = performed_goes (effect (kinds code a.function) (construct p n args) a.frame w) (effect_keeps (kinds code a.function) (construct p n args) a.frame w tt)
  op_goes (destroy p n) h = performed_goes (effect (kinds code a.function) (destroy p n) a.frame w) (effect_keeps (kinds code a.function) (destroy p n) a.frame w tt)
  op_goes (make s) h = performed_goes (effect (kinds code a.function) (make s) a.frame w) (effect_keeps (kinds code a.function) (make s) a.frame w tt)
  op_goes (throw s t k) h = performed_goes (effect (kinds code a.function) (throw s t k) a.frame w) (effect_keeps (kinds code a.function) (throw s t k) a.frame w tt)
  op_goes rethrow h = performed_goes (effect (kinds code a.function) rethrow a.frame w) (effect_keeps (kinds code a.function) rethrow a.frame w tt)
  op_goes (enter s) h = performed_goes (effect (kinds code a.function) (enter s) a.frame w) (effect_keeps (kinds code a.function) (enter s) a.frame w tt)
  op_goes leave h = stub_goes d end_catch (stub_frame nothing nothing nothing) a fs w h refl refl b

  pub act_goes : (o : LinearOp) → May a.function o → Goes d (act code o a fs w)
  act_goes (plain o) h = op_goes o h
  act_goes (label l) h = on_goes a.frame w (itself w)
  act_goes (jump l) h = label_goes l
  act_goes (jump_zero v l) h = zero_goes (value_in (kinds code a.function) a.frame w v) l
  act_goes (pad o s) h = tt
  act_goes (jump_filter s n l) h = either d (holds_number (a.frame.slots s) n) (jumped code l a fs w) (on a a.frame fs w) (label_goes l) (on_goes a.frame w (itself w))
  act_goes (free s) h =
      let e = exception_in_slot a.frame s in
      next_goes d (may_free a.function w e) w (on a a.frame fs (freed e w)) (on_goes a.frame (freed e w) (same (freed e w) w refl refl))
  act_goes (resume s) h = resumed_goes (a.frame.slots s)
  act_goes (unexpected o s) h = stub_goes d call_unexpected (stub_frame (a.frame.slots o) (a.frame.slots s) (function_word (number_of a.function))) a fs w h refl refl b
  act_goes (return result) h = with_goes (result_in result a.frame w (kinds code a.function))

  -- the runtime's own operations

  given_goes : (x : Exception) (e o s l : ℕ) (v : World) → Same v w → Goes d (given_back x e o s l a fs v)
  given_goes building e o s l v k = goes_at d a l a.frame fs v w k b
  given_goes (native t n handlers) e o s l v k = on_goes (with_slot s (function_word n) (with_slot o (address_word (object_address e)) a.frame)) (with_item (Destroy e) v) (same (with_item (Destroy e) v) w k.ending k.deepest)
  given_goes (foreign i t) e o s l v k = goes_at d a l a.frame fs (cleaned_up e i t v) w (same (cleaned_up e i t v) w k.ending k.deepest) b

  left_goes : (o s l : ℕ) → Goes d (newest_left o s l a fs w)
  left_goes o s l =
      let k : Same (left w) w = same (left w) w refl refl in
      let gives = given_back (exception_at w (newest_of w.caught)) (newest_of w.caught) o s l a fs (left w) in
      let stays = at a.function l a.frame fs (left w) in
      next_goes d (may_leave w w.caught) w (if gives_back w.caught then gives else stays)
      (either d (gives_back w.caught) gives stays (given_goes (exception_at w (newest_of w.caught)) (newest_of w.caught) o s l (left w) k) (goes_at d a l a.frame fs (left w) w k b))

  -- an empty call is made where no call counts
  empty_goes : counts a.function ≡ 0 → Goes d (on a a.frame fs (empty_call fs w))
  empty_goes none =
      let v = empty_call fs w in
      goes_at d a (a.place + 1) a.frame fs v v (itself v)
      (record { nest = b.nest; deep = omega (arith, b.deep, none); waits = b.waits; ends = b.ends; more = omega (arith, b.more) })

  not_called : Goes d (on a a.frame fs w)
  not_called = on_goes a.frame w (itself w)

  destroyed_goes : counts a.function ≡ 0 → (x object : Word) → Goes d (destroyed code x object a fs w)
  destroyed_goes none x object = go x
    where
      bad : (c : Bool) → Goes d (on a a.frame fs (if c then empty_call fs w else w))
      bad true = empty_goes none
      bad false = not_called

      go : (x : Word) → Goes d (destroyed code x object a fs w)
      go (number_word (pos n)) = called_goes d code n (object ∷ []) a fs w b
      go (number_word (negsuc n)) = bad (is_bad (type_at w (exception_of (address_in object))))
      go nothing = bad (is_bad (type_at w (exception_of (address_in object))))
      go (address_word q) = bad (is_bad (type_at w (exception_of (address_in object))))
      go (flying e t) = bad (is_bad (type_at w (exception_of (address_in object))))
      go (unwinding z) = bad (is_bad (type_at w (exception_of (address_in object))))

  held_goes : (x : Word) → Goes d (called_held code x a fs w)
  held_goes (number_word (pos n)) = called_goes d code n [] a fs w b
  held_goes (number_word (negsuc n)) = not_called
  held_goes nothing = not_called
  held_goes (address_word q) = not_called
  held_goes (flying e t) = not_called
  held_goes (unwinding z) = not_called

  pub stub_act_goes : counts a.function ≡ 0 → (o : StubOp) → Goes d (act_stub code o a fs w)
  stub_act_goes none (leave_newest o s l) = left_goes o s l
  stub_act_goes none (destroy_held s o) = destroyed_goes none (a.frame.slots s) (a.frame.slots o)
  stub_act_goes none (call_held s) = held_goes (a.frame.slots s)
  stub_act_goes none (begin_unexpected o s) =
      let e = exception_in_slot a.frame o in
      let x = with_slot s (function_word (kept_with (exception_at w e)).unexpected_handler) a.frame in
      next_goes d (is_native (exception_at w e) && may_enter w e) w (on a x fs (entered e w)) (on_goes x (entered e w) (same (entered e w) w refl refl))
  stub_act_goes none (check_unexpected s f o x) =
      let answer = checked code.rows (sense_held code (a.frame.slots f) (a.frame.slots s)) (type_at w (exception_in_slot a.frame o)) in
      on_goes (with_slot x (number_word answer) a.frame) w (itself w)
  stub_act_goes none construct_bad = empty_goes none
  stub_act_goes none (terminate_for o) = terminated_goes d (kept_with (exception_at w (exception_in_slot a.frame o))).terminate_handler a fs w b
  stub_act_goes none abort = tt

-- a compiled function may do all
pub compiled_may : (n : ℕ) (o : LinearOp) → May (compiled n) o
compiled_may n (plain (evaluate v)) = tt
compiled_may n (plain (store q v)) = tt
compiled_may n (plain (bind s q)) = tt
compiled_may n (plain (call c args)) = tt
compiled_may n (plain (construct q m args)) = tt
compiled_may n (plain (destroy q m)) = tt
compiled_may n (plain (make s)) = tt
compiled_may n (plain (throw s t k)) = tt
compiled_may n (plain rethrow) = tt
compiled_may n (plain (enter s)) = tt
compiled_may n (plain leave) = refl
compiled_may n (label l) = tt
compiled_may n (jump l) = tt
compiled_may n (jump_zero v l) = tt
compiled_may n (pad o s) = tt
compiled_may n (jump_filter s m l) = tt
compiled_may n (free s) = tt
compiled_may n (resume s) = tt
compiled_may n (unexpected o s) = refl
compiled_may n (return r) = tt
