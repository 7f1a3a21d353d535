-- Each step keeps slots for help whole in all open calls.
use Rattle.std.proofs.Common.{◌≡◌, ℕ, ℤ, pos, negsuc, Bool, true, false, ◌==◌, List, [], ◌∷◌, length, Option, Some, None, is_some, if◌then◌else◌}
use Rattle.std.specs.Prelude.{◌&&◌}
use Rattle.meaning_forms.specs.Arithmetic.{is_zero}
use Rattle.meaning_forms.specs.Outcome.{aborted}
use Rattle.region_forms.specs.Form.{help_slot}
use Rattle.region_forms.specs.Caught.{gives_back}
use Rattle.region_forms.specs.Unexpected.{kept_with}
use Rattle.region_forms.specs.Lives.{is_native, may_enter, may_leave}
use Rattle.region_forms.specs.World.{Word, nothing, number_word, address_word, flying, unwinding, Frame, World, Exception, building, native, foreign, with_slot, address_in, object_address, exception_of, exception_in_slot, exception_at, type_at}
use Rattle.region_forms.specs.Evaluation.{value_in}
use Rattle.region_forms.specs.Effect.{Effect, goes, calls, raises, terminates, ends, cancels, leaves_newest, meaningless, effect, finished, entered, entered_doomed, flies, left, newest_of, freed, result_in}
use Rattle.linear_forms.specs.Linear.{LinearOp, plain, label, jump, jump_zero, pad, jump_filter, free, resume, unexpected, return}
use Rattle.linear_forms.specs.Tables.{Cover, bare, unpadded, padded}
use Rattle.linear_forms.specs.Verdict.{Verdict, target, no_way, clean, nothing_here, pad_verdict, has_cleanup}
use Rattle.linear_forms.specs.Stub.{Function, end_catch, terminating, call_unexpected, CodeOp, linear, runtime, StubOp, leave_newest, destroy_held, call_held, begin_unexpected, check_unexpected, construct_bad, terminate_for, abort}
use Rattle.linear_forms.specs.Activation.{Code, Activation, Next, goes_to, finishes, by_program, fault, next_if, fetch, look, sense, kinds, at, on, enters_function, stub_frame, function_word, terminated}
use Rattle.linear_forms.specs.Search.{found}
use Rattle.linear_forms.specs.Unwinding.{pad_entered, unwound_by, unwound_at, unwound_above, unwind, doomed_by, raised_to, raise}
use Rattle.linear_forms.specs.Forced.{forced_by, forced_at, forced_above, force}
use Rattle.linear_forms.specs.Operation.{settled, performed, wanted_by, returned_with, jumped, jumped_zero, holds_number, resumed, number_of, may_free, act}
use Rattle.linear_forms.specs.StubOperation.{given_back, newest_left, is_bad, empty_call, called_held, destroyed, checked, sense_held, act_stub}
use Rattle.flight_homes.specs.Whole.{IsWhole, BindsWhole, LeavesWhole, IsCaught}
use Rattle.flight_homes.specs.WholeCalls.{CallsWhole, BeginsWhole, OpBegins}
use Rattle.flight_homes.proofs.Whole.{WordWhole, number_whole, object_whole, nothing_whole, slot_whole, frames_stay_whole}
use Rattle.flight_homes.proofs.Begins.{stub_whole, function_whole, nothing_begins, object_begins, CallsRight, effect_right}

module _ (code : Code) where
  -- the calls of what comes next
  abbrev pub Wholly : Next → Type 0
  Wholly (finishes e w) = Unit {0}
  Wholly (goes_to st) = CallsWhole code (st.top ∷ st.frames)

  either : (b : Bool) (x y : Next) → Wholly x → Wholly y → Wholly (if b then x else y)
  either true x y h i = h
  either false x y h i = i

  next_wholly : (b : Bool) (w : World) (x : Next) → Wholly x → Wholly (next_if b w x)
  next_wholly true w x h = h
  next_wholly false w x h = tt

  terminated_wholly : (h : Option ℕ) (fs : List Activation) (w : World) → CallsWhole code fs → Wholly (terminated h fs w)
  terminated_wholly h fs w i =
      either w.ending (finishes (by_program aborted) w) (at terminating 0 (stub_frame (function_word h) nothing nothing) fs (record w { ending = is_some h })) tt
      (stub_whole (kinds code terminating) (function_word h) nothing nothing (function_whole h) nothing_whole nothing_whole, i)

  called_wholly : (n : ℕ) (given : List Word) (fs : List Activation) (w : World) → BeginsWhole code n given → CallsWhole code fs → Wholly (enters_function code n given fs w)
  called_wholly n given fs w b i = (b w, i)

  pad_wholly : (o : Option CodeOp) (word : Word) (n : ℤ) (f : Function) (p : ℕ) (x : Frame) (fs : List Activation) (w : World) → IsCaught word → IsWhole (kinds code f) x → CallsWhole code fs → Wholly (pad_entered o word n f p x fs w)
  pad_wholly None word n f p x fs w c h i = tt
  pad_wholly (Some (runtime o)) word n f p x fs w c h i = tt
  pad_wholly (Some (linear (plain o))) word n f p x fs w c h i = tt
  pad_wholly (Some (linear (label l))) word n f p x fs w c h i = tt
  pad_wholly (Some (linear (jump l))) word n f p x fs w c h i = tt
  pad_wholly (Some (linear (jump_zero v l))) word n f p x fs w c h i = tt
  pad_wholly (Some (linear (pad o s))) word n f p x fs w c h i = (frames_stay_whole.pads (kinds code f) o s word n x c h, i)
  pad_wholly (Some (linear (jump_filter s z l))) word n f p x fs w c h i = tt
  pad_wholly (Some (linear (free s))) word n f p x fs w c h i = tt
  pad_wholly (Some (linear (resume s))) word n f p x fs w c h i = tt
  pad_wholly (Some (linear (unexpected o s))) word n f p x fs w c h i = tt
  pad_wholly (Some (linear (return r))) word n f p x fs w c h i = tt

  module _ (f : Function) (x : Frame) (fs : List Activation) (w : World) (h : IsWhole (kinds code f) x) (i : CallsWhole code fs) (rest : Next) (whole : Wholly rest) where
    ends_here : Wholly (terminated w.installed.terminate_handler (record { function = f; place = 0; frame = x } ∷ fs) w)
    ends_here = terminated_wholly w.installed.terminate_handler (record { function = f; place = 0; frame = x } ∷ fs) w (h, i)

    verdict_wholly : (v : Verdict) (p t e : ℕ) → Wholly (unwound_by code v p t e f x fs w rest)
    verdict_wholly (target n) p t e =
        either (length fs == t) (pad_entered (fetch code f p) (flying e t) n f p x fs w) (finishes fault w) (pad_wholly (fetch code f p) (flying e t) n f p x fs w tt h i) tt
    verdict_wholly no_way p t e = ends_here
    verdict_wholly clean p t e = pad_wholly (fetch code f p) (flying e t) (pos 0) f p x fs w tt h i
    verdict_wholly nothing_here p t e = whole

    unwound_wholly : (c : Cover) (t e : ℕ) → Wholly (unwound_at code c t e f x fs w rest)
    unwound_wholly bare t e = ends_here
    unwound_wholly unpadded t e = whole
    unwound_wholly (padded p chain) t e = verdict_wholly (pad_verdict code.rows (sense code f) chain (type_at w e)) p t e

    cleanup_wholly : (c : Bool) (p : ℕ) (z : ℤ) → Wholly (forced_by code c p z f x fs w rest)
    cleanup_wholly true p z = pad_wholly (fetch code f p) (unwinding z) (pos 0) f p x fs w tt h i
    cleanup_wholly false p z = whole

    forced_wholly : (c : Cover) (z : ℤ) → Wholly (forced_at code c z f x fs w rest)
    forced_wholly bare z = ends_here
    forced_wholly unpadded z = whole
    forced_wholly (padded p chain) z = cleanup_wholly (has_cleanup (sense code f) chain) p z

  above_wholly : (t e : ℕ) (fs : List Activation) (w : World) → CallsWhole code fs → Wholly (unwound_above code t e fs w)
  above_wholly t e [] w h = tt
  above_wholly t e (a ∷ fs) w h = unwound_wholly a.function a.frame fs w h.0 h.1 (unwound_above code t e fs w) (above_wholly t e fs w h.1) (look code a.function a.place) t e

  forced_above_wholly : (z : ℤ) (fs : List Activation) (w : World) → CallsWhole code fs → Wholly (forced_above code z fs w)
  forced_above_wholly z [] w h = tt
  forced_above_wholly z (a ∷ fs) w h = forced_wholly a.function a.frame fs w h.0 h.1 (forced_above code z fs w) (forced_above_wholly z fs w h.1) (look code a.function a.place) z

  module _ (a : Activation) (fs : List Activation) (h : IsWhole (kinds code a.function) a.frame) (i : CallsWhole code fs) where
    unwind_wholly : (c : Cover) (t e : ℕ) (w : World) → Wholly (unwind code c t e a.function a.frame fs w)
    unwind_wholly c t e w = unwound_wholly a.function a.frame fs w h i (unwound_above code t e fs w) (above_wholly t e fs w i) c t e

    force_wholly : (c : Cover) (z : ℤ) (w : World) → Wholly (force code c z a.function a.frame fs w)
    force_wholly c z w = forced_wholly a.function a.frame fs w h i (forced_above code z fs w) (forced_above_wholly z fs w i) c z

    doomed_wholly : (e : ℕ) (x : Exception) (w : World) → Wholly (doomed_by e x (a ∷ fs) w)
    doomed_wholly e building w = terminated_wholly w.installed.terminate_handler (a ∷ fs) w (h, i)
    doomed_wholly e (native t d handlers) w = terminated_wholly handlers.terminate_handler (a ∷ fs) (entered_doomed e w) (h, i)
    doomed_wholly e (foreign j t) w = terminated_wholly w.installed.terminate_handler (a ∷ fs) w (h, i)

    raise_wholly : (e : ℕ) (w : World) → Wholly (raise code e a fs w)
    raise_wholly e w = go (found code a.function (look code a.function a.place) (type_at w e) fs)
      where
        go : (o : Option ℕ) → Wholly (raised_to o e (a ∷ fs) w (λ t. unwind code (look code a.function a.place) t e a.function a.frame fs (flies e w)))
        go None = either w.ending (finishes (by_program aborted) w) (doomed_by e (exception_at w e) (a ∷ fs) w) tt (doomed_wholly e (exception_at w e) w)
        go (Some t) = unwind_wholly (look code a.function a.place) t e (flies e w)

    performed_wholly : (e : Effect) (w : World) → LeavesWhole (kinds code a.function) e → CallsRight code e → Wholly (performed code e a fs w)
    performed_wholly (goes x v) w l c = (l, i)
    performed_wholly (calls p n given) w l c = called_wholly n given (a ∷ fs) w c (h, i)
    performed_wholly (raises e v) w l c = raise_wholly e v
    performed_wholly (terminates t v) w l c = terminated_wholly t (a ∷ fs) v (h, i)
    performed_wholly (ends e v) w l c = tt
    performed_wholly (cancels z v) w l c = force_wholly (look code a.function a.place) z v
    performed_wholly leaves_newest w l c = (stub_whole (kinds code end_catch) nothing nothing nothing nothing_whole nothing_whole nothing_whole, (h, i))
    performed_wholly meaningless w l c = tt

  settled_wholly : (e : Effect) (a : Activation) (fs : List Activation) (w : World) → LeavesWhole (kinds code a.function) e → CallsWhole code fs → Wholly (settled e a fs w)
  settled_wholly (goes x v) a fs w l i = (l, i)
  settled_wholly (calls p n given) a fs w l i = tt
  settled_wholly (raises e v) a fs w l i = tt
  settled_wholly (terminates t v) a fs w l i = tt
  settled_wholly (ends e v) a fs w l i = tt
  settled_wholly (cancels z v) a fs w l i = tt
  settled_wholly leaves_newest a fs w l i = tt
  settled_wholly meaningless a fs w l i = tt

  returned_wholly : (o : Option ℤ) (fs : List Activation) (w : World) → CallsWhole code fs → Wholly (returned_with code o fs w)
  returned_wholly None fs w i = tt
  returned_wholly (Some z) [] w i = tt
  returned_wholly (Some z) (r ∷ fs) w i =
      let p = wanted_by (fetch code r.function r.place) in
      settled_wholly (finished (kinds code r.function) p z r.frame w) r fs w (frames_stay_whole.values (kinds code r.function) p z r.frame w i.0) i.1

  -- what is asked of an operation of a function
  abbrev pub Asked : Function → LinearOp → Type 0
  Asked f (plain o) = BindsWhole (kinds code f) o × OpBegins code o
  Asked f (unexpected o s) = (kinds code f o ≡ help_slot) × (kinds code f s ≡ help_slot)
  Asked f o = Unit {0}

  module _ (a : Activation) (fs : List Activation) (w : World) (h : IsWhole (kinds code a.function) a.frame) (i : CallsWhole code fs) where
    zero_wholly : (o : Option ℤ) (l : ℕ) → Wholly (jumped_zero code o l a fs w)
    zero_wholly None l = tt
    zero_wholly (Some z) l = either (is_zero z) (jumped code l a fs w) (on a a.frame fs w) (h, i) (h, i)

    resumed_wholly : (x : Word) → Wholly (resumed code x a fs w)
    resumed_wholly (flying e t) = unwind_wholly a fs h i (look code a.function a.place) t e w
    resumed_wholly (unwinding z) = force_wholly a fs h i (look code a.function a.place) z w
    resumed_wholly nothing = tt
    resumed_wholly (number_word z) = tt
    resumed_wholly (address_word q) = tt

    pub act_wholly : (o : LinearOp) → Asked a.function o → Wholly (act code o a fs w)
    act_wholly (plain o) c =
        performed_wholly a fs h i (effect (kinds code a.function) o a.frame w) w (frames_stay_whole.effects (kinds code a.function) o a.frame w c.0 h) (effect_right code (kinds code a.function) a.frame o w c.1)
    act_wholly (label l) c = (h, i)
    act_wholly (jump l) c = (h, i)
    act_wholly (jump_zero v l) c = zero_wholly (value_in (kinds code a.function) a.frame w v) l
    act_wholly (pad o s) c = tt
    act_wholly (jump_filter s n l) c = either (holds_number (a.frame.slots s) n) (jumped code l a fs w) (on a a.frame fs w) (h, i) (h, i)
    act_wholly (free s) c =
        let e = exception_in_slot a.frame s in next_wholly (may_free a.function w e) w (on a a.frame fs (freed e w)) (h, i)
    act_wholly (resume s) c = resumed_wholly (a.frame.slots s)
    act_wholly (unexpected o s) c = (
      stub_whole (kinds code call_unexpected) (a.frame.slots o) (a.frame.slots s) (function_word (number_of a.function)) (λ e n k. h o e n c.0 k) (λ e n k. h s e n c.1 k) (function_whole (number_of a.function)),
      (h, i),
    )
    act_wholly (return result) c = returned_wholly (result_in result a.frame w (kinds code a.function)) fs w i

    -- the runtime's own operations

    given_wholly : (x : Exception) (e o s l : ℕ) (v : World) → Wholly (given_back x e o s l a fs v)
    given_wholly building e o s l v = (h, i)
    given_wholly (native t n handlers) e o s l v =
        let k = kinds code a.function in
        let x = with_slot o (address_word (object_address e)) a.frame in
        (slot_whole k s (function_word n) x (λ j. function_whole n) (slot_whole k o (address_word (object_address e)) a.frame (λ j. object_whole e) h), i)
    given_wholly (foreign j t) e o s l v = (h, i)

    left_wholly : (o s l : ℕ) → Wholly (newest_left o s l a fs w)
    left_wholly o s l =
        let gives = given_back (exception_at w (newest_of w.caught)) (newest_of w.caught) o s l a fs (left w) in
        let stays = at a.function l a.frame fs (left w) in
        next_wholly (may_leave w w.caught) w (if gives_back w.caught then gives else stays)
        (either (gives_back w.caught) gives stays (given_wholly (exception_at w (newest_of w.caught)) (newest_of w.caught) o s l (left w)) (h, i))

    destroyed_wholly : (x object : Word) → WordWhole object → Wholly (destroyed code x object a fs w)
    destroyed_wholly x object own = go x
      where
        bad : (c : Bool) → Wholly (on a a.frame fs (if c then empty_call fs w else w))
        bad true = (h, i)
        bad false = (h, i)

        go : (x : Word) → Wholly (destroyed code x object a fs w)
        go (number_word (pos n)) = called_wholly n (object ∷ []) (a ∷ fs) w (object_begins code n object own) (h, i)
        go (number_word (negsuc n)) = bad (is_bad (type_at w (exception_of (address_in object))))
        go nothing = bad (is_bad (type_at w (exception_of (address_in object))))
        go (address_word q) = bad (is_bad (type_at w (exception_of (address_in object))))
        go (flying e t) = bad (is_bad (type_at w (exception_of (address_in object))))
        go (unwinding z) = bad (is_bad (type_at w (exception_of (address_in object))))

    held_wholly : (x : Word) → Wholly (called_held code x a fs w)
    held_wholly (number_word (pos n)) = called_wholly n [] (a ∷ fs) w (nothing_begins code n) (h, i)
    held_wholly (number_word (negsuc n)) = (h, i)
    held_wholly nothing = (h, i)
    held_wholly (address_word q) = (h, i)
    held_wholly (flying e t) = (h, i)
    held_wholly (unwinding z) = (h, i)

    pub stub_wholly : ((s : ℕ) → kinds code a.function s ≡ help_slot) → (o : StubOp) → Wholly (act_stub code o a fs w)
    stub_wholly c (leave_newest o s l) = left_wholly o s l
    stub_wholly c (destroy_held s o) = destroyed_wholly (a.frame.slots s) (a.frame.slots o) (λ e n k. h o e n (c o) k)
    stub_wholly c (call_held s) = held_wholly (a.frame.slots s)
    stub_wholly c (begin_unexpected o s) =
        let e = exception_in_slot a.frame o in
        let handler = (kept_with (exception_at w e)).unexpected_handler in
        next_wholly (is_native (exception_at w e) && may_enter w e) w (on a (with_slot s (function_word handler) a.frame) fs (entered e w))
        (slot_whole (kinds code a.function) s (function_word handler) a.frame (λ j. function_whole handler) h, i)
    stub_wholly c (check_unexpected s f o x) =
        let answer = checked code.rows (sense_held code (a.frame.slots f) (a.frame.slots s)) (type_at w (exception_in_slot a.frame o)) in
        (slot_whole (kinds code a.function) x (number_word answer) a.frame (λ j. number_whole answer) h, i)
    stub_wholly c construct_bad = (h, i)
    stub_wholly c (terminate_for o) = terminated_wholly (kept_with (exception_at w (exception_in_slot a.frame o))).terminate_handler (a ∷ fs) w (h, i)
    stub_wholly c abort = tt
