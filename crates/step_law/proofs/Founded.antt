-- The outermost call stays one of a compiled function.
use Rattle.std.proofs.Common.{◌≡◌, refl, subst, ℕ, zero, suc, ℤ, pos, negsuc, Bool, true, false, ◌==◌, ◌&&◌, List, [], ◌∷◌, length, Option, Some, None, is_some, if◌then◌else◌}
use Rattle.meaning_forms.specs.Arithmetic.{is_zero}
use Rattle.meaning_forms.specs.Outcome.{aborted}
use Rattle.region_forms.specs.Caught.{gives_back}
use Rattle.region_forms.specs.Effect.{Effect, goes, calls, raises, terminates, ends, cancels, leaves_newest, meaningless, effect, finished, freed, flies, entered, entered_doomed, left, newest_of, result_in}
use Rattle.region_forms.specs.Evaluation.{value_in}
use Rattle.region_forms.specs.Lives.{is_native, may_enter, may_leave}
use Rattle.region_forms.specs.Unexpected.{kept_with}
use Rattle.region_forms.specs.World.{Word, nothing, number_word, address_word, flying, unwinding, Frame, World, Exception, building, native, foreign, exception_at, exception_in_slot, type_at, with_slot}
use Rattle.linear_forms.specs.Linear.{LinearOp, plain, label, jump, jump_zero, pad, jump_filter, free, resume, unexpected, return}
use Rattle.linear_forms.specs.Stub.{Function, terminating, CodeOp, linear, runtime, StubOp, leave_newest, destroy_held, call_held, begin_unexpected, check_unexpected, construct_bad, terminate_for, abort}
use Rattle.linear_forms.specs.Tables.{Cover, bare, unpadded, padded}
use Rattle.linear_forms.specs.Verdict.{Verdict, target, no_way, clean, nothing_here, pad_verdict, has_cleanup}
use Rattle.linear_forms.specs.Activation.{Code, Activation, State, Next, goes_to, finishes, by_program, fault, next_if, fetch, look, sense, kinds, at, on, stub_frame, function_word, terminated}
use Rattle.linear_forms.specs.Machine.{act_on, step}
use Rattle.linear_forms.specs.Operation.{settled, performed, wanted_by, returned_with, jumped, jumped_zero, holds_number, resumed, may_free, act}
use Rattle.linear_forms.specs.Pace.{Leads, LeadsOn}
use Rattle.linear_forms.specs.Search.{found}
use Rattle.linear_forms.specs.StubOperation.{given_back, called_held, destroyed, act_stub}
use Rattle.linear_forms.specs.Unwinding.{pad_entered, terminated_in, unwound_by, unwound_at, unwound_above, unwind, doomed_by, raised_to, raise}
use Rattle.linear_forms.specs.Forced.{forced_by, forced_at, forced_above, force}
use Rattle.step_law.specs.Standing.{IsFounded}

-- what comes next
abbrev Goes : Next → Type 0
Goes (goes_to m) = IsFounded m.top.function m.frames
Goes (finishes e v) = Unit {0}

either : (b : Bool) (y z : Next) → Goes y → Goes z → Goes (if b then y else z)
either true y z h k = h
either false y z h k = k

defined : (b : Bool) (w : World) (y : Next) → Goes y → Goes (next_if b w y)
defined true w y h = h
defined false w y h = tt

-- calls that wait
abbrev Below : List Activation → Type 0
Below [] = Unit {0}
Below (a ∷ fs) = IsFounded a.function fs

below : (f : Function) (fs : List Activation) → IsFounded f fs → Below fs
below f [] h = tt
below f (a ∷ fs) h = h

pad_goes : (op : Option CodeOp) (word : Word) (n : ℤ) (f : Function) (p : ℕ) (x : Frame) (fs : List Activation) (w : World) → IsFounded f fs → Goes (pad_entered op word n f p x fs w)
pad_goes (Some (linear (pad o s))) word n f p x fs w h = h
pad_goes op word n f p x fs w h = tt

terminated_goes : (o : Option ℕ) (a : Activation) (fs : List Activation) (w : World) → IsFounded a.function fs → Goes (terminated o (a ∷ fs) w)
terminated_goes o a fs w h =
    either w.ending (finishes (by_program aborted) w) (at terminating 0 (stub_frame (function_word o) nothing nothing) (a ∷ fs) (record w { ending = is_some o })) tt h

module _ (code : Code) where
  -- ---- unwinds

  barred_goes : (f : Function) (x : Frame) (fs : List Activation) (w : World) → IsFounded f fs → Goes (terminated_in f x fs w)
  barred_goes f x fs w h = terminated_goes w.installed.terminate_handler (record { function = f; place = 0; frame = x }) fs w h

  module _ (t e : ℕ) (w : World) where
    verdict_goes : (v : Verdict) (p : ℕ) (f : Function) (x : Frame) (fs : List Activation) (rest : Next) → IsFounded f fs → Goes rest → Goes (unwound_by code v p t e f x fs w rest)
    verdict_goes (target n) p f x fs rest h k =
        either (length fs == t) (pad_entered (fetch code f p) (flying e t) n f p x fs w) (finishes fault w) (pad_goes (fetch code f p) (flying e t) n f p x fs w h) tt
    verdict_goes no_way p f x fs rest h k = barred_goes f x fs w h
    verdict_goes clean p f x fs rest h k = pad_goes (fetch code f p) (flying e t) (pos 0) f p x fs w h
    verdict_goes nothing_here p f x fs rest h k = k

    unwound_goes : (c : Cover) (f : Function) (x : Frame) (fs : List Activation) (rest : Next) → IsFounded f fs → Goes rest → Goes (unwound_at code c t e f x fs w rest)
    unwound_goes bare f x fs rest h k = barred_goes f x fs w h
    unwound_goes unpadded f x fs rest h k = k
    unwound_goes (padded p chain) f x fs rest h k = verdict_goes (pad_verdict code.rows (sense code f) chain (type_at w e)) p f x fs rest h k

    above_goes : (fs : List Activation) → Below fs → Goes (unwound_above code t e fs w)
    above_goes [] h = tt
    above_goes (a ∷ fs) h = unwound_goes (look code a.function a.place) a.function a.frame fs (unwound_above code t e fs w) h (above_goes fs (below a.function fs h))

    unwind_goes : (a : Activation) (fs : List Activation) → IsFounded a.function fs → Goes (unwind code (look code a.function a.place) t e a.function a.frame fs w)
    unwind_goes a fs h = unwound_goes (look code a.function a.place) a.function a.frame fs (unwound_above code t e fs w) h (above_goes fs (below a.function fs h))

  module _ (z : ℤ) (w : World) where
    forced_by_goes : (b : Bool) (p : ℕ) (f : Function) (x : Frame) (fs : List Activation) (rest : Next) → IsFounded f fs → Goes rest → Goes (forced_by code b p z f x fs w rest)
    forced_by_goes true p f x fs rest h k = pad_goes (fetch code f p) (unwinding z) (pos 0) f p x fs w h
    forced_by_goes false p f x fs rest h k = k

    forced_goes : (c : Cover) (f : Function) (x : Frame) (fs : List Activation) (rest : Next) → IsFounded f fs → Goes rest → Goes (forced_at code c z f x fs w rest)
    forced_goes bare f x fs rest h k = barred_goes f x fs w h
    forced_goes unpadded f x fs rest h k = k
    forced_goes (padded p chain) f x fs rest h k = forced_by_goes (has_cleanup (sense code f) chain) p f x fs rest h k

    forced_above_goes : (fs : List Activation) → Below fs → Goes (forced_above code z fs w)
    forced_above_goes [] h = tt
    forced_above_goes (a ∷ fs) h = forced_goes (look code a.function a.place) a.function a.frame fs (forced_above code z fs w) h (forced_above_goes fs (below a.function fs h))

    force_goes : (a : Activation) (fs : List Activation) → IsFounded a.function fs → Goes (force code (look code a.function a.place) z a.function a.frame fs w)
    force_goes a fs h = forced_goes (look code a.function a.place) a.function a.frame fs (forced_above code z fs w) h (forced_above_goes fs (below a.function fs h))

  doomed_goes : (e : ℕ) (y : Exception) (a : Activation) (fs : List Activation) (w : World) → IsFounded a.function fs → Goes (doomed_by e y (a ∷ fs) w)
  doomed_goes e building a fs w h = terminated_goes w.installed.terminate_handler a fs w h
  doomed_goes e (native t d handlers) a fs w h = terminated_goes handlers.terminate_handler a fs (entered_doomed e w) h
  doomed_goes e (foreign k t) a fs w h = terminated_goes w.installed.terminate_handler a fs w h

  raise_goes : (e : ℕ) (a : Activation) (fs : List Activation) (w : World) → IsFounded a.function fs → Goes (raise code e a fs w)
  raise_goes e a fs w h = by (found code a.function (look code a.function a.place) (type_at w e) fs)
    where
      by : (o : Option ℕ) → Goes (raised_to o e (a ∷ fs) w (λ t. unwind code (look code a.function a.place) t e a.function a.frame fs (flies e w)))
      by None = either w.ending (finishes (by_program aborted) w) (doomed_by e (exception_at w e) (a ∷ fs) w) tt (doomed_goes e (exception_at w e) a fs w h)
      by (Some t) = unwind_goes t e (flies e w) a fs h

  -- ---- operations

  module _ (a : Activation) (fs : List Activation) (w : World) (h : IsFounded a.function fs) where
    performed_goes : (e : Effect) → Goes (performed code e a fs w)
    performed_goes (goes y v) = h
    performed_goes (calls p n given) = h
    performed_goes (raises e v) = raise_goes e a fs v h
    performed_goes (terminates o v) = terminated_goes o a fs v h
    performed_goes (ends e v) = tt
    performed_goes (cancels z v) = force_goes z v a fs h
    performed_goes leaves_newest = h
    performed_goes meaningless = tt

    settled_goes : (e : Effect) → Goes (settled e a fs w)
    settled_goes (goes y v) = h
    settled_goes (calls p n given) = tt
    settled_goes (raises e v) = tt
    settled_goes (terminates o v) = tt
    settled_goes (ends e v) = tt
    settled_goes (cancels z v) = tt
    settled_goes leaves_newest = tt
    settled_goes meaningless = tt

    resumed_goes : (word : Word) → Goes (resumed code word a fs w)
    resumed_goes (flying e t) = unwind_goes t e w a fs h
    resumed_goes (unwinding z) = force_goes z w a fs h
    resumed_goes nothing = tt
    resumed_goes (number_word z) = tt
    resumed_goes (address_word b) = tt

    tested_goes : (l : ℕ) (o : Option ℤ) → Goes (jumped_zero code o l a fs w)
    tested_goes l None = tt
    tested_goes l (Some z) = either (is_zero z) (jumped code l a fs w) (on a a.frame fs w) h h

    given_goes : (y : Exception) (e o s l : ℕ) (v : World) → Goes (given_back y e o s l a fs v)
    given_goes building e o s l v = h
    given_goes (native t d handlers) e o s l v = h
    given_goes (foreign k t) e o s l v = h

    destroyed_goes : (word object : Word) → Goes (destroyed code word object a fs w)
    destroyed_goes (number_word (pos n)) object = h
    destroyed_goes (number_word (negsuc n)) object = h
    destroyed_goes nothing object = h
    destroyed_goes (address_word b) object = h
    destroyed_goes (flying e t) object = h
    destroyed_goes (unwinding z) object = h

    held_goes : (word : Word) → Goes (called_held code word a fs w)
    held_goes (number_word (pos n)) = h
    held_goes (number_word (negsuc n)) = h
    held_goes nothing = h
    held_goes (address_word b) = h
    held_goes (flying e t) = h
    held_goes (unwinding z) = h

    stub_goes : (o : StubOp) → Goes (act_stub code o a fs w)
    stub_goes (leave_newest o s l) =
        defined (may_leave w w.caught) w (if gives_back w.caught then given_back (exception_at w (newest_of w.caught)) (newest_of w.caught) o s l a fs (left w) else at a.function l a.frame fs (left w))
        (either (gives_back w.caught) (given_back (exception_at w (newest_of w.caught)) (newest_of w.caught) o s l a fs (left w)) (at a.function l a.frame fs (left w))
        (given_goes (exception_at w (newest_of w.caught)) (newest_of w.caught) o s l (left w)) h)
    stub_goes (destroy_held s o) = destroyed_goes (a.frame.slots s) (a.frame.slots o)
    stub_goes (call_held s) = held_goes (a.frame.slots s)
    stub_goes (begin_unexpected o s) =
        let e = exception_in_slot a.frame o in
        defined (is_native (exception_at w e) && may_enter w e) w (on a (with_slot s (function_word (kept_with (exception_at w e)).unexpected_handler) a.frame) fs (entered e w)) h
    stub_goes (check_unexpected s f o y) = h
    stub_goes construct_bad = h
    stub_goes (terminate_for o) = terminated_goes (kept_with (exception_at w (exception_in_slot a.frame o))).terminate_handler a fs w h
    stub_goes abort = tt

  returned_goes : (o : Option ℤ) (fs : List Activation) (w : World) → Below fs → Goes (returned_with code o fs w)
  returned_goes None fs w h = tt
  returned_goes (Some z) [] w h = tt
  returned_goes (Some z) (a ∷ fs) w h = settled_goes a fs w h (finished (kinds code a.function) (wanted_by (fetch code a.function a.place)) z a.frame w)

  module _ (a : Activation) (fs : List Activation) (w : World) (h : IsFounded a.function fs) where
    act_goes : (o : LinearOp) → Goes (act code o a fs w)
    act_goes (plain o) = performed_goes a fs w h (effect (kinds code a.function) o a.frame w)
    act_goes (label l) = h
    act_goes (jump l) = h
    act_goes (jump_zero v l) = tested_goes a fs w h l (value_in (kinds code a.function) a.frame w v)
    act_goes (pad o s) = tt
    act_goes (jump_filter s n l) = either (holds_number (a.frame.slots s) n) (jumped code l a fs w) (on a a.frame fs w) h h
    act_goes (free s) = defined (may_free a.function w (exception_in_slot a.frame s)) w (on a a.frame fs (freed (exception_in_slot a.frame s) w)) h
    act_goes (resume s) = resumed_goes a fs w h (a.frame.slots s)
    act_goes (unexpected o s) = h
    act_goes (return r) = returned_goes (result_in r a.frame w (kinds code a.function)) fs w (below a.function fs h)

    op_goes : (op : Option CodeOp) → Goes (act_on code op a fs w)
    op_goes None = tt
    op_goes (Some (linear o)) = act_goes o
    op_goes (Some (runtime o)) = stub_goes a fs w h o

  pub step_founded : (st next : State) → IsFounded st.top.function st.frames → step code st ≡ goes_to next → IsFounded next.top.function next.frames
  step_founded st next h e = subst Goes e (op_goes st.top st.frames st.world h (fetch code st.top.function st.top.place))

  pub leads_founded : (n : ℕ) (st next : State) → IsFounded st.top.function st.frames → Leads code n st (goes_to next) → IsFounded next.top.function next.frames
  leads_founded zero st next h e = let same : st ≡ next = cc e in subst (λ m. IsFounded m.top.function m.frames) same h
  leads_founded (suc n) st next h e = go (step code st) refl e (λ m k rest. leads_founded n m next k rest)
    where
      go : (y : Next) → step code st ≡ y → LeadsOn n (λ m. Leads code n m (goes_to next)) (goes_to next) y →
          ((m : State) → IsFounded m.top.function m.frames → Leads code n m (goes_to next) → IsFounded next.top.function next.frames) → IsFounded next.top.function next.frames
      go (goes_to m) one rest on_from = on_from m (step_founded st m h one) rest
      go (finishes f v) one rest on_from = let never = rest.1 in absurd (cc never)
