-- Only a step that is counted as a call opens a call of a compiled function.
use Rattle.std.proofs.Common.{◌≡◌, ℕ, ◌+◌, ◌≤◌, Bool, true, false, List, [], ◌∷◌, length, Option, Some, None, sym, subst, arith}
use Rattle.std.specs.Prelude.{ℤ, is_some, pos, negsuc, ◌==◌, ◌&&◌, if◌then◌else◌}
use Rattle.meaning_forms.specs.Arithmetic.{is_zero}
use Rattle.meaning_forms.specs.Outcome.{aborted}
use Rattle.region_forms.specs.Caught.{gives_back}
use Rattle.region_forms.specs.Evaluation.{value_in}
use Rattle.region_forms.specs.Unexpected.{kept_with}
use Rattle.region_forms.specs.Lives.{is_native, may_enter, may_leave}
use Rattle.region_forms.specs.World.{Word, nothing, number_word, address_word, flying, unwinding, Frame, World, Exception, building, native, foreign, exception_at, exception_in_slot, type_at}
use Rattle.region_forms.specs.Effect.{Effect, goes, calls, raises, terminates, ends, cancels, leaves_newest, meaningless, effect, entered_doomed, flies, finished, left, newest_of, result_in}
use Rattle.linear_forms.specs.Linear.{LinearOp, plain, label, jump, jump_zero, pad, jump_filter, free, resume, unexpected, return}
use Rattle.linear_forms.specs.Tables.{Cover, bare, unpadded, padded}
use Rattle.linear_forms.specs.Verdict.{Verdict, target, no_way, clean, nothing_here, pad_verdict, has_cleanup}
use Rattle.linear_forms.specs.Stub.{Function, terminating, CodeOp, linear, runtime, StubOp, leave_newest, destroy_held, call_held, begin_unexpected, check_unexpected, construct_bad, terminate_for, abort}
use Rattle.linear_forms.specs.Activation.{Code, Activation, State, stub_frame, function_word, Next, finishes, by_program, fault, fetch, look, sense, kinds, counts, depth_of, next_if, terminated, at, on}
use Rattle.linear_forms.specs.Search.{found}
use Rattle.linear_forms.specs.Unwinding.{pad_entered, unwound_by, unwound_at, unwound_above, unwind, doomed_by, doomed, raised_to, raise}
use Rattle.linear_forms.specs.Forced.{forced_by, forced_at, forced_above, force}
use Rattle.linear_forms.specs.Operation.{settled, performed, wanted_by, returned, returned_with, jumped, jumped_zero, holds_number, resumed, may_free, act}
use Rattle.linear_forms.specs.StubOperation.{given_back, newest_left, called_held, destroyed, act_stub}
use Rattle.linear_forms.specs.Machine.{act_on}
use Rattle.linear_forms.specs.Counted.{is_calling, holds_function, counts_op, Within, OnlyCallsDeepen}

either : (b : Bool) (d : ℕ) (x y : Next) → Within d x → Within d y → Within d (if b then x else y)
either true d x y h k = h
either false d x y h k = k

where_defined : (b : Bool) (d : ℕ) (w : World) (x : Next) → Within d x → Within d (next_if b w x)
where_defined true d w x h = h
where_defined false d w x h = tt

terminated_within : (d : ℕ) (h : Option ℕ) (fs : List Activation) (w : World) → depth_of fs ≤ d → Within d (terminated h fs w)
terminated_within d h fs w le =
    either w.ending d (finishes (by_program aborted) w) (at terminating 0 (stub_frame (function_word h) nothing nothing) fs (record w { ending = is_some h })) tt (omega (arith, le))

pad_within : (d : ℕ) (o : Option CodeOp) (x : Word) (n : ℤ) (f : Function) (p : ℕ) (y : Frame) (fs : List Activation) (w : World) → depth_of fs + counts f ≤ d
    → Within d (pad_entered o x n f p y fs w)
pad_within d None x n f p y fs w le = tt
pad_within d (Some (runtime o)) x n f p y fs w le = tt
pad_within d (Some (linear (plain o))) x n f p y fs w le = tt
pad_within d (Some (linear (label l))) x n f p y fs w le = tt
pad_within d (Some (linear (jump l))) x n f p y fs w le = tt
pad_within d (Some (linear (jump_zero v l))) x n f p y fs w le = tt
pad_within d (Some (linear (pad o s))) x n f p y fs w le = le
pad_within d (Some (linear (jump_filter s m l))) x n f p y fs w le = tt
pad_within d (Some (linear (free s))) x n f p y fs w le = tt
pad_within d (Some (linear (resume s))) x n f p y fs w le = tt
pad_within d (Some (linear (unexpected o s))) x n f p y fs w le = tt
pad_within d (Some (linear (return r))) x n f p y fs w le = tt

module _ (code : Code) (d : ℕ) where
  by_within : (v : Verdict) (p t e : ℕ) (f : Function) (x : Frame) (fs : List Activation) (w : World) (rest : Next) → depth_of fs + counts f ≤ d → Within d rest
      → Within d (unwound_by code v p t e f x fs w rest)
  by_within (target n) p t e f x fs w rest le h =
      either (length fs == t) d (pad_entered (fetch code f p) (flying e t) n f p x fs w) (finishes fault w) (pad_within d (fetch code f p) (flying e t) n f p x fs w le) tt
  by_within no_way p t e f x fs w rest le h = terminated_within d w.installed.terminate_handler (record { function = f; place = 0; frame = x } ∷ fs) w le
  by_within clean p t e f x fs w rest le h = pad_within d (fetch code f p) (flying e t) (pos 0) f p x fs w le
  by_within nothing_here p t e f x fs w rest le h = h

  unwound_within : (c : Cover) (t e : ℕ) (f : Function) (x : Frame) (fs : List Activation) (w : World) (rest : Next) → depth_of fs + counts f ≤ d → Within d rest
      → Within d (unwound_at code c t e f x fs w rest)
  unwound_within bare t e f x fs w rest le h = terminated_within d w.installed.terminate_handler (record { function = f; place = 0; frame = x } ∷ fs) w le
  unwound_within unpadded t e f x fs w rest le h = h
  unwound_within (padded p chain) t e f x fs w rest le h = by_within (pad_verdict code.rows (sense code f) chain (type_at w e)) p t e f x fs w rest le h

  above_within : (t e : ℕ) (fs : List Activation) (w : World) → depth_of fs ≤ d → Within d (unwound_above code t e fs w)
  above_within t e [] w le = tt
  above_within t e (a ∷ fs) w le =
      unwound_within (look code a.function a.place) t e a.function a.frame fs w (unwound_above code t e fs w) le (above_within t e fs w (omega (arith, le)))

  unwind_within : (c : Cover) (t e : ℕ) (f : Function) (x : Frame) (fs : List Activation) (w : World) → depth_of fs + counts f ≤ d → Within d (unwind code c t e f x fs w)
  unwind_within c t e f x fs w le = unwound_within c t e f x fs w (unwound_above code t e fs w) le (above_within t e fs w (omega (arith, le)))

  forced_by_within : (b : Bool) (p : ℕ) (n : ℤ) (f : Function) (x : Frame) (fs : List Activation) (w : World) (rest : Next) → depth_of fs + counts f ≤ d → Within d rest
      → Within d (forced_by code b p n f x fs w rest)
  forced_by_within true p n f x fs w rest le h = pad_within d (fetch code f p) (unwinding n) (pos 0) f p x fs w le
  forced_by_within false p n f x fs w rest le h = h

  forced_within : (c : Cover) (n : ℤ) (f : Function) (x : Frame) (fs : List Activation) (w : World) (rest : Next) → depth_of fs + counts f ≤ d → Within d rest
      → Within d (forced_at code c n f x fs w rest)
  forced_within bare n f x fs w rest le h = terminated_within d w.installed.terminate_handler (record { function = f; place = 0; frame = x } ∷ fs) w le
  forced_within unpadded n f x fs w rest le h = h
  forced_within (padded p chain) n f x fs w rest le h = forced_by_within (has_cleanup (sense code f) chain) p n f x fs w rest le h

  force_above_within : (n : ℤ) (fs : List Activation) (w : World) → depth_of fs ≤ d → Within d (forced_above code n fs w)
  force_above_within n [] w le = tt
  force_above_within n (a ∷ fs) w le =
      forced_within (look code a.function a.place) n a.function a.frame fs w (forced_above code n fs w) le (force_above_within n fs w (omega (arith, le)))

  force_within : (c : Cover) (n : ℤ) (f : Function) (x : Frame) (fs : List Activation) (w : World) → depth_of fs + counts f ≤ d → Within d (force code c n f x fs w)
  force_within c n f x fs w le = forced_within c n f x fs w (forced_above code n fs w) le (force_above_within n fs w (omega (arith, le)))

  doomed_within : (e : ℕ) (fs : List Activation) (w : World) → depth_of fs ≤ d → Within d (doomed e fs w)
  doomed_within e fs w le = either w.ending d (finishes (by_program aborted) w) (doomed_by e (exception_at w e) fs w) tt (by (exception_at w e))
    where
      by : (x : Exception) → Within d (doomed_by e x fs w)
      by (native t k handlers) = terminated_within d handlers.terminate_handler fs (entered_doomed e w) le
      by building = terminated_within d w.installed.terminate_handler fs w le
      by (foreign k t) = terminated_within d w.installed.terminate_handler fs w le

  raised_within : (o : Option ℕ) (e : ℕ) (fs : List Activation) (w : World) (go : ℕ → Next) → depth_of fs ≤ d → ((t : ℕ) → Within d (go t)) → Within d (raised_to o e fs w go)
  raised_within None e fs w go le h = doomed_within e fs w le
  raised_within (Some t) e fs w go le h = h t

  -- what runs is one of the calls that are open
  module _ (a : Activation) (fs : List Activation) (le : depth_of fs + counts a.function ≤ d) where
    raise_within : (e : ℕ) (w : World) → Within d (raise code e a fs w)
    raise_within e w =
        raised_within (found code a.function (look code a.function a.place) (type_at w e) fs) e (a ∷ fs) w _ le
        (λ t. unwind_within (look code a.function a.place) t e a.function a.frame fs (flies e w) le)

    settled_within : (x : Effect) (w : World) → Within d (settled x a fs w)
    settled_within (goes f v) w = le
    settled_within (calls p n given) w = tt
    settled_within (raises e v) w = tt
    settled_within (terminates e v) w = tt
    settled_within (ends e v) w = tt
    settled_within (cancels e v) w = tt
    settled_within leaves_newest w = tt
    settled_within meaningless w = tt

    performed_within : (x : Effect) (w : World) → is_calling x ≡ false → Within d (performed code x a fs w)
    performed_within (goes f v) w h = le
    performed_within (calls p n given) w h = absurd (cc h)
    performed_within (raises e v) w h = raise_within e v
    performed_within (terminates k v) w h = terminated_within d k (a ∷ fs) v le
    performed_within (ends e v) w h = tt
    performed_within (cancels n v) w h = force_within (look code a.function a.place) n a.function a.frame fs v le
    performed_within leaves_newest w h = omega (arith, le)
    performed_within meaningless w h = tt

  returned_within : (v : ℤ) (fs : List Activation) (w : World) → depth_of fs ≤ d → Within d (returned code v fs w)
  returned_within v [] w le = tt
  returned_within v (a ∷ fs) w le = settled_within a fs le (finished (kinds code a.function) (wanted_by (fetch code a.function a.place)) v a.frame w) w

  with_within : (o : Option ℤ) (fs : List Activation) (w : World) → depth_of fs ≤ d → Within d (returned_with code o fs w)
  with_within None fs w le = tt
  with_within (Some v) fs w le = returned_within v fs w le

  module _ (a : Activation) (fs : List Activation) (le : depth_of fs + counts a.function ≤ d) (w : World) where
    abbrev now : State
    now = record { top = a; frames = fs; world = w }

    zero_within : (o : Option ℤ) (l : ℕ) → Within d (jumped_zero code o l a fs w)
    zero_within None l = tt
    zero_within (Some v) l = either (is_zero v) d (jumped code l a fs w) (on a a.frame fs w) le le

    resumed_within : (x : Word) → Within d (resumed code x a fs w)
    resumed_within (flying e t) = unwind_within (look code a.function a.place) t e a.function a.frame fs w le
    resumed_within (unwinding n) = force_within (look code a.function a.place) n a.function a.frame fs w le
    resumed_within nothing = tt
    resumed_within (number_word v) = tt
    resumed_within (address_word v) = tt

    act_within : (o : LinearOp) → counts_op code (Some (linear o)) now ≡ false → Within d (act code o a fs w)
    act_within (plain o) h = performed_within a fs le (effect (kinds code a.function) o a.frame w) w h
    act_within (label l) h = le
    act_within (jump l) h = le
    act_within (jump_zero v l) h = zero_within (value_in (kinds code a.function) a.frame w v) l
    act_within (pad o s) h = tt
    act_within (jump_filter s n l) h = either (holds_number (a.frame.slots s) n) d (jumped code l a fs w) (on a a.frame fs w) le le
    act_within (free s) h = where_defined (may_free a.function w (exception_in_slot a.frame s)) d w _ le
    act_within (resume s) h = resumed_within (a.frame.slots s)
    act_within (unexpected o s) h = omega (arith, le)
    act_within (return r) h = with_within (result_in r a.frame w (kinds code a.function)) fs w (omega (arith, le))

    given_within : (x : Exception) (e o s l : ℕ) (v : World) → Within d (given_back x e o s l a fs v)
    given_within (native t k handlers) e o s l v = le
    given_within (foreign k t) e o s l v = le
    given_within building e o s l v = le

    newest_within : (o s l : ℕ) → Within d (newest_left o s l a fs w)
    newest_within o s l =
        where_defined (may_leave w w.caught) d w _ (either (gives_back w.caught) d _ (at a.function l a.frame fs (left w))
        (given_within (exception_at w (newest_of w.caught)) (newest_of w.caught) o s l (left w)) le)

    destroyed_within : (x y : Word) → holds_function x ≡ false → Within d (destroyed code x y a fs w)
    destroyed_within (number_word (pos n)) y h = absurd (cc h)
    destroyed_within (number_word (negsuc n)) y h = le
    destroyed_within nothing y h = le
    destroyed_within (address_word v) y h = le
    destroyed_within (flying e t) y h = le
    destroyed_within (unwinding n) y h = le

    held_within : (x : Word) → holds_function x ≡ false → Within d (called_held code x a fs w)
    held_within (number_word (pos n)) h = absurd (cc h)
    held_within (number_word (negsuc n)) h = le
    held_within nothing h = le
    held_within (address_word v) h = le
    held_within (flying e t) h = le
    held_within (unwinding n) h = le

    stub_within : (o : StubOp) → counts_op code (Some (runtime o)) now ≡ false → Within d (act_stub code o a fs w)
    stub_within (leave_newest o s l) h = newest_within o s l
    stub_within (destroy_held s o) h = destroyed_within (a.frame.slots s) (a.frame.slots o) h
    stub_within (call_held s) h = held_within (a.frame.slots s) h
    stub_within (begin_unexpected o s) h =
        where_defined (is_native (exception_at w (exception_in_slot a.frame o)) && may_enter w (exception_in_slot a.frame o)) d w _ le
    stub_within (check_unexpected s f o x) h = le
    stub_within construct_bad h = le
    stub_within (terminate_for o) h = terminated_within d (kept_with (exception_at w (exception_in_slot a.frame o))).terminate_handler (a ∷ fs) w le
    stub_within abort h = tt

    on_within : (o : Option CodeOp) → counts_op code o now ≡ false → Within d (act_on code o a fs w)
    on_within None h = tt
    on_within (Some (linear o)) h = act_within o h
    on_within (Some (runtime o)) h = stub_within o h

pub only_calls_deepen : OnlyCallsDeepen
only_calls_deepen = record {
  quiet = λ code st h. on_within code (depth_of (st.top ∷ st.frames)) st.top st.frames (omega arith) st.world (fetch code st.top.function st.top.place) h;
  jumps = λ code st l e. subst (λ o. Within (depth_of (st.top ∷ st.frames)) (act_on code o st.top st.frames st.world)) (sym e) (omega arith);
}
