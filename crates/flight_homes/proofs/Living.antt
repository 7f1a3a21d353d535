-- Each step keeps what is known of live exceptions and handlers.
use Rattle.std.proofs.Common.{◌≡◌, ℕ, zero, suc, ◌+◌, ℤ, pos, negsuc, Bool, true, false, ◌==◌, List, [], ◌∷◌, length, Option, Some, None, is_some, refl, subst, if◌then◌else◌}
use Rattle.std.specs.Prelude.{◌&&◌, slice_get}
use Rattle.meaning_forms.specs.Arithmetic.{is_zero}
use Rattle.meaning_forms.specs.Outcome.{aborted}
use Rattle.region_forms.specs.Caught.{gives_back}
use Rattle.region_forms.specs.Unexpected.{kept_with}
use Rattle.region_forms.specs.Lives.{is_native, may_enter, may_leave}
use Rattle.region_forms.specs.World.{Word, nothing, number_word, address_word, flying, unwinding, Frame, World, Exception, building, native, foreign, with_slot, with_item, address_in, exception_of, exception_in_slot, exception_at, type_at}
use Rattle.region_forms.specs.Evaluation.{value_in}
use Rattle.region_forms.specs.Effect.{Effect, goes, calls, raises, terminates, ends, cancels, leaves_newest, meaningless, effect, finished, entered, entered_doomed, flies, left, newest_of, freed, result_in}
use Rattle.linear_forms.specs.Linear.{LinearOp, plain, label, jump, jump_zero, pad, jump_filter, free, resume, unexpected, return}
use Rattle.linear_forms.specs.Tables.{Cover, bare, unpadded, padded}
use Rattle.linear_forms.specs.Verdict.{Verdict, target, no_way, clean, nothing_here, pad_verdict, has_cleanup}
use Rattle.linear_forms.specs.Stub.{Function, compiled, end_catch, terminating, call_unexpected, CodeOp, linear, runtime, StubOp, leave_newest, destroy_held, call_held, begin_unexpected, check_unexpected, construct_bad, terminate_for, abort, StubRow, end_catch_rows, terminating_rows, call_unexpected_rows}
use Rattle.linear_forms.specs.Activation.{Code, Activation, Next, goes_to, finishes, by_program, fault, next_if, compiled_op, fetch, look, sense, kinds, at, on, depth_of, enters_function, stub_frame, function_word, terminated}
use Rattle.linear_forms.specs.Search.{found}
use Rattle.linear_forms.specs.Unwinding.{pad_entered, unwound_by, unwound_at, unwound_above, unwind, doomed_by, raised_to, raise}
use Rattle.linear_forms.specs.Forced.{forced_by, forced_at, forced_above, force}
use Rattle.linear_forms.specs.Operation.{settled, performed, wanted_by, returned_with, jumped, jumped_zero, holds_number, resumed, may_free, act}
use Rattle.linear_forms.specs.StubOperation.{given_back, newest_left, is_bad, empty_call, called_held, destroyed, act_stub}
use Rattle.linear_forms.specs.Machine.{act_on}
use Rattle.flight_homes.specs.Lives.{Known, WorldKnown, OpKnown, CodeKnown, StepsKeepLives}
use Rattle.flight_homes.proofs.Alive.{without_known, Alive, finished_alive, effect_alive, call_known}

module _ (k : Known) (code : Code) where
  -- the world of what comes next
  abbrev Lives : Next → Type 0
  Lives (finishes e w) = Unit {0}
  Lives (goes_to st) = WorldKnown k st.world

  either : (b : Bool) (x y : Next) → Lives x → Lives y → Lives (if b then x else y)
  either true x y h i = h
  either false x y h i = i

  next_lives : (b : Bool) (w : World) (x : Next) → Lives x → Lives (next_if b w x)
  next_lives true w x h = h
  next_lives false w x h = tt

  terminated_lives : (h : Option ℕ) (fs : List Activation) (w : World) → WorldKnown k w → Lives (terminated h fs w)
  terminated_lives h fs w known =
      either w.ending (finishes (by_program aborted) w) (at terminating 0 (stub_frame (function_word h) nothing nothing) fs (record w { ending = is_some h })) tt
      (record { lives = known.lives; handlers = known.handlers })

  called_lives : (n : ℕ) (given : List Word) (fs : List Activation) (w : World) → WorldKnown k w → Lives (enters_function code n given fs w)
  called_lives n given fs w h = call_known k (code.kinds_at n) given (depth_of fs + 1) w h

  module _ (w : World) (h : WorldKnown k w) where
    pad_lives : (o : Option CodeOp) (word : Word) (n : ℤ) (f : Function) (p : ℕ) (x : Frame) (fs : List Activation) → Lives (pad_entered o word n f p x fs w)
    pad_lives None word n f p x fs = tt
    pad_lives (Some (runtime o)) word n f p x fs = tt
    pad_lives (Some (linear (plain o))) word n f p x fs = tt
    pad_lives (Some (linear (label l))) word n f p x fs = tt
    pad_lives (Some (linear (jump l))) word n f p x fs = tt
    pad_lives (Some (linear (jump_zero v l))) word n f p x fs = tt
    pad_lives (Some (linear (pad o s))) word n f p x fs = h
    pad_lives (Some (linear (jump_filter s z l))) word n f p x fs = tt
    pad_lives (Some (linear (free s))) word n f p x fs = tt
    pad_lives (Some (linear (resume s))) word n f p x fs = tt
    pad_lives (Some (linear (unexpected o s))) word n f p x fs = tt
    pad_lives (Some (linear (return r))) word n f p x fs = tt

    module _ (f : Function) (x : Frame) (fs : List Activation) (rest : Next) (lives : Lives rest) where
      ends_here : Lives (terminated w.installed.terminate_handler (record { function = f; place = 0; frame = x } ∷ fs) w)
      ends_here = terminated_lives w.installed.terminate_handler (record { function = f; place = 0; frame = x } ∷ fs) w h

      verdict_lives : (v : Verdict) (p t e : ℕ) → Lives (unwound_by code v p t e f x fs w rest)
      verdict_lives (target n) p t e = either (length fs == t) (pad_entered (fetch code f p) (flying e t) n f p x fs w) (finishes fault w) (pad_lives (fetch code f p) (flying e t) n f p x fs) tt
      verdict_lives no_way p t e = ends_here
      verdict_lives clean p t e = pad_lives (fetch code f p) (flying e t) (pos 0) f p x fs
      verdict_lives nothing_here p t e = lives

      unwound_lives : (c : Cover) (t e : ℕ) → Lives (unwound_at code c t e f x fs w rest)
      unwound_lives bare t e = ends_here
      unwound_lives unpadded t e = lives
      unwound_lives (padded p chain) t e = verdict_lives (pad_verdict code.rows (sense code f) chain (type_at w e)) p t e

      cleanup_lives : (c : Bool) (p : ℕ) (z : ℤ) → Lives (forced_by code c p z f x fs w rest)
      cleanup_lives true p z = pad_lives (fetch code f p) (unwinding z) (pos 0) f p x fs
      cleanup_lives false p z = lives

      forced_lives : (c : Cover) (z : ℤ) → Lives (forced_at code c z f x fs w rest)
      forced_lives bare z = ends_here
      forced_lives unpadded z = lives
      forced_lives (padded p chain) z = cleanup_lives (has_cleanup (sense code f) chain) p z

    above_lives : (t e : ℕ) (fs : List Activation) → Lives (unwound_above code t e fs w)
    above_lives t e [] = tt
    above_lives t e (a ∷ fs) = unwound_lives a.function a.frame fs (unwound_above code t e fs w) (above_lives t e fs) (look code a.function a.place) t e

    forced_above_lives : (z : ℤ) (fs : List Activation) → Lives (forced_above code z fs w)
    forced_above_lives z [] = tt
    forced_above_lives z (a ∷ fs) = forced_lives a.function a.frame fs (forced_above code z fs w) (forced_above_lives z fs) (look code a.function a.place) z

    unwind_lives : (c : Cover) (t e : ℕ) (f : Function) (x : Frame) (fs : List Activation) → Lives (unwind code c t e f x fs w)
    unwind_lives c t e f x fs = unwound_lives f x fs (unwound_above code t e fs w) (above_lives t e fs) c t e

    force_lives : (c : Cover) (z : ℤ) (f : Function) (x : Frame) (fs : List Activation) → Lives (force code c z f x fs w)
    force_lives c z f x fs = forced_lives f x fs (forced_above code z fs w) (forced_above_lives z fs) c z

    doomed_lives : (e : ℕ) (x : Exception) (fs : List Activation) → Lives (doomed_by e x fs w)
    doomed_lives e building fs = terminated_lives w.installed.terminate_handler fs w h
    doomed_lives e (native t d handlers) fs = terminated_lives handlers.terminate_handler fs (entered_doomed e w) (record { lives = h.lives; handlers = h.handlers })
    doomed_lives e (foreign i t) fs = terminated_lives w.installed.terminate_handler fs w h

  raise_lives : (e : ℕ) (a : Activation) (fs : List Activation) (w : World) → WorldKnown k w → Lives (raise code e a fs w)
  raise_lives e a fs w h = go (found code a.function (look code a.function a.place) (type_at w e) fs)
    where
      go : (o : Option ℕ) → Lives (raised_to o e (a ∷ fs) w (λ t. unwind code (look code a.function a.place) t e a.function a.frame fs (flies e w)))
      go None = either w.ending (finishes (by_program aborted) w) (doomed_by e (exception_at w e) (a ∷ fs) w) tt (doomed_lives w h e (exception_at w e) (a ∷ fs))
      go (Some t) = unwind_lives (flies e w) (record { lives = h.lives; handlers = h.handlers }) (look code a.function a.place) t e a.function a.frame fs

  module _ (a : Activation) (fs : List Activation) where
    performed_lives : (e : Effect) (w : World) → Alive k e → WorldKnown k w → Lives (performed code e a fs w)
    performed_lives (goes x v) w i h = i
    performed_lives (calls p n given) w i h = called_lives n given (a ∷ fs) w h
    performed_lives (raises e v) w i h = raise_lives e a fs v i
    performed_lives (terminates t v) w i h = terminated_lives t (a ∷ fs) v i
    performed_lives (ends e v) w i h = tt
    performed_lives (cancels z v) w i h = force_lives v i (look code a.function a.place) z a.function a.frame fs
    performed_lives leaves_newest w i h = h
    performed_lives meaningless w i h = tt

  settled_lives : (e : Effect) (a : Activation) (fs : List Activation) (w : World) → Alive k e → Lives (settled e a fs w)
  settled_lives (goes x v) a fs w i = i
  settled_lives (calls p n given) a fs w i = tt
  settled_lives (raises e v) a fs w i = tt
  settled_lives (terminates t v) a fs w i = tt
  settled_lives (ends e v) a fs w i = tt
  settled_lives (cancels z v) a fs w i = tt
  settled_lives leaves_newest a fs w i = tt
  settled_lives meaningless a fs w i = tt

  -- what an operation of linear code names is known
  abbrev Named : LinearOp → Type 0
  Named (plain o) = OpKnown k o
  Named o = Unit {0}

  module _ (a : Activation) (fs : List Activation) (w : World) (h : WorldKnown k w) where
    returned_lives : (o : Option ℤ) (fs : List Activation) → Lives (returned_with code o fs w)
    returned_lives None fs = tt
    returned_lives (Some z) [] = tt
    returned_lives (Some z) (r ∷ fs) =
        let p = wanted_by (fetch code r.function r.place) in
        settled_lives (finished (kinds code r.function) p z r.frame w) r fs w (finished_alive k (kinds code r.function) p z r.frame w h)

    zero_lives : (o : Option ℤ) (l : ℕ) → Lives (jumped_zero code o l a fs w)
    zero_lives None l = tt
    zero_lives (Some z) l = either (is_zero z) (jumped code l a fs w) (on a a.frame fs w) h h

    resumed_lives : (x : Word) → Lives (resumed code x a fs w)
    resumed_lives (flying e t) = unwind_lives w h (look code a.function a.place) t e a.function a.frame fs
    resumed_lives (unwinding z) = force_lives w h (look code a.function a.place) z a.function a.frame fs
    resumed_lives nothing = tt
    resumed_lives (number_word z) = tt
    resumed_lives (address_word q) = tt

    act_lives : (o : LinearOp) → Named o → Lives (act code o a fs w)
    act_lives (plain o) i = performed_lives a fs (effect (kinds code a.function) o a.frame w) w (effect_alive k (kinds code a.function) o a.frame w i h) h
    act_lives (label l) i = h
    act_lives (jump l) i = h
    act_lives (jump_zero v l) i = zero_lives (value_in (kinds code a.function) a.frame w v) l
    act_lives (pad o s) i = tt
    act_lives (jump_filter s n l) i = either (holds_number (a.frame.slots s) n) (jumped code l a fs w) (on a a.frame fs w) h h
    act_lives (free s) i =
        let e = exception_in_slot a.frame s in
        let v = with_item _ w in
        next_lives (may_free a.function w e) w (on a a.frame fs (freed e w)) (without_known k e v (record { lives = h.lives; handlers = h.handlers }))
    act_lives (resume s) i = resumed_lives (a.frame.slots s)
    act_lives (unexpected o s) i = h
    act_lives (return result) i = returned_lives (result_in result a.frame w (kinds code a.function)) fs

    -- the runtime's own operations

    given_lives : (x : Exception) (e o s l : ℕ) (v : World) → WorldKnown k v → Lives (given_back x e o s l a fs v)
    given_lives building e o s l v i = i
    given_lives (native t n handlers) e o s l v i = record { lives = i.lives; handlers = i.handlers }
    given_lives (foreign j t) e o s l v i = without_known k e (with_item _ v) (record { lives = i.lives; handlers = i.handlers })

    left_lives : (o s l : ℕ) → Lives (newest_left o s l a fs w)
    left_lives o s l =
        let i : WorldKnown k (left w) = record { lives = h.lives; handlers = h.handlers } in
        let gives = given_back (exception_at w (newest_of w.caught)) (newest_of w.caught) o s l a fs (left w) in
        let stays = at a.function l a.frame fs (left w) in
        next_lives (may_leave w w.caught) w (if gives_back w.caught then gives else stays)
        (either (gives_back w.caught) gives stays (given_lives (exception_at w (newest_of w.caught)) (newest_of w.caught) o s l (left w) i) i)

    empty_lives : Lives (on a a.frame fs (empty_call fs w))
    empty_lives = record { lives = h.lives; handlers = h.handlers }

    destroyed_lives : (x object : Word) → Lives (destroyed code x object a fs w)
    destroyed_lives x object = go x
      where
        bad : (c : Bool) → Lives (on a a.frame fs (if c then empty_call fs w else w))
        bad true = empty_lives
        bad false = h

        go : (x : Word) → Lives (destroyed code x object a fs w)
        go (number_word (pos n)) = called_lives n (object ∷ []) (a ∷ fs) w h
        go (number_word (negsuc n)) = bad (is_bad (type_at w (exception_of (address_in object))))
        go nothing = bad (is_bad (type_at w (exception_of (address_in object))))
        go (address_word q) = bad (is_bad (type_at w (exception_of (address_in object))))
        go (flying e t) = bad (is_bad (type_at w (exception_of (address_in object))))
        go (unwinding z) = bad (is_bad (type_at w (exception_of (address_in object))))

    held_lives : (x : Word) → Lives (called_held code x a fs w)
    held_lives (number_word (pos n)) = called_lives n [] (a ∷ fs) w h
    held_lives (number_word (negsuc n)) = h
    held_lives nothing = h
    held_lives (address_word q) = h
    held_lives (flying e t) = h
    held_lives (unwinding z) = h

    stub_lives : (o : StubOp) → Lives (act_stub code o a fs w)
    stub_lives (leave_newest o s l) = left_lives o s l
    stub_lives (destroy_held s o) = destroyed_lives (a.frame.slots s) (a.frame.slots o)
    stub_lives (call_held s) = held_lives (a.frame.slots s)
    stub_lives (begin_unexpected o s) =
        let e = exception_in_slot a.frame o in
        let x = with_slot s (function_word (kept_with (exception_at w e)).unexpected_handler) a.frame in
        next_lives (is_native (exception_at w e) && may_enter w e) w (on a x fs (entered e w)) (record { lives = h.lives; handlers = h.handlers })
    stub_lives (check_unexpected s f o x) = h
    stub_lives construct_bad = empty_lives
    stub_lives (terminate_for o) = terminated_lives (kept_with (exception_at w (exception_in_slot a.frame o))).terminate_handler (a ∷ fs) w h
    stub_lives abort = tt

  -- what the operation at a place names

  abbrev OpNamed : Option CodeOp → Type 0
  OpNamed None = Unit {0}
  OpNamed (Some (linear o)) = Named o
  OpNamed (Some (runtime o)) = Unit {0}

  abbrev RowsNamed : List StubRow → Type 0
  RowsNamed [] = Unit {0}
  RowsNamed (x ∷ xs) = OpNamed (Some x.op) × RowsNamed xs

  row_named : (rows : List StubRow) → RowsNamed rows → (p : ℕ) → OpNamed (elim (slice_get rows p) [ None ↦ None | Some x ↦ Some x.op ])
  row_named [] h p = tt
  row_named (x ∷ xs) h zero = h.0
  row_named (x ∷ xs) h (suc p) = row_named xs h.1 p

  on_lives : (o : Option CodeOp) (a : Activation) (fs : List Activation) (w : World) → OpNamed o → WorldKnown k w → Lives (act_on code o a fs w)
  on_lives None a fs w i h = tt
  on_lives (Some (linear o)) a fs w i h = act_lives a fs w h o i
  on_lives (Some (runtime o)) a fs w i h = stub_lives a fs w h o

  module _ (known : CodeKnown k code) where
    code_named : (n p : ℕ) (o : Option LinearOp) → code.op_at n p ≡ o → OpNamed (compiled_op o)
    code_named n p None e = tt
    code_named n p (Some (plain o)) e = known.operations n p o e
    code_named n p (Some (label l)) e = tt
    code_named n p (Some (jump l)) e = tt
    code_named n p (Some (jump_zero v l)) e = tt
    code_named n p (Some (pad o s)) e = tt
    code_named n p (Some (jump_filter s z l)) e = tt
    code_named n p (Some (free s)) e = tt
    code_named n p (Some (resume s)) e = tt
    code_named n p (Some (unexpected o s)) e = tt
    code_named n p (Some (return r)) e = tt

    all_named : (f : Function) (p : ℕ) → OpNamed (fetch code f p)
    all_named (compiled n) p = code_named n p (code.op_at n p) refl
    all_named end_catch p = row_named end_catch_rows (tt, (tt, (tt, (tt, (tt, (tt, (tt, tt))))))) p
    all_named terminating p = row_named terminating_rows (tt, (tt, tt)) p
    all_named call_unexpected p = row_named call_unexpected_rows (tt, (tt, (tt, (tt, (tt, (tt, (tt, (tt, (tt, (tt, (tt, (tt, (tt, ((known.bad, known.none), (tt, (tt, (tt, (tt, tt)))))))))))))))))) p

pub steps_keep_lives : StepsKeepLives
steps_keep_lives k code st next known h e =
    subst (Lives k code) e (on_lives k code (fetch code st.top.function st.top.place) st.top st.frames st.world (all_named k code known st.top.function st.top.place) h)
