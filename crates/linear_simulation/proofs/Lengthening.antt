-- A step of the machine adds items and takes none away.
use Rattle.std.proofs.Common.{◌≡◌, ℕ, zero, suc, ◌+◌, Bool, true, false, List, [], ◌∷◌, ◌++◌, length, Option, Some, None, refl, ap, ◌∙◌, subst, append_assoc, arith, is_some}
use Rattle.std.specs.Prelude.{ℤ, pos, negsuc, ◌==◌, if◌then◌else◌, ◌&&◌}
use Rattle.run_items.specs.declared.item.Item.{Item}
use Rattle.run_items.specs.declared.item.Item.TheVariants.{Free, Leave, Destroy, Clean, Enter}
use Rattle.region_forms.specs.Caught.{gives_back}
use Rattle.region_forms.specs.World.{Word, nothing, number_word, address_word, flying, unwinding, Frame, World, Exception, building, native, foreign, exception_in_slot, exception_at, type_at, exception_of, address_in, with_slot}
use Rattle.region_forms.specs.Evaluation.{value_in}
use Rattle.region_forms.specs.Effect.{Effect, goes, calls, raises, terminates, ends, cancels, leaves_newest, meaningless, effect, entered_doomed, left, newest_of, result_in, finished, flies, freed, entered}
use Rattle.region_forms.specs.Unexpected.{kept_with}
use Rattle.meaning_forms.specs.Arithmetic.{is_zero}
use Rattle.meaning_forms.specs.Outcome.{aborted}
use Rattle.linear_forms.specs.Linear.{LinearOp, plain, label, jump, jump_zero, pad, jump_filter, free, resume, unexpected, return}
use Rattle.linear_forms.specs.Tables.{Cover, bare, unpadded, padded}
use Rattle.linear_forms.specs.Verdict.{Verdict, target, no_way, clean, nothing_here, pad_verdict, has_cleanup}
use Rattle.linear_forms.specs.Stub.{Function, CodeOp, linear, runtime, StubOp, leave_newest, destroy_held, call_held, begin_unexpected, check_unexpected, construct_bad, terminate_for, abort, terminating}
use Rattle.linear_forms.specs.Activation.{Code, Activation, State, Next, goes_to, finishes, by_program, fetch, look, sense, kinds, at, on, stub_frame, function_word, terminated, enters_function, Final, fault, next_if}
use Rattle.linear_forms.specs.Operation.{performed, wanted_by, returned, returned_with, jumped_zero, holds_number, resumed, act, may_free}
use Rattle.linear_forms.specs.Operation
use Rattle.linear_forms.specs.StubOperation.{given_back, newest_left, is_bad, called_held, destroyed, act_stub}
use Rattle.linear_forms.specs.StubOperation
use Rattle.linear_forms.specs.Search.{found}
use Rattle.linear_forms.specs.Unwinding.{pad_entered, unwound_by, unwound_at, unwound_above, unwind, doomed_by, doomed, raised_to, raise}
use Rattle.linear_forms.specs.Forced.{forced_by, forced_at, forced_above, force}
use Rattle.linear_forms.specs.Machine.{act_on, step, over, exec, go_on}
use Rattle.linear_simulation.specs.ProgramRuns.{items_of, BeginsWith}
use Rattle.linear_simulation.proofs.Endings.{nothing_more, given_untouched, EffectKeeps, effect_keeps, finished_keeps}
use Rattle.region_forms.specs.Lives.{is_native, may_enter, may_leave}

pub longer_same : (xs : List Item) → BeginsWith xs xs
longer_same xs = ([], nothing_more xs)

pub longer_on : (xs ys zs : List Item) → BeginsWith xs ys → BeginsWith ys zs → BeginsWith xs zs
longer_on xs ys zs a b = (a.0 ++ b.0, b.1 ∙ ap (λ l. l ++ b.0) a.1 ∙ append_assoc xs a.0 b.0)

-- what is next has the items of a world, and perhaps more
abbrev pub Lengthens : World → Next → Type 0
Lengthens w (goes_to m) = BeginsWith w.items m.world.items
Lengthens w (finishes e v) = BeginsWith w.items v.items

lengthens_on : (w v : World) (x : Next) → BeginsWith w.items v.items → Lengthens v x → Lengthens w x
lengthens_on w v (goes_to m) a b = longer_on w.items v.items m.world.items a b
lengthens_on w v (finishes e u) a b = longer_on w.items v.items u.items a b

either : (b : Bool) (w : World) (x y : Next) → Lengthens w x → Lengthens w y → Lengthens w (if b then x else y)
either true w x y a c = a
either false w x y a c = c

-- what is not defined adds nothing
so_adds : (b : Bool) (w : World) (x : Next) → Lengthens w x → Lengthens w (next_if b w x)
so_adds true w x h = h
so_adds false w x h = longer_same w.items

terminated_adds : (h : Option ℕ) (fs : List Activation) (w : World) → Lengthens w (terminated h fs w)
terminated_adds h fs w =
    either w.ending w (finishes (by_program aborted) w) (at terminating 0 (stub_frame (function_word h) nothing nothing) fs (record w { ending = is_some h }))
    (longer_same w.items) (longer_same w.items)

pad_adds : (o : Option CodeOp) (x : Word) (n : ℤ) (f : Function) (p : ℕ) (y : Frame) (fs : List Activation) (w : World) → Lengthens w (pad_entered o x n f p y fs w)
pad_adds None x n f p y fs w = longer_same w.items
pad_adds (Some (runtime o)) x n f p y fs w = longer_same w.items
pad_adds (Some (linear (plain o))) x n f p y fs w = longer_same w.items
pad_adds (Some (linear (label l))) x n f p y fs w = longer_same w.items
pad_adds (Some (linear (jump l))) x n f p y fs w = longer_same w.items
pad_adds (Some (linear (jump_zero v l))) x n f p y fs w = longer_same w.items
pad_adds (Some (linear (pad o s))) x n f p y fs w = longer_same w.items
pad_adds (Some (linear (jump_filter s m l))) x n f p y fs w = longer_same w.items
pad_adds (Some (linear (free s))) x n f p y fs w = longer_same w.items
pad_adds (Some (linear (resume s))) x n f p y fs w = longer_same w.items
pad_adds (Some (linear (unexpected o s))) x n f p y fs w = longer_same w.items
pad_adds (Some (linear (return r))) x n f p y fs w = longer_same w.items

module _ (code : Code) where
  call_adds : (n : ℕ) (given : List Word) (fs : List Activation) (w : World) → Lengthens w (enters_function code n given fs w)
  call_adds n given fs w = ([], (given_untouched (code.kinds_at n) given w.calls 0 w).1 ∙ nothing_more w.items)

  by_adds : (v : Verdict) (p t e : ℕ) (f : Function) (x : Frame) (fs : List Activation) (w : World) (rest : Next) → Lengthens w rest → Lengthens w (unwound_by code v p t e f x fs w rest)
  by_adds (target n) p t e f x fs w rest h =
      either (length fs == t) w (pad_entered (fetch code f p) (flying e t) n f p x fs w) (finishes fault w) (pad_adds (fetch code f p) (flying e t) n f p x fs w) (longer_same w.items)
  by_adds no_way p t e f x fs w rest h = terminated_adds w.installed.terminate_handler _ w
  by_adds clean p t e f x fs w rest h = pad_adds (fetch code f p) (flying e t) (pos 0) f p x fs w
  by_adds nothing_here p t e f x fs w rest h = h

  unwound_adds : (c : Cover) (t e : ℕ) (f : Function) (x : Frame) (fs : List Activation) (w : World) (rest : Next) → Lengthens w rest → Lengthens w (unwound_at code c t e f x fs w rest)
  unwound_adds bare t e f x fs w rest h = terminated_adds w.installed.terminate_handler _ w
  unwound_adds unpadded t e f x fs w rest h = h
  unwound_adds (padded p chain) t e f x fs w rest h = by_adds (pad_verdict code.rows (sense code f) chain (type_at w e)) p t e f x fs w rest h

  above_adds : (t e : ℕ) (fs : List Activation) (w : World) → Lengthens w (unwound_above code t e fs w)
  above_adds t e [] w = longer_same w.items
  above_adds t e (a ∷ fs) w = unwound_adds (look code a.function a.place) t e a.function a.frame fs w (unwound_above code t e fs w) (above_adds t e fs w)

  unwind_adds : (c : Cover) (t e : ℕ) (f : Function) (x : Frame) (fs : List Activation) (w : World) → Lengthens w (unwind code c t e f x fs w)
  unwind_adds c t e f x fs w = unwound_adds c t e f x fs w (unwound_above code t e fs w) (above_adds t e fs w)

  forced_by_adds : (b : Bool) (p : ℕ) (n : ℤ) (f : Function) (x : Frame) (fs : List Activation) (w : World) (rest : Next) → Lengthens w rest → Lengthens w (forced_by code b p n f x fs w rest)
  forced_by_adds true p n f x fs w rest h = pad_adds (fetch code f p) (unwinding n) (pos 0) f p x fs w
  forced_by_adds false p n f x fs w rest h = h

  forced_adds : (c : Cover) (n : ℤ) (f : Function) (x : Frame) (fs : List Activation) (w : World) (rest : Next) → Lengthens w rest → Lengthens w (forced_at code c n f x fs w rest)
  forced_adds bare n f x fs w rest h = terminated_adds w.installed.terminate_handler _ w
  forced_adds unpadded n f x fs w rest h = h
  forced_adds (padded p chain) n f x fs w rest h = forced_by_adds (has_cleanup (sense code f) chain) p n f x fs w rest h

  force_above_adds : (n : ℤ) (fs : List Activation) (w : World) → Lengthens w (forced_above code n fs w)
  force_above_adds n [] w = longer_same w.items
  force_above_adds n (a ∷ fs) w = forced_adds (look code a.function a.place) n a.function a.frame fs w (forced_above code n fs w) (force_above_adds n fs w)

  force_adds : (c : Cover) (n : ℤ) (f : Function) (x : Frame) (fs : List Activation) (w : World) → Lengthens w (force code c n f x fs w)
  force_adds c n f x fs w = forced_adds c n f x fs w (forced_above code n fs w) (force_above_adds n fs w)

  doomed_by_adds : (e : ℕ) (x : Exception) (fs : List Activation) (w : World) → Lengthens w (doomed_by e x fs w)
  doomed_by_adds e (native t d handlers) fs w =
      lengthens_on w (entered_doomed e w) (terminated handlers.terminate_handler fs (entered_doomed e w)) (Enter e ∷ [], refl) (terminated_adds handlers.terminate_handler fs (entered_doomed e w))
  doomed_by_adds e building fs w = terminated_adds w.installed.terminate_handler fs w
  doomed_by_adds e (foreign k t) fs w = terminated_adds w.installed.terminate_handler fs w

  doomed_adds : (e : ℕ) (fs : List Activation) (w : World) → Lengthens w (doomed e fs w)
  doomed_adds e fs w = either w.ending w (finishes (by_program aborted) w) (doomed_by e (exception_at w e) fs w) (longer_same w.items) (doomed_by_adds e (exception_at w e) fs w)

  raised_adds : (o : Option ℕ) (e : ℕ) (fs : List Activation) (w : World) (go : ℕ → Next) → ((t : ℕ) → Lengthens w (go t)) → Lengthens w (raised_to o e fs w go)
  raised_adds None e fs w go h = doomed_adds e fs w
  raised_adds (Some t) e fs w go h = h t

  raise_adds : (e : ℕ) (a : Activation) (fs : List Activation) (w : World) → Lengthens w (raise code e a fs w)
  raise_adds e a fs w =
      raised_adds (found code a.function (look code a.function a.place) (type_at w e) fs) e (a ∷ fs) w _
      (λ t. unwind_adds (look code a.function a.place) t e a.function a.frame fs (flies e w))

  settled_adds : (x : Effect) (a : Activation) (fs : List Activation) (w : World) → EffectKeeps w x → Lengthens w (Operation.settled x a fs w)
  settled_adds (goes f v) a fs w h = (h.1, h.2)
  settled_adds (calls p n given) a fs w h = longer_same w.items
  settled_adds (raises e v) a fs w h = longer_same w.items
  settled_adds (terminates e v) a fs w h = longer_same w.items
  settled_adds (ends e v) a fs w h = longer_same w.items
  settled_adds (cancels e v) a fs w h = longer_same w.items
  settled_adds leaves_newest a fs w h = longer_same w.items
  settled_adds meaningless a fs w h = longer_same w.items

  performed_adds : (x : Effect) (a : Activation) (fs : List Activation) (w : World) → EffectKeeps w x → Lengthens w (performed code x a fs w)
  performed_adds (goes f v) a fs w h = (h.1, h.2)
  performed_adds (calls p n given) a fs w h = call_adds n given (a ∷ fs) w
  performed_adds (raises e v) a fs w h = lengthens_on w v (raise code e a fs v) (h.1, h.2) (raise_adds e a fs v)
  performed_adds (terminates e v) a fs w h = lengthens_on w v (terminated e (a ∷ fs) v) (h.1, h.2) (terminated_adds e (a ∷ fs) v)
  performed_adds (ends e v) a fs w h = (h.1, h.2)
  performed_adds (cancels n v) a fs w h = lengthens_on w v (force code (look code a.function a.place) n a.function a.frame fs v) (h.1, h.2) (force_adds (look code a.function a.place) n a.function a.frame fs v)
  performed_adds leaves_newest a fs w h = longer_same w.items
  performed_adds meaningless a fs w h = longer_same w.items

  returned_adds : (v : ℤ) (fs : List Activation) (w : World) → Lengthens w (returned code v fs w)
  returned_adds v [] w = longer_same w.items
  returned_adds v (a ∷ fs) w =
      settled_adds (finished (kinds code a.function) (wanted_by (fetch code a.function a.place)) v a.frame w) a fs w
      (finished_keeps (kinds code a.function) a.frame w (wanted_by (fetch code a.function a.place)) v w (refl, [], nothing_more w.items))

  with_adds : (o : Option ℤ) (fs : List Activation) (w : World) → Lengthens w (returned_with code o fs w)
  with_adds None fs w = longer_same w.items
  with_adds (Some v) fs w = returned_adds v fs w

  zero_adds : (o : Option ℤ) (l : ℕ) (a : Activation) (fs : List Activation) (w : World) → Lengthens w (jumped_zero code o l a fs w)
  zero_adds None l a fs w = longer_same w.items
  zero_adds (Some v) l a fs w = either (is_zero v) w _ (on a a.frame fs w) (longer_same w.items) (longer_same w.items)

  resumed_adds : (x : Word) (a : Activation) (fs : List Activation) (w : World) → Lengthens w (resumed code x a fs w)
  resumed_adds (flying e t) a fs w = unwind_adds (look code a.function a.place) t e a.function a.frame fs w
  resumed_adds (unwinding n) a fs w = force_adds (look code a.function a.place) n a.function a.frame fs w
  resumed_adds nothing a fs w = longer_same w.items
  resumed_adds (number_word v) a fs w = longer_same w.items
  resumed_adds (address_word v) a fs w = longer_same w.items

  act_adds : (o : LinearOp) (a : Activation) (fs : List Activation) (w : World) → Lengthens w (act code o a fs w)
  act_adds (plain o) a fs w = performed_adds (effect (kinds code a.function) o a.frame w) a fs w (effect_keeps (kinds code a.function) a.frame w o)
  act_adds (label l) a fs w = longer_same w.items
  act_adds (jump l) a fs w = longer_same w.items
  act_adds (jump_zero v l) a fs w = zero_adds (value_in (kinds code a.function) a.frame w v) l a fs w
  act_adds (pad o s) a fs w = longer_same w.items
  act_adds (jump_filter s n l) a fs w = either (holds_number (a.frame.slots s) n) w _ (on a a.frame fs w) (longer_same w.items) (longer_same w.items)
  act_adds (free s) a fs w =
      let e = exception_in_slot a.frame s in so_adds (may_free a.function w e) w (on a a.frame fs (freed e w)) (Free e ∷ [], refl)
  act_adds (resume s) a fs w = resumed_adds (a.frame.slots s) a fs w
  act_adds (unexpected o s) a fs w = longer_same w.items
  act_adds (return r) a fs w = with_adds (result_in r a.frame w (kinds code a.function)) fs w

  given_adds : (x : Exception) (e o s l : ℕ) (a : Activation) (fs : List Activation) (w : World) → Lengthens w (given_back x e o s l a fs w)
  given_adds (native t d handlers) e o s l a fs w = (Destroy e ∷ [], refl)
  given_adds (foreign k t) e o s l a fs w = (Clean k t ∷ [], refl)
  given_adds building e o s l a fs w = longer_same w.items

  newest_adds : (o s l : ℕ) (a : Activation) (fs : List Activation) (w : World) → Lengthens w (newest_left o s l a fs w)
  newest_adds o s l a fs w =
      so_adds (may_leave w w.caught) w _ (either (gives_back w.caught) w _ (at a.function l a.frame fs (left w))
      (lengthens_on w (left w) _ (Leave (newest_of w.caught) ∷ [], refl) (given_adds (exception_at w (newest_of w.caught)) (newest_of w.caught) o s l a fs (left w)))
      (Leave (newest_of w.caught) ∷ [], refl))

  empty_adds : (b : Bool) (ds : List Activation) (w : World) → BeginsWith w.items (if b then StubOperation.empty_call ds w else w).items
  empty_adds true ds w = longer_same w.items
  empty_adds false ds w = longer_same w.items

  destroyed_adds : (x y : Word) (a : Activation) (fs : List Activation) (w : World) → Lengthens w (destroyed code x y a fs w)
  destroyed_adds (number_word (pos n)) y a fs w = call_adds n (y ∷ []) (a ∷ fs) w
  destroyed_adds (number_word (negsuc n)) y a fs w = empty_adds (is_bad (type_at w (exception_of (address_in y)))) fs w
  destroyed_adds nothing y a fs w = empty_adds (is_bad (type_at w (exception_of (address_in y)))) fs w
  destroyed_adds (address_word v) y a fs w = empty_adds (is_bad (type_at w (exception_of (address_in y)))) fs w
  destroyed_adds (flying e t) y a fs w = empty_adds (is_bad (type_at w (exception_of (address_in y)))) fs w
  destroyed_adds (unwinding n) y a fs w = empty_adds (is_bad (type_at w (exception_of (address_in y)))) fs w

  held_adds : (x : Word) (a : Activation) (fs : List Activation) (w : World) → Lengthens w (called_held code x a fs w)
  held_adds (number_word (pos n)) a fs w = call_adds n [] (a ∷ fs) w
  held_adds (number_word (negsuc n)) a fs w = longer_same w.items
  held_adds nothing a fs w = longer_same w.items
  held_adds (address_word v) a fs w = longer_same w.items
  held_adds (flying e t) a fs w = longer_same w.items
  held_adds (unwinding n) a fs w = longer_same w.items

  stub_adds : (o : StubOp) (a : Activation) (fs : List Activation) (w : World) → Lengthens w (act_stub code o a fs w)
  stub_adds (leave_newest o s l) a fs w = newest_adds o s l a fs w
  stub_adds (destroy_held s o) a fs w = destroyed_adds (a.frame.slots s) (a.frame.slots o) a fs w
  stub_adds (call_held s) a fs w = held_adds (a.frame.slots s) a fs w
  stub_adds (begin_unexpected o s) a fs w =
      let e = exception_in_slot a.frame o in
      so_adds (is_native (exception_at w e) && may_enter w e) w
      (on a (with_slot s (function_word (kept_with (exception_at w e)).unexpected_handler) a.frame) fs (entered e w)) (Enter e ∷ [], refl)
  stub_adds (check_unexpected s f o x) a fs w = longer_same w.items
  stub_adds construct_bad a fs w = longer_same w.items
  stub_adds (terminate_for o) a fs w = terminated_adds (kept_with (exception_at w (exception_in_slot a.frame o))).terminate_handler (a ∷ fs) w
  stub_adds abort a fs w = longer_same w.items

  on_adds : (o : Option CodeOp) (a : Activation) (fs : List Activation) (w : World) → Lengthens w (act_on code o a fs w)
  on_adds None a fs w = longer_same w.items
  on_adds (Some (linear o)) a fs w = act_adds o a fs w
  on_adds (Some (runtime o)) a fs w = stub_adds o a fs w

  pub step_adds : (st : State) → Lengthens st.world (step code st)
  step_adds st = on_adds (fetch code st.top.function st.top.place) st.top st.frames st.world

module _ (code : Code) where
  -- a run has the items of its beginning, and perhaps more
  began : (d : ℕ) (st : State) → BeginsWith st.world.items (items_of (exec code d st))
  began zero st = longer_same st.world.items
  began (suc d) st = go (step code st) (step_adds code st) (began d)
    where
      go : (x : Next) → Lengthens st.world x → ((m : State) → BeginsWith m.world.items (items_of (exec code d m))) → BeginsWith st.world.items (items_of (go_on (exec code d) x))
      go (goes_to m) h rest = longer_on st.world.items m.world.items (items_of (exec code d m)) h (rest m)
      go (finishes e v) h rest = h

  -- a longer run has the items of a shorter one, and perhaps more
  pub longer_run : (j d : ℕ) (st : State) → BeginsWith (items_of (exec code j st)) (items_of (exec code (j + d) st))
  longer_run zero d st =
      let same : d ≡ 0 + d = omega arith in
      subst (λ n. BeginsWith st.world.items (items_of (exec code n st))) same (began d st)
  longer_run (suc j) d st =
      let same : suc (j + d) ≡ suc j + d = omega arith in
      subst (λ n. BeginsWith (items_of (exec code (suc j) st)) (items_of (exec code n st))) same (go (step code st) (longer_run j d))
    where
      go : (x : Next) → ((m : State) → BeginsWith (items_of (exec code j m)) (items_of (exec code (j + d) m))) → BeginsWith (items_of (go_on (exec code j) x)) (items_of (go_on (exec code (j + d)) x))
      go (goes_to m) rest = rest m
      go (finishes e v) rest = longer_same v.items

  -- an end stays
  pub end_stays : (j d : ℕ) (st : State) (e : Final) (w : World) → exec code j st ≡ over e w → exec code (j + d) st ≡ over e w
  end_stays zero d st e w q = absurd (cc q)
  end_stays (suc j) d st e w q =
      let same : suc (j + d) ≡ suc j + d = omega arith in
      subst (λ n. exec code n st ≡ over e w) same (go (step code st) q (end_stays j d))
    where
      go : (x : Next) → go_on (exec code j) x ≡ over e w → ((m : State) (f : Final) (v : World) → exec code j m ≡ over f v → exec code (j + d) m ≡ over f v)
          → go_on (exec code (j + d)) x ≡ over e w
      go (goes_to m) h rest = rest m e w h
      go (finishes f v) h rest = h
