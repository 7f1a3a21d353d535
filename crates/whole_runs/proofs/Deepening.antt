-- A step opens calls and forgets none: the greatest number of open calls does not fall.
use Rattle.std.proofs.Common.{◌≡◌, ℕ, zero, suc, ◌+◌, ◌≤◌, Bool, true, false, List, [], ◌∷◌, length, Option, Some, None, refl, ◌∙◌, arith, is_some, max}
use Rattle.std.specs.Prelude.{ℤ, pos, negsuc, ◌==◌, if◌then◌else◌, ◌&&◌, slice_get, slice_set}
use Rattle.cxx_ast.specs.declared.name.Builtin.TheVariants.{WriteInt, ReadByte, Exit, Module, Cancel, Terminate, SetTerminate, SetUnexpected, Uncaught, BadException}
use Rattle.eh_outer.specs.declared.module.Reply.{Reply}
use Rattle.eh_outer.specs.declared.module.Reply.TheVariants.{Value as ValueReply, Raise}
use Rattle.run_items.specs.declared.item.Item.TheVariants.{Line, Foreign, Make}
use Rattle.meaning_forms.specs.Arithmetic.{is_zero, truth}
use Rattle.meaning_forms.specs.Outcome.{aborted}
use Rattle.region_forms.specs.Caught.{Entry, gives_back, holds_other}
use Rattle.region_forms.specs.Form.{Kinds, SlotKind, int_slot, address_slot, object_slot, help_slot, Place, Callee, defined, builtin, Value, number, load, unary, binary, call_value, Op, evaluate, store, bind, call, construct, destroy, make, throw, rethrow, enter, leave}
use Rattle.region_forms.specs.World.{Word, nothing, number_word, address_word, flying, unwinding, Frame, World, Exception, building, native, foreign, exception_in_slot, exception_at, type_at, exception_of, address_in, with_slot, with_item, object_address, written}
use Rattle.region_forms.specs.Evaluation.{Location, in_memory, in_frame, locate, address_of, words_in, value_in}
use Rattle.region_forms.specs.Effect.{Effect, goes, calls, raises, terminates, ends, cancels, leaves_newest, meaningless, effect, entered_doomed, left, newest_of, result_in, finished, flies, freed, entered, if_some, only_where, stored_at, is_full, replied, module_called, called, valued, rethrown, enters, is_foreign, with_new, kept, number_at, handler_at, byte_of, bytes_after, some_travel, int_passed_to, world_passed}
use Rattle.region_forms.specs.Unexpected.{kept_with}
use Rattle.region_forms.specs.Lives.{is_native, may_enter, may_leave, is_there, is_being_built, can_travel}
use Rattle.linear_forms.specs.Linear.{LinearOp, plain, label, jump, jump_zero, pad, jump_filter, free, resume, unexpected, return}
use Rattle.linear_forms.specs.Tables.{Cover, bare, unpadded, padded}
use Rattle.linear_forms.specs.Verdict.{Verdict, target, no_way, clean, nothing_here, pad_verdict, has_cleanup}
use Rattle.linear_forms.specs.Stub.{Function, CodeOp, linear, runtime, StubOp, leave_newest, destroy_held, call_held, begin_unexpected, check_unexpected, construct_bad, terminate_for, abort, terminating}
use Rattle.linear_forms.specs.Activation.{Code, Activation, State, Next, goes_to, finishes, by_program, fetch, look, sense, kinds, at, on, stub_frame, function_word, terminated, enters_function, fault, next_if, depth_of}
use Rattle.linear_forms.specs.Operation
use Rattle.linear_forms.specs.Operation.{performed, wanted_by, returned, returned_with, jumped_zero, holds_number, resumed, act, may_free}
use Rattle.linear_forms.specs.StubOperation
use Rattle.linear_forms.specs.StubOperation.{given_back, newest_left, is_bad, called_held, destroyed, act_stub}
use Rattle.linear_forms.specs.Search.{found}
use Rattle.linear_forms.specs.Unwinding.{pad_entered, unwound_by, unwound_at, unwound_above, unwind, doomed_by, doomed, raised_to, raise}
use Rattle.linear_forms.specs.Forced.{forced_by, forced_at, forced_above, force}
use Rattle.linear_forms.specs.Machine.{Run, over, budget, act_on, step, exec, go_on}

-- so many calls were open in what is next
abbrev pub Deep : ℕ → Next → Type 0
Deep d (goes_to m) = d ≤ m.world.deepest
Deep d (finishes e v) = d ≤ v.deepest

-- and in the worlds of an effect
abbrev DeepEffect : ℕ → Effect → Type 0
DeepEffect d (goes f v) = d ≤ v.deepest
DeepEffect d (calls p n given) = Unit {0}
DeepEffect d (raises e v) = d ≤ v.deepest
DeepEffect d (terminates h v) = d ≤ v.deepest
DeepEffect d (ends e v) = d ≤ v.deepest
DeepEffect d (cancels z v) = d ≤ v.deepest
DeepEffect d leaves_newest = Unit {0}
DeepEffect d meaningless = Unit {0}

module _ (k : Kinds) (f : Frame) (w : World) (d : ℕ) (h : d ≤ w.deepest) where
  some_deep : {A : Type 0} (x : Option A) (next : A → Effect) → ((z : A) → DeepEffect d (next z)) → DeepEffect d (if_some x next)
  some_deep None next g = tt
  some_deep (Some z) next g = g z

  where_deep : (b : Bool) (x : Effect) → DeepEffect d x → DeepEffect d (only_where b x)
  where_deep true x g = g
  where_deep false x g = tt

  stored_deep : (l : Location) (v : ℤ) (u : World) → d ≤ u.deepest → DeepEffect d (stored_at l v f u)
  stored_deep (in_memory a) v u g = where_deep (is_there u a.base) (goes f (written a v u)) g
  stored_deep (in_frame s) v u g = g

  finished_deep : (p : Option Place) (v : ℤ) (u : World) → d ≤ u.deepest → DeepEffect d (finished k p v f u)
  finished_deep None v u g = g
  finished_deep (Some p) v u g = some_deep (locate k f p) (λ l. stored_at l v f u) (λ l. stored_deep l v u g)

  full_deep : (b : Bool) (o : Option ℕ) (u : World) (x : Effect) → d ≤ u.deepest → DeepEffect d x → DeepEffect d (if b then terminates o u else x)
  full_deep true o u x g q = g
  full_deep false o u x g q = q

  replied_deep : (p : Option Place) (m : ℕ) (x : Option (List Reply)) → DeepEffect d (replied k p m x f w)
  replied_deep p m None = finished_deep p (pos 0) w h
  replied_deep p m (Some []) = finished_deep p (pos 0) w h
  replied_deep p m (Some (ValueReply v ∷ rest)) = finished_deep p v (record w { replies = slice_set w.replies m rest }) h
  replied_deep p m (Some (Raise t ∷ rest)) = full_deep (is_full w) w.installed.terminate_handler (record w { replies = slice_set w.replies m rest })
      (raises (w.last_number + 1) (with_item (Foreign (w.last_number + 1) m t) (with_new (foreign m t) (record w { replies = slice_set w.replies m rest })))) h h

  module_deep : (p : Option Place) (v : ℤ) → DeepEffect d (module_called k p v f w)
  module_deep p (negsuc m) = finished_deep p (pos 0) w h
  module_deep p (pos m) = replied_deep p m (slice_get w.replies m)

  called_deep : (c : Callee) (p : Option Place) (given : List Word) → DeepEffect d (called k c p given f w)
  called_deep (defined m) p given = tt
  called_deep (builtin WriteInt) p given = finished_deep p (pos 0) (with_item (Line (number_at given 0)) w) h
  called_deep (builtin ReadByte) p given = finished_deep p (byte_of w.input) (record w { input = bytes_after w.input }) h
  called_deep (builtin Exit) p given = h
  called_deep (builtin Module) p given = module_deep p (number_at given 0)
  called_deep (builtin Cancel) p given = h
  called_deep (builtin Terminate) p given = h
  called_deep (builtin SetTerminate) p given = finished_deep p (pos 0) (record w { installed = record (w.installed) { terminate_handler = handler_at given } }) h
  called_deep (builtin SetUnexpected) p given = finished_deep p (pos 0) (record w { installed = record (w.installed) { unexpected_handler = handler_at given } }) h
  called_deep (builtin Uncaught) p given = finished_deep p (truth (some_travel w.uncaught)) w h
  called_deep (builtin BadException) p given = tt

  value_deep : (v : Value) (p : Option Place) → DeepEffect d (if_some (value_in k f w v) (λ x. finished k p x f w))
  value_deep v p = some_deep (value_in k f w v) (λ x. finished k p x f w) (λ x. finished_deep p x w h)

  valued_deep : (v : Value) (p : Option Place) → DeepEffect d (valued k v p f w)
  valued_deep (number z) p = value_deep (number z) p
  valued_deep (load q) p = value_deep (load q) p
  valued_deep (unary o v) p = value_deep (unary o v) p
  valued_deep (binary o a b) p = value_deep (binary o a b) p
  valued_deep (call_value c args) p = some_deep _ (λ given. called k c p given f w) (λ given. called_deep c p given)

  rethrown_deep : (caught : List Entry) → DeepEffect d (rethrown caught w)
  rethrown_deep [] = h
  rethrown_deep (x ∷ xs) =
      full_deep x.again w.installed.terminate_handler w (only_where (can_travel w x.number) (raises x.number w)) h
      (where_deep (can_travel w x.number) (raises x.number w) h)

  enters_deep : (e : ℕ) → DeepEffect d (enters e f w)
  enters_deep e = where_deep (may_enter w e) _ (full_deep (is_foreign (exception_at w e) && holds_other e w.caught) w.installed.terminate_handler w (goes f (entered e w)) h h)

  effect_deep : (o : Op) → DeepEffect d (effect k o f w)
  effect_deep (evaluate v) = valued_deep v None
  effect_deep (store p v) = valued_deep v (Some p)
  effect_deep (bind s p) = some_deep (address_of k f p) (λ x. goes (with_slot s (address_word x) f) w) (λ a. h)
  effect_deep (call c args) = some_deep _ (λ given. called k c None given f w) (λ given. called_deep c None given)
  effect_deep (construct p m args) =
      some_deep (address_of k f p) (λ x. if_some (words_in k f w args) (λ y. calls None m (address_word x ∷ y)))
      (λ a. some_deep (words_in k f w args) (λ y. calls None m (address_word a ∷ y)) (λ given. tt))
  effect_deep (destroy p m) = some_deep (address_of k f p) (λ x. calls None m (address_word x ∷ [])) (λ a. tt)
  effect_deep (make s) =
      full_deep (is_full w) w.installed.terminate_handler w
      (goes (with_slot s (address_word (object_address (w.last_number + 1))) f) (with_item (Make (w.last_number + 1)) (with_new building w))) h h
  effect_deep (throw s t x) = where_deep (is_being_built w (exception_in_slot f s)) (raises (exception_in_slot f s) (kept (exception_in_slot f s) t x w)) h
  effect_deep rethrow = rethrown_deep w.caught
  effect_deep (enter s) = enters_deep (exception_in_slot f s)
  effect_deep leave = tt

passed_one : (k : SlotKind) (c s : ℕ) (x : Word) (w : World) → (int_passed_to k c s x w).deepest ≡ w.deepest
passed_one int_slot c s nothing w = refl
passed_one int_slot c s (number_word v) w = refl
passed_one int_slot c s (address_word a) w = refl
passed_one int_slot c s (flying e t) w = refl
passed_one int_slot c s (unwinding n) w = refl
passed_one address_slot c s x w = refl
passed_one object_slot c s x w = refl
passed_one help_slot c s x w = refl

passed_deep : (k : Kinds) (given : List Word) (c s : ℕ) (w : World) → (world_passed k c s given w).deepest ≡ w.deepest
passed_deep k [] c s w = refl
passed_deep k (x ∷ given) c s w = passed_deep k given c (s + 1) (int_passed_to (k s) c s x w) ∙ passed_one (k s) c s x w

at_least : (d a b : ℕ) → d ≤ a → d ≤ max a b
at_least d a b h = omega (arith, h)

either : (b : Bool) (d : ℕ) (x y : Next) → Deep d x → Deep d y → Deep d (if b then x else y)
either true d x y h g = h
either false d x y h g = g

where_defined : (b : Bool) (d : ℕ) (w : World) (x : Next) → d ≤ w.deepest → Deep d x → Deep d (next_if b w x)
where_defined true d w x h g = g
where_defined false d w x h g = h

module _ (d : ℕ) where
  terminated_deep : (o : Option ℕ) (fs : List Activation) (w : World) → d ≤ w.deepest → Deep d (terminated o fs w)
  terminated_deep o fs w h = either w.ending d (finishes (by_program aborted) w) (at terminating 0 (stub_frame (function_word o) nothing nothing) fs (record w { ending = is_some o })) h h

  pad_deep : (o : Option CodeOp) (x : Word) (n : ℤ) (f : Function) (p : ℕ) (y : Frame) (fs : List Activation) (w : World) → d ≤ w.deepest → Deep d (pad_entered o x n f p y fs w)
  pad_deep None x n f p y fs w h = h
  pad_deep (Some (runtime o)) x n f p y fs w h = h
  pad_deep (Some (linear (plain o))) x n f p y fs w h = h
  pad_deep (Some (linear (label l))) x n f p y fs w h = h
  pad_deep (Some (linear (jump l))) x n f p y fs w h = h
  pad_deep (Some (linear (jump_zero v l))) x n f p y fs w h = h
  pad_deep (Some (linear (pad o s))) x n f p y fs w h = h
  pad_deep (Some (linear (jump_filter s m l))) x n f p y fs w h = h
  pad_deep (Some (linear (free s))) x n f p y fs w h = h
  pad_deep (Some (linear (resume s))) x n f p y fs w h = h
  pad_deep (Some (linear (unexpected o s))) x n f p y fs w h = h
  pad_deep (Some (linear (return r))) x n f p y fs w h = h

  module _ (code : Code) where
    call_deep : (n : ℕ) (given : List Word) (fs : List Activation) (w : World) → d ≤ w.deepest → Deep d (enters_function code n given fs w)
    call_deep n given fs w h =
        let same = passed_deep (code.kinds_at n) given w.calls 0 w in
        at_least d (world_passed (code.kinds_at n) w.calls 0 given w).deepest (depth_of fs + 1) (omega (arith, h, same))

    by_deep : (v : Verdict) (p t e : ℕ) (f : Function) (x : Frame) (fs : List Activation) (w : World) (rest : Next) → d ≤ w.deepest → Deep d rest → Deep d (unwound_by code v p t e f x fs w rest)
    by_deep (target n) p t e f x fs w rest h g =
        either (length fs == t) d (pad_entered (fetch code f p) (flying e t) n f p x fs w) (finishes fault w) (pad_deep (fetch code f p) (flying e t) n f p x fs w h) h
    by_deep no_way p t e f x fs w rest h g = terminated_deep w.installed.terminate_handler _ w h
    by_deep clean p t e f x fs w rest h g = pad_deep (fetch code f p) (flying e t) (pos 0) f p x fs w h
    by_deep nothing_here p t e f x fs w rest h g = g

    unwound_deep : (c : Cover) (t e : ℕ) (f : Function) (x : Frame) (fs : List Activation) (w : World) (rest : Next) → d ≤ w.deepest → Deep d rest → Deep d (unwound_at code c t e f x fs w rest)
    unwound_deep bare t e f x fs w rest h g = terminated_deep w.installed.terminate_handler _ w h
    unwound_deep unpadded t e f x fs w rest h g = g
    unwound_deep (padded p chain) t e f x fs w rest h g = by_deep (pad_verdict code.rows (sense code f) chain (type_at w e)) p t e f x fs w rest h g

    above_deep : (t e : ℕ) (fs : List Activation) (w : World) → d ≤ w.deepest → Deep d (unwound_above code t e fs w)
    above_deep t e [] w h = h
    above_deep t e (a ∷ fs) w h = unwound_deep (look code a.function a.place) t e a.function a.frame fs w (unwound_above code t e fs w) h (above_deep t e fs w h)

    unwind_deep : (c : Cover) (t e : ℕ) (f : Function) (x : Frame) (fs : List Activation) (w : World) → d ≤ w.deepest → Deep d (unwind code c t e f x fs w)
    unwind_deep c t e f x fs w h = unwound_deep c t e f x fs w (unwound_above code t e fs w) h (above_deep t e fs w h)

    forced_by_deep : (b : Bool) (p : ℕ) (n : ℤ) (f : Function) (x : Frame) (fs : List Activation) (w : World) (rest : Next) → d ≤ w.deepest → Deep d rest
        → Deep d (forced_by code b p n f x fs w rest)
    forced_by_deep true p n f x fs w rest h g = pad_deep (fetch code f p) (unwinding n) (pos 0) f p x fs w h
    forced_by_deep false p n f x fs w rest h g = g

    forced_deep : (c : Cover) (n : ℤ) (f : Function) (x : Frame) (fs : List Activation) (w : World) (rest : Next) → d ≤ w.deepest → Deep d rest → Deep d (forced_at code c n f x fs w rest)
    forced_deep bare n f x fs w rest h g = terminated_deep w.installed.terminate_handler _ w h
    forced_deep unpadded n f x fs w rest h g = g
    forced_deep (padded p chain) n f x fs w rest h g = forced_by_deep (has_cleanup (sense code f) chain) p n f x fs w rest h g

    force_above_deep : (n : ℤ) (fs : List Activation) (w : World) → d ≤ w.deepest → Deep d (forced_above code n fs w)
    force_above_deep n [] w h = h
    force_above_deep n (a ∷ fs) w h = forced_deep (look code a.function a.place) n a.function a.frame fs w (forced_above code n fs w) h (force_above_deep n fs w h)

    force_deep : (c : Cover) (n : ℤ) (f : Function) (x : Frame) (fs : List Activation) (w : World) → d ≤ w.deepest → Deep d (force code c n f x fs w)
    force_deep c n f x fs w h = forced_deep c n f x fs w (forced_above code n fs w) h (force_above_deep n fs w h)

    doomed_by_deep : (e : ℕ) (x : Exception) (fs : List Activation) (w : World) → d ≤ w.deepest → Deep d (doomed_by e x fs w)
    doomed_by_deep e (native t o handlers) fs w h = terminated_deep handlers.terminate_handler fs (entered_doomed e w) h
    doomed_by_deep e building fs w h = terminated_deep w.installed.terminate_handler fs w h
    doomed_by_deep e (foreign k t) fs w h = terminated_deep w.installed.terminate_handler fs w h

    doomed_deep : (e : ℕ) (fs : List Activation) (w : World) → d ≤ w.deepest → Deep d (doomed e fs w)
    doomed_deep e fs w h = either w.ending d (finishes (by_program aborted) w) (doomed_by e (exception_at w e) fs w) h (doomed_by_deep e (exception_at w e) fs w h)

    raised_deep : (o : Option ℕ) (e : ℕ) (fs : List Activation) (w : World) (go : ℕ → Next) → d ≤ w.deepest → ((t : ℕ) → Deep d (go t)) → Deep d (raised_to o e fs w go)
    raised_deep None e fs w go h g = doomed_deep e fs w h
    raised_deep (Some t) e fs w go h g = g t

    raise_deep : (e : ℕ) (a : Activation) (fs : List Activation) (w : World) → d ≤ w.deepest → Deep d (raise code e a fs w)
    raise_deep e a fs w h =
        raised_deep (found code a.function (look code a.function a.place) (type_at w e) fs) e (a ∷ fs) w _ h
        (λ t. unwind_deep (look code a.function a.place) t e a.function a.frame fs (flies e w) h)

    settled_deep : (x : Effect) (a : Activation) (fs : List Activation) (w : World) → d ≤ w.deepest → DeepEffect d x → Deep d (Operation.settled x a fs w)
    settled_deep (goes f v) a fs w h g = g
    settled_deep (calls p n given) a fs w h g = h
    settled_deep (raises e v) a fs w h g = h
    settled_deep (terminates e v) a fs w h g = h
    settled_deep (ends e v) a fs w h g = h
    settled_deep (cancels e v) a fs w h g = h
    settled_deep leaves_newest a fs w h g = h
    settled_deep meaningless a fs w h g = h

    performed_deep : (x : Effect) (a : Activation) (fs : List Activation) (w : World) → d ≤ w.deepest → DeepEffect d x → Deep d (performed code x a fs w)
    performed_deep (goes f v) a fs w h g = g
    performed_deep (calls p n given) a fs w h g = call_deep n given (a ∷ fs) w h
    performed_deep (raises e v) a fs w h g = raise_deep e a fs v g
    performed_deep (terminates o v) a fs w h g = terminated_deep o (a ∷ fs) v g
    performed_deep (ends e v) a fs w h g = g
    performed_deep (cancels n v) a fs w h g = force_deep (look code a.function a.place) n a.function a.frame fs v g
    performed_deep leaves_newest a fs w h g = h
    performed_deep meaningless a fs w h g = h

    returned_deep : (v : ℤ) (fs : List Activation) (w : World) → d ≤ w.deepest → Deep d (returned code v fs w)
    returned_deep v [] w h = h
    returned_deep v (a ∷ fs) w h =
        settled_deep (finished (kinds code a.function) (wanted_by (fetch code a.function a.place)) v a.frame w) a fs w h
        (finished_deep (kinds code a.function) a.frame w d h (wanted_by (fetch code a.function a.place)) v w h)

    with_deep : (o : Option ℤ) (fs : List Activation) (w : World) → d ≤ w.deepest → Deep d (returned_with code o fs w)
    with_deep None fs w h = h
    with_deep (Some v) fs w h = returned_deep v fs w h

    module _ (a : Activation) (fs : List Activation) (w : World) (h : d ≤ w.deepest) where
      zero_deep : (o : Option ℤ) (l : ℕ) → Deep d (jumped_zero code o l a fs w)
      zero_deep None l = h
      zero_deep (Some v) l = either (is_zero v) d _ (on a a.frame fs w) h h

      resumed_deep : (x : Word) → Deep d (resumed code x a fs w)
      resumed_deep (flying e t) = unwind_deep (look code a.function a.place) t e a.function a.frame fs w h
      resumed_deep (unwinding n) = force_deep (look code a.function a.place) n a.function a.frame fs w h
      resumed_deep nothing = h
      resumed_deep (number_word v) = h
      resumed_deep (address_word v) = h

      act_deep : (o : LinearOp) → Deep d (act code o a fs w)
      act_deep (plain o) = performed_deep (effect (kinds code a.function) o a.frame w) a fs w h (effect_deep (kinds code a.function) a.frame w d h o)
      act_deep (label l) = h
      act_deep (jump l) = h
      act_deep (jump_zero v l) = zero_deep (value_in (kinds code a.function) a.frame w v) l
      act_deep (pad o s) = h
      act_deep (jump_filter s n l) = either (holds_number (a.frame.slots s) n) d _ (on a a.frame fs w) h h
      act_deep (free s) = where_defined (may_free a.function w (exception_in_slot a.frame s)) d w (on a a.frame fs (freed (exception_in_slot a.frame s) w)) h h
      act_deep (resume s) = resumed_deep (a.frame.slots s)
      act_deep (unexpected o s) = h
      act_deep (return r) = with_deep (result_in r a.frame w (kinds code a.function)) fs w h

      given_deep : (x : Exception) (e o s l : ℕ) (v : World) → d ≤ v.deepest → Deep d (given_back x e o s l a fs v)
      given_deep (native t x handlers) e o s l v g = g
      given_deep (foreign k t) e o s l v g = g
      given_deep building e o s l v g = g

      newest_deep : (o s l : ℕ) → Deep d (newest_left o s l a fs w)
      newest_deep o s l =
          where_defined (may_leave w w.caught) d w _ h (either (gives_back w.caught) d _ (at a.function l a.frame fs (left w))
          (given_deep (exception_at w (newest_of w.caught)) (newest_of w.caught) o s l (left w) h) h)

      empty_deep : (b : Bool) → d ≤ (if b then StubOperation.empty_call fs w else w).deepest
      empty_deep true = at_least d w.deepest (depth_of fs + 1) h
      empty_deep false = h

      destroyed_deep : (x y : Word) → Deep d (destroyed code x y a fs w)
      destroyed_deep (number_word (pos n)) y = call_deep n (y ∷ []) (a ∷ fs) w h
      destroyed_deep (number_word (negsuc n)) y = empty_deep (is_bad (type_at w (exception_of (address_in y))))
      destroyed_deep nothing y = empty_deep (is_bad (type_at w (exception_of (address_in y))))
      destroyed_deep (address_word v) y = empty_deep (is_bad (type_at w (exception_of (address_in y))))
      destroyed_deep (flying e t) y = empty_deep (is_bad (type_at w (exception_of (address_in y))))
      destroyed_deep (unwinding n) y = empty_deep (is_bad (type_at w (exception_of (address_in y))))

      held_deep : (x : Word) → Deep d (called_held code x a fs w)
      held_deep (number_word (pos n)) = call_deep n [] (a ∷ fs) w h
      held_deep (number_word (negsuc n)) = h
      held_deep nothing = h
      held_deep (address_word v) = h
      held_deep (flying e t) = h
      held_deep (unwinding n) = h

      stub_deep : (o : StubOp) → Deep d (act_stub code o a fs w)
      stub_deep (leave_newest o s l) = newest_deep o s l
      stub_deep (destroy_held s o) = destroyed_deep (a.frame.slots s) (a.frame.slots o)
      stub_deep (call_held s) = held_deep (a.frame.slots s)
      stub_deep (begin_unexpected o s) =
          let e = exception_in_slot a.frame o in
          where_defined (is_native (exception_at w e) && may_enter w e) d w
          (on a (with_slot s (function_word (kept_with (exception_at w e)).unexpected_handler) a.frame) fs (entered e w)) h h
      stub_deep (check_unexpected s f o x) = h
      stub_deep construct_bad = at_least d w.deepest (depth_of fs + 1) h
      stub_deep (terminate_for o) = terminated_deep (kept_with (exception_at w (exception_in_slot a.frame o))).terminate_handler (a ∷ fs) w h
      stub_deep abort = h

      on_deep : (o : Option CodeOp) → Deep d (act_on code o a fs w)
      on_deep None = h
      on_deep (Some (linear o)) = act_deep o
      on_deep (Some (runtime o)) = stub_deep o

-- the greatest number of open calls in a run
abbrev pub deepest_of : Run → ℕ
deepest_of (over e w) = w.deepest
deepest_of (budget w) = w.deepest

module _ (code : Code) (d : ℕ) where
  step_deep : (st : State) → d ≤ st.world.deepest → Deep d (step code st)
  step_deep st h = on_deep d code st.top st.frames st.world h (fetch code st.top.function st.top.place)

  pub run_deep : (n : ℕ) (st : State) → d ≤ st.world.deepest → d ≤ deepest_of (exec code n st)
  run_deep zero st h = h
  run_deep (suc n) st h = go (step code st) (step_deep st h) (run_deep n)
    where
      go : (x : Next) → Deep d x → ((m : State) → d ≤ m.world.deepest → d ≤ deepest_of (exec code n m)) → d ≤ deepest_of (go_on (exec code n) x)
      go (goes_to m) g rest = rest m g
      go (finishes e v) g rest = g
