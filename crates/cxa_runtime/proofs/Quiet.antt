-- No call but the one that leaves a handler tells of a cleanup.
use Rattle.std.proofs.Common.{◌≡◌, ◌∙◌, refl, sym, ap, subst, ℕ, zero, suc, ◌+◌, ◌==◌, drop, slice_get, slice_set, Bool, true, false, cond, List, [], ◌∷◌, ◌++◌, Option, Some, None, ℤ}
use Rattle.eh_bytes.specs.declared.unit.RuntimeRecord.{RuntimeRecord}
use Rattle.eh_outer.specs.Module.{ModuleView, replied as used_up, cleaned}
use Rattle.eh_outer.specs.declared.module.Reply.{Reply}
use Rattle.eh_outer.specs.declared.module.Reply.TheVariants.{Value, Raise}
use Rattle.foreign_host.specs.Host.{changed_at}
use Rattle.run_items.specs.declared.item.Item.{Item}
use Rattle.run_items.specs.declared.item.Item.TheVariants as items
use Rattle.rv64_isa.specs.State.{State}
use Rattle.table_forms.specs.Verdict.{native, foreign}
use Rattle.raise_core.specs.declared.raised.Raised.{Raised}
use Rattle.raise_core.specs.declared.raised.Raised.TheVariants as answers
use Rattle.raise_core.specs.Raise as unwinder
use Rattle.caught_stack.specs.declared.header.HeaderKind.{HeaderKind}
use Rattle.caught_stack.specs.declared.header.HeaderKind.TheVariants as kinds
use Rattle.caught_stack.specs.Exceptions.{Exceptions}
use Rattle.cxa_runtime.specs.declared.object.Object.{Object}
use Rattle.cxa_runtime.specs.World.{World, Outcome, needs, argument, a0, a1, a2, with_exceptions}
use Rattle.cxa_runtime.specs.Terminate.{terminates}
use Rattle.cxa_runtime.specs.Catch.{entered, begins_catch, is_crowded}
use Rattle.cxa_runtime.specs.MayBegin.{may_begin}
use Rattle.cxa_runtime.specs.Number.{as_int}
use Rattle.cxa_runtime.specs.Objects.{object_in, object_where, is_building, is_native, is_thrown, slot_for}
use Rattle.cxa_runtime.specs.Types.{type_records}
use Rattle.cxa_runtime.specs.Allocate.{made_in}
use Rattle.cxa_runtime.specs.Flying.{one_uncaught}
use Rattle.cxa_runtime.specs.Foreign.{foreign_made, foreign_object, raised_in, replied, asked, module_call, module_number}
use Rattle.cxa_runtime.specs.Throw.{rethrows, rethrows_object, native_object, flying}
use Rattle.cxa_runtime.specs.Unexpected.{begins_unexpected, answer_of}
use Rattle.cxa_runtime.specs.Plain.{read_from, read_byte}
use Rattle.cxa_runtime.specs.declared.call.Call.{Call}
use Rattle.cxa_runtime.specs.declared.call.Call.TheVariants as calls
use Rattle.cxa_runtime.specs.Call.{is_alone, made_call}
use Rattle.caught_stack.specs.Rethrow.{rethrown}
use Rattle.eh_outer.specs.Module.{reply_of}
use Rattle.cxa_runtime.specs.Raising.{Image, thrown_of, unhandled, raised_as, resumed_as}
use Rattle.cxa_runtime.specs.Cancel.{forced_as}
use Rattle.cxa_runtime.specs.Turns.{after_cleanups, apart_from_replies}
use Rattle.cxa_runtime.specs.Kept.{replies_of}

-- the items tell of no cleanup
abbrev pub IsQuiet : List Item → Type 0
IsQuiet shown = (ms : List ModuleView) → after_cleanups shown ms ≡ ms

abbrev pub EndsQuiet : Outcome → Type 0
EndsQuiet o = IsQuiet o.1.shown

-- nothing was shown
abbrev pub IsSilent : World → Type 0
IsSilent w = w.shown ≡ []

pub quiet_silent : (w : World) → IsSilent w → IsQuiet w.shown
quiet_silent w h ms = ap (λ s. after_cleanups s ms) h

quiet_either : (b : Bool) (x y : Outcome) → EndsQuiet x → EndsQuiet y → EndsQuiet (cond b x y)
quiet_either true x y h k = h
quiet_either false x y h k = k

pub quiet_needs : {A : Type 0} (w : World) (o : Option A) (call : A → Outcome) → IsSilent w → ((x : A) → EndsQuiet (call x)) → EndsQuiet (needs w o call)
quiet_needs w None call h k = quiet_silent w h
quiet_needs w (Some x) call h k = k x

pub quiet_terminates : (places : RuntimeRecord) (handler : ℕ) (w : World) → IsQuiet w.shown → EndsQuiet (terminates places handler w)
quiet_terminates places handler w h = quiet_either w.terminating _ _ h h

quiet_entered : (o : Object) (w : World) → IsSilent w → IsQuiet (entered o w).shown
quiet_entered o w h ms = ap (λ s. after_cleanups (s ++ items.Enter o.header.number ∷ []) ms) h

quiet_unhandled : (places : RuntimeRecord) (before : Exceptions) (o : Object) (w : World) (kind : HeaderKind) → IsSilent w → EndsQuiet (unhandled places before o w kind)
quiet_unhandled places before o w (kinds.Native type destructor) h =
    quiet_either w.terminating _ _ (quiet_terminates places o.header.handlers.0 w (quiet_silent w h)) (quiet_terminates places o.header.handlers.0 (entered o w) (quiet_entered o w h))
quiet_unhandled places before o w kinds.Building h = quiet_either w.terminating _ _ (quiet_silent w h) (quiet_silent w h)
quiet_unhandled places before o w (kinds.Foreign k token) h = quiet_either w.terminating _ _ (quiet_silent w h) (quiet_silent w h)

pub quiet_raised : (places : RuntimeRecord) (before : Exceptions) (o : Object) (w : World) (x : Raised × State) → IsSilent w → EndsQuiet (raised_as places before o w x)
quiet_raised places before o w (answers.Install pad selector cfa lsda, s) h = quiet_silent w h
quiet_raised places before o w (answers.NoHandler, s) h = quiet_unhandled places before o w o.header.kind h
quiet_raised places before o w (answers.Terminate, s) h = quiet_unhandled places before o w o.header.kind h
quiet_raised places before o w (answers.Fault kind, s) h = quiet_silent w h

-- an exception of a module is told of itself
quiet_guest : (places : RuntimeRecord) (before : Exceptions) (o : Object) (w : World) (kind : HeaderKind) (k token : ℕ) → kind ≡ kinds.Foreign k token → IsQuiet w.shown → EndsQuiet (unhandled places before o w kind)
quiet_guest places before o w kind k token is h =
    subst (λ (x : HeaderKind). EndsQuiet (unhandled places before o w x)) (sym is) (quiet_either w.terminating _ _ h h)

quiet_guest_raised : (places : RuntimeRecord) (before : Exceptions) (o : Object) (w : World) (k token : ℕ) (x : Raised × State) → o.header.kind ≡ kinds.Foreign k token → IsQuiet w.shown → EndsQuiet (raised_as places before o w x)
quiet_guest_raised places before o w k token (answers.Install pad selector cfa lsda, s) is h = h
quiet_guest_raised places before o w k token (answers.NoHandler, s) is h = quiet_guest places before o w o.header.kind k token is h
quiet_guest_raised places before o w k token (answers.Terminate, s) is h = quiet_guest places before o w o.header.kind k token is h
quiet_guest_raised places before o w k token (answers.Fault kind, s) is h = h

quiet_resumed : (places : RuntimeRecord) (o : Object) (w : World) (x : Raised × State) → IsSilent w → EndsQuiet (resumed_as places o w x)
quiet_resumed places o w (answers.Install pad selector cfa lsda, s) h = quiet_silent w h
quiet_resumed places o w (answers.NoHandler, s) h = quiet_silent w h
quiet_resumed places o w (answers.Terminate, s) h = quiet_terminates places w.terminate_handler w (quiet_silent w h)
quiet_resumed places o w (answers.Fault kind, s) h = quiet_silent w h

quiet_forced : (places : RuntimeRecord) (n : ℤ) (w : World) (x : Raised × State) → IsSilent w → EndsQuiet (forced_as places n w x)
quiet_forced places n w (answers.Install pad selector cfa lsda, s) h = quiet_silent w h
quiet_forced places n w (answers.NoHandler, s) h = quiet_silent w h
quiet_forced places n w (answers.Terminate, s) h = quiet_terminates places w.terminate_handler w (quiet_silent w h)
quiet_forced places n w (answers.Fault kind, s) h = quiet_silent w h

quiet_made : (places : RuntimeRecord) (w : World) (slot : Option ℕ) → IsSilent w → EndsQuiet (made_in places w slot)
quiet_made places w None h = quiet_terminates places w.terminate_handler w (quiet_silent w h)
quiet_made places w (Some slot) h = λ ms. ap (λ s. after_cleanups (s ++ items.Make (w.last_number + 1) ∷ []) ms) h

quiet_rethrows : (image : Image) (w : World) (x : Option ℕ × Exceptions) → IsSilent w → EndsQuiet (rethrows image w x)
quiet_rethrows image w (None, e) h = quiet_terminates image.places w.terminate_handler w (quiet_silent w h)
quiet_rethrows image w (Some slot, e) h =
    quiet_needs w (object_in w.exceptions.live slot) (rethrows_object image w e) h
    (λ o. quiet_needs w (thrown_of w.hart o.header.kind) _ h
    (λ thrown. quiet_raised image.places w.exceptions o (with_exceptions e w) (unwinder.raise image.fdes thrown w.hart) h))

quiet_raised_in : (image : Image) (w : World) (k token : ℕ) (slot : Option ℕ) → IsSilent w → EndsQuiet (raised_in image w k token slot)
quiet_raised_in image w k token None h = quiet_terminates image.places w.terminate_handler w (quiet_silent w h)
quiet_raised_in image w k token (Some slot) h =
    let made = foreign_made k token slot w in
    quiet_guest_raised image.places made.exceptions (foreign_object w k token slot) (with_exceptions (one_uncaught made.exceptions) made) k token (unwinder.raise image.fdes foreign w.hart) refl
    (λ ms. ap (λ s. after_cleanups (s ++ items.Foreign (w.last_number + 1) k token ∷ []) ms) h)

quiet_replied : (image : Image) (wish : ℕ) (w : World) (k : ℕ) (reply : Reply) → IsSilent w → EndsQuiet (replied image wish w k reply)
quiet_replied image wish w k (Value n) h = quiet_silent w h
quiet_replied image wish w k (Raise token) h = quiet_raised_in image w k token (slot_for w.exceptions.live wish) h

quiet_asked : (image : Image) (wish : ℕ) (w : World) (k : ℕ) (left : Option (List Reply)) → IsSilent w → EndsQuiet (asked image wish w k left)
quiet_asked image wish w k None h = quiet_silent w h
quiet_asked image wish w k (Some replies) h = quiet_replied image wish (record w { replies = slice_set w.replies k (drop 1 replies) }) k (reply_of replies) h

pub quiet_module : (image : Image) (wish : ℕ) (w : World) → IsSilent w → EndsQuiet (module_call image wish w)
quiet_module image wish w h = quiet_asked image wish w (module_number w) (slice_get w.replies (module_number w)) h

quiet_read : (w : World) (left : List ℕ) → IsSilent w → EndsQuiet (read_from w left)
quiet_read w [] h = quiet_silent w h
quiet_read w (b ∷ bytes) h = quiet_silent w h

pub quiet_read_byte : (w : World) → IsSilent w → EndsQuiet (read_byte w)
quiet_read_byte w h = quiet_read w w.input h

pub quiet_alone : (call : Call) (image : Image) (wish : ℕ) (w : World) → is_alone call ≡ true → IsSilent w → EndsQuiet (made_call image wish w call)
quiet_alone calls.Exit image wish w alone h = quiet_silent w h
quiet_alone calls.WriteInt image wish w alone h = λ ms. ap (λ s. after_cleanups (s ++ items.Line (as_int (argument w a0)) ∷ []) ms) h
quiet_alone calls.ReadByte image wish w alone h = absurd (cc alone)
quiet_alone calls.Allocate image wish w alone h = quiet_made image.places w (slot_for w.exceptions.live wish) h
quiet_alone calls.Free image wish w alone h =
    quiet_needs w (object_where is_building w.exceptions.live (argument w a0)) _ h (λ o ms. ap (λ s. after_cleanups (s ++ items.Free o.header.number ∷ []) ms) h)
quiet_alone calls.Throw image wish w alone h =
    quiet_needs w (object_where is_building w.exceptions.live (argument w a0)) _ h
    (λ o. quiet_needs w (type_records w.hart (argument w a1)) _ h
    (λ records. quiet_raised image.places w.exceptions (native_object w o (argument w a1) (argument w a2)) (flying (native_object w o (argument w a1) (argument w a2)) w) (unwinder.raise image.fdes (native records) w.hart) h))
quiet_alone calls.BeginCatch image wish w alone h =
    quiet_needs w (object_where is_thrown w.exceptions.live (argument w a0)) (begins_catch image.places w) h
    (λ o. quiet_either (may_begin w.exceptions o.slot) _ _ (quiet_either (is_crowded w o) _ _ (quiet_terminates image.places w.terminate_handler w (quiet_silent w h)) (quiet_entered o w h)) (quiet_silent w h))
quiet_alone calls.EndCatch image wish w alone h = absurd (cc alone)
quiet_alone calls.Rethrow image wish w alone h = quiet_rethrows image w (rethrown w.exceptions) h
quiet_alone calls.Resume image wish w alone h =
    quiet_either (argument w a0 == 0) _ _
    (quiet_needs w w.unwinding _ h (λ n. quiet_forced image.places n w (unwinder.forced_unwind image.fdes w.hart) h))
    (quiet_needs w (object_where is_thrown w.exceptions.live (argument w a0)) _ h
    (λ o. quiet_needs w (thrown_of w.hart o.header.kind) _ h (λ thrown. quiet_resumed image.places o w (unwinder.resume image.fdes thrown o.header.target w.hart) h)))
quiet_alone calls.UncaughtException image wish w alone h = quiet_silent w h
quiet_alone calls.SetTerminate image wish w alone h = quiet_silent w h
quiet_alone calls.SetUnexpected image wish w alone h = quiet_silent w h
quiet_alone calls.Terminate image wish w alone h = quiet_terminates image.places w.terminate_handler w (quiet_silent w h)
quiet_alone calls.Module image wish w alone h = absurd (cc alone)
quiet_alone calls.Cancel image wish w alone h =
    quiet_forced image.places (as_int (argument w a0)) (record w { unwinding = Some (as_int (argument w a0)) }) (unwinder.forced_unwind image.fdes w.hart) h
quiet_alone calls.Abort image wish w alone h = quiet_silent w h
quiet_alone calls.Stack image wish w alone h = quiet_silent w h
quiet_alone calls.UnexpectedBegin image wish w alone h =
    quiet_needs w (object_where is_native w.exceptions.live (argument w a0)) (begins_unexpected w) h
    (λ o. quiet_either (may_begin w.exceptions o.slot) _ _ (quiet_entered o w h) (quiet_silent w h))
quiet_alone calls.UnexpectedCheck image wish w alone h = quiet_needs w (answer_of image w) _ h (λ n. quiet_silent w h)
quiet_alone calls.TerminateFor image wish w alone h =
    quiet_needs w (object_where is_native w.exceptions.live (argument w a0)) _ h (λ o. quiet_terminates image.places o.header.handlers.0 w (quiet_silent w h))

-- a cleanup leaves the replies
cleaned_at : (ms : List ModuleView) (k token : ℕ) → replies_of (changed_at k (λ seen. cleaned seen token) ms) ≡ replies_of ms
cleaned_at [] k token = refl
cleaned_at (m ∷ ms) zero token = refl
cleaned_at (m ∷ ms) (suc k) token = ap (λ r. m.rest ∷ r) (cleaned_at ms k token)

pub cleaned_replies : (shown : List Item) (ms : List ModuleView) → replies_of (after_cleanups shown ms) ≡ replies_of ms
cleaned_replies [] ms = refl
cleaned_replies (items.Line n ∷ more) ms = cleaned_replies more ms
cleaned_replies (items.Make n ∷ more) ms = cleaned_replies more ms
cleaned_replies (items.Foreign n k token ∷ more) ms = cleaned_replies more ms
cleaned_replies (items.Enter n ∷ more) ms = cleaned_replies more ms
cleaned_replies (items.Leave n ∷ more) ms = cleaned_replies more ms
cleaned_replies (items.Destroy n ∷ more) ms = cleaned_replies more ms
cleaned_replies (items.Free n ∷ more) ms = cleaned_replies more ms
cleaned_replies (items.Clean k token ∷ more) ms = cleaned_replies more (changed_at k (λ seen. cleaned seen token) ms) ∙ cleaned_at ms k token

-- a reply that is used up leaves all but the replies
pub used_apart : (ms : List ModuleView) (k : ℕ) → apart_from_replies (changed_at k used_up ms) ≡ apart_from_replies ms
used_apart [] k = refl
used_apart (m ∷ ms) zero = refl
used_apart (m ∷ ms) (suc k) = ap (λ r. record m { rest = [] } ∷ r) (used_apart ms k)

-- the calls that ask for something are three
pub alone_else : (call : Call) → (call ≡ calls.ReadByte → ⊥) → (call ≡ calls.EndCatch → ⊥) → (call ≡ calls.Module → ⊥) → is_alone call ≡ true
alone_else calls.ReadByte r e m = absurd (r refl)
alone_else calls.EndCatch r e m = absurd (e refl)
alone_else calls.Module r e m = absurd (m refl)
alone_else calls.Exit r e m = refl
alone_else calls.WriteInt r e m = refl
alone_else calls.Allocate r e m = refl
alone_else calls.Free r e m = refl
alone_else calls.Throw r e m = refl
alone_else calls.BeginCatch r e m = refl
alone_else calls.Rethrow r e m = refl
alone_else calls.Resume r e m = refl
alone_else calls.UncaughtException r e m = refl
alone_else calls.SetTerminate r e m = refl
alone_else calls.SetUnexpected r e m = refl
alone_else calls.Terminate r e m = refl
alone_else calls.Cancel r e m = refl
alone_else calls.Abort r e m = refl
alone_else calls.Stack r e m = refl
alone_else calls.UnexpectedBegin r e m = refl
alone_else calls.UnexpectedCheck r e m = refl
alone_else calls.TerminateFor r e m = refl
