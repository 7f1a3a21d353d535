-- What each call makes of the foreign exceptions that are live, and shows of them.
use Rattle.std.proofs.Common.{◌≡◌, ◌∙◌, refl, sym, ap, subst, ℕ, zero, suc, ◌+◌, ◌==◌, drop, slice_get, slice_set, Bool, true, false, cond, List, [], ◌∷◌, ◌++◌, Option, Some, None, ℤ, pos, negsuc, arith}
use Rattle.eh_bytes.specs.declared.unit.RuntimeRecord.{RuntimeRecord}
use Rattle.eh_outer.specs.Module.{reply_of}
use Rattle.eh_outer.specs.declared.module.Reply.{Reply}
use Rattle.eh_outer.specs.declared.module.Reply.TheVariants.{Value, Raise}
use Rattle.run_items.specs.declared.item.Item.TheVariants as items
use Rattle.rv64_isa.specs.State.{State}
use Rattle.table_forms.specs.Verdict.{native, foreign}
use Rattle.raise_core.specs.declared.raised.Raised.{Raised}
use Rattle.raise_core.specs.declared.raised.Raised.TheVariants as answers
use Rattle.raise_core.specs.Raise as unwinder
use Rattle.caught_stack.specs.declared.ended.Ended.{Ended}
use Rattle.caught_stack.specs.declared.ended.Ended.TheVariants.{Last, Active, Travelling}
use Rattle.caught_stack.specs.declared.header.HeaderKind.{HeaderKind}
use Rattle.caught_stack.specs.declared.header.HeaderKind.TheVariants as kinds
use Rattle.caught_stack.specs.Caught.{Caught}
use Rattle.caught_stack.specs.End.{ended}
use Rattle.caught_stack.specs.Exceptions.{Exceptions}
use Rattle.caught_stack.specs.Live.{header_of}
use Rattle.caught_stack.specs.Rethrow.{rethrown, rethrown_on}
use Rattle.caught_stack.proofs.Headers.{header_changed}
use Rattle.cxa_runtime.specs.declared.call.Call.{Call}
use Rattle.cxa_runtime.specs.declared.call.Call.TheVariants as calls
use Rattle.cxa_runtime.specs.declared.effect.Effect.TheVariants.{Goes}
use Rattle.cxa_runtime.specs.declared.object.Object.{Object}
use Rattle.cxa_runtime.specs.Allocate.{made_in, new_header}
use Rattle.cxa_runtime.specs.Call.{call_effect, made_call, numbered}
use Rattle.cxa_runtime.specs.Cancel.{forced_as}
use Rattle.cxa_runtime.specs.Catch.{begins_catch, entered, is_crowded, leaves, told}
use Rattle.cxa_runtime.specs.Flying.{one_uncaught}
use Rattle.cxa_runtime.specs.Foreign.{asked, foreign_made, foreign_object, module_number, raised_in, replied}
use Rattle.cxa_runtime.specs.Laws.{is_of, kind_counts, slot_counts}
use Rattle.cxa_runtime.specs.Leaving.{building_again, left_by, let_go, newest_object}
use Rattle.cxa_runtime.specs.MayBegin.{may_begin}
use Rattle.cxa_runtime.specs.Number.{as_int}
use Rattle.cxa_runtime.specs.Objects.{is_building, is_native, is_thrown, object_in, object_where, slot_for}
use Rattle.cxa_runtime.specs.Plain.{read_from}
use Rattle.cxa_runtime.specs.Raising.{Image, raised_as, resumed_as, thrown_of, unhandled}
use Rattle.cxa_runtime.specs.Terminate.{terminates}
use Rattle.cxa_runtime.specs.Throw.{flying, native_object, rethrows, rethrows_object}
use Rattle.cxa_runtime.specs.Types.{type_records}
use Rattle.cxa_runtime.specs.Unexpected.{answer_of, begins_unexpected}
use Rattle.cxa_runtime.specs.World.{World, Outcome, argument, a0, a1, a2, needs, shows, with_exceptions}
use Rattle.cxa_runtime.proofs.Changes.{below_of, newest_known, object_known}
use Rattle.cxa_runtime.proofs.ForeignCounts.{EndsFit, Fits, fits_set, fits_shown, fits_told, slot_building, slot_known, where_known}

-- what calls are made of
fits_either : (k token x : ℕ) (b : Bool) (y z : Outcome) → EndsFit k token x y → EndsFit k token x z → EndsFit k token x (cond b y z)
fits_either k token x true y z f g = f
fits_either k token x false y z f g = g

fits_needs : {A : Type 0} (k token x : ℕ) (w : World) (o : Option A) (call : A → Outcome) → EndsFit k token x (Goes, w) →
    ((a : A) → o ≡ Some a → EndsFit k token x (call a)) → EndsFit k token x (needs w o call)
fits_needs k token x w None call f g = f
fits_needs k token x w (Some a) call f g = g a refl

fits_terminates : (k token x : ℕ) (places : RuntimeRecord) (handler : ℕ) (w : World) → EndsFit k token x (Goes, w) → EndsFit k token x (terminates places handler w)
fits_terminates k token x places handler w f = fits_either k token x w.terminating _ _ f f

fits_entered : (k token x : ℕ) (o : Object) (w : World) → EndsFit k token x (Goes, w) → EndsFit k token x (Goes, entered o w)
fits_entered k token x o w f = fits_shown k token x w.exceptions.live w.shown (items.Enter o.header.number) refl refl f

fits_unhandled : (k token x : ℕ) (places : RuntimeRecord) (before : Exceptions) (o : Object) (w : World) (kind : HeaderKind) → EndsFit k token x (Goes, w) →
    EndsFit k token x (unhandled places before o w kind)
fits_unhandled k token x places before o w (kinds.Native type destructor) f =
    fits_either k token x w.terminating _ _ (fits_terminates k token x places o.header.handlers.0 w f)
    (fits_terminates k token x places o.header.handlers.0 (entered o w) (fits_entered k token x o w f))
fits_unhandled k token x places before o w kinds.Building f = fits_either k token x w.terminating _ _ f f
fits_unhandled k token x places before o w (kinds.Foreign j t) f = fits_either k token x w.terminating _ _ f f

fits_raised : (k token x : ℕ) (places : RuntimeRecord) (before : Exceptions) (o : Object) (w : World) (answer : Raised × State) →
    header_of w.exceptions.live o.slot ≡ Some o.header → EndsFit k token x (Goes, w) → EndsFit k token x (raised_as places before o w answer)
fits_raised k token x places before o w (answers.Install pad selector cfa lsda, s) at f =
    fits_set k token x w.exceptions.live w.shown o.slot _ (below_of w.exceptions.live o.slot o.header at) (ap (slot_counts k token) at) f
fits_raised k token x places before o w (answers.NoHandler, s) at f = fits_unhandled k token x places before o w o.header.kind f
fits_raised k token x places before o w (answers.Terminate, s) at f = fits_unhandled k token x places before o w o.header.kind f
fits_raised k token x places before o w (answers.Fault kind, s) at f = f

fits_resumed : (k token x : ℕ) (places : RuntimeRecord) (o : Object) (w : World) (answer : Raised × State) → EndsFit k token x (Goes, w) →
    EndsFit k token x (resumed_as places o w answer)
fits_resumed k token x places o w (answers.Install pad selector cfa lsda, s) f = f
fits_resumed k token x places o w (answers.NoHandler, s) f = f
fits_resumed k token x places o w (answers.Terminate, s) f = fits_terminates k token x places w.terminate_handler w f
fits_resumed k token x places o w (answers.Fault kind, s) f = f

fits_forced : (k token x : ℕ) (places : RuntimeRecord) (n : ℤ) (w : World) (answer : Raised × State) → EndsFit k token x (Goes, w) →
    EndsFit k token x (forced_as places n w answer)
fits_forced k token x places n w (answers.Install pad selector cfa lsda, s) f = f
fits_forced k token x places n w (answers.NoHandler, s) f = f
fits_forced k token x places n w (answers.Terminate, s) f = fits_terminates k token x places w.terminate_handler w f
fits_forced k token x places n w (answers.Fault kind, s) f = f

-- the calls
fits_made_in : (k token x : ℕ) (places : RuntimeRecord) (w : World) (wish : ℕ) (slot : Option ℕ) → slot_for w.exceptions.live wish ≡ slot →
    EndsFit k token x (Goes, w) → EndsFit k token x (made_in places w slot)
fits_made_in k token x places w wish None h f = fits_terminates k token x places w.terminate_handler w f
fits_made_in k token x places w wish (Some slot) h f =
    let known = slot_known k token w.exceptions.live wish slot f.0 h in
    fits_shown k token x _ w.shown (items.Make (w.last_number + 1)) refl refl
    (fits_set k token x w.exceptions.live w.shown slot (Some (new_header (w.last_number + 1) kinds.Building)) known.0 known.1 f)

fits_raised_in : (k token x : ℕ) (image : Image) (w : World) (j t wish : ℕ) (slot : Option ℕ) → slot_for w.exceptions.live wish ≡ slot →
    EndsFit k token x (Goes, w) → EndsFit k token x (raised_in image w j t slot)
fits_raised_in k token x image w j t wish None h f = fits_terminates k token x image.places w.terminate_handler w f
fits_raised_in k token x image w j t wish (Some slot) h f =
    let known = slot_known k token w.exceptions.live wish slot f.0 h in
    let made = foreign_made j t slot w in
    let o = foreign_object w j t slot in
    fits_raised k token x image.places made.exceptions o (with_exceptions (one_uncaught made.exceptions) made) (unwinder.raise image.fdes foreign w.hart)
    (header_changed w.exceptions.live slot (Some o.header) known.0)
    (fits_told k token x w.exceptions.live w.shown slot (Some o.header) (items.Foreign (w.last_number + 1) j t)
    0 (cond (is_of k token j t) 1 0) (cond (is_of k token j t) 1 0 + 0) 0 known.0 known.1 refl refl refl (omega arith) f)

fits_replied : (k token x : ℕ) (image : Image) (wish : ℕ) (w : World) (j : ℕ) (reply : Reply) → EndsFit k token x (Goes, w) →
    EndsFit k token x (replied image wish w j reply)
fits_replied k token x image wish w j (Value n) f = f
fits_replied k token x image wish w j (Raise t) f = fits_raised_in k token x image w j t wish (slot_for w.exceptions.live wish) refl f

fits_asked : (k token x : ℕ) (image : Image) (wish : ℕ) (w : World) (j : ℕ) (left : Option (List Reply)) → EndsFit k token x (Goes, w) →
    EndsFit k token x (asked image wish w j left)
fits_asked k token x image wish w j None f = f
fits_asked k token x image wish w j (Some replies) f =
    fits_replied k token x image wish (record w { replies = slice_set w.replies j (drop 1 replies) }) j (reply_of replies) f

fits_read : (k token x : ℕ) (w : World) (left : List ℕ) → EndsFit k token x (Goes, w) → EndsFit k token x (read_from w left)
fits_read k token x w [] f = f
fits_read k token x w (b ∷ bytes) f = f

rethrown_live : (caught : Caught) (e : Exceptions) → (rethrown_on caught e).1.live ≡ e.live
rethrown_live [] e = refl
rethrown_live ((slot, pos zero) ∷ more) e = refl
rethrown_live ((slot, pos (suc n)) ∷ more) e = refl
rethrown_live ((slot, negsuc n) ∷ more) e = refl

fits_rethrows : (k token x : ℕ) (image : Image) (w : World) (r : Option ℕ × Exceptions) → r.1.live ≡ w.exceptions.live → EndsFit k token x (Goes, w) →
    EndsFit k token x (rethrows image w r)
fits_rethrows k token x image w (None, e) same f = fits_terminates k token x image.places w.terminate_handler w f
fits_rethrows k token x image w (Some slot, e) same f =
    fits_needs k token x w (object_in w.exceptions.live slot) (rethrows_object image w e) f
    (λ o found. fits_needs k token x w (thrown_of w.hart o.header.kind) _ f
    (λ thrown read.
    let known = object_known slot (header_of w.exceptions.live slot) o found in
    let at = ap (header_of w.exceptions.live) (sym known.0) ∙ known.1 in
    fits_raised k token x image.places w.exceptions o (with_exceptions e w) (unwinder.raise image.fdes thrown w.hart)
    (ap (λ live. header_of live o.slot) same ∙ at)
    (subst (λ live. Fits k token x live w.shown) (sym same) f)))

fits_throw : (k token x : ℕ) (image : Image) (w : World) (o : Object) (type destructor : ℕ) (records : List ℕ) →
    header_of w.exceptions.live o.slot ≡ Some o.header → is_building o.header.kind ≡ true → EndsFit k token x (Goes, w) →
    EndsFit k token x (raised_as image.places w.exceptions (native_object w o type destructor) (flying (native_object w o type destructor) w) (unwinder.raise image.fdes (native records) w.hart))
fits_throw k token x image w o type destructor records at b f =
    let new = native_object w o type destructor in
    let low = below_of w.exceptions.live o.slot o.header at in
    fits_raised k token x image.places w.exceptions new (flying new w) (unwinder.raise image.fdes (native records) w.hart)
    (header_changed w.exceptions.live o.slot (Some new.header) low)
    (fits_set k token x w.exceptions.live w.shown o.slot (Some new.header) low (slot_building k token w.exceptions.live o.slot o.header at b) f)

-- an exception that no handler has any more, behind the item that tells of the leaving
fits_let_go : (k token x : ℕ) (o : Object) (kind : HeaderKind) (e : Exceptions) (w : World) → o.header.kind ≡ kind → header_of e.live o.slot ≡ Some o.header →
    Fits k token x e.live w.shown → EndsFit k token x (Goes, told o kind (with_exceptions (let_go o kind e) w))
fits_let_go k token x o kinds.Building e w is at f = f
fits_let_go k token x o (kinds.Native type destructor) e w is at f =
    let low = below_of e.live o.slot o.header at in
    fits_shown k token x _ w.shown (items.Destroy o.header.number) refl refl
    (fits_set k token x e.live w.shown o.slot (Some (building_again o.header)) low (ap (slot_counts k token) at ∙ ap (kind_counts k token) is) f)
fits_let_go k token x o (kinds.Foreign j t) e w is at f =
    let low = below_of e.live o.slot o.header at in
    let counts : slot_counts k token (header_of e.live o.slot) ≡ cond (is_of k token j t) 1 0 = ap (slot_counts k token) at ∙ ap (kind_counts k token) is in
    fits_told k token x e.live w.shown o.slot None (items.Clean j t)
    (cond (is_of k token j t) 1 0) 0 0 (cond (is_of k token j t) 1 0 + 0) low counts refl refl refl (omega arith) f

fits_left : (k token x : ℕ) (o : Object) (left : Ended) (e : Exceptions) (w : World) → e.live ≡ w.exceptions.live → header_of w.exceptions.live o.slot ≡ Some o.header →
    EndsFit k token x (Goes, w) → EndsFit k token x (leaves o w (left_by o (Some left, e)))
fits_left k token x o (Last slot) e w same at f =
    fits_let_go k token x o o.header.kind e (shows (items.Leave o.header.number) w) refl (ap (λ live. header_of live o.slot) same ∙ at)
    (fits_shown k token x e.live w.shown (items.Leave o.header.number) refl refl (subst (λ live. Fits k token x live w.shown) (sym same) f))
fits_left k token x o (Active slot) e w same at f =
    fits_shown k token x e.live w.shown (items.Leave o.header.number) refl refl (subst (λ live. Fits k token x live w.shown) (sym same) f)
fits_left k token x o (Travelling slot) e w same at f =
    fits_shown k token x e.live w.shown (items.Leave o.header.number) refl refl (subst (λ live. Fits k token x live w.shown) (sym same) f)

fits_leaves : (k token x : ℕ) (o : Object) (left : Option Ended) (e : Exceptions) (w : World) → e.live ≡ w.exceptions.live → header_of w.exceptions.live o.slot ≡ Some o.header →
    EndsFit k token x (Goes, w) → EndsFit k token x (leaves o w (left_by o (left, e)))
fits_leaves k token x o None e w same at f = f
fits_leaves k token x o (Some left) e w same at f = fits_left k token x o left e w same at f

fits_call : (k token x : ℕ) (image : Image) (wish : ℕ) (w : World) (call : Call) → EndsFit k token x (Goes, w) → EndsFit k token x (made_call image wish w call)
fits_call k token x image wish w calls.Exit f = f
fits_call k token x image wish w calls.WriteInt f = fits_shown k token x w.exceptions.live w.shown (items.Line (as_int (argument w a0))) refl refl f
fits_call k token x image wish w calls.ReadByte f = fits_read k token x w w.input f
fits_call k token x image wish w calls.Allocate f = fits_made_in k token x image.places w wish (slot_for w.exceptions.live wish) refl f
fits_call k token x image wish w calls.Free f =
    fits_needs k token x w (object_where is_building w.exceptions.live (argument w a0)) _ f
    (λ o found.
    let known = where_known is_building w.exceptions.live (argument w a0) o found in
    let low = below_of w.exceptions.live o.slot o.header known.0 in
    fits_set k token x w.exceptions.live (w.shown ++ items.Free o.header.number ∷ []) o.slot None low (slot_building k token w.exceptions.live o.slot o.header known.0 known.1)
    (fits_shown k token x w.exceptions.live w.shown (items.Free o.header.number) refl refl f))
fits_call k token x image wish w calls.Throw f =
    fits_needs k token x w (object_where is_building w.exceptions.live (argument w a0)) _ f
    (λ o found. fits_needs k token x w (type_records w.hart (argument w a1)) _ f
    (λ records read.
    let known = where_known is_building w.exceptions.live (argument w a0) o found in
    fits_throw k token x image w o (argument w a1) (argument w a2) records known.0 known.1 f))
fits_call k token x image wish w calls.BeginCatch f =
    fits_needs k token x w (object_where is_thrown w.exceptions.live (argument w a0)) (begins_catch image.places w) f
    (λ o found. fits_either k token x (may_begin w.exceptions o.slot) _ _
    (fits_either k token x (is_crowded w o) _ _ (fits_terminates k token x image.places w.terminate_handler w f) (fits_entered k token x o w f)) f)
fits_call k token x image wish w calls.EndCatch f =
    fits_needs k token x w (newest_object w.exceptions) (λ o. leaves o w (left_by o (ended w.exceptions))) f
    (λ o found. fits_leaves k token x o (ended w.exceptions).0 (ended w.exceptions).1 w refl (newest_known w.exceptions o found).1 f)
fits_call k token x image wish w calls.Rethrow f = fits_rethrows k token x image w (rethrown w.exceptions) (rethrown_live w.exceptions.caught w.exceptions) f
fits_call k token x image wish w calls.Resume f =
    fits_either k token x (argument w a0 == 0) _ _
    (fits_needs k token x w w.unwinding _ f (λ n on. fits_forced k token x image.places n w (unwinder.forced_unwind image.fdes w.hart) f))
    (fits_needs k token x w (object_where is_thrown w.exceptions.live (argument w a0)) _ f
    (λ o found. fits_needs k token x w (thrown_of w.hart o.header.kind) _ f
    (λ thrown read. fits_resumed k token x image.places o w (unwinder.resume image.fdes thrown o.header.target w.hart) f)))
fits_call k token x image wish w calls.UncaughtException f = f
fits_call k token x image wish w calls.SetTerminate f = f
fits_call k token x image wish w calls.SetUnexpected f = f
fits_call k token x image wish w calls.Terminate f = fits_terminates k token x image.places w.terminate_handler w f
fits_call k token x image wish w calls.Module f = fits_asked k token x image wish w (module_number w) (slice_get w.replies (module_number w)) f
fits_call k token x image wish w calls.Cancel f =
    fits_forced k token x image.places (as_int (argument w a0)) (record w { unwinding = Some (as_int (argument w a0)) }) (unwinder.forced_unwind image.fdes w.hart) f
fits_call k token x image wish w calls.Abort f = f
fits_call k token x image wish w calls.Stack f = f
fits_call k token x image wish w calls.UnexpectedBegin f =
    fits_needs k token x w (object_where is_native w.exceptions.live (argument w a0)) (begins_unexpected w) f
    (λ o found. fits_either k token x (may_begin w.exceptions o.slot) _ _ (fits_entered k token x o w f) f)
fits_call k token x image wish w calls.UnexpectedCheck f = fits_needs k token x w (answer_of image w) _ f (λ n found. f)
fits_call k token x image wish w calls.TerminateFor f =
    fits_needs k token x w (object_where is_native w.exceptions.live (argument w a0)) _ f
    (λ o found. fits_terminates k token x image.places o.header.handlers.0 w f)

pub fits_effect : (k token x n : ℕ) (image : Image) (wish : ℕ) (w : World) → EndsFit k token x (Goes, w) → EndsFit k token x (call_effect n image wish w)
unfolding call_effect
fits_effect k token x n image wish w f = fits_needs k token x w (numbered n) (made_call image wish w) f (λ call is. fits_call k token x image wish w call f)
