-- No runtime call writes memory, and a step of the hart writes none that may not be written.
use Rattle.std.proofs.Common.{◌≡◌, ◌∙◌, refl, sym, ap, ℕ, zero, suc, ◌+◌, ◌==◌, drop, slice_get, slice_set, Bool, true, false, cond, List, [], ◌∷◌, Option, Some, None, ℤ}
use Rattle.eh_bytes.specs.declared.unit.RuntimeRecord.{RuntimeRecord}
use Rattle.eh_outer.specs.Module.{reply_of}
use Rattle.eh_outer.specs.declared.module.Reply.{Reply}
use Rattle.eh_outer.specs.declared.module.Reply.TheVariants.{Value, Raise}
use Rattle.run_items.specs.declared.item.Item.{Item}
use Rattle.rv64_isa.specs.State.{State, Part}
use Rattle.rv64_isa.specs.Step.{step_of}
use Rattle.rv64_isa.specs.declared.step.Step.{Step}
use Rattle.rv64_isa.specs.declared.step.Step.TheVariants as steps
use Rattle.table_forms.specs.Verdict.{native, foreign}
use Rattle.raise_core.specs.declared.raised.Raised.{Raised}
use Rattle.raise_core.specs.declared.raised.Raised.TheVariants as answers
use Rattle.raise_core.specs.Raise as unwinder
use Rattle.caught_stack.specs.declared.ended.Ended.{Ended}
use Rattle.caught_stack.specs.declared.ended.Ended.TheVariants.{Last, Active, Travelling}
use Rattle.caught_stack.specs.declared.header.HeaderKind.{HeaderKind}
use Rattle.caught_stack.specs.declared.header.HeaderKind.TheVariants as kinds
use Rattle.caught_stack.specs.End.{ended}
use Rattle.caught_stack.specs.Exceptions.{Exceptions}
use Rattle.caught_stack.specs.Rethrow.{rethrown}
use Rattle.cxa_runtime.specs.declared.call.Call.{Call}
use Rattle.cxa_runtime.specs.declared.call.Call.TheVariants as calls
use Rattle.cxa_runtime.specs.declared.effect.Effect.TheVariants.{Goes, Exits, Aborts, Overflows, Fails}
use Rattle.cxa_runtime.specs.declared.object.Object.{Object}
use Rattle.cxa_runtime.specs.Allocate.{made_in}
use Rattle.cxa_runtime.specs.Call.{call_effect, made_call, numbered}
use Rattle.cxa_runtime.specs.Cancel.{forced_as}
use Rattle.cxa_runtime.specs.Catch.{begins_catch, entered, is_crowded, leaves, left_as, told}
use Rattle.cxa_runtime.specs.Flying.{one_uncaught}
use Rattle.cxa_runtime.specs.Foreign.{asked, foreign_made, foreign_object, module_number, raised_in, replied}
use Rattle.cxa_runtime.specs.Frozen.{frozen}
use Rattle.cxa_runtime.specs.Leaving.{left_by, newest_object}
use Rattle.cxa_runtime.specs.MayBegin.{may_begin}
use Rattle.cxa_runtime.specs.Number.{as_int}
use Rattle.cxa_runtime.specs.Objects.{is_building, is_native, is_thrown, object_in, object_where, slot_for}
use Rattle.cxa_runtime.specs.Plain.{read_from}
use Rattle.cxa_runtime.specs.Raising.{Image, raised_as, resumed_as, thrown_of, unhandled}
use Rattle.cxa_runtime.specs.Run.{Turned, Ran, and_more, called, run, stepped, turn}
use Rattle.cxa_runtime.specs.Terminate.{terminates}
use Rattle.cxa_runtime.specs.Throw.{flying, native_object, rethrows, rethrows_object}
use Rattle.cxa_runtime.specs.Types.{type_records}
use Rattle.cxa_runtime.specs.Unexpected.{answer_of, begins_unexpected}
use Rattle.cxa_runtime.specs.World.{World, Outcome, argument, a0, a1, a2, needs, with_exceptions}
use Rattle.cxa_runtime.specs.declared.effect.Turn.TheVariants.{On, Ended as EndedTurn}
use Rattle.cxa_runtime.proofs.Frozen.{step_keeps_frozen}
use Rattle.machine_pieces.specs.Turning.{with_items}
use Rattle.runtime_invariant.specs.Memory.{KeepsMemory, RunsKeepMemory}
use Rattle.runtime_invariant.proofs.Unwinding.{raise_leaves, resume_leaves, forced_leaves}

-- what comes of a call has this memory
abbrev Has : List Part → Outcome → Type 0
Has m o = o.1.hart.memory ≡ m

-- ---- what calls are made of

has_either : (m : List Part) (b : Bool) (y z : Outcome) → Has m y → Has m z → Has m (cond b y z)
has_either m true y z f g = f
has_either m false y z f g = g

has_needs : {A : Type 0} (m : List Part) (w : World) (o : Option A) (call : A → Outcome) → w.hart.memory ≡ m → ((a : A) → Has m (call a)) → Has m (needs w o call)
has_needs m w None call f g = f
has_needs m w (Some a) call f g = g a

has_terminates : (m : List Part) (places : RuntimeRecord) (handler : ℕ) (w : World) → w.hart.memory ≡ m → Has m (terminates places handler w)
has_terminates m places handler w f = has_either m w.terminating _ _ f f

has_unhandled : (m : List Part) (places : RuntimeRecord) (before : Exceptions) (o : Object) (w : World) (kind : HeaderKind) → w.hart.memory ≡ m → Has m (unhandled places before o w kind)
has_unhandled m places before o w (kinds.Native type destructor) f =
    has_either m w.terminating _ _ (has_terminates m places o.header.handlers.0 w f) (has_terminates m places o.header.handlers.0 (entered o w) f)
has_unhandled m places before o w kinds.Building f = has_either m w.terminating _ _ f f
has_unhandled m places before o w (kinds.Foreign j t) f = has_either m w.terminating _ _ f f

has_raised : (m : List Part) (places : RuntimeRecord) (before : Exceptions) (o : Object) (w : World) (answer : Raised × State) → answer.1.memory ≡ m → w.hart.memory ≡ m → Has m (raised_as places before o w answer)
has_raised m places before o w (answers.Install pad selector cfa lsda, s) g f = g
has_raised m places before o w (answers.NoHandler, s) g f = has_unhandled m places before o w o.header.kind f
has_raised m places before o w (answers.Terminate, s) g f = has_unhandled m places before o w o.header.kind f
has_raised m places before o w (answers.Fault kind, s) g f = f

has_resumed : (m : List Part) (places : RuntimeRecord) (o : Object) (w : World) (answer : Raised × State) → answer.1.memory ≡ m → w.hart.memory ≡ m → Has m (resumed_as places o w answer)
has_resumed m places o w (answers.Install pad selector cfa lsda, s) g f = g
has_resumed m places o w (answers.NoHandler, s) g f = f
has_resumed m places o w (answers.Terminate, s) g f = has_terminates m places w.terminate_handler w f
has_resumed m places o w (answers.Fault kind, s) g f = f

has_forced : (m : List Part) (places : RuntimeRecord) (n : ℤ) (w : World) (answer : Raised × State) → answer.1.memory ≡ m → w.hart.memory ≡ m → Has m (forced_as places n w answer)
has_forced m places n w (answers.Install pad selector cfa lsda, s) g f = g
has_forced m places n w (answers.NoHandler, s) g f = f
has_forced m places n w (answers.Terminate, s) g f = has_terminates m places w.terminate_handler w f
has_forced m places n w (answers.Fault kind, s) g f = f

-- ---- the calls

has_made_in : (m : List Part) (places : RuntimeRecord) (w : World) (slot : Option ℕ) → w.hart.memory ≡ m → Has m (made_in places w slot)
has_made_in m places w None f = has_terminates m places w.terminate_handler w f
has_made_in m places w (Some slot) f = f

has_raised_in : (m : List Part) (image : Image) (w : World) (j t : ℕ) (slot : Option ℕ) → w.hart.memory ≡ m → Has m (raised_in image w j t slot)
has_raised_in m image w j t None f = has_terminates m image.places w.terminate_handler w f
has_raised_in m image w j t (Some slot) f =
    let made = foreign_made j t slot w in
    has_raised m image.places made.exceptions (foreign_object w j t slot) (with_exceptions (one_uncaught made.exceptions) made) (unwinder.raise image.fdes foreign w.hart) (raise_leaves image.fdes foreign w.hart ∙ f) f

has_replied : (m : List Part) (image : Image) (wish : ℕ) (w : World) (j : ℕ) (reply : Reply) → w.hart.memory ≡ m → Has m (replied image wish w j reply)
has_replied m image wish w j (Value n) f = f
has_replied m image wish w j (Raise t) f = has_raised_in m image w j t (slot_for w.exceptions.live wish) f

has_asked : (m : List Part) (image : Image) (wish : ℕ) (w : World) (j : ℕ) (left : Option (List Reply)) → w.hart.memory ≡ m → Has m (asked image wish w j left)
has_asked m image wish w j None f = f
has_asked m image wish w j (Some replies) f = has_replied m image wish (record w { replies = slice_set w.replies j (drop 1 replies) }) j (reply_of replies) f

has_read : (m : List Part) (w : World) (left : List ℕ) → w.hart.memory ≡ m → Has m (read_from w left)
has_read m w [] f = f
has_read m w (b ∷ bytes) f = f

has_rethrows : (m : List Part) (image : Image) (w : World) (r : Option ℕ × Exceptions) → w.hart.memory ≡ m → Has m (rethrows image w r)
has_rethrows m image w (None, e) f = has_terminates m image.places w.terminate_handler w f
has_rethrows m image w (Some slot, e) f =
    has_needs m w (object_in w.exceptions.live slot) (rethrows_object image w e) f
    (λ o. has_needs m w (thrown_of w.hart o.header.kind) _ f
    (λ thrown. has_raised m image.places w.exceptions o (with_exceptions e w) (unwinder.raise image.fdes thrown w.hart) (raise_leaves image.fdes thrown w.hart ∙ f) f))

has_told : (m : List Part) (o : Object) (kind : HeaderKind) (w : World) → w.hart.memory ≡ m → (told o kind w).hart.memory ≡ m
has_told m o kinds.Building w f = f
has_told m o (kinds.Native type destructor) w f = f
has_told m o (kinds.Foreign j t) w f = f

has_left : (m : List Part) (o : Object) (left : Ended) (w : World) → w.hart.memory ≡ m → (left_as o left w).hart.memory ≡ m
has_left m o (Last slot) w f = has_told m o o.header.kind w f
has_left m o (Active slot) w f = f
has_left m o (Travelling slot) w f = f

has_leaves : (m : List Part) (o : Object) (w : World) (left : Option Ended × Exceptions) → w.hart.memory ≡ m → Has m (leaves o w left)
has_leaves m o w (None, e) f = f
has_leaves m o w (Some left, e) f = has_left m o left _ f

has_call : (m : List Part) (image : Image) (wish : ℕ) (w : World) (call : Call) → w.hart.memory ≡ m → Has m (made_call image wish w call)
has_call m image wish w calls.Exit f = f
has_call m image wish w calls.WriteInt f = f
has_call m image wish w calls.ReadByte f = has_read m w w.input f
has_call m image wish w calls.Allocate f = has_made_in m image.places w (slot_for w.exceptions.live wish) f
has_call m image wish w calls.Free f = has_needs m w (object_where is_building w.exceptions.live (argument w a0)) _ f (λ o. f)
has_call m image wish w calls.Throw f =
    has_needs m w (object_where is_building w.exceptions.live (argument w a0)) _ f
    (λ o. has_needs m w (type_records w.hart (argument w a1)) _ f
    (λ records.
    let new = native_object w o (argument w a1) (argument w a2) in
    has_raised m image.places w.exceptions new (flying new w) (unwinder.raise image.fdes (native records) w.hart) (raise_leaves image.fdes (native records) w.hart ∙ f) f))
has_call m image wish w calls.BeginCatch f =
    has_needs m w (object_where is_thrown w.exceptions.live (argument w a0)) (begins_catch image.places w) f
    (λ o. has_either m (may_begin w.exceptions o.slot) _ _ (has_either m (is_crowded w o) _ _ (has_terminates m image.places w.terminate_handler w f) f) f)
has_call m image wish w calls.EndCatch f =
    has_needs m w (newest_object w.exceptions) (λ o. leaves o w (left_by o (ended w.exceptions))) f (λ o. has_leaves m o w (left_by o (ended w.exceptions)) f)
has_call m image wish w calls.Rethrow f = has_rethrows m image w (rethrown w.exceptions) f
has_call m image wish w calls.Resume f =
    has_either m (argument w a0 == 0) _ _
    (has_needs m w w.unwinding _ f (λ n. has_forced m image.places n w (unwinder.forced_unwind image.fdes w.hart) (forced_leaves image.fdes w.hart ∙ f) f))
    (has_needs m w (object_where is_thrown w.exceptions.live (argument w a0)) _ f
    (λ o. has_needs m w (thrown_of w.hart o.header.kind) _ f
    (λ thrown. has_resumed m image.places o w (unwinder.resume image.fdes thrown o.header.target w.hart) (resume_leaves image.fdes thrown o.header.target w.hart ∙ f) f)))
has_call m image wish w calls.UncaughtException f = f
has_call m image wish w calls.SetTerminate f = f
has_call m image wish w calls.SetUnexpected f = f
has_call m image wish w calls.Terminate f = has_terminates m image.places w.terminate_handler w f
has_call m image wish w calls.Module f = has_asked m image wish w (module_number w) (slice_get w.replies (module_number w)) f
has_call m image wish w calls.Cancel f =
    has_forced m image.places (as_int (argument w a0)) (record w { unwinding = Some (as_int (argument w a0)) }) (unwinder.forced_unwind image.fdes w.hart) (forced_leaves image.fdes w.hart ∙ f) f
has_call m image wish w calls.Abort f = f
has_call m image wish w calls.Stack f = f
has_call m image wish w calls.UnexpectedBegin f =
    has_needs m w (object_where is_native w.exceptions.live (argument w a0)) (begins_unexpected w) f (λ o. has_either m (may_begin w.exceptions o.slot) _ _ f f)
has_call m image wish w calls.UnexpectedCheck f = has_needs m w (answer_of image w) _ f (λ n. f)
has_call m image wish w calls.TerminateFor f =
    has_needs m w (object_where is_native w.exceptions.live (argument w a0)) _ f (λ o. has_terminates m image.places o.header.handlers.0 w f)

has_effect : (n : ℕ) (image : Image) (wish : ℕ) (w : World) → Has w.hart.memory (call_effect n image wish w)
unfolding call_effect
has_effect n image wish w = has_needs w.hart.memory w (numbered n) (made_call image wish w) refl (λ call. has_call w.hart.memory image wish w call refl)

-- ---- turns

abbrev Stays : World → Turned → Type 0
Stays w t = KeepsMemory w t.1

called_stays : (w : World) (place : ℕ) (o : Outcome) → frozen o.1.hart.memory ≡ frozen w.hart.memory → Stays w (called place o)
called_stays w place (Goes, v) f = f
called_stays w place (Exits n, v) f = f
called_stays w place (Aborts, v) f = f
called_stays w place (Overflows, v) f = f
called_stays w place (Fails kind, v) f = f

stepped_stays : (image : Image) (wish : ℕ) (w v : World) (step : Step × State) → frozen step.1.memory ≡ frozen w.hart.memory → Stays w (stepped image wish v step)
stepped_stays image wish w v (steps.Done, s) f = f
stepped_stays image wish w v (steps.Ecall, s) f = called_stays w v.hart.pc _ (ap frozen (has_effect _ image wish (record v { hart = s })) ∙ f)
stepped_stays image wish w v (steps.Fault kind, s) f = f

turn_stays : (image : Image) (wish : ℕ) (w : World) → Stays w (turn image wish w)
unfolding turn
turn_stays image wish w = stepped_stays image wish w (record w { shown = [] }) (step_of w.hart) (step_keeps_frozen w.hart)

after_turn : (w : World) (more : World → Ran) (t : Turned) → Stays w t → ((v : World) → KeepsMemory v (more v).world) → KeepsMemory w (and_more more t).world
after_turn w more (On, v) f rest = rest v ∙ f
after_turn w more (EndedTurn end, v) f rest = f

run_stays : (image : Image) (pick : ℕ → ℕ) (n : ℕ) (w : World) → KeepsMemory w (run image pick n w).world
unfolding run
run_stays image pick zero w = refl
run_stays image pick (suc n) w = after_turn w (run image pick n) (turn image (pick (w.last_number + 1)) w) (turn_stays image (pick (w.last_number + 1)) w) (λ v. run_stays image pick n v)

-- where a run of so many turns and none beside them ends in a world
ends_in : (image : Image) (pick : ℕ → ℕ) (v : World) → (run image pick 0 v).world ≡ v
unfolding run
ends_in image pick v = refl

turns_stay : (image : Image) (pick : ℕ → ℕ) (n : ℕ) (w v : World) (items : List Item) → run image pick (n + 0) w ≡ with_items items (run image pick 0 v) → KeepsMemory w v
turns_stay image pick n w v items e =
    let there : (run image pick (n + 0) w).world ≡ v = ap (λ (r : Ran). r.world) e ∙ ends_in image pick v in
    ap (λ (u : World). frozen u.hart.memory) (sym there) ∙ run_stays image pick (n + 0) w

pub runs_keep_memory : RunsKeepMemory
runs_keep_memory = record {
  runs = run_stays;
  turns = λ image n w v items h. turns_stay image (λ k. k) n w v items (h.run (λ k. k) 0);
  forced = λ image n w v items h. turns_stay image (λ k. k) n w v items (h.run (λ k. k) 0);
  picked = λ image pick n w v items h. turns_stay image pick n w v items (h.run 0);
}
