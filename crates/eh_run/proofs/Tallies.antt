-- What a runtime call counts, and which numbers it gives to exceptions.
use Rattle.std.proofs.Common.{◌≡◌, ◌∙◌, refl, sym, ap, ◌⊎◌, inl, inr, ℕ, zero, suc, ◌+◌, ◌<◌, ◌==◌, drop, slice_get, slice_set, Bool, true, false, cond, List, [], ◌∷◌, length, Option, Some, None, ℤ, arith}
use Rattle.std.specs.Prelude.{is_some}
use Rattle.eh_bytes.specs.declared.unit.RuntimeRecord.{RuntimeRecord}
use Rattle.eh_outer.specs.Module.{reply_of}
use Rattle.eh_outer.specs.declared.module.Reply.{Reply}
use Rattle.eh_outer.specs.declared.module.Reply.TheVariants.{Value, Raise}
use Rattle.rv64_isa.specs.State.{State}
use Rattle.table_forms.specs.Verdict.{native, foreign}
use Rattle.raise_core.specs.declared.raised.Raised.{Raised}
use Rattle.raise_core.specs.declared.raised.Raised.TheVariants as answers
use Rattle.raise_core.specs.Raise as unwinder
use Rattle.caught_stack.specs.declared.ended.Ended.{Ended}
use Rattle.caught_stack.specs.declared.ended.Ended.TheVariants.{Last, Active, Travelling}
use Rattle.caught_stack.specs.declared.header.Header.{Header}
use Rattle.caught_stack.specs.declared.header.HeaderKind.{HeaderKind}
use Rattle.caught_stack.specs.declared.header.HeaderKind.TheVariants as kinds
use Rattle.caught_stack.specs.End.{ended}
use Rattle.caught_stack.specs.Exceptions.{Exceptions}
use Rattle.caught_stack.specs.Live.{Live, slots, header_of, is_vacant}
use Rattle.caught_stack.specs.Rethrow.{rethrown}
use Rattle.caught_stack.proofs.Headers.{vacant_below, vacant_not_live}
use Rattle.cxa_runtime.specs.declared.call.Call.{Call}
use Rattle.cxa_runtime.specs.declared.call.Call.TheVariants as calls
use Rattle.cxa_runtime.specs.declared.effect.Effect.TheVariants.{Goes}
use Rattle.cxa_runtime.specs.declared.object.Object.{Object}
use Rattle.cxa_runtime.specs.Allocate.{made_in}
use Rattle.cxa_runtime.specs.Call.{call_effect, made_call, numbered}
use Rattle.cxa_runtime.specs.Cancel.{forced_as}
use Rattle.cxa_runtime.specs.Catch.{begins_catch, entered, is_crowded, leaves, told}
use Rattle.cxa_runtime.specs.Flying.{one_uncaught}
use Rattle.cxa_runtime.specs.Foreign.{asked, foreign_made, foreign_object, module_number, raised_in, replied}
use Rattle.cxa_runtime.specs.Leaving.{left_by, newest_object}
use Rattle.cxa_runtime.specs.MayBegin.{may_begin}
use Rattle.cxa_runtime.specs.Number.{as_int}
use Rattle.cxa_runtime.specs.Objects.{first_vacant_from, is_building, is_native, is_thrown, object_in, object_where, slot_for}
use Rattle.cxa_runtime.specs.Plain.{read_from}
use Rattle.cxa_runtime.specs.Raising.{Image, raised_as, resumed_as, thrown_of, unhandled}
use Rattle.cxa_runtime.specs.Terminate.{terminates}
use Rattle.cxa_runtime.specs.Throw.{flying, native_object, rethrows, rethrows_object}
use Rattle.cxa_runtime.specs.Types.{type_records}
use Rattle.cxa_runtime.specs.Unexpected.{answer_of, begins_unexpected}
use Rattle.cxa_runtime.specs.World.{World, Outcome, argument, a0, a1, a2, needs, with_exceptions}

-- so many steps are counted, and this is the last number given
abbrev pub Tells : (n number : ℕ) → Outcome → Type 0
Tells n number o = (o.1.count ≡ n) × (o.1.last_number ≡ number)

tells_either : (n k : ℕ) (b : Bool) (x y : Outcome) → Tells n k x → Tells n k y → Tells n k (cond b x y)
tells_either n k true x y f g = f
tells_either n k false x y f g = g

tells_needs : {A : Type 0} (n k : ℕ) (w : World) (o : Option A) (call : A → Outcome) → Tells n k (Goes, w) → ((a : A) → Tells n k (call a)) → Tells n k (needs w o call)
tells_needs n k w None call f g = f
tells_needs n k w (Some a) call f g = g a

tells_terminates : (n k : ℕ) (places : RuntimeRecord) (handler : ℕ) (w : World) → Tells n k (Goes, w) → Tells n k (terminates places handler w)
tells_terminates n k places handler w f = tells_either n k w.terminating _ _ f f

tells_unhandled : (n k : ℕ) (places : RuntimeRecord) (before : Exceptions) (o : Object) (w : World) (kind : HeaderKind) → Tells n k (Goes, w) →
    Tells n k (unhandled places before o w kind)
tells_unhandled n k places before o w (kinds.Native type destructor) f =
    tells_either n k w.terminating _ _ (tells_terminates n k places o.header.handlers.0 w f) (tells_terminates n k places o.header.handlers.0 (entered o w) f)
tells_unhandled n k places before o w kinds.Building f = tells_either n k w.terminating _ _ f f
tells_unhandled n k places before o w (kinds.Foreign j t) f = tells_either n k w.terminating _ _ f f

tells_raised : (n k : ℕ) (places : RuntimeRecord) (before : Exceptions) (o : Object) (w : World) (answer : Raised × State) → Tells n k (Goes, w) →
    Tells n k (raised_as places before o w answer)
tells_raised n k places before o w (answers.Install pad selector cfa lsda, s) f = f
tells_raised n k places before o w (answers.NoHandler, s) f = tells_unhandled n k places before o w o.header.kind f
tells_raised n k places before o w (answers.Terminate, s) f = tells_unhandled n k places before o w o.header.kind f
tells_raised n k places before o w (answers.Fault kind, s) f = f

tells_resumed : (n k : ℕ) (places : RuntimeRecord) (o : Object) (w : World) (answer : Raised × State) → Tells n k (Goes, w) → Tells n k (resumed_as places o w answer)
tells_resumed n k places o w (answers.Install pad selector cfa lsda, s) f = f
tells_resumed n k places o w (answers.NoHandler, s) f = f
tells_resumed n k places o w (answers.Terminate, s) f = tells_terminates n k places w.terminate_handler w f
tells_resumed n k places o w (answers.Fault kind, s) f = f

tells_forced : (n k : ℕ) (places : RuntimeRecord) (exit : ℤ) (w : World) (answer : Raised × State) → Tells n k (Goes, w) → Tells n k (forced_as places exit w answer)
tells_forced n k places exit w (answers.Install pad selector cfa lsda, s) f = f
tells_forced n k places exit w (answers.NoHandler, s) f = f
tells_forced n k places exit w (answers.Terminate, s) f = tells_terminates n k places w.terminate_handler w f
tells_forced n k places exit w (answers.Fault kind, s) f = f

tells_read : (n k : ℕ) (w : World) (left : List ℕ) → Tells n k (Goes, w) → Tells n k (read_from w left)
tells_read n k w [] f = f
tells_read n k w (b ∷ bytes) f = f

tells_rethrows : (n k : ℕ) (image : Image) (w : World) (r : Option ℕ × Exceptions) → Tells n k (Goes, w) → Tells n k (rethrows image w r)
tells_rethrows n k image w (None, e) f = tells_terminates n k image.places w.terminate_handler w f
tells_rethrows n k image w (Some slot, e) f =
    tells_needs n k w (object_in w.exceptions.live slot) (rethrows_object image w e) f
    (λ o. tells_needs n k w (thrown_of w.hart o.header.kind) _ f
    (λ thrown. tells_raised n k image.places w.exceptions o (with_exceptions e w) (unwinder.raise image.fdes thrown w.hart) f))

tells_told : (n k : ℕ) (o : Object) (kind : HeaderKind) (w : World) → Tells n k (Goes, w) → Tells n k (Goes, told o kind w)
tells_told n k o kinds.Building w f = f
tells_told n k o (kinds.Native type destructor) w f = f
tells_told n k o (kinds.Foreign j t) w f = f

tells_leaves : (n k : ℕ) (o : Object) (left : Option Ended) (e : Exceptions) (w : World) → Tells n k (Goes, w) → Tells n k (leaves o w (left_by o (left, e)))
tells_leaves n k o None e w f = f
tells_leaves n k o (Some (Last slot)) e w f = tells_told n k o o.header.kind _ f
tells_leaves n k o (Some (Active slot)) e w f = f
tells_leaves n k o (Some (Travelling slot)) e w f = f

-- ---- slots
some_vacant : (live : Live) (n y : ℕ) → y < length live → header_of live y ≡ None → first_vacant_from n live ≡ None → ⊥
unfolding first_vacant_from
some_vacant [] n y low none h = absurd (omega arith)
some_vacant (None ∷ live) n y low none h = absurd cc
some_vacant (Some x ∷ live) n zero low none h = absurd cc
some_vacant (Some x ∷ live) n (suc y) low none h = some_vacant live (n + 1) y (omega arith) none h

not_live : (live : Live) (y : ℕ) → is_vacant live y ≡ true → header_of live y ≡ None
not_live live y v = by (header_of live y) (vacant_not_live live y v)
  where
    by : (o : Option Header) → is_some o ≡ false → o ≡ None
    by None e = refl
    by (Some h) e = absurd cc

-- where no slot is given for one wish, none is for another
no_slot : (live : Live) (x y : ℕ) → length live ≡ slots → slot_for live x ≡ None → slot_for live y ≡ None
no_slot live x y long h = by (is_vacant live x) (is_vacant live y) refl h
  where
    none : (b : Bool) → cond b (Some x) (first_vacant_from 0 live) ≡ None → first_vacant_from 0 live ≡ None
    none true e = absurd cc
    none false e = e

    by : (a b : Bool) → is_vacant live y ≡ b → cond a (Some x) (first_vacant_from 0 live) ≡ None → cond b (Some y) (first_vacant_from 0 live) ≡ None
    by a false v e = none a e
    by a true v e = let low = vacant_below live y v in absurd (some_vacant live 0 y (omega (arith, low, long)) (not_live live y v) (none a e))

-- ---- calls
-- A call counts nothing. Whichever slot is wished for it does the same, and gives no number; or it gives the next one.
pub record IsTallied (call : ℕ → Outcome) (w : World) (wish : ℕ) : Type 0 where
  pub count : (call wish).1.count ≡ w.count
  pub number : (((y : ℕ) → call y ≡ call wish) × ((call wish).1.last_number ≡ w.last_number)) ⊎ ((call wish).1.last_number ≡ w.last_number + 1)

plain : (o : Outcome) (w : World) (wish : ℕ) → Tells w.count w.last_number o → IsTallied (λ y. o) w wish
plain o w wish f = record { count = f.0; number = inl (λ y. refl, f.1) }

tallied_made : (places : RuntimeRecord) (w : World) (wish : ℕ) → length w.exceptions.live ≡ slots → IsTallied (λ y. made_in places w (slot_for w.exceptions.live y)) w wish
tallied_made places w wish long = by (slot_for w.exceptions.live wish) refl
  where
    by : (slot : Option ℕ) → slot_for w.exceptions.live wish ≡ slot → IsTallied (λ y. made_in places w (slot_for w.exceptions.live y)) w wish
    by None h =
        let f = tells_terminates w.count w.last_number places w.terminate_handler w (refl, refl) in record {
          count = ap (λ s. (made_in places w s).1.count) h ∙ f.0;
          number = inl (
            λ y. ap (made_in places w) (no_slot w.exceptions.live wish y long h ∙ sym h),
            ap (λ s. (made_in places w s).1.last_number) h ∙ f.1,
          );
        }
    by (Some slot) h = record { count = ap (λ s. (made_in places w s).1.count) h; number = inr (ap (λ s. (made_in places w s).1.last_number) h) }

tallied_raised : (image : Image) (w : World) (j t wish : ℕ) → length w.exceptions.live ≡ slots → IsTallied (λ y. raised_in image w j t (slot_for w.exceptions.live y)) w wish
tallied_raised image w j t wish long = by (slot_for w.exceptions.live wish) refl
  where
    by : (slot : Option ℕ) → slot_for w.exceptions.live wish ≡ slot → IsTallied (λ y. raised_in image w j t (slot_for w.exceptions.live y)) w wish
    by None h =
        let f = tells_terminates w.count w.last_number image.places w.terminate_handler w (refl, refl) in record {
          count = ap (λ s. (raised_in image w j t s).1.count) h ∙ f.0;
          number = inl (
            λ y. ap (raised_in image w j t) (no_slot w.exceptions.live wish y long h ∙ sym h),
            ap (λ s. (raised_in image w j t s).1.last_number) h ∙ f.1,
          );
        }
    by (Some slot) h =
        let made = foreign_made j t slot w in
        let f = tells_raised w.count (w.last_number + 1) image.places made.exceptions (foreign_object w j t slot) (with_exceptions (one_uncaught made.exceptions) made)
        (unwinder.raise image.fdes foreign w.hart) (refl, refl) in
        record { count = ap (λ s. (raised_in image w j t s).1.count) h ∙ f.0; number = inr (ap (λ s. (raised_in image w j t s).1.last_number) h ∙ f.1) }

tallied_asked : (image : Image) (w : World) (j wish : ℕ) (left : Option (List Reply)) → length w.exceptions.live ≡ slots → IsTallied (λ y. asked image y w j left) w wish
tallied_asked image w j wish None long = plain (asked image wish w j None) w wish (refl, refl)
tallied_asked image w j wish (Some replies) long = by (reply_of replies)
  where
    by : (reply : Reply) → IsTallied (λ y. replied image y (record w { replies = slice_set w.replies j (drop 1 replies) }) j reply) w wish
    by (Value v) = plain (replied image wish (record w { replies = slice_set w.replies j (drop 1 replies) }) j (Value v)) w wish (refl, refl)
    by (Raise token) =
        let r = tallied_raised image (record w { replies = slice_set w.replies j (drop 1 replies) }) j token wish long in record { count = r.count; number = r.number }

tallied_call : (image : Image) (w : World) (wish : ℕ) (call : Call) → length w.exceptions.live ≡ slots → IsTallied (λ y. made_call image y w call) w wish
tallied_call image w wish calls.Exit long = plain _ w wish (refl, refl)
tallied_call image w wish calls.WriteInt long = plain _ w wish (refl, refl)
tallied_call image w wish calls.ReadByte long = plain _ w wish (tells_read w.count w.last_number w w.input (refl, refl))
tallied_call image w wish calls.Allocate long = tallied_made image.places w wish long
tallied_call image w wish calls.Free long =
    plain _ w wish (tells_needs w.count w.last_number w (object_where is_building w.exceptions.live (argument w a0)) _ (refl, refl) (λ o. (refl, refl)))
tallied_call image w wish calls.Throw long =
    plain _ w wish (tells_needs w.count w.last_number w (object_where is_building w.exceptions.live (argument w a0)) _ (refl, refl)
    (λ o. tells_needs w.count w.last_number w (type_records w.hart (argument w a1)) _ (refl, refl)
    (λ records. tells_raised w.count w.last_number image.places w.exceptions (native_object w o (argument w a1) (argument w a2)) (flying (native_object w o (argument w a1) (argument w a2)) w)
    (unwinder.raise image.fdes (native records) w.hart) (refl, refl))))
tallied_call image w wish calls.BeginCatch long =
    plain _ w wish (tells_needs w.count w.last_number w (object_where is_thrown w.exceptions.live (argument w a0)) (begins_catch image.places w) (refl, refl)
    (λ o. tells_either w.count w.last_number (may_begin w.exceptions o.slot) _ _
    (tells_either w.count w.last_number (is_crowded w o) _ _ (tells_terminates w.count w.last_number image.places w.terminate_handler w (refl, refl)) (refl, refl)) (refl, refl)))
tallied_call image w wish calls.EndCatch long =
    plain _ w wish (tells_needs w.count w.last_number w (newest_object w.exceptions) (λ o. leaves o w (left_by o (ended w.exceptions))) (refl, refl)
    (λ o. tells_leaves w.count w.last_number o (ended w.exceptions).0 (ended w.exceptions).1 w (refl, refl)))
tallied_call image w wish calls.Rethrow long = plain _ w wish (tells_rethrows w.count w.last_number image w (rethrown w.exceptions) (refl, refl))
tallied_call image w wish calls.Resume long =
    plain _ w wish (tells_either w.count w.last_number (argument w a0 == 0) _ _
    (tells_needs w.count w.last_number w w.unwinding _ (refl, refl) (λ n. tells_forced w.count w.last_number image.places n w (unwinder.forced_unwind image.fdes w.hart) (refl, refl)))
    (tells_needs w.count w.last_number w (object_where is_thrown w.exceptions.live (argument w a0)) _ (refl, refl)
    (λ o. tells_needs w.count w.last_number w (thrown_of w.hart o.header.kind) _ (refl, refl)
    (λ thrown. tells_resumed w.count w.last_number image.places o w (unwinder.resume image.fdes thrown o.header.target w.hart) (refl, refl)))))
tallied_call image w wish calls.UncaughtException long = plain _ w wish (refl, refl)
tallied_call image w wish calls.SetTerminate long = plain _ w wish (refl, refl)
tallied_call image w wish calls.SetUnexpected long = plain _ w wish (refl, refl)
tallied_call image w wish calls.Terminate long = plain _ w wish (tells_terminates w.count w.last_number image.places w.terminate_handler w (refl, refl))
tallied_call image w wish calls.Module long = tallied_asked image w (module_number w) wish (slice_get w.replies (module_number w)) long
tallied_call image w wish calls.Cancel long =
    plain _ w wish (tells_forced w.count w.last_number image.places (as_int (argument w a0)) (record w { unwinding = Some (as_int (argument w a0)) })
    (unwinder.forced_unwind image.fdes w.hart) (refl, refl))
tallied_call image w wish calls.Abort long = plain _ w wish (refl, refl)
tallied_call image w wish calls.Stack long = plain _ w wish (refl, refl)
tallied_call image w wish calls.UnexpectedBegin long =
    plain _ w wish (tells_needs w.count w.last_number w (object_where is_native w.exceptions.live (argument w a0)) (begins_unexpected w) (refl, refl)
    (λ o. tells_either w.count w.last_number (may_begin w.exceptions o.slot) _ _ (refl, refl) (refl, refl)))
tallied_call image w wish calls.UnexpectedCheck long = plain _ w wish (tells_needs w.count w.last_number w (answer_of image w) _ (refl, refl) (λ n. (refl, refl)))
tallied_call image w wish calls.TerminateFor long =
    plain _ w wish (tells_needs w.count w.last_number w (object_where is_native w.exceptions.live (argument w a0)) _ (refl, refl)
    (λ o. tells_terminates w.count w.last_number image.places o.header.handlers.0 w (refl, refl)))

pub tallied_effect : (n : ℕ) (image : Image) (w : World) (wish : ℕ) → length w.exceptions.live ≡ slots → IsTallied (λ y. call_effect n image y w) w wish
unfolding call_effect
tallied_effect n image w wish long = by (numbered n)
  where
    by : (o : Option Call) → IsTallied (λ y. needs w o (made_call image y w)) w wish
    by None = plain (needs {A = Call} w None (made_call image wish w)) w wish (refl, refl)
    by (Some call) = let r = tallied_call image w wish call long in record { count = r.count; number = r.number }
