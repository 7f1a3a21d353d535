-- Terminate begins at most once in a run.
use Rattle.std.proofs.Common.{◌≡◌, ◌⊎◌, inl, inr, ℤ, ℕ, zero, suc, ◌+◌, ◌≤◌, ◌==◌, ◌&&◌, Bool, true, false, List, [], ◌∷◌, length, Option, Some, None, refl, sym, ap, subst, ◌∙◌, ⊎_elim, if◌then◌else◌, is_some, arith}
use Rattle.std.specs.Prelude.{pos, negsuc, slice_get}
use Rattle.std.proofs.lemmas.Bool.Decides.{nat_tests}
use Rattle.meaning_forms.specs.Arithmetic.{is_zero}
use Rattle.meaning_forms.specs.Outcome.{aborted}
use Rattle.region_forms.specs.Form.{Value}
use Rattle.region_forms.specs.World.{Word, nothing, number_word, address_word, flying, unwinding, Frame, World, Exception, building, native, foreign, exception_at, type_at, exception_in_slot, exception_of, address_in, object_address, with_slot, with_item}
use Rattle.run_items.specs.declared.item.Item.TheVariants.{Destroy}
use Rattle.region_forms.specs.Caught.{gives_back}
use Rattle.region_forms.specs.Lives.{is_native, may_enter, may_leave}
use Rattle.region_forms.specs.Unexpected.{kept_with}
use Rattle.region_forms.specs.Evaluation.{value_in}
use Rattle.region_forms.specs.Effect.{Effect, goes, calls as calls_effect, raises, terminates, ends, cancels, leaves_newest, meaningless, finished, effect, entered, entered_doomed, flies, cleaned_up, freed, newest_of, left as left_world, result_in, new_frame, new_world}
use Rattle.linear_forms.specs.Linear.{LinearOp, plain, label, jump, jump_zero, pad, jump_filter, free, resume, unexpected, return}
use Rattle.linear_forms.specs.Tables.{Cover, bare, unpadded, padded}
use Rattle.linear_forms.specs.Verdict.{Verdict, target, no_way, clean, nothing_here}
use Rattle.linear_forms.specs.Stub.{StubOp, Function, compiled, end_catch, terminating, call_unexpected, CodeOp, linear, runtime, leave_newest, destroy_held, call_held, begin_unexpected, check_unexpected, construct_bad, terminate_for, abort, StubRow, terminating_rows}
use Rattle.linear_forms.specs.Activation.{Code, Activation, State, Next, goes_to, finishes, by_program, fault, next_if, fetch, look, sense, place_of, kinds, at, on, stub_frame, function_word, depth_of, enters_function, terminated}
use Rattle.linear_forms.specs.Search.{found}
use Rattle.linear_forms.specs.Unwinding.{pad_entered, unwound_by, unwound_at, unwound_above, unwind, doomed_by, doomed, raised_to, raise}
use Rattle.linear_forms.specs.Forced.{forced_by, forced_at, forced_above, force}
use Rattle.linear_forms.specs.Verdict.{pad_verdict, has_cleanup}
use Rattle.linear_forms.specs.Operation.{may_free, performed, settled, wanted_by, returned, returned_with, jumped, jumped_zero, holds_number, resumed, number_of, act}
use Rattle.linear_forms.specs.StubOperation.{is_bad, empty_call, checked, sense_held, given_back, newest_left, called_held, destroyed, act_stub}
use Rattle.linear_forms.specs.Machine.{act_on, step}
use Rattle.cost_turns.specs.Turns.{flag, is_terminating, begins_terminate}
use Rattle.cost_turns.specs.Runs.{after}
use Rattle.cost_turns.specs.Once.{begun, TerminateBeginsOnce}
use Rattle.cost_turns.proofs.Kept.{Keeps, finished_keeps, effect_keeps, passed_keeps}

-- What comes behind a state, where terminate ran with a handler or not: while it runs it does not begin, and where it begins it runs with a
-- handler or has none.
abbrev Calm : Bool → Next → Type 0
Calm ending (finishes e w) = Unit {0}
Calm ending (goes_to next) =
    (ending ≡ true → (next.world.ending ≡ true) × (begins_terminate next ≡ false)) × (begins_terminate next ≡ true → (next.world.ending ≡ true) ⊎ (next.top.frame.slots 0 ≡ nothing))

either : (ending b : Bool) (x y : Next) → Calm ending x → Calm ending y → Calm ending (if b then x else y)
either ending true x y h k = h
either ending false x y h k = k

never : (b : Bool) → b ≡ false → b ≡ true → ⊥
never true e h = cc e
never false e h = cc h

calm_next : (b : Bool) (f : Function) (p : ℕ) (x : Frame) (fs : List Activation) (w : World) → (is_terminating f && (p == 0)) ≡ false → w.ending ≡ b → Calm b (at f p x fs w)
calm_next b f p x fs w none same = ((λ e. (same ∙ e, none)), λ h. absurd (never (is_terminating f && (p == 0)) none h))

right_false : (a b : Bool) → b ≡ false → (a && b) ≡ false
right_false true b e = e
right_false false b e = refl

left_false : (a b : Bool) → a ≡ false → (a && b) ≡ false
left_false a b e = ap (λ x. x && b) e

not_first : (p : ℕ) → (p + 1 == 0) ≡ false
not_first p = grind (arith, nat_tests)

later : (p : ℕ) → (suc p == 0) ≡ false
later p = grind (arith, nat_tests)

-- a place of a function that is not terminate's, and the next place of any
calm_at : (b : Bool) (f : Function) (p : ℕ) (x : Frame) (fs : List Activation) (w : World) → is_terminating f ≡ false → w.ending ≡ b → Calm b (at f p x fs w)
calm_at b f p x fs w other same = calm_next b f p x fs w (left_false (is_terminating f) (p == 0) other) same

calm_behind : (b : Bool) (f : Function) (p : ℕ) (x : Frame) (fs : List Activation) (w : World) → w.ending ≡ b → Calm b (at f (p + 1) x fs w)
calm_behind b f p x fs w same = calm_next b f (p + 1) x fs w (right_false (is_terminating f) (p + 1 == 0) (not_first p)) same

calm_on : (b : Bool) (a : Activation) (x : Frame) (fs : List Activation) (w : World) → w.ending ≡ b → Calm b (on a x fs w)
calm_on b a x fs w same = calm_behind b a.function a.place x fs w same

-- terminate begins
calm_terminated : (b : Bool) (h : Option ℕ) (fs : List Activation) (w : World) → w.ending ≡ b → Calm b (terminated h fs w)
calm_terminated b h fs w same = go w.ending h same
  where
    go : (c : Bool) (h : Option ℕ) → c ≡ b → Calm b (if c then finishes (by_program aborted) w else at terminating 0 (stub_frame (function_word h) nothing nothing) fs (record w { ending = is_some h }))
    go true h e = tt
    go false None e = ((λ t. absurd (never b (sym e) t)), λ i. inr refl)
    go false (Some n) e = ((λ t. absurd (never b (sym e) t)), λ i. inl refl)

module _ (code : Code) (b : Bool) where
  entered_calm : (n : ℕ) (given : List Word) (fs : List Activation) (w : World) → w.ending ≡ b → Calm b (enters_function code n given fs w)
  entered_calm n given fs w same = calm_at b (compiled n) 0 (new_frame (code.kinds_at n) given w) fs (new_world (code.kinds_at n) given (depth_of fs + 1) w) refl (passed_keeps (code.kinds_at n) w.calls 0 given w ∙ same)

  -- unwinding

  pad_calm : (o : Option CodeOp) (x : Word) (n : ℤ) (f : Function) (p : ℕ) (frame : Frame) (fs : List Activation) (w : World) → w.ending ≡ b → Calm b (pad_entered o x n f p frame fs w)
  pad_calm None x n f p frame fs w same = tt
  pad_calm (Some (runtime o)) x n f p frame fs w same = tt
  pad_calm (Some (linear (plain o))) x n f p frame fs w same = tt
  pad_calm (Some (linear (label l))) x n f p frame fs w same = tt
  pad_calm (Some (linear (jump l))) x n f p frame fs w same = tt
  pad_calm (Some (linear (jump_zero v l))) x n f p frame fs w same = tt
  pad_calm (Some (linear (pad o s))) x n f p frame fs w same = calm_behind b f p (with_slot s (number_word n) (with_slot o x frame)) fs w same
  pad_calm (Some (linear (jump_filter s z l))) x n f p frame fs w same = tt
  pad_calm (Some (linear (free s))) x n f p frame fs w same = tt
  pad_calm (Some (linear (resume s))) x n f p frame fs w same = tt
  pad_calm (Some (linear (unexpected o s))) x n f p frame fs w same = tt
  pad_calm (Some (linear (return r))) x n f p frame fs w same = tt

  module _ (f : Function) (x : Frame) (fs : List Activation) (w : World) (same : w.ending ≡ b) (rest : Next) (calm : Calm b rest) where
    verdict_calm : (v : Verdict) (p t e : ℕ) → Calm b (unwound_by code v p t e f x fs w rest)
    verdict_calm (target n) p t e = either b (length fs == t) (pad_entered (fetch code f p) (flying e t) n f p x fs w) (finishes fault w) (pad_calm (fetch code f p) (flying e t) n f p x fs w same) tt
    verdict_calm no_way p t e = calm_terminated b w.installed.terminate_handler (record { function = f; place = 0; frame = x } ∷ fs) w same
    verdict_calm clean p t e = pad_calm (fetch code f p) (flying e t) (pos 0) f p x fs w same
    verdict_calm nothing_here p t e = calm

    unwound_calm : (c : Cover) (t e : ℕ) → Calm b (unwound_at code c t e f x fs w rest)
    unwound_calm bare t e = calm_terminated b w.installed.terminate_handler (record { function = f; place = 0; frame = x } ∷ fs) w same
    unwound_calm unpadded t e = calm
    unwound_calm (padded p chain) t e = verdict_calm (pad_verdict code.rows (sense code f) chain (type_at w e)) p t e

    cleanup_calm : (c : Bool) (p : ℕ) (z : ℤ) → Calm b (forced_by code c p z f x fs w rest)
    cleanup_calm true p z = pad_calm (fetch code f p) (unwinding z) (pos 0) f p x fs w same
    cleanup_calm false p z = calm

    forced_calm : (c : Cover) (z : ℤ) → Calm b (forced_at code c z f x fs w rest)
    forced_calm bare z = calm_terminated b w.installed.terminate_handler (record { function = f; place = 0; frame = x } ∷ fs) w same
    forced_calm unpadded z = calm
    forced_calm (padded p chain) z = cleanup_calm (has_cleanup (sense code f) chain) p z

  above_calm : (t e : ℕ) (fs : List Activation) (w : World) → w.ending ≡ b → Calm b (unwound_above code t e fs w)
  above_calm t e [] w same = tt
  above_calm t e (a ∷ fs) w same = unwound_calm a.function a.frame fs w same (unwound_above code t e fs w) (above_calm t e fs w same) (look code a.function a.place) t e

  unwind_calm : (c : Cover) (t e : ℕ) (f : Function) (x : Frame) (fs : List Activation) (w : World) → w.ending ≡ b → Calm b (unwind code c t e f x fs w)
  unwind_calm c t e f x fs w same = unwound_calm f x fs w same (unwound_above code t e fs w) (above_calm t e fs w same) c t e

  all_forced_calm : (z : ℤ) (fs : List Activation) (w : World) → w.ending ≡ b → Calm b (forced_above code z fs w)
  all_forced_calm z [] w same = tt
  all_forced_calm z (a ∷ fs) w same = forced_calm a.function a.frame fs w same (forced_above code z fs w) (all_forced_calm z fs w same) (look code a.function a.place) z

  force_calm : (c : Cover) (z : ℤ) (f : Function) (x : Frame) (fs : List Activation) (w : World) → w.ending ≡ b → Calm b (force code c z f x fs w)
  force_calm c z f x fs w same = forced_calm f x fs w same (forced_above code z fs w) (all_forced_calm z fs w same) c z

  doomed_calm : (e : ℕ) (fs : List Activation) (w : World) → w.ending ≡ b → Calm b (doomed e fs w)
  doomed_calm e fs w same = either b w.ending (finishes (by_program aborted) w) (doomed_by e (exception_at w e) fs w) tt (by (exception_at w e))
    where
      by : (x : Exception) → Calm b (doomed_by e x fs w)
      by (native t d handlers) = calm_terminated b handlers.terminate_handler fs (entered_doomed e w) same
      by building = calm_terminated b w.installed.terminate_handler fs w same
      by (foreign k t) = calm_terminated b w.installed.terminate_handler fs w same

  raise_calm : (e : ℕ) (a : Activation) (fs : List Activation) (w : World) → w.ending ≡ b → Calm b (raise code e a fs w)
  raise_calm e a fs w same = go (found code a.function (look code a.function a.place) (type_at w e) fs)
    where
      go : (t : Option ℕ) → Calm b (raised_to t e (a ∷ fs) w (λ t. unwind code (look code a.function a.place) t e a.function a.frame fs (flies e w)))
      go None = doomed_calm e (a ∷ fs) w same
      go (Some t) = unwind_calm (look code a.function a.place) t e a.function a.frame fs (flies e w) same

  -- effects

  performed_calm : (e : Effect) (a : Activation) (fs : List Activation) (w : World) → Keeps w e → w.ending ≡ b → Calm b (performed code e a fs w)
  performed_calm (goes x v) a fs w k same = calm_on b a x fs v (k ∙ same)
  performed_calm (calls_effect p n given) a fs w k same = entered_calm n given (a ∷ fs) w same
  performed_calm (raises e v) a fs w k same = raise_calm e a fs v (k ∙ same)
  performed_calm (terminates h v) a fs w k same = calm_terminated b h (a ∷ fs) v (k ∙ same)
  performed_calm (ends e v) a fs w k same = tt
  performed_calm (cancels z v) a fs w k same = force_calm (look code a.function a.place) z a.function a.frame fs v (k ∙ same)
  performed_calm leaves_newest a fs w k same = calm_at b end_catch 0 (stub_frame nothing nothing nothing) (a ∷ fs) w refl same
  performed_calm meaningless a fs w k same = tt

  settled_calm : (e : Effect) (a : Activation) (fs : List Activation) (w : World) → Keeps w e → w.ending ≡ b → Calm b (settled e a fs w)
  settled_calm (goes x v) a fs w k same = calm_on b a x fs v (k ∙ same)
  settled_calm (calls_effect p n given) a fs w k same = tt
  settled_calm (raises e v) a fs w k same = tt
  settled_calm (terminates h v) a fs w k same = tt
  settled_calm (ends e v) a fs w k same = tt
  settled_calm (cancels z v) a fs w k same = tt
  settled_calm leaves_newest a fs w k same = tt
  settled_calm meaningless a fs w k same = tt

  returned_calm : (v : ℤ) (fs : List Activation) (w : World) → w.ending ≡ b → Calm b (returned code v fs w)
  returned_calm v [] w same = tt
  returned_calm v (a ∷ fs) w same =
      settled_calm (finished (kinds code a.function) (wanted_by (fetch code a.function a.place)) v a.frame w) a fs w
      (finished_keeps w (kinds code a.function) (wanted_by (fetch code a.function a.place)) v a.frame w refl) same

  back_calm : (v : Option ℤ) (fs : List Activation) (w : World) → w.ending ≡ b → Calm b (returned_with code v fs w)
  back_calm None fs w same = tt
  back_calm (Some v) fs w same = returned_calm v fs w same

-- terminate's own function does nothing but call its handler and abort

abbrev Own : CodeOp → Type 0
Own (runtime (call_held s)) = Unit {0}
Own (runtime abort) = Unit {0}
Own o = ⊥

abbrev AllOwn : List StubRow → Type 0
AllOwn [] = Unit {0}
AllOwn (x ∷ rows) = Own x.op × AllOwn rows

same_op : (x o : CodeOp) → Some x ≡ Some o → x ≡ o
same_op x o e = cc e

row_own : (rows : List StubRow) (p : ℕ) (o : CodeOp) → AllOwn rows → elim (slice_get rows p) [ None ↦ None | Some x ↦ Some x.op ] ≡ Some o → Own o
row_own [] p o h e = absurd (cc e)
row_own (x ∷ rows) zero o h e = subst Own (same_op x.op o e) h.0
row_own (x ∷ rows) (suc p) o h e = row_own rows p o h.1 e

not_there : (code : Code) (f : Function) (p : ℕ) (o : CodeOp) → fetch code f p ≡ Some o → (Own o → ⊥) → is_terminating f ≡ false
not_there code (compiled n) p o e other = refl
not_there code end_catch p o e other = refl
not_there code call_unexpected p o e other = refl
not_there code terminating p o e other = absurd (other (row_own terminating_rows p o (tt, (tt, tt)) e))

module _ (code : Code) (a : Activation) (fs : List Activation) (w : World) where
  abbrev Here : CodeOp → Type 0
  Here o = fetch code a.function a.place ≡ Some o

  abbrev C : Next → Type 0
  C next = Calm w.ending next

  -- what is defined only where a test holds
  where_defined : (b : Bool) (next : Next) → C next → C (next_if b w next)
  where_defined true next h = h
  where_defined false next h = tt

  goes_on : (x : Frame) (v : World) → v.ending ≡ w.ending → C (on a x fs v)
  goes_on x v same = calm_on w.ending a x fs v same

  jump_calm : (o : LinearOp) (l : ℕ) → Here (linear o) → C (jumped code l a fs w)
  jump_calm o l there = calm_at w.ending a.function (place_of code a.function l) a.frame fs w (not_there code a.function a.place (linear o) there (λ x. x)) refl

  zero_calm : (v : Value) (l : ℕ) → Here (linear (jump_zero v l)) → (z : Option ℤ) → C (jumped_zero code z l a fs w)
  zero_calm v l there None = tt
  zero_calm v l there (Some z) = either w.ending (is_zero z) (jumped code l a fs w) (on a a.frame fs w) (jump_calm (jump_zero v l) l there) (goes_on a.frame w refl)

  resume_calm : (x : Word) → C (resumed code x a fs w)
  resume_calm (flying e t) = unwind_calm code w.ending (look code a.function a.place) t e a.function a.frame fs w refl
  resume_calm (unwinding z) = force_calm code w.ending (look code a.function a.place) z a.function a.frame fs w refl
  resume_calm nothing = tt
  resume_calm (number_word z) = tt
  resume_calm (address_word n) = tt

  act_calm : (o : LinearOp) → Here (linear o) → C (act code o a fs w)
  act_calm (plain o) there = performed_calm code w.ending (effect (kinds code a.function) o a.frame w) a fs w (effect_keeps (kinds code a.function) o a.frame w) refl
  act_calm (label l) there = goes_on a.frame w refl
  act_calm (jump l) there = jump_calm (jump l) l there
  act_calm (jump_zero v l) there = zero_calm v l there (value_in (kinds code a.function) a.frame w v)
  act_calm (pad o s) there = tt
  act_calm (jump_filter s n l) there = either w.ending (holds_number (a.frame.slots s) n) (jumped code l a fs w) (on a a.frame fs w) (jump_calm (jump_filter s n l) l there) (goes_on a.frame w refl)
  act_calm (free s) there =
      let e = exception_in_slot a.frame s in where_defined (may_free a.function w e) (on a a.frame fs (freed e w)) (goes_on a.frame (freed e w) refl)
  act_calm (resume s) there = resume_calm (a.frame.slots s)
  act_calm (unexpected o s) there = calm_at w.ending call_unexpected 0 (stub_frame (a.frame.slots o) (a.frame.slots s) (function_word (number_of a.function))) (a ∷ fs) w refl refl
  act_calm (return r) there = back_calm code w.ending (result_in r a.frame w (kinds code a.function)) fs w refl

  held_calm : (x : Word) → C (called_held code x a fs w)
  held_calm (number_word (pos n)) = entered_calm code w.ending n [] (a ∷ fs) w refl
  held_calm (number_word (negsuc n)) = goes_on a.frame w refl
  held_calm nothing = goes_on a.frame w refl
  held_calm (address_word n) = goes_on a.frame w refl
  held_calm (flying e t) = goes_on a.frame w refl
  held_calm (unwinding z) = goes_on a.frame w refl

  empty_same : (c : Bool) → (if c then empty_call fs w else w).ending ≡ w.ending
  empty_same true = refl
  empty_same false = refl

  emptied : (y : Word) → C (on a a.frame fs (if is_bad (type_at w (exception_of (address_in y))) then empty_call fs w else w))
  emptied y =
      let c = is_bad (type_at w (exception_of (address_in y))) in
      goes_on a.frame (if c then empty_call fs w else w) (empty_same c)

  destroyed_calm : (x y : Word) → C (destroyed code x y a fs w)
  destroyed_calm (number_word (pos n)) y = entered_calm code w.ending n (y ∷ []) (a ∷ fs) w refl
  destroyed_calm (number_word (negsuc n)) y = emptied y
  destroyed_calm nothing y = emptied y
  destroyed_calm (address_word n) y = emptied y
  destroyed_calm (flying e t) y = emptied y
  destroyed_calm (unwinding z) y = emptied y

  newest_calm : (o d l : ℕ) → Here (runtime (leave_newest o d l)) → C (newest_left o d l a fs w)
  newest_calm o d l there = where_defined (may_leave w w.caught)
      (if gives_back w.caught then given_back (exception_at w (newest_of w.caught)) (newest_of w.caught) o d l a fs (left_world w) else at a.function l a.frame fs (left_world w))
      (either w.ending (gives_back w.caught) (given_back (exception_at w (newest_of w.caught)) (newest_of w.caught) o d l a fs (left_world w)) (at a.function l a.frame fs (left_world w)) (by (exception_at w (newest_of w.caught)) (newest_of w.caught) (left_world w) refl) (at_label (left_world w) refl))
    where
      at_label : (v : World) → v.ending ≡ w.ending → C (at a.function l a.frame fs v)
      at_label v same = calm_at w.ending a.function l a.frame fs v (not_there code a.function a.place (runtime (leave_newest o d l)) there (λ x. x)) same

      by : (e : Exception) (k : ℕ) (v : World) → v.ending ≡ w.ending → C (given_back e k o d l a fs v)
      by (native t h kept) k v same = goes_on (with_slot d (function_word h) (with_slot o (address_word (object_address k)) a.frame)) (with_item (Destroy k) v) same
      by building k v same = at_label v same
      by (foreign m t) k v same = at_label (cleaned_up k m t v) same

  stub_calm : (o : StubOp) → Here (runtime o) → C (act_stub code o a fs w)
  stub_calm (leave_newest o d l) there = newest_calm o d l there
  stub_calm (destroy_held s o) there = destroyed_calm (a.frame.slots s) (a.frame.slots o)
  stub_calm (call_held s) there = held_calm (a.frame.slots s)
  stub_calm (begin_unexpected o s) there =
      let e = exception_in_slot a.frame o in
      let x = with_slot s (function_word (kept_with (exception_at w e)).unexpected_handler) a.frame in
      where_defined (is_native (exception_at w e) && may_enter w e) (on a x fs (entered e w)) (goes_on x (entered e w) refl)
  stub_calm (check_unexpected s f o x) there = goes_on
      (with_slot x (number_word (checked code.rows (sense_held code (a.frame.slots f) (a.frame.slots s)) (type_at w (exception_in_slot a.frame o)))) a.frame) w refl
  stub_calm construct_bad there = goes_on a.frame (empty_call fs w) refl
  stub_calm (terminate_for o) there = calm_terminated w.ending (kept_with (exception_at w (exception_in_slot a.frame o))).terminate_handler (a ∷ fs) w refl
  stub_calm abort there = tt

  whole_calm : (o : Option CodeOp) → fetch code a.function a.place ≡ o → C (act_on code o a fs w)
  whole_calm None e = tt
  whole_calm (Some (linear o)) e = act_calm o e
  whole_calm (Some (runtime o)) e = stub_calm o e

step_calm : (code : Code) (st : State) → Calm st.world.ending (step code st)
step_calm code st = whole_calm code st.top st.frames st.world (fetch code st.top.function st.top.place) refl

-- while terminate runs with a handler it does not begin
quiet : (code : Code) (n : ℕ) (st : State) → st.world.ending ≡ true → begun code n st ≤ 0
quiet code zero st running = omega arith
quiet code (suc n) st running = go (step code st) (step_calm code st) (λ next e. quiet code n next e)
  where
    go : (next : Next) → Calm st.world.ending next → ((m : State) → m.world.ending ≡ true → begun code n m ≤ 0) → after (λ m. flag (begins_terminate m)) (begun code n) next ≤ 0
    go (finishes e w) calm rest = omega arith
    go (goes_to m) calm rest = let still = calm.0 running in let none = ap flag still.1 in omega (arith, rest m still.0, none)

-- without a handler two operations end the program
module _ (code : Code) (fs : List Activation) (w : World) (x : Frame) where
  abbrev second : State
  second = record { top = record { function = terminating; place = 1; frame = x }; frames = fs; world = w }

  abbrev first : State
  first = record { top = record { function = terminating; place = 0; frame = x }; frames = fs; world = w }

  at_end : (n : ℕ) → begun code n second ≤ 0
  at_end zero = omega arith
  at_end (suc n) = omega arith

  without : (n : ℕ) → x.slots 0 ≡ nothing → begun code n first ≤ 0
  without zero e = omega arith
  without (suc n) e =
      let same : step code first ≡ on first.top x fs w = ap (λ y. called_held code y first.top fs w) e in
      let all = ap (after (λ m. flag (begins_terminate m)) (begun code n)) same in
      omega (arith, all, at_end n)

-- where terminate begins without a handler
without_handler : (code : Code) (n : ℕ) (f : Function) (p : ℕ) (x : Frame) (fs : List Activation) (w : World) → (is_terminating f && (p == 0)) ≡ true → x.slots 0 ≡ nothing →
    begun code n (record { top = record { function = f; place = p; frame = x }; frames = fs; world = w }) ≤ 0
without_handler code n (compiled k) p x fs w e none = absurd (cc e)
without_handler code n end_catch p x fs w e none = absurd (cc e)
without_handler code n call_unexpected p x fs w e none = absurd (cc e)
without_handler code n terminating zero x fs w e none = without code fs w x n none
without_handler code n terminating (suc p) x fs w e none = absurd (never (suc p == 0) (later p) e)

pub terminate_begins_once : TerminateBeginsOnce
terminate_begins_once code zero st = omega arith
terminate_begins_once code (suc n) st = go (step code st) (step_calm code st) (λ m. terminate_begins_once code n m)
  where
    go : (next : Next) → Calm st.world.ending next → ((m : State) → begun code n m ≤ 1) → after (λ m. flag (begins_terminate m)) (begun code n) next ≤ 1
    go (finishes e w) calm rest = omega arith
    go (goes_to m) calm rest = by (begins_terminate m) refl
      where
        by : (c : Bool) → begins_terminate m ≡ c → flag c + begun code n m ≤ 1
        by false e = omega (arith, rest m)
        by true e =
            ⊎_elim (λ running. omega (arith, quiet code n m running))
            (λ none. omega (arith, without_handler code n m.top.function m.top.place m.top.frame m.frames m.world e none)) (calm.1 e)
