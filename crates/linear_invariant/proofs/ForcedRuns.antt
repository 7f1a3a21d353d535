-- Each operation keeps which forced unwind is on its way.
use Rattle.std.proofs.Common.{◌≡◌, inl, inr, ℕ, zero, suc, ◌+◌, ◌≤◌, ℤ, pos, negsuc, Bool, true, false, ◌==◌, List, [], ◌∷◌, Option, Some, None, refl, sym, ap, ◌∙◌, subst, if◌then◌else◌, arith}
use Rattle.std.specs.Prelude.{not, ◌&&◌}
use Rattle.std.proofs.lemmas.Bool.{and_parts}
use Rattle.meaning_forms.specs.Arithmetic.{is_zero}
use Rattle.region_forms.specs.Form.{Value, Op, evaluate, store, bind, call, construct, destroy, make, throw, rethrow, enter, leave}
use Rattle.region_forms.specs.Caught.{gives_back}
use Rattle.region_forms.specs.Ending.{bad_row}
use Rattle.region_forms.specs.Unexpected.{kept_with}
use Rattle.region_forms.specs.Lives.{is_native, is_live, is_being_built, can_travel, may_enter, may_leave, is_on_top}
use Rattle.region_forms.specs.World.{Address, Word, nothing, number_word, address_word, flying, unwinding, address_in, exception_of, exception_in_slot, with_slot, Frame, World, Exception, building, native, foreign, exception_at, type_at}
use Rattle.region_forms.specs.Evaluation.{value_in, address_of}
use Rattle.region_forms.specs.Effect.{Effect, goes, calls, raises, terminates, ends, cancels, leaves_newest, meaningless, if_some, effect, flies, entered, left, newest_of, freed, result_in}
use Rattle.linear_forms.specs.Linear.{LinearOp, plain, label, jump, jump_zero, pad, jump_filter, free, resume, unexpected, return}
use Rattle.linear_forms.specs.Tables.{bare}
use Rattle.linear_forms.specs.Stub.{Function, compiled, end_catch, terminating, call_unexpected, linear, terminating_rows}
use Rattle.linear_forms.specs.Activation.{Code, Activation, State, Next, compiled_op, fetch, look, kinds, at, on, next_if, function_word}
use Rattle.linear_forms.specs.Machine.{act_on}
use Rattle.linear_forms.specs.Operation.{performed, jumped, jumped_zero, holds_number, resumed, act}
use Rattle.linear_forms.specs.Search.{found}
use Rattle.linear_forms.specs.StubOperation.{given_back, called_held, destroyed}
use Rattle.linear_forms.specs.Unwinding.{unwind, raise}
use Rattle.linear_forms.specs.Unit.{unit_of}
use Rattle.linear_forms.specs.UnitRun.{code_of}
use Rattle.cost_paths.specs.Control.{goes_on}
use Rattle.flight_homes.specs.Keeps.{Carrying, Carried}
use Rattle.flight_homes.specs.Nest.{is_terminate}
use Rattle.flight_homes.specs.Lives.{known_in}
use Rattle.linear_invariant.specs.Calls.{Marks, unmarked, WordGoes, FlightGoes, IsStopped, CallKeeps, CallsKeep}
use Rattle.linear_invariant.specs.Code.{StepsTo, carries_on, CodeCarries}
use Rattle.linear_invariant.specs.Forced.{forced_word, forced_by, or_else, newest_forced, BeginsForced, StepsKeepForced, ForcedAreNewest}
use Rattle.linear_invariant.proofs.Rows.{catch_resumes, passing_resumes, row_has, op_there, NoResume, none_terminating}
use Rattle.linear_invariant.proofs.Given.{built_number}
use Rattle.linear_invariant.proofs.Forced.{compiled_passes, none_carried, word_carried, no_word_carried, at_place, Passes, Stays, either_stays, terminated_stays, unwind_stays, raised_stays, force_stays}
use Rattle.linear_invariant.proofs.ForcedSteps.{not_here, call_stays, leave_stays, moved, on_stays, off_stays, returned_stays}
use Rattle.linear_invariant.proofs.Tops.{called, is_pad}

abbrev state : Function → ℕ → Frame → List Activation → World → State
state f p x fs w = record { top = called f p x; frames = fs; world = w }

module _ (marks : Marks) (code : Code) (k : Carrying) (c : CodeCarries code k) (fs : List Activation) (w : World) where
  -- whatever an operation of a region does
  module _ (f : Function) (p : ℕ) (x : Frame) (rest : CallsKeep code k marks (Some f) fs w) (Begins : ℤ → Type 0) where
    abbrev before : Option ℤ
    before = newest_forced k None (called f p x ∷ fs)

    abbrev Stays_on : Next → Type 0
    Stays_on next = Stays code k c (newest_forced k None (called f p x ∷ fs)) Begins next

    pub raise_stays : (passes : (look code f p ≡ bare → ⊥) → Passes code k c None (called f p x)) (e : ℕ) (v : World) → Stays_on (raise code e (called f p x) fs v)
    raise_stays passes e v =
        raised_stays code k c before Begins e (called f p x) fs v (λ t. unwind code (look code f p) t e f x fs (flies e v))
        (λ t. unwind_stays code k c before Begins marks w (flies e v) (called f p x) fs rest refl passes t e) (found code f (look code f p) (type_at v e) fs)

    pub performed_stays : (passes : (look code f p ≡ bare → ⊥) → Passes code k c None (called f p x)) (next_stands : (y : Frame) (v : World) → Stays_on (at f (p + 1) y fs v)) (e : Effect) → ((z : ℤ) (v : World) → e ≡ cancels z v → Begins z) →
        Stays_on (performed code e (called f p x) fs w)
    performed_stays passes next_stands (goes y v) begins = next_stands y v
    performed_stays passes next_stands (calls q d given) begins = call_stays code k c before Begins f p x fs refl d given w
    performed_stays passes next_stands (raises e v) begins = raise_stays passes e v
    performed_stays passes next_stands (terminates h v) begins = terminated_stays code k c before Begins h (called f p x ∷ fs) v
    performed_stays passes next_stands (ends e v) begins = tt
    performed_stays passes next_stands (cancels z v) begins = force_stays code k c before Begins z (λ n e. inr (z, begins z v refl, e)) v (called f p x) fs
    performed_stays passes next_stands leaves_newest begins = leave_stays code k c before Begins f p x fs refl w
    performed_stays passes next_stands meaningless begins = tt

    -- what was caught goes on outwards
    newest_is : is_terminate f ≡ false → (word : Word) → forced_by None k f p (called f p x) ≡ forced_word word → before ≡ or_else (forced_word word) (newest_forced k (Some f) fs)
    newest_is other word here =
        ap (λ b. if b then None else or_else (forced_by None k f p (called f p x)) (newest_forced k (Some f) fs)) other ∙ ap (λ o. or_else o (newest_forced k (Some f) fs)) here

    pub resumed_stays : is_terminate f ≡ false → (word : Word) → forced_by None k f p (called f p x) ≡ forced_word word → Stays_on (resumed code word (called f p x) fs w)
    resumed_stays other (flying e t) here = unwind_stays code k c before Begins marks w w (called f p x) fs rest refl (λ sited. record { other = other; none = here }) t e
    resumed_stays other (unwinding z) here = force_stays code k c before Begins z (λ n e. inl (e ∙ sym (newest_is other (unwinding z) here))) w (called f p x) fs
    resumed_stays other nothing here = tt
    resumed_stays other (number_word z) here = tt
    resumed_stays other (address_word a) here = tt

    pub next_stays : (b : Bool) (next : Next) → (b ≡ true → Stays_on next) → Stays_on (next_if b w next)
    next_stays true next h = h refl
    next_stays false next h = tt

  -- a compiled function
  module _ (n p : ℕ) (x : Frame) (own : CallKeeps code k marks None (called (compiled n) p x) fs w) (rest : CallsKeep code k marks (Some (compiled n)) fs w) where
    abbrev st : State
    st = state (compiled n) p x fs w

    abbrev Begins : ℤ → Type 0
    Begins z = BeginsForced code (state (compiled n) p x fs w) z

    abbrev Stays_there : Next → Type 0
    Stays_there next = Stays code k c (newest_forced k None (called (compiled n) p x ∷ fs)) (BeginsForced code (state (compiled n) p x fs w)) next

    moves_off : (o : LinearOp) → code.op_at n p ≡ Some o → is_pad o ≡ false → carries_on o ≡ false → (q : ℕ) → StepsTo code n p o q → (y : Frame) (v : World) → Stays_there (at (compiled n) q y fs v)
    moves_off o there other none q s y v = off_stays code k c (newest_forced k None (called (compiled n) p x ∷ fs)) Begins n p x fs refl o there other marks none q s y v

    moves_on : (o : LinearOp) → code.op_at n p ≡ Some o → is_pad o ≡ false → goes_on o ≡ true → (v : World) → Stays_there (at (compiled n) (p + 1) x fs v)
    moves_on o there other more v = on_stays code k c (newest_forced k None (called (compiled n) p x ∷ fs)) Begins n p x fs refl o there other more v

    apart : (o : Op) → code.op_at n p ≡ Some (plain o) → carries_on (plain o) ≡ false → Stays_there (act code (plain o) (called (compiled n) p x) fs w)
    apart o there none =
        performed_stays (compiled n) p x rest Begins (λ sited. compiled_passes code k c None n p x o there sited) (λ y v. moves_off (plain o) there refl none (p + 1) (inl (refl, refl)) y v) (effect (kinds code (compiled n)) o x w)
        (λ z v i. record { op = o; world = v; runs = ap compiled_op there; begins = i })

    destroys : (o : Option Address) (d : ℕ) → Stays_there (performed code (if_some o (λ a. calls None d (address_word a ∷ []))) (called (compiled n) p x) fs w)
    destroys None d = tt
    destroys (Some a) d = call_stays code k c (newest_forced k None (called (compiled n) p x ∷ fs)) Begins (compiled n) p x fs refl d (address_word a ∷ []) w

    op_stays : (o : Op) → code.op_at n p ≡ Some (plain o) → Stays_there (act code (plain o) (called (compiled n) p x) fs w)
    op_stays (evaluate v) there = apart (evaluate v) there refl
    op_stays (store q v) there = apart (store q v) there refl
    op_stays (bind s q) there = apart (bind s q) there refl
    op_stays (call b args) there = apart (call b args) there refl
    op_stays (construct q d args) there = apart (construct q d args) there refl
    op_stays (destroy q d) there = destroys (address_of (code.kinds_at n) x q) d
    op_stays (make s) there = apart (make s) there refl
    op_stays (throw s t d) there = apart (throw s t d) there refl
    op_stays rethrow there = apart rethrow there refl
    op_stays (enter s) there = apart (enter s) there refl
    op_stays leave there = leave_stays code k c (newest_forced k None (called (compiled n) p x ∷ fs)) Begins (compiled n) p x fs refl w

    zero_stays : (v : Value) (l : ℕ) → code.op_at n p ≡ Some (jump_zero v l) → (o : Option ℤ) → Stays_there (jumped_zero code o l (called (compiled n) p x) fs w)
    zero_stays v l there None = tt
    zero_stays v l there (Some z) =
        either_stays code k c (newest_forced k None (called (compiled n) p x ∷ fs)) Begins (is_zero z) (jumped code l (called (compiled n) p x) fs w) (on (called (compiled n) p x) x fs w)
        (moves_off (jump_zero v l) there refl refl (code.label_at n l) (inr (l, refl, refl)) x w) (moves_off (jump_zero v l) there refl refl (p + 1) (inl (refl, refl)) x w)

    abbrev cr : Carried
    cr = at_place code k c n p x

    carried_word : k.carries n p ≡ true → FlightGoes marks code (called (compiled n) p x) fs (if k.carries n p then Some (at_place code k c n p x) else None) w → WordGoes marks code (called (compiled n) p x) fs (at_place code k c n p x) (x.slots (k.object n)) w
    carried_word here g = go (k.carries n p) here g
      where
        go : (b : Bool) → b ≡ true → FlightGoes marks code (called (compiled n) p x) fs (if b then Some (at_place code k c n p x) else None) w → WordGoes marks code (called (compiled n) p x) fs (at_place code k c n p x) (x.slots (k.object n)) w
        go true e g = g
        go false e g = absurd (cc e)

    -- a test that holds is of no forced unwind
    taken : (s l : ℕ) (z : ℤ) → code.op_at n p ≡ Some (jump_filter s z l) → holds_number (x.slots s) z ≡ true → (word : Word) → x.slots (k.object n) ≡ word → WordGoes marks code (called (compiled n) p x) fs (at_place code k c n p x) word w →
        forced_word (x.slots (k.object n)) ≡ None
    taken s l z there holds (flying e d) i h = ap forced_word i
    taken s l z there holds (unwinding u) i h =
        let number : x.slots s ≡ number_word (pos 0) = ap x.slots (c.tests n p s l z there (c.filters n p s l z there)).0 ∙ h.0 in
        let never : false ≡ true = sym (c.named n p s l z there) ∙ (ap (λ y. holds_number y z) (sym number) ∙ holds) in
        absurd (cc never)
    taken s l z there holds nothing i h = absurd h
    taken s l z there holds (number_word u) i h = absurd h
    taken s l z there holds (address_word a) i h = absurd h

    filter_stays : (s l : ℕ) (z : ℤ) → code.op_at n p ≡ Some (jump_filter s z l) → Stays_there (act code (jump_filter s z l) (called (compiled n) p x) fs w)
    filter_stays s l z there = go (holds_number (x.slots s) z) refl
      where
        go : (b : Bool) → holds_number (x.slots s) z ≡ b → Stays_there (if b then jumped code l (called (compiled n) p x) fs w else on (called (compiled n) p x) x fs w)
        go true e =
            let none = taken s l z there e (x.slots (k.object n)) refl (carried_word (c.filters n p s l z there) own.carries) in
            moved code k c (newest_forced k None (called (compiled n) p x ∷ fs)) Begins n p x fs refl (code.label_at n l) x w
            (no_word_carried code k c (k.carries n (code.label_at n l)) (at_place code k c n (code.label_at n l) x) none ∙ sym (no_word_carried code k c (k.carries n p) (at_place code k c n p x) none))
        go false e = moves_on (jump_filter s z l) there refl refl w

    here_word : (b : Bool) → k.carries n p ≡ true → (o : ℕ) → o ≡ k.object n → forced_by None k (compiled n) p (called (compiled n) p x) ≡ forced_word (x.slots o)
    here_word b here o is = word_carried code k c (k.carries n p) (at_place code k c n p x) here ∙ ap (λ i. forced_word (x.slots i)) (sym is)

    resume_stays : (s : ℕ) → code.op_at n p ≡ Some (resume s) → Stays_there (resumed code (x.slots s) (called (compiled n) p x) fs w)
    resume_stays s there = let is = c.resumes n p s there in resumed_stays (compiled n) p x rest Begins refl (x.slots s) (here_word true is.0 s is.1)

    passes_stays : (o s : ℕ) → code.op_at n p ≡ Some (unexpected o s) → Stays_there (act code (unexpected o s) (called (compiled n) p x) fs w)
    passes_stays o s there = let is = c.passes n p o s there in inr (inl (ap (λ v. or_else v (newest_forced k (Some (compiled n)) fs)) (sym (here_word true is.0 o is.1))))

    return_stays : (result : Option ℕ) → code.op_at n p ≡ Some (return result) → Stays_there (act code (return result) (called (compiled n) p x) fs w)
    return_stays result there =
        returned_stays code k c (newest_forced k None (called (compiled n) p x ∷ fs)) Begins marks w (compiled n) refl refl (result_in result x w (kinds code (compiled n))) fs rest
        (ap (λ v. or_else v (newest_forced k (Some (compiled n)) fs)) (none_carried code k c (k.carries n p) (at_place code k c n p x) (not_here code k c (newest_forced k None (called (compiled n) p x ∷ fs)) Begins n p x fs refl (return result) there refl refl)))

    pub act_stays : (o : LinearOp) → code.op_at n p ≡ Some o → Stays_there (act code o (called (compiled n) p x) fs w)
    act_stays (plain o) there = op_stays o there
    act_stays (label l) there = moves_on (label l) there refl refl w
    act_stays (jump l) there = moves_off (jump l) there refl refl (code.label_at n l) (inr (l, refl, refl)) x w
    act_stays (jump_zero v l) there = zero_stays v l there (value_in (code.kinds_at n) x w v)
    act_stays (pad o s) there = tt
    act_stays (jump_filter s z l) there = filter_stays s l z there
    act_stays (free s) there =
        next_stays (compiled n) p x rest Begins (is_being_built w (exception_in_slot x s)) (on (called (compiled n) p x) x fs (freed (exception_in_slot x s) w)) (λ e. moves_on (free s) there refl refl (freed (exception_in_slot x s) w))
    act_stays (resume s) there = resume_stays s there
    act_stays (unexpected o s) there = passes_stays o s there
    act_stays (return result) there = return_stays result there

  -- leaving a handler
  module _ (x : Frame) (rest : CallsKeep code k marks (Some end_catch) fs w) where
    abbrev Catch : ℕ → Next → Type 0
    Catch p next = Stays code k c (newest_forced k None (called end_catch p x ∷ fs)) (BeginsForced code (state end_catch p x fs w)) next

    given_stays : (z : Exception) (e : ℕ) (v : World) → Catch 0 (given_back z e 0 1 3 (called end_catch 0 x) fs v)
    given_stays building e v = inr (inl refl)
    given_stays (native t d kept) e v = inr (inl refl)
    given_stays (foreign i t) e v = inr (inl refl)

    left_stays : (b : Bool) → Catch 0 (if b then given_back (exception_at w (newest_of w.caught)) (newest_of w.caught) 0 1 3 (called end_catch 0 x) fs (left w) else at end_catch 3 x fs (left w))
    left_stays true = given_stays (exception_at w (newest_of w.caught)) (newest_of w.caught) (left w)
    left_stays false = inr (inl refl)

    destroyed_stays : (word object : Word) → Catch 1 (destroyed code word object (called end_catch 1 x) fs w)
    destroyed_stays (number_word (pos n)) object = call_stays code k c (newest_forced k None (called end_catch 1 x ∷ fs)) (BeginsForced code (state end_catch 1 x fs w)) end_catch 1 x fs refl n (object ∷ []) w
    destroyed_stays (number_word (negsuc n)) object = inr (inl refl)
    destroyed_stays nothing object = inr (inl refl)
    destroyed_stays (address_word a) object = inr (inl refl)
    destroyed_stays (flying e d) object = inr (inl refl)
    destroyed_stays (unwinding z) object = inr (inl refl)

    pub catch_stays : (p : ℕ) → Catch p (act_on code (fetch code end_catch p) (called end_catch p x) fs w)
    catch_stays zero =
        next_stays end_catch 0 x rest (BeginsForced code (state end_catch 0 x fs w)) (may_leave w w.caught)
        (if gives_back w.caught then given_back (exception_at w (newest_of w.caught)) (newest_of w.caught) 0 1 3 (called end_catch 0 x) fs (left w) else at end_catch 3 x fs (left w)) (λ may. left_stays (gives_back w.caught))
    catch_stays (suc zero) = destroyed_stays (x.slots 1) (x.slots 0)
    catch_stays (suc (suc zero)) =
        next_stays end_catch 2 x rest (BeginsForced code (state end_catch 2 x fs w)) (is_live w (exception_in_slot x 0)) (at end_catch 3 x fs (freed (exception_in_slot x 0) w)) (λ live. inr (inl refl))
    catch_stays (suc (suc (suc zero))) =
        returned_stays code k c (newest_forced k None (called end_catch 3 x ∷ fs)) (BeginsForced code (state end_catch 3 x fs w)) marks w end_catch refl refl (Some (pos 0)) fs rest refl
    catch_stays (suc (suc (suc (suc zero)))) = tt
    catch_stays (suc (suc (suc (suc (suc zero))))) =
        next_stays end_catch 5 x rest (BeginsForced code (state end_catch 5 x fs w)) (is_live w (exception_in_slot x 0)) (at end_catch 6 x fs (freed (exception_in_slot x 0) w)) (λ live. inr (inl refl))
    catch_stays (suc (suc (suc (suc (suc (suc zero)))))) = resumed_stays end_catch 6 x rest (BeginsForced code (state end_catch 6 x fs w)) refl (x.slots 2) refl
    catch_stays (suc (suc (suc (suc (suc (suc (suc p))))))) = tt

  -- terminate
  module _ (x : Frame) where
    abbrev Ending : ℕ → Next → Type 0
    Ending p next = Stays code k c (newest_forced k None (called terminating p x ∷ fs)) (BeginsForced code (state terminating p x fs w)) next

    ending_held : (word : Word) → Ending 0 (called_held code word (called terminating 0 x) fs w)
    ending_held (number_word (pos n)) = call_stays code k c (newest_forced k None (called terminating 0 x ∷ fs)) (BeginsForced code (state terminating 0 x fs w)) terminating 0 x fs refl n [] w
    ending_held (number_word (negsuc n)) = inl refl
    ending_held nothing = inl refl
    ending_held (address_word a) = inl refl
    ending_held (flying e d) = inl refl
    ending_held (unwinding z) = inl refl

    pub ending_stays : (p : ℕ) → Ending p (act_on code (fetch code terminating p) (called terminating p x) fs w)
    ending_stays zero = ending_held (x.slots 0)
    ending_stays (suc zero) = tt
    ending_stays (suc (suc p)) = tt

  -- what a specification stopped
  module _ (lives : (e : ℕ) → can_travel w e ≡ true → 1 ≤ e) (x : Frame) (rest : CallsKeep code k marks (Some call_unexpected) fs w) where
    abbrev Passing : ℕ → Next → Type 0
    Passing p next = Stays code k c (newest_forced k None (called call_unexpected p x ∷ fs)) (BeginsForced code (state call_unexpected p x fs w)) next

    -- what is entered is no forced unwind
    entered_word : (word : Word) → 1 ≤ exception_of (address_in word) → forced_word word ≡ None
    entered_word (unwinding z) le = absurd (omega (arith, le))
    entered_word (flying e d) le = refl
    entered_word nothing le = refl
    entered_word (number_word z) le = refl
    entered_word (address_word a) le = refl

    begins_stays : (h : Option ℕ) → (is_native (exception_at w (exception_in_slot x 0)) && may_enter w (exception_in_slot x 0)) ≡ true → Passing 0 (at call_unexpected 1 (with_slot 3 (function_word h) x) fs (entered (exception_in_slot x 0) w))
    begins_stays h may =
        let e = exception_in_slot x 0 in
        let enters = (and_parts (is_native (exception_at w e)) (may_enter w e) may).1 in
        let can = (and_parts (can_travel w e) (not (w.uncaught == 0) && is_on_top e w.caught) enters).0 in
        inr (inl (sym (ap (λ v. or_else v (newest_forced k (Some call_unexpected) fs)) (entered_word (x.slots 0) (lives e can)))))

    held_stays : (word : Word) → Passing 1 (called_held code word (called call_unexpected 1 x) fs w)
    held_stays (number_word (pos n)) = call_stays code k c (newest_forced k None (called call_unexpected 1 x ∷ fs)) (BeginsForced code (state call_unexpected 1 x fs w)) call_unexpected 1 x fs refl n [] w
    held_stays (number_word (negsuc n)) = inr (inl refl)
    held_stays nothing = inr (inl refl)
    held_stays (address_word a) = inr (inl refl)
    held_stays (flying e d) = inr (inl refl)
    held_stays (unwinding z) = inr (inl refl)

    stopped_word : (word : Word) → holds_number (x.slots 5) (pos 0) ≡ false → IsStopped marks word (x.slots 5) → forced_word word ≡ None
    stopped_word (flying e d) i h = refl
    stopped_word (unwinding z) i h = let never : true ≡ false = sym (ap (λ y. holds_number y (pos 0)) h.0) ∙ i in absurd (cc never)
    stopped_word nothing i h = absurd h
    stopped_word (number_word z) i h = absurd h
    stopped_word (address_word a) i h = absurd h

    tests_stay : IsStopped marks (x.slots 4) (x.slots 5) → (b : Bool) → holds_number (x.slots 5) (pos 0) ≡ b → Passing 4 (if b then jumped code 16 (called call_unexpected 4 x) fs w else on (called call_unexpected 4 x) x fs w)
    tests_stay h true i = inr (inl refl)
    tests_stay h false i = inr (inl (sym (ap (λ v. or_else v (newest_forced k (Some call_unexpected) fs)) (stopped_word (x.slots 4) i h))))

    zero_at : (p l : ℕ) → newest_forced k None (called call_unexpected l x ∷ fs) ≡ newest_forced k None (called call_unexpected p x ∷ fs) → newest_forced k None (called call_unexpected (p + 1) x ∷ fs) ≡ newest_forced k None (called call_unexpected p x ∷ fs) →
        (o : Option ℤ) → Passing p (jumped_zero code o l (called call_unexpected p x) fs w)
    zero_at p l e i None = tt
    zero_at p l e i (Some z) =
        either_stays code k c (newest_forced k None (called call_unexpected p x ∷ fs)) (BeginsForced code (state call_unexpected p x fs w)) (is_zero z) (jumped code l (called call_unexpected p x) fs w) (on (called call_unexpected p x) x fs w) (inr (inl e)) (inr (inl i))

    pub passing_stays : (p : ℕ) → CallKeeps code k marks None (called call_unexpected p x) fs w → Passing p (act_on code (fetch code call_unexpected p) (called call_unexpected p x) fs w)
    passing_stays zero own =
        let e = exception_in_slot x 0 in
        next_stays call_unexpected 0 x rest (BeginsForced code (state call_unexpected 0 x fs w)) (is_native (exception_at w e) && may_enter w e)
        (at call_unexpected 1 (with_slot 3 (function_word (kept_with (exception_at w e)).unexpected_handler) x) fs (entered e w)) (λ may. begins_stays (kept_with (exception_at w e)).unexpected_handler may)
    passing_stays (suc zero) own = held_stays (x.slots 3)
    passing_stays (suc (suc zero)) own = terminated_stays code k c (newest_forced k None (called call_unexpected 2 x ∷ fs)) (BeginsForced code (state call_unexpected 2 x fs w)) _ (called call_unexpected 2 x ∷ fs) w
    passing_stays (suc (suc (suc zero))) own = tt
    passing_stays (suc (suc (suc (suc zero)))) own = tests_stay own.slots (holds_number (x.slots 5) (pos 0)) refl
    passing_stays (suc (suc (suc (suc (suc zero))))) own =
        performed_stays call_unexpected 5 x rest (BeginsForced code (state call_unexpected 5 x fs w)) (λ sited. record { other = refl; none = refl }) (λ y v. inr (inl refl)) (effect (kinds code call_unexpected) (enter 4) x w)
        (λ z v i. record { op = enter 4; world = v; runs = refl; begins = i })
    passing_stays (suc (suc (suc (suc (suc (suc zero)))))) own = inr (inl refl)
    passing_stays (suc (suc (suc (suc (suc (suc (suc zero))))))) own = zero_at 7 10 refl refl _
    passing_stays (suc (suc (suc (suc (suc (suc (suc (suc zero)))))))) own = zero_at 8 11 refl refl _
    passing_stays (suc (suc (suc (suc (suc (suc (suc (suc (suc zero))))))))) own = terminated_stays code k c (newest_forced k None (called call_unexpected 9 x ∷ fs)) (BeginsForced code (state call_unexpected 9 x fs w)) _ (called call_unexpected 9 x ∷ fs) w
    passing_stays (suc (suc (suc (suc (suc (suc (suc (suc (suc (suc zero)))))))))) own =
        performed_stays call_unexpected 10 x rest (BeginsForced code (state call_unexpected 10 x fs w)) (λ sited. record { other = refl; none = refl }) (λ y v. inr (inl refl)) (effect (kinds code call_unexpected) (rethrow) x w)
        (λ z v i. record { op = rethrow; world = v; runs = refl; begins = i })
    passing_stays (suc (suc (suc (suc (suc (suc (suc (suc (suc (suc (suc zero))))))))))) own =
        performed_stays call_unexpected 11 x rest (BeginsForced code (state call_unexpected 11 x fs w)) (λ sited. record { other = refl; none = refl }) (λ y v. inr (inl refl)) (effect (kinds code call_unexpected) (make 7) x w)
        (λ z v i. record { op = make 7; world = v; runs = refl; begins = i })
    passing_stays (suc (suc (suc (suc (suc (suc (suc (suc (suc (suc (suc (suc zero)))))))))))) own = inr (inl refl)
    passing_stays (suc (suc (suc (suc (suc (suc (suc (suc (suc (suc (suc (suc (suc zero))))))))))))) own =
        performed_stays call_unexpected 13 x rest (BeginsForced code (state call_unexpected 13 x fs w)) (λ sited. record { other = refl; none = refl }) (λ y v. inr (inl refl)) (effect (kinds code call_unexpected) (throw 7 bad_row None) x w)
        (λ z v i. record { op = throw 7 bad_row None; world = v; runs = refl; begins = i })
    passing_stays (suc (suc (suc (suc (suc (suc (suc (suc (suc (suc (suc (suc (suc (suc zero)))))))))))))) own = tt
    passing_stays (suc (suc (suc (suc (suc (suc (suc (suc (suc (suc (suc (suc (suc (suc (suc zero))))))))))))))) own = leave_stays code k c (newest_forced k None (called call_unexpected 15 x ∷ fs)) (BeginsForced code (state call_unexpected 15 x fs w)) call_unexpected 15 x fs refl w
    passing_stays (suc (suc (suc (suc (suc (suc (suc (suc (suc (suc (suc (suc (suc (suc (suc (suc zero)))))))))))))))) own = leave_stays code k c (newest_forced k None (called call_unexpected 16 x ∷ fs)) (BeginsForced code (state call_unexpected 16 x fs w)) call_unexpected 16 x fs refl w
    passing_stays (suc (suc (suc (suc (suc (suc (suc (suc (suc (suc (suc (suc (suc (suc (suc (suc (suc zero))))))))))))))))) own = resumed_stays call_unexpected 17 x rest (BeginsForced code (state call_unexpected 17 x fs w)) refl (x.slots 4) refl
    passing_stays (suc (suc (suc (suc (suc (suc (suc (suc (suc (suc (suc (suc (suc (suc (suc (suc (suc (suc p)))))))))))))))))) own = tt

  step_stays : (f : Function) (p : ℕ) (x : Frame) → ((e : ℕ) → can_travel w e ≡ true → 1 ≤ e) → CallKeeps code k marks None (called f p x) fs w → CallsKeep code k marks (Some f) fs w →
      Stays code k c (newest_forced k None (called f p x ∷ fs)) (BeginsForced code (state f p x fs w)) (act_on code (fetch code f p) (called f p x) fs w)
  step_stays (compiled n) p x lives own rest = go (code.op_at n p) refl
    where
      go : (o : Option LinearOp) → code.op_at n p ≡ o → Stays code k c (newest_forced k None (called (compiled n) p x ∷ fs)) (BeginsForced code (state (compiled n) p x fs w)) (act_on code (compiled_op o) (called (compiled n) p x) fs w)
      go None e = tt
      go (Some o) e = act_stays n p x own rest o e
  step_stays end_catch p x lives own rest = catch_stays x rest p
  step_stays terminating p x lives own rest = ending_stays x p
  step_stays call_unexpected p x lives own rest = passing_stays lives x rest p own

pub steps_keep_forced : StepsKeepForced
steps_keep_forced r k steps st next fits h e =
    let code = code_of (unit_of r) in
    let c = fits.carries in
    subst (Stays code k c (newest_forced k None (st.top ∷ st.frames)) (BeginsForced code st)) e
    (step_stays (unmarked (known_in r)) code k c st.frames st.world st.top.function st.top.place st.top.frame
    (λ i can. (built_number (known_in r) st.world.last_number st.world.live i h.lives.lives can).0) h.calls.0 h.calls.1)

-- what goes on outwards is the newest
goes_out : (code : Code) (k : Carrying) (c : CodeCarries code k) (f : Function) (p s : ℕ) (x : Frame) (fs : List Activation) (z : ℤ) → fetch code f p ≡ Some (linear (resume s)) → x.slots s ≡ unwinding z → newest_forced k None (called f p x ∷ fs) ≡ Some z
goes_out code k c (compiled n) p s x fs z runs is =
    let i = c.resumes n p s (op_there (code.op_at n p) (resume s) runs) in
    ap (λ v. or_else v (newest_forced k (Some (compiled n)) fs)) (word_carried code k c (k.carries n p) (at_place code k c n p x) i.0 ∙ ap forced_word (ap x.slots (sym i.1) ∙ is))
goes_out code k c end_catch p s x fs z runs is =
    let i = catch_resumes p s runs in
    subst (λ q. newest_forced k None (called end_catch q x ∷ fs) ≡ Some z) i.0 (ap (λ v. or_else v (newest_forced k (Some end_catch) fs)) (ap forced_word (ap x.slots i.1 ∙ is)))
goes_out code k c terminating p s x fs z runs is = absurd (row_has NoResume terminating_rows none_terminating p (linear (resume s)) runs)
goes_out code k c call_unexpected p s x fs z runs is =
    let i = passing_resumes p s runs in
    subst (λ q. newest_forced k None (called call_unexpected q x ∷ fs) ≡ Some z) i.0 (ap (λ v. or_else v (newest_forced k (Some call_unexpected) fs)) (ap forced_word (ap x.slots i.1 ∙ is)))

pub forced_are_newest : ForcedAreNewest
forced_are_newest r k steps s z st fits h runs is = goes_out (code_of (unit_of r)) k fits.carries st.top.function st.top.place s st.top.frame st.frames z runs is
