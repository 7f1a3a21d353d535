-- Calls that an unwind passes, and where it stops.
use Rattle.std.proofs.Common.{◌≡◌, ◌∙◌, refl, sym, ap, arith, ℕ, ◌+◌, ◌==◌, ℤ, pos, Bool, true, false, List, [], ◌∷◌, ◌++◌, length, length-append, Option, Some, None, inl, inr, if◌then◌else◌}
use Rattle.std.specs.Prelude.{◌⊎◌, is_some}
use Rattle.std.specs.List.{AllByRecursion}
use Rattle.meaning_forms.specs.Outcome.{aborted}
use Rattle.rv64_isa.specs.State.{Part}
use Rattle.region_forms.specs.World.{Word, nothing, flying, unwinding, number_word, Frame, World, type_at, with_slot}
use Rattle.linear_forms.specs.Linear.{plain, label, jump, jump_zero, pad, jump_filter, free, resume, unexpected, return}
use Rattle.linear_forms.specs.Tables.{Cover, bare, unpadded, padded}
use Rattle.linear_forms.specs.Verdict.{Verdict, target, no_way, clean, nothing_here, pad_verdict, has_cleanup}
use Rattle.linear_forms.specs.Stub.{Function, end_catch, call_unexpected, terminating, CodeOp, linear, runtime}
use Rattle.linear_forms.specs.Activation.{Code, Activation, State, Next, goes_to, finishes, by_program, fault, fetch, look, sense, stub_frame, function_word, terminated}
use Rattle.linear_forms.specs.Unwinding.{pad_entered, terminated_in, unwound_by, unwound_at, unwound_above}
use Rattle.linear_forms.specs.Forced.{forced_by, forced_at, forced_above}
use Rattle.raise_simulation.specs.Verdicts.{judged_by, forced_verdict, forced_by_table, cover_of}
use Rattle.raise_simulation.specs.Opens.{Judge}
use Rattle.linear_forms.specs.UnitRun.{code_of}
use Rattle.machine_stubs.specs.Stretches.{stub_word}
use Rattle.machine_simulation.specs.Plan.{Plan}
use Rattle.machine_simulation.specs.StubCalls.{StubWaits, DestructorWaits, UnexpectedWaits, LeavingWaits}

-- ---- a pad that is entered
pub record PadIs (o : Option CodeOp) (word : Word) (n : ℤ) (f : Function) (p : ℕ) (frame : Frame) (fs : List Activation) (w : World) (st : State) : Type 0 where
  pub object : ℕ
  pub selector : ℕ
  pub fetched : o ≡ Some (linear (pad object selector))
  pub is : st ≡ record { top = record { function = f; place = p + 1; frame = with_slot selector (number_word n) (with_slot object word frame) }; frames = fs; world = w }

pub pad_is : (o : Option CodeOp) (word : Word) (n : ℤ) (f : Function) (p : ℕ) (frame : Frame) (fs : List Activation) (w : World) (st : State) → pad_entered o word n f p frame fs w ≡ goes_to st → PadIs o word n f p frame fs w st
pad_is (Some (linear (pad x y))) word n f p frame fs w st e =
    record { object = x; selector = y; fetched = refl; is = sym (same (record { top = record { function = f; place = p + 1; frame = with_slot y (number_word n) (with_slot x word frame) }; frames = fs; world = w }) st e) }
  where
    same : (a b : State) → goes_to a ≡ goes_to b → a ≡ b
    same a b e = cc
pad_is None word n f p frame fs w st e = absurd (cc e)
pad_is (Some (runtime x)) word n f p frame fs w st e = absurd (cc e)
pad_is (Some (linear (plain x))) word n f p frame fs w st e = absurd (cc e)
pad_is (Some (linear (label x))) word n f p frame fs w st e = absurd (cc e)
pad_is (Some (linear (jump x))) word n f p frame fs w st e = absurd (cc e)
pad_is (Some (linear (jump_zero x y))) word n f p frame fs w st e = absurd (cc e)
pad_is (Some (linear (jump_filter x y z))) word n f p frame fs w st e = absurd (cc e)
pad_is (Some (linear (free x))) word n f p frame fs w st e = absurd (cc e)
pad_is (Some (linear (resume x))) word n f p frame fs w st e = absurd (cc e)
pad_is (Some (linear (unexpected x y))) word n f p frame fs w st e = absurd (cc e)
pad_is (Some (linear (return x))) word n f p frame fs w st e = absurd (cc e)

-- ---- one call
-- an unwind passes a call: nothing is said of its place, or its pad has nothing for it
pub data Passed (code : Code) (judge : Judge) (a : Activation) : Type 0 where
  through : cover_of code a ≡ unpadded → Passed code judge a
  by_pad : (q : ℕ) (chain : List ℤ) → cover_of code a ≡ padded q chain → judge a chain ≡ nothing_here → Passed code judge a

-- where an unwind stops at a call, those that wait for it stay, or the program terminates
abbrev pub StopsAt : List Activation → Next → Type 0
StopsAt fs x = (st : State) → x ≡ goes_to st → (st.frames ≡ fs) ⊎ (st.top.function ≡ terminating)

pad_stops : (o : Option CodeOp) (word : Word) (n : ℤ) (f : Function) (p : ℕ) (frame : Frame) (fs : List Activation) (w : World) → StopsAt fs (pad_entered o word n f p frame fs w)
pad_stops o word n f p frame fs w st e = inl (ap (λ s. s.frames) (pad_is o word n f p frame fs w st e).is)

pub one_of_both : (b : Bool) (x y : Next) (st : State) → (if b then x else y) ≡ goes_to st → (x ≡ goes_to st) ⊎ (y ≡ goes_to st)
one_of_both true x y st e = inl e
one_of_both false x y st e = inr e

pub begins_terminating : (h : Option ℕ) (fs : List Activation) (w : World) (st : State) → terminated h fs w ≡ goes_to st → st.top.function ≡ terminating
begins_terminating h fs w st e = by (one_of_both w.ending (finishes (by_program aborted) w) (goes_to begun) st e)
  where
    begun : State
    begun = record { top = record { function = terminating; place = 0; frame = stub_frame (function_word h) nothing nothing }; frames = fs; world = record w { ending = is_some h } }

    same : (a b : State) → goes_to a ≡ goes_to b → a ≡ b
    same a b e = cc

    by : (finishes (by_program aborted) w ≡ goes_to st) ⊎ (goes_to begun ≡ goes_to st) → st.top.function ≡ terminating
    by (inl g) = absurd (cc g)
    by (inr g) = ap (λ x. x.top.function) (sym (same begun st g))

terminate_stops : (f : Function) (frame : Frame) (fs : List Activation) (w : World) → StopsAt fs (terminated_in f frame fs w)
terminate_stops f frame fs w st e = inr (begins_terminating w.installed.terminate_handler (record { function = f; place = 0; frame = frame } ∷ fs) w st e)

-- ---- all calls
-- an unwind goes call by call: it passes one, or stops there
abbrev pub GoesByCalls : Code → Judge → (List Activation → Next) → Type 0
GoesByCalls code judge go = (a : Activation) (fs : List Activation) → (Passed code judge a × (go (a ∷ fs) ≡ go fs)) ⊎ StopsAt fs (go (a ∷ fs))

pub inner_passed : (code : Code) (judge : Judge) (go : List Activation → Next) (xs : List Activation) (a : Activation) (ys : List Activation) (st : State) → GoesByCalls code judge go → go (xs ++ a ∷ ys) ≡ goes_to st →
    st.frames ≡ ys → (st.top.function ≡ terminating → ⊥) → AllByRecursion (Passed code judge) xs
inner_passed code judge go [] a ys st steps e frames live = tt
inner_passed code judge go (x ∷ xs) a ys st steps e frames live = by (steps x (xs ++ a ∷ ys)) (inner_passed code judge go xs a ys st steps)
  where
    longer : st.frames ≡ xs ++ a ∷ ys → ⊥
    longer f = let same = ap length (sym frames ∙ f) in omega (arith, same, length-append xs (a ∷ ys))

    by : (Passed code judge x × (go (x ∷ xs ++ a ∷ ys) ≡ go (xs ++ a ∷ ys))) ⊎ StopsAt (xs ++ a ∷ ys) (go (x ∷ xs ++ a ∷ ys)) →
        (go (xs ++ a ∷ ys) ≡ goes_to st → st.frames ≡ ys → (st.top.function ≡ terminating → ⊥) → AllByRecursion (Passed code judge) xs) → AllByRecursion (Passed code judge) (x ∷ xs)
    by (inl (passed, same)) more = (passed, more (sym same ∙ e) frames live)
    by (inr stops) more = absurd (stopped (stops st e))
      where
        stopped : (st.frames ≡ xs ++ a ∷ ys) ⊎ (st.top.function ≡ terminating) → ⊥
        stopped (inl f) = longer f
        stopped (inr f) = live f

pub raise_goes : (code : Code) (d e : ℕ) (w : World) → GoesByCalls code (λ a. judged_by code a (type_at w e)) (λ fs. unwound_above code d e fs w)
raise_goes code d e w a fs = by_cover (cover_of code a) refl
  where
    judge : Judge
    judge b = judged_by code b (type_at w e)

    rest : Next
    rest = unwound_above code d e fs w

    by_verdict : (q : ℕ) (chain : List ℤ) → cover_of code a ≡ padded q chain → (v : Verdict) → judge a chain ≡ v →
        (Passed code judge a × (unwound_by code v q d e a.function a.frame fs w rest ≡ rest)) ⊎ StopsAt fs (unwound_by code v q d e a.function a.frame fs w rest)
    by_verdict q chain is (target n) said = inr (λ st g. by st (one_of_both (length fs == d) (pad_entered (fetch code a.function q) (flying e d) n a.function q a.frame fs w) (finishes fault w) st g))
      where
        by : (st : State) → (pad_entered (fetch code a.function q) (flying e d) n a.function q a.frame fs w ≡ goes_to st) ⊎ (finishes fault w ≡ goes_to st) → (st.frames ≡ fs) ⊎ (st.top.function ≡ terminating)
        by st (inl g) = pad_stops (fetch code a.function q) (flying e d) n a.function q a.frame fs w st g
        by st (inr g) = absurd (cc g)
    by_verdict q chain is no_way said = inr (terminate_stops a.function a.frame fs w)
    by_verdict q chain is clean said = inr (pad_stops (fetch code a.function q) (flying e d) (pos 0) a.function q a.frame fs w)
    by_verdict q chain is nothing_here said = inl (by_pad q chain is said, refl)

    by_cover : (c : Cover) → cover_of code a ≡ c → (Passed code judge a × (unwound_at code c d e a.function a.frame fs w rest ≡ rest)) ⊎ StopsAt fs (unwound_at code c d e a.function a.frame fs w rest)
    by_cover bare is = inr (terminate_stops a.function a.frame fs w)
    by_cover unpadded is = inl (through is, refl)
    by_cover (padded q chain) is = by_verdict q chain is (judge a chain) refl

pub forced_goes : (code : Code) (n : ℤ) (w : World) → GoesByCalls code (forced_by_table code) (λ fs. forced_above code n fs w)
forced_goes code n w a fs = by_cover (cover_of code a) refl
  where
    rest : Next
    rest = forced_above code n fs w

    by_test : (q : ℕ) (chain : List ℤ) → cover_of code a ≡ padded q chain → (b : Bool) → has_cleanup (sense code a.function) chain ≡ b →
        (Passed code (forced_by_table code) a × (forced_by code b q n a.function a.frame fs w rest ≡ rest)) ⊎ StopsAt fs (forced_by code b q n a.function a.frame fs w rest)
    by_test q chain is true said = inr (pad_stops (fetch code a.function q) (unwinding n) (pos 0) a.function q a.frame fs w)
    by_test q chain is false said = inl (by_pad q chain is (ap forced_verdict said), refl)

    by_cover : (c : Cover) → cover_of code a ≡ c → (Passed code (forced_by_table code) a × (forced_at code c n a.function a.frame fs w rest ≡ rest)) ⊎ StopsAt fs (forced_at code c n a.function a.frame fs w rest)
    by_cover bare is = inr (terminate_stops a.function a.frame fs w)
    by_cover unpadded is = inl (through is, refl)
    by_cover (padded q chain) is = by_test q chain is (has_cleanup (sense code a.function) chain) refl

-- ---- the runtime's own functions are not passed where they wait
pub record StopsStubs (judge : Judge) : Type 0 where
  pub end_catch_stops : (a : Activation) → a.function ≡ end_catch → judge a (pos 0 ∷ []) ≡ nothing_here → ⊥
  pub call_unexpected_stops : (a : Activation) → a.function ≡ call_unexpected → judge a (pos 1 ∷ pos 0 ∷ []) ≡ nothing_here → ⊥

pub raise_stops : (code : Code) (t : Option ℕ) → StopsStubs (λ a. judged_by code a t)
raise_stops code t = record {
  end_catch_stops = λ a is e. let both : clean ≡ nothing_here = ap (λ f. pad_verdict code.rows (sense code f) (pos 0 ∷ []) t) (sym is) ∙ e in cc both;
  call_unexpected_stops = λ a is e. let both : target (pos 1) ≡ nothing_here = sym (any t) ∙ ap (λ f. pad_verdict code.rows (sense code f) (pos 1 ∷ pos 0 ∷ []) t) (sym is) ∙ e in cc both;
}
  where
    any : (u : Option ℕ) → pad_verdict code.rows (sense code call_unexpected) (pos 1 ∷ pos 0 ∷ []) u ≡ target (pos 1)
    any None = refl
    any (Some x) = refl

pub forced_stops : (code : Code) → StopsStubs (forced_by_table code)
forced_stops code = record {
  end_catch_stops = λ a is e. let both : clean ≡ nothing_here = ap (λ f. forced_verdict (has_cleanup (sense code f) (pos 0 ∷ []))) (sym is) ∙ e in cc both;
  call_unexpected_stops = λ a is e. let both : clean ≡ nothing_here = ap (λ f. forced_verdict (has_cleanup (sense code f) (pos 1 ∷ pos 0 ∷ []))) (sym is) ∙ e in cc both;
}

-- what passes has a cover that lets it
passed_cover : (code : Code) (judge : Judge) (a : Activation) (c : Cover) → Passed code judge a → cover_of code a ≡ c → (c ≡ unpadded) ⊎ ((q : ℕ) × (chain : List ℤ) × (c ≡ padded q chain) × (judge a chain ≡ nothing_here))
passed_cover code judge a c (through is) at = inl (sym at ∙ is)
passed_cover code judge a c (by_pad q chain is said) at = inr (q, chain, sym at ∙ is, said)

not_bare : (code : Code) (judge : Judge) (a : Activation) → Passed code judge a → cover_of code a ≡ bare → ⊥
not_bare code judge a passed at = by (passed_cover code judge a bare passed at)
  where
    by : (bare ≡ unpadded) ⊎ ((q : ℕ) × (chain : List ℤ) × (bare ≡ padded q chain) × (judge a chain ≡ nothing_here)) → ⊥
    by (inl e) = cc e
    by (inr (q, chain, e, said)) = cc e

not_padded : (code : Code) (judge : Judge) (a : Activation) (p : ℕ) (filters : List ℤ) → Passed code judge a → cover_of code a ≡ padded p filters → (judge a filters ≡ nothing_here → ⊥) → ⊥
not_padded code judge a p filters passed at stops = by (passed_cover code judge a (padded p filters) passed at)
  where
    by : (padded p filters ≡ unpadded) ⊎ ((q : ℕ) × (chain : List ℤ) × (padded p filters ≡ padded q chain) × (judge a chain ≡ nothing_here)) → ⊥
    by (inl e) = cc e
    by (inr (q, chain, e, said)) = let same : filters ≡ chain = cc e in stops (ap (judge a) same ∙ said)

pub stub_not_passed : (p : Plan) (judge : Judge) (a : Activation) (v : World) (memory : List Part) (stack back outer : ℕ) → StubWaits p a v memory stack back outer → StopsStubs judge → Passed (code_of p.unit) judge a → ⊥
stub_not_passed p judge a v memory stack back outer w stops passed = by w.waits
  where
    code : Code
    code = code_of p.unit

    cover : (f : Function) (q : ℕ) (c : Cover) → a.function ≡ f → a.place ≡ q → look code f q ≡ c → cover_of code a ≡ c
    cover f q c callee at is = ap (λ g. look code g a.place) callee ∙ (ap (look code f) at ∙ is)

    by : DestructorWaits p a v memory stack back ⊎ UnexpectedWaits p a v memory stack back ⊎ LeavingWaits p a v memory stack back → ⊥
    by (inl d) = not_padded code judge a 4 (pos 0 ∷ []) passed (cover end_catch 1 (padded 4 (pos 0 ∷ [])) d.callee d.place refl) (stops.end_catch_stops a d.callee)
    by (inr (inl x)) = not_padded code judge a 3 (pos 1 ∷ pos 0 ∷ []) passed (cover call_unexpected 1 (padded 3 (pos 1 ∷ pos 0 ∷ [])) x.callee x.place refl) (stops.call_unexpected_stops a x.callee)
    by (inr (inr l)) = by_place l.returns
      where
        by_place : ((a.place ≡ 15) × (back ≡ stub_word p.base call_unexpected 55)) ⊎ ((a.place ≡ 16) × (back ≡ stub_word p.base call_unexpected 57)) → ⊥
        by_place (inl r) = not_bare code judge a passed (cover call_unexpected 15 bare l.callee r.0 refl)
        by_place (inr r) = not_bare code judge a passed (cover call_unexpected 16 bare l.callee r.0 refl)
