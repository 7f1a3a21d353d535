-- The selectors that pads are entered with.
use Rattle.std.proofs.Common.{◌≡◌, ◌∙◌, refl, sym, ap, subst, arith, ℕ, ◌<◌, ◌==◌, ℤ, pos, Bool, true, false, List, [], ◌∷◌, ◌++◌, length, length-append, Option, Some, None, inl, inr}
use Rattle.std.specs.Prelude.{◌⊎◌, if◌then◌else◌}
use Rattle.std.specs.List.{AllByRecursion}
use Rattle.std.proofs.lemmas.Bool.Decides.{nat_tests}
use Rattle.region_forms.specs.Form.{TypeRow}
use Rattle.region_forms.specs.Guard.{matches, allows}
use Rattle.region_forms.specs.World.{Word, number_word, flying, unwinding, Frame, World, type_at, with_slot}
use Rattle.linear_forms.specs.Tables.{padded, Sense, cleanup, clause, list_of, no_sense}
use Rattle.linear_forms.specs.Verdict.{Verdict, target, no_way, clean, nothing_here, or_clean, judged, verdict, pad_verdict, has_cleanup}
use Rattle.linear_forms.specs.Stub.{Function, terminating, CodeOp}
use Rattle.linear_forms.specs.Activation.{Code, Activation, State, Next, goes_to, finishes, fault, fetch, sense}
use Rattle.linear_forms.specs.Unwinding.{pad_entered, unwound_by, unwound_at, unwound_above}
use Rattle.linear_forms.specs.Forced.{forced_by, forced_at, forced_above}
use Rattle.machine_pieces.specs.Numbers.{IsInt}
use Rattle.raise_simulation.specs.Verdicts.{judged_by, forced_by_table, cover_of}
use Rattle.raise_simulation.specs.Opens.{Judge}
use Rattle.machine_raises.proofs.Passing.{pad_is, Passed, StopsAt, one_of_both, begins_terminating, GoesByCalls}

-- ---- what a verdict selects is one of its filters
chosen : (rows : List TypeRow) (senses : ℤ → Sense) (chain : List ℤ) (t : Option ℕ) (n : ℤ) → verdict rows senses chain t ≡ target n → AllByRecursion IsInt chain → IsInt n
chosen rows senses [] t n e ints = absurd (cc e)
chosen rows senses (m ∷ chain) t n e ints = by t (senses m) (verdict rows senses chain t) (λ f. chosen rows senses chain t n f ints.1) e
  where
    cleaned : (v : Verdict) → or_clean v ≡ target n → v ≡ target n
    cleaned (target k) e = e
    cleaned no_way e = e
    cleaned clean e = e
    cleaned nothing_here e = absurd (cc e)

    taken : target m ≡ target n → IsInt n
    taken e = let same : m ≡ n = cc e in cc ints.0

    either : (b : Bool) (rest : Verdict) → (rest ≡ target n → IsInt n) → (if b then target m else rest) ≡ target n → IsInt n
    either true rest more e = taken e
    either false rest more e = more e

    other : (b : Bool) (rest : Verdict) → (rest ≡ target n → IsInt n) → (if b then rest else target m) ≡ target n → IsInt n
    other true rest more e = more e
    other false rest more e = taken e

    by : (u : Option ℕ) (s : Sense) (rest : Verdict) → (rest ≡ target n → IsInt n) → judged rows u m s rest ≡ target n → IsInt n
    by u cleanup rest more e = more (cleaned rest e)
    by u (clause k) rest more e = either (matches rows u k) rest more e
    by None (list_of types) rest more e = absurd (cc e)
    by (Some k) (list_of types) rest more e = other (allows rows types (Some k)) rest more e
    by None no_sense rest more e = more e
    by (Some k) no_sense rest more e = more e

pub pad_chosen : (rows : List TypeRow) (senses : ℤ → Sense) (chain : List ℤ) (t : Option ℕ) (n : ℤ) → pad_verdict rows senses chain t ≡ target n → AllByRecursion IsInt chain → IsInt n
pad_chosen rows senses [] t n e ints = absurd (cc e)
pad_chosen rows senses (m ∷ chain) t n e ints = chosen rows senses (m ∷ chain) t n e ints

-- ---- a pad is entered with one selector
itself : (s : ℕ) → (s == s) ≡ true
itself s = grind (arith, nat_tests)

pub one_selector : (o : Option CodeOp) (x y : Word) (n m : ℤ) (f : Function) (p : ℕ) (frame : Frame) (fs : List Activation) (w u : World) (st : State) → pad_entered o x n f p frame fs w ≡ goes_to st → pad_entered o y m f p frame fs u ≡ goes_to st →
    n ≡ m
one_selector o x y n m f p frame fs w u st one two =
    let a = pad_is o x n f p frame fs w st one in
    let b = pad_is o y m f p frame fs u st two in
    let ops = sym a.fetched ∙ b.fetched in
    let slot : a.selector ≡ b.selector = cc ops in
    let words : number_word n ≡ number_word m
    = sym (ap (λ c. if c then number_word n else (with_slot a.object x frame).slots a.selector) (itself a.selector)) ∙ ap (λ (s : State). s.top.frame.slots a.selector) (sym a.is ∙ b.is)
    ∙ ap (λ k. if k == a.selector then number_word m else (with_slot b.object y frame).slots a.selector) (sym slot)
    ∙ ap (λ c. if c then number_word m else (with_slot b.object y frame).slots a.selector) (itself a.selector) in
    cc words

-- ---- where an unwind stops
-- an unwind leaves fewer calls
fewer : (code : Code) (judge : Judge) (go : List Activation → Next) (fs : List Activation) (st : State) → GoesByCalls code judge go → (go [] ≡ goes_to st → ⊥) → go fs ≡ goes_to st →
    (length st.frames < length fs) ⊎ (st.top.function ≡ terminating)
fewer code judge go [] st steps ends e = absurd (ends e)
fewer code judge go (a ∷ fs) st steps ends e = by (steps a fs) (fewer code judge go fs st steps ends)
  where
    by : (Passed code judge a × (go (a ∷ fs) ≡ go fs)) ⊎ StopsAt fs (go (a ∷ fs)) → (go fs ≡ goes_to st → (length st.frames < length fs) ⊎ (st.top.function ≡ terminating)) →
        (length st.frames < length (a ∷ fs)) ⊎ (st.top.function ≡ terminating)
    by (inl (passed, same)) more = longer (more (sym same ∙ e))
      where
        longer : (length st.frames < length fs) ⊎ (st.top.function ≡ terminating) → (length st.frames < length (a ∷ fs)) ⊎ (st.top.function ≡ terminating)
        longer (inl less) = inl (omega (arith, less))
        longer (inr there) = inr there
    by (inr stops) more = here (stops st e)
      where
        here : (st.frames ≡ fs) ⊎ (st.top.function ≡ terminating) → (length st.frames < length (a ∷ fs)) ⊎ (st.top.function ≡ terminating)
        here (inl is) = inl (omega (arith, ap length is))
        here (inr there) = inr there

-- ---- the selector of a landing
-- The first call of an unwind stops it in a pad, and its filters are ints: so is the selector.
abbrev pub SelectsWhere : Code → (List Activation → Next) → (ℤ → Type 0) → Type 0
SelectsWhere code go P = (a : Activation) (fs : List Activation) (st : State) (q : ℕ) (chain : List ℤ) (word : Word) (n : ℤ) (u : World) → go (a ∷ fs) ≡ goes_to st → st.frames ≡ fs → (st.top.function ≡ terminating → ⊥) → cover_of code a ≡ padded q chain →
    pad_entered (fetch code a.function q) word n a.function q a.frame fs u ≡ goes_to st → AllByRecursion IsInt chain → P n

abbrev pub SelectsInts : Code → (List Activation → Next) → Type 0
SelectsInts code go = SelectsWhere code go IsInt

pub raise_selects : (code : Code) (d e : ℕ) (w : World) → GoesByCalls code (λ a. judged_by code a (type_at w e)) (λ fs. unwound_above code d e fs w) → SelectsInts code (λ fs. unwound_above code d e fs w)
raise_selects code d e w steps a fs st q chain word n u goes frames live cover pad ints =
    by (pad_verdict code.rows (sense code a.function) chain (type_at w e)) refl (sym (ap (λ c. unwound_at code c d e a.function a.frame fs w rest) cover) ∙ goes)
  where
    rest : Next
    rest = unwound_above code d e fs w

    judge : Judge
    judge b = judged_by code b (type_at w e)

    by : (v : Verdict) → pad_verdict code.rows (sense code a.function) chain (type_at w e) ≡ v → unwound_by code v q d e a.function a.frame fs w rest ≡ goes_to st → IsInt n
    by (target k) said g = one (one_of_both (length fs == d) (pad_entered (fetch code a.function q) (flying e d) k a.function q a.frame fs w) (finishes fault w) st g)
      where
        one : (pad_entered (fetch code a.function q) (flying e d) k a.function q a.frame fs w ≡ goes_to st) ⊎ (finishes fault w ≡ goes_to st) → IsInt n
        one (inl h) =
            let same : k ≡ n = one_selector (fetch code a.function q) (flying e d) word k n a.function q a.frame fs w u st h pad in
            pad_chosen code.rows (sense code a.function) chain (type_at w e) n (said ∙ ap target same) ints
        one (inr h) = absurd (cc h)
    by no_way said g = absurd (live (begins_terminating w.installed.terminate_handler (record { function = a.function; place = 0; frame = a.frame } ∷ fs) w st g))
    by clean said g =
        let same : pos 0 ≡ n = one_selector (fetch code a.function q) (flying e d) word (pos 0) n a.function q a.frame fs w u st g pad in
        cc same
    by nothing_here said g = absurd (none (fewer code judge (λ xs. unwound_above code d e xs w) fs st steps (λ h. absurd (cc h)) g))
      where
        none : (length st.frames < length fs) ⊎ (st.top.function ≡ terminating) → ⊥
        none (inl less) = omega (arith, less, ap length frames)
        none (inr there) = live there

pub forced_zero : (code : Code) (k : ℤ) (w : World) → GoesByCalls code (forced_by_table code) (λ fs. forced_above code k fs w) → SelectsWhere code (λ fs. forced_above code k fs w) (λ n. n ≡ pos 0)
forced_zero code k w steps a fs st q chain word n u goes frames live cover pad ints =
    by (has_cleanup (sense code a.function) chain) (sym (ap (λ c. forced_at code c k a.function a.frame fs w rest) cover) ∙ goes)
  where
    rest : Next
    rest = forced_above code k fs w

    by : (b : Bool) → forced_by code b q k a.function a.frame fs w rest ≡ goes_to st → n ≡ pos 0
    by true g = sym (one_selector (fetch code a.function q) (unwinding k) word (pos 0) n a.function q a.frame fs w u st g pad)
    by false g = absurd (none (fewer code (forced_by_table code) (λ xs. forced_above code k xs w) fs st steps (λ h. absurd (cc h)) g))
      where
        none : (length st.frames < length fs) ⊎ (st.top.function ≡ terminating) → ⊥
        none (inl less) = omega (arith, less, ap length frames)
        none (inr there) = live there

pub forced_selects : (code : Code) (k : ℤ) (w : World) → GoesByCalls code (forced_by_table code) (λ fs. forced_above code k fs w) → SelectsInts code (λ fs. forced_above code k fs w)
forced_selects code k w steps a fs st q chain word n u goes frames live cover pad ints =
    subst IsInt (sym (forced_zero code k w steps a fs st q chain word n u goes frames live cover pad ints)) refl

-- the unwind comes to the call where it stops
pub inner_gone : (code : Code) (judge : Judge) (go : List Activation → Next) (xs : List Activation) (a : Activation) (ys : List Activation) (st : State) → GoesByCalls code judge go → go (xs ++ a ∷ ys) ≡ goes_to st →
    st.frames ≡ ys → (st.top.function ≡ terminating → ⊥) → go (a ∷ ys) ≡ goes_to st
inner_gone code judge go [] a ys st steps e frames live = e
inner_gone code judge go (x ∷ xs) a ys st steps e frames live = by (steps x (xs ++ a ∷ ys)) (inner_gone code judge go xs a ys st steps)
  where
    by : (Passed code judge x × (go (x ∷ xs ++ a ∷ ys) ≡ go (xs ++ a ∷ ys))) ⊎ StopsAt (xs ++ a ∷ ys) (go (x ∷ xs ++ a ∷ ys)) → (go (xs ++ a ∷ ys) ≡ goes_to st → st.frames ≡ ys → (st.top.function ≡ terminating → ⊥) → go (a ∷ ys) ≡ goes_to st) →
        go (a ∷ ys) ≡ goes_to st
    by (inl (passed, same)) more = more (sym same ∙ e) frames live
    by (inr stops) more = absurd (stopped (stops st e))
      where
        stopped : (st.frames ≡ xs ++ a ∷ ys) ⊎ (st.top.function ≡ terminating) → ⊥
        stopped (inl f) = let same = ap length (sym frames ∙ f) in omega (arith, same, length-append xs (a ∷ ys))
        stopped (inr f) = live f
