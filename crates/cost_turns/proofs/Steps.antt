-- Each step of the machine for linear code is paid by what open calls have left, and by its turns.
use Rattle.std.proofs.Common.{◌≡◌, ℕ, suc, ◌+◌, ◌-◌, ◌*◌, ◌≤◌, Bool, true, false, List, ◌∷◌, Option, Some, refl, sym, ap, ◌∙◌, subst, if◌then◌else◌, arith}
use Rattle.std.specs.Prelude.{nat_le, nat_lt}
use Rattle.std.proofs.lemmas.Bool.Decides.{nat_tests}
use Rattle.region_forms.specs.Form.{leave}
use Rattle.region_forms.specs.World.{Word, Frame, World}
use Rattle.region_forms.specs.Effect.{Effect, goes, calls as calls_effect, raises, terminates, ends, cancels, leaves_newest, meaningless, new_frame, new_world}
use Rattle.linear_forms.specs.Linear.{plain, label, jump, jump_zero, pad, jump_filter, free, resume, unexpected, return}
use Rattle.linear_forms.specs.Stub.{Function, compiled, CodeOp, linear, runtime, terminating_rows}
use Rattle.linear_forms.specs.Activation.{Code, Activation, State, Next, goes_to, finishes, fetch, at, on, depth_of, enters_function, terminated}
use Rattle.linear_forms.specs.Operation.{performed}
use Rattle.cost_turns.specs.Weights.{is_own, rows_weight, whole, weight_of, pad_weight}
use Rattle.cost_turns.specs.Runs.{in_front, may_land, entered}
use Rattle.cost_turns.specs.Turns.{flag, is_terminating, calls, jumps_back, begins_terminate, turned}
use Rattle.cost_turns.proofs.Stubs.{IsStub}
use Rattle.cost_turns.proofs.Pace.{op_goes_on, NoJump, cap, Paced}
use Rattle.cost_turns.proofs.Effects.{NotLeaving}
use Rattle.cost_turns.proofs.Credit.{beneath, Unless, WaitsAt, below_left, left, Linked, Comes, at_comes, Reached, terminated_reached}
use Rattle.cost_turns.proofs.Unwound.{raise_reached, force_reached}

-- sums of turns

begins_counts : (l : ℕ) (c b t : Bool) → l * flag t ≤ l * (flag c + flag b + flag t)
begins_counts l true true true = omega arith
begins_counts l true true false = omega arith
begins_counts l true false true = omega arith
begins_counts l true false false = omega arith
begins_counts l false true true = omega arith
begins_counts l false true false = omega arith
begins_counts l false false true = omega arith
begins_counts l false false false = omega arith

call_counts : (l : ℕ) (c b t : Bool) → c ≡ true → l ≤ l * (flag c + flag b + flag t)
call_counts l true true true e = omega arith
call_counts l true true false e = omega arith
call_counts l true false true e = omega arith
call_counts l true false false e = omega arith
call_counts l false b t e = absurd (cc e)

back_counts : (l : ℕ) (c b t : Bool) → b ≡ true → l ≤ l * (flag c + flag b + flag t)
back_counts l true true true e = omega arith
back_counts l true true false e = omega arith
back_counts l false true true e = omega arith
back_counts l false true false e = omega arith
back_counts l c false t e = absurd (cc e)

-- an operation weighs no more than it weighs with what it calls
pub less_whole : (weigh : Bool → CodeOp → ℕ) (own : Bool) (o : CodeOp) → weigh own o ≤ whole weigh own o
less_whole weigh own (linear (unexpected o s)) = omega arith
less_whole weigh own (linear (plain leave)) = omega arith
less_whole weigh own o = omega arith

-- an operation that may come to a landing pad is none
none_lands : (weigh : CodeOp → ℕ) (o : CodeOp) → (if may_land (Some o) then pad_weight weigh (Some o) else 0) ≡ 0
none_lands weigh (linear (plain o)) = refl
none_lands weigh (linear (label l)) = refl
none_lands weigh (linear (jump l)) = refl
none_lands weigh (linear (jump_zero v l)) = refl
none_lands weigh (linear (pad o s)) = refl
none_lands weigh (linear (jump_filter s n l)) = refl
none_lands weigh (linear (free s)) = refl
none_lands weigh (linear (resume s)) = refl
none_lands weigh (linear (unexpected o s)) = refl
none_lands weigh (linear (return r)) = refl
none_lands weigh (runtime o) = refl

none_else : (b : Bool) (n : ℕ) → n ≡ 0 → (if b then n else 0) ≡ 0
none_else true n e = e
none_else false n e = refl

most_else : (b : Bool) (n : ℕ) → (if b then n else 0) ≤ n
most_else true n = omega arith
most_else false n = omega arith

one_more : (n m : ℕ) → m ≡ n + 1 → nat_lt n m ≡ true
one_more n m e = grind (arith, nat_tests, e)

is_below : (n m : ℕ) → n ≤ m → nat_le n m ≡ true
is_below n m le = grind (arith, nat_tests, le)

module _ (code : Code) (weigh : Bool → CodeOp → ℕ) (longest : ℕ) (rank : Function → ℕ → ℕ) (pace : Paced code weigh longest rank) (ending : rows_weight (weigh true) terminating_rows ≤ longest) where
  abbrev pub Paid : State → Next → Type 0
  Paid st (finishes e w) = Unit {0}
  Paid st (goes_to next) =
      (weight_of (weigh (is_own st.top.function)) (fetch code st.top.function st.top.place) + entered code weigh st next + left code weigh longest rank pace ending next
      ≤ left code weigh longest rank pace ending st + longest * turned code st next) ×
      Linked code weigh longest rank pace ending next.top.function next.frames

  module _ (st : State) (o : CodeOp) (there : fetch code st.top.function st.top.place ≡ Some o) (linked : Linked code weigh longest rank pace ending st.top.function st.frames) where
    abbrev own : Bool
    own = is_own st.top.function

    -- what is left when the operation is paid
    abbrev paid_left : ℕ
    paid_left = cap weigh longest st.top.function - (rank st.top.function st.top.place + whole weigh own o) + beneath (is_terminating st.top.function) (below_left code weigh longest rank pace ending st.frames)

    whole_paid : paid_left + whole weigh own o ≤ left code weigh longest rank pace ending st
    whole_paid = omega (arith, pace.inside st.top.function st.top.place o there)

    weight : weight_of (weigh own) (fetch code st.top.function st.top.place) ≡ weigh own o
    weight = ap (weight_of (weigh own)) there

    -- no landing pad is entered
    abbrev NoneEntered : Next → Type 0
    NoneEntered (finishes e w) = Unit {0}
    NoneEntered (goes_to next) = entered code weigh st next ≡ 0

    from_comes : (n : ℕ) (next : Next) → NoneEntered next → n + weigh own o ≤ left code weigh longest rank pace ending st → Comes code weigh longest rank pace ending n next → Paid st next
    from_comes n (finishes e w) none le h = tt
    from_comes n (goes_to next) none le h = (omega (arith, weight, none, le, h.0, begins_counts longest (calls st next) (jumps_back code st) (begins_terminate next)), h.1)

    -- an operation that comes to none
    calm_enters : may_land (Some o) ≡ false → (next : Next) → NoneEntered next
    calm_enters calm (finishes e w) = tt
    calm_enters calm (goes_to next) =
        let none : may_land (fetch code st.top.function st.top.place) ≡ false = ap may_land there ∙ calm in
        ap (λ b. if b then pad_weight (weigh (is_own next.top.function)) (in_front code next.top.function next.top.place) else 0) none

    -- the next one of a call is none
    next_enters : (x : Frame) (w : World) → NoneEntered (on st.top x st.frames w)
    next_enters x w =
        let count : st.top.place + 1 ≡ suc st.top.place = omega arith in
        let front : in_front code st.top.function (st.top.place + 1) ≡ Some o = ap (in_front code st.top.function) count ∙ there in
        ap (λ y. if may_land (fetch code st.top.function st.top.place) then pad_weight (weigh own) y else 0) front
        ∙ ap (λ y. if may_land y then pad_weight (weigh own) (Some o) else 0) there ∙ none_lands (weigh own) o

    -- the beginning of a function is none
    first_enters : (f : Function) (x : Frame) (fs : List Activation) (w : World) → NoneEntered (at f 0 x fs w)
    first_enters f x fs w = none_else (may_land (fetch code st.top.function st.top.place)) 0 refl

    pub from_calm : may_land (Some o) ≡ false → (n : ℕ) (next : Next) → n + weigh own o ≤ left code weigh longest rank pace ending st → Comes code weigh longest rank pace ending n next → Paid st next
    from_calm calm n next le h = from_comes n next (calm_enters calm next) le h

    from_reached : (n : ℕ) (next : Next) → n + weigh own o ≤ left code weigh longest rank pace ending st → Reached code weigh longest rank pace ending n next → Paid st next
    from_reached n (finishes e w) le h = tt
    from_reached n (goes_to next) le h =
        let most = most_else (may_land (fetch code st.top.function st.top.place)) (pad_weight (weigh (is_own next.top.function)) (in_front code next.top.function next.top.place)) in
        (omega (arith, weight, most, le, h.0, begins_counts longest (calls st next) (jumps_back code st) (begins_terminate next)), h.1)

    pub reached_paid : (next : Next) → Reached code weigh longest rank pace ending paid_left next → Paid st next
    reached_paid next h = from_reached paid_left next (omega (arith, whole_paid, less_whole weigh own o)) h

    comes_paid : (next : Next) → NoneEntered next → Comes code weigh longest rank pace ending paid_left next → Paid st next
    comes_paid next none h = from_comes paid_left next none (omega (arith, whole_paid, less_whole weigh own o)) h

    pub on_paid : (x : Frame) (w : World) → op_goes_on o ≡ true → Paid st (on st.top x st.frames w)
    on_paid x w goes_further =
        let up = pace.next st.top.function st.top.place o there goes_further in
        comes_paid (on st.top x st.frames w) (next_enters x w) (at_comes code weigh longest rank pace ending paid_left st.top.function (st.top.place + 1) x st.frames w (omega (arith, up)) linked)

    pub at_paid : may_land (Some o) ≡ false → (q : ℕ) (x : Frame) (w : World) → rank st.top.function st.top.place + whole weigh own o ≤ rank st.top.function q → Paid st (at st.top.function q x st.frames w)
    at_paid calm q x w up = comes_paid (at st.top.function q x st.frames w) (calm_enters calm (at st.top.function q x st.frames w)) (at_comes code weigh longest rank pace ending paid_left st.top.function q x st.frames w (omega (arith, up)) linked)

    pub terminated_paid : (h : Option ℕ) (fs : List Activation) (w : World) → Paid st (terminated h fs w)
    terminated_paid h fs w = reached_paid _ (terminated_reached code weigh longest rank pace ending paid_left h fs w)

    -- what waits behind a call that begins
    waiting : below_left code weigh longest rank pace ending (st.top ∷ st.frames) ≤ paid_left
    waiting = let same = ap (weight_of (whole weigh own)) there in omega (arith, same)

    linked_behind : (f : Function) → is_terminating f ≡ false → WaitsAt f (Some o) → Linked code weigh longest rank pace ending f (st.top ∷ st.frames)
    linked_behind f e waits = subst (λ b. Unless b (WaitsAt f (fetch code st.top.function st.top.place) × Linked code weigh longest rank pace ending st.top.function st.frames)) (sym e) (subst (WaitsAt f) (sym there) waits, linked)

    pub call_paid : (n : ℕ) (given : List Word) (w : World) → WaitsAt (compiled n) (Some o) → Paid st (enters_function code n given (st.top ∷ st.frames) w)
    call_paid n given w waits =
        let next : State = record { top = record { function = compiled n; place = 0; frame = new_frame (code.kinds_at n) given w }; frames = st.top ∷ st.frames; world = new_world (code.kinds_at n) given (depth_of (st.top ∷ st.frames) + 1) w } in
        let counted = call_counts longest (calls st next) (jumps_back code st) (begins_terminate next) (one_more (depth_of (st.top ∷ st.frames)) (depth_of (next.top ∷ next.frames)) refl) in
        let none : entered code weigh st next ≡ 0 = none_else (may_land (fetch code st.top.function st.top.place)) 0 refl in
        (omega (arith, weight, none, whole_paid, less_whole weigh own o, waiting, counted), linked_behind (compiled n) refl waits)

    pub stub_paid : (f : Function) (x : Frame) (w : World) → IsStub f → is_terminating f ≡ false → cap weigh longest f + weigh own o ≤ whole weigh own o → WaitsAt f (Some o) → Paid st (at f 0 x (st.top ∷ st.frames) w)
    stub_paid f x w stub e le waits =
        let same = ap (λ b. beneath b (below_left code weigh longest rank pace ending (st.top ∷ st.frames))) e in
        from_comes (paid_left + cap weigh longest f) (at f 0 x (st.top ∷ st.frames) w) (first_enters f x (st.top ∷ st.frames) w) (omega (arith, whole_paid, le))
        (at_comes code weigh longest rank pace ending (paid_left + cap weigh longest f) f 0 x (st.top ∷ st.frames) w (omega (arith, waiting, same)) (linked_behind f e waits))

    -- a jump back is a turn
    pub back_paid : may_land (Some o) ≡ false → (q : ℕ) (x : Frame) (w : World) → cap weigh longest st.top.function ≤ longest → jumps_back code st ≡ true → Paid st (at st.top.function q x st.frames w)
    back_paid calm q x w small back =
        let next : State = record { top = record { function = st.top.function; place = q; frame = x }; frames = st.frames; world = w } in
        let none = calm_enters calm (at st.top.function q x st.frames w) in
        (omega (arith, weight, none, whole_paid, less_whole weigh own o, small, back_counts longest (calls st next) (jumps_back code st) (begins_terminate next) back), linked)

    -- an effect of an operation other than leaving
    pub performed_paid : (e : Effect) (w : World) → NoJump o → op_goes_on o ≡ true → ((n : ℕ) → WaitsAt (compiled n) (Some o)) → NotLeaving e → Paid st (performed code e st.top st.frames w)
    performed_paid (goes x v) w no_jump further waits other = on_paid x v further
    performed_paid (calls_effect p n given) w no_jump further waits other = call_paid n given w (waits n)
    performed_paid (raises e v) w no_jump further waits other = reached_paid _ (raise_reached code weigh longest rank pace ending paid_left st.top o st.frames there no_jump (omega arith) linked e v)
    performed_paid (terminates h v) w no_jump further waits other = terminated_paid h (st.top ∷ st.frames) v
    performed_paid (ends e v) w no_jump further waits other = tt
    performed_paid (cancels z v) w no_jump further waits other = reached_paid _ (force_reached code weigh longest rank pace ending paid_left st.top o st.frames there no_jump (omega arith) linked z v)
    performed_paid leaves_newest w no_jump further waits other = absurd other
    performed_paid meaningless w no_jump further waits other = tt
