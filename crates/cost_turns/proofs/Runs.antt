-- A run weighs no more than its turns pay for.
use Rattle.std.proofs.Common.{◌≡◌, ℕ, zero, suc, ◌+◌, ◌*◌, ◌≤◌, Option, Some, None, refl, ap, arith, Bool, true}
use Rattle.linear_forms.specs.Stub.{Function, CodeOp, terminating_rows}
use Rattle.linear_forms.specs.Activation.{Code, State, Next, goes_to, finishes, fetch}
use Rattle.linear_forms.specs.Machine.{step}
use Rattle.linear_forms.specs.Unit.{unit_of}
use Rattle.linear_forms.specs.UnitRun.{code_of, first_state}
use Rattle.cost_turns.specs.Weights.{is_own, rows_weight, weight_of}
use Rattle.cost_turns.specs.Turns.{flag, calls, jumps_back, begins_terminate, turned}
use Rattle.cost_turns.specs.Runs.{after, entered, weighed, turns, RunsWeighLittle}
use Rattle.cost_turns.specs.Once.{begun, counted, RunsWeighByCalls}
use Rattle.cost_turns.proofs.Pace.{Paced, paces}
use Rattle.cost_turns.proofs.Credit.{left, Linked}
use Rattle.cost_turns.proofs.Steps.{less_whole, Paid}
use Rattle.cost_turns.proofs.Acts.{step_paid}
use Rattle.cost_turns.proofs.Once.{terminate_begins_once}

both_turns : (l m n : ℕ) → l * (m + n) ≡ l * m + l * n
both_turns zero m n = omega arith
both_turns (suc l) m n = let rest = both_turns l m n in grind (arith, rest)

module _ (code : Code) (weigh : Bool → CodeOp → ℕ) (longest : ℕ) (rank : Function → ℕ → ℕ) (pace : Paced code weigh longest rank) (ending : rows_weight (weigh true) terminating_rows ≤ longest) where
  -- an operation weighs no more than is left
  op_paid : (st : State) → weight_of (weigh (is_own st.top.function)) (fetch code st.top.function st.top.place) ≤ left code weigh longest rank pace ending st
  op_paid st = go (fetch code st.top.function st.top.place) refl
    where
      go : (o : Option CodeOp) → fetch code st.top.function st.top.place ≡ o → weight_of (weigh (is_own st.top.function)) o ≤ left code weigh longest rank pace ending st
      go None e = omega arith
      go (Some o) e = omega (arith, pace.inside st.top.function st.top.place o e, less_whole weigh (is_own st.top.function) o)

  -- what is left at first and what the turns give pay for all that runs
  run_paid : (n : ℕ) (st : State) → Linked code weigh longest rank pace ending st.top.function st.frames → weighed code weigh n st ≤ left code weigh longest rank pace ending st + longest * turns code n st
  run_paid zero st linked = omega arith
  run_paid (suc n) st linked = go (step code st) (step_paid code weigh longest rank pace ending st linked) (λ next on. run_paid n next on)
    where
      here : ℕ
      here = weight_of (weigh (is_own st.top.function)) (fetch code st.top.function st.top.place)

      go : (next : Next) → Paid code weigh longest rank pace ending st next →
          ((m : State) → Linked code weigh longest rank pace ending m.top.function m.frames → weighed code weigh n m ≤ left code weigh longest rank pace ending m + longest * turns code n m) →
          here + after (entered code weigh st) (weighed code weigh n) next ≤ left code weigh longest rank pace ending st + longest * after (turned code st) (turns code n) next
      go (finishes e w) paid rest = omega (arith, op_paid st)
      go (goes_to m) paid rest = omega (arith, paid.0, rest m paid.1, both_turns longest (turned code st m) (turns code n m))

pub runs_weigh_little : RunsWeighLittle
runs_weigh_little r weigh longest n input replies light short ending =
    let all = paces r weigh longest light short in
    let code : Code = code_of (unit_of r) in
    let st : State = first_state (unit_of r) input replies in
    omega (arith, run_paid code weigh longest all.0 all.1 ending n st tt, both_turns longest (turns code n st) 1)

-- turns are calls, loops and beginnings of terminate
pub turns_apart : (code : Code) (n : ℕ) (st : State) → turns code n st ≡ counted code n st + begun code n st
turns_apart code zero st = refl
turns_apart code (suc n) st = go (step code st) (λ m. turns_apart code n m)
  where
    go : (next : Next) → ((m : State) → turns code n m ≡ counted code n m + begun code n m) →
        after (turned code st) (turns code n) next ≡ after (λ m. flag (calls st m) + flag (jumps_back code st)) (counted code n) next + after (λ m. flag (begins_terminate m)) (begun code n) next
    go (finishes e w) rest = refl
    go (goes_to m) rest = omega (arith, rest m)

once_times : (l k : ℕ) → k ≤ 1 → l * k ≤ l
once_times l zero h = omega arith
once_times l (suc zero) h = omega arith
once_times l (suc (suc k)) h = absurd (omega (arith, h))

pub runs_weigh_by_calls : RunsWeighByCalls
runs_weigh_by_calls r weigh longest n input replies light short ending =
    let code : Code = code_of (unit_of r) in
    let st : State = first_state (unit_of r) input replies in
    let many = counted code n st in
    let once = begun code n st in
    let all : weighed code weigh n st ≤ longest * (turns code n st + 1) = runs_weigh_little r weigh longest n input replies light short ending in
    let apart : longest * (turns code n st + 1) ≡ longest * (many + once + 1) = ap (λ t. longest * (t + 1)) (turns_apart code n st) in
    omega (arith, all, apart, both_turns longest (many + once) 1, both_turns longest many once, both_turns longest many 2, once_times longest once (terminate_begins_once code n st))
