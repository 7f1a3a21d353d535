-- What a run of linear code weighs, and how many turns it has.
use Rattle.std.specs.Prelude.{◌≡◌, ℕ, zero, suc, ◌+◌, ◌*◌, ◌≤◌, Bool, true, false, List, Option, Some, None, if◌then◌else◌}
use Rattle.std.specs.List.{AllByRecursion}
use Rattle.eh_outer.specs.declared.module.Reply.{Reply}
use Rattle.region_forms.specs.Form.{Regions}
use Rattle.linear_forms.specs.Linear.{plain, label, resume}
use Rattle.linear_forms.specs.Stub.{Function, CodeOp, linear, terminating_rows}
use Rattle.linear_forms.specs.Activation.{Code, State, Next, goes_to, finishes, fetch}
use Rattle.linear_forms.specs.Machine.{step}
use Rattle.linear_forms.specs.Unit.{unit_of}
use Rattle.linear_forms.specs.UnitRun.{code_of, first_state}
use Rattle.cost_paths.specs.Order.{weight}
use Rattle.cost_turns.specs.Weights.{is_own, rows_weight, whole_linear, weight_of, pad_weight}
use Rattle.cost_turns.specs.Turns.{turned}

-- a sum over the states of a run that are left, of which the rest is known
abbrev pub after : (State → ℕ) → (State → ℕ) → Next → ℕ
after step rest (goes_to next) = step next + rest next
after step rest (finishes e w) = 0

-- the operation in front of a place
abbrev pub in_front : Code → Function → ℕ → Option CodeOp
in_front code f zero = None
in_front code f (suc p) = fetch code f p

-- an operation out of which an exception or a forced unwind may go on to a landing pad
abbrev pub may_land : Option CodeOp → Bool
may_land (Some (linear (plain o))) = true
may_land (Some (linear (resume s))) = true
may_land o = false

-- what the landing pad weighs that is entered by the step from a state to the next
abbrev pub entered : Code → (Bool → CodeOp → ℕ) → State → State → ℕ
entered code weigh st next =
    if may_land (fetch code st.top.function st.top.place) then pad_weight (weigh (is_own next.top.function)) (in_front code next.top.function next.top.place) else 0

-- what the operations weigh that at most n steps from a state run, with the landing pads that they enter
abbrev pub weighed : Code → (Bool → CodeOp → ℕ) → ℕ → State → ℕ
weighed code weigh zero st = 0
weighed code weigh (suc n) st =
    weight_of (weigh (is_own st.top.function)) (fetch code st.top.function st.top.place) + after (entered code weigh st) (weighed code weigh n) (step code st)

-- how many turns they begin
abbrev pub turns : Code → ℕ → State → ℕ
turns code zero st = 0
turns code (suc n) st = after (turned code st) (turns code n) (step code st)

-- Where no function weighs more than so much, with what its operations call of the runtime's own functions, nor what terminate does.
abbrev pub RunsWeighLittle : Type 0
RunsWeighLittle = (r : Regions) (weigh : Bool → CodeOp → ℕ) (longest n : ℕ) (input : List ℕ) (replies : List (List Reply)) → ((l : ℕ) → weigh false (linear (label l)) ≡ 0) →
    AllByRecursion (λ g. weight (whole_linear weigh) g.ops ≤ longest) (unit_of r).functions → rows_weight (weigh true) terminating_rows ≤ longest →
    let code = code_of (unit_of r) in let st = first_state (unit_of r) input replies in weighed code weigh n st ≤ longest * (turns code n st + 1)
