-- Terminate begins at most once in a run, so only calls and loops make a run weigh more.
use Rattle.std.specs.Prelude.{◌≡◌, ℕ, zero, suc, ◌+◌, ◌*◌, ◌≤◌, Bool, true, false, List}
use Rattle.std.specs.List.{AllByRecursion}
use Rattle.eh_outer.specs.declared.module.Reply.{Reply}
use Rattle.region_forms.specs.Form.{Regions}
use Rattle.linear_forms.specs.Linear.{label}
use Rattle.linear_forms.specs.Stub.{CodeOp, linear, terminating_rows}
use Rattle.linear_forms.specs.Activation.{Code, State}
use Rattle.linear_forms.specs.Machine.{step}
use Rattle.linear_forms.specs.Unit.{unit_of}
use Rattle.linear_forms.specs.UnitRun.{code_of, first_state}
use Rattle.cost_paths.specs.Order.{weight}
use Rattle.cost_turns.specs.Weights.{rows_weight, whole_linear}
use Rattle.cost_turns.specs.Turns.{flag, calls, jumps_back, begins_terminate}
use Rattle.cost_turns.specs.Runs.{after, weighed}

-- how many times terminate begins in at most n steps from a state
abbrev pub begun : Code → ℕ → State → ℕ
begun code zero st = 0
begun code (suc n) st = after (λ next. flag (begins_terminate next)) (begun code n) (step code st)

-- how many calls of compiled functions and turns of loops begin
abbrev pub counted : Code → ℕ → State → ℕ
counted code zero st = 0
counted code (suc n) st = after (λ next. flag (calls st next) + flag (jumps_back code st)) (counted code n) (step code st)

-- While terminate runs with a handler, to begin it ends the program; without a handler nothing runs but that it ends the program. So it is in
-- any code, from any state on.
abbrev pub TerminateBeginsOnce : Type 0
TerminateBeginsOnce = (code : Code) (n : ℕ) (st : State) → begun code n st ≤ 1

-- So a run weighs no more than its calls and loops, and two more, each times the longest function.
abbrev pub RunsWeighByCalls : Type 0
RunsWeighByCalls = (r : Regions) (weigh : Bool → CodeOp → ℕ) (longest n : ℕ) (input : List ℕ) (replies : List (List Reply)) → ((l : ℕ) → weigh false (linear (label l)) ≡ 0) →
    AllByRecursion (λ g. weight (whole_linear weigh) g.ops ≤ longest) (unit_of r).functions → rows_weight (weigh true) terminating_rows ≤ longest →
    let code = code_of (unit_of r) in let st = first_state (unit_of r) input replies in weighed code weigh n st ≤ longest * (counted code n st + 2)
