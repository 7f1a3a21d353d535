-- What runs of linear code spend: so many instructions are enough for them.
use Rattle.std.specs.Prelude.{ℕ, ◌+◌, ◌*◌, ◌≤◌, Bool, true, false, List}
use Rattle.cxx_ast.specs.Checked.{IsChecked}
use Rattle.cxx_ast.specs.Plain.{Checked}
use Rattle.eh_outer.specs.declared.module.Reply.{Reply}
use Rattle.region_forms.specs.Form.{leave}
use Rattle.linear_forms.specs.Linear.{plain, jump_filter, free, resume, unexpected, return}
use Rattle.linear_forms.specs.Stub.{CodeOp, linear, runtime}
use Rattle.linear_forms.specs.Activation.{Code, State}
use Rattle.linear_forms.specs.UnitRun.{code_of, first_state}
use Rattle.source_bounds.specs.Compiled.{unit_for}
use Rattle.source_bounds.specs.OperationWords.{linear_words}
use Rattle.cost_turns.specs.Runs.{weighed, turns}
use Rattle.cost_turns.specs.Once.{counted}

-- What an operation weighs, in compiled functions and in the runtime's own: no less than its words. Where some steps belong together, as those do that leave a
-- handler, the first of them pays for all: the others weigh nothing of their own.
abbrev pub op_weight : Bool → CodeOp → ℕ
op_weight false (linear (plain leave)) = 24
op_weight false (linear (unexpected o s)) = 32
op_weight false (linear (return r)) = 24
op_weight false (linear o) = linear_words o
op_weight false (runtime o) = 0
op_weight true (linear (plain leave)) = 24
op_weight true (linear (free s)) = 18
op_weight true (linear (jump_filter s n l)) = 44
op_weight true (linear (resume s)) = 5
op_weight true (linear (return r)) = 4
op_weight true (linear o) = linear_words o
op_weight true (runtime o) = 0

-- What some steps spend: what their operations weigh, with the landing pads that they enter; and 64 for each call of a compiled function, for each loop that turns
-- back, and where terminate begins.
abbrev pub spends : Code → ℕ → State → ℕ
spends code n st = weighed code op_weight n st + 64 * turns code n st

-- for each call, each loop that turns back, and two more, no more than 128 for each token and 1,024
abbrev pub CheckedRunsSpendLittle : Type 0
CheckedRunsSpendLittle = (p : Checked) → IsChecked p → (n : ℕ) (input : List ℕ) (replies : List (List Reply)) →
    let code = code_of (unit_for p) in let st = first_state (unit_for p) input replies in
    spends code n st ≤ (128 * p.program.tokens + 1024) * (counted code n st + 2)
