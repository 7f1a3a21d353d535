-- How many words the operations are that a checked program runs.
use Rattle.std.specs.Prelude.{ℕ, ◌+◌, ◌*◌, ◌^◌, ◌≤◌, List}
use Rattle.cxx_ast.specs.Checked.{IsChecked}
use Rattle.cxx_ast.specs.Plain.{Checked}
use Rattle.eh_outer.specs.declared.module.Reply.{Reply}
use Rattle.linear_forms.specs.UnitRun.{code_of, first_state}
use Rattle.source_bounds.specs.Compiled.{unit_for}
use Rattle.cost_turns.specs.Runs.{weighed}
use Rattle.cost_turns.specs.Once.{counted}
use Rattle.cost_words.specs.Counts.{code_words}

-- With 36 words more with which each function begins, no more than 2^18 for each call of a compiled function, for each turn of a loop, and for
-- two more. Landing pads are counted where they are entered.
abbrev pub CheckedRunsAreShort : Type 0
CheckedRunsAreShort = (p : Checked) → IsChecked p → (n : ℕ) (input : List ℕ) (replies : List (List Reply)) →
    let code = code_of (unit_for p) in let st = first_state (unit_for p) input replies in
    weighed code (λ own. code_words) n st + 36 * (counted code n st + 2) ≤ 2 ^ 18 * (counted code n st + 2)
