-- What is printed of several harts.
use Rattle.std.specs.Prelude.{ℕ, ◌+◌, Bool, true, List, [], ◌∷◌, ◌++◌, codes, filter, map, Option, Some, None}
use Rattle.std.specs.Fmt.{decimal}
use Rattle.run_items.specs.Line as plain
use Rattle.cxa_runtime.specs.declared.effect.End.{End}
use Rattle.cxa_runtime.specs.declared.effect.End.TheVariants.{Budget}
use Rattle.hart_sched.specs.Hart.{Hart}
use Rattle.hart_sched.specs.Turn.{Told, shown, ended}
use Rattle.hart_sched.specs.Run.{Ran}
use Rattle.run_ends.specs.EndLine.{end_line}

-- the line of what is told
abbrev pub line_of : Told → List ℕ
line_of (shown item) = plain.line_of item
line_of (ended end) = end_line end

-- ends are printed, and ints, and events under trace alone
abbrev pub is_printed : Bool → Told → Bool
is_printed trace (shown item) = plain.is_printed trace item
is_printed trace (ended end) = true

-- a line with the number of its hart
abbrev pub Marked : Type 0
Marked = ℕ × List ℕ

abbrev pub lines_of : Bool → List (ℕ × Told) → List Marked
lines_of trace told = map (λ (t : ℕ × Told). (t.0, line_of t.1)) (filter (λ (t : ℕ × Told). is_printed trace t.1) told)

-- the line of a hart that goes on when the schedule is over
abbrev pub budget_of : ℕ → Option End → List Marked
budget_of k (Some end) = []
budget_of k None = (k, end_line Budget) ∷ []

unfoldable pub budgets_from : ℕ → List Hart → List Marked
budgets_from k [] = []
budgets_from k (hart ∷ harts) = budget_of k hart.end ++ budgets_from (k + 1) harts

-- the lines of a run: those of its turns, and of the harts that go on in the order of their numbers
abbrev pub run_lines : Bool → Ran → List Marked
run_lines trace r = lines_of trace r.told ++ budgets_from 0 r.harts

-- a line as it is printed, behind the number of its hart
abbrev pub piece_of : Marked → List ℕ
piece_of (k, line) = decimal k ++ (codes ": " ++ line)

-- the pieces, each of which is one put
abbrev pub pieces_of : Bool → Ran → List (List ℕ)
pieces_of trace r = map piece_of (run_lines trace r)
