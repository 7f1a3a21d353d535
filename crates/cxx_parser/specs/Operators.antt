-- Operators that wait for an operand: where it was read, those that bind at least as tightly as what comes take it.
use Rattle.std.specs.Prelude.{ℕ, ◌+◌, Bool, true, false, List, [], ◌∷◌, nat_le, nat_lt, if◌then◌else◌}
use Rattle.cxx_ast.specs.declared.expression.BinaryOp.{BinaryOp}
use Rattle.cxx_ast.specs.Plain.{Expression, unary, binary}
use Rattle.cxx_ast.specs.Operator.{binary_level}
use Rattle.cxx_ast.specs.Depth.{below_expression}
use Rattle.cxx_parser.specs.Contexts.{Pending, before_operand, behind_operand, InExpression}
use Rattle.cxx_parser.specs.States.{Step, within, want_operand}

-- an operand at a depth, and the operators that wait for it
pub record Operand : Type 0 where
  pub depth : ℕ
  pub value : Expression
  pub pending : List Pending

-- the operand that an operator of a level takes as its left one, or, at level 0, the whole expression
abbrev pub gathered : ℕ → ℕ → Expression → List Pending → Operand
gathered level depth e [] = record { depth = depth; value = e; pending = [] }
gathered level depth e (before_operand d op place ∷ ps) = gathered level d (unary op e place) ps
gathered level depth e (behind_operand d op a ∷ ps) =
    if nat_le level (binary_level op) then gathered level d (binary op a e) ps
    else record { depth = depth; value = e; pending = behind_operand d op a ∷ ps }

-- an operator behind its left operand, which it takes one level down
abbrev pub with_operator : BinaryOp → Operand → InExpression → Step
with_operator op o E = within (o.depth + 1 + below_expression o.value) (want_operand (o.depth + 1) (behind_operand o.depth op o.value ∷ o.pending) E)

-- operators wait that bind less tightly than a level
abbrev pub bind_below : ℕ → List Pending → Bool
bind_below level [] = true
bind_below level (before_operand d op place ∷ ps) = false
bind_below level (behind_operand d op a ∷ ps) = nat_lt (binary_level op) level
