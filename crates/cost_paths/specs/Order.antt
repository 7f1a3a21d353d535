-- The order in which the operations of a function run.
use Rattle.std.specs.Prelude.{◌≡◌, ◌⊎◌, ℕ, ◌+◌, ◌≤◌, List, [], ◌∷◌, Some, None, slice_get}
use Rattle.region_forms.specs.Form.{RegionFunction}
use Rattle.linear_forms.specs.Linear.{LinearOp, label, FunctionCode}
use Rattle.linear_forms.specs.Unit.{function_code}
use Rattle.cost_paths.specs.Control.{CanGo, TurnsBack}

-- what operations weigh together
abbrev pub weight : (LinearOp → ℕ) → List LinearOp → ℕ
weight weigh [] = 0
weight weigh (o ∷ ops) = weigh o + weight weigh ops

-- Ranks of the places of a function. Wherever control can go from an operation, it comes to a rank that is higher by what the operation
-- weighs, unless a loop turns back. All lies below the weight of the whole code, which is the rank of the place behind it. A landing pad
-- stands before what it guards, and has a higher rank.
pub record AreRanks (g : FunctionCode) (weigh : LinearOp → ℕ) (rank : ℕ → ℕ) : Type 0 where
  pub rises : (p q : ℕ) (o : LinearOp) → slice_get g.ops p ≡ Some o → CanGo g p o q → (rank p + weigh o ≤ rank q) ⊎ TurnsBack g p q
  pub inside : (p : ℕ) (o : LinearOp) → slice_get g.ops p ≡ Some o → rank p + weigh o ≤ weight weigh g.ops
  pub behind : (p : ℕ) → slice_get g.ops p ≡ None → rank p ≡ weight weigh g.ops

-- Whatever operations weigh, if labels weigh nothing, each function has such ranks. So the operations that a call runs from one turn of a
-- loop to the next weigh no more than the function's code.
abbrev pub OperationsAreInOrder : Type 0
OperationsAreInOrder = (f : RegionFunction) (weigh : LinearOp → ℕ) → ((l : ℕ) → weigh (label l) ≡ 0) → (rank : ℕ → ℕ) × AreRanks (function_code f) weigh rank
