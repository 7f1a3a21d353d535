-- What the operations weigh that a call runs from one turn of a loop to the next.
use Rattle.std.specs.Prelude.{◌≡◌, ℕ, ◌+◌, ◌≤◌, List, [], ◌∷◌, Option, Some, None, slice_get}
use Rattle.region_forms.specs.Form.{RegionFunction}
use Rattle.linear_forms.specs.Linear.{LinearOp, label, FunctionCode}
use Rattle.linear_forms.specs.Unit.{function_code}
use Rattle.cost_paths.specs.Control.{CanGo, TurnsBack}
use Rattle.cost_paths.specs.Order.{weight}

-- control goes from a place by these, one after the other, and no loop turns back
abbrev pub GoesThrough : FunctionCode → ℕ → List ℕ → Type 0
GoesThrough g p [] = Unit {0}
GoesThrough g p (q ∷ qs) = (o : LinearOp) × (slice_get g.ops p ≡ Some o) × CanGo g p o q × (TurnsBack g p q → ⊥) × GoesThrough g q qs

-- what an operation weighs, if one is there
abbrev pub weight_of : (LinearOp → ℕ) → Option LinearOp → ℕ
weight_of weigh None = 0
weight_of weigh (Some o) = weigh o

-- what those weigh together from which control goes on
abbrev pub weight_along : FunctionCode → (LinearOp → ℕ) → ℕ → List ℕ → ℕ
weight_along g weigh p [] = 0
weight_along g weigh p (q ∷ qs) = weight_of weigh (slice_get g.ops p) + weight_along g weigh q qs

-- Whatever operations weigh, if labels weigh nothing: no more than the whole code. Where each weighs 1 but labels, this bounds their number.
abbrev pub OperationsRunOnce : Type 0
OperationsRunOnce = (f : RegionFunction) (weigh : LinearOp → ℕ) (p : ℕ) (qs : List ℕ) → ((l : ℕ) → weigh (label l) ≡ 0) → GoesThrough (function_code f) p qs →
    weight_along (function_code f) weigh p qs ≤ weight weigh (function_code f).ops
