-- From one turn of a loop to the next operations weigh no more than their function.
use Rattle.std.proofs.Common.{◌≡◌, ℕ, ◌+◌, ◌≤◌, List, [], ◌∷◌, Option, Some, None, refl, ap, ⊎_elim, arith}
use Rattle.std.specs.Prelude.{slice_get}
use Rattle.linear_forms.specs.Linear.{LinearOp, FunctionCode}
use Rattle.linear_forms.specs.Unit.{function_code}
use Rattle.cost_paths.specs.Order.{weight, AreRanks}
use Rattle.cost_paths.specs.Paths.{GoesThrough, weight_of, weight_along, OperationsRunOnce}
use Rattle.cost_paths.proofs.Functions.{operations_are_in_order}

module _ (g : FunctionCode) (weigh : LinearOp → ℕ) (rank : ℕ → ℕ) (h : AreRanks g weigh rank) where
  below_top : (p : ℕ) → rank p ≤ weight weigh g.ops
  below_top p = go (slice_get g.ops p) refl
    where
      go : (o : Option LinearOp) → slice_get g.ops p ≡ o → rank p ≤ weight weigh g.ops
      go None e = omega (arith, h.behind p e)
      go (Some o) e = omega (arith, h.inside p o e)

  along : (p : ℕ) (qs : List ℕ) → GoesThrough g p qs → rank p + weight_along g weigh p qs ≤ weight weigh g.ops
  along p [] goes = omega (arith, below_top p)
  along p (q ∷ qs) (o, there, go, straight, rest) =
      let own = ap (weight_of weigh) there in
      ⊎_elim (λ up. omega (arith, up, own, along q qs rest)) (λ turn. absurd (straight turn)) (h.rises p q o there go)

pub operations_run_once : OperationsRunOnce
operations_run_once f weigh p qs light goes =
    let ranks = operations_are_in_order f weigh light in
    omega (arith, along (function_code f) weigh ranks.0 ranks.1 p qs goes)
