-- The guards of the open calls of a program's linear code.
use Rattle.std.specs.Prelude.{⊤, ◌≡◌, ℕ, true, List, [], ◌∷◌, Option, Some, slice_get}
use Rattle.region_forms.specs.Form.{RegionFunction, Regions}
use Rattle.region_forms.specs.Guard.{Guard}
use Rattle.linear_forms.specs.Linear.{LinearOp}
use Rattle.linear_forms.specs.Stub.{Function, compiled}
use Rattle.linear_forms.specs.Activation.{Activation}
use Rattle.linear_forms.specs.Search.{found_above}
use Rattle.linear_forms.specs.Unit.{function_code, unit_of}
use Rattle.linear_forms.specs.UnitRun.{code_of}
use Rattle.handler_choice.specs.Around.{goes_out, guards_of}
use Rattle.handler_choice.specs.Own.{own_guards_at}
use Rattle.handler_choice.specs.Chosen.{first_stop, target_call}

-- a compiled function stands at an operation out of which something may come
pub record RaisesAt (r : Regions) (n place : ℕ) : Type 0 where
  pub function : RegionFunction
  pub there : slice_get r.functions n ≡ Some function
  pub operation : LinearOp
  pub at : slice_get (function_code function).ops place ≡ Some operation
  pub out : goes_out operation ≡ true

-- so does each open call of one
abbrev pub MayRaise : Regions → Function → ℕ → Type 0
MayRaise r (compiled n) p = RaisesAt r n p
MayRaise r f p = ⊤

abbrev pub AllRaise : Regions → List Activation → Type 0
AllRaise r [] = ⊤
AllRaise r (a ∷ fs) = MayRaise r a.function a.place × AllRaise r fs

-- the guards around the operation at which a compiled function stands
pub record GuardsAt (r : Regions) (n place : ℕ) (guards : List Guard) : Type 0 where
  pub function : RegionFunction
  pub there : slice_get r.functions n ≡ Some function
  pub around : slice_get (guards_of function) place ≡ Some guards

-- those of an open call
abbrev pub AreGuards : Regions → Function → ℕ → List Guard → Type 0
AreGuards r (compiled n) p gs = GuardsAt r n p gs
AreGuards r f p gs = gs ≡ own_guards_at f p

abbrev pub AreAllGuards : Regions → List Activation → List (List Guard) → Type 0
AreAllGuards r [] [] = ⊤
AreAllGuards r (a ∷ fs) (gs ∷ outer) = AreGuards r a.function a.place gs × AreAllGuards r fs outer
AreAllGuards r fs outer = ⊥

-- the search for what stops an exception ends by the guards of the open calls
pub record NamesTarget (r : Regions) (t : Option ℕ) (fs : List Activation) : Type 0 where
  pub guards : List (List Guard)
  pub are : AreAllGuards r fs guards
  pub named : found_above (code_of (unit_of r)) t fs ≡ target_call t (first_stop r.types t guards)
