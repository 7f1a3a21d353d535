-- What writes the slots of a function.
use Rattle.std.specs.Prelude.{◌≡◌, ◌⊎◌, ℕ, ◌<◌, true, length, Some, slice_get}
use Rattle.region_forms.specs.Form.{in_slot, through, in_global, Root, store, bind, make, RegionFunction, Regions}
use Rattle.region_forms.specs.WellFormed.{function_test}
use Rattle.linear_forms.specs.Linear.{LinearOp, plain, pad}
use Rattle.linear_forms.specs.Emission.{Emitting}
use Rattle.linear_forms.specs.Unit.{emitting, function_code}

-- a store to a slot writes one of the function's own, or that which says where an exit goes on
abbrev pub RootKeeps : ℕ → Emitting → Root → Type 0
RootKeeps n em (in_slot s) = (s < n) ⊎ (s ≡ em.way)
RootKeeps n em (through s) = Unit {0}
RootKeeps n em (in_global g) = Unit {0}

-- An operation of a function with n slots of its own, behind which those of its pads stand: it writes no slot of a pad unless it is one.
abbrev pub Keeps : ℕ → Emitting → LinearOp → Type 0
Keeps n em (plain (store p v)) = RootKeeps n em p.root
Keeps n em (plain (bind s p)) = s < n
Keeps n em (plain (make s)) = s < n
Keeps n em (pad o s) = (o ≡ em.object) × (s ≡ em.selector)
Keeps n em o = Unit {0}

-- so does every operation of a well-formed function
abbrev pub SlotsAreKept : Type 0
SlotsAreKept = (r : Regions) (f : RegionFunction) → function_test r f ≡ true → (p : ℕ) (o : LinearOp) → slice_get (function_code f).ops p ≡ Some o → Keeps (length f.slots) (emitting f) o
