-- A byte of the input is read.
use Rattle.std.specs.Prelude.{◌≡◌, ◌⊎◌, ℕ, ◌<◌, List, [], ◌∷◌, length, slice_get, Option, Some, None}
use Rattle.cxx_ast.specs.declared.name.Builtin.TheVariants.{ReadByte}
use Rattle.cxa_runtime.specs.World as abi
use Rattle.cxa_runtime.specs.Raising.{Image}
use Rattle.region_forms.specs.Form.{Place, call_value, builtin, no_arguments, evaluate, store, call}
use Rattle.linear_forms.specs.Linear.{LinearOp, plain}
use Rattle.linear_forms.specs.Stub.{compiled}
use Rattle.linear_forms.specs.Activation.{State, goes_to}
use Rattle.linear_forms.specs.Machine.{step}
use Rattle.linear_forms.specs.UnitRun.{code_of}
use Rattle.machine_forms.specs.LinearCode.{linear_code}
use Rattle.machine_simulation.specs.Plan.{Plan, function, shape}
use Rattle.machine_simulation.specs.Matches.{Matches}
use Rattle.machine_simulation.specs.Operations.{Matched}
use Rattle.machine_simulation.specs.Asked.{WantedAsked}

-- an operation reads a byte, for a place or for none
pub record Reads (wants : Option Place) (o : LinearOp) : Type 0 where
  pub is : ((q : Place) × (wants ≡ Some q) × (o ≡ plain (store q (call_value (builtin ReadByte) no_arguments)))) ⊎
      ((wants ≡ None) × (o ≡ plain (evaluate (call_value (builtin ReadByte) no_arguments)))) ⊎ ((wants ≡ None) × (o ≡ plain (call (builtin ReadByte) no_arguments)))

-- what is left of the input are bytes
abbrev pub AreBytes : List ℕ → Type 0
AreBytes [] = Unit {0}
AreBytes (b ∷ bytes) = (b < 256) × AreBytes bytes

-- A step that reads a byte, or finds the end of the input, is matched by at most as many turns as the operation has words, and the value is
-- stored alike.
abbrev pub BytesRun : Type 0
BytesRun = (image : Image) (p : Plan) (n : ℕ) (st next : State) (w : abi.World) (o : LinearOp) (wants : Option Place) → Matches p st w → st.top.function ≡ compiled n → slice_get (function p n).ops st.top.place ≡ Some o →
    Reads wants o → AreBytes st.world.input → WantedAsked p n st.top.frame wants → step (code_of p.unit) st ≡ goes_to next → Matched image (length (linear_code (shape p n) o)) w [] (λ u. Matches p next u)
