-- Calls of built-in functions that come back: whether an exception travels, which handlers are in effect, and a module that answers with a value.
use Rattle.std.specs.Prelude.{◌≡◌, ◌⊎◌, ℕ, ◌^◌, ◌<◌, ◌≤◌, ℤ, pos, negsuc, List, [], ◌∷◌, length, slice_get, slice_set, Option, Some, None}
use Rattle.cxx_ast.specs.declared.name.Builtin.{Builtin}
use Rattle.cxx_ast.specs.declared.name.Builtin.TheVariants.{Module, SetTerminate, SetUnexpected, Uncaught}
use Rattle.eh_outer.specs.declared.module.Reply.{Reply}
use Rattle.eh_outer.specs.declared.module.Reply.TheVariants.{Value as ValueReply, Raise}
use Rattle.cxa_runtime.specs.World as abi
use Rattle.cxa_runtime.specs.Raising.{Image}
use Rattle.region_forms.specs.Form.{Place, Value, call_value, builtin, int_argument, handler_argument, Arguments, no_arguments, argument_then, evaluate, store, call}
use Rattle.region_forms.specs.Evaluation.{value_in}
use Rattle.linear_forms.specs.Linear.{LinearOp, plain}
use Rattle.linear_forms.specs.Activation.{State}
use Rattle.machine_forms.specs.LinearCode.{linear_code}
use Rattle.machine_pieces.specs.Numbers.{IsInt}
use Rattle.machine_simulation.specs.Plan.{Plan, shape, slot_kinds}
use Rattle.machine_simulation.specs.Matches.{Matches}
use Rattle.machine_simulation.specs.Operations.{Matched}
use Rattle.machine_simulation.specs.Asked.{ValueAsked, WantedAsked}
use Rattle.machine_simulation.specs.Steps.{StepAt}

-- an operation calls a built-in function, for a place that wants its value or for none
abbrev pub CallsBuiltin : Builtin → Arguments → Option Place → LinearOp → Type 0
CallsBuiltin b args wants o =
    ((q : Place) × (wants ≡ Some q) × (o ≡ plain (store q (call_value (builtin b) args)))) ⊎ ((wants ≡ None) × (o ≡ plain (evaluate (call_value (builtin b) args)))) ⊎ ((wants ≡ None) × (o ≡ plain (call (builtin b) args)))

-- what a module is called with: its number, and another int
abbrev pub both_ints : (number other : Value) → Arguments
both_ints v u = argument_then (int_argument v) (argument_then (int_argument u) no_arguments)

-- a call of the module with a number; the other int is one too, which the runtime does not read
pub record CallsModule (p : Plan) (n : ℕ) (st : State) (wants : Option Place) (o : LinearOp) (k : ℤ) : Type 0 where
  pub number : Value
  pub other : Value
  pub calls : CallsBuiltin Module (both_ints number other) wants o
  pub asked : ValueAsked p n st.top.frame st.world number
  pub other_asked : ValueAsked p n st.top.frame st.world other
  pub is : value_in (slot_kinds p n) st.top.frame st.world number ≡ Some k
  pub given : ℤ
  pub other_is : value_in (slot_kinds p n) st.top.frame st.world other ≡ Some given

-- what a module answers with a value, and the replies that are left behind; none where it raises
abbrev pub value_of : Reply → ℕ → List (List Reply) → List Reply → Option (ℤ × List (List Reply))
value_of (ValueReply v) k replies left = Some (v, slice_set replies k left)
value_of (Raise t) k replies left = None

abbrev pub answer_in : ℕ → List (List Reply) → Option (List Reply) → Option (ℤ × List (List Reply))
answer_in k replies None = Some (pos 0, replies)
answer_in k replies (Some []) = Some (pos 0, replies)
answer_in k replies (Some (x ∷ left)) = value_of x k replies left

abbrev pub answer_of : ℤ → List (List Reply) → Option (ℤ × List (List Reply))
answer_of (negsuc k) replies = Some (pos 0, replies)
answer_of (pos k) replies = answer_in k replies (slice_get replies k)

-- A step that asks whether an exception travels, that sets a handler to a function of the unit, or that calls a module which answers with an int, is
-- matched by at most as many turns as the operation has words. There are at most 2^31 modules.
pub record AnswersRun : Type 0 where
  pub uncaught : (image : Image) (p : Plan) (n : ℕ) (st next : State) (w : abi.World) (o : LinearOp) (wants : Option Place) → Matches p st w → StepAt p st next n o → CallsBuiltin Uncaught no_arguments wants o →
      WantedAsked p n st.top.frame wants → Matched image (length (linear_code (shape p n) o)) w [] (λ u. Matches p next u)
  pub terminate_set : (image : Image) (p : Plan) (n m : ℕ) (st next : State) (w : abi.World) (o : LinearOp) → Matches p st w → StepAt p st next n o → CallsBuiltin SetTerminate (argument_then (handler_argument m) no_arguments) None o →
      m < length p.unit.functions → Matched image (length (linear_code (shape p n) o)) w [] (λ u. Matches p next u)
  pub unexpected_set : (image : Image) (p : Plan) (n m : ℕ) (st next : State) (w : abi.World) (o : LinearOp) → Matches p st w → StepAt p st next n o → CallsBuiltin SetUnexpected (argument_then (handler_argument m) no_arguments) None o →
      m < length p.unit.functions → Matched image (length (linear_code (shape p n) o)) w [] (λ u. Matches p next u)
  pub module_called : (image : Image) (p : Plan) (n : ℕ) (st next : State) (w : abi.World) (o : LinearOp) (wants : Option Place) (k z : ℤ) (replies : List (List Reply)) → Matches p st w → StepAt p st next n o → CallsModule p n st wants o k →
      WantedAsked p n st.top.frame wants → length st.world.replies ≤ 2 ^ 31 → answer_of k st.world.replies ≡ Some (z, replies) → IsInt z → Matched image (length (linear_code (shape p n) o)) w [] (λ u. Matches p next u)
