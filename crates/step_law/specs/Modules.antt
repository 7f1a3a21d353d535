-- A call of a module.
use Rattle.std.specs.Prelude.{ℕ, Option}
use Rattle.cxx_ast.specs.declared.name.Builtin.TheVariants.{Module}
use Rattle.cxa_runtime.specs.World as abi
use Rattle.region_forms.specs.Form.{Place, Value}
use Rattle.linear_forms.specs.Linear.{LinearOp}
use Rattle.linear_forms.specs.Activation.{State}
use Rattle.machine_simulation.specs.Plan.{Plan}
use Rattle.machine_exceptions.specs.Answers.{CallsBuiltin, both_ints}
use Rattle.step_law.specs.Rows.{Run, IsAt, FollowsIn}

-- Where a module is called, with its number and another int. It answers with the first of the replies that are left to it: with a value, or with a token, for
-- which it raises an exception that something stops or nothing does, or terminates where 1,024 are live. Where no reply is left, and where there is no such
-- module, the value is 0.
abbrev pub ModulesFollow : Type 0
ModulesFollow = (x : Run) (q : Plan) (before n : ℕ) (o : LinearOp) (wants : Option Place) (number other : Value) (st : State) (w : abi.World) → IsAt x q before n o st w → CallsBuiltin Module (both_ints number other) wants o → FollowsIn x before st w
