-- What each operation of a compiled function is in a whole run: from a state that stands, the next that stands, an end, or what is not defined.
use Rattle.std.specs.Prelude.{◌≡◌, ℕ, ◌<◌, ◌^◌, true, false, List, [], ◌∷◌, Option, Some, None, ◌⊎◌, slice_get}
use Rattle.cxx_ast.specs.Plain.{Checked}
use Rattle.elf_image.specs.Clean.{CleanImage}
use Rattle.cxa_runtime.specs.World as abi
use Rattle.eh_run.specs.Program.{program_of}
use Rattle.region_forms.specs.Form.{Place, Value, no_arguments, argument_then, handler_argument, make, enter}
use Rattle.region_forms.specs.Effect.{is_full}
use Rattle.region_forms.specs.World.{exception_in_slot}
use Rattle.linear_forms.specs.Linear.{LinearOp, plain, free, return}
use Rattle.linear_forms.specs.Stub.{compiled, terminating}
use Rattle.linear_forms.specs.Activation.{Activation, State}
use Rattle.flight_homes.specs.Keeps.{Carrying}
use Rattle.machine_simulation.specs.Plan.{Plan, function}
use Rattle.machine_simulation.specs.Matches.{Matches}
use Rattle.machine_simulation.specs.Bytes.{Reads}
use Rattle.machine_simulation.specs.Calls.{CallOf, call_of}
use Rattle.machine_simulation.specs.Exits.{CallsExit}
use Rattle.machine_simulation.specs.Lines.{Writes}
use Rattle.machine_simulation.specs.Operations.{IsQuiet}
use Rattle.cxx_ast.specs.declared.name.Builtin.TheVariants.{SetTerminate, SetUnexpected, Uncaught}
use Rattle.machine_exceptions.specs.Answers.{CallsBuiltin}
use Rattle.machine_exceptions.specs.Enters.{is_crowded}
use Rattle.machine_exceptions.specs.Terminates.{TerminatesAtOnce}
use Rattle.whole_runs.specs.Steps.{Follows}
use Rattle.step_law.specs.Facts.{code_for, Facts}
use Rattle.step_law.specs.Standing.{StandsBy, Standing}

-- a run of a program's image, with the places at which calls carry, and where tables are
pub record Run : Type 0 where
  pub program : Checked
  pub image : CleanImage
  pub carrying : Carrying
  pub tables : ℕ → ℕ
  pub pick : ℕ → ℕ

-- in a state that stands by a plan, behind so many turns, a compiled function is at an operation
pub record IsAt (x : Run) (q : Plan) (before n : ℕ) (o : LinearOp) (st : State) (w : abi.World) : Type 0 where
  pub facts : Facts x.program x.image x.carrying x.tables
  pub stands : StandsBy x.program x.image x.carrying x.tables q before st w
  pub matches : Matches q st w
  pub runs : st.top.function ≡ compiled n
  pub there : slice_get (function q n).ops st.top.place ≡ Some o

-- what follows there
abbrev pub FollowsIn : Run → ℕ → State → abi.World → Type 0
FollowsIn x before st w = Follows (program_of x.image).image x.pick (code_for x.program) (Standing x.program x.image x.carrying x.tables) before st w

-- at an operation that does nothing outside its call
abbrev pub QuietStepsFollow : Type 0
QuietStepsFollow = (x : Run) (q : Plan) (before n : ℕ) (o : LinearOp) (st : State) (w : abi.World) → IsAt x q before n o st w → IsQuiet o → FollowsIn x before st w

-- at one that writes a line
abbrev pub LinesFollow : Type 0
LinesFollow = (x : Run) (q : Plan) (before n : ℕ) (v : Value) (o : LinearOp) (st : State) (w : abi.World) → IsAt x q before n o st w → Writes v o → FollowsIn x before st w

-- at one that reads a byte
abbrev pub BytesFollow : Type 0
BytesFollow = (x : Run) (q : Plan) (before n : ℕ) (wants : Option Place) (o : LinearOp) (st : State) (w : abi.World) → IsAt x q before n o st w → Reads wants o → FollowsIn x before st w

-- at one that calls a compiled function, with room for it or none
abbrev pub CallsFollow : Type 0
CallsFollow = (x : Run) (q : Plan) (before n : ℕ) (o : LinearOp) (c : CallOf) (st : State) (w : abi.World) → IsAt x q before n o st w → call_of o ≡ Some c → FollowsIn x before st w

-- where a call of a compiled function returns to another
abbrev pub ReturnsFollow : Type 0
ReturnsFollow = (x : Run) (q : Plan) (before n : ℕ) (r : Option ℕ) (a : Activation) (fs : List Activation) (m : ℕ) (st : State) (w : abi.World) → IsAt x q before n (return r) st w → st.frames ≡ a ∷ fs → a.function ≡ compiled m →
    FollowsIn x before st w

-- where main returns
abbrev pub MainsFollow : Type 0
MainsFollow = (x : Run) (q : Plan) (before n : ℕ) (r : Option ℕ) (st : State) (w : abi.World) → IsAt x q before n (return r) st w → st.frames ≡ [] → FollowsIn x before st w

-- at an operation that calls exit
abbrev pub ExitsFollow : Type 0
ExitsFollow = (x : Run) (q : Plan) (before n : ℕ) (v : Value) (o : LinearOp) (st : State) (w : abi.World) → IsAt x q before n o st w → CallsExit v o → FollowsIn x before st w

-- where an exception is made, and fewer than 1,024 are live
abbrev pub MakesFollow : Type 0
MakesFollow = (x : Run) (q : Plan) (before n s : ℕ) (st : State) (w : abi.World) → IsAt x q before n (plain (make s)) st w → is_full st.world ≡ false → FollowsIn x before st w

-- where one that is being built is given back
abbrev pub FreesFollow : Type 0
FreesFollow = (x : Run) (q : Plan) (before n s : ℕ) (st : State) (w : abi.World) → IsAt x q before n (free s) st w → FollowsIn x before st w

-- where a handler begins that does not terminate, within 2^40 turns
abbrev pub EntersFollow : Type 0
EntersFollow = (x : Run) (q : Plan) (before n s : ℕ) (st : State) (w : abi.World) → IsAt x q before n (plain (enter s)) st w → before < 2 ^ 40 → is_crowded st.world (exception_in_slot st.top.frame s) ≡ false → FollowsIn x before st w

-- at one that asks whether an exception travels, or sets a handler to a function
pub record AnswersFollow : Type 0 where
  pub uncaught : (x : Run) (q : Plan) (before n : ℕ) (wants : Option Place) (o : LinearOp) (st : State) (w : abi.World) → IsAt x q before n o st w → CallsBuiltin Uncaught no_arguments wants o → FollowsIn x before st w
  pub terminate_set : (x : Run) (q : Plan) (before n m : ℕ) (o : LinearOp) (st : State) (w : abi.World) → IsAt x q before n o st w → CallsBuiltin SetTerminate (argument_then (handler_argument m) no_arguments) None o → FollowsIn x before st w
  pub unexpected_set : (x : Run) (q : Plan) (before n m : ℕ) (o : LinearOp) (st : State) (w : abi.World) → IsAt x q before n o st w → CallsBuiltin SetUnexpected (argument_then (handler_argument m) no_arguments) None o → FollowsIn x before st w

-- at one that terminates at once, where terminate runs already or no handler is in effect
abbrev pub AbortsFollow : Type 0
AbortsFollow = (x : Run) (q : Plan) (before n : ℕ) (o : LinearOp) (st : State) (w : abi.World) → IsAt x q before n o st w → TerminatesAtOnce st.world o → (st.world.ending ≡ true) ⊎ (st.world.installed.terminate_handler ≡ None) →
    FollowsIn x before st w

-- where terminate's handler returns
abbrev pub HandlersAbort : Type 0
HandlersAbort = (x : Run) (q : Plan) (before n : ℕ) (r : Option ℕ) (a : Activation) (fs : List Activation) (st : State) (w : abi.World) → IsAt x q before n (return r) st w → st.frames ≡ a ∷ fs → a.function ≡ terminating → FollowsIn x before st w
