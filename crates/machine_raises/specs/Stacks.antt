-- Open calls of the machine for linear code, found on the machine's stack.
use Rattle.std.specs.Prelude.{◌≡◌, ℕ, ◌+◌, ◌<◌, List, ◌∷◌, ◌++◌, length, slice_get, Option, Some}
use Rattle.rv64_isa.specs.State.{State}
use Rattle.rv64_isa.specs.Step.{x}
use Rattle.table_forms.specs.Fde.{fde_for}
use Rattle.table_forms.specs.Verdict.{forced}
use Rattle.elf_image.specs.Clean.{CleanImage}
use Rattle.eh_run.specs.Program.{program_of}
use Rattle.region_forms.specs.World.{World}
use Rattle.linear_forms.specs.Linear.{LinearOp, UnitCode}
use Rattle.linear_forms.specs.Stub.{compiled}
use Rattle.linear_forms.specs.Activation.{Activation}
use Rattle.linear_forms.specs.UnitRun.{code_of}
use Rattle.machine_forms.specs.Registers.{sp}
use Rattle.machine_forms.specs.LinearCode.{linear_code}
use Rattle.machine_forms.specs.Routine.{op_word}
use Rattle.image_forms.specs.Linkable.{BaseIsThere}
use Rattle.machine_pieces.specs.Keeping.{saved_of}
use Rattle.machine_pieces.specs.Standing.{address}
use Rattle.table_verdicts.specs.Types.{thrown_as}
use Rattle.table_verdicts.specs.Asked.{ListsNameTypes}
use Rattle.image_tables.specs.Read.{IsImageOf}
use Rattle.image_tables.specs.Functions.{records_end, first_byte, operation_at}
use Rattle.image_tables.specs.TableLaws.{IsRunOf}
use Rattle.raise_simulation.specs.Verdicts.{judged_by, forced_by_table}
use Rattle.raise_simulation.specs.Opens.{Open, activations, StackStands, table_in}
use Rattle.machine_simulation.specs.Plan.{Plan, function, shape, routine, first_word, setting}
use Rattle.machine_simulation.specs.KeptCalls.{RegistersMatch}
use Rattle.machine_simulation.specs.Matches.{MemoryMatches}

-- the address of a function's exception table, which the frame of its first byte names; 0 where it has none
abbrev pub table_of : UnitCode → CleanImage → ℕ → ℕ
table_of u i n = table_in (fde_for (program_of i).image.fdes (first_byte u (compiled n)))

-- A hart that runs the image of a plan's unit, which begins where the plan says, and has its tables there. So does the image of every checked
-- program's unit.
pub record IsRunning (p : Plan) (i : CleanImage) (s : State) : Type 0 where
  pub image : IsImageOf p.unit i
  pub lists : ListsNameTypes p.unit
  pub base : p.base ≡ records_end p.unit
  pub tables : (n : ℕ) → n < length p.unit.functions → p.tables n ≡ table_of p.unit i n
  pub run : IsRunOf i s

-- an address behind a word of an operation of a compiled function
pub record GoesOnIn (p : Plan) (n place ip : ℕ) : Type 0 where
  pub operation : LinearOp
  pub there : slice_get (function p n).ops place ≡ Some operation
  pub word : ℕ
  pub inside : word < length (linear_code (shape p n) operation)
  pub is : ip ≡ address (setting p n).ground (first_word p n + op_word (routine p n) place + word + 1)

-- a hart that goes on inside an operation of a call, whose frame begins at sp, above the calls that wait, with the ints of kept variables in
-- registers
pub record InCall (p : Plan) (n back : ℕ) (a : Activation) (fs : List Activation) (v : World) (s : State) : Type 0 where
  pub runs : a.function ≡ compiled n
  pub registers : length s.regs ≡ 32
  pub goes_on : GoesOnIn p n a.place s.pc
  pub memory : MemoryMatches p n a.frame fs v s.memory (x s sp) back
  pub kept : RegistersMatch p n a.frame fs v s.memory (x s sp) (saved_of s)

-- The open calls, and those of linear code behind them, of which nothing comes out: the stack has them, for each exception and for a forced
-- unwind.
pub record StackFound (p : Plan) (i : CleanImage) (a : Activation) (fs : List Activation) (s : State) : Type 0 where
  pub opens : List Open
  pub tail : List Activation
  pub are : activations opens ++ tail ≡ a ∷ fs
  pub raised : (t : Option ℕ) → BaseIsThere (length p.unit.types) t → StackStands (code_of p.unit) (operation_at p.unit) (λ b. judged_by (code_of p.unit) b t) (program_of i).image.fdes
      (thrown_as (records_end p.unit) p.unit.types t) s (x s sp) opens tail
  pub unwound : StackStands (code_of p.unit) (operation_at p.unit) (forced_by_table (code_of p.unit)) (program_of i).image.fdes forced s (x s sp) opens tail

abbrev pub StacksStand : Type 0
StacksStand = (p : Plan) (i : CleanImage) (n back : ℕ) (a : Activation) (fs : List Activation) (v : World) (s : State) → IsRunning p i s → InCall p n back a fs v s → StackFound p i a fs s
