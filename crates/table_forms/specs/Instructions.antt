-- Lists of call frame instructions, and the states that they remember (DWARF 5, 6.4.2.4).
use Rattle.std.specs.Prelude.{ℕ, zero, suc, ◌+◌, nat_lt, Bool, true, false, List, [], ◌∷◌, Option, Some, None, Result, Ok, Err, if◌then◌else◌}
use Rattle.eh_bytes.specs.Memory.{Part}
use Rattle.table_forms.specs.declared.reason.Reason.TheVariants.{StateStack}
use Rattle.table_forms.specs.Fault.{Fault, fault}
use Rattle.table_forms.specs.Instruction.{Instruction, remember_state, restore_state, Coding, instruction_at}

-- how many states are remembered after it, at most 16 (profile), if it may stand there
abbrev pub states_after : Instruction → ℕ → Option ℕ
states_after remember_state n = if nat_lt n 16 then Some (n + 1) else None
states_after restore_state zero = None
states_after restore_state (suc n) = Some n
states_after _ n = Some n

-- instructions, and how many states are remembered behind them
pub record Instructions : Type 0 where
  pub list : List Instruction
  pub states : ℕ

abbrev pub no_instructions : ℕ → Result Instructions Fault
no_instructions states = Ok (record { list = []; states = states })

abbrev pub and_instructions : Instruction → Result Instructions Fault → Result Instructions Fault
and_instructions i (Ok rest) = Ok (record { list = i ∷ rest.list; states = rest.states })
and_instructions i (Err f) = Err f

-- refused at the instruction, where there is no state to restore, or one too many to remember
abbrev pub instructions_after : ℕ → Instruction → Option ℕ → (ℕ → Result Instructions Fault) → Result Instructions Fault
instructions_after place i None more = Err (fault StateStack place)
instructions_after place i (Some states) more = and_instructions i (more states)

abbrev pub instructions_from : Bool → ℕ → ℕ → Result (Instruction × ℕ) Fault → (ℕ → ℕ → Result Instructions Fault) → Result Instructions Fault
instructions_from false place states read more = no_instructions states
instructions_from true place states (Err f) more = Err f
instructions_from true place states (Ok (i, next)) more = instructions_after place i (states_after i states) (more next)

-- at most so many; each takes a byte at least
unfoldable pub instructions_within : ℕ → Coding → Part → ℕ → ℕ → ℕ → Result Instructions Fault
instructions_within zero c part stop p states = no_instructions states
instructions_within (suc n) c part stop p states =
    instructions_from (nat_lt p stop) (part.file_at + p) states (instruction_at c part stop p) (instructions_within n c part stop)

-- the instructions up to a stop, where so many states are remembered before them
abbrev pub instructions_at : Coding → Part → ℕ → ℕ → ℕ → Result Instructions Fault
instructions_at c part stop p states = instructions_within stop c part stop p states
