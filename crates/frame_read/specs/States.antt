-- How many states are remembered behind some instructions.
use Rattle.std.specs.Prelude.{ℕ, List, [], Result, Ok, Err}
use Rattle.eh_bytes.specs.Memory.{Part}
use Rattle.table_forms.specs.Fault.{Fault}
use Rattle.table_forms.specs.Instruction.{Instruction, Coding}
use Rattle.table_forms.specs.Instructions.{Instructions, instructions_within}

abbrev pub states_of : Result Instructions Fault → Result ℕ Fault
states_of (Ok is) = Ok is.states
states_of (Err f) = Err f

-- of the instructions from a place on, at most so many, with the states that are remembered before them
abbrev pub states_rest : Coding → Part → ℕ → ℕ → ℕ → ℕ → Result ℕ Fault
states_rest c part stop states n p = states_of (instructions_within n c part stop p states)

-- the instructions, where they can be read
abbrev pub list_of : Result Instructions Fault → List Instruction
list_of (Ok is) = is.list
list_of (Err f) = []

abbrev pub with_list : Result Instructions Fault → ℕ → Instructions
with_list read n = record { list = list_of read; states = n }
