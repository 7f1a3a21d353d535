-- One step through a list of instructions.
use Rattle.std.proofs.Common.{◌≡◌, ◌+◌, ℕ, zero, suc, true, false, Some, None, Result, Ok, Err, refl, ap}
use Rattle.std.specs.Prelude.{nat_lt}
use Rattle.eh_bytes.specs.Memory.{Part}
use Rattle.table_forms.specs.declared.reason.Reason.TheVariants.{StateStack}
use Rattle.table_forms.specs.Fault.{Fault, fault}
use Rattle.table_forms.specs.Instruction.{Instruction, Coding, instruction_at}
use Rattle.table_forms.specs.Instructions.{Instructions, states_after, and_instructions, instructions_within}
use Rattle.frame_read.specs.States.{states_of, states_rest, with_list}

and_states : (i : Instruction) (rest : Result Instructions Fault) → states_of (and_instructions i rest) ≡ states_of rest
and_states i (Ok rest) = refl
and_states i (Err f) = refl

pub states_go : (c : Coding) (part : Part) (stop states p n : ℕ) (i : Instruction) (next states' : ℕ) → nat_lt p stop ≡ true →
    instruction_at c part stop p ≡ Ok (i, next) → states_after i states ≡ Some states' →
    states_rest c part stop states (suc n) p ≡ states_rest c part stop states' n next
unfolding instructions_within
states_go c part stop states p n i next states' inside read kept =
    rw (inside, read, kept) (and_states i (instructions_within n c part stop next states'))

pub states_refused : (c : Coding) (part : Part) (stop states p n : ℕ) (i : Instruction) (next : ℕ) → nat_lt p stop ≡ true →
    instruction_at c part stop p ≡ Ok (i, next) → states_after i states ≡ None →
    states_rest c part stop states (suc n) p ≡ Err (fault StateStack (part.file_at + p))
unfolding instructions_within
states_refused c part stop states p n i next inside read lost = rw (inside, read, lost) refl

pub states_fail : (c : Coding) (part : Part) (stop states p n : ℕ) (f : Fault) → nat_lt p stop ≡ true →
    instruction_at c part stop p ≡ Err f → states_rest c part stop states (suc n) p ≡ Err f
unfolding instructions_within
states_fail c part stop states p n f inside read = rw (inside, read) refl

pub states_end : (c : Coding) (part : Part) (stop states p : ℕ) → nat_lt p stop ≡ false → (n : ℕ) →
    states_rest c part stop states n p ≡ Ok states
unfolding instructions_within
states_end c part stop states p outside zero = refl
states_end c part stop states p outside (suc n) = rw outside refl

abbrev states_read : Result ℕ Fault → ℕ
states_read (Ok n) = n
states_read (Err f) = 0

pub listed : (read : Result Instructions Fault) (n : ℕ) → states_of read ≡ Ok n → read ≡ Ok (with_list read n)
listed (Ok is) n e = ap (λ k. Ok (record { list = is.list; states = k })) (ap states_read e)
listed (Err f) n e = absurd cc

abbrev fault_read : Fault → Result ℕ Fault → Fault
fault_read g (Ok n) = g
fault_read g (Err f) = f

pub refused : (read : Result Instructions Fault) (f : Fault) → states_of read ≡ Err f → read ≡ Err f
refused (Ok is) f e = absurd cc
refused (Err g) f e = ap Err (ap (fault_read g) e)
