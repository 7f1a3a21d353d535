-- What is read, as the definitions have it.
use Rattle.std.specs.Prelude.{ℕ, List}
use Rattle.std.specs.Borrow.{Bor}
use Rattle.table_forms.specs.Instruction as forms
use Rattle.frame_read.specs.declared.instruction.Coding.{Coding}
use Rattle.frame_read.specs.declared.instruction.Instruction.{Instruction}
use Rattle.frame_read.specs.declared.instruction.Instruction.TheVariants as found

abbrev pub coding_seen : Coding → forms.Coding
coding_seen c = record { code_factor = c.code_factor; data_factor = c.data_factor; encoding = c.encoding }

abbrev pub instruction_seen : Instruction → forms.Instruction
instruction_seen found.Nop = forms.nop
instruction_seen (found.GoTo l) = forms.go_to l
instruction_seen (found.Advance n) = forms.advance n
instruction_seen (found.SetCfa r n) = forms.set_cfa r n
instruction_seen (found.SetCfaRegister r) = forms.set_cfa_register r
instruction_seen (found.SetCfaOffset n) = forms.set_cfa_offset n
instruction_seen (found.SetRule r rule) = forms.set_rule r rule
instruction_seen (found.Restore r) = forms.restore r
instruction_seen found.RememberState = forms.remember_state
instruction_seen found.RestoreState = forms.restore_state

-- with the place behind it
abbrev pub step_seen : Instruction × ℕ → forms.Instruction × ℕ
step_seen x = (instruction_seen x.0, x.1)

-- bytes, with the place behind them
abbrev pub text_seen : Bor (List ℕ) × ℕ → List ℕ × ℕ
text_seen x = (x.0.now, x.1)
