-- Where the states after an instruction are counted, there is room for it.
use Rattle.std.proofs.Common.{◌≡◌, ◌<◌, ℕ, Bool, true, false, Some, None, arith, if◌then◌else◌, nat_lt, ◌+◌, refl}
use Rattle.std.specs.Prelude.{IsSome}
use Rattle.std.proofs.lemmas.Bool.Decides.{nat_tests}
use Rattle.table_forms.specs.Instructions.{states_after}
use Rattle.frame_read.specs.Seen.{instruction_seen}
use Rattle.frame_read.specs.SeenRow.{HasRoom}
use Rattle.frame_read.specs.declared.instruction.Instruction.{Instruction}
use Rattle.frame_read.specs.declared.instruction.Instruction.TheVariants as found

pub has_room : (i : Instruction) (n : ℕ) → IsSome (states_after (instruction_seen i) n) → HasRoom i n
has_room found.Nop n some = record {}
has_room (found.GoTo l) n some = record {}
has_room (found.Advance k) n some = record {}
has_room (found.SetCfa r k) n some = record {}
has_room (found.SetCfaRegister r) n some = record {}
has_room (found.SetCfaOffset k) n some = record {}
has_room (found.SetRule r rule) n some = record {}
has_room (found.Restore r) n some = record {}
has_room found.RestoreState n some = record {}
has_room found.RememberState n some = by (nat_lt n 16) refl some
  where
    by : (b : Bool) → nat_lt n 16 ≡ b → IsSome (if b then Some (n + 1) else None) → n < 16
    by true e some = grind (arith, nat_tests, e)
    by false e some = absurd cc
