-- Rows of the frames of functions (DWARF 5, 6.4; RISC-V ELF psABI, "DWARF Register Numbers").
use Rattle.std.specs.Prelude.{ℕ, pos, ◌-ℤ◌, List, [], ◌∷◌, replicate, slice_set}
use Rattle.table_forms.specs.declared.found.Rule.{Rule}
use Rattle.table_forms.specs.declared.found.Rule.TheVariants as rules
use Rattle.table_forms.specs.declared.found.Row.{Row}
use Rattle.machine_forms.specs.Registers.{saved_registers}

-- rules where the first of some registers are saved, each so many bytes above sp, and the CFA is `size` bytes above sp
abbrev pub saved_rules : (size : ℕ) → (registers places : List ℕ) → List Rule → List Rule
saved_rules size [] places rs = rs
saved_rules size (r ∷ more) [] rs = rs
saved_rules size (r ∷ more) (n ∷ places) rs = saved_rules size more places (slice_set rs r (rules.Offset (pos n -ℤ pos size)))

-- the CFA is so many bytes above sp, the return address is saved 8 bytes above sp, and the registers of kept variables in their places
abbrev pub call_rules : (size : ℕ) → (places : List ℕ) → List Rule
call_rules size places = saved_rules size saved_registers places (rules.Unspecified ∷ rules.Offset (pos 8 -ℤ pos size) ∷ replicate 62 rules.Unspecified)

abbrev pub call_row : (size : ℕ) → (places : List ℕ) → Row
call_row size places = record { cfa_register = 2; cfa_offset = pos size; rules = call_rules size places }
