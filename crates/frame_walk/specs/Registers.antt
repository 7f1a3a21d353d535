-- The registers of the frame outward (DWARF 5, 6.4.1 and 6.4.4).
use Rattle.std.specs.Prelude.{ℕ, ℤ, ◌+◌, ◌%◌, ◌^◌, ◌==◌, List, [], ◌∷◌, slice_index_or, Option, Some, None, Result, Ok, Err, if◌then◌else◌}
use Rattle.std.specs.Int.{w64, cast_unsigned}
use Rattle.table_forms.specs.declared.found.Rule.{Rule}
use Rattle.table_forms.specs.declared.found.Rule.TheVariants as rules
use Rattle.rv64_isa.specs.State.{State}
use Rattle.rv64_isa.specs.declared.step.FaultKind.{FaultKind}
use Rattle.rv64_machine.specs.Load.{word_loaded}

-- an address and an offset, modulo 2^64
abbrev pub offset_by : ℕ → ℤ → ℕ
offset_by a offset = (a + cast_unsigned w64 offset) % 2 ^ 64

abbrev pub readable : Result ℕ FaultKind → Option ℕ
readable (Ok word) = Some word
readable (Err fault) = None

-- one register; without a rule x2 is the CFA, and any other register keeps its value
abbrev pub register_of : State → ℕ → List ℕ → ℕ → Rule → Option ℕ
register_of s cfa regs r rules.Unspecified = Some (if r == 2 then cfa else slice_index_or regs r 0)
register_of s cfa regs r rules.Undefined = Some (slice_index_or regs r 0)
register_of s cfa regs r rules.Same = Some (slice_index_or regs r 0)
register_of s cfa regs r (rules.Offset n) = readable (word_loaded s (offset_by cfa n))
register_of s cfa regs r (rules.ValOffset n) = Some (offset_by cfa n)
register_of s cfa regs r (rules.Register q) = Some (slice_index_or regs q 0)

-- one more in front, where there are all
abbrev pub with_first : Option ℕ → Option (List ℕ) → Option (List ℕ)
with_first (Some x) (Some xs) = Some (x ∷ xs)
with_first _ _ = None

-- the registers from r on, where every word that they need is readable
abbrev pub registers_from : State → ℕ → List ℕ → ℕ → List Rule → Option (List ℕ)
registers_from s cfa regs r [] = Some []
registers_from s cfa regs r (rule ∷ more) = with_first (register_of s cfa regs r rule) (registers_from s cfa regs (r + 1) more)
