-- Where instructions begin (The RISC-V Instruction Set Manual, Volume I, "Base Instruction-Length Encoding": lengths of 16 and 32 bits).
use Rattle.std.specs.Prelude.{ℕ, zero, suc, ◌+◌, ◌-◌, ◌%◌, ◌==◌, ◌&&◌, ◌||◌, nat_le, Bool, true, false, List, [], ◌∷◌, take, slice_get, unwrap_or, if◌then◌else◌}
use Rattle.eh_bytes.specs.declared.frames.Region64.{Region64}
use Rattle.eh_bytes.specs.Memory.{Memory, bytes_from}

-- how many bytes of an instruction stand behind its first: three, where both low bits of that are set, and else one
abbrev pub behind_first : ℕ → ℕ
behind_first b = if b % 4 == 3 then 3 else 1

-- for each byte, whether an instruction begins there, where so many of the first ones belong to an instruction that began before
unfoldable pub marks_from : ℕ → List ℕ → List Bool
marks_from k [] = []
marks_from zero (b ∷ bs) = true ∷ marks_from (behind_first b) bs
marks_from (suc k) (b ∷ bs) = false ∷ marks_from k bs

-- the bytes of a region, up to the end of the part of memory that has its start
abbrev pub code_of : Memory → Region64 → List ℕ
code_of memory region = take region.length (unwrap_or (bytes_from memory region.start) [])

-- its instructions, read from its start
abbrev pub marks_of : Memory → Region64 → List Bool
marks_of memory region = marks_from 0 (code_of memory region)

-- an instruction of the region begins at the address
abbrev pub begins : Region64 → List Bool → ℕ → Bool
begins region marks a = nat_le region.start a && unwrap_or (slice_get marks (a - region.start)) false

-- or the region ends there
abbrev pub is_between : Region64 → List Bool → ℕ → Bool
is_between region marks a = a == region.start + region.length || begins region marks a
