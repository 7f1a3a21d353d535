-- What is loaded.
use Rattle.std.specs.Prelude.{ℕ, ◌*◌, ◌%◌, ◌==◌, Bool, List, Option, Some, None, Result, Ok, Err, if◌then◌else◌}
use Rattle.rv64_isa.specs.Arithmetic.{sign_extended}
use Rattle.rv64_isa.specs.State.{State, Byte, bytes_at, value_of}
use Rattle.rv64_isa.specs.declared.step.FaultKind.{FaultKind}
use Rattle.rv64_isa.specs.declared.step.FaultKind.TheVariants.{Misaligned, Unmapped}
use Rattle.rv64_machine.specs.declared.bytes.Size.{Size}
use Rattle.rv64_machine.specs.Bytes.{size_of}

-- a number of so many bytes as 64 bits, with its sign or without; one of eight has 64
abbrev pub extension_of : Bool → Size → ℕ → ℕ
extension_of signed size n = if signed then sign_extended (8 * size_of size) n else n

abbrev pub word_of : Option (List Byte) → Result ℕ FaultKind
word_of None = Err Unmapped
word_of (Some bytes) = Ok (value_of bytes)

-- the eight bytes at an address that is a multiple of 8, where each lies in memory
abbrev pub word_loaded : State → ℕ → Result ℕ FaultKind
word_loaded s a = if a % 8 == 0 then word_of (bytes_at s.memory a 8) else Err Misaligned
