-- A field at the front of a list of bytes: its value and how many bytes it takes, or why it can't be read.
use Rattle.std.specs.Prelude.{ℕ, ◌+◌, nat_lt, List, [], ◌∷◌, length, take, drop, Result, Ok, Err, if◌then◌else◌}
use Rattle.std.specs.Int.{Width, byte_len, from_le_bytes}
use Rattle.eh_bytes.specs.declared.error.ByteError.{ByteError}
use Rattle.eh_bytes.specs.declared.error.ByteError.TheVariants.{Truncated}

-- what is read: a value, and how many bytes it takes
abbrev pub Reading : Type 0 → Type 0
Reading A = Result (A × ℕ) ByteError

-- a kind of field, by what it reads at the front of each list
abbrev pub Field : Type 0 → Type 0
Field A = List ℕ → Reading A

-- the length of a field becomes the place behind it
abbrev pub behind : {A : Type 0} → ℕ → Reading A → Reading A
behind place (Ok (value, taken)) = Ok (value, place + taken)
behind place (Err cause) = Err cause

-- the field at a place of the list, with the place behind it
abbrev pub at : {A : Type 0} → Field A → List ℕ → ℕ → Reading A
at field bytes place = behind place (field (drop place bytes))

-- one byte
abbrev pub byte : Field ℕ
byte [] = Err Truncated
byte (b ∷ bytes) = Ok (b, 1)

-- a number of fixed width, its low byte first (ELF-64, "Data Representation": ELFDATA2LSB)
abbrev pub fixed : Width → Field ℕ
fixed w bytes =
    if nat_lt (length bytes) (byte_len w)
    then Err Truncated
    else Ok (from_le_bytes w (take (byte_len w) bytes), byte_len w)
