-- What came of reading and of writing whole.
use Rattle.std.specs.Prelude.{◌≡◌, ◌<◌, ◌≤◌, ℕ, Bool, true, false, List, length, take, Option, IfSome}
use Rattle.std.specs.Io.KnownBytes.{Appends}
use Rattle.eh_host.specs.declared.whole.Got.{Got}
use Rattle.eh_host.specs.declared.whole.Got.TheVariants.{Whole, Long, Failed, NoMemory}

-- all of the reader's bytes, where they are known, or more of them than the limit
abbrev pub IsGot : ℕ → Option (List ℕ) → Got → Type 0
IsGot limit known (Whole bytes) = (length bytes.items ≤ limit) × IfSome known (λ all. bytes.items ≡ all)
IsGot limit known (Long seen) = (limit < seen) × IfSome known (λ all. limit < length all)
IsGot limit known Failed = Unit {0}
IsGot limit known NoMemory = Unit {0}

-- what the writer took: all of the piece, or, where it failed, a prefix of it
abbrev pub IsWritten : Option (List ℕ) → Option (List ℕ) → List ℕ → Bool → Type 0
IsWritten old new piece true = Appends old new piece
IsWritten old new piece false = (k : ℕ) × Appends old new (take k piece)
