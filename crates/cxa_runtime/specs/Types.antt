-- The type records of a native exception (Itanium C++ ABI, "Run-Time Type Information"): that of its type, and those of its bases.
use Rattle.std.specs.Prelude.{ℕ, zero, suc, ◌+◌, ◌^◌, ◌%◌, ◌==◌, List, [], ◌∷◌, Option, Some, None, option_map, option_and_then, if◌then◌else◌}
use Rattle.std.specs.Result.{result_ok}
use Rattle.rv64_isa.specs.State.{State}
use Rattle.rv64_machine.specs.Load.{word_loaded}

-- the word at an address, where it is a multiple of 8 and all bytes lie in memory
abbrev pub word_at : State → ℕ → Option ℕ
word_at s a = result_ok (word_loaded s a)

-- the address of the record of a base, or 0: the last of the three words of a record, all of which must be readable
abbrev pub base_of : State → ℕ → Option ℕ
base_of s a =
    option_and_then (λ kind. option_and_then (λ name. word_at s ((a + 16) % 2 ^ 64)) (word_at s ((a + 8) % 2 ^ 64))) (word_at s a)

abbrev pub and_bases : ℕ → (ℕ → Option (List ℕ)) → Option ℕ → Option (List ℕ)
and_bases a more None = None
and_bases a more (Some base) = if base == 0 then Some (a ∷ []) else option_map (λ bases. a ∷ bases) (more base)

-- of at most so many records
unfoldable pub records_within : ℕ → State → ℕ → Option (List ℕ)
records_within zero s a = None
records_within (suc n) s a = and_bases a (records_within n s) (base_of s a)

-- the addresses of the record of a type and of its bases, where there are at most 64 and all are readable (profile)
abbrev pub type_records : State → ℕ → Option (List ℕ)
type_records s a = records_within 64 s a
