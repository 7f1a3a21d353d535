-- Words that were decoded, each beside its instruction.
use Rattle.std.specs.Prelude.{ℕ, ◌≡◌, ◌<◌, ◌^◌, List, Some, slice_get}
use Rattle.rv64_isa.specs.Decoding.{decoded}
use Rattle.rv64_machine.specs.declared.decoder.Entry.{Entry}

-- a number that a word has stands beside the word's instruction
abbrev pub IsDecoded : Entry → Type 0
IsDecoded e = e.word < 2 ^ 32 → decoded e.word ≡ Some e.instr

abbrev pub AreDecoded : List Entry → Type 0
AreDecoded entries = (k : ℕ) (e : Entry) → slice_get entries k ≡ Some e → IsDecoded e
