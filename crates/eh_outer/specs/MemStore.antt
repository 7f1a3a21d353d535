-- A store in memory as a clause sees it, and when its calls give each of their answers.
use Rattle.std.specs.Prelude.{◌≡◌, ◌⊎◌, ◌<◌, ◌≤◌, ℕ, ◌∷◌, Bool, true, false, List, length, map, Vec, String, string_bytes, Option, Some, None, Result, Ok, Err}
use Rattle.std.specs.declared.alloc.Global.{Global}
use Rattle.std.specs.FinMap.{from_entries, get}
use Rattle.eh_outer.specs.declared.store.StoreError.{StoreError}
use Rattle.eh_outer.specs.declared.store.StoreError.TheVariants as errors
use Rattle.eh_outer.specs.declared.store.RefusalKind.{RefusalKind}
use Rattle.eh_outer.specs.declared.store.RefusalKind.TheVariants.{FailedRead, FailedWrite, LongRead}
use Rattle.eh_outer.specs.Schedule.{one_more, next_fails}
use Rattle.eh_outer.specs.Store.{Files, RefusalView, StoreView}

-- its files as names and bytes, of which the first of each name counts, the numbers of the calls that fail, how many calls were made, how many were refused, and the last refusal
pub record MemStoreView : Type 0 where
  pub entries : List (List ℕ × List ℕ)
  pub fails : List ℕ
  pub calls : ℕ
  pub faults : ℕ
  pub last : Option RefusalView

-- a name and its file, apart from where they lie in memory
abbrev pub entry_of : String Global × Vec ℕ Global → List ℕ × List ℕ
entry_of file = (string_bytes file.0, file.1.items)

abbrev pub entries_of : List (String Global × Vec ℕ Global) → List (List ℕ × List ℕ)
entries_of files = map entry_of files

-- the first of each name counts
abbrev pub files_in : List (List ℕ × List ℕ) → Files
files_in entries = from_entries entries

abbrev pub files_of : MemStoreView → Files
files_of store = files_in store.entries

-- what it tells as a store
abbrev pub store_of : MemStoreView → StoreView
store_of store = record { files = Some (files_of store); faults = store.faults; last = store.last }

-- the next call fails by its number
abbrev pub fails_next : MemStoreView → Bool
fails_next store = next_fails store.fails store.calls

-- one more call was made
abbrev pub called : MemStoreView → MemStoreView
called store = record store { calls = one_more store.calls }

-- one more call was made, and refused
abbrev pub refused : RefusalKind → List ℕ → MemStoreView → MemStoreView
refused kind name store =
    record (called store) { faults = one_more store.faults; last = Some (record { kind = kind; name = name }) }

-- when a read gives each of its answers, and the store that it leaves
abbrev pub MemReads : List ℕ → ℕ → MemStoreView → MemStoreView → Result (Vec ℕ Global) StoreError → Type 0
MemReads name limit old new (Ok bytes) =
    (fails_next old ≡ false) × (get (files_of old) name ≡ Some bytes.items) × (length bytes.items ≤ limit) × (new ≡ called old)
MemReads name limit old new (Err errors.Failed) =
    ((fails_next old ≡ true) ⊎ (get (files_of old) name ≡ None)) × (new ≡ refused FailedRead name old)
MemReads name limit old new (Err (errors.TooLong n)) =
    (fails_next old ≡ false) × (file : List ℕ) × (get (files_of old) name ≡ Some file) × (n ≡ length file) × (limit < n) × (new ≡ refused (LongRead n) name old)
MemReads name limit old new (Err errors.NoMemory) = new ≡ called old

-- when a write gives each of its answers, and the store that it leaves
abbrev pub MemWrites : List ℕ → List ℕ → MemStoreView → MemStoreView → Result Unit StoreError → Type 0
MemWrites name bytes old new (Ok done) = (fails_next old ≡ false) × (new ≡ record (called old) { entries = (name, bytes) ∷ old.entries })
MemWrites name bytes old new (Err errors.Failed) = (fails_next old ≡ true) × (new ≡ refused FailedWrite name old)
MemWrites name bytes old new (Err (errors.TooLong n)) = ⊥
MemWrites name bytes old new (Err errors.NoMemory) = new ≡ called old
