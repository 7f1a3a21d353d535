-- What a store tells of itself, and what its calls do to that.
use Rattle.std.specs.Prelude.{◌≡◌, ◌<◌, ◌≤◌, ℕ, ◌+◌, ◌-◌, ◌^◌, min, List, length, Vec, Option, Some, IfSome, IsSomeAnd, Result, Ok, Err}
use Rattle.std.specs.declared.alloc.Global.{Global}
use Rattle.std.specs.Ordering.{nat_cmp}
use Rattle.std.specs.Cmp.Lexicographic.{slice_cmp}
use Rattle.std.specs.FinMap.{FinMap, get, insert}
use Rattle.eh_outer.specs.declared.store.StoreError.{StoreError}
use Rattle.eh_outer.specs.declared.store.StoreError.TheVariants as errors
use Rattle.eh_outer.specs.declared.store.RefusalKind.{RefusalKind}
use Rattle.eh_outer.specs.declared.store.RefusalKind.TheVariants.{FailedRead, FailedWrite, LongRead}

-- the bytes of each file, by the bytes of its name
abbrev pub Files : Type 0
Files = FinMap (slice_cmp nat_cmp) (List ℕ)

-- what a store keeps of a refusal: its kind, and the name that was asked for
pub record RefusalView : Type 0 where
  pub kind : RefusalKind
  pub name : List ℕ

-- the refusals of a store: how many, and the last
pub record RefusalsView : Type 0 where
  pub count : ℕ
  pub last : Option RefusalView

-- a store: its files, where it tells them, its count of refusals, and the last of them
pub record StoreView : Type 0 where
  pub files : Option Files
  pub faults : ℕ
  pub last : Option RefusalView

-- A count rose, or it stands at the last value of u64, where it can't rise.
abbrev pub Rose : ℕ → ℕ → Type 0
Rose before now = min (before + 1) (2 ^ 64 - 1) ≤ now

-- the count rose, and the last refusal is this call's
pub record Refuses (old new : StoreView) (kind : RefusalKind) (name : List ℕ) : Type 0 where
  pub rose : Rose old.faults new.faults
  pub last : new.last ≡ Some (record { kind = kind; name = name })

-- the count has not fallen, and the last refusal is the one from before
pub record Answers (old new : StoreView) : Type 0 where
  pub later : old.faults ≤ new.faults
  pub last : new.last ≡ old.last

-- when a read gives each of its answers, and what it leaves of the refusals
abbrev pub Reads : List ℕ → ℕ → StoreView → StoreView → Result (Vec ℕ Global) StoreError → Type 0
Reads name limit old new (Ok bytes) =
    Answers old new × (length bytes.items ≤ limit) × IfSome old.files (λ files. get files name ≡ Some bytes.items)
Reads name limit old new (Err errors.Failed) = Refuses old new FailedRead name
Reads name limit old new (Err (errors.TooLong n)) =
    Refuses old new (LongRead n) name × (limit < n) × IfSome old.files (λ files. IsSomeAnd (get files name) (λ file. limit < length file))
Reads name limit old new (Err errors.NoMemory) = Answers old new

-- the told files are the ones from before, with these bytes under the name
abbrev pub Stores : List ℕ → List ℕ → StoreView → StoreView → Type 0
Stores name bytes old new = IfSome old.files (λ files. new.files ≡ Some (insert files name bytes))

-- when a write gives each of its answers, and what it leaves
abbrev pub Writes : List ℕ → List ℕ → StoreView → StoreView → Result Unit StoreError → Type 0
Writes name bytes old new (Ok done) = Answers old new × Stores name bytes old new
Writes name bytes old new (Err errors.Failed) = Refuses old new FailedWrite name × (new.files ≡ old.files)
Writes name bytes old new (Err (errors.TooLong n)) = ⊥
Writes name bytes old new (Err errors.NoMemory) = Answers old new × (new.files ≡ old.files)
