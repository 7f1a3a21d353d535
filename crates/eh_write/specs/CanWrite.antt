-- What a table's writer needs of its lists.
use Rattle.std.specs.Prelude.{◌≡◌, ℕ, zero, suc, ℤ, pos, negsuc, ◌+◌, ◌-◌, ◌*◌, ◌%◌, ◌<◌, ◌≤◌, List, [], ◌∷◌, length, ⊤, Option, Some, None, IsSome, ◌⊎◌}
use Rattle.std.specs.List.{AllByRecursion}
use Rattle.eh_bytes.specs.declared.table.ListSite.{ListSite}
use Rattle.eh_bytes.specs.Listed.{ListedTable}
use Rattle.table_forms.specs.WrittenTable.{list_from}
use Rattle.eh_write.specs.Distance.{IsNear}
use Rattle.eh_write.specs.Written.{front_bytes, table_bytes}

-- each site begins at or behind the end of the one before
abbrev pub AreInOrder : ℕ → List ListSite → Type 0
AreInOrder before [] = ⊤
AreInOrder before (s ∷ ss) = (before ≤ s.start) × AreInOrder (s.start + s.length) ss

-- a site's chain is there
abbrev pub ChainIsThere : ListedTable → Option ℕ → Type 0
ChainIsThere list None = ⊤
ChainIsThere list (Some c) = c < length list.chains

-- a type index counts from 1
abbrev pub TypeIsThere : ListedTable → ℕ → Type 0
TypeIsThere list i = (0 < i) × (i ≤ length list.types)

-- a filter names a type or the first byte of a list
abbrev pub FilterIsThere : ListedTable → ℤ → Type 0
FilterIsThere list (pos zero) = ⊤
FilterIsThere list (pos (suc i)) = TypeIsThere list (suc i)
FilterIsThere list (negsuc n) = IsSome (list_from list.lists n)

abbrev pub ChainIsGood : ListedTable → List ℤ → Type 0
ChainIsGood list chain = (0 < length chain) × AllByRecursion (FilterIsThere list) chain

-- types other than 0 are near the entries that lie down from the base, and outside the table
abbrev pub TypesAreNear : ℕ → ℕ → ℕ → List ℕ → Type 0
TypesAreNear first end base [] = ⊤
TypesAreNear first end base (t ∷ ts) =
    ((t ≡ 0) ⊎ (IsNear (base - 4) t × ((t < first) ⊎ (end ≤ t)))) × TypesAreNear first end (base - 4) ts

-- the lists of a table that is written at an address
pub record CanWrite (list : ListedTable) (address : ℕ) : Type 0 where
  pub aligned : address % 4 ≡ 0
  pub order : AreInOrder 0 list.sites
  pub sites : AllByRecursion (λ s. ChainIsThere list s.chain) list.sites
  pub chains : AllByRecursion (ChainIsGood list) list.chains
  pub lists : AllByRecursion (AllByRecursion (TypeIsThere list)) list.lists
  pub types : TypesAreNear address (address + length (table_bytes list address)) (address + length (front_bytes list) + 4 * length list.types) list.types
