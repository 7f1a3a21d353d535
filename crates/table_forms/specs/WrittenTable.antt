-- What the bytes of an exception table's writer stand for.
use Rattle.std.specs.Prelude.{◌≡◌, ◌≢◌, ℕ, ◌+◌, ◌-◌, ◌%◌, ◌==◌, ◌≤◌, nat_lt, List, [], ◌∷◌, ◌++◌, length, drop, flat_map, slice_get, true, Option, Some, None, IsOkAnd, IsSomeAnd, if◌then◌else◌}
use Rattle.std.specs.List.{AllZip, AllByRecursion}
use Rattle.eh_bytes.specs.declared.frames.Region64.{Region64}
use Rattle.eh_bytes.specs.declared.table.ListSite.{ListSite}
use Rattle.eh_bytes.specs.Listed.{ListedTable}
use Rattle.eh_bytes.specs.Memory.{Part, Memory, part_with, is_code}
use Rattle.eh_bytes.specs.Spelling.{uleb_spelling}
use Rattle.table_forms.specs.declared.found.Site.{Site}
use Rattle.table_forms.specs.Keys.{value_at}
use Rattle.table_forms.specs.LsdaHead.{Head, Types, head_at}
use Rattle.table_forms.specs.Lsda.{Table, lsda}

-- the memory has these bytes from the address on, in one part
abbrev pub HasBytes : Memory → ℕ → List ℕ → Type 0
HasBytes memory a bytes =
    IsSomeAnd (part_with memory a) (λ part. (rest : List ℕ) × (drop (a - part.address) part.bytes ≡ bytes ++ rest))

-- how many bytes a list of indices takes: the shortest spelling of each, and its 0
abbrev pub list_size : List ℕ → ℕ
list_size indices = length (flat_map uleb_spelling indices) + 1

-- the list whose first byte is byte n, where the lists stand one after the other
abbrev pub list_from : List (List ℕ) → ℕ → Option (List ℕ)
list_from [] n = None
list_from (l ∷ ls) n = if n == 0 then Some l else if nat_lt n (list_size l) then None else list_from ls (n - list_size l)

-- without a chain the action is 0, a cleanup alone; else it has the filters of the chain
abbrev pub ChainStands : ListedTable → Table → Option ℕ → ℕ → Type 0
ChainStands list table None a = a ≡ 0
ChainStands list table (Some c) a = (a ≢ 0) × (slice_get list.chains c ≡ Some (value_at [] table.actions a))

-- the places of a site count from the start of its function; pad 0 is none
pub record SiteStands (list : ListedTable) (region : Region64) (table : Table) (written : ListSite) (site : Site) : Type 0 where
  pub start : site.start ≡ region.start + written.start
  pub end : site.end ≡ region.start + written.start + written.length
  pub pad : site.pad ≡ (if written.pad == 0 then 0 else region.start + written.pad)
  pub chain : ChainStands list table written.chain site.action

-- the table that is read has the sites of the list one by one, its chains, and the types and lists that these name
pub record TableStands (list : ListedTable) (region : Region64) (table : Table) : Type 0 where
  pub sites : AllZip (SiteStands list region table) list.sites table.sites
  pub types : AllByRecursion (λ t. slice_get list.types (t.0 - 1) ≡ Some t.1) table.types
  pub lists : AllByRecursion (λ l. list_from list.lists (l.0 - 1) ≡ Some l.1) table.lists

-- entries are relative to themselves in four bytes with a sign, at a multiple of 4
abbrev pub TypesStand : Part → Option Types → Type 0
TypesStand part types = IsSomeAnd types (λ t. (t.encoding ≡ 0x1b) × ((part.address + t.base) % 4 ≡ 0))

-- the form that the writer uses (profile): pads count from the function's start, and sites are ULEB128
pub record HeadStands (part : Part) (region : Region64) (head : Head) : Type 0 where
  pub pads : head.pads_from ≡ region.start
  pub types : TypesStand part head.types
  pub sites : head.site_encoding ≡ 1

-- a site lies in its function, and its pad is code
pub record SiteFits (memory : Memory) (region : Region64) (site : ListSite) : Type 0 where
  pub inside : site.start + site.length ≤ region.length
  pub code : site.pad ≢ 0 → is_code memory (region.start + site.pad) ≡ true

-- in every memory that has the bytes at the address, and for every function in which the sites fit, the table that is read stands for the list
pub record WritesTable (list : ListedTable) (address : ℕ) (bytes : List ℕ) : Type 0 where
  pub table : (memory : Memory) (region : Region64) → HasBytes memory address bytes →
      AllByRecursion (SiteFits memory region) list.sites → IsOkAnd (lsda memory address region) (TableStands list region)
  pub head : (memory : Memory) (region : Region64) → HasBytes memory address bytes →
      IsSomeAnd (part_with memory address) (λ part. IsOkAnd (head_at part region (address - part.address)) (HeadStands part region))
