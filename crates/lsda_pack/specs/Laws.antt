-- What is to hold of packing, as types.
use Rattle.std.specs.Prelude.{◌≡◌, ◌<◌, ◌≤◌, ◌≢◌, ◌⊎◌, ◌↔◌, ℕ, ℤ, ◌+◌, ◌-◌, ◌^◌, Bool, true, List, [], ◌++◌, length, map, filter, slice_get, Contains, Some, Ok, IsOkAnd}
use Rattle.std.specs.List.{AllByRecursion, AllZip}
use Rattle.eh_bytes.specs.declared.frames.Region64.{Region64}
use Rattle.eh_bytes.specs.Listed.{ListedTable}
use Rattle.eh_bytes.specs.Memory.{Memory}
use Rattle.table_forms.specs.Fde.{is_in}
use Rattle.table_forms.specs.Lsda.{Table, lsda}
use Rattle.table_forms.specs.Verdict.{Thrown, look_up_place, verdict}
use Rattle.table_forms.specs.WrittenTable.{HasBytes, SiteFits, TableStands}
use Rattle.elf_image.specs.Clean.{Function, CleanImage, clean}
use Rattle.eh_write.specs.CanWrite.{AreInOrder, ChainIsThere, ChainIsGood, TypeIsThere, TypesAreNear}
use Rattle.eh_write.specs.Fits.{NumbersFit}
use Rattle.lsda_pack.specs.ListedVerdict.{listed_verdict}
use Rattle.lsda_pack.specs.PackedLists.{packed_lists}
use Rattle.lsda_pack.specs.PackedBytes.{packed_bytes, base_for}
use Rattle.lsda_pack.specs.PackedImage.{Packing, packing}
use Rattle.lsda_pack.specs.Placed.{tables_placed}
use Rattle.lsda_pack.specs.ReadLists.{lists_read, AreInRow}
use Rattle.lsda_pack.specs.Rule.{is_packed, pads_count}
use Rattle.lsda_pack.specs.Suffixes.{actions_for}

-- at every place and for whatever is thrown the lists decide as before
abbrev pub KeepsVerdicts : ListedTable → ListedTable → Type 0
KeepsVerdicts list packed = (start place : ℕ) (thrown : Thrown) → listed_verdict packed start place thrown ≡ listed_verdict list start place thrown

abbrev pub ListsDecideAlike : Type 0
ListsDecideAlike = (list : ListedTable) → AllByRecursion (λ s. ChainIsThere list s.chain) list.sites → KeepsVerdicts list (packed_lists list)

-- packed lists stay as they are when they are packed again
abbrev pub PackedOnce : Type 0
PackedOnce = (list : ListedTable) → packed_lists (packed_lists list) ≡ packed_lists list

-- so do tables that stand for the lists and for the packed ones, wherever these lie
abbrev pub TablesDecideAlike : Type 0
TablesDecideAlike =
    (list : ListedTable) → AllByRecursion (λ s. ChainIsThere list s.chain) list.sites → (memory other : Memory) (address place : ℕ) (region : Region64) (t u : Table) →
    lsda memory address region ≡ Ok t → TableStands list region t → lsda other place region ≡ Ok u → TableStands (packed_lists list) region u →
    (ip : ℕ) (signal : Bool) (thrown : Thrown) → verdict (Some u) ip signal thrown ≡ verdict (Some t) ip signal thrown

-- a table that is read stands for the lists that are read from it, where its pads lie above the function's start and its lists stand in a row
abbrev pub ReadsItsLists : Type 0
ReadsItsLists =
    (memory : Memory) (address : ℕ) (region : Region64) (t : Table) → lsda memory address region ≡ Ok t → pads_count region.start t.sites ≡ true → AreInRow 0 t.lists →
    TableStands (lists_read region.start t) region t

-- so a table that stands for the packed lists decides as the table from which they were read
abbrev pub PackedTableDecides : Type 0
PackedTableDecides =
    (memory other : Memory) (address place : ℕ) (region : Region64) (t u : Table) →
    lsda memory address region ≡ Ok t → pads_count region.start t.sites ≡ true → AreInRow 0 t.lists →
    lsda other place region ≡ Ok u → TableStands (packed_lists (lists_read region.start t)) region u →
    (ip : ℕ) (signal : Bool) (thrown : Thrown) → verdict (Some u) ip signal thrown ≡ verdict (Some t) ip signal thrown

-- what the writer of packed bytes needs of its lists, at any address
pub record CanPack (list : ListedTable) (address : ℕ) : Type 0 where
  pub order : AreInOrder 0 list.sites
  pub sites : AllByRecursion (λ s. ChainIsThere list s.chain) list.sites
  pub chains : AllByRecursion (ChainIsGood list) list.chains
  pub lists : AllByRecursion (AllByRecursion (TypeIsThere list)) list.lists
  pub types : TypesAreNear address (address + length (packed_bytes list address)) (base_for list address) list.types

-- in every memory that has the bytes, and for every function in which the sites fit, the table that is read stands for the list
abbrev pub StandsFor : ListedTable → ℕ → Type 0
StandsFor list address =
    (memory : Memory) (region : Region64) → HasBytes memory address (packed_bytes list address) →
    AllByRecursion (SiteFits memory region) list.sites → IsOkAnd (lsda memory address region) (TableStands list region)

-- so do fewer than 2^63 bytes
abbrev pub BytesStand : Type 0
BytesStand =
    (list : ListedTable) (address : ℕ) → NumbersFit list → CanPack list address → length (packed_bytes list address) < 2 ^ 63 → StandsFor list address

-- filters end a chain
abbrev pub EndsChain : List (List ℤ) → List ℤ → Type 0
EndsChain chains filters = (c : List ℤ) × Contains chains c × ((front : List ℤ) × (c ≡ front ++ filters))

-- there is one record for each end of a chain that is not empty
pub record RecordsOnce (chains : List (List ℤ)) : Type 0 where
  pub each : (filters : List ℤ) → filters ≢ [] → Contains (map (λ s. s.filters) (actions_for chains).suffixes) filters ↔ EndsChain chains filters
  pub once : (i j : ℕ) (filters : List ℤ) → slice_get (map (λ s. s.filters) (actions_for chains).suffixes) i ≡ Some filters →
      slice_get (map (λ s. s.filters) (actions_for chains).suffixes) j ≡ Some filters → i ≡ j

-- the file keeps its length, and outside of the packed tables each byte
pub record KeepsOthers (file : List ℕ) (i : CleanImage) (p : Packing) : Type 0 where
  pub size : length p.bytes ≡ length file
  pub others : (n : ℕ) → AllByRecursion (λ t. (n < t.place) ⊎ (t.place + (t.end - t.first) ≤ n)) (filter is_packed (tables_placed file i)) →
      slice_get p.bytes n ≡ slice_get file n

-- a function has its frame, and at each place of its region the verdict that it had
pub record FunctionStays (f g : Function) : Type 0 where
  pub fde : g.fde ≡ f.fde
  pub verdict : (ip : ℕ) (signal : Bool) (thrown : Thrown) → is_in f.fde.region (look_up_place ip signal) ≡ true →
      verdict g.table ip signal thrown ≡ verdict f.table ip signal thrown

-- what a packed image is: clean, with its CIEs and functions
pub record ImageStays (i j : CleanImage) : Type 0 where
  pub entry : j.image.entry ≡ i.image.entry
  pub cies : j.cies ≡ i.cies
  pub functions : AllZip FunctionStays i.functions j.functions

abbrev pub PackingKeeps : Type 0
PackingKeeps =
    (file : List ℕ) (i : CleanImage) (p : Packing) → clean file ≡ Ok i → packing file ≡ Ok p →
    KeepsOthers file i p × IsOkAnd (clean p.bytes) (ImageStays i)

-- a packed image that is packed again is not refused, and stays as it is
abbrev pub PacksNoMore : Type 0
PacksNoMore =
    (file : List ℕ) (i : CleanImage) (p : Packing) → clean file ≡ Ok i → packing file ≡ Ok p →
    packing p.bytes ≡ Ok (record { bytes = p.bytes; tables = p.tables; packed = 0; saved = 0 })
