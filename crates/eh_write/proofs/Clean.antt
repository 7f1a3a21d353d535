-- A written table is read as its lists are.
use Rattle.std.proofs.Common.{◌≡◌, ◌+◌, ◌-◌, ◌<◌, ℕ, ℤ, List, [], length, Ok, refl, ap, ◌∙◌, arith, map}
use Rattle.std.specs.Prelude.{Some, slice_get}
use Rattle.std.specs.List.{AllByRecursion}
use Rattle.eh_bytes.specs.declared.frames.Region64.{Region64}
use Rattle.eh_bytes.specs.Memory.{Part, Memory}
use Rattle.eh_bytes.specs.Listed.{ListedTable}
use Rattle.table_forms.specs.LsdaTypes.{entry_at, list_at}
use Rattle.table_forms.specs.WrittenTable.{list_from}
use Rattle.eh_write.specs.Written.{actions_from}
use Rattle.eh_write.specs.CanWrite.{ChainIsThere, TypeIsThere, ChainIsGood}
use Rattle.eh_write.specs.Fits.{IsWord, IsSignedWord}
use Rattle.eh_write.proofs.HeadRead.{types_of, head_of}
use Rattle.eh_write.proofs.Shape.{entries_address}
use Rattle.eh_write.proofs.EntriesRead.{TypesFit, entry_read}
use Rattle.eh_write.proofs.ListsFound.{list_found}
use Rattle.eh_write.proofs.ChainsFound.{ChainFound, chain_found, links_filters}
use Rattle.eh_write.proofs.Readable.{IsRead, ChainRead, item_at}

-- a table at a place of a part, with all that its lists meet
pub record IsGood (list : ListedTable) (address : ℕ) (part : Part) (p : ℕ) (rest : List ℕ) : Type 0 where
  pub types : TypesFit list address part p rest
  pub sites : AllByRecursion (λ s. ChainIsThere list s.chain) list.sites
  pub chains : AllByRecursion (ChainIsGood list) list.chains
  pub filters : AllByRecursion (AllByRecursion IsSignedWord) list.chains
  pub lists : AllByRecursion (AllByRecursion (TypeIsThere list)) list.lists
  pub indices : AllByRecursion (AllByRecursion IsWord) list.lists

type_read : (list : ListedTable) (address : ℕ) (memory : Memory) (part : Part) (region : Region64) (p : ℕ) (rest : List ℕ) (named_at i : ℕ) →
    IsGood list address part p rest → TypeIsThere list i →
    (t : ℕ) × (slice_get list.types (i - 1) ≡ Some t) × (entry_at memory part (head_of list region p) (types_of list p) named_at i ≡ Ok t)
type_read list address memory part region p rest named_at i good there =
    let some = there.0 in
    let few = there.1 in
    let item = item_at list.types (i - 1) (omega (arith, some, few)) in
    (item.0, item.1, entry_read list address memory part region p named_at i item.0 rest good.types some item.1)

list_of : (list : ListedTable) (address : ℕ) (part : Part) (p : ℕ) (rest : List ℕ) (n : ℕ) (l : List ℕ) → IsGood list address part p rest →
    list_from list.lists n ≡ Some l → list_at part (types_of list p) n ≡ record { indices = l; cut = [] }
list_of list address part p rest n l good found =
    list_found list (entries_address list address) part p rest n l good.types.laid good.lists good.indices found

-- the chain that a number names
pub chain_named : (list : ListedTable) (address : ℕ) (part : Part) (region : Region64) (p : ℕ) (rest : List ℕ) (c : ℕ) → IsGood list address part p rest → c < length list.chains →
    (chain : List ℤ) × (slice_get list.chains c ≡ Some chain) × ChainFound list part (head_of list region p) c chain
chain_named list address part region p rest c good few =
    let item = item_at list.chains c few in
    (item.0, item.1, chain_found list (entries_address list address) part region p rest c item.0 good.types.laid good.chains good.filters item.1)

pub is_read : (list : ListedTable) (address : ℕ) (memory : Memory) (part : Part) (region : Region64) (p : ℕ) (rest : List ℕ) → IsGood list address part p rest →
    IsRead list (actions_from 0 list.chains) memory part region (head_of list region p)
is_read list address memory part region p rest good = record {
  pads = refl;
  sites = good.sites;
  chains = good.chains;
  indices = good.lists;
  chain_read = λ c chain at. chain_is c chain at;
  type_read = λ named_at i there. type_read list address memory part region p rest named_at i good there;
  list_read = λ n l found. list_of list address part p rest n l good found;
}
  where
    chain_is : (c : ℕ) (chain : List ℤ) → slice_get list.chains c ≡ Some chain → ChainRead part (head_of list region p) (actions_from 0 list.chains) c chain
    chain_is c chain at =
        let found = chain_found list (entries_address list address) part region p rest c chain good.types.laid good.chains good.filters at in
        record {
          action = found.after + 1;
          is = found.action;
          some = λ e. absurd (omega (arith, e));
          filters = ap (λ x. map (λ l. l.filter) x.links) found.read ∙ links_filters found.first chain;
          ends = ap (λ x. x.ending) found.read;
        }
