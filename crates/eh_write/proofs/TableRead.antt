-- A written table is read as its lists.
use Rattle.std.proofs.Common.{◌≡◌, ◌+◌, ◌-◌, ◌<◌, ◌^◌, ℕ, List, [], length, take, Ok, refl, ap, arith}
use Rattle.std.specs.Prelude.{Option, Some, None, unwrap_or}
use Rattle.std.specs.List.{AllByRecursion}
use Rattle.eh_bytes.specs.declared.frames.Region64.{Region64}
use Rattle.eh_bytes.specs.Memory.{Part, Memory}
use Rattle.eh_bytes.specs.Listed.{ListedTable}
use Rattle.table_forms.specs.LsdaSites.{site_records}
use Rattle.table_forms.specs.Lsda.{table_of, lsda_in}
use Rattle.table_forms.specs.WrittenTable.{TableStands, SiteFits}
use Rattle.eh_write.specs.Written.{action_of, actions_from, site_bytes, sites_bytes, action_bytes}
use Rattle.eh_write.specs.CanWrite.{AreInOrder, ChainIsThere}
use Rattle.eh_write.specs.Fits.{HasWords}
use Rattle.table_forms.proofs.Alls.{all_more}
use Rattle.eh_write.proofs.SitesRead.{records_of, sites_stand}
use Rattle.eh_write.proofs.Shape.{entries_address, offset_of, sites_place, actions_place, from_actions}
use Rattle.eh_write.proofs.HeadRead.{head_of, head_read}
use Rattle.eh_write.proofs.Lengths.{some_site, no_more_items, inside}
use Rattle.eh_write.proofs.ChainsFound.{cut_stands}
use Rattle.eh_write.proofs.Clean.{IsGood, chain_named, is_read}
use Rattle.eh_write.proofs.ReadTable as given

-- the action of a site is less than there are bytes of action records
action_small : (list : ListedTable) (address : ℕ) (part : Part) (region : Region64) (p : ℕ) (rest : List ℕ) (chain : Option ℕ) → IsGood list address part p rest →
    ChainIsThere list chain → length (action_bytes list.chains) < 2 ^ 64 → action_of (actions_from 0 list.chains) chain < 2 ^ 64
action_small list address part region p rest None good there short = omega arith
action_small list address part region p rest (Some c) good there short =
    let found = (chain_named list address part region p rest c good there).2 in
    let action : action_of (actions_from 0 list.chains) (Some c) ≡ found.after + 1 = ap (λ o. unwrap_or o 0) found.action in
    omega (arith, action, found.few, short)

-- the whole of what a table that is written meets
pub record Written (list : ListedTable) (address : ℕ) (part : Part) (p : ℕ) (rest : List ℕ) : Type 0 where
  pub good : IsGood list address part p rest
  pub words : AllByRecursion HasWords list.sites
  pub order : AreInOrder 0 list.sites
  pub offset : offset_of list < 2 ^ 64
  pub sites : length (sites_bytes list) < 2 ^ 64
  pub actions : length (action_bytes list.chains) < 2 ^ 64

records_read : (list : ListedTable) (address : ℕ) (part : Part) (region : Region64) (p : ℕ) (rest : List ℕ) → Written list address part p rest →
    site_records part (head_of list region p) ≡ record { records = records_of (sites_place list p) (actions_from 0 list.chains) list.sites; cut = [] }
records_read list address part region p rest w =
    let actions = actions_from 0 list.chains in
    let h = head_of list region p in
    let e = entries_address list address in
    let start = sites_place list p in
    let stop = actions_place list p in
    let enough : length list.sites < 1 + length part.bytes =
    omega (arith, no_more_items (site_bytes actions) (some_site actions) list.sites, inside part.bytes start (sites_bytes list) (from_actions list e rest) w.good.types.laid.sites) in
    let named = all_more (λ s. ChainIsThere list s.chain) (λ s. action_of actions s.chain < 2 ^ 64)
    (λ s there. action_small list address part region p rest s.chain w.good there w.actions) list.sites w.good.sites in
    sites_stand (take stop part.bytes) part.file_at h start (1 + length part.bytes) actions list.sites (take (stop - (start + length (sites_bytes list))) (from_actions list e rest))
    refl w.words named refl enough (some_site actions)
    (cut_stands part.bytes start stop (sites_bytes list) (from_actions list e rest) w.good.types.laid.sites (omega arith))

sites_are : (list : ListedTable) (address : ℕ) (part : Part) (region : Region64) (p : ℕ) (rest : List ℕ) → Written list address part p rest →
    given.SitesAre list (actions_from 0 list.chains) part (head_of list region p)
sites_are list address part region p rest w = record { order = w.order; first = sites_place list p; records = records_read list address part region p rest w }

pub table_stands : (list : ListedTable) (address : ℕ) (memory : Memory) (part : Part) (region : Region64) (p : ℕ) (rest : List ℕ) → Written list address part p rest →
    TableStands list region (table_of memory part region (head_of list region p))
table_stands list address memory part region p rest w =
    given.table_stands list (actions_from 0 list.chains) memory part region (head_of list region p)
    (is_read list address memory part region p rest w.good) (sites_are list address part region p rest w)

pub table_read : (list : ListedTable) (address : ℕ) (memory : Memory) (part : Part) (region : Region64) (p : ℕ) (rest : List ℕ) → Written list address part p rest →
    AllByRecursion (SiteFits memory region) list.sites → lsda_in memory region p part ≡ Ok (table_of memory part region (head_of list region p))
table_read list address memory part region p rest w fits =
    given.table_read list (actions_from 0 list.chains) memory part region (head_of list region p) p
    (is_read list address memory part region p rest w.good) (sites_are list address part region p rest w) fits
    (head_read list (entries_address list address) part region p rest w.good.types.laid w.offset w.sites)
