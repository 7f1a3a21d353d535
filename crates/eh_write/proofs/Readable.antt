-- Nothing is refused in a table whose parts are read as those of its lists.
use Rattle.std.proofs.Common.{◌≡◌, ◌≢◌, ◌+◌, ◌-◌, ◌<◌, ◌≤◌, ◌==◌, ℕ, ℤ, pos, negsuc, zero, suc, Bool, true, false, nat_le, List, [], ◌∷◌, ◌++◌, length, Ok, map, refl, ap, sym, subst, ◌∙◌, arith, if◌then◌else◌}
use Rattle.std.specs.Prelude.{Option, Some, None, IsSome, slice_get, flat_map, unwrap_or, ◌||◌}
use Rattle.std.specs.List.{AllByRecursion}
use Rattle.std.proofs.lemmas.Bool.Decides.{nat_tests}
use Rattle.eh_bytes.specs.declared.frames.Region64.{Region64}
use Rattle.eh_bytes.specs.declared.table.ListSite.{ListSite}
use Rattle.eh_bytes.specs.Memory.{Part, Memory, is_code}
use Rattle.eh_bytes.specs.Listed.{ListedTable}
use Rattle.table_forms.specs.declared.reason.Reason.TheVariants.{PadOutside}
use Rattle.table_forms.specs.Fault.{unless, refusal_of}
use Rattle.table_forms.specs.LsdaHead.{Head, Types}
use Rattle.table_forms.specs.LsdaSites.{SiteRecord, site_of, site_faults}
use Rattle.table_forms.specs.LsdaChain.{Link, chain_of, ended, ending_faults}
use Rattle.table_forms.specs.LsdaTypes.{entry_at, list_at, list_faults, filter_faults}
use Rattle.table_forms.specs.Lsda.{filters_of, chain_faults, action_faults, records_faults}
use Rattle.table_forms.specs.WrittenTable.{SiteFits, list_from}
use Rattle.eh_write.specs.Written.{action_of, site_bytes}
use Rattle.eh_write.specs.CanWrite.{AreInOrder, ChainIsThere, TypeIsThere, FilterIsThere, ChainIsGood}
use Rattle.eh_write.proofs.Alls.{all_at}
use Rattle.eh_write.proofs.SitesRead.{record_of, records_of}
use Rattle.eh_write.proofs.ListsFound.{all_from}

-- the chain with a number is read at its action
pub record ChainRead (part : Part) (h : Head) (actions : List ℕ) (c : ℕ) (chain : List ℤ) : Type 0 where
  pub action : ℕ
  pub is : slice_get actions c ≡ Some action
  pub some : action ≢ 0
  pub filters : filters_of part h action ≡ chain
  pub ends : (chain_of part h action).ending ≡ ended

-- the entry of a type is read as the type; without a base there is none
abbrev pub TypeRead : ListedTable → Memory → Part → Head → Option Types → ℕ → ℕ → Type 0
TypeRead list memory part h None named_at i = ⊥
TypeRead list memory part h (Some types) named_at i = (t : ℕ) × (slice_get list.types (i - 1) ≡ Some t) × (entry_at memory part h types named_at i ≡ Ok t)

-- the list whose first byte is byte n is read there
abbrev pub ListRead : Part → Option Types → ℕ → List ℕ → Type 0
ListRead part None n l = ⊥
ListRead part (Some types) n l = list_at part types n ≡ record { indices = l; cut = [] }

-- behind a head stand the actions, types and lists of a table
pub record IsRead (list : ListedTable) (actions : List ℕ) (memory : Memory) (part : Part) (region : Region64) (h : Head) : Type 0 where
  pub pads : h.pads_from ≡ region.start
  pub sites : AllByRecursion (λ s. ChainIsThere list s.chain) list.sites
  pub chains : AllByRecursion (ChainIsGood list) list.chains
  pub indices : AllByRecursion (AllByRecursion (TypeIsThere list)) list.lists
  pub chain_read : (c : ℕ) (chain : List ℤ) → slice_get list.chains c ≡ Some chain → ChainRead part h actions c chain
  pub type_read : (named_at i : ℕ) → TypeIsThere list i → TypeRead list memory part h h.types named_at i
  pub list_read : (n : ℕ) (l : List ℕ) → list_from list.lists n ≡ Some l → ListRead part h.types n l

-- an item of a list that is long enough
pub item_at : {X : Type 0} (xs : List X) (i : ℕ) → i < length xs → (x : X) × (slice_get xs i ≡ Some x)
item_at [] i within = absurd (omega (arith, within))
item_at (x ∷ xs) zero within = (x, refl)
item_at (x ∷ xs) (suc i) within = item_at xs i (omega (arith, within))

indices_clean : (list : ListedTable) (memory : Memory) (part : Part) (h : Head) (types : Types) (named_at : ℕ) (ks : List ℕ) →
    ((i : ℕ) → TypeIsThere list i → TypeRead list memory part h (Some types) named_at i) → AllByRecursion (TypeIsThere list) ks →
    flat_map (λ i. refusal_of (entry_at memory part h types named_at i)) ks ≡ []
indices_clean list memory part h types named_at [] read there = refl
indices_clean list memory part h types named_at (k ∷ ks) read there =
    let others = flat_map (λ i. refusal_of (entry_at memory part h types named_at i)) ks in
    ap (λ r. refusal_of r ++ others) (read k there.0).2 ∙ indices_clean list memory part h types named_at ks read there.1

filter_clean : (list : ListedTable) (memory : Memory) (part : Part) (h : Head) (types : Option Types) (named_at : ℕ) (f : ℤ) →
    AllByRecursion (AllByRecursion (TypeIsThere list)) list.lists → ((i : ℕ) → TypeIsThere list i → TypeRead list memory part h types named_at i) →
    ((n : ℕ) (l : List ℕ) → list_from list.lists n ≡ Some l → ListRead part types n l) → FilterIsThere list f → filter_faults memory part h types named_at f ≡ []
filter_clean list memory part h None named_at (pos zero) good read lists there = refl
filter_clean list memory part h (Some types) named_at (pos zero) good read lists there = refl
filter_clean list memory part h None named_at (pos (suc i)) good read lists there = absurd (read (suc i) there)
filter_clean list memory part h (Some types) named_at (pos (suc i)) good read lists there = ap refusal_of (read (suc i) there).2
filter_clean list memory part h None named_at (negsuc n) good read lists there = by_list (list_from list.lists n) refl there
  where
    by_list : (found : Option (List ℕ)) → list_from list.lists n ≡ found → IsSome found → filter_faults memory part h None named_at (negsuc n) ≡ []
    by_list None is some = cc
    by_list (Some l) is some = absurd (lists n l is)
filter_clean list memory part h (Some types) named_at (negsuc n) good read lists there = by_list (list_from list.lists n) refl there
  where
    by_list : (found : Option (List ℕ)) → list_from list.lists n ≡ found → IsSome found → list_faults memory part h types named_at (list_at part types n) ≡ []
    by_list None is some = cc
    by_list (Some l) is some =
        ap (list_faults memory part h types named_at) (lists n l is) ∙
        ap (λ x. x ++ []) (indices_clean list memory part h types named_at l read (all_from (AllByRecursion (TypeIsThere list)) list.lists n l good is))

links_clean : (list : ListedTable) (actions : List ℕ) (memory : Memory) (part : Part) (region : Region64) (h : Head) (links : List Link) → IsRead list actions memory part region h →
    AllByRecursion (FilterIsThere list) (map (λ l. l.filter) links) → flat_map (λ l. filter_faults memory part h h.types l.at l.filter) links ≡ []
links_clean list actions memory part region h [] good there = refl
links_clean list actions memory part region h (l ∷ ls) good there =
    let others = flat_map (λ l. filter_faults memory part h h.types l.at l.filter) ls in
    ap (λ x. x ++ others) (filter_clean list memory part h h.types l.at l.filter good.indices (good.type_read l.at) good.list_read there.0) ∙
    links_clean list actions memory part region h ls good there.1

action_clean : (list : ListedTable) (actions : List ℕ) (memory : Memory) (part : Part) (region : Region64) (h : Head) (r : SiteRecord) (chain : Option ℕ) →
    IsRead list actions memory part region h → ChainIsThere list chain → r.action ≡ action_of actions chain → action_faults memory part h r ≡ []
action_clean list actions memory part region h r None good there is =
    let zero_is : (r.action == 0) ≡ true = grind (arith, nat_tests, is) in
    ap (λ b. if b then [] else chain_faults memory part h r (chain_of part h r.action)) zero_is
action_clean list actions memory part region h r (Some c) good there is =
    let item = item_at list.chains c there in
    let found = good.chain_read c item.0 item.1 in
    let action : r.action ≡ found.action = is ∙ ap (λ o. unwrap_or o 0) found.is in
    let other : r.action ≢ 0 = λ e. found.some (sym action ∙ e) in
    let some : (r.action == 0) ≡ false = grind (arith, nat_tests, other) in
    let filters = (all_at (ChainIsGood list) list.chains c item.0 good.chains item.1).1 in
    let x = chain_of part h found.action in
    ap (λ b. if b then [] else chain_faults memory part h r (chain_of part h r.action)) some ∙
    ap (λ a. chain_faults memory part h r (chain_of part h a)) action ∙
    ap (λ fs. fs ++ ending_faults part h r.at r.action x.ending)
    (links_clean list actions memory part region h x.links good (subst (AllByRecursion (FilterIsThere list)) (sym found.filters) filters)) ∙
    ap (ending_faults part h r.at r.action) found.ends

or_true : (x y : Bool) → y ≡ true → (x || y) ≡ true
or_true true y e = refl
or_true false y e = e

site_clean : (memory : Memory) (place before : ℕ) (region : Region64) (s : ListSite) (h : Head) (r : SiteRecord) → h.pads_from ≡ region.start →
    r.start ≡ s.start → r.length ≡ s.length → r.pad ≡ s.pad → SiteFits memory region s → before ≤ region.start + s.start →
    site_faults memory place region before (site_of h region r) ≡ []
site_clean memory place before region s h r pads start len pad fits order =
    let inside = fits.inside in
    let first : nat_le before (region.start + r.start) ≡ true = grind (arith, nat_tests, order, start) in
    let second : nat_le (region.start + r.start + r.length) (region.start + region.length) ≡ true = grind (arith, nat_tests, inside, start, len) in
    rw (first, second) (ap (λ b. unless b PadOutside place) code)
  where
    at : ℕ
    at = if r.pad == 0 then 0 else h.pads_from + r.pad

    by_pad : (b : Bool) → (r.pad == 0) ≡ b → ((if b then 0 else h.pads_from + r.pad) == 0 || is_code memory (if b then 0 else h.pads_from + r.pad)) ≡ true
    by_pad true none = refl
    by_pad false some =
        let there : s.pad ≢ 0 = λ e. let c : (r.pad == 0) ≡ true = grind (arith, nat_tests, pad, e) in absurd (let f : true ≡ false = sym c ∙ some in cc) in
        let landing : is_code memory (h.pads_from + r.pad) ≡ true = ap (λ a. is_code memory (a + r.pad)) pads ∙ ap (λ a. is_code memory (region.start + a)) pad ∙ fits.code there in
        or_true (h.pads_from + r.pad == 0) (is_code memory (h.pads_from + r.pad)) landing

    code : (at == 0 || is_code memory at) ≡ true
    code = by_pad (r.pad == 0) refl

pub records_clean : (list : ListedTable) (actions : List ℕ) (memory : Memory) (part : Part) (region : Region64) (h : Head) (q before order : ℕ) (sites : List ListSite) →
    IsRead list actions memory part region h → AllByRecursion (λ s. ChainIsThere list s.chain) sites → AllByRecursion (SiteFits memory region) sites → AreInOrder order sites →
    before ≤ region.start + order →
    records_faults memory part region h before (records_of q actions sites) ≡ []
records_clean list actions memory part region h q before order [] good there fits sorted from = refl
records_clean list actions memory part region h q before order (s ∷ ss) good there fits sorted from =
    let r = record_of q actions s in
    let q2 = q + length (site_bytes actions s) in
    let next = sorted.0 in
    let end = region.start + s.start + s.length in
    let B = action_faults memory part h r in
    let C = records_faults memory part region h end (records_of q2 actions ss) in
    ap (λ x. x ++ B ++ C) (site_clean memory (part.file_at + q) before region s h r good.pads refl refl refl fits.0 (omega (arith, next, from))) ∙
    ap (λ x. x ++ C) (action_clean list actions memory part region h r s.chain good there.0 refl) ∙
    records_clean list actions memory part region h q2 end (s.start + s.length) ss good there.1 fits.1 sorted.1 (omega arith)
