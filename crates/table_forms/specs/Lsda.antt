-- A whole exception table (Itanium C++ ABI, "Exception Handling Tables"): its lists, or its first refusal.
use Rattle.std.specs.Prelude.{ℕ, zero, suc, ℤ, pos, negsuc, ◌+◌, ◌-◌, ◌==◌, List, [], ◌∷◌, ◌++◌, map, flat_map, filter, not, Option, Some, None, Result, Ok, Err, if◌then◌else◌}
use Rattle.eh_bytes.specs.declared.frames.Region64.{Region64}
use Rattle.eh_bytes.specs.Memory.{Part, Memory, part_with}
use Rattle.table_forms.specs.declared.found.Site.{Site}
use Rattle.table_forms.specs.declared.reason.Reason.TheVariants.{TableTruncated}
use Rattle.table_forms.specs.Fault.{Fault, fault, ◌>>=◌, least, answer}
use Rattle.table_forms.specs.Keys.{keys}
use Rattle.table_forms.specs.LsdaHead.{Head, Types, head_at}
use Rattle.table_forms.specs.LsdaSites.{SiteRecord, site_records, site_of, site_faults}
use Rattle.table_forms.specs.LsdaChain.{Chain, chain_of, ending_faults}
use Rattle.table_forms.specs.LsdaTypes.{entry_at, list_at, filter_faults}

-- the sites in order, and in rising order of their keys: the filters of each action that a site names, the entries and the lists that these filters name
pub record Table : Type 0 where
  pub sites : List Site
  pub actions : List (ℕ × List ℤ)
  pub types : List (ℕ × ℕ)
  pub lists : List (ℕ × List ℕ)

-- all that is refused in the chain of a site's action
abbrev pub chain_faults : Memory → Part → Head → SiteRecord → Chain → List Fault
chain_faults memory part h r chain =
    flat_map (λ l. filter_faults memory part h h.types l.at l.filter) chain.links ++ ending_faults part h r.at r.action chain.ending

-- action 0 names no chain
abbrev pub action_faults : Memory → Part → Head → SiteRecord → List Fault
action_faults memory part h r = if r.action == 0 then [] else chain_faults memory part h r (chain_of part h r.action)

-- all that is refused at records that follow a site with this end: at each record, and in its chain
abbrev pub records_faults : Memory → Part → Region64 → Head → ℕ → List SiteRecord → List Fault
records_faults memory part region h before [] = []
records_faults memory part region h before (r ∷ rs) =
    site_faults memory (part.file_at + r.at) region before (site_of h region r) ++ action_faults memory part h r ++
    records_faults memory part region h (site_of h region r).end rs

-- all that is refused behind the head
unfoldable pub table_faults : Memory → Part → Region64 → Head → List Fault
table_faults memory part region h =
    let sites = site_records part h in records_faults memory part region h 0 sites.records ++ sites.cut

abbrev pub filters_of : Part → Head → ℕ → List ℤ
filters_of part h a = map (λ l. l.filter) (chain_of part h a).links

-- the index that a filter is, and the number of the list that it names
abbrev pub entries_named : ℤ → List ℕ
entries_named (pos zero) = []
entries_named (pos (suc i)) = suc i ∷ []
entries_named (negsuc n) = []

abbrev pub lists_named : ℤ → List ℕ
lists_named (pos i) = []
lists_named (negsuc n) = suc n ∷ []

abbrev pub value_of : Result ℕ Fault → ℕ
value_of (Ok v) = v
value_of (Err f) = 0

abbrev pub entry_value : Memory → Part → Head → Option Types → ℕ → ℕ
entry_value memory part h None i = 0
entry_value memory part h (Some types) i = value_of (entry_at memory part h types 0 i)

abbrev pub list_value : Part → Option Types → ℕ → List ℕ
list_value part None j = []
list_value part (Some types) j = (list_at part types (j - 1)).indices

-- the lists, where nothing is refused
unfoldable pub table_of : Memory → Part → Region64 → Head → Table
table_of memory part region h =
    let sites = map (site_of h region) (site_records part h).records in
    let actions = map (λ a. (a, filters_of part h a)) (keys (filter (λ a. not (a == 0)) (map (λ s. s.action) sites))) in
    let filters = flat_map (λ a. a.1) actions in
    let lists = map (λ j. (j, list_value part h.types j)) (keys (flat_map lists_named filters)) in
    record {
      sites = sites;
      actions = actions;
      types = map (λ i. (i, entry_value memory part h h.types i)) (keys (flat_map entries_named filters ++ flat_map (λ l. l.1) lists));
      lists = lists;
    }

-- a refusal in the head ends the reading
unfoldable pub lsda_in : Memory → Region64 → ℕ → Part → Result Table Fault
lsda_in memory region p part = do
  h ← head_at part region p
  answer (least (table_faults memory part region h)) (table_of memory part region h)

abbrev pub lsda_from : Memory → ℕ → Region64 → Option Part → Result Table Fault
lsda_from memory address region None = Err (fault TableTruncated 0)
lsda_from memory address region (Some part) = lsda_in memory region (address - part.address) part

-- the table at an address for the function of a region. Refused at 0 where no part holds the address
unfoldable pub lsda : Memory → ℕ → Region64 → Result Table Fault
lsda memory address region = lsda_from memory address region (part_with memory address)
