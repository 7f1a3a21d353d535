-- What is left of the lists that the iterators of a table go over.
use Rattle.std.specs.Prelude.{ℕ, ℤ, ◌==◌, Bool, true, false, List, [], ◌∷◌, map, Option, Some, None, Result, Ok, Err, if◌then◌else◌}
use Rattle.eh_bytes.specs.Memory.{Part}
use Rattle.table_forms.specs.declared.found.Next.{Next}
use Rattle.table_forms.specs.declared.found.Next.TheVariants.{Ends, Leaves, Goes}
use Rattle.table_forms.specs.Fault.{Fault}
use Rattle.table_forms.specs.LsdaHead.{Head}
use Rattle.table_forms.specs.LsdaSites.{SiteRecord, records_within}
use Rattle.table_forms.specs.LsdaChain.{links_within}
use Rattle.table_forms.specs.LsdaTypes.{indices_within}

-- the records from a place of the call-site table on, at most so many; nothing without a place
abbrev pub records_left : List ℕ → ℕ → Head → ℕ → Option ℕ → List SiteRecord
records_left bytes file_at h n None = []
records_left bytes file_at h n (Some p) = (records_within n bytes file_at h p).records

-- the filters from a record of a chain on
abbrev pub filters_left : Part → Head → ℕ → Option ℕ → List ℤ
filters_left part h n None = []
filters_left part h n (Some p) = map (λ l. l.filter) (links_within n part h p).links

-- the indices from a place of a list on
abbrev pub indices_left : Part → ℕ → ℕ → Option ℕ → List ℕ
indices_left part first n None = []
indices_left part first n (Some p) = (indices_within n part first p).indices

-- where a chain goes on, if it does
abbrev pub next_place : Next → Option ℕ
next_place Ends = None
next_place Leaves = None
next_place (Goes p) = Some p

-- the index that was read, but for the 0 that ends the list
abbrev pub index_read : Result (ℕ × ℕ) Fault → Option (ℕ × ℕ)
index_read (Err f) = None
index_read (Ok (k, next)) = if k == 0 then None else Some (k, next)

-- the record that was read before the end of the table
abbrev pub record_read : Bool → Result (SiteRecord × ℕ) Fault → Option (SiteRecord × ℕ)
record_read false read = None
record_read true (Err f) = None
record_read true (Ok x) = Some x

-- what a step found, and then what is left from where it leads
abbrev pub and_records : Option (SiteRecord × ℕ) → (Option ℕ → List SiteRecord) → List SiteRecord
and_records None left = []
and_records (Some (r, next)) left = r ∷ left (Some next)

abbrev pub and_filters : Option (ℤ × Option ℕ) → (Option ℕ → List ℤ) → List ℤ
and_filters None left = []
and_filters (Some (filter, next)) left = filter ∷ left next

abbrev pub and_indices : Option (ℕ × ℕ) → (Option ℕ → List ℕ) → List ℕ
and_indices None left = []
and_indices (Some (index, next)) left = index ∷ left (Some next)
