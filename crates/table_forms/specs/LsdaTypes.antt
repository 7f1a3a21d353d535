-- Type entries, and the lists of a specification (Itanium C++ ABI, "Exception Handling Tables": the types table).
use Rattle.std.specs.Prelude.{ℕ, zero, suc, ℤ, pos, negsuc, ◌+◌, ◌-◌, ◌*◌, nat_le, Bool, true, false, List, [], ◌∷◌, ◌++◌, length, flat_map, Option, Some, None, Result, Ok, Err}
use Rattle.eh_bytes.specs.declared.error.ByteError.{ByteError}
use Rattle.eh_bytes.specs.declared.error.ByteError.TheVariants as causes
use Rattle.eh_bytes.specs.Memory.{Part, Memory, word_at}
use Rattle.eh_bytes.specs.Field.{at}
use Rattle.eh_bytes.specs.Leb128.{uleb}
use Rattle.eh_bytes.specs.Encoded.{encoded}
use Rattle.table_forms.specs.declared.reason.Reason.TheVariants.{TableTruncated, LebRange, FilterOutside, SpecificationOpen, NoTypes}
use Rattle.table_forms.specs.Fault.{Fault, fault, ◌>>=◌, demand, refusal_of}
use Rattle.table_forms.specs.LsdaHead.{Head, Types, in_table}

abbrev pub stored : ℕ → Option ℕ → Result ℕ Fault
stored place None = Err (fault TableTruncated place)
stored place (Some word) = Ok word

-- an address, or the word that is stored there
abbrev pub followed : Memory → ℕ → Bool → ℕ → Result ℕ Fault
followed memory place false value = Ok value
followed memory place true value = stored place (word_at memory value)

-- entry i ends i - 1 entries before the base. Refused at the record that names it, where it would begin before the action table
unfoldable pub entry_at : Memory → Part → Head → Types → ℕ → ℕ → Result ℕ Fault
entry_at memory part h types named_at i = do
  inside ← demand (nat_le (h.actions_at + i * types.size) types.base) FilterOutside (part.file_at + named_at)
  entry ← in_table (encoded types.encoding (part.address + (types.base - i * types.size))) part (types.base - i * types.size)
  followed memory (part.file_at + (types.base - i * types.size)) entry.0.indirect entry.0.value

-- indices up to 0, or the refusal where they end
pub record Indices : Type 0 where
  pub indices : List ℕ
  pub cut : List Fault

abbrev pub no_indices : List Fault → Indices
no_indices cut = record { indices = []; cut = cut }

abbrev pub and_indices : ℕ → Indices → Indices
and_indices k rest = record { indices = k ∷ rest.indices; cut = rest.cut }

-- refused at the list, where the part ends before a 0; a number out of range at it
abbrev pub list_cut : Part → ℕ → ℕ → ByteError → Fault
list_cut part first p causes.LebRange = fault LebRange (part.file_at + p)
list_cut part first p _ = fault SpecificationOpen (part.file_at + first)

abbrev pub cut_by : Part → ℕ → ℕ → Result (ℕ × ℕ) ByteError → Result (ℕ × ℕ) Fault
cut_by part first p (Ok x) = Ok x
cut_by part first p (Err cause) = Err (list_cut part first p cause)

-- an index of the list
abbrev pub index_at : Part → ℕ → ℕ → Result (ℕ × ℕ) Fault
index_at part first p = cut_by part first p (at uleb part.bytes p)

abbrev pub indices_from : Result (ℕ × ℕ) Fault → (ℕ → Indices) → Indices
indices_from (Err f) more = no_indices (f ∷ [])
indices_from (Ok (zero, next)) more = no_indices []
indices_from (Ok (suc k, next)) more = and_indices (suc k) (more next)

-- at most so many; each takes a byte at least
unfoldable pub indices_within : ℕ → Part → ℕ → ℕ → Indices
indices_within zero part first p = no_indices []
indices_within (suc n) part first p = indices_from (index_at part first p) (indices_within n part first)

-- the list that filter -(n + 1) names begins n bytes behind the base
abbrev pub list_at : Part → Types → ℕ → Indices
list_at part types n = indices_within (1 + length part.bytes) part (types.base + n) (types.base + n)

abbrev pub list_faults : Memory → Part → Head → Types → ℕ → Indices → List Fault
list_faults memory part h types named_at list =
    flat_map (λ i. refusal_of (entry_at memory part h types named_at i)) list.indices ++ list.cut

-- a filter without types is refused at its record
abbrev pub filter_faults : Memory → Part → Head → Option Types → ℕ → ℤ → List Fault
filter_faults memory part h types named_at (pos zero) = []
filter_faults memory part h None named_at _ = fault NoTypes (part.file_at + named_at) ∷ []
filter_faults memory part h (Some types) named_at (pos (suc i)) = refusal_of (entry_at memory part h types named_at (suc i))
filter_faults memory part h (Some types) named_at (negsuc n) = list_faults memory part h types named_at (list_at part types n)
