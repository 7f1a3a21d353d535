-- Where the parts of a table end, as they are read from its bytes alone.
use Rattle.std.specs.Prelude.{ℕ, zero, suc, ℤ, ◌+◌, ◌-◌, ◌==◌, nat_lt, max, fold, List, [], ◌∷◌, ◌++◌, length, take, map, flat_map, Option, Some, None, Result, Ok, Err, if◌then◌else◌}
use Rattle.eh_bytes.specs.declared.error.ByteError.{ByteError}
use Rattle.eh_bytes.specs.Field.{at}
use Rattle.eh_bytes.specs.Leb128.{uleb, sleb}
use Rattle.table_forms.specs.declared.found.Site.{Site}
use Rattle.table_forms.specs.LsdaChain.{next_of}
use Rattle.lsda_read.specs.Left.{next_place}

abbrev pub with_next : ℕ → Result (ℤ × ℕ) ByteError → Option (ℕ × Option ℕ)
with_next p (Ok (d, next)) = Some (next, next_place (next_of p d))
with_next p (Err cause) = None

abbrev pub with_first : List ℕ → Result (ℤ × ℕ) ByteError → Option (ℕ × Option ℕ)
with_first bytes (Ok (filter, next)) = with_next next (at sleb bytes next)
with_first bytes (Err cause) = None

-- behind the record at a place, and where its chain goes on
unfoldable pub record_step : List ℕ → ℕ → ℕ → Option (ℕ × Option ℕ)
record_step bytes actions_at p = if nat_lt p actions_at then None else with_first bytes (at sleb bytes p)

abbrev pub and_step : Option (ℕ × Option ℕ) → (ℕ → List ℕ) → List ℕ
and_step None more = []
and_step (Some (stop, None)) more = stop ∷ []
and_step (Some (stop, Some p)) more = stop ∷ more p

-- behind each record from a place on, of at most so many
abbrev pub steps_within : ℕ → List ℕ → ℕ → ℕ → List ℕ
steps_within zero bytes actions_at p = []
steps_within (suc n) bytes actions_at p = and_step (record_step bytes actions_at p) (steps_within n bytes actions_at)

abbrev pub action_steps : ℕ → List ℕ → ℕ → ℕ → List ℕ
action_steps most bytes actions_at a = if a == 0 then [] else steps_within most bytes actions_at (actions_at + a - 1)

abbrev pub site_steps : ℕ → List ℕ → ℕ → List Site → List ℕ
site_steps most bytes actions_at sites = flat_map (λ s. action_steps most bytes actions_at s.action) sites

abbrev pub index_end : Result (ℕ × ℕ) ByteError → ℕ → (ℕ → ℕ) → ℕ
index_end (Err cause) p more = p
index_end (Ok (zero, next)) p more = next
index_end (Ok (suc k, next)) p more = more next

-- behind the 0 of a list, of at most so many indices
abbrev pub indices_end : ℕ → List ℕ → ℕ → ℕ
indices_end zero bytes p = p
indices_end (suc n) bytes p = index_end (at uleb bytes p) p (indices_end n bytes)

abbrev pub list_stop : List ℕ → ℕ → ℕ → ℕ
list_stop bytes base j = indices_end (1 + length bytes) bytes (base + j - 1)

abbrev pub list_stops : List ℕ → ℕ → List ℕ → List ℕ
list_stops bytes base lists = map (list_stop bytes base) lists

-- the base where a type is named
abbrev pub base_stops : ℕ → List ℕ → List ℕ
base_stops base types = if length types == 0 then [] else base ∷ []

abbrev pub name_stops : List ℕ → Option ℕ → List ℕ → List ℕ → List ℕ
name_stops bytes None types lists = []
name_stops bytes (Some base) types lists = base_stops base types ++ list_stops bytes base lists

-- records end at or before the base
abbrev pub before_base : Option ℕ → List ℕ → List ℕ
before_base None bytes = bytes
before_base (Some base) bytes = take base bytes

-- of the sites, and of the types and lists with these numbers
unfoldable pub stop_of : List ℕ → ℕ → Option ℕ → List Site → List ℕ → List ℕ → ℕ
stop_of bytes actions_at base sites types lists =
    fold max actions_at (site_steps (1 + length bytes) (before_base base bytes) actions_at sites ++ name_stops bytes base types lists)
