-- The bytes of an exception table that is written from its lists (Itanium C++ ABI, "Exception Handling Tables"; the form is this profile's).
use Rattle.std.specs.Prelude.{ℕ, ℤ, zero, suc, ◌+◌, ◌-◌, ◌*◌, ◌%◌, ◌==◌, List, [], ◌∷◌, ◌++◌, length, flat_map, replicate, reverse, slice_get, Bool, Option, Some, None, unwrap_or, if◌then◌else◌}
use Rattle.std.specs.Int.{w32, to_le_bytes}
use Rattle.eh_bytes.specs.declared.table.ListSite.{ListSite}
use Rattle.eh_bytes.specs.Listed.{ListedTable}
use Rattle.eh_write.specs.Distance.{distance_bytes}
use Rattle.eh_bytes.specs.Spelling.{uleb_spelling, sleb_spelling}

-- the displacement of a record: 1 leads to the byte behind itself, where the next record stands, and 0 ends the chain
abbrev pub displacement : List ℤ → ℕ
displacement [] = 0
displacement (f ∷ fs) = 1

abbrev pub chain_bytes : List ℤ → List ℕ
chain_bytes [] = []
chain_bytes (f ∷ fs) = sleb_spelling f ++ displacement fs ∷ chain_bytes fs

-- the chains one after the other
abbrev pub action_bytes : List (List ℤ) → List ℕ
action_bytes chains = flat_map chain_bytes chains

-- the action of each chain: one more than the place of its first record, where so many bytes stand before them
abbrev pub actions_from : ℕ → List (List ℤ) → List ℕ
actions_from n [] = []
actions_from n (c ∷ cs) = (n + 1) ∷ actions_from (n + length (chain_bytes c)) cs

-- the action of a site: that of its chain, or 0
abbrev pub action_of : List ℕ → Option ℕ → ℕ
action_of actions None = 0
action_of actions (Some c) = unwrap_or (slice_get actions c) 0

abbrev pub site_bytes : List ℕ → ListSite → List ℕ
site_bytes actions s = uleb_spelling s.start ++ uleb_spelling s.length ++ uleb_spelling s.pad ++ uleb_spelling (action_of actions s.chain)

abbrev pub sites_bytes : ListedTable → List ℕ
sites_bytes list = flat_map (site_bytes (actions_from 0 list.chains)) list.sites

-- the entry at a place, which leads to the type; 0 is `catch (...)`
abbrev pub entry_bytes : ℕ → ℕ → List ℕ
entry_bytes place type = if type == 0 then to_le_bytes w32 0 else distance_bytes place type

-- entries from a place on
abbrev pub entries_from : ℕ → List ℕ → List ℕ
entries_from place [] = []
entries_from place (t ∷ ts) = entry_bytes place t ++ entries_from (place + 4) ts

abbrev pub lists_bytes : List (List ℕ) → List ℕ
lists_bytes lists = flat_map (λ l. flat_map uleb_spelling l ++ 0 ∷ []) lists

-- the encoding of sites, the length of their table, the sites and the actions
abbrev pub body_bytes : ListedTable → List ℕ
body_bytes list = 1 ∷ uleb_spelling (length (sites_bytes list)) ++ sites_bytes list ++ action_bytes list.chains

-- with this offset the base of a table at a multiple of 4 is one too: two bytes stand before the offset, which counts from its end
abbrev pub is_aligned : ℕ → Bool
is_aligned offset = (2 + length (uleb_spelling offset) + offset) % 4 == 0

-- the first such offset, of at most so many
abbrev pub offset_from : ℕ → ℕ → ℕ
offset_from zero o = o
offset_from (suc n) o = if is_aligned o then o else offset_from n (o + 1)

-- a spelling that grows by a byte can pass over one multiple of 4, and no second one
unfoldable pub base_offset : ℕ → ℕ
base_offset least = offset_from 8 least

abbrev pub least_offset : ListedTable → ℕ
least_offset list = length (body_bytes list) + 4 * length list.types

-- up to the entries
abbrev pub front_bytes : ListedTable → List ℕ
front_bytes list =
    let offset = base_offset (least_offset list) in
    255 ∷ 27 ∷ uleb_spelling offset ++ body_bytes list ++ replicate (offset - least_offset list) 0

-- the table at an address
unfoldable pub table_bytes : ListedTable → ℕ → List ℕ
table_bytes list address =
    front_bytes list ++ entries_from (address + length (front_bytes list)) (reverse list.types) ++ lists_bytes list.lists
