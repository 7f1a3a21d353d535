-- When a table is packed, by what is read of it.
use Rattle.std.specs.Prelude.{◌≡◌, map, option_map, ℕ, ◌+◌, ◌-◌, ◌==◌, ◌&&◌, nat_lt, Bool, true, List, [], ◌∷◌, length, Option, Some, None, if◌then◌else◌}
use Rattle.eh_bytes.specs.declared.frames.Region64.{Region64}
use Rattle.eh_bytes.specs.Listed.{ListedTable}
use Rattle.eh_bytes.specs.Memory.{Part}
use Rattle.table_forms.specs.Lsda.{Table}
use Rattle.table_forms.specs.LsdaHead.{Head}
use Rattle.table_forms.specs.LsdaSites.{site_of, site_records}
use Rattle.table_forms.specs.WrittenTable.{list_size}
use Rattle.lsda_read.specs.declared.shape.Shape.{Shape}
use Rattle.lsda_pack.specs.Ends.{list_stop}
use Rattle.lsda_pack.specs.PackedBytes.{base_for}
use Rattle.lsda_pack.specs.Placed.{Placed}
use Rattle.lsda_pack.specs.TableEnd.{table_end}
use Rattle.lsda_read.specs.WholeTable.{indices_at}
use Rattle.lsda_pack.specs.Rule.{is_plain, pads_count, are_near, is_packed, bytes_for}

-- lists with these numbers stand one after the other, behind so many bytes
abbrev pub stand_from : List ℕ → ℕ → (ℕ → List ℕ) → ℕ → List ℕ → Bool
stand_from bytes base indices n [] = true
stand_from bytes base indices n (j ∷ js) =
    j == n + 1 && list_stop bytes base j == base + n + list_size (indices j) && stand_from bytes base indices (n + list_size (indices j)) js

abbrev pub names_stand : List ℕ → Option ℕ → (ℕ → List ℕ) → List ℕ → Bool
names_stand bytes None indices lists = length lists == 0
names_stand bytes (Some base) indices lists = stand_from bytes base indices 0 lists

-- the bytes of a table when it is packed, where it is
abbrev pub packed_for : Placed → Option (List ℕ)
packed_for t = if is_packed t then Some (bytes_for t) else None

-- all but that its bytes stand in the file, of a table that ends here and is packed to these lists
abbrev pub may_be : List ℕ → Option ℕ → Table → List ℕ → Shape → ℕ → ℕ → ℕ → ListedTable → Bool
may_be bytes base table lists shape start first end list =
    is_plain shape && pads_count start table.sites && are_near first end (base_for list first) list.types && names_stand bytes base (indices_at table) lists

-- its packed bytes, where all is so and they are fewer
abbrev pub shorter_bytes : Bool → List ℕ → ℕ → Option (List ℕ)
shorter_bytes may packed size = if may && nat_lt (length packed) size then Some packed else None

-- a table that stands at a place of the file
abbrev pub placed_as : ℕ → Region64 → ℕ → ℕ → Part → Shape → Head → Table → Placed
placed_as first region place file_end part shape h table = record {
  first = first;
  end = part.address + table_end part h table;
  place = place;
  file_end = file_end;
  region = region;
  part = part;
  head = h;
  shape = shape;
  table = table;
}

-- the head of a table that was read, by the places of its actions and its base
pub record IsHead (part : Part) (region : Region64) (table : Table) (actions_at : ℕ) (base : Option ℕ) (h : Head) : Type 0 where
  pub listed : table.sites ≡ map (site_of h region) (site_records part h).records
  pub begins : h.actions_at ≡ actions_at
  pub stands : option_map (λ x. x.base) h.types ≡ base

-- the base by the form of a table in a segment with this address
abbrev pub base_by : Shape → ℕ → Option ℕ
base_by s address = if s.ttype == 255 then None else Some (s.base - address)
