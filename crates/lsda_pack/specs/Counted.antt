-- A file as its tables are packed one after the other, and what is counted of them.
use Rattle.std.specs.Prelude.{ℕ, ◌+◌, ◌-◌, ◌≤◌, ◌++◌, List, length, replicate, option_map, Option, Some, None, IfSome}
use Rattle.lsda_pack.specs.declared.placing.Placing.{Placing}
use Rattle.lsda_pack.specs.declared.reach.Taken.{Taken}
use Rattle.lsda_pack.specs.declared.rewriting.Packed.{Packed}
use Rattle.lsda_pack.specs.PackedImage.{Packing, put_at}

abbrev pub packing_seen : Packed → Packing
packing_seen p = record { bytes = p.bytes.items; tables = p.tables; packed = p.packed; saved = p.saved }

-- a file of which nothing is packed yet
abbrev pub not_packed : List ℕ → Packing
not_packed file = record { bytes = file; tables = 0; packed = 0; saved = 0 }

-- how many bytes packed bytes leave over of those that a table takes
abbrev pub left_over : Taken → List ℕ → ℕ
left_over taken bytes = taken.end - taken.first - length bytes

-- with one table more, which takes so much and has packed bytes or not
abbrev pub put_bytes : Packing → Taken → Option (List ℕ) → Packing
put_bytes p taken None = record { bytes = p.bytes; tables = p.tables + 1; packed = p.packed; saved = p.saved }
put_bytes p taken (Some bytes) = record {
  bytes = put_at taken.place (bytes ++ replicate (left_over taken bytes) 0) p.bytes;
  tables = p.tables + 1;
  packed = p.packed + 1;
  saved = p.saved + left_over taken bytes;
}

abbrev pub put_placing : Packing → Placing → Packing
put_placing p x = put_bytes p x.taken.memory (option_map (λ b. b.items) x.packed)

-- packed bytes are not more than the table's, which all stand in a file of this size
abbrev pub HasRoom : ℕ → Placing → Type 0
HasRoom size x = IfSome x.packed (λ b. (length b.items ≤ x.taken.memory.end - x.taken.memory.first) × (x.taken.memory.place + (x.taken.memory.end - x.taken.memory.first) ≤ size))
