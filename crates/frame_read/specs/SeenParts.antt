-- What is gathered, as the definitions have it.
use Rattle.std.specs.Prelude.{ℕ, ◌≡◌, ⊤, map, option_map}
use Rattle.eh_bytes.specs.declared.frames.Region64.{Region64}
use Rattle.table_forms.specs.Seen.{fault_of}
use Rattle.frame_read.specs.Gathered.{Gathered}
use Rattle.frame_read.specs.declared.entry.Said.{Said}
use Rattle.frame_read.specs.declared.entry.Said.TheVariants as found
use Rattle.frame_read.specs.declared.gather.Placed.{Placed}
use Rattle.frame_read.specs.declared.gather.PartsRead.{PartsRead}

abbrev pub placed_seen : Placed → ℕ × Region64
placed_seen p = (p.at, p.region)

abbrev pub parts_seen : PartsRead → Gathered
parts_seen p = record {
  cies = p.cies.items;
  fdes = p.fdes.items;
  regions = map placed_seen p.regions.items;
  least = option_map fault_of p.least;
}

-- what stands at a place
abbrev pub IsAt : ℕ → Said → Type 0
IsAt n (found.Refused e) = ⊤
IsAt n (found.Cie c) = c.at ≡ n
IsAt n (found.Fde f c) = f.at ≡ n
IsAt n found.Unread = ⊤
