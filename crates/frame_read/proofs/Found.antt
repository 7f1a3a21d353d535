-- A search of CIEs, as they were read.
use Rattle.std.proofs.Common.{◌≡◌, ◌+◌, ◌==◌, ℕ, List, Option, Some, None, refl, ap, ◌∙◌, option_map, find}
use Rattle.eh_bytes.specs.Memory.{Part}
use Rattle.eh_bytes.proofs.Mapped.{find_map}
use Rattle.table_forms.specs.Parts.{cie_behind}
use Rattle.frame_read.specs.Reads.{result_seen}
use Rattle.frame_read.specs.SeenCie.{cie_seen}
use Rattle.frame_read.specs.SeenPart.{entry_seen, entries_seen}
use Rattle.frame_read.specs.declared.entry.CieEntry.{CieEntry}

mapped : (part : Part) (o : Option CieEntry) → option_map (λ c. c.1) (option_map (entry_seen part) o) ≡ option_map (λ e. result_seen (cie_seen part) e.read) o
mapped part None = refl
mapped part (Some e) = refl

pub find_behind : (part : Part) (entries : List CieEntry) (at distance : ℕ) →
    cie_behind (entries_seen part entries) at distance ≡ option_map (λ e. result_seen (cie_seen part) e.read) (find (λ e. e.at + distance == at + 4) entries)
find_behind part entries at distance =
    ap (option_map (λ c. c.1)) (find_map (entry_seen part) (λ c. c.0 + distance == at + 4) entries) ∙ mapped part (find (λ e. e.at + distance == at + 4) entries)
