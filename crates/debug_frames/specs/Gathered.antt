-- What is gathered of the parts, one after the other.
use Rattle.std.specs.Prelude.{ℕ, List, [], ◌∷◌, ◌++◌, map, fold, Option, Some, None, option_map, Result}
use Rattle.eh_bytes.specs.declared.frames.Region64.{Region64}
use Rattle.eh_bytes.specs.Memory.{Part}
use Rattle.table_forms.specs.Fault.{Fault, joined, answer}
use Rattle.table_forms.specs.Cie.{Cie}
use Rattle.table_forms.specs.Fde.{Fde}
use Rattle.table_forms.specs.Frames.{Frames}
use Rattle.table_forms.specs.Spans.{Span}
use Rattle.table_forms.specs.Parts.{Said, refused, said_cie, said_fde, unread}
use Rattle.table_forms.specs.Seen.{fault_of}
use Rattle.frame_read.specs.SeenCie.{cie_seen}
use Rattle.frame_read.specs.SeenParts.{placed_seen}
use Rattle.frame_read.specs.Ready.{here_seen}
use Rattle.debug_frames.specs.DebugSpans.{link_at}
use Rattle.debug_frames.specs.DebugParts.{debug_says, region_of}
use Rattle.debug_frames.specs.declared.gather.PartsRead.{PartsRead}

pub record Gathered : Type 0 where
  pub cies : List Cie
  pub fdes : List Fde
  pub regions : List (ℕ × Region64)
  pub least : Option Fault

abbrev pub nothing : Gathered
nothing = record { cies = []; fdes = []; regions = []; least = None }

abbrev pub and_said : Gathered → Said → Gathered
and_said g (refused f) = record { cies = g.cies; fdes = g.fdes; regions = g.regions; least = joined g.least (Some f) }
and_said g (said_cie c) = record { cies = g.cies ++ c ∷ []; fdes = g.fdes; regions = g.regions; least = g.least }
and_said g (said_fde f) = record { cies = g.cies; fdes = g.fdes ++ f ∷ []; regions = g.regions; least = g.least }
and_said g unread = g

abbrev pub and_region : Gathered → Option (ℕ × Region64) → Gathered
and_region g None = g
and_region g (Some r) = record { cies = g.cies; fdes = g.fdes; regions = g.regions ++ r ∷ []; least = g.least }

abbrev pub and_part : Part → List (ℕ × Result Cie Fault) → Gathered → Span → Gathered
and_part part entries g s = and_region (and_said g (debug_says part entries s)) (region_of part entries s (link_at part s))

abbrev pub gathered : Part → List (ℕ × Result Cie Fault) → Gathered → List Span → Gathered
gathered part entries g spans = fold (and_part part entries) g spans

-- the same of what the code keeps
abbrev pub parts_seen : Part → PartsRead → Gathered
parts_seen part p = record {
  cies = map (cie_seen part) p.cies.items;
  fdes = map (here_seen part) p.fdes.items;
  regions = map placed_seen p.regions.items;
  least = option_map fault_of p.least;
}

-- and what a reading makes of it
abbrev pub answered : Gathered → Result Frames Fault
answered g = answer g.least (record { cies = g.cies; fdes = g.fdes })
