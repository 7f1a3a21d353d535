-- What is gathered of the parts, one after the other.
use Rattle.std.specs.Prelude.{ℕ, List, [], ◌∷◌, ◌++◌, fold, Option, Some, None, Result}
use Rattle.eh_bytes.specs.declared.frames.Region64.{Region64}
use Rattle.eh_bytes.specs.Memory.{Part}
use Rattle.table_forms.specs.Fault.{Fault, joined}
use Rattle.table_forms.specs.Cie as cies
use Rattle.table_forms.specs.Spans.{Span, distance_at}
use Rattle.table_forms.specs.Parts.{Said, refused, said_cie, said_fde, unread, says, region_of}
use Rattle.frame_read.specs.Listed.{cie_listed, fde_listed}
use Rattle.frame_read.specs.declared.listed.Cie.{Cie}
use Rattle.frame_read.specs.declared.listed.Fde.{Fde}

pub record Gathered : Type 0 where
  pub cies : List Cie
  pub fdes : List Fde
  pub regions : List (ℕ × Region64)
  pub least : Option Fault

abbrev pub nothing : Gathered
nothing = record { cies = []; fdes = []; regions = []; least = None }

abbrev pub and_said : Gathered → Said → Gathered
and_said g (refused f) = record { cies = g.cies; fdes = g.fdes; regions = g.regions; least = joined g.least (Some f) }
and_said g (said_cie c) = record { cies = g.cies ++ cie_listed c ∷ []; fdes = g.fdes; regions = g.regions; least = g.least }
and_said g (said_fde f) = record { cies = g.cies; fdes = g.fdes ++ fde_listed f ∷ []; regions = g.regions; least = g.least }
and_said g unread = g

abbrev pub and_region : Gathered → Option (ℕ × Region64) → Gathered
and_region g None = g
and_region g (Some r) = record { cies = g.cies; fdes = g.fdes; regions = g.regions ++ r ∷ []; least = g.least }

abbrev pub and_part : Part → List (ℕ × Result cies.Cie Fault) → Gathered → Span → Gathered
and_part part entries g s = and_region (and_said g (says part entries s)) (region_of part entries s (distance_at part s))

abbrev pub gathered : Part → List (ℕ × Result cies.Cie Fault) → Gathered → List Span → Gathered
gathered part entries g spans = fold (and_part part entries) g spans
