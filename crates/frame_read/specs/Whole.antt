-- What contracts see of the parts.
use Rattle.std.specs.Prelude.{List, map, Option, option_map}
use Rattle.table_forms.specs.Fault.{Fault, least}
use Rattle.table_forms.specs.Parts.{Parts}
use Rattle.table_forms.specs.Seen.{fault_of}
use Rattle.frame_read.specs.Listed.{cie_listed, fde_listed}
use Rattle.frame_read.specs.declared.listed.Cie.{Cie}
use Rattle.frame_read.specs.declared.listed.Fde.{Fde}
use Rattle.frame_read.specs.declared.gather.PartsRead.{PartsRead}

-- the CIEs and FDEs in the order of their places, and the refusal that answers of all
pub record Whole : Type 0 where
  pub cies : List Cie
  pub fdes : List Fde
  pub least : Option Fault

abbrev pub whole : Parts → Whole
whole p = record { cies = map cie_listed p.cies; fdes = map fde_listed p.fdes; least = least p.faults }

abbrev pub whole_seen : PartsRead → Whole
whole_seen p = record { cies = p.cies.items; fdes = p.fdes.items; least = option_map fault_of p.least }
