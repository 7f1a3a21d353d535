-- What is read of FDEs, as the definitions have it.
use Rattle.std.specs.Prelude.{◌+◌}
use Rattle.eh_bytes.specs.Memory.{Part}
use Rattle.table_forms.specs.Instructions.{instructions_at}
use Rattle.table_forms.specs.Cie.{Cie}
use Rattle.table_forms.specs.Fde as forms
use Rattle.frame_read.specs.States.{list_of}
use Rattle.frame_read.specs.declared.fde_part.FdePart.{FdePart}

-- an FDE of a CIE, whose bytes lie in this part
abbrev pub fde_seen : Part → Cie → FdePart → forms.Fde
fde_seen part cie f = record {
  address = part.address + f.at;
  place = part.file_at + f.at;
  region = f.region;
  lsda = f.lsda;
  cie = cie;
  instructions = list_of (instructions_at cie.coding part f.stop f.first cie.states);
}
