-- What contracts see of CIEs and FDEs.
use Rattle.table_forms.specs.Cie as cies
use Rattle.table_forms.specs.Fde as fdes
use Rattle.frame_read.specs.declared.listed.Cie.{Cie}
use Rattle.frame_read.specs.declared.listed.Fde.{Fde}

abbrev pub cie_listed : cies.Cie → Cie
cie_listed c = record {
  version = c.version;
  augmentation = c.augmentation;
  code_factor = c.coding.code_factor;
  data_factor = c.coding.data_factor;
  return_register = c.return_register;
  place = c.place;
}

abbrev pub fde_listed : fdes.Fde → Fde
fde_listed f = record {
  region = f.region;
  lsda = f.lsda;
  signal = f.cie.signal;
  return_register = f.cie.return_register;
  place = f.place;
  address = f.address;
}
