-- What is read of CIEs, as the definitions have it.
use Rattle.std.specs.Prelude.{ℕ, ◌+◌}
use Rattle.eh_bytes.specs.Memory.{Part}
use Rattle.table_forms.specs.Instructions.{instructions_at}
use Rattle.table_forms.specs.Cie as forms
use Rattle.frame_read.specs.Seen.{coding_seen}
use Rattle.frame_read.specs.States.{list_of}
use Rattle.frame_read.specs.declared.cie_part.CiePart.{CiePart}
use Rattle.frame_read.specs.declared.augmentation.Letters.{Letters}

abbrev pub letters_seen : Letters → forms.Letters
letters_seen l = record { lsda_encoding = l.lsda_encoding; encoding = l.encoding; signal = l.signal }

-- with the place behind them
abbrev pub lettered_seen : Letters × ℕ → forms.Letters × ℕ
lettered_seen x = (letters_seen x.0, x.1)

-- a CIE whose bytes lie in this part
abbrev pub cie_seen : Part → CiePart → forms.Cie
cie_seen part c = record {
  place = part.file_at + c.at;
  version = c.version;
  augmentation = c.augmentation.now;
  coding = coding_seen c.coding;
  return_register = c.return_register;
  lsda_encoding = c.lsda_encoding;
  signal = c.signal;
  instructions = list_of (instructions_at (coding_seen c.coding) part c.stop c.first 0);
  states = c.states;
}
