-- Common information entries of .debug_frame (DWARF 5, 6.4.1): versions 1, 3 and 4, without an augmentation.
use Rattle.std.specs.Prelude.{ℕ, ◌+◌, ◌==◌, ◌||◌, false, [], length, None, Result, Ok, if◌then◌else◌}
use Rattle.eh_bytes.specs.Memory.{Part}
use Rattle.eh_bytes.specs.Field.{byte}
use Rattle.eh_bytes.specs.Leb128.{uleb, sleb}
use Rattle.table_forms.specs.declared.reason.Reason.TheVariants.{AddressSize, Version, Augmentation}
use Rattle.table_forms.specs.Fault.{Fault, ◌>>=◌, demand}
use Rattle.table_forms.specs.Instruction.{in_frames}
use Rattle.table_forms.specs.Instructions.{instructions_at}
use Rattle.table_forms.specs.Cie.{Cie, text, return_register_at}

-- the place behind a size. Refused at the size, where it is not this one
unfoldable pub size_at : ℕ → Part → ℕ → ℕ → Result ℕ Fault
size_at wanted part stop p = do
  size ← in_frames byte part stop p
  fits ← demand (size.0 == wanted) AddressSize (part.file_at + p)
  Ok size.1

-- in version 4 the size of addresses, 8, and that of segment selectors, 0
unfoldable pub sizes_at : ℕ → Part → ℕ → ℕ → Result ℕ Fault
sizes_at version part stop p =
    if version == 4 then (do
      next ← size_at 8 part stop p
      size_at 0 part stop next)
    else Ok p

-- the CIE whose length stands at `at`, and whose version at p. Refused at another version, and at the first letter of an augmentation
unfoldable pub debug_cie_at : Part → ℕ → ℕ → ℕ → Result Cie Fault
debug_cie_at part at stop p = do
  version ← in_frames byte part stop p
  known ← demand (version.0 == 1 || version.0 == 3 || version.0 == 4) Version (part.file_at + p)
  name ← in_frames text part stop version.1
  bare ← demand (length name.0 == 0) Augmentation (part.file_at + version.1)
  sizes ← sizes_at version.0 part stop name.1
  code ← in_frames uleb part stop sizes
  factor ← in_frames sleb part stop code.1
  return ← return_register_at version.0 part stop factor.1
  is ← instructions_at (record { code_factor = code.0; data_factor = factor.0; encoding = 0 }) part stop return.1 0
  Ok (record {
    place = part.file_at + at;
    version = version.0;
    augmentation = [];
    coding = record { code_factor = code.0; data_factor = factor.0; encoding = 0 };
    return_register = return.0;
    lsda_encoding = None;
    signal = false;
    instructions = is.list;
    states = is.states;
  })
