-- Frame description entries of .debug_frame (DWARF 5, 6.4.1): a location and a length of eight bytes each, and instructions.
use Rattle.std.specs.Prelude.{ℕ, zero, suc, pos, ◌+◌, ◌^◌, nat_lt, Bool, true, false, Result, Ok, Err}
use Rattle.std.specs.Int.{w64}
use Rattle.eh_bytes.specs.declared.frames.Region64.{Region64}
use Rattle.eh_bytes.specs.Memory.{Part}
use Rattle.eh_bytes.specs.Field.{fixed}
use Rattle.table_forms.specs.declared.reason.Reason.TheVariants.{FrameTruncated}
use Rattle.table_forms.specs.Fault.{Fault, ◌>>=◌, demand}
use Rattle.table_forms.specs.Instruction.{Instruction, Coding, in_frames, instruction_at}
use Rattle.table_forms.specs.Instructions.{instructions_at}
use Rattle.table_forms.specs.Cie.{Cie}
use Rattle.table_forms.specs.Fde.{Fde}

-- the region, and the place behind it. Refused at the length, where it ends above 2^64 - 1
unfoldable pub debug_region_at : Part → ℕ → ℕ → Result (Region64 × ℕ) Fault
debug_region_at part stop p = do
  start ← in_frames (fixed w64) part stop p
  len ← in_frames (fixed w64) part stop start.1
  ends ← demand (nat_lt (start.0 + len.0) (2 ^ 64)) FrameTruncated (part.file_at + start.1)
  Ok (record { start = start.0; length = len.0 }, len.1)

-- the FDE of a CIE whose length stands at `at`, and whose location at p; its address is its place in the section
unfoldable pub debug_fde_at : Cie → Part → ℕ → ℕ → ℕ → Result Fde Fault
debug_fde_at cie part at stop p = do
  region ← debug_region_at part stop p
  is ← instructions_at cie.coding part stop region.1 cie.states
  Ok (record {
    address = part.address + at;
    place = part.file_at + at;
    region = region.0;
    lsda = 0;
    cie = cie;
    instructions = is.list;
  })

-- factors of which nothing depends
abbrev pub no_factors : Coding
no_factors = record { code_factor = 0; data_factor = pos 0; encoding = 0 }

abbrev pub walked_from : Bool → Result (Instruction × ℕ) Fault → (ℕ → Result Bool Fault) → Result Bool Fault
walked_from false read more = Ok true
walked_from true (Err f) more = Err f
walked_from true (Ok (i, next)) more = more next

-- instructions up to a stop, whatever states they remember or restore, at most so many
unfoldable pub walked_within : ℕ → Part → ℕ → ℕ → Result Bool Fault
walked_within zero part stop p = Ok true
walked_within (suc n) part stop p = walked_from (nat_lt p stop) (instruction_at no_factors part stop p) (walked_within n part stop)

-- an FDE of a CIE that is refused: what its factors and its states decide is not tested
unfoldable pub orphan_at : Part → ℕ → ℕ → Result Bool Fault
orphan_at part stop p = do
  region ← debug_region_at part stop p
  walked_within stop part stop region.1
