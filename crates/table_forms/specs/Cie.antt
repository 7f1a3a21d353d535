-- Common information entries (DWARF 5, 6.4.1; LSB Core, "The Common Information Entry Format" and "Augmentation String Format").
use Rattle.std.specs.Prelude.{ℕ, zero, suc, ◌+◌, ◌==◌, ◌||◌, nat_lt, nat_le, Bool, true, false, List, [], ◌∷◌, Option, Some, None, is_some, Result, Ok, Err, if◌then◌else◌}
use Rattle.eh_bytes.specs.declared.error.ByteError.{ByteError}
use Rattle.eh_bytes.specs.declared.error.ByteError.TheVariants.{Truncated}
use Rattle.eh_bytes.specs.Memory.{Part}
use Rattle.eh_bytes.specs.Field.{Field, byte}
use Rattle.eh_bytes.specs.Leb128.{uleb, sleb}
use Rattle.eh_bytes.specs.Encoded.{encoded, encoding_format, is_direct}
use Rattle.table_forms.specs.declared.reason.Reason.TheVariants.{Encoding, FrameTruncated, Version, Augmentation, RegisterRange}
use Rattle.table_forms.specs.Fault.{Fault, fault, ◌>>=◌, demand}
use Rattle.table_forms.specs.Instruction.{Instruction, Coding, in_frames}
use Rattle.table_forms.specs.Instructions.{instructions_at}

-- a CIE, with its place in the file; the encoding of LSDA pointers is none without the letter L
pub record Cie : Type 0 where
  pub place : ℕ
  pub version : ℕ
  pub augmentation : List ℕ
  pub coding : Coding
  pub return_register : ℕ
  pub lsda_encoding : Option ℕ
  pub signal : Bool
  pub instructions : List Instruction
  pub states : ℕ

abbrev pub with_letter : ℕ → Result (List ℕ × ℕ) ByteError → Result (List ℕ × ℕ) ByteError
with_letter b (Ok (rest, taken)) = Ok (b ∷ rest, 1 + taken)
with_letter b (Err cause) = Err cause

-- a text up to a zero
abbrev pub text : Field (List ℕ)
text [] = Err Truncated
text (zero ∷ bytes) = Ok ([], 1)
text (suc b ∷ bytes) = with_letter (suc b) (text bytes)

-- P 0x50, L 0x4c, R 0x52, S 0x53
abbrev pub is_letter : ℕ → Bool
is_letter b = b == 0x50 || b == 0x4c || b == 0x52 || b == 0x53

-- where the first letter stands that is none
abbrev pub first_wrong : ℕ → List ℕ → Option ℕ
first_wrong p [] = None
first_wrong p (b ∷ bs) = if is_letter b then first_wrong (p + 1) bs else Some p

-- an augmentation is empty, or begins with z, 0x7a
abbrev pub wrong_letter : ℕ → List ℕ → Option ℕ
wrong_letter p [] = None
wrong_letter p (b ∷ bs) = if b == 0x7a then first_wrong (p + 1) bs else Some p

-- refused at the first letter that is none
abbrev pub no_wrong : Part → Option ℕ → Result Bool Fault
no_wrong part None = Ok true
no_wrong part (Some p) = Err (fault Augmentation (part.file_at + p))

-- what the letters say
pub record Letters : Type 0 where
  pub lsda_encoding : Option ℕ
  pub encoding : ℕ
  pub signal : Bool

-- the encoding of L or R
abbrev pub direct_at : Part → ℕ → ℕ → Result (ℕ × ℕ) Fault
direct_at part stop p = do
  e ← in_frames byte part stop p
  direct ← demand (is_direct e.0) Encoding (part.file_at + p)
  Ok e

-- P: an encoding and a pointer, which is read and not followed
unfoldable pub personality_at : Part → ℕ → ℕ → Result ℕ Fault
personality_at part stop p = do
  e ← in_frames byte part stop p
  known ← demand (is_some (encoding_format e.0)) Encoding (part.file_at + p)
  pointer ← in_frames (encoded e.0 (part.address + e.1)) part stop e.1
  Ok pointer.1

-- the data of one letter, and the place behind it
unfoldable pub letter_at : Part → ℕ → ℕ → Letters → ℕ → Result (Letters × ℕ) Fault
letter_at part stop letter l p =
    if letter == 0x50 then (do
      next ← personality_at part stop p
      Ok (l, next))
    else if letter == 0x4c then (do
      e ← direct_at part stop p
      Ok (record l { lsda_encoding = Some e.0 }, e.1))
    else if letter == 0x52 then (do
      e ← direct_at part stop p
      Ok (record l { encoding = e.0 }, e.1))
    else Ok (record l { signal = true }, p)

-- the data in the order of the letters; a letter may stand twice, and bytes may follow
abbrev pub letters_at : Part → ℕ → List ℕ → Letters → ℕ → Result Letters Fault
letters_at part stop [] l p = Ok l
letters_at part stop (b ∷ bs) l p = letter_at part stop b l p >>= λ x. letters_at part stop bs x.0 x.1

-- without R locations are absolute, without L there is no LSDA
abbrev pub no_letters : Letters
no_letters = record { lsda_encoding = None; encoding = 0; signal = false }

-- where the data of z ends. Refused at its length, where it leaves the part
unfoldable pub sized_at : Part → ℕ → ℕ → Result (ℕ × ℕ) Fault
sized_at part stop p = do
  size ← in_frames uleb part stop p
  inside ← demand (nat_le (size.1 + size.0) stop) FrameTruncated (part.file_at + p)
  Ok (size.1, size.1 + size.0)

-- the letters behind z, and the place behind their data
abbrev pub augmented : Part → ℕ → List ℕ → ℕ → Result (Letters × ℕ) Fault
augmented part stop [] p = Ok (no_letters, p)
augmented part stop (z ∷ letters) p = do
  data' ← sized_at part stop p
  l ← letters_at part data'.1 letters no_letters data'.0
  Ok (l, data'.1)

-- in version 1 a byte, else a ULEB128
unfoldable pub return_register_at : ℕ → Part → ℕ → ℕ → Result (ℕ × ℕ) Fault
return_register_at version part stop p = do
  r ← in_frames (if version == 1 then byte else uleb) part stop p
  known ← demand (nat_lt r.0 64) RegisterRange (part.file_at + p)
  Ok r

-- the CIE whose length stands at `at`, and whose version at p
unfoldable pub cie_at : Part → ℕ → ℕ → ℕ → Result Cie Fault
cie_at part at stop p = do
  version ← in_frames byte part stop p
  known ← demand (version.0 == 1 || version.0 == 3) Version (part.file_at + p)
  name ← in_frames text part stop version.1
  letters ← no_wrong part (wrong_letter version.1 name.0)
  code ← in_frames uleb part stop name.1
  factor ← in_frames sleb part stop code.1
  return ← return_register_at version.0 part stop factor.1
  l ← augmented part stop name.0 return.1
  is ← instructions_at (record { code_factor = code.0; data_factor = factor.0; encoding = l.0.encoding }) part stop l.1 0
  Ok (record {
    place = part.file_at + at;
    version = version.0;
    augmentation = name.0;
    coding = record { code_factor = code.0; data_factor = factor.0; encoding = l.0.encoding };
    return_register = return.0;
    lsda_encoding = l.0.lsda_encoding;
    signal = l.0.signal;
    instructions = is.list;
    states = is.states;
  })
