-- Encoded pointers (LSB Core, "DWARF Exception Header Encoding"): how the number is spelled, how it applies, and whether the address is stored elsewhere.
use Rattle.std.specs.Prelude.{ℕ, ℤ, ◌+◌, ◌-◌, ◌/◌, ◌%◌, ◌*◌, ◌^◌, ◌==◌, ◌&&◌, ◌||◌, Bool, nat_lt, nat_le, Option, Some, is_some, None, Ok, Err, false, if◌then◌else◌}
use Rattle.std.specs.Int.{cast_unsigned, Width, w16, w32, w64, byte_len}
use Rattle.eh_bytes.specs.declared.error.ByteError.TheVariants.{Encoding}
use Rattle.eh_bytes.specs.declared.encoded.Pointer.{Pointer}
use Rattle.eh_bytes.specs.Field.{Reading, Field, fixed}
use Rattle.eh_bytes.specs.Leb128.{uleb, sleb}

-- how the number is spelled
pub data Format : Type 0 where
  unsigned : Width → Format
  signed : Width → Format
  uleb128 : Format
  sleb128 : Format

-- the low four bits: DW_EH_PE_absptr 0, uleb128 1, udata2 2, udata4 3, udata8 4, sleb128 9, sdata2 10, sdata4 11, sdata8 12
abbrev pub format_of : ℕ → Option Format
format_of encoding =
    let f = encoding % 16 in
    if f == 0 || f == 4 then Some (unsigned w64)
    else if f == 1 then Some uleb128
    else if f == 2 then Some (unsigned w16)
    else if f == 3 then Some (unsigned w32)
    else if f == 9 then Some sleb128
    else if f == 10 then Some (signed w16)
    else if f == 11 then Some (signed w32)
    else if f == 12 then Some (signed w64)
    else None

-- DW_EH_PE_pcrel, 0x10: the number counts from the address of its field
abbrev pub is_relative : ℕ → Bool
is_relative encoding = encoding / 16 % 8 == 1

-- DW_EH_PE_indirect, 0x80: the value is the address of the word that holds it
abbrev pub is_indirect : ℕ → Bool
is_indirect encoding = nat_le 128 encoding

-- the format of an encoding that applies absolutely or by the field's address (profile: in no other way); DW_EH_PE_omit, 0xff, has none
abbrev pub encoding_format : ℕ → Option Format
encoding_format encoding = if nat_lt (encoding / 16 % 8) 2 then format_of encoding else None

-- an encoding whose value is the address itself
abbrev pub is_direct : ℕ → Bool
is_direct encoding = nat_lt encoding 128 && is_some (encoding_format encoding)

-- how many bytes a field takes, where its format alone says it
abbrev pub format_size : Option Format → Option ℕ
format_size (Some (unsigned w)) = Some (byte_len w)
format_size (Some (signed w)) = Some (byte_len w)
format_size _ = None

-- a signed number modulo 2^64
abbrev pub wraps : Reading ℤ → Reading ℕ
wraps (Ok (value, taken)) = Ok (cast_unsigned w64 value, taken)
wraps (Err cause) = Err cause

-- the sign of a number of so many bytes goes on up to the 64th bit
abbrev pub extended : ℕ → ℕ → ℕ
extended len n = if nat_lt n (2 ^ (8 * len - 1)) then n else n + (2 ^ 64 - 2 ^ (8 * len))

abbrev pub extends : ℕ → Reading ℕ → Reading ℕ
extends len (Ok (value, taken)) = Ok (extended len value, taken)
extends len (Err cause) = Err cause

-- the number that stands in the field, modulo 2^64
unfoldable pub raw : Option Format → Field ℕ
raw None bytes = Err Encoding
raw (Some (unsigned w)) bytes = fixed w bytes
raw (Some (signed w)) bytes = extends (byte_len w) (fixed w bytes)
raw (Some uleb128) bytes = uleb bytes
raw (Some sleb128) bytes = wraps (sleb bytes)

-- what the number of a field at an address says; a 0 is the value 0, however it is encoded
abbrev pub applied : ℕ → ℕ → ℕ → Pointer
applied encoding address n =
    if n == 0 then record { value = 0; indirect = false }
    else record { value = (if is_relative encoding then (n + address) % 2 ^ 64 else n); indirect = is_indirect encoding }

abbrev pub applies : ℕ → ℕ → Reading ℕ → Reading Pointer
applies encoding address (Ok (n, taken)) = Ok (applied encoding address n, taken)
applies encoding address (Err cause) = Err cause

-- the pointer of an encoding, where its field has this address
unfoldable pub encoded : ℕ → ℕ → Field Pointer
encoded encoding address bytes = applies encoding address (raw (encoding_format encoding) bytes)
