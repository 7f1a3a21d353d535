-- The head of an exception table (GCC's language-specific data area, as the Itanium C++ ABI's "Exception Handling Tables" has it).
use Rattle.std.specs.Prelude.{ℕ, ◌+◌, ◌==◌, ◌&&◌, nat_lt, Option, Some, None, is_some, Result, Ok, Err, if◌then◌else◌}
use Rattle.eh_bytes.specs.declared.frames.Region64.{Region64}
use Rattle.eh_bytes.specs.Memory.{Part}
use Rattle.eh_bytes.specs.Field.{Field, byte, at}
use Rattle.eh_bytes.specs.Leb128.{uleb}
use Rattle.eh_bytes.specs.Encoded.{encoding_format, is_direct, format_size, encoded}
use Rattle.table_forms.specs.declared.reason.Reason.TheVariants.{Encoding}
use Rattle.table_forms.specs.Fault.{Fault, fault, ◌>>=◌, demand, with_reason, table_reason}

-- the type entries end at the base, and the lists of a specification begin there
pub record Types : Type 0 where
  pub base : ℕ
  pub encoding : ℕ
  pub size : ℕ

-- the address from which pads count, the types, the encoding of sites, and where sites and actions begin; places are those of the part's bytes
pub record Head : Type 0 where
  pub pads_from : ℕ
  pub types : Option Types
  pub site_encoding : ℕ
  pub sites_at : ℕ
  pub actions_at : ℕ

-- a field of the table, which ends with its part
abbrev pub in_table : {A : Type 0} → Field A → Part → ℕ → Result (A × ℕ) Fault
in_table field part p = with_reason table_reason (part.file_at + p) (at field part.bytes p)

-- LPStart: with 255 the region's start, else a value
unfoldable pub pads_start : Part → Region64 → ℕ → ℕ → Result (ℕ × ℕ) Fault
pads_start part region e p =
    if e == 255 then Ok (region.start, p + 1)
    else do
      direct ← demand (is_direct e) Encoding (part.file_at + p)
      value ← in_table (encoded e (part.address + p + 1)) part (p + 1)
      Ok (value.0.value, value.1)

-- of the encoding's size, where it has one; the offset counts from its own end
abbrev pub sized_types : Option ℕ → Part → ℕ → ℕ → Result (Option Types × ℕ) Fault
sized_types None part e p = Err (fault Encoding (part.file_at + p))
sized_types (Some size) part e p = do
  offset ← in_table uleb part (p + 1)
  Ok (Some (record { base = offset.1 + offset.0; encoding = e; size = size }), offset.1)

-- with 255 there are no types
unfoldable pub type_table : Part → ℕ → ℕ → Result (Option Types × ℕ) Fault
type_table part e p = if e == 255 then Ok (None, p + 1) else sized_types (format_size (encoding_format e)) part e p

-- the head at a place of the part
unfoldable pub head_at : Part → Region64 → ℕ → Result Head Fault
head_at part region p = do
  start ← in_table byte part p
  pads ← pads_start part region start.0 p
  types ← in_table byte part pads.1
  table ← type_table part types.0 pads.1
  sites ← in_table byte part table.1
  plain ← demand (nat_lt sites.0 16 && is_some (encoding_format sites.0)) Encoding (part.file_at + table.1)
  size ← in_table uleb part sites.1
  Ok (record { pads_from = pads.0; types = table.0; site_encoding = sites.0; sites_at = size.1; actions_at = size.1 + size.0 })
