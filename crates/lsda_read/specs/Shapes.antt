-- The form of an exception table: how LPStart and types are encoded, and where actions and the base lie.
use Rattle.std.specs.Prelude.{◌≡◌, ℕ, ◌+◌, ◌-◌, Option, Some, None, Result, Ok, Err, IsErrAnd}
use Rattle.eh_bytes.specs.declared.frames.Region64.{Region64}
use Rattle.eh_bytes.specs.Memory.{Part, Memory, part_with}
use Rattle.eh_bytes.specs.Field.{byte}
use Rattle.table_forms.specs.declared.reason.Reason.TheVariants.{TableTruncated}
use Rattle.table_forms.specs.Fault.{Fault, fault, ◌>>=◌}
use Rattle.table_forms.specs.LsdaHead.{Head, Types, head_at, in_table}
use Rattle.lsda_read.specs.declared.error.TableError.{TableError}
use Rattle.lsda_read.specs.declared.shape.Shape.{Shape}
use Rattle.lsda_read.specs.Reads.{reported}

abbrev pub encoding_of : Option Types → ℕ
encoding_of None = 255
encoding_of (Some types) = types.encoding

abbrev pub base_of : Part → Option Types → ℕ
base_of part None = 0
base_of part (Some types) = part.address + types.base

abbrev pub shape_of : Part → Head → ℕ → Shape
shape_of part h lp_start = record { lp_start = lp_start; ttype = encoding_of h.types; actions = part.address + h.actions_at; base = base_of part h.types }

-- of the table at a place of the part
unfoldable pub shape_at : Part → Region64 → ℕ → Result Shape Fault
shape_at part region p = do
  lp_start ← in_table byte part p
  h ← head_at part region p
  Ok (shape_of part h lp_start.0)

abbrev pub shape_in : Region64 → ℕ → Option Part → Result Shape Fault
shape_in region address None = Err (fault TableTruncated 0)
shape_in region address (Some part) = shape_at part region (address - part.address)

-- of the table at an address
unfoldable pub shape : Memory → ℕ → Region64 → Result Shape Fault
shape memory address region = shape_in region address (part_with memory address)

-- it is what the head says, or the error is the refusal of the head
abbrev pub ReadsShape : Result Shape TableError → Result Shape Fault → Type 0
ReadsShape (Ok s) read = read ≡ Ok s
ReadsShape (Err e) read = IsErrAnd read (λ f. e ≡ reported f)
