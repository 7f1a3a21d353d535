-- The segment to which the pointer of a header of the frames leads.
use Rattle.std.specs.Prelude.{ℕ, ◌+◌, ◌-◌, Option, None, option_and_then, Result, Ok, Err}
use Rattle.eh_bytes.specs.declared.error.ByteError.{ByteError}
use Rattle.eh_bytes.specs.declared.encoded.Pointer.{Pointer}
use Rattle.eh_bytes.specs.Memory.{Part, Memory, part_with}
use Rattle.eh_bytes.specs.Field.{at}
use Rattle.eh_bytes.specs.Encoded.{encoded}
use Rattle.table_dump.specs.declared.head.Base.{Base}

abbrev pub led_by : Memory → Result (Pointer × ℕ) ByteError → Option Part
led_by memory (Ok (pointer, next)) = part_with memory pointer.value
led_by memory (Err cause) = None

-- four bytes behind the header's first byte, in four bytes, relative to itself: encoding 0x1b
abbrev pub pointed_in : Memory → ℕ → Part → Option Part
pointed_in memory header part =
    led_by memory (at (encoded 0x1b (part.address + (header - part.address + 4))) part.bytes (header - part.address + 4))

unfoldable pub pointed : Memory → ℕ → Option Part
pointed memory header = option_and_then (pointed_in memory header) (part_with memory header)

abbrev pub base_of : Part → Base
base_of part = record { address = part.address; file_at = part.file_at }
