-- What a run leaves as it is: the memory that may not be written.
use Rattle.std.specs.Prelude.{List, length, map, replicate, if◌then◌else◌}
use Rattle.rv64_isa.specs.State.{Part}

-- a part that may be written, with zeros for its bytes
abbrev pub without_bytes : Part → Part
without_bytes part = if part.write then record part { bytes = replicate (length part.bytes) 0 } else part

-- the memory with zeros wherever it may be written
unfoldable pub frozen : List Part → List Part
frozen memory = map without_bytes memory
