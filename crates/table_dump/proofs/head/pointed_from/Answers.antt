use Rattle.std.proofs.Common.{rules, ◌+◌, ◌<◌, length, ap, sym}
use Rattle.std.specs.Prelude.{option_map}
use Rattle.eh_bytes.specs.Memory.{memory_of}
use Rattle.table_dump.specs.Pointed.{base_of}
use Rattle.table_dump.proofs.Pointers.{led_short}
use Rattle.table_dump.proofs.head.pointed_from.Goals as goal

pub returns-then-bytes-place-lt4 : goal.returns-then-bytes-place-lt4
returns-then-bytes-place-lt4 c =
    let bytes = c.args.segment.now.bytes.items in
    let short : length bytes < c.args.place + 4 = search rules in
    sym (ap (option_map base_of) (led_short (memory_of c.args.memory.now) (c.args.segment.now.address + (c.args.place + 4)) c.args.place bytes short))
