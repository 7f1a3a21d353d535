use Rattle.std.proofs.Common.{rules}
use Rattle.eh_bytes.specs.Memory.{memory_of, part_of}
use Rattle.elf_image.proofs.FramesStart.{start_cut, start_refused, start_taken}
use Rattle.elf_image.proofs.start.frames_start.Goals as goal

pub returns-then-len-place-lt4 : goal.returns-then-len-place-lt4
returns-then-len-place-lt4 c = λ d read.
    start_cut (memory_of c.args.memory.now) c.args.header (part_of c.in_ok-segment.segment.now) d read (search rules) (search rules)

pub returns-in-Err : goal.returns-in-Err
returns-in-Err c = λ d read.
    start_refused (memory_of c.args.memory.now) c.args.header (part_of c.in_ok-segment.segment.now) d c.in-Err.field-0 read (search rules) (let t = (c.in-Err.ensures {u = tt}).takes.0 in search rules)

pub returns-in-Ok : goal.returns-in-Ok
returns-in-Ok c = λ d read.
    start_taken (memory_of c.args.memory.now) c.args.header (part_of c.in_ok-segment.segment.now) d c.in-Ok.pointer c.take_encoded.new.self.position read (search rules) (let t = (c.in-Ok.ensures {u = tt}).takes in search rules)
