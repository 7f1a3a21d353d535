use Rattle.std.proofs.Common.{rules, ◌≡◌, ◌++◌, []}
use Rattle.std.specs.Prelude.{flat_map}
use Rattle.eh_bytes.specs.Memory.{memory_of}
use Rattle.elf_image.specs.Reads.{image_seen}
use Rattle.table_dump.specs.Heads.{image_line, segment_line}
use Rattle.table_dump.proofs.Cies.{segments_end}
use Rattle.table_dump.proofs.Dumped.{whole_of, dumped}
use Rattle.table_dump.proofs.dump.text_of.Goals as goal

pub put_segments-requires : goal.put_segments-requires
put_segments-requires c =
    let s = c.args.image.now.elf.segments in let ends = segments_end s.parts.items s.in_range in search (rules, ends)

pub put_frames_cies-requires : goal.put_frames_cies-requires
put_frames_cies-requires c = (whole_of c.requires.0 c.requires.1 c.args.image.now c.requires.2 c.requires.3).seen

pub put_functions-requires : goal.put_functions-requires
put_functions-requires c =
    let w = whole_of c.requires.0 c.requires.1 c.args.image.now c.requires.2 c.requires.3 in
    let these = w.functions in (c.requires.1.functions, search (rules, these))

pub returns : goal.returns
returns c = λ file i is seen.
    let w = whole_of file i c.args.image.now is seen in
    let these = w.functions in
    let new : c.new-out.result.items ≡ [] = search rules in
    let first : c.put_image.new.out.items ≡ c.new-out.result.items ++ image_line c.args.image.now.elf.entry = search rules in
    let second : c.put_segments.new.out.items ≡ c.put_image.new.out.items ++ flat_map segment_line (memory_of c.args.image.now.elf.segments) = search rules in
    dumped i (image_seen c.args.image.now.elf) w.read c.new-out.result.items c.put_image.new.out.items c.put_segments.new.out.items c.put_frames_cies.new.out.items c.put_functions.new.out.items
    seen.image w.cies new first second (c.in_ok-put_frames_cies.ensures w.read w.reads) (c.in_ok-put_functions.ensures i.functions (search (rules, these)))
