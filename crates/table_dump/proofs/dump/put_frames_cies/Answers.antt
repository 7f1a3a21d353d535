use Rattle.std.proofs.Common.{rules, ◌≡◌}
use Rattle.std.specs.Prelude.{Some, None, option_map}
use Rattle.eh_bytes.specs.Memory.{memory_of}
use Rattle.table_dump.specs.Pointed.{pointed, base_of}
use Rattle.table_dump.proofs.Cies.{segments_end}
use Rattle.table_dump.proofs.Dumped.{listed_stand, listed_put, none_put}
use Rattle.table_dump.proofs.dump.put_frames_cies.Goals as goal

pub returns-in-None : goal.returns-in-None
returns-in-None c = λ d is.
    let at : None ≡ option_map base_of (pointed (memory_of c.args.memory.now) c.args.header) = search rules in
    none_put (memory_of c.args.memory.now) c.args.header d c.args.out.now.items is at

pub put_cies-requires : goal.put_cies-requires
put_cies-requires c =
    let at : Some c.in-Some.base ≡ option_map base_of (pointed (memory_of c.args.memory.now) c.args.header) = search rules in
    let stand = listed_stand c.args.memory.now.parts.items c.args.header c.args.frames.now c.in-Some.base (segments_end c.args.memory.now.parts.items c.args.memory.now.in_range) c.requires at in
    search (rules, stand)

pub returns-in_ok-put_cies-in-Some : goal.returns-in_ok-put_cies-in-Some
returns-in_ok-put_cies-in-Some c = λ d is.
    let at : Some c.in-Some.base ≡ option_map base_of (pointed (memory_of c.args.memory.now) c.args.header) = search rules in
    listed_put (memory_of c.args.memory.now) c.args.header c.args.frames.now c.in-Some.base d c.args.out.now.items c.put_cies.new.out.items c.requires is at (search rules)
