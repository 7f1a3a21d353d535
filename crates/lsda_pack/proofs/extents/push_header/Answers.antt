use Rattle.std.proofs.Common.{◌≡◌, ◌++◌, ◌+◌, map, ap, sym, ◌∙◌}
use Rattle.std.specs.Prelude.{Some}
use Rattle.std.proofs.lemmas.Result.{on_ok_weaker}
use Rattle.eh_bytes.specs.Memory.{memory_of, part_of, part_with}
use Rattle.lsda_pack.specs.Reaches.{extent_taken}
use Rattle.lsda_pack.specs.SharedTables.{extent_in, header_in}
use Rattle.lsda_pack.proofs.FramesFrame.{header_clean}
use Rattle.lsda_pack.proofs.extents.push_header.Goals as goal

pub returns-in-Some : goal.returns-in-Some
returns-in-Some c =
    let m = memory_of c.args.memory.now in
    let s = part_of c.in-Some.segment.now in
    let h = c.args.header in
    let here : part_with m h ≡ Some s = sym c.in-Some.ensures.with in
    let old = c.args.taken.now.items in
    on_ok_weaker c.push_in.result
    (λ pushed read is. pushed ∙ ap (λ size. old ++ map extent_taken (extent_in h (h + size) (Some s))) (c.header_size-size.ensures.size (header_clean m h s read here is)) ∙
    ap (λ o. old ++ map extent_taken (header_in h o)) (sym here))
    c.push_in.ensures
