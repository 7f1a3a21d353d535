use Rattle.std.proofs.Common.{◌<◌, ◌∙◌, ap, sym, arith, subst, length, slice_get}
use Rattle.std.proofs.lemmas.List.{length-map}
use Rattle.eh_bytes.specs.Memory.{part_of}
use Rattle.table_forms.specs.Fde.{Fde}
use Rattle.table_forms.specs.Frames.{Frames}
use Rattle.frame_read.specs.Ready.{here_seen}
use Rattle.frame_read.specs.RowWalk.{IsWalk}
use Rattle.debug_frames.proofs.Readily.{kept_at, ready_known}
use Rattle.debug_frames.proofs.list.DebugFrames.walk.Goals as goal

pub returns : goal.returns
returns c = λ f is.
    let part = part_of c.self.inside.section in
    let bytes = c.self.inside.section.bytes.items in
    let fdes = c.self.inside.fdes.items in
    let here = c.index.result.now in
    let same = ap (λ (v : Frames). length v.fdes) c.self.view_is in let long = length-map fdes (here_seen part) in let low = c.requires in
    let inside : c.args.fde < length fdes = omega (arith, same, long, low) in
    let at = kept_at bytes part fdes c.args.fde here here f c.self.invariant.ready inside c.index.ensures (ap (λ (v : Frames). slice_get v.fdes c.args.fde) c.self.view_is ∙ is) in
    subst (λ (g : Fde). IsWalk c.new.result g g.region.start) (sym at.1) (c.new.ensures (here_seen part here) (ready_known bytes part here at.0))
