use Rattle.std.proofs.Common.{◌≡◌, ◌+◌, ◌-◌, sym, subst}
use Rattle.eh_bytes.specs.Memory.{memory_of, part_of}
use Rattle.lsda_read.specs.Reads.{reported}
use Rattle.lsda_pack.specs.MayPack.{IsHead, placed_as}
use Rattle.lsda_pack.proofs.HeadBy.{shaped, placed_by, not_placed}
use Rattle.lsda_read.proofs.Whole.{read_whole}
use Rattle.lsda_pack.proofs.placing.place_in.Goals as goal

pub place_formed-requires-clause-whole : goal.place_formed-requires-clause-whole
place_formed-requires-clause-whole c = read_whole (memory_of c.args.memory.now) c.args.address c.args.region c.args.table.now c.requires.read

pub returns-in_default : goal.returns-in_default
returns-in_default c load stop =
    not_placed (memory_of c.args.memory.now) (part_of c.args.segment.now) load c.args.address c.args.region c.args.table.now (λ f. c.in_default.field-0 ≡ reported f)
    c.requires.found c.in_default.ensures

pub returns : goal.returns
returns c load stop =
    let part = part_of c.args.segment.now in
    let t = c.args.table.now in
    let s = c.in-Ok.shape in
    let found = shaped (memory_of c.args.memory.now) part c.args.address c.args.region t s c.requires.found c.requires.read c.in-Ok.ensures in
    let base = c.in_ok-base.base in
    let is = subst (λ a. IsHead part c.args.region t a base found.head) (sym c.saturating_sub-actions_at.ensures)
    (subst (λ b. IsHead part c.args.region t (s.actions - part.address) b found.head) (sym c.in_ok-base.ensures.base) found.is) in
    let placed = placed_as c.args.address c.args.region (part.file_at + (c.args.address - part.address)) c.args.file_end part s found.head t in
    (placed, placed_by part load c.args.address c.args.region t s c.args.file_end stop found, c.in_ok-place_formed.ensures found.head is found.types)
