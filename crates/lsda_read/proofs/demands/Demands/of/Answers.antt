use Rattle.std.specs.Prelude.{IsOkAnd}
use Rattle.std.proofs.Common.{◌≡◌, ◌-◌, Ok, length, sym}
use Rattle.eh_bytes.specs.declared.frames.Region64.{Region64}
use Rattle.eh_bytes.specs.Memory.{Memory, memory_of, part_of}
use Rattle.table_forms.specs.Lsda.{Table, lsda, lsda_in}
use Rattle.lsda_read.specs.declared.demands.Demands.{Demands}
use Rattle.lsda_read.specs.Demands.{AreDemands, IsRising, Suits}
use Rattle.lsda_read.proofs.KnownMore.{if_both}
use Rattle.lsda_read.proofs.Suited.{demands_serve, no_part}
use Rattle.lsda_read.proofs.demands.Demands.of.Goals as goal

pub returns-in-None : goal.returns-in-None
returns-in-None c = λ t given. absurd (no_part (memory_of c.args.memory.now) c.args.address c.args.region t (sym c.in-None.ensures.with) given)

pub returns-in-Some : goal.returns-in-Some
returns-in-Some c =
    let m = memory_of c.args.memory.now in let s = part_of c.in-Some.segment.now in let a = c.args.address in let region = c.args.region in
    let P : Demands → Type 0 = λ d. IsRising d.pads.items in
    let Q : Demands → Type 0 = λ d. (k : Memory) (t : Table) (other : Region64) → lsda_in k region (a - s.address) s ≡ Ok t → Suits k d other →
    IsOkAnd (lsda_in k other (a - s.address) s) (λ u. length u.sites ≡ length t.sites) in
    let R : Demands → Type 0 = λ d. (t : Table) → lsda m a region ≡ Ok t → AreDemands m a (length t.sites) d in
    if_both c.demands_in.result P Q R (λ d rising serve t given. demands_serve m a region s d t (sym c.in-Some.ensures.with) rising serve given)
    c.demands_in.ensures.rising c.demands_in.ensures.serve
