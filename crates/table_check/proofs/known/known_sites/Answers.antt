use Rattle.std.specs.Prelude.{IfSome, Option}
use Rattle.std.proofs.Common.{sym, subst}
use Rattle.eh_bytes.specs.Memory.{memory_of}
use Rattle.lsda_read.specs.declared.demands.Demands.{Demands}
use Rattle.lsda_read.specs.Demands.{AreDemands}
use Rattle.table_check.proofs.known.known_sites.Goals as goal

pub returns-then-suits : goal.returns-then-suits
returns-then-suits c =
    let m = memory_of c.args.memory.now in let k = c.in_ok-table.table.now in
    let P : Option Demands → Type 0 = λ o. IfSome o (λ d. AreDemands m c.args.fde.now.lsda k.sites d) in
    let asked = subst P c.in-Some.is (c.requires c.args.fde.now.lsda k (sym c.in_ok-table.ensures.value)) in
    asked.serve c.args.fde.now.region (c.suits.ensures asked.rising c.if-suits.true)
