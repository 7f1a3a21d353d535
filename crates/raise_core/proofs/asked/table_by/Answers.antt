use Rattle.std.proofs.Common.{◌≡◌, true, subst, ap, sym, ◌∙◌}
use Rattle.std.specs.Prelude.{IfSome, option_and_then, option_map, Option}
use Rattle.eh_bytes.specs.Memory.{Memory}
use Rattle.frame_walk.specs.declared.located.Located.{Located}
use Rattle.frame_walk.specs.Located.{located_seen}
use Rattle.frame_walk.specs.Outward.{tables_of}
use Rattle.frame_walk.proofs.Tables.{tables_same}
use Rattle.raise_core.specs.Asked.{table_named}
use Rattle.raise_core.specs.Lookups.{table_by}
use Rattle.raise_core.specs.Reads.{is_readable}
use Rattle.raise_core.proofs.asked.table_by.Goals as goal

pub table_named-requires : goal.table_named-requires
table_named-requires c =
    let fde = c.in-Some.located.fde in
    let same = tables_same c.args.machine.now c.tables.result.now c.tables.ensures in
    let reads : is_readable (tables_of c.args.machine.now) fde ≡ true = subst (λ (o : Option Located). IfSome o (λ l. is_readable (tables_of c.args.machine.now) l.fde ≡ true)) c.in-Some.is c.requires in
    subst (λ (m : Memory). is_readable m fde ≡ true) same reads

pub returns-in-Some : goal.returns-in-Some
returns-in-Some c =
    let fde = c.in-Some.located.fde in
    let same = tables_same c.args.machine.now c.tables.result.now c.tables.ensures in
    c.table_named.ensures ∙ ap (λ (k : Memory). table_named k fde.lsda fde.region) (sym same) ∙ sym (ap (λ (o : Option Located). option_and_then (table_by (tables_of c.args.machine.now)) (option_map located_seen o)) c.in-Some.is)
