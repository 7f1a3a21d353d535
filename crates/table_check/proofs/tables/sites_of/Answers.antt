use Rattle.std.proofs.Common.{rules, ◌≡◌, Ok, length, ap, arith, inl}
use Rattle.eh_bytes.specs.Memory.{memory_of}
use Rattle.table_forms.specs.Lsda.{lsda}
use Rattle.table_check.proofs.Few.{sites_few, counted_few}
use Rattle.table_check.proofs.tables.sites_of.Goals as goal

pub count-sites-requires-clause-fits : goal.count-sites-requires-clause-fits
count-sites-requires-clause-fits c =
    let read : lsda (memory_of c.args.memory.now) c.args.fde.now.lsda c.args.fde.now.region ≡ Ok c.in-Ok.table = search rules in
    let few = sites_few (memory_of c.args.memory.now) c.args.fde.now.lsda c.args.fde.now.region c.in-Ok.table c.requires.small read in
    inl (omega (arith, few, ap length c.sites.ensures))

pub returns-in_ok-keep_table-in-Ok-clause-few : goal.returns-in_ok-keep_table-in-Ok-clause-few
returns-in_ok-keep_table-in-Ok-clause-few c =
    let read : lsda (memory_of c.args.memory.now) c.args.fde.now.lsda c.args.fde.now.region ≡ Ok c.in-Ok.table = search rules in
    let few = sites_few (memory_of c.args.memory.now) c.args.fde.now.lsda c.args.fde.now.region c.in-Ok.table c.requires.small read in
    let bound = c.count-sites.ensures.bound in omega (arith, few, ap length c.sites.ensures, bound)

pub returns-in-Some-clause-few : goal.returns-in-Some-clause-few
returns-in-Some-clause-few c =
    counted_few (memory_of c.args.memory.now) c.args.fde.now.lsda c.args.fde.now.region c.in-Some.sites c.requires.small c.in-Some.ensures
