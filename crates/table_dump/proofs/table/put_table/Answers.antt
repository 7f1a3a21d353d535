use Rattle.std.proofs.Common.{rules, ◌≡◌}
use Rattle.table_forms.specs.Keys.{keys}
use Rattle.lsda_read.specs.Names.{actions_named, types_named, lists_named}
use Rattle.table_dump.proofs.TableText.{table_put}
use Rattle.table_dump.proofs.table.put_table.Goals as goal

pub returns : goal.returns
returns c =
    let t = c.args.table.now in
    let actions : c.as_slice.result.now ≡ keys (actions_named t) = search rules in
    let types : c.as_slice-2.result.now ≡ keys (types_named t) = search rules in
    let lists : c.as_slice-3.result.now ≡ keys (lists_named t) = search rules in
    table_put t c.args.out.now.items c.put_sites.new.out.items c.put_actions.new.out.items c.put_types.new.out.items c.put_lists.new.out.items
    c.as_slice.result.now c.as_slice-2.result.now c.as_slice-3.result.now c.requires actions types lists
    c.in_ok-put_sites.ensures c.in_ok-put_actions.ensures c.in_ok-put_types.ensures c.in_ok-put_lists.ensures
