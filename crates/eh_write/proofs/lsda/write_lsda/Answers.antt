use Rattle.std.proofs.Common.{rules, ◌≡◌, ◌<◌, ◌^◌, subst, ◌∙◌, length}
use Rattle.eh_bytes.specs.Listed.{listed_table}
use Rattle.eh_write.specs.Written.{table_bytes}
use Rattle.eh_write.specs.Fits.{NumbersFit}
use Rattle.eh_write.proofs.Writes.{writes}
use Rattle.eh_write.proofs.lsda.write_lsda.Goals as goal

pub returns-clause-stands : goal.returns-clause-stands
returns-clause-stands c =
    let list = listed_table c.args.table.now in
    let numbers : NumbersFit list = search rules in
    let whole : c.as_slice.result.now ≡ table_bytes list c.args.address = c.as_slice.ensures.value ∙ c.in_ok-bytes.ensures.bytes in
    let short : length (table_bytes list c.args.address) < 2 ^ 64 = subst (λ bytes. length bytes < 2 ^ 64) whole c.as_slice.type_inv.0 in
    let stands = writes list c.args.address numbers short in
    search rules
