use Rattle.std.proofs.Common.{rules, ◌≡◌, Ok, sym, subst}
use Rattle.elf_image.specs.Elf.{elf}
use Rattle.elf_image.specs.Reads.{image_seen}
use Rattle.elf_image.specs.Clean.{judged}
use Rattle.table_check.specs.Checks.{IsReported}
use Rattle.table_check.proofs.Judged.{reports_elf, reports_frames}
use Rattle.table_check.proofs.Whole.{memory_small, order_fits, order_few, reports_counted, reads_clean}
use Rattle.table_check.proofs.clean.read_image.Goals as goal

pub returns-in_err-elf : goal.returns-in_err-elf
returns-in_err-elf c = search (rules, reports_elf)

pub returns-in-Err : goal.returns-in-Err
returns-in-Err c =
    let read : elf c.args.bytes.now c.args.run ≡ Ok (image_seen c.in_ok-elf.elf) = search rules in
    subst (λ x. IsReported x (judged c.args.bytes.now c.args.run)) (sym c.of_frames.ensures) (reports_frames c.args.bytes.now c.args.run (image_seen c.in_ok-elf.elf) c.in-Err.e read c.in-Err.ensures)

pub count_tables-requires-clause-fits : goal.count_tables-requires-clause-fits
count_tables-requires-clause-fits c = search (rules, order_fits)

pub count_tables-requires-clause-few : goal.count_tables-requires-clause-few
count_tables-requires-clause-few c = search (rules, order_few)

pub count_tables-requires-clause-small : goal.count_tables-requires-clause-small
count_tables-requires-clause-small c = search (rules, memory_small)

pub returns-in_err-counted : goal.returns-in_err-counted
returns-in_err-counted c = search (rules, reports_counted)

pub returns : goal.returns
returns c = search (rules, reads_clean)
