use Rattle.std.proofs.Common.{◌≡◌, Ok, Some, Option, false, arith}
use Rattle.std.specs.Prelude.{◌==◌}
use Rattle.std.proofs.lemmas.Bool.Decides.{nat_tests}
use Rattle.std.proofs.lemmas.Result.{IfOk-weaker}
use Rattle.eh_bytes.specs.Memory.{memory_of}
use Rattle.table_forms.specs.Lsda.{Table}
use Rattle.elf_image.specs.Clean.{table_named}
use Rattle.lsda_pack.specs.Placed.{placed_of}
use Rattle.lsda_pack.specs.Placings.{IsPlaced}
use Rattle.lsda_pack.proofs.PlacingTurns.{none_named, placed_named}
use Rattle.lsda_pack.proofs.placing.place_of.Goals as goal

pub returns-then-address-eq0 : goal.returns-then-address-eq0
returns-then-address-eq0 c o read = none_named (memory_of c.args.memory.now) c.args.loads.now c.args.fde.now.lsda c.args.fde.now.region o c.if-address-eq0.true read

pub returns : goal.returns
returns c =
    let m = memory_of c.args.memory.now in
    let ls = c.args.loads.now in
    let a = c.args.fde.now.lsda in
    let region = c.args.fde.now.region in
    let t = c.known_at-table.result in
    let read = c.known_at-table.ensures in
    let some : (a == 0) ≡ false = grind (arith, nat_tests, c.if-address-eq0.false) in
    IfOk-weaker c.place_at.result
    (λ p. IsPlaced m p (placed_of m ls a region (Some t)))
    (λ p. (o : Option Table) → table_named m a region ≡ Ok o → IsPlaced m p (placed_of m ls a region o))
    (λ p is. placed_named m ls a region t p some read is)
    c.place_at.ensures
