use Rattle.std.proofs.Common.{◌≡◌, ◌+◌, ◌==◌, false, sym, arith}
use Rattle.std.proofs.lemmas.Bool.Decides.{nat_tests}
use Rattle.frame_read.specs.declared.entry.CieEntry.{CieEntry}
use Rattle.frame_read.proofs.Halves.{none_passes}
use Rattle.frame_read.proofs.cie_search.first_behind.Goals as goal

pub returns-then-distance-field : goal.returns-then-distance-field
returns-then-distance-field c =
    let far = c.if-distance-field.true in
    let fails : (e : CieEntry) → (e.at + c.args.distance == c.args.at + 4) ≡ false = λ e. grind (arith, nat_tests, far) in
    sym (none_passes (λ (e : CieEntry). e.at + c.args.distance == c.args.at + 4) c.args.entries.now fails)
