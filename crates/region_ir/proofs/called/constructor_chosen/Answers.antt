use Rattle.std.proofs.Common.{◌≢◌, ◌∙◌, length, arith, rules}
use Rattle.region_ir.specs.Given.{lowering_of}
use Rattle.region_ir.proofs.ByNumber.{chosen_by_number}
use Rattle.region_ir.proofs.called.constructor_chosen.Goals as goal

pub returns-in_default : goal.returns-in_default
returns-in_default c =
    let es = c.args.arguments.now in
    let other : length es ≢ 1 = search (rules, arith) in
    c.constructor_for-in_default.ensures ∙ chosen_by_number (lowering_of c.args.l.now) c.args.class es other
