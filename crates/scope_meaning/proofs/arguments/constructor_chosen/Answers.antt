use Rattle.std.proofs.Common.{◌≢◌, ◌∙◌, length, arith, rules}
use Rattle.cxx_ast.specs.View.{checked_of}
use Rattle.scope_world.specs.Inward.{frame_of}
use Rattle.scope_world.specs.Seen.{world_of}
use Rattle.scope_meaning.proofs.Chosen.{chosen_by_number}
use Rattle.scope_meaning.proofs.arguments.constructor_chosen.Goals as goal

pub returns-in_default : goal.returns-in_default
returns-in_default g c = λ d.
    let p = checked_of c.args.c.now.program.now in
    let es = c.args.arguments.now in
    let other : length es ≢ 1 = search (rules, arith) in
    c.constructor_for-in_default.ensures ∙ chosen_by_number p (world_of g.G.Outside.told d c.args.w.now) (frame_of c.args.frame.now) c.args.class es other
