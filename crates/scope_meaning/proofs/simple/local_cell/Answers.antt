use Rattle.std.proofs.Common.{◌≡◌, sym, subst}
use Rattle.cxx_ast.specs.View.{checked_of, expression_of, option_of}
use Rattle.meaning_forms.specs.Outcome.{done}
use Rattle.meaning_forms.specs.Statement.{local_cell}
use Rattle.scope_world.specs.Inward.{context_of, frame_of}
use Rattle.scope_world.specs.Seen.{world_of}
use Rattle.scope_flow.specs.Always.{always}
use Rattle.scope_meaning.proofs.simple.local_cell.Goals as goal

pub returns-in_ok-new_object-in-None : goal.returns-in_ok-new_object-in-None
returns-in_ok-new_object-in-None g c =
    let d = c.args.c.now.depth in
    let r = always (checked_of c.args.c.now.program.now) in
    let f = frame_of c.args.frame.now in
    let k = context_of c.args.c.now in
    let w = world_of g.G.Outside.told d c.args.w.now in
    subst (λ e. local_cell r f (option_of expression_of e) k w ≡ done c.in_ok-new_object-in-None.field-0 (world_of g.G.Outside.told d c.new_object.new.self)) (sym c.in-None.is) (c.in_ok-new_object-in-None.ensures d)
