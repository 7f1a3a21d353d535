use Rattle.std.proofs.Common.{◌∙◌, ap}
use Rattle.cxx_ast.specs.View.{checked_of}
use Rattle.meaning_forms.specs.World.{as_class}
use Rattle.meaning_forms.specs.Frame.{lvalue}
use Rattle.meaning_forms.specs.Running.{by_reference}
use Rattle.scope_world.specs.Inward.{frame_of}
use Rattle.scope_world.specs.Seen.{world_of}
use Rattle.scope_meaning.proofs.arguments.passed_object.Goals as goal

pub returns : goal.returns
returns g c = λ d.
    let w = world_of g.G.Outside.told d c.args.w.now in
    ap by_reference
    (c.in_ok-as_class.ensures d
    ∙ ap (as_class w c.args.class) (c.in_ok-at.ensures d ∙ ap (lvalue (checked_of c.args.c.now.program.now) w (frame_of c.args.frame.now)) c.names_of.ensures))
