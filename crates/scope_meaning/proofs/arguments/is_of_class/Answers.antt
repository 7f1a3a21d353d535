use Rattle.std.proofs.Common.{◌∙◌, ap}
use Rattle.cxx_ast.specs.View.{checked_of}
use Rattle.meaning_forms.specs.Class.{class_type, derives}
use Rattle.meaning_forms.specs.Part.{part_type}
use Rattle.meaning_forms.specs.World.{part_of}
use Rattle.meaning_forms.specs.Expression.{is_of_class}
use Rattle.scope_world.specs.Inward.{frame_of}
use Rattle.scope_world.specs.Seen.{world_of}
use Rattle.scope_meaning.proofs.arguments.is_of_class.Goals as goal

pub returns-in_ok-at-in-Some : goal.returns-in_ok-at-in-Some
returns-in_ok-at-in-Some g c = λ d.
    let p = checked_of c.args.c.now.program.now in
    let w = world_of g.G.Outside.told d c.args.w.now in
    c.derives.ensures
    ∙ ap (λ t. derives p t (class_type c.args.class)) (c.type_of.ensures d ∙ ap (λ r. part_type (part_of w r)) (c.in_ok-at-in-Some.ensures d))
    ∙ ap (is_of_class p w (frame_of c.args.frame.now) c.args.class) c.in-Some.ensures
