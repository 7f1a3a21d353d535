use Rattle.std.proofs.Common.{◌≡◌, IfOk, subst}
use Rattle.cxx_ast.specs.View.{checked_of}
use Rattle.meaning_forms.specs.World.{member}
use Rattle.scope_world.specs.Objects.{reference_of}
use Rattle.scope_world.specs.Seen.{world_of}
use Rattle.scope_world.proofs.frame.named.Goals as goal

pub returns-in_ok-copied-in-Field : goal.returns-in_ok-copied-in-Field
returns-in_ok-copied-in-Field g c = λ d.
    let p = checked_of c.args.c.now.program.now in
    let w = world_of g.G.Outside.told d c.args.w.now in
    rw c.in-Field.is
    (subst (λ r. IfOk c.member.result (λ q. reference_of q ≡ member p w c.in-Field.class c.in-Field.member r)) c.in_ok-copied-in-Field.ensures (c.member.ensures d))
