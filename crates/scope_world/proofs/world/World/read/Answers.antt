use Rattle.std.proofs.Common.{subst, ap, sym}
use Rattle.meaning_forms.specs.Outcome.{read_part}
use Rattle.scope_world.specs.Gives.{Gives}
use Rattle.scope_world.specs.Seen.{world_of}
use Rattle.scope_world.proofs.world.World.read.Goals as goal

pub returns-in-Some : goal.returns-in-Some
returns-in-Some g c = λ d.
    let w = world_of g.G.Outside.told d c.args.self.now in
    subst (λ a. Gives (read_part a w) c.value.result w) (c.in-Some.ensures d) (c.value.ensures w)

pub returns-in-None : goal.returns-in-None
returns-in-None g c = λ d.
    let w = world_of g.G.Outside.told d c.args.self.now in
    ap (λ a. read_part a w) (sym (c.in-None.ensures d))
