use Rattle.std.proofs.Common.{◌≡◌, ◌∙◌, rules, ap, Some, None}
use Rattle.std.specs.List.{find}
use Rattle.std.specs.Prelude.{◌==◌}
use Rattle.scope_world.proofs.Listed.{exception_or_building, exception_found}
use Rattle.scope_world.proofs.world.World.exception.Goals as goal

pub returns-in-Some : goal.returns-in-Some
returns-in-Some g c = λ d.
    let h : Some c.in-Some.x.now ≡ find (λ x. x.number == c.args.number) c.args.self.now.live.items = search rules in
    ap exception_or_building h ∙ exception_found c.args.number c.args.self.now.live.items

pub returns-in-None : goal.returns-in-None
returns-in-None g c = λ d.
    let h : None ≡ find (λ x. x.number == c.args.number) c.args.self.now.live.items = search rules in
    ap exception_or_building h ∙ exception_found c.args.number c.args.self.now.live.items
