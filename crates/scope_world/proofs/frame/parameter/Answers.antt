use Rattle.std.proofs.Common.{◌≡◌, ◌∙◌, rules, ap, Some, None, reverse}
use Rattle.std.specs.List.{find}
use Rattle.std.specs.Prelude.{◌==◌}
use Rattle.scope_world.proofs.Listed.{reference_or_nowhere, variable_found}
use Rattle.scope_world.proofs.frame.parameter.Goals as goal

pub returns-in-Some : goal.returns-in-Some
returns-in-Some c =
    let h : Some c.in-Some.x.now ≡ find (λ x. x.number == c.args.number) (reverse c.args.variables.now) = search rules in
    ap reference_or_nowhere h ∙ variable_found c.args.number (reverse c.args.variables.now)

pub returns-in-None : goal.returns-in-None
returns-in-None c =
    let h : None ≡ find (λ x. x.number == c.args.number) (reverse c.args.variables.now) = search rules in
    ap reference_or_nowhere h ∙ variable_found c.args.number (reverse c.args.variables.now)
