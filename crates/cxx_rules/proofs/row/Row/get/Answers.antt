use Rattle.std.proofs.Common.{ap, ◌∙◌, bytes_eq, find}
use Rattle.cxx_rules.proofs.RowLaws.{copied_is, named_found}
use Rattle.cxx_rules.proofs.row.Row.get.Goals as goal

pub returns : goal.returns
returns c =
    copied_is c.get.result ∙ c.get.ensures.value ∙ named_found c.args.text.now c.self.inside.variables.entries c.self.invariant
    ∙ ap (find (λ v. bytes_eq v.text c.args.text.now)) c.self.view_is
