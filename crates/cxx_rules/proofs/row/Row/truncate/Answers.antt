use Rattle.std.proofs.Common.{ap, ◌∙◌, sym, subst, take}
use Rattle.cxx_rules.specs.ScopeOf.{variables_of, AreNamed}
use Rattle.cxx_rules.proofs.RowLaws.{named_take, variables_taken}
use Rattle.cxx_rules.proofs.row.Row.truncate.Goals as goal

pub invariant_of-self : goal.invariant_of-self
invariant_of-self c = subst AreNamed (sym c.truncate.ensures.entries) (named_take c.args.count c.self.inside.variables.entries c.self.invariant)

pub returns : goal.returns
returns c = ap variables_of c.truncate.ensures.entries ∙ variables_taken c.args.count c.self.inside.variables.entries ∙ ap (take c.args.count) c.self.view_is
