use Rattle.std.proofs.Common.{◌≡◌, drop}
use Rattle.cxx_ast.specs.Lookup.{variable_named}
use Rattle.cxx_rules.proofs.scope.variable_among.Given as goal

abbrev pub invariant-loop-row : goal.invariant-loop-row
invariant-loop-row l = variable_named l.text (drop l.row-index l.rows) ≡ variable_named l.text l.rows
