-- A variable that stands twice.
use Rattle.std.proofs.Common.{◌≡◌, List, [], ◌∷◌, sym, if◌then◌else◌}
use Rattle.cxx_ast.specs.declared.name.Name.{Name}
use Rattle.cxx_ast.specs.Environment.{Environment, Variable}
use Rattle.cxx_ast.specs.Locals.{has_variable}
use Rattle.cxx_ast.specs.Rule.{redeclared}
use Rattle.cxx_ast.specs.StatementRules.{twice_in}
use Rattle.cxx_rules.specs.ScopeOf.{has_first}
use Rattle.cxx_rules.specs.Summary.{broken_at, nothing_found, seen}
use Rattle.cxx_rules.proofs.FoundLaws.{summary_none, summary_if}

pub twice : (env : Environment) (n : Name) (rows : List (List Variable)) →
    (if has_first n.text rows then broken_at redeclared n.place else nothing_found) ≡ seen env (twice_in n rows)
twice env n [] = sym (summary_none env.definitions)
twice env n (row ∷ rows) = sym (summary_if env.definitions (has_variable n.text row) redeclared n.place)
