use Rattle.std.proofs.Common.{◌≡◌, ◌++◌, length, map}
use Rattle.cxx_ast.specs.View.{declaration_of}
use Rattle.symbol_names.specs.Names.{globals_names}
use Rattle.symbol_names.proofs.program.globals_names.Given as goal

abbrev pub invariant-decls : goal.invariant-decls
invariant-decls l = globals_names (map declaration_of l.decls) ≡ l.names.items ++ globals_names (map declaration_of l.rest)

abbrev pub decreases-decls : goal.decreases-decls
decreases-decls l = length l.rest
