use Rattle.std.proofs.Common.{◌≡◌, [], ◌∷◌, ◌++◌, length, map}
use Rattle.cxx_ast.specs.View.{class_of}
use Rattle.symbol_names.specs.Names.{kept, record_name, records_from}
use Rattle.symbol_names.proofs.program.types_names.Given as goal

abbrev pub invariant-classes : goal.invariant-classes
invariant-classes l =
    kept (record_name 0 []) ∷ records_from 1 (map class_of l.classes) ≡ l.names.items ++ records_from l.number (map class_of l.rest)

abbrev pub decreases-classes : goal.decreases-classes
decreases-classes l = length l.rest
