use Rattle.std.proofs.Common.{◌≡◌, length, map}
use Rattle.std.specs.List.{list_all}
use Rattle.cxx_ast.specs.View.{class_of}
use Rattle.scope_meaning.specs.Levels.{class_fits}
use Rattle.scope_meaning.proofs.levels.classes_fit.Given as goal

-- those that are looked at have room
abbrev pub invariant-classes : goal.invariant-classes
invariant-classes l = list_all class_fits (map class_of l.initial.rest) ≡ list_all class_fits (map class_of l.rest)

abbrev pub decreases-classes : goal.decreases-classes
decreases-classes l = length l.rest
