use Rattle.std.proofs.Common.{◌≡◌, length, map}
use Rattle.std.specs.List.{list_all}
use Rattle.cxx_ast.specs.View.{function_of}
use Rattle.scope_meaning.specs.Levels.{function_fits}
use Rattle.scope_meaning.proofs.levels.functions_fit.Given as goal

-- those that are looked at have room
abbrev pub invariant-functions : goal.invariant-functions
invariant-functions l = list_all (function_fits l.room) (map function_of l.initial.rest) ≡ list_all (function_fits l.room) (map function_of l.rest)

abbrev pub decreases-functions : goal.decreases-functions
decreases-functions l = length l.rest
