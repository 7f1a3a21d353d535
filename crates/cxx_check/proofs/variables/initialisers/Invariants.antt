use Rattle.std.proofs.Common.{◌≡◌, drop, map}
use Rattle.cxx_ast.specs.View.{initialiser_of}
use Rattle.cxx_check.specs.Measured.{initialisers_behind}
use Rattle.cxx_check.proofs.variables.initialisers.Given as goal

abbrev pub invariant-loop-i : goal.invariant-loop-i
invariant-loop-i l = initialisers_behind l.measure (map initialiser_of (drop l.i-index l.inits)) ≡ initialisers_behind l.initial.measure (map initialiser_of l.inits)
