use Rattle.std.proofs.Common.{◌≡◌, ◌++◌, drop}
use Rattle.cxx_rules.specs.NamesOf.{function_texts}
use Rattle.cxx_rules.proofs.class.function_names.Given as goal

abbrev pub invariant-loop-f : goal.invariant-loop-f
invariant-loop-f l = (l.names ++ function_texts (drop l.f-index l.functions)) ≡ function_texts l.functions
