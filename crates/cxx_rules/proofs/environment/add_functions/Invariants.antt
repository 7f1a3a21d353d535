use Rattle.std.proofs.Common.{List, ℕ, drop}
use Rattle.cxx_rules.specs.Positions.{AreAmong, AreWith}
use Rattle.cxx_rules.specs.NamesOf.{function_texts}
use Rattle.cxx_rules.proofs.environment.add_functions.Given as goal

abbrev pub invariant-loop-function : goal.invariant-loop-function
invariant-loop-function l = record {
  kept : AreAmong l.initial.members l.members;
  added : (new : List (List ℕ)) → AreWith l.members (function_texts (drop l.function-index l.functions)) new → AreWith l.initial.members (function_texts l.functions) new;
}
