use Rattle.std.proofs.Common.{◌≡◌, drop}
use Rattle.cxx_ast.specs.FunctionRules.{has_text}
use Rattle.cxx_rules.specs.Parts.{texts_now}
use Rattle.cxx_rules.proofs.initialiser.has_text.Given as goal

abbrev pub invariant-loop-t : goal.invariant-loop-t
invariant-loop-t l = has_text l.text (texts_now (drop l.t-index l.texts)) ≡ has_text l.text (texts_now l.texts)
