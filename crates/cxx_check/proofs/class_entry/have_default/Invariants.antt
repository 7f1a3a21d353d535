use Rattle.std.proofs.Common.{◌≡◌, drop}
use Rattle.cxx_ast.specs.Declare.{have_default}
use Rattle.cxx_check.proofs.class_entry.have_default.Given as goal

abbrev pub invariant-loop-f : goal.invariant-loop-f
invariant-loop-f l = have_default l.env (drop l.f-index l.fields) ≡ have_default l.env l.fields
