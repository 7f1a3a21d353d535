use Rattle.std.proofs.Common.{◌≡◌, ◌+◌, drop}
use Rattle.cxx_ast.specs.Sizes.{fields_size}
use Rattle.cxx_check.proofs.class_entry.with_fields.Given as goal

abbrev pub invariant-loop-f : goal.invariant-loop-f
invariant-loop-f l = l.total + fields_size l.env (drop l.f-index l.fields) ≡ l.initial.total + fields_size l.env l.fields
