use Rattle.std.proofs.Common.{◌≡◌, ◌++◌, drop, map}
use Rattle.cxx_ast.specs.Declare.{bare_field}
use Rattle.cxx_check.proofs.class_head.bare_fields.Given as goal

abbrev pub invariant-loop-member : goal.invariant-loop-member
invariant-loop-member l = l.fields.items ++ map bare_field (drop l.member-index l.members) ≡ map bare_field l.members
