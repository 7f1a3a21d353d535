use Rattle.std.proofs.Common.{◌≡◌, ◌++◌, drop}
use Rattle.cxx_check.specs.TreeParts.{fields_tree}
use Rattle.cxx_check.proofs.tree.fields_tree.Given as goal

abbrev pub invariant-loop-i : goal.invariant-loop-i
invariant-loop-i l = l.rebuilt.items ++ fields_tree l.env l.class l.i (drop l.i l.members) ≡ fields_tree l.env l.class 0 l.members
