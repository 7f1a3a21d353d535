use Rattle.std.proofs.Common.{◌≡◌, drop, map}
use Rattle.cxx_ast.specs.Broken.{all_in}
use Rattle.cxx_rules.specs.KindOf.{kind_of}
use Rattle.cxx_rules.proofs.agree.all_in.Given as goal

abbrev pub invariant-loop-k : goal.invariant-loop-k
invariant-loop-k l =
    all_in (map kind_of (drop l.k-index l.kinds)) (map kind_of l.others) ≡ all_in (map kind_of l.kinds) (map kind_of l.others)
