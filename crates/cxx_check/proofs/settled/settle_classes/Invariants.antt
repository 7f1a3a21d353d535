use Rattle.std.proofs.Common.{◌≡◌, ◌++◌, [], map}
use Rattle.cxx_ast.specs.Settled.{settle_classes}
use Rattle.cxx_ast.specs.View.{class_of}
use Rattle.cxx_check.specs.Together.{allowed_seen}
use Rattle.cxx_check.proofs.settled.settle_classes.Given as goal

abbrev pub invariant-loop-class : goal.invariant-loop-class
invariant-loop-class l =
    map class_of l.settled.items ++ settle_classes l.standard (map allowed_seen l.before.items) (map class_of l.class-iterator.rest.items)
    ≡ settle_classes l.standard [] (map class_of l.initial.class-iterator.rest.items)
