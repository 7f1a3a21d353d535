use Rattle.std.proofs.Common.{map, drop}
use Rattle.cxx_ast.specs.View.{class_of}
use Rattle.class_layout.specs.View.{class_layout_of}
use Rattle.class_layout.proofs.Onward.{Onward}
use Rattle.class_layout.proofs.classes.layout.Given as goal

abbrev pub invariant-loop-class : goal.invariant-loop-class
invariant-loop-class l =
    Onward (map class_of l.classes.items) (map class_layout_of l.laid.items) (map class_of (drop l.class-index l.class-items))
