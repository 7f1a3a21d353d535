use Rattle.cxx_ast.specs.View.{checked_of}
use Rattle.region_ir.proofs.Table.{NumberedTo}
use Rattle.region_ir.proofs.numbering.Numbering.new.Given as goal

abbrev pub invariant-loop-class : goal.invariant-loop-class
invariant-loop-class l = NumberedTo (checked_of l.program) l.classes.items l.first l.class
