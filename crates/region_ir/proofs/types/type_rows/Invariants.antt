use Rattle.std.proofs.Common.{◌≡◌, ◌++◌, map, take}
use Rattle.cxx_ast.specs.View.{class_of}
use Rattle.region_forms.specs.Numbering.{class_row}
use Rattle.region_ir.specs.View.{row_of}
use Rattle.region_ir.proofs.types.type_rows.Given as goal

abbrev pub invariant-loop-class : goal.invariant-loop-class
invariant-loop-class l =
    map row_of l.rows.items ≡ map row_of l.initial.rows.items ++ map (class_row 2) (map class_of (take l.class-index l.others))
