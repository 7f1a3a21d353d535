use Rattle.std.proofs.Common.{map, drop}
use Rattle.cxx_ast.specs.View.{class_of}
use Rattle.meaning_forms.specs.Class.{member_part}
use Rattle.class_layout.specs.View.{class_layout_of}
use Rattle.class_layout.proofs.Members.{Laying}
use Rattle.class_layout.proofs.classes.class_layout.Given as goal

abbrev pub invariant-loop-member : goal.invariant-loop-member
invariant-loop-member l =
    Laying (map class_layout_of l.laid) (class_of l.class) (map member_part (drop l.member-index l.member-items)) l.members.items l.end
