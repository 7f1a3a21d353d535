use Rattle.std.proofs.Common.{◌≡◌, ◌++◌, map, take}
use Rattle.cxx_ast.specs.View.{checked_of}
use Rattle.meaning_forms.specs.Class.{base_part, class_at, member_part}
use Rattle.scope_world.specs.Objects.{type_of}
use Rattle.scope_world.proofs.class.parts_of.Given as goal

abbrev pub invariant-loop-member : goal.invariant-loop-member
invariant-loop-member l =
    map type_of l.parts.items ≡ base_part (class_at (checked_of l.program) l.class).base ++ map member_part (take l.member-index l.member-items)
