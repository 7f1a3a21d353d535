use Rattle.std.proofs.Common.{◌≡◌, map, take}
use Rattle.meaning_forms.specs.Class.{object_type}
use Rattle.region_forms.specs.Numbering.{type_number}
use Rattle.region_ir.proofs.handling.listed.Given as goal

abbrev pub invariant-loop-ty : goal.invariant-loop-ty
invariant-loop-ty l = l.numbers.items ≡ map (λ t. type_number (object_type t)) (take l.ty-index l.types)
