-- The objects that the evaluator's stand for.
use Rattle.std.specs.Prelude.{Option, None, unwrap_or}
use Rattle.cxx_ast.specs.View.{option_of}
use Rattle.scope_world.specs.declared.object.ObjectType.{ObjectType as CodeType}
use Rattle.scope_world.specs.declared.object.ObjectType.TheVariants.{Int, Class}
use Rattle.scope_world.specs.declared.object.Part.{Part as CodePart, Cell, Object'}
use Rattle.scope_world.specs.declared.object.Parts.{Parts as CodeParts, None as NoParts, Then'}
use Rattle.scope_world.specs.declared.object.Reference.{Reference as CodeReference}
use Rattle.meaning_forms.specs.Class.{ObjectType, int_type, class_type}
use Rattle.meaning_forms.specs.Part.{Part, cell, object, Parts, no_parts, part_then}
use Rattle.meaning_forms.specs.World.{Reference}

-- the type of an object
abbrev pub type_of : CodeType → ObjectType
type_of Int = int_type
type_of (Class k) = class_type k

-- an object, and the row of its parts
abbrev mutual
  pub part_of : CodePart → Part
  part_of (Cell v) = cell v
  part_of (Object' k p parts) = object k (parts_of parts)

  pub parts_of : CodeParts → Parts
  parts_of NoParts = no_parts
  parts_of (Then' a p parts) = part_then (part_of a) (parts_of parts)

-- a part that may be missing, which is then an unset cell
abbrev pub part_or_unset : Option CodePart → Part
part_or_unset found = unwrap_or (option_of part_of found) (cell None)

-- a reference
abbrev pub reference_of : CodeReference → Reference
reference_of r = record { object = r.object; path = r.path.items }
