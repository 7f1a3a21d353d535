-- Types along paths. The parts of an object are those of its class, so where a part stands in an object is known by types alone.
use Rattle.std.specs.Prelude.{◌≡◌, ℕ, ◌+◌, List, [], ◌∷◌, Option, Some, None, slice_get}
use Rattle.cxx_ast.specs.Plain.{Checked}
use Rattle.meaning_forms.specs.Class.{ObjectType, int_type, class_type, parts_of}
use Rattle.meaning_forms.specs.Part.{Part, cell, object, Parts, no_parts, part_then}
use Rattle.region_forms.specs.Layout.{Layout, laid_part}

-- the type of the part at the end of a path in an object of a type
abbrev pub type_along : Checked → ObjectType → List ℕ → Option ObjectType
type_along p t [] = Some t
type_along p int_type (i ∷ path) = None
type_along p (class_type k) (i ∷ path) = elim (slice_get (parts_of p k) i) [ None ↦ None | Some u ↦ type_along p u path ]

-- how many bytes behind the beginning of an object of a type the part at the end of a path begins
abbrev pub offset_along : Layout → Checked → ObjectType → List ℕ → ℕ
offset_along l p t [] = 0
offset_along l p int_type (i ∷ path) = 0
offset_along l p (class_type k) (i ∷ path) =
    laid_part l p k i + elim (slice_get (parts_of p k) i) [ None ↦ 0 | Some u ↦ offset_along l p u path ]

abbrev mutual
  -- a part is that of an object of a type
  pub Shaped : Checked → ObjectType → Part → Type 0
  Shaped p int_type (cell v) = Unit {0}
  Shaped p (class_type k) (object c parts) = (c ≡ k) × AllShaped p (parts_of p k) parts
  Shaped p _ _ = ⊥

  -- parts are of types, one by one
  pub AllShaped : Checked → List ObjectType → Parts → Type 0
  AllShaped p [] no_parts = Unit {0}
  AllShaped p (t ∷ types) (part_then a parts) = Shaped p t a × AllShaped p types parts
  AllShaped p _ _ = ⊥
