-- The values of objects: an object is a tree of parts, with an int or none yet in each cell.
use Rattle.std.specs.Prelude.{ℕ, zero, suc, ℤ, ◌==◌, List, [], ◌∷◌, length, map, Option, None, if◌then◌else◌}
use Rattle.cxx_ast.specs.Plain.{Checked}
use Rattle.meaning_forms.specs.Class.{ObjectType, int_type, class_type, parts_of}

mutual
  -- a cell holds an int or is unset; an object has a class, by its number, and its base and its members as parts
  pub data Part : Type 0 where
    cell : Option ℤ → Part
    object : ℕ → Parts → Part

  pub data Parts : Type 0 where
    no_parts : Parts
    part_then : Part → Parts → Parts

-- the type of a part
abbrev pub part_type : Part → ObjectType
part_type (cell v) = int_type
part_type (object k parts) = class_type k

-- the parts of a part; a cell has none
abbrev pub subparts : Part → Parts
subparts (cell v) = no_parts
subparts (object k parts) = parts

-- a part with other parts in place of its own
abbrev pub with_subparts : Part → Parts → Part
with_subparts (cell v) parts = cell v
with_subparts (object k old) parts = object k parts

-- the i-th part
abbrev pub nth_part : Parts → ℕ → Part
nth_part no_parts i = cell None
nth_part (part_then a parts) zero = a
nth_part (part_then a parts) (suc i) = nth_part parts i

-- parts with another i-th part
abbrev pub with_nth_part : Parts → ℕ → Part → Parts
with_nth_part no_parts i b = no_parts
with_nth_part (part_then a parts) zero b = part_then b parts
with_nth_part (part_then a parts) (suc i) b = part_then a (with_nth_part parts i b)

-- the part at the end of a path
abbrev pub part_at : Part → List ℕ → Part
part_at a [] = a
part_at a (i ∷ path) = part_at (nth_part (subparts a) i) path

-- a part with another part at the end of a path
abbrev pub with_part_at : Part → List ℕ → Part → Part
with_part_at a [] b = b
with_part_at a (i ∷ path) b = with_subparts a (with_nth_part (subparts a) i (with_part_at (nth_part (subparts a) i) path b))

-- a list as parts
abbrev pub parts_from : List Part → Parts
parts_from [] = no_parts
parts_from (a ∷ rest) = part_then a (parts_from rest)

-- an object in which no int is set, where its parts lie less than n deep
abbrev pub unset_within : ℕ → Checked → ObjectType → Part
unset_within zero p t = cell None
unset_within (suc n) p t = elim t [ int_type ↦ cell None | class_type k ↦ object k (parts_from (map (unset_within n p) (parts_of p k))) ]

-- an object in which no int is set: a class is never a part of its own parts
abbrev pub unset : Checked → ObjectType → Part
unset p t = unset_within (suc (length p.classes)) p t

abbrev mutual
  -- the path from a part to its base of class k: a base is the first part
  pub path_to_class : ℕ → Part → List ℕ
  path_to_class k (cell v) = []
  path_to_class k (object c parts) = if c == k then [] else path_through k parts

  pub path_through : ℕ → Parts → List ℕ
  path_through k no_parts = []
  path_through k (part_then a parts) = 0 ∷ path_to_class k a
