-- Where the parts of an object stand: its base at the beginning, then its members in order of declaration and without gaps, an int with
-- 4 bytes (profile; ISO/IEC 14882:2003, 9.2/12 and 10/3, leave it open). A class's parts are of classes before it (9.2/8, 10/1), so
-- layouts are made in the order of the classes.
use Rattle.std.specs.Prelude.{ℕ, zero, suc, Option, Some, None, ◌+◌, List, [], ◌∷◌, ◌++◌, map, slice_get, unwrap_or}
use Rattle.cxx_ast.specs.declared.name.Name.{Name}
use Rattle.cxx_ast.specs.Plain.{Class, Checked}
use Rattle.meaning_forms.specs.Class.{ObjectType, int_type, class_type, class_at, base_part, member_part}

-- the size of a class, and the offsets of its members, in bytes
pub record ClassLayout : Type 0 where
  pub size : ℕ
  pub members : List ℕ

-- the layouts of classes by number
pub record Layout : Type 0 where
  pub classes : List ClassLayout

-- what stands for the layout of a class that is not there; a checked program names none
abbrev pub no_layout : ClassLayout
no_layout = record { size = 4; members = [] }

-- the layout of class k
abbrev pub layout_at : List ClassLayout → ℕ → ClassLayout
layout_at laid k = unwrap_or (slice_get laid k) no_layout

-- the size of an object, by the layouts of classes
abbrev pub size_in : List ClassLayout → ObjectType → ℕ
size_in laid int_type = 4
size_in laid (class_type k) = (layout_at laid k).size

-- the size of parts that stand one behind the other
abbrev pub sizes_in : List ClassLayout → List ObjectType → ℕ
sizes_in laid [] = 0
sizes_in laid (t ∷ types) = size_in laid t + sizes_in laid types

-- the offsets of parts that stand one behind the other from a place on
abbrev pub offsets_from : List ClassLayout → ℕ → List ObjectType → List ℕ
offsets_from laid at [] = []
offsets_from laid at (t ∷ types) = at ∷ offsets_from laid (at + size_in laid t) types

-- the types of a class's members
abbrev pub member_types : Class → List ObjectType
member_types c = map member_part c.members

-- the parts of a class in order: its base, then its members
abbrev pub class_parts : Class → List ObjectType
class_parts c = base_part c.base ++ member_types c

-- the size of a class by its parts; an object is never empty (1.8/5), so a class without parts has the size of an int
abbrev pub size_of_parts : List ClassLayout → List ObjectType → ℕ
size_of_parts laid [] = 4
size_of_parts laid types = sizes_in laid types

-- the layout of a class, by those of the classes before it
abbrev pub class_layout : List ClassLayout → Class → ClassLayout
class_layout laid c = record {
  size = size_of_parts laid (class_parts c);
  members = offsets_from laid (sizes_in laid (base_part c.base)) (member_types c);
}

-- the layouts of classes, behind those of the classes before them
abbrev pub layouts_behind : List ClassLayout → List Class → List ClassLayout
layouts_behind laid [] = laid
layouts_behind laid (c ∷ cs) = layouts_behind (laid ++ class_layout laid c ∷ []) cs

-- the layouts of classes in order
abbrev pub layouts : List Class → List ClassLayout
layouts cs = layouts_behind [] cs

-- the layout of a program's classes
abbrev pub layout_of : Checked → Layout
layout_of p = record { classes = layouts p.classes }

-- the size of an object by a layout
abbrev pub laid_size : Layout → ObjectType → ℕ
laid_size l t = size_in l.classes t

-- a class's parts by the offsets of its members: a base is at the beginning, then the members follow
abbrev pub offset_of_part : Option Name → List ℕ → ℕ → ℕ
offset_of_part None members i = unwrap_or (slice_get members i) 0
offset_of_part (Some b) members zero = 0
offset_of_part (Some b) members (suc i) = unwrap_or (slice_get members i) 0

-- the offset of the i-th part of class c with number k
abbrev pub part_offset : List ClassLayout → ℕ → Class → ℕ → ℕ
part_offset laid k c i = offset_of_part c.base (layout_at laid k).members i

-- the offset of the i-th member of class k by a layout
abbrev pub laid_member : Layout → ℕ → ℕ → ℕ
laid_member l k i = unwrap_or (slice_get (layout_at l.classes k).members i) 0

-- the offset of the i-th part of class k by a layout
abbrev pub laid_part : Layout → Checked → ℕ → ℕ → ℕ
laid_part l p k i = part_offset l.classes k (class_at p k) i
