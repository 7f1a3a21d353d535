-- The parts of objects do not overlap.
use Rattle.std.specs.Prelude.{ℕ, ◌+◌, ◌%◌, ◌≡◌, ◌≤◌, ◌<◌, List, Some, slice_get}
use Rattle.cxx_ast.specs.Plain.{Class}
use Rattle.meaning_forms.specs.Class.{ObjectType, class_type}
use Rattle.region_forms.specs.Layout.{ClassLayout, layout_at, size_in, class_parts, class_layout, part_offset}

-- Of each class: its layout is that of its parts by their own layouts; it has some words, and its parts begin at words, lie in it, and end
-- before the next part begins.
pub record StandApart (laid : List ClassLayout) (cs : List Class) : Type 0 where
  pub exact : (k : ℕ) (c : Class) → slice_get cs k ≡ Some c → layout_at laid k ≡ class_layout laid c
  pub sized : (k : ℕ) (c : Class) → slice_get cs k ≡ Some c → (4 ≤ size_in laid (class_type k)) × (size_in laid (class_type k) % 4 ≡ 0)
  pub aligned : (k : ℕ) (c : Class) (i : ℕ) (t : ObjectType) → slice_get cs k ≡ Some c → slice_get (class_parts c) i ≡ Some t →
      part_offset laid k c i % 4 ≡ 0
  pub inside : (k : ℕ) (c : Class) (i : ℕ) (t : ObjectType) → slice_get cs k ≡ Some c → slice_get (class_parts c) i ≡ Some t →
      part_offset laid k c i + size_in laid t ≤ size_in laid (class_type k)
  pub apart : (k : ℕ) (c : Class) (i j : ℕ) (t u : ObjectType) → slice_get cs k ≡ Some c → slice_get (class_parts c) i ≡ Some t →
      slice_get (class_parts c) j ≡ Some u → i < j → part_offset laid k c i + size_in laid t ≤ part_offset laid k c j
