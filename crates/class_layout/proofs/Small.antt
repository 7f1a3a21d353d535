-- Objects of classes that fit have no more bytes than the limit, and their parts lie within that.
use Rattle.std.proofs.Common.{◌≡◌, ℕ, zero, suc, ◌+◌, ◌≤◌, List, [], ◌∷◌, ◌++◌, Some, arith}
use Rattle.std.specs.Prelude.{slice_get}
use Rattle.cxx_ast.specs.Limits.{most_class_bytes}
use Rattle.cxx_ast.specs.Plain.{Class}
use Rattle.meaning_forms.specs.Class.{ObjectType, int_type, class_type}
use Rattle.region_forms.specs.Layout.{ClassLayout, layout_at, size_in, class_parts, class_layout, layouts_behind, layouts, part_offset}
use Rattle.class_layout.specs.Fit.{FitBehind, Fit}
use Rattle.class_layout.proofs.Apart.{some_words, stand_apart}

abbrev AllSmall : List ClassLayout → Type 0
AllSmall [] = Unit {0}
AllSmall (l ∷ laid) = (l.size ≤ most_class_bytes) × AllSmall laid

small_last : (laid : List ClassLayout) (l : ClassLayout) → AllSmall laid → l.size ≤ most_class_bytes → AllSmall (laid ++ l ∷ [])
small_last [] l h k = (k, tt)
small_last (x ∷ laid) l h k = (h.0, small_last laid l h.1 k)

small_behind : (cs : List Class) (laid : List ClassLayout) → FitBehind laid cs → AllSmall laid → AllSmall (layouts_behind laid cs)
small_behind [] laid f h = h
small_behind (c ∷ cs) laid f h = small_behind cs (laid ++ class_layout laid c ∷ []) f.1 (small_last laid (class_layout laid c) h f.0.small)

small_at : (laid : List ClassLayout) → AllSmall laid → (k : ℕ) → (layout_at laid k).size ≤ most_class_bytes
small_at [] h zero = omega arith
small_at [] h (suc k) = omega arith
small_at (l ∷ laid) h zero = h.0
small_at (l ∷ laid) h (suc k) = small_at laid h.1 k

small_in : (laid : List ClassLayout) → AllSmall laid → (t : ObjectType) → size_in laid t ≤ most_class_bytes
small_in laid h int_type = omega arith
small_in laid h (class_type k) = small_at laid h k

module _ (cs : List Class) (fit : Fit cs) where
  pub size_small : (t : ObjectType) → size_in (layouts cs) t ≤ most_class_bytes
  size_small t = small_in (layouts cs) (small_behind cs [] fit tt) t

  -- an int fits behind the place where a part begins
  pub part_small : (k : ℕ) (c : Class) (i : ℕ) (t : ObjectType) → slice_get cs k ≡ Some c → slice_get (class_parts c) i ≡ Some t →
      part_offset (layouts cs) k c i + 4 ≤ most_class_bytes
  part_small k c i t h p =
      let inside = (stand_apart cs fit).inside k c i t h p in
      let some = (some_words cs t).0 in
      let most = size_small (class_type k) in
      omega (arith, inside, some, most)
