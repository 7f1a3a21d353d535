-- A class has at most 256 parts, since no part has fewer than 4 bytes.
use Rattle.std.proofs.Common.{ℕ, zero, suc, ◌*◌, ◌≤◌, List, [], ◌∷◌, ◌++◌, length, arith}
use Rattle.std.specs.List.{AllByRecursion}
use Rattle.cxx_ast.specs.Plain.{Class, Checked}
use Rattle.cxx_ast.specs.Checked.{IsChecked}
use Rattle.meaning_forms.specs.Class.{ObjectType, int_type, class_type}
use Rattle.region_forms.specs.Layout.{ClassLayout, layout_at, size_in, sizes_in, size_of_parts, class_parts, class_layout}
use Rattle.class_layout.specs.Fit.{FitBehind, CheckedClassesFit}
use Rattle.source_bounds.proofs.Lists.{both_all}

abbrev Large : List ClassLayout → Type 0
Large laid = AllByRecursion (λ x. 4 ≤ x.size) laid

large_at : (laid : List ClassLayout) (k : ℕ) → Large laid → 4 ≤ (layout_at laid k).size
large_at [] zero h = omega arith
large_at [] (suc k) h = omega arith
large_at (x ∷ laid) zero h = h.0
large_at (x ∷ laid) (suc k) h = large_at laid k h.1

part_large : (laid : List ClassLayout) (t : ObjectType) → Large laid → 4 ≤ size_in laid t
part_large laid int_type h = omega arith
part_large laid (class_type k) h = large_at laid k h

parts_large : (laid : List ClassLayout) (types : List ObjectType) → Large laid → 4 * length types ≤ sizes_in laid types
parts_large laid [] h = omega arith
parts_large laid (t ∷ types) h = omega (arith, part_large laid t h, parts_large laid types h)

whole_large : (laid : List ClassLayout) (types : List ObjectType) → Large laid → (4 ≤ size_of_parts laid types) × (4 * length types ≤ size_of_parts laid types)
whole_large laid [] h = (omega arith, omega arith)
whole_large laid (t ∷ types) h = (omega (arith, parts_large laid (t ∷ types) h), omega (arith, parts_large laid (t ∷ types) h))

few_parts : (laid : List ClassLayout) (cs : List Class) → Large laid → FitBehind laid cs → AllByRecursion (λ c. length (class_parts c) ≤ 256) cs
few_parts laid [] h k = tt
few_parts laid (c ∷ cs) h k =
    let large = whole_large laid (class_parts c) h in
    let small = k.0.small in
    (omega (arith, large.1, small), few_parts (laid ++ class_layout laid c ∷ []) cs (both_all (λ x. 4 ≤ x.size) laid (class_layout laid c ∷ []) h (large.0, tt)) k.1)

pub checked_parts : CheckedClassesFit → (p : Checked) → IsChecked p → AllByRecursion (λ c. length (class_parts c) ≤ 256) p.classes
checked_parts fit p h = few_parts [] p.classes tt (fit p h)
