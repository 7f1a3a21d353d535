-- Variables and parts have bytes, so there are few of them.
use Rattle.std.proofs.Common.{◌≡◌, refl, ℕ, zero, suc, ◌+◌, ◌*◌, ◌/◌, ◌≤◌, List, [], ◌∷◌, ◌++◌, length, length-append, map, Option, Some, None, arith}
use Rattle.std.specs.List.{AllByRecursion}
use Rattle.cxx_ast.specs.declared.types.Ty.{Ty}
use Rattle.cxx_ast.specs.declared.types.Ty.TheVariants.{Int, Void, Object, IntRef, ObjectRef}
use Rattle.cxx_ast.specs.declared.types.Param.{Param}
use Rattle.cxx_ast.specs.declared.name.Name.{Name}
use Rattle.cxx_ast.specs.Plain.{Class}
use Rattle.meaning_forms.specs.Class.{ObjectType, int_type, class_type, class_named, base_part, member_part}
use Rattle.region_forms.specs.Layout.{ClassLayout, Layout, layout_at, size_in, sizes_in, size_of_parts, class_parts, member_types, class_layout, layouts_behind}
use Rattle.region_forms.specs.LowerProgram.{slot_for}
use Rattle.linear_forms.specs.Frame.{slot_bytes}
use Rattle.class_layout.specs.Fit.{FitBehind}
use Rattle.scope_meaning.specs.Levels.{base_count, part_levels}

-- each class has at least the size of an int
abbrev pub HaveBytes : List ClassLayout → Type 0
HaveBytes laid = AllByRecursion (λ l. 4 ≤ l.size) laid

at_bytes : (laid : List ClassLayout) (k : ℕ) → HaveBytes laid → 4 ≤ (layout_at laid k).size
at_bytes [] k h = omega arith
at_bytes (l ∷ laid) zero h = h.0
at_bytes (l ∷ laid) (suc k) h = at_bytes laid k h.1

type_bytes : (laid : List ClassLayout) (t : ObjectType) → HaveBytes laid → 4 ≤ size_in laid t
type_bytes laid int_type h = omega arith
type_bytes laid (class_type k) h = at_bytes laid k h

types_bytes : (laid : List ClassLayout) (types : List ObjectType) → HaveBytes laid → 4 * length types ≤ sizes_in laid types
types_bytes laid [] h = omega arith
types_bytes laid (t ∷ types) h = omega (arith, type_bytes laid t h, types_bytes laid types h)

parts_bytes : (laid : List ClassLayout) (types : List ObjectType) → HaveBytes laid → (4 ≤ size_of_parts laid types) × (4 * length types ≤ size_of_parts laid types)
parts_bytes laid [] h = (omega arith, omega arith)
parts_bytes laid (t ∷ types) h = let all = types_bytes laid (t ∷ types) h in (omega (arith, all), all)

one_more : (laid : List ClassLayout) (l : ClassLayout) → HaveBytes laid → 4 ≤ l.size → HaveBytes (laid ++ l ∷ [])
one_more [] l h b = (b, tt)
one_more (x ∷ laid) l h b = (h.0, one_more laid l h.1 b)

pub layouts_have_bytes : (laid : List ClassLayout) (cs : List Class) → HaveBytes laid → HaveBytes (layouts_behind laid cs)
layouts_have_bytes laid [] h = h
layouts_have_bytes laid (c ∷ cs) h = layouts_have_bytes (laid ++ class_layout laid c ∷ []) cs (one_more laid (class_layout laid c) h (parts_bytes laid (class_parts c) h).0)

-- ---- variables

pub slots_bytes : (l : Layout) (types : List Ty) → HaveBytes l.classes → 8 * length types ≤ slot_bytes (map (slot_for l) types)
slots_bytes l [] h = omega arith
slots_bytes l (t ∷ types) h = omega (arith, one t, slots_bytes l types h)
  where
    one : (t : Ty) → 8 ≤ ((slot_for l t).size + 7) / 8 * 8
    one Int = omega arith
    one Void = omega arith
    one (Object n) = omega (arith, at_bytes l.classes (class_named n) h)
    one (IntRef const) = omega arith
    one (ObjectRef const n) = omega arith

-- ---- parts

bases_counted : (b : Option Name) → length (base_part b) ≡ base_count b
bases_counted None = refl
bases_counted (Some n) = refl

members_counted : (ms : List Param) (f : Param → ObjectType) → length (map f ms) ≡ length ms
members_counted [] f = refl
members_counted (m ∷ ms) f = omega (arith, members_counted ms f)

abbrev pub HasFewParts : Class → Type 0
HasFewParts c = part_levels c ≤ 257

few_parts : (laid : List ClassLayout) (c : Class) → HaveBytes laid → (class_layout laid c).size ≤ 1024 → HasFewParts c
few_parts laid c h small =
    let all = (parts_bytes laid (class_parts c) h).1 in
    omega (arith, all, small, length-append (base_part c.base) (member_types c), bases_counted c.base, members_counted c.members member_part)

pub classes_have_few : (laid : List ClassLayout) (cs : List Class) → HaveBytes laid → FitBehind laid cs → AllByRecursion HasFewParts cs
classes_have_few laid [] h fit = tt
classes_have_few laid (c ∷ cs) h fit = (few_parts laid c h fit.0.small, classes_have_few (laid ++ class_layout laid c ∷ []) cs (one_more laid (class_layout laid c) h (parts_bytes laid (class_parts c) h).0) fit.1)
