-- What a reference to a base, to a member and to members of members names.
use Rattle.std.proofs.Common.{◌≡◌, ℕ, zero, suc, ◌+◌, ◌<◌, ℤ, true, List, [], ◌∷◌, ◌++◌, Option, Some, None, refl, sym, ap, ◌∙◌, subst, arith, length}
use Rattle.std.specs.Prelude.{map, slice_get, unwrap_or}
use Rattle.cxx_ast.specs.declared.name.Bound.{Bound}
use Rattle.cxx_ast.specs.declared.name.Bound.TheVariants.{Free, Global, Local, Field, Class, Func, Method, Builtin}
use Rattle.cxx_ast.specs.declared.name.Name.{Name}
use Rattle.cxx_ast.specs.declared.types.Param.{Param}
use Rattle.cxx_ast.specs.Plain.{Checked}
use Rattle.meaning_forms.specs.Class.{ObjectType, int_type, class_type, class_at, object_type, derives, base_part, member_part, parts_of, member_place}
use Rattle.meaning_forms.specs.Part.{path_to_class}
use Rattle.meaning_forms.specs.World.{Reference, World, part_of, as_class, member, object_at}
use Rattle.meaning_forms.specs.Frame.{members_named, member_named}
use Rattle.region_forms.specs.Layout.{Layout, layout_at, laid_part, laid_member, offset_of_part}
use Rattle.region_forms.specs.World.{Address, behind}
use Rattle.region_forms.specs.LowerExpression.{Lowering, member_type, members_offset}
use Rattle.region_simulation.specs.Typed.{type_along, offset_along, Shaped}
use Rattle.region_simulation.specs.Places.{Places, Refers, Remembers}
use Rattle.region_simulation.specs.Names.{HasMember, MemberThen, AreMembers}
use Rattle.region_simulation.proofs.Paths.{type_joined, offset_joined, shaped_along, to_base}

-- the i-th member among the parts
members_typed : (ms : List Param) (i : ℕ) → i < length ms
    → slice_get (map member_part ms) i ≡ Some (elim (slice_get ms i) [ None ↦ int_type | Some x ↦ object_type x.ty ])
members_typed [] i lt = absurd (omega (arith, lt))
members_typed (m ∷ ms) zero lt = refl
members_typed (m ∷ ms) (suc i) lt = members_typed ms i (omega (arith, lt))

parts_typed : (b : Option Name) (ms : List Param) (i : ℕ) → i < length ms
    → slice_get (base_part b ++ map member_part ms) (length (base_part b) + i) ≡ Some (elim (slice_get ms i) [ None ↦ int_type | Some x ↦ object_type x.ty ])
parts_typed None ms i lt = let e : i ≡ 0 + i = omega arith in
    subst (λ n. slice_get (map member_part ms) n ≡ Some (elim (slice_get ms i) [ None ↦ int_type | Some x ↦ object_type x.ty ])) e (members_typed ms i lt)
parts_typed (Some b) ms i lt = let e : suc i ≡ 1 + i = omega arith in
    subst (λ n. slice_get (base_part (Some b) ++ map member_part ms) n ≡ Some (elim (slice_get ms i) [ None ↦ int_type | Some x ↦ object_type x.ty ])) e (members_typed ms i lt)

part_laid : (b : Option Name) (offsets : List ℕ) (i : ℕ) → offset_of_part b offsets (length (base_part b) + i) ≡ unwrap_or (slice_get offsets i) 0
part_laid None offsets i = let e : 0 + i ≡ i = omega arith in ap (λ n. unwrap_or (slice_get offsets n) 0) e
part_laid (Some b) offsets i = let e : 1 + i ≡ suc i = omega arith in ap (λ n. offset_of_part (Some b) offsets n) e

member_there : (p : Checked) (k i : ℕ) → i < length (class_at p k).members → slice_get (parts_of p k) (member_place p k i) ≡ Some (member_type p k i)
member_there p k i lt = parts_typed (class_at p k).base (class_at p k).members i lt

pub member_along : (p : Checked) (k i : ℕ) → i < length (class_at p k).members
    → type_along p (class_type k) (member_place p k i ∷ []) ≡ Some (member_type p k i)
member_along p k i lt = ap (λ x. elim x [ None ↦ None | Some u ↦ Some u ]) (member_there p k i lt)

pub member_offset : (l : Layout) (p : Checked) (k i : ℕ) → i < length (class_at p k).members
    → offset_along l p (class_type k) (member_place p k i ∷ []) ≡ laid_member l k i
member_offset l p k i lt =
    let a : laid_part l p k (member_place p k i) ≡ laid_member l k i = part_laid (class_at p k).base (layout_at l.classes k).members i in
    let b = ap {B = ℕ} (λ x. elim x [ None ↦ 0 | Some u ↦ 0 ]) (member_there p k i lt) in
    omega (arith, a, b)

-- what a reference names is of its type
pub refers_shaped : {l : Layout} {p : Checked} {at : Places} (w : World) {memory : Address → Option ℤ} {r : Reference} {t : ObjectType} {a : Address}
    → Remembers l p at w memory → Refers l p at r t a → Shaped p t (part_of w r)
refers_shaped {l} {p} {at} w {memory} {r} {t} {a} m h = shaped_along p h.stood.type t (object_at w r.object) r.path (m.shaped r.object h.stood h.stands) h.typed

-- a reference to a part of what a reference names
pub refers_on : {l : Layout} {p : Checked} {at : Places} {r : Reference} {t : ObjectType} {a : Address} (u : ObjectType) (more : List ℕ) (n : ℕ)
    → Refers l p at r t a → type_along p t more ≡ Some u → offset_along l p t more ≡ n
    → Refers l p at (record { object = r.object; path = r.path ++ more }) u (behind a n)
refers_on {l} {p} {at} {r} {t} {a} u more n h e o = record {
  stood = h.stood;
  stands = h.stands;
  typed = type_joined p h.stood.type t r.path more h.typed ∙ e;
  address = ap (λ x. behind x n) h.address ∙ ap (λ m. record { base = h.stood.base; offset = m })
      (let j = offset_joined l p h.stood.type t r.path more h.typed in
      let g : offset_along l p h.stood.type r.path + n ≡ offset_along l p h.stood.type (r.path ++ more) = omega (arith, j, o) in g);
}

moved : {l : Layout} {p : Checked} {at : Places} {r : Reference} {t : ObjectType} {a b : Address} → a ≡ b → Refers l p at r t a → Refers l p at r t b
moved {l} {p} {at} {r} {t} e h = subst (λ x. Refers l p at r t x) e h

pub behind_none : (a : Address) → behind a 0 ≡ a
behind_none a = let e : a.offset + 0 ≡ a.offset = omega arith in ap (λ n. record { base = a.base; offset = n }) e

pub behind_both : (a : Address) (m n : ℕ) → behind (behind a m) n ≡ behind a (m + n)
behind_both a m n = let e : a.offset + m + n ≡ a.offset + (m + n) = omega arith in ap (λ n. record { base = a.base; offset = n }) e

-- a base stands where the whole does
pub refers_base : {l : Layout} {p : Checked} {at : Places} (w : World) {r : Reference} (s : ObjectType) (k : ℕ) {a : Address}
    → Refers l p at r s a → Shaped p s (part_of w r) → derives p s (class_type k) ≡ true → Refers l p at (as_class w k r) (class_type k) a
refers_base w int_type k h shaped d = absurd (cc d)
refers_base {l} {p} {at} w {r} (class_type j) k {a} h shaped d =
    let leads = to_base l p (length p.classes) j k (part_of w r) d shaped in
    moved (behind_none a) (refers_on (class_type k) (path_to_class k (part_of w r)) 0 h leads.typed leads.first)

pub refers_member : {l : Layout} {p : Checked} {at : Places} (w : World) {r : Reference} (s : ObjectType) (k i : ℕ) {t : ObjectType} {a : Address}
    → Refers l p at r s a → Shaped p s (part_of w r) → HasMember p s k i t → Refers l p at (member p w k i r) t (behind a (laid_member l k i))
refers_member {l} {p} {at} w s k i h shaped m =
    refers_on _ (member_place p k i ∷ []) (laid_member l k i) (refers_base w s k h shaped m.derived) (member_along p k i m.there ∙ ap (λ x. Some x) (sym m.typed))
    (member_offset l p k i m.there)

-- names after dots
pub refers_members : (l : Lowering) (at : Places) (w : World) (memory : Address → Option ℤ) → Remembers l.layout l.program at w memory
    → (ns : List Name) (s t : ObjectType) (r : Reference) (a : Address) → Refers l.layout l.program at r s a → AreMembers l.program s ns t
    → Refers l.layout l.program at (members_named l.program w ns r) t (behind a (members_offset l ns))
refers_members l at w memory m [] s t r a h e = subst (λ x. Refers l.layout l.program at r x (behind a 0)) e (moved (sym (behind_none a)) h)
refers_members l at w memory m (n ∷ ns) s t r a h e = go n.bound (λ s r a h e. refers_members l at w memory m ns s t r a h e) e
  where
    go : (b : Bound) → ((s : ObjectType) (r : Reference) (a : Address) → Refers l.layout l.program at r s a → AreMembers l.program s ns t
        → Refers l.layout l.program at (members_named l.program w ns r) t (behind a (members_offset l ns)))
        → MemberThen l.program s b (λ u. AreMembers l.program u ns t)
        → Refers l.layout l.program at (members_named l.program w ns (member_named l.program w b r)) t
        (behind a (elim b [ Field k i ↦ laid_member l.layout k i + members_offset l ns | _ ↦ members_offset l ns ]))
    go (Field k i) ih e =
        moved (behind_both a (laid_member l.layout k i) (members_offset l ns))
        (ih (member_type l.program k i) (member l.program w k i r) (behind a (laid_member l.layout k i)) (refers_member w s k i h (refers_shaped w m h) e.0) e.1)
    go Free ih e = absurd e
    go (Global g) ih e = absurd e
    go (Local g) ih e = absurd e
    go (Class g) ih e = absurd e
    go (Func g) ih e = absurd e
    go (Method k g) ih e = absurd e
    go (Builtin g) ih e = absurd e
