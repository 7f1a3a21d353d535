-- What names reach in a function of a checked program: its type, and its place.
use Rattle.std.proofs.Common.{◌≡◌, ◌∙◌, ◌+◌, ◌<◌, ◌≤◌, ◌&&◌, ◌==◌, nat_le, nat_lt, ℕ, true, false, List, [], ◌∷◌, ◌++◌, length, Some, None, refl, sym, ap, subst, arith}
use Rattle.std.specs.Prelude.{slice_get}
use Rattle.std.proofs.lemmas.Bool.Decides.{nat_tests}
use Rattle.std.specs.Cmp.Derive.{both_true}
use Rattle.cxx_ast.specs.declared.name.Name.{Name}
use Rattle.cxx_ast.specs.declared.name.Bound.TheVariants.{Global, Local, Field}
use Rattle.cxx_ast.specs.declared.types.Ty.{Ty}
use Rattle.cxx_ast.specs.declared.types.Ty.TheVariants.{Int, Void, Object, IntRef, ObjectRef}
use Rattle.cxx_ast.specs.Rule.{unknown_name, type_mismatch}
use Rattle.cxx_ast.specs.Finding.{breaks}
use Rattle.cxx_ast.specs.Environment.{Kind, int_kind, truth_kind, void_kind, class_kind, no_kind, Environment, Scope, Meaning, unknown, a_local, a_field, a_method, a_global, a_function, a_class, a_builtin}
use Rattle.cxx_ast.specs.Lookup.{member_meaning, meaning_kind, look}
use Rattle.cxx_ast.specs.Lvalue.{Reached as ReachedNames, variable_wanted, reached_from, reached}
use Rattle.cxx_ast.specs.Resolve.{bind, bound_of, resolve_members, resolve_path}
use Rattle.meaning_forms.specs.Class.{ObjectType, int_type, class_type, object_type}
use Rattle.region_forms.specs.LowerExpression.{Lowering, variable_type, variable_root, member_type, named_type, lvalue_type, members_offset, place_of}
use Rattle.region_forms.specs.LowerProgram.{slot_for, slots_for}
use Rattle.region_forms.specs.Layout.{layout_of, laid_member}
use Rattle.region_forms.specs.WellFormed.{holds_ints, holds_address, is_variable, slot_test, within, within_object, int_place, address_place}
use Rattle.class_layout.proofs.Program.{classes_fit}
use Rattle.class_layout.proofs.Small.{size_small}
use Rattle.region_ir.proofs.Specials.{own_address}
use Rattle.region_formed.proofs.Fine.{Fine}
use Rattle.region_formed.proofs.Meant.{Typed, IsHeld, Given, lowering_in, slots_in, regions_in, classes_in, size_in_program, Reach, MemberMeant, MeaningMeant}
use Rattle.region_formed.proofs.Meanings.{member_meant, look_meant}
use Rattle.region_formed.proofs.Slots.{slot_there, variable_slot_at}
use Rattle.region_formed.proofs.Inside.{some_bytes, field_typed, field_inside}

-- the type that names reach from something of a type
abbrev pub last_type : Lowering → ObjectType → List Name → ObjectType
last_type l t [] = t
last_type l t (n ∷ names) = lvalue_type l (n ∷ names)

behind_type : (l : Lowering) (n : Name) (names : List Name) → lvalue_type l (n ∷ names) ≡ last_type l (named_type l n.bound) names
behind_type l n [] = refl
behind_type l n (m ∷ names) = refl

-- what is reached from a member with a meaning
abbrev pub from_member : Environment → List Name → ℕ → Meaning → ReachedNames
from_member env names place m = elim m [
  | a_field j i kind ↦ reached_from env names place kind
  | unknown ↦ record { kind = no_kind; is_const = false; found = breaks unknown_name place ∷ [] }
  | _ ↦ record { kind = no_kind; is_const = false; found = breaks type_mismatch place ∷ [] }
]

-- what members reach from something of a type lies inside it
record Members (g : Given) (kind : Kind) (t : ObjectType) (names : List Name) : Type 0 where
  typed : Typed (classes_in g) kind (last_type (lowering_in g) t names)
  inside : members_offset (lowering_in g) names + size_in_program g.program (last_type (lowering_in g) t names) ≤ size_in_program g.program t

-- a member of an object of class k, then what is reached from it
module _ (g : Given) (n : Name) (names : List Name) (k : ℕ) (t : ObjectType) (is : t ≡ class_type k)
    (rest : (kind : Kind) (u : ObjectType) → Typed (classes_in g) kind u → Fine g.defined (reached_from g.env names n.place kind).found →
    Members g (reached_from g.env names n.place kind).kind u (resolve_members g.env kind names)) where
  one_member : (m : Meaning) → MemberMeant g.program k m → Fine g.defined (from_member g.env names n.place m).found → Members g (from_member g.env names n.place m).kind t (bind n (bound_of g.env m) ∷ resolve_members g.env (meaning_kind m) names)
  one_member (a_field j i kind) h f =
      let p = g.program in
      let typed = field_typed p g.checked j i kind h.0 in
      let r = rest kind (member_type p j i) typed f in
      let same = behind_type (lowering_in g) (bind n (Field j i)) (resolve_members g.env kind names) in
      let inside = field_inside p g.checked j i kind h.0 in
      let further = r.inside in
      let less = h.1 in
      let size = ap (size_in_program p) same in
      let whole = ap (size_in_program p) is in
      record {
        typed = subst (Typed (classes_in g) (reached_from g.env names n.place kind).kind) (sym same) r.typed;
        inside = omega (arith, inside, further, less, size, whole);
      }
  one_member unknown h f = absurd f
  one_member (a_local v) h f = absurd f
  one_member (a_method j i s) h f = absurd f
  one_member (a_global x) h f = absurd f
  one_member (a_function s) h f = absurd f
  one_member (a_class j) h f = absurd f
  one_member (a_builtin b) h f = absurd f

members : (g : Given) (names : List Name) (before : ℕ) (kind : Kind) (t : ObjectType) → Typed (classes_in g) kind t →
    Fine g.defined (reached_from g.env names before kind).found → Members g (reached_from g.env names before kind).kind t (resolve_members g.env kind names)
members g [] before kind t h f = record { typed = h; inside = omega arith }
members g (n ∷ names) before (class_kind k) t h f =
    one_member g n names k t h.0 (λ kind u typed fine. members g names n.place kind u typed fine) (member_meaning g.env k n.text)
    (member_meant g.program g.checked g.defined g.special g.env g.meant (length g.env.classes) k None n.text) f
members g (n ∷ names) before int_kind t h f = absurd f
members g (n ∷ names) before truth_kind t h f = absurd h
members g (n ∷ names) before void_kind t h f = absurd h
members g (n ∷ names) before no_kind t h f = absurd h

-- what names reach: its type, and that its place has an int and an address
pub record PathMeant (g : Given) (kind : Kind) (names : List Name) : Type 0 where
  pub typed : Typed (classes_in g) kind (lvalue_type (lowering_in g) names)
  pub int : int_place (regions_in g) (slots_in g) (place_of (lowering_in g) names) ≡ true
  pub address : address_place (regions_in g) (slots_in g) (place_of (lowering_in g) names) ≡ true

-- an int inside an object lies within the largest one
small_enough : (g : Given) (off : ℕ) (t : ObjectType) → off + 4 ≤ size_in_program g.program t → within_object off ≡ true
small_enough g off t h = let most = size_small g.program.classes (classes_fit g.program g.checked) t in grind (arith, nat_tests, h, most)

-- a place in a variable, or behind the address that it holds
pub in_variable : (g : Given) (s off : ℕ) (t : Ty) → slice_get (slots_in g) s ≡ Some (slot_for (layout_of g.program) t) → IsHeld t →
    off + 4 ≤ size_in_program g.program (object_type t) →
    (int_place (regions_in g) (slots_in g) (record { root = variable_root t s; offset = off }) ≡ true)
    × (address_place (regions_in g) (slots_in g) (record { root = variable_root t s; offset = off }) ≡ true)
in_variable g s off Int e h inside =
    let fits : nat_le (off + 4) 4 ≡ true = grind (arith, nat_tests, inside) in
    let there = ap (λ o. within o off) e ∙ fits in
    (both_true (slot_there holds_ints (slots_in g) s _ e refl) there, both_true (slot_there is_variable (slots_in g) s _ e refl) there)
in_variable g s off Void e h inside = absurd h
in_variable g s off (Object n) e h inside =
    let fits : nat_le (off + 4) (size_in_program g.program (object_type (Object n))) ≡ true = grind (arith, nat_tests, inside) in
    let there = ap (λ o. within o off) e ∙ fits in
    (both_true (slot_there holds_ints (slots_in g) s _ e refl) there, both_true (slot_there is_variable (slots_in g) s _ e refl) there)
in_variable g s off (IntRef const) e h inside =
    let there = both_true (slot_there holds_address (slots_in g) s _ e refl) (small_enough g off (object_type (IntRef const)) inside) in (there, there)
in_variable g s off (ObjectRef const n) e h inside =
    let there = both_true (slot_there holds_address (slots_in g) s _ e refl) (small_enough g off (object_type (ObjectRef const n)) inside) in (there, there)

-- the own object has an address
pub own_there : (g : Given) → g.is_member ≡ true → slot_test holds_address (slots_in g) 0 ≡ true
own_there g e =
    subst (λ m. slot_test holds_address (slots_for (layout_of g.program) m g.variables g.body) 0 ≡ true) (sym e)
    (own_address (layout_of g.program) g.variables g.body)

-- a global is an int
global_offset : (g : Given) (x off : ℕ) → x < length g.program.globals → off ≡ 0 → (nat_lt x (length (regions_in g).globals) && off == 0) ≡ true
global_offset g x off h e =
    let there : nat_lt x (length g.program.globals) ≡ true = grind (arith, nat_tests, h) in
    let none : (off == 0) ≡ true = grind (arith, nat_tests, e) in both_true there none

module _ (g : Given) (n : Name) (names : List Name) where
  abbrev Reached : Meaning → Type 0
  Reached m = PathMeant g (reached_from g.env names n.place (meaning_kind m)).kind (bind n (bound_of g.env m) ∷ resolve_members g.env (meaning_kind m) names)

  by_meaning : (m : Meaning) → MeaningMeant g m → Fine g.defined (variable_wanted n.place m ++ (reached_from g.env names n.place (meaning_kind m)).found) → Reached m
  by_meaning (a_local v) h f =
      let l = lowering_in g in
      let t = variable_type l v.number in
      let m = members g names n.place v.kind (object_type t) h.typed f in
      let rest = resolve_members g.env v.kind names in
      let size = some_bytes g.program g.checked (reached_from g.env names n.place v.kind).kind (last_type l (object_type t) rest) m.typed in
      let inside = m.inside in
      let places = in_variable g (l.first_variable + v.number) (0 + members_offset l rest) t
      (variable_slot_at (layout_of g.program) g.is_member g.variables g.body v.number h.within) h.held (omega (arith, size, inside)) in
      record {
        typed = subst (Typed (classes_in g) (reached_from g.env names n.place v.kind).kind) (sym (behind_type l (bind n (Local v.number)) rest)) m.typed;
        int = places.0;
        address = places.1;
      }
  by_meaning (a_field k i kind) h f =
      let l = lowering_in g in
      let m = members g names n.place kind (member_type g.program k i) (field_typed g.program g.checked k i kind h.0) f in
      let rest = resolve_members g.env kind names in
      let size = some_bytes g.program g.checked (reached_from g.env names n.place kind).kind (last_type l (member_type g.program k i) rest) m.typed in
      let inside = m.inside in
      let whole = field_inside g.program g.checked k i kind h.0 in
      let within : within_object (laid_member l.layout k i + members_offset l rest) ≡ true =
      small_enough g (laid_member l.layout k i + members_offset l rest) (class_type k) (omega (arith, size, inside, whole)) in
      record {
        typed = subst (Typed (classes_in g) (reached_from g.env names n.place kind).kind) (sym (behind_type l (bind n (Field k i)) rest)) m.typed;
        int = both_true (own_there g h.1) within;
        address = both_true (own_there g h.1) within;
      }
  by_meaning (a_global x) h f =
      let l = lowering_in g in
      let m = members g names n.place int_kind int_type refl f in
      let rest = resolve_members g.env int_kind names in
      let size = some_bytes g.program g.checked (reached_from g.env names n.place int_kind).kind (last_type l int_type rest) m.typed in
      let inside = m.inside in
      let there = global_offset g x (0 + members_offset l rest) h (omega (arith, size, inside)) in
      record {
        typed = subst (Typed (classes_in g) (reached_from g.env names n.place int_kind).kind) (sym (behind_type l (bind n (Global x)) rest)) m.typed;
        int = there;
        address = there;
      }
  by_meaning unknown h f = absurd f
  by_meaning (a_method k i s) h f = absurd f
  by_meaning (a_function s) h f = absurd f
  by_meaning (a_class k) h f = absurd f
  by_meaning (a_builtin b) h f = absurd f

pub path_meant : (g : Given) (sc : Scope) → Reach g sc → (n : Name) (names : List Name) → Fine g.defined (reached g.env sc (n ∷ names)).found →
    PathMeant g (reached g.env sc (n ∷ names)).kind (resolve_path g.env sc (n ∷ names))
path_meant g sc r n names f = by_meaning g n names (look g.env sc n) (look_meant g sc r n) f
