-- What is known where a function of a typed program is lowered, and the places that its names stand for.
use Rattle.std.proofs.Common.{◌≡◌, ◌∙◌, refl, sym, ap, subst, arith, ℕ, ◌+◌, ◌%◌, ◌<◌, ◌≤◌, true, List, [], ◌∷◌, ◌++◌, length, Option, Some, None}
use Rattle.std.specs.Prelude.{⊤, slice_get}
use Rattle.cxx_ast.specs.Limits.{most_class_bytes}
use Rattle.cxx_ast.specs.declared.name.Name.{Name}
use Rattle.cxx_ast.specs.declared.name.Bound.{Bound}
use Rattle.cxx_ast.specs.declared.name.Bound.TheVariants.{Free, Global, Local, Field, Class, Func, Method, Builtin}
use Rattle.cxx_ast.specs.declared.types.Ty.{Ty}
use Rattle.cxx_ast.specs.declared.types.Ty.TheVariants.{Int, Void, Object, IntRef, ObjectRef}
use Rattle.meaning_forms.specs.Class.{ObjectType, class_type, class_named, class_at, object_type}
use Rattle.meaning_forms.specs.Frame.{Variable}
use Rattle.meaning_forms.specs.Running.{Callee}
use Rattle.region_forms.specs.Form.{Slot, Root, in_slot, through, in_global, Place, Region, regions_from, Argument, arguments_from}
use Rattle.region_forms.specs.Layout.{laid_size, laid_member}
use Rattle.region_forms.specs.Numbering.{number_of}
use Rattle.region_forms.specs.LowerExpression.{Lowering, variable_type, variable_root, result_slot, named_place, members_offset, place_of, slot_place}
use Rattle.region_forms.specs.LowerProgram.{slot_for, help}
use Rattle.class_layout.specs.StandApart.{StandApart}
use Rattle.region_simulation.specs.Reach.{is_in_reach}
use Rattle.region_simulation.specs.Names.{IsNamed, AreNamed}
use Rattle.region_simulation.specs.Typing.{AreOfClass}
use Rattle.address_bounds.specs.Rooms.{Reach, ints_of, RootHasRoom, HasRoom}
use Rattle.address_bounds.specs.Reaches.{Needs, ArgumentReaches, ArgumentsReach, RegionReaches, RegionsReach}
use Rattle.address_bounds.specs.Givens.{reach_of}
use Rattle.address_bounds.proofs.Sizes.{members_inside, member_inside, derived_small}
use Rattle.address_bounds.proofs.Callees.{IsThere, given_for}

-- a function's lowering, its class, what lies behind the addresses in its slots, the slots, and what other functions need
pub record Where : Type 0 where
  pub lowering : Lowering
  pub own : Option ℕ
  pub needs : Needs
  pub reach : Reach
  pub slots : List Slot

abbrev pub size : Where → ObjectType → ℕ
size w t = laid_size w.lowering.layout t

-- what is known of it
pub record Known (w : Where) : Type 0 where
  pub apart : StandApart w.lowering.layout.classes w.lowering.program.classes
  pub small : (k : ℕ) → size w (class_type k) ≤ most_class_bytes
  pub this : (k : ℕ) → w.own ≡ Some k → w.reach 0 ≡ size w (class_type k)
  pub variables : (n : ℕ) → n < length w.lowering.variables → w.reach (w.lowering.first_variable + n) ≡ size w (object_type (variable_type w.lowering n))
  pub behind : (s : ℕ) → result_slot w.lowering ≤ s → w.reach s ≡ most_class_bytes
  pub variable_slots : (n : ℕ) (slot : Slot) → n < length w.lowering.variables → slice_get w.slots (w.lowering.first_variable + n) ≡ Some slot → slot ≡ slot_for w.lowering.layout (variable_type w.lowering n)
  pub help_slots : (s : ℕ) (slot : Slot) → result_slot w.lowering ≤ s → slice_get w.slots s ≡ Some slot → slot ≡ help
  pub named : (c : ℕ) → c < length w.lowering.program.classes → class_named (class_at w.lowering.program c).name ≡ c
  pub called : (c : Callee) → IsThere w.lowering.program c → w.needs (number_of w.lowering.program c) ≡ reach_of w.lowering.layout (given_for w.lowering.program c)

-- the variables in reach are among the function's
abbrev pub Within : Lowering → List Variable → Type 0
Within l xs = (n : ℕ) → is_in_reach xs n ≡ true → n < length l.variables

-- ---- lists of regions and of arguments

abbrev pub AllReach : Where → List Region → Type 0
AllReach w [] = ⊤
AllReach w (r ∷ rs) = RegionReaches w.needs w.reach w.slots r × AllReach w rs

pub both_reach : (w : Where) (rs more : List Region) → AllReach w rs → AllReach w more → AllReach w (rs ++ more)
both_reach w [] more h m = m
both_reach w (r ∷ rs) more h m = (h.0, both_reach w rs more h.1 m)

pub from_reach : (w : Where) (rs : List Region) → AllReach w rs → RegionsReach w.needs w.reach w.slots (regions_from rs)
from_reach w [] h = tt
from_reach w (r ∷ rs) h = (h.0, from_reach w rs h.1)

abbrev pub GivenReach : Where → Reach → ℕ → List Argument → Type 0
GivenReach w wants i [] = ⊤
GivenReach w wants i (a ∷ args) = ArgumentReaches w.needs w.reach w.slots (wants i) a × GivenReach w wants (i + 1) args

pub given_reach : (w : Where) (wants : Reach) (i : ℕ) (args : List Argument) → GivenReach w wants i args → ArgumentsReach w.needs w.reach w.slots wants i (arguments_from args)
given_reach w wants i [] h = tt
given_reach w wants i (a ∷ args) h = (h.0, given_reach w wants (i + 1) args h.1)

-- ---- places

-- fewer bytes
pub less_room : (w : Where) (q : Place) (n m : ℕ) → m ≤ n → HasRoom w.reach w.slots q n → HasRoom w.reach w.slots q m
less_room w q n m less h = (h.0, by q.root q.offset h.1)
  where
    by : (r : Root) (o : ℕ) → RootHasRoom w.reach w.slots r o n → RootHasRoom w.reach w.slots r o m
    by (in_slot s) o h = λ slot is. let enough = h slot is in omega (arith, enough, less)
    by (through s) o h = omega (arith, h, less)
    by (in_global g) o h = omega (arith, h, less)

module _ (w : Where) (k : Known w) where
  pub help_room : (s n : ℕ) → result_slot w.lowering ≤ s → n ≤ 4 → HasRoom w.reach w.slots (slot_place s) n
  help_room s n behind few = (refl, λ slot is. let same : ints_of slot ≡ 4 = ap ints_of (k.help_slots s slot behind is) in omega (arith, same, few))

  -- behind the address of an exception object lies the largest object
  pub thrown_room : (s n : ℕ) → result_slot w.lowering ≤ s → n ≤ most_class_bytes → HasRoom w.reach w.slots (record { root = through s; offset = 0 }) n
  thrown_room s n behind few = let all = k.behind s behind in (refl, omega (arith, all, few))

  -- the n-th variable: of its own slot, or of what its address reaches
  variable_room : (n o m : ℕ) → n < length w.lowering.variables → o + m ≤ size w (object_type (variable_type w.lowering n)) →
      RootHasRoom w.reach w.slots (variable_root (variable_type w.lowering n) (w.lowering.first_variable + n)) o m
  variable_room n o m below inside = by (variable_type w.lowering n) refl inside
    where
      s : ℕ
      s = w.lowering.first_variable + n

      own : (t : Ty) → variable_type w.lowering n ≡ t → (b : ℕ) → ints_of (slot_for w.lowering.layout t) ≡ b → o + m ≤ b → (slot : Slot) → slice_get w.slots s ≡ Some slot → o + m ≤ ints_of slot
      own t e b ints inside slot is =
          let same : ints_of slot ≡ b = ap ints_of (k.variable_slots n slot below is) ∙ ap (λ x. ints_of (slot_for w.lowering.layout x)) e ∙ ints in
          omega (arith, same, inside)

      far : (t : Ty) → variable_type w.lowering n ≡ t → o + m ≤ size w (object_type t) → o + m ≤ w.reach s
      far t e inside = let all : w.reach s ≡ size w (object_type t) = k.variables n below ∙ ap (λ x. size w (object_type x)) e in omega (arith, all, inside)

      by : (t : Ty) → variable_type w.lowering n ≡ t → o + m ≤ size w (object_type t) → RootHasRoom w.reach w.slots (variable_root t s) o m
      by Int e inside = own Int e 4 refl inside
      by Void e inside = own Void e 4 refl inside
      by (Object c) e inside = own (Object c) e (size w (object_type (Object c))) refl inside
      by (IntRef const) e inside = far (IntRef const) e inside
      by (ObjectRef const c) e inside = far (ObjectRef const c) e inside

  -- the slot of the n-th variable, which is no reference
  pub variable_place_room : (n : ℕ) → n < length w.lowering.variables → (t : Ty) → variable_type w.lowering n ≡ t → variable_root t (w.lowering.first_variable + n) ≡ in_slot (w.lowering.first_variable + n) →
      HasRoom w.reach w.slots (slot_place (w.lowering.first_variable + n)) (size w (object_type t))
  variable_place_room n below t typed own =
      let inside : 0 + size w (object_type t) ≤ size w (object_type (variable_type w.lowering n)) = subst (λ u. 0 + size w (object_type t) ≤ size w (object_type u)) (sym typed) (omega arith) in (
        refl,
        subst (λ r. RootHasRoom w.reach w.slots r 0 (size w (object_type t))) own (subst (λ u. RootHasRoom w.reach w.slots (variable_root u (w.lowering.first_variable + n)) 0 (size w (object_type t))) typed
            (variable_room n 0 (size w (object_type t)) below inside)),
      )

  -- a name by itself, and so many bytes on
  named_room : (xs : List Variable) → Within w.lowering xs → (b : Bound) (s : ObjectType) (o m : ℕ) → IsNamed w.lowering w.own xs b s → o + m ≤ size w s → o % 4 ≡ 0 →
      HasRoom w.reach w.slots (record { root = (named_place w.lowering b).root; offset = (named_place w.lowering b).offset + o }) m
  named_room xs within (Global g) s o m named inside even =
      let same : size w s ≡ 4 = ap (size w) named.1 in
      let none : 0 + o ≡ o = omega arith in
      (omega (arith, none, even), omega (arith, none, inside, same))
  named_room xs within (Local n) s o m named inside even =
      let same : size w s ≡ size w (object_type (variable_type w.lowering n)) = ap (size w) named.1 in
      let none : 0 + o ≡ o = omega arith in
      (omega (arith, none, even), variable_room n (0 + o) m (within n named.0) (omega (arith, none, inside, same)))
  named_room xs within (Field c i) s o m named inside even = by w.own refl named
    where
      by : (own : Option ℕ) → w.own ≡ own → IsNamed w.lowering own xs (Field c i) s → (laid_member w.lowering.layout c i + o) % 4 ≡ 0 × (laid_member w.lowering.layout c i + o + m ≤ w.reach 0)
      by None e named = absurd named
      by (Some j) e named =
          let member = member_inside w.lowering.layout w.lowering.program k.apart (class_type j) s c i named in
          let a = member.0 in let b = member.1 in let all = k.this j e in
          (omega (arith, b, even), omega (arith, a, inside, all))
  named_room xs within Free s o m named inside even = absurd (no_free w.own named)
    where
      no_free : (own : Option ℕ) → IsNamed w.lowering own xs Free s → ⊥
      no_free None n = n
      no_free (Some j) n = n
  named_room xs within (Class c) s o m named inside even = absurd (none w.own named)
    where
      none : (own : Option ℕ) → IsNamed w.lowering own xs (Class c) s → ⊥
      none None n = n
      none (Some j) n = n
  named_room xs within (Func c) s o m named inside even = absurd (none w.own named)
    where
      none : (own : Option ℕ) → IsNamed w.lowering own xs (Func c) s → ⊥
      none None n = n
      none (Some j) n = n
  named_room xs within (Method c i) s o m named inside even = absurd (none w.own named)
    where
      none : (own : Option ℕ) → IsNamed w.lowering own xs (Method c i) s → ⊥
      none None n = n
      none (Some j) n = n
  named_room xs within (Builtin f) s o m named inside even = absurd (none w.own named)
    where
      none : (own : Option ℕ) → IsNamed w.lowering own xs (Builtin f) s → ⊥
      none None n = n
      none (Some j) n = n

  -- `a.b.c`, of a type
  pub names_room : (xs : List Variable) → Within w.lowering xs → (names : List Name) (t : ObjectType) → AreNamed w.lowering w.own xs names t → HasRoom w.reach w.slots (place_of w.lowering names) (size w t)
  names_room xs within [] t named = by w.own refl named
    where
      by : (own : Option ℕ) → w.own ≡ own → AreNamed w.lowering own xs [] t → HasRoom w.reach w.slots (place_of w.lowering []) (size w t)
      by None e named = absurd named
      by (Some j) e named =
          let all = k.this j e in let same : size w t ≡ size w (class_type j) = ap (size w) named in
          (refl, omega (arith, all, same))
  names_room xs within (n ∷ ns) t named = by w.own refl named
    where
      by : (own : Option ℕ) → w.own ≡ own → AreNamed w.lowering own xs (n ∷ ns) t → HasRoom w.reach w.slots (place_of w.lowering (n ∷ ns)) (size w t)
      by None e named =
          let inside = members_inside w.lowering k.apart ns named.0 t named.2 in
          named_room xs within n.bound named.0 (members_offset w.lowering ns) (size w t) (subst (λ o. IsNamed w.lowering o xs n.bound named.0) (sym e) named.1) inside.0 inside.1
      by (Some j) e named =
          let inside = members_inside w.lowering k.apart ns named.0 t named.2 in
          named_room xs within n.bound named.0 (members_offset w.lowering ns) (size w t) (subst (λ o. IsNamed w.lowering o xs n.bound named.0) (sym e) named.1) inside.0 inside.1

  -- of a class, or of one derived from it
  pub class_room : (xs : List Variable) → Within w.lowering xs → (names : List Name) (c : ℕ) → AreOfClass w.lowering w.own xs c names → HasRoom w.reach w.slots (place_of w.lowering names) (size w (class_type c))
  class_room xs within names c h =
      less_room w (place_of w.lowering names) (size w h.0) (size w (class_type c)) (derived_small w.lowering.layout w.lowering.program k.apart h.0 c h.2) (names_room xs within names h.0 h.1)
