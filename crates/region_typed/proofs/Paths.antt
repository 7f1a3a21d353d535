-- Names that reach something where no rule is broken name something of its type.
use Rattle.std.proofs.Common.{◌≡◌, ◌++◌, ℕ, List, [], ◌∷◌, length, Option, Some, None, refl, sym, subst}
use Rattle.std.proofs.lemmas.Option.{slice_get_within}
use Rattle.cxx_ast.specs.declared.name.Name.{Name}
use Rattle.cxx_ast.specs.declared.name.Bound.TheVariants.{Field}
use Rattle.cxx_ast.specs.Environment.{Kind, int_kind, truth_kind, void_kind, class_kind, no_kind, Scope, Meaning, unknown, a_local, a_field, a_method, a_global, a_function, a_class, a_builtin}
use Rattle.cxx_ast.specs.Lookup.{member_meaning, meaning_kind, look}
use Rattle.cxx_ast.specs.Lvalue.{variable_wanted, reached_from, reached}
use Rattle.cxx_ast.specs.Resolve.{bind, bound_of, resolve_members, resolve_path}
use Rattle.meaning_forms.specs.Class.{ObjectType, class_type, class_at}
use Rattle.meaning_forms.specs.Frame.{Variable as FrameVariable}
use Rattle.region_forms.specs.LowerExpression.{Lowering, member_type, named_type, lvalue_type}
use Rattle.region_simulation.specs.Names.{HasMember, AreMembers, IsNamed, AreNamed}
use Rattle.region_formed.proofs.Fine.{Fine}
use Rattle.region_formed.proofs.Meant.{Typed, Given, lowering_in, classes_in, Reach, FieldThere, MemberMeant, MeaningMeant}
use Rattle.region_formed.proofs.Meanings.{member_meant, look_meant}
use Rattle.region_formed.proofs.Inside.{field_typed}
use Rattle.region_formed.proofs.Paths.{last_type, from_member}
use Rattle.region_formed.proofs.Constructors.{derived}
use Rattle.region_typed.specs.Known.{InReach, SettledIn}
use Rattle.region_typed.proofs.Meaning.{MemberIn, member_in, NameIn, look_in}

pub behind_type : (l : Lowering) (n : Name) (names : List Name) → lvalue_type l (n ∷ names) ≡ last_type l (named_type l n.bound) names
behind_type l n [] = refl
behind_type l n (m ∷ names) = refl

-- an object of class k has a member of a class that k is or derives from
pub member_had : (g : Given) (k j i : ℕ) (kind : Kind) → MemberIn g.program g.env k (a_field j i kind) → FieldThere g.program j i kind →
    HasMember g.program (class_type k) j i (member_type g.program j i)
member_had g k j i kind h f = record {
  derived = derived g.program g.defined g.special g.env g.meant k j h;
  there = slice_get_within (class_at g.program j).members i f.member f.at;
  typed = refl;
}

-- a member of an object of class k, then what is reached from it
module _ (g : Given) (n : Name) (names : List Name) (k : ℕ) (t : ObjectType) (is : t ≡ class_type k)
    (rest : (kind : Kind) (u : ObjectType) → Typed (classes_in g) kind u → Fine g.defined (reached_from g.env names n.place kind).found →
    AreMembers g.program u (resolve_members g.env kind names) (last_type (lowering_in g) u (resolve_members g.env kind names))) where
  one_member : (m : Meaning) → MemberMeant g.program k m → MemberIn g.program g.env k m → Fine g.defined (from_member g.env names n.place m).found →
      AreMembers g.program t (bind n (bound_of g.env m) ∷ resolve_members g.env (meaning_kind m) names)
      (last_type (lowering_in g) t (bind n (bound_of g.env m) ∷ resolve_members g.env (meaning_kind m) names))
  one_member (a_field j i kind) h o f =
      let p = g.program in
      let typed = field_typed p g.checked j i kind h.0 in
      let more = resolve_members g.env kind names in (
        subst (λ u. HasMember p u j i (member_type p j i)) (sym is) (member_had g k j i kind o h.0),
        subst (AreMembers p (member_type p j i) more) (sym (behind_type (lowering_in g) (bind n (Field j i)) more)) (rest kind (member_type p j i) typed f),
      )
  one_member unknown h o f = absurd f
  one_member (a_local v) h o f = absurd f
  one_member (a_method j i s) h o f = absurd f
  one_member (a_global x) h o f = absurd f
  one_member (a_function s) h o f = absurd f
  one_member (a_class j) h o f = absurd f
  one_member (a_builtin b) h o f = absurd f

members_typed : (g : Given) (names : List Name) (before : ℕ) (kind : Kind) (t : ObjectType) → Typed (classes_in g) kind t →
    Fine g.defined (reached_from g.env names before kind).found →
    AreMembers g.program t (resolve_members g.env kind names) (last_type (lowering_in g) t (resolve_members g.env kind names))
members_typed g [] before kind t h f = refl
members_typed g (n ∷ names) before (class_kind k) t h f =
    one_member g n names k t h.0 (λ kind u typed fine. members_typed g names n.place kind u typed fine) (member_meaning g.env k n.text)
    (member_meant g.program g.checked g.defined g.special g.env g.meant (length g.env.classes) k None n.text)
    (member_in g.program g.defined g.special g.env g.meant k None n.text) f
members_typed g (n ∷ names) before int_kind t h f = absurd f
members_typed g (n ∷ names) before truth_kind t h f = absurd h
members_typed g (n ∷ names) before void_kind t h f = absurd h
members_typed g (n ∷ names) before no_kind t h f = absurd h

-- a name by itself that means a variable or a member, in a function of a class or of none
module _ (g : Given) (xs : List FrameVariable) where
  abbrev pub NamesIt : Option ℕ → Meaning → Type 0
  NamesIt own m = IsNamed (lowering_in g) own xs (bound_of g.env m) (named_type (lowering_in g) (bound_of g.env m))

  pub field_named : (own : Option ℕ) (k i : ℕ) (kind : Kind) → FieldThere g.program k i kind → NameIn g.program g.env xs own (a_field k i kind) → NamesIt own (a_field k i kind)
  field_named None k i kind h o = absurd o
  field_named (Some c) k i kind h o = member_had g c k i kind o h

  -- the first name, then members
  module _ (own : Option ℕ) (n : Name) (names : List Name) where
    abbrev Typed_by : Meaning → Type 0
    Typed_by m =
        AreNamed (lowering_in g) own xs (bind n (bound_of g.env m) ∷ resolve_members g.env (meaning_kind m) names)
        (lvalue_type (lowering_in g) (bind n (bound_of g.env m) ∷ resolve_members g.env (meaning_kind m) names))

    pub first_then : (m : Meaning) → NamesIt own m → Typed (classes_in g) (meaning_kind m) (named_type (lowering_in g) (bound_of g.env m)) →
        Fine g.defined (reached_from g.env names n.place (meaning_kind m)).found → Typed_by m
    first_then m h typed f =
        let l = lowering_in g in
        let more = resolve_members g.env (meaning_kind m) names in
        let t = named_type l (bound_of g.env m) in (
          t,
          h,
          subst (AreMembers g.program t more) (sym (behind_type l (bind n (bound_of g.env m)) more)) (members_typed g names n.place (meaning_kind m) t typed f),
        )

    by_meaning : (m : Meaning) → MeaningMeant g m → NameIn g.program g.env xs own m →
        Fine g.defined (variable_wanted n.place m ++ (reached_from g.env names n.place (meaning_kind m)).found) → Typed_by m
    by_meaning (a_local v) h o f = first_then (a_local v) (o, refl) h.typed f
    by_meaning (a_field k i kind) h o f =
        first_then (a_field k i kind) (field_named own k i kind h.0 o) (field_typed g.program g.checked k i kind h.0) f
    by_meaning (a_global x) h o f = first_then (a_global x) (h, refl) refl f
    by_meaning unknown h o f = absurd f
    by_meaning (a_method k i s) h o f = absurd f
    by_meaning (a_function s) h o f = absurd f
    by_meaning (a_class k) h o f = absurd f
    by_meaning (a_builtin b) h o f = absurd f

-- names that reach something
pub path_typed : (g : Given) → SettledIn g → (xs : List FrameVariable) (sc : Scope) → Reach g sc → InReach xs sc → (n : Name) (names : List Name) → Fine g.defined (reached g.env sc (n ∷ names)).found →
    AreNamed (lowering_in g) sc.own xs (resolve_path g.env sc (n ∷ names)) (lvalue_type (lowering_in g) (resolve_path g.env sc (n ∷ names)))
path_typed g settled xs sc r o n names f =
    by_meaning g xs sc.own n names (look g.env sc n) (look_meant g sc r n)
    (look_in g.program g.checked g.defined g.special g.env g.meant settled.classes xs sc o n) f
