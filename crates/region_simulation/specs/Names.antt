-- Names that stand for something in a call, with their types.
use Rattle.std.specs.Prelude.{◌≡◌, ℕ, ◌<◌, true, List, [], ◌∷◌, Option, Some, None, length}
use Rattle.cxx_ast.specs.declared.name.Bound.{Bound}
use Rattle.cxx_ast.specs.declared.name.Bound.TheVariants.{Global, Local, Field}
use Rattle.cxx_ast.specs.declared.name.Name.{Name}
use Rattle.cxx_ast.specs.Plain.{Checked}
use Rattle.meaning_forms.specs.Class.{ObjectType, int_type, class_type, class_at, object_type, derives}
use Rattle.meaning_forms.specs.Frame.{Variable}
use Rattle.region_forms.specs.LowerExpression.{Lowering, variable_type, member_type}
use Rattle.region_simulation.specs.Reach.{is_in_reach}

-- an object of type s has the i-th member of class k, of type t
pub record HasMember (p : Checked) (s : ObjectType) (k i : ℕ) (t : ObjectType) : Type 0 where
  pub derived : derives p s (class_type k) ≡ true
  pub there : i < length (class_at p k).members
  pub typed : t ≡ member_type p k i

-- in a function of class `own`, if it is of one, where these variables are in reach, a name by itself names something of type t
abbrev pub IsNamed : Lowering → (own : Option ℕ) → List Variable → Bound → ObjectType → Type 0
IsNamed l own xs (Global g) t = (g < length l.program.globals) × (t ≡ int_type)
IsNamed l own xs (Local n) t = (is_in_reach xs n ≡ true) × (t ≡ object_type (variable_type l n))
IsNamed l None xs (Field k i) t = ⊥
IsNamed l (Some c) xs (Field k i) t = HasMember l.program (class_type c) k i t
IsNamed l own xs _ t = ⊥

-- a name after a dot names a member of what is of type s, of which more is said by its type
abbrev pub MemberThen : Checked → ObjectType → Bound → (ObjectType → Type 0) → Type 0
MemberThen p s (Field k i) next = HasMember p s k i (member_type p k i) × next (member_type p k i)
MemberThen p s _ next = ⊥

-- behind what is of type s, names after dots name something of type t
abbrev pub AreMembers : Checked → ObjectType → List Name → ObjectType → Type 0
AreMembers p s [] t = s ≡ t
AreMembers p s (n ∷ ns) t = MemberThen p s n.bound (λ u. AreMembers p u ns t)

-- `a.b.c` names something of type t; with no name at all, the own object
abbrev pub AreNamed : Lowering → (own : Option ℕ) → List Variable → List Name → ObjectType → Type 0
AreNamed l None xs [] t = ⊥
AreNamed l (Some c) xs [] t = t ≡ class_type c
AreNamed l own xs (n ∷ ns) t = (s : ObjectType) × IsNamed l own xs n.bound s × AreMembers l.program s ns t
