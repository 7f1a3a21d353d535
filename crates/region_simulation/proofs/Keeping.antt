-- A place stays where it is while its frame's first slots are kept.
use Rattle.std.proofs.Common.{◌≡◌, ℕ, ◌+◌, ◌<◌, ◌≤◌, List, [], ◌∷◌, Option, Some, None, refl, ap, ◌∙◌, arith}
use Rattle.cxx_ast.specs.declared.name.Bound.{Bound}
use Rattle.cxx_ast.specs.declared.name.Bound.TheVariants.{Free, Global, Local, Field, Class, Func, Method, Builtin}
use Rattle.cxx_ast.specs.declared.name.Name.{Name}
use Rattle.cxx_ast.specs.declared.types.Ty.{Ty}
use Rattle.cxx_ast.specs.declared.types.Ty.TheVariants.{Int, Void, Object, IntRef, ObjectRef}
use Rattle.meaning_forms.specs.Class.{ObjectType, class_type}
use Rattle.meaning_forms.specs.World.{Reference, World as SourceWorld, as_class}
use Rattle.meaning_forms.specs.Context.{Context as SourceContext}
use Rattle.meaning_forms.specs.Frame.{Frame as SourceFrame, lvalue}
use Rattle.region_forms.specs.Form.{Kinds, Root, through}
use Rattle.region_forms.specs.World.{Address, address_in, Frame}
use Rattle.region_forms.specs.Evaluation.{slot_location, location_behind, location_address, root_location, locate, address_of, with_some}
use Rattle.region_forms.specs.Outcome.{State}
use Rattle.region_forms.specs.LowerExpression.{Lowering, variable_root, variable_type, named_place, place_of, result_slot}
use Rattle.region_simulation.specs.Places.{Places, Refers}
use Rattle.region_simulation.specs.Reach.{ThisStands, Reaches, KindsFit}
use Rattle.region_simulation.specs.Names.{IsNamed, AreNamed}
use Rattle.region_simulation.specs.Typing.{AreOfClass}
use Rattle.region_simulation.specs.Stands.{Stands}
use Rattle.region_simulation.specs.Alike.{Keeps}
use Rattle.region_simulation.proofs.Members.{refers_shaped, refers_base}
use Rattle.region_simulation.proofs.Naming.{names_placed}

-- a root stays where it is
abbrev RootStays : Kinds → Frame → Frame → Root → Type 0
RootStays kinds f g root = (m : ℕ) → root_location kinds g root m ≡ root_location kinds f root m

through_stays : (kinds : Kinds) (f g : Frame) (k s : ℕ) → s < k → Keeps k f g → RootStays kinds f g (through s)
through_stays kinds f g k s lt h m = ap (λ x. location_behind m (address_in x)) (h.slots s lt)

variable_stays : (kinds : Kinds) (f g : Frame) (k s : ℕ) (t : Ty) → s < k → Keeps k f g → RootStays kinds f g (variable_root t s)
variable_stays kinds f g k s (IntRef c) lt h m = through_stays kinds f g k s lt h m
variable_stays kinds f g k s (ObjectRef c n) lt h m = through_stays kinds f g k s lt h m
variable_stays kinds f g k s Int lt h m = ap (λ n. Some (slot_location (kinds s) n s m)) h.call
variable_stays kinds f g k s Void lt h m = ap (λ n. Some (slot_location (kinds s) n s m)) h.call
variable_stays kinds f g k s (Object c) lt h m = ap (λ n. Some (slot_location (kinds s) n s m)) h.call

module _ (l : Lowering) (own : Option ℕ) (kinds : Kinds) (v : SourceFrame) (at : Places) (f g : Frame) (k : ℕ) (le : result_slot l ≤ k)
    (reach : Reaches l own at v f) (keeps : Keeps k f g) where
  own_stays : (own : Option ℕ) → ThisStands own l at v f → (c : ℕ) → own ≡ Some c → RootStays kinds f g (through 0)
  own_stays None x c e = absurd (cc e)
  own_stays (Some j) x c e = let first = x.first in through_stays kinds f g k 0 (omega (arith, first, le)) keeps

  name_stays : (o : Option ℕ) → own ≡ o → (b : Bound) (t : ObjectType) → IsNamed l o v.variables b t → RootStays kinds f g (named_place l b).root
  name_stays o e (Global n) t h m = refl
  name_stays o e (Local n) t h m =
      let there = (reach.variables n h.0).there in variable_stays kinds f g k (l.first_variable + n) (variable_type l n) (omega (arith, there, le)) keeps m
  name_stays None e (Field j i) t h m = absurd h
  name_stays (Some c) e (Field j i) t h m = own_stays own reach.this c e m
  name_stays o e Free t h m = absurd h
  name_stays o e (Class n) t h m = absurd h
  name_stays o e (Func n) t h m = absurd h
  name_stays o e (Method j n) t h m = absurd h
  name_stays o e (Builtin n) t h m = absurd h

  pub place_stays : (names : List Name) (t : ObjectType) → AreNamed l own v.variables names t → locate kinds g (place_of l names) ≡ locate kinds f (place_of l names)
  place_stays [] t h = go own refl h
    where
      go : (o : Option ℕ) → own ≡ o → AreNamed l o v.variables [] t → root_location kinds g (through 0) 0 ≡ root_location kinds f (through 0) 0
      go None e h = absurd h
      go (Some c) e h = own_stays own reach.this c e 0
  place_stays (n ∷ ns) t (u, h, members) = name_stays own refl n.bound u h (place_of l (n ∷ ns)).offset

-- the address of what names stand for, now and as long as the frame's first slots are kept
pub record Addressed (l : Lowering) (kinds : Kinds) (at : Places) (k : ℕ) (f : Frame) (r : Reference) (t : ObjectType) (names : List Name) : Type 0 where
  pub address : Address
  pub refers : Refers l.layout l.program at r t address
  pub stays : (g : Frame) → Keeps k f g → address_of kinds g (place_of l names) ≡ Some address

module _ (l : Lowering) (own : Option ℕ) (kinds : Kinds) (v : SourceFrame) (at : Places) (c : SourceContext) (w : SourceWorld) (s : State) (k : ℕ)
    (le : result_slot l ≤ k) (fit : KindsFit l kinds) (reach : Reaches l own at v s.frame) (stands : Stands l.layout l.program at c w s) where
  pub names_addressed : (names : List Name) (t : ObjectType) → AreNamed l own v.variables names t
      → Addressed l kinds at k s.frame (lvalue l.program w v names) t names
  names_addressed names t h =
      let (a, refers, located) = names_placed l own kinds v at c w s fit reach stands names t h in
      record {
        address = a;
        refers = refers;
        stays = λ g keeps. ap (λ x. with_some x location_address) (place_stays l own kinds v at s.frame g k le reach keeps names t h ∙ located);
      }

  pub class_addressed : (names : List Name) (j : ℕ) → AreOfClass l own v.variables j names
      → Addressed l kinds at k s.frame (as_class w j (lvalue l.program w v names)) (class_type j) names
  class_addressed names j (t, h, d) =
      let x = names_addressed names t h in
      record { address = x.address; refers = refers_base w t j x.refers (refers_shaped w stands.memory x.refers) d; stays = x.stays }
