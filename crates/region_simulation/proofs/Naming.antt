-- The place that a name is lowered to is where what it names stands.
use Rattle.std.proofs.Common.{◌≡◌, ℕ, ◌+◌, List, [], ◌∷◌, Option, Some, None, refl, sym, ap, ◌∙◌, subst}
use Rattle.cxx_ast.specs.declared.name.Bound.{Bound}
use Rattle.cxx_ast.specs.declared.name.Bound.TheVariants.{Free, Global, Local, Field, Class, Func, Method, Builtin}
use Rattle.cxx_ast.specs.declared.name.Name.{Name}
use Rattle.cxx_ast.specs.declared.types.Ty.{Ty}
use Rattle.cxx_ast.specs.declared.types.Ty.TheVariants.{Int, Void, Object, IntRef, ObjectRef}
use Rattle.meaning_forms.specs.Class.{ObjectType, int_type, class_type}
use Rattle.meaning_forms.specs.World.{Reference, World as SourceWorld, whole}
use Rattle.meaning_forms.specs.Context.{Context as SourceContext}
use Rattle.meaning_forms.specs.Frame.{Frame as SourceFrame, named, lvalue}
use Rattle.region_forms.specs.Form.{Kinds, Root, through, in_global}
use Rattle.region_forms.specs.Layout.{laid_member}
use Rattle.region_forms.specs.World.{Address, of_global, address_word, address_in, Frame, behind}
use Rattle.region_forms.specs.Evaluation.{in_memory, slot_location, location_behind, root_location, locate}
use Rattle.region_forms.specs.Outcome.{State}
use Rattle.region_forms.specs.LowerExpression.{Lowering, variable_root, variable_type, named_place, members_offset, place_of}
use Rattle.region_simulation.specs.Places.{Places, Refers}
use Rattle.region_simulation.specs.Reach.{IsReachedBy, ThisStands, Reaches, kind_for, KindsFit}
use Rattle.region_simulation.specs.Names.{IsNamed, AreNamed}
use Rattle.region_simulation.specs.Stands.{Stands}
use Rattle.region_simulation.proofs.Members.{refers_shaped, behind_none, behind_both, refers_member, refers_members}

-- from a place on, so many bytes further on
abbrev RootAt : Kinds → Frame → Root → ℕ → Address → Type 0
RootAt kinds f root n a = (m : ℕ) → root_location kinds f root (n + m) ≡ Some (in_memory (behind a m))

through_root : (kinds : Kinds) (f : Frame) (s : ℕ) (n : ℕ) (a : Address) → f.slots s ≡ address_word a → RootAt kinds f (through s) n (behind a n)
through_root kinds f s n a e m = ap (λ x. location_behind (n + m) (address_in x)) e ∙ ap (λ x. Some (in_memory x)) (sym (behind_both a n m))

at_none : (kinds : Kinds) (f : Frame) (root : Root) (a : Address) → RootAt kinds f root 0 (behind a 0) → RootAt kinds f root 0 a
at_none kinds f root a h = subst (RootAt kinds f root 0) (behind_none a) h

variable_at : (kinds : Kinds) (f : Frame) (s : ℕ) (a : Address) (t : Ty) → kinds s ≡ kind_for t → IsReachedBy t s f a
    → RootAt kinds f (variable_root t s) 0 a
variable_at kinds f s a Void k h m = absurd h
variable_at kinds f s a (IntRef c) k h m = at_none kinds f (through s) a (through_root kinds f s 0 a h) m
variable_at kinds f s a (ObjectRef c n) k h m = at_none kinds f (through s) a (through_root kinds f s 0 a h) m
variable_at kinds f s a Int k h m =
    ap (λ x. Some (slot_location x f.call s (0 + m))) k ∙ ap (λ x. Some (in_memory (behind x m))) (sym h)
variable_at kinds f s a (Object n) k h m =
    ap (λ x. Some (slot_location x f.call s (0 + m))) k ∙ ap (λ x. Some (in_memory (behind x m))) (sym h)

-- what a reference names stands at the place
pub record PlacedFrom (l : Lowering) (kinds : Kinds) (at : Places) (f : Frame) (r : Reference) (t : ObjectType) (root : Root) (n : ℕ) : Type 0 where
  pub address : Address
  pub refers : Refers l.layout l.program at r t address
  pub located : RootAt kinds f root n address

module _ (l : Lowering) (own : Option ℕ) (kinds : Kinds) (v : SourceFrame) (at : Places) (c : SourceContext) (w : SourceWorld) (s : State)
    (fit : KindsFit l kinds) (reach : Reaches l own at v s.frame) (stands : Stands l.layout l.program at c w s) where
  -- a name by itself
  name_placed : (b : Bound) (t : ObjectType) → IsNamed l own v.variables b t
      → PlacedFrom l kinds at s.frame (named l.program w v b) t (named_place l b).root (named_place l b).offset
  name_placed (Global g) t h = subst (λ t. PlacedFrom l kinds at s.frame (whole g) t (in_global g) 0) (sym h.1)
      (record { address = record { base = of_global g; offset = 0 }; refers = record { stood = record { base = of_global g; type = int_type }; stands = stands.globals g h.0; typed = refl; address = refl }; located = λ m. refl })
  name_placed (Local n) t h =
      let x = reach.variables n h.0 in
      record {
        address = x.address;
        refers = subst (λ u. Refers l.layout l.program at (named l.program w v (Local n)) u x.address) (sym h.1) x.refers;
        located = variable_at kinds s.frame (l.first_variable + n) x.address (variable_type l n) (fit.variables n x.there) x.reached;
      }
  name_placed (Field k i) t h = go own reach.this h
    where
      go : (own : Option ℕ) → ThisStands own l at v s.frame → IsNamed l own v.variables (Field k i) t
          → PlacedFrom l kinds at s.frame (named l.program w v (Field k i)) t (through 0) (laid_member l.layout k i)
      go None x h = absurd h
      go (Some j) x h = record {
        address = behind x.address (laid_member l.layout k i);
        refers = refers_member w (class_type j) k i x.refers (refers_shaped w stands.memory x.refers) h;
        located = through_root kinds s.frame 0 (laid_member l.layout k i) x.address x.reached;
      }
  name_placed Free t h = absurd h
  name_placed (Class g) t h = absurd h
  name_placed (Func g) t h = absurd h
  name_placed (Method k g) t h = absurd h
  name_placed (Builtin g) t h = absurd h

  -- `a.b.c`
  pub names_placed : (names : List Name) (t : ObjectType) → AreNamed l own v.variables names t
      → (a : Address) × Refers l.layout l.program at (lvalue l.program w v names) t a × (locate kinds s.frame (place_of l names) ≡ Some (in_memory a))
  names_placed [] t h = go own reach.this h
    where
      go : (own : Option ℕ) → ThisStands own l at v s.frame → AreNamed l own v.variables [] t
          → (a : Address) × Refers l.layout l.program at v.this t a × (root_location kinds s.frame (through 0) 0 ≡ Some (in_memory a))
      go None x h = absurd h
      go (Some k) x h = (
        x.address,
        subst (λ u. Refers l.layout l.program at v.this u x.address) (sym h) x.refers,
        ap (λ y. location_behind 0 (address_in y)) x.reached ∙ ap (λ y. Some (in_memory y)) (behind_none x.address),
      )
  names_placed (n ∷ ns) t (u, h, members) =
      let first = name_placed n.bound u h in (
        behind first.address (members_offset l ns),
        refers_members l at w s.world.memory stands.memory ns u t (named l.program w v n.bound) first.address first.refers members,
        first.located (members_offset l ns),
      )
