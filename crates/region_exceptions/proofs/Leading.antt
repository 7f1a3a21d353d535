-- Places lead to variables and to parts of the own object.
use Rattle.std.proofs.Common.{◌≡◌, ℕ, ◌+◌, [], ◌∷◌, ◌++◌, Option, Some, None, sym, ap, ◌∙◌, subst, arith}
use Rattle.std.specs.Prelude.{slice_get}
use Rattle.cxx_ast.specs.Plain.{Checked}
use Rattle.meaning_forms.specs.Class.{class_type, object_type, parts_of}
use Rattle.meaning_forms.specs.World.{Reference, part}
use Rattle.meaning_forms.specs.Frame.{Frame as SourceFrame, variable_in}
use Rattle.region_forms.specs.Layout.{Layout, laid_part}
use Rattle.region_forms.specs.LowerExpression.{Lowering}
use Rattle.region_forms.specs.LowerStatement.{variable_slot}
use Rattle.region_forms.specs.Evaluation.{location_behind, location_address, slot_location, with_some}
use Rattle.region_forms.specs.World.{Address, behind, address_in}
use Rattle.region_forms.specs.Outcome.{State}
use Rattle.region_simulation.specs.Typed.{type_along, offset_along}
use Rattle.region_simulation.specs.Places.{Places, Refers}
use Rattle.region_simulation.specs.Reach.{slot_address, IsReachedBy, ThisStands, OwnStands, kind_for}
use Rattle.region_simulation.proofs.Paths.{type_joined, offset_joined}
use Rattle.region_exceptions.specs.Exceptions.{AllPlacesLead}

-- a part of what a reference names
part_refers : (l : Layout) (p : Checked) (at : Places) (r : Reference) (k i j : ℕ) (a : Address) → slice_get (parts_of p k) i ≡ Some (class_type j) → Refers l p at r (class_type k) a
    → Refers l p at (part i r) (class_type j) (behind a (laid_part l p k i))
part_refers l p at r k i j a there h =
    let typed : type_along p (class_type k) (i ∷ []) ≡ Some (class_type j) = ap (λ x. elim x [ None ↦ None | Some u ↦ type_along p u [] ]) there in
    let rest : offset_along l p (class_type k) (i ∷ []) ≡ laid_part l p k i + 0 =
    ap (λ x. laid_part l p k i + elim x [ None ↦ 0 | Some u ↦ offset_along l p u [] ]) there in
    let joined = offset_joined l p h.stood.type (class_type k) r.path (i ∷ []) h.typed in
    record {
      stood = h.stood;
      stands = h.stands;
      typed = type_joined p h.stood.type (class_type k) r.path (i ∷ []) h.typed ∙ typed;
      address = ap (λ x. behind x (laid_part l p k i)) h.address ∙ ap (λ m. record { base = h.stood.base; offset = m })
          (let g : offset_along l p h.stood.type r.path + laid_part l p k i ≡ offset_along l p h.stood.type (r.path ++ i ∷ []) = omega (arith, joined, rest) in g);
    }

own_of : (own : Option ℕ) (k : ℕ) (l : Lowering) (at : Places) (v : SourceFrame) (s : State) → own ≡ Some k → ThisStands own l at v s.frame → OwnStands l at v s.frame k
own_of own k l at v s e h = subst (λ o. ThisStands o l at v s.frame) e h

pub all_places_lead : AllPlacesLead
all_places_lead l own b v c fit = record {
  variables = λ n m q is typed there at w s stands inside.
      let x = inside.reach.variables m is in
      let reached : x.address ≡ slot_address s.frame.call (variable_slot l m) = subst (λ t. IsReachedBy t (variable_slot l m) s.frame x.address) typed x.reached in
      record {
        there = there;
        address = x.address;
        refers = subst (λ t. Refers l.layout l.program at (variable_in v.variables m) (object_type t) x.address) typed x.refers;
        stays = λ g keeps. (ap (λ z. with_some (Some (slot_location z g.call (variable_slot l m) 0)) location_address) (fit.variables m x.there ∙ ap kind_for typed) ∙
            ap (λ z. Some (slot_address z (variable_slot l m))) keeps.call ∙ ap (λ z. Some z) (sym reached));
      };
  parts = λ n k i j mine part_is there at w s stands inside.
      let o = own_of own k l at v s mine inside.reach.this in
      let first = o.first in
      record {
        there = there;
        address = behind o.address (laid_part l.layout l.program k i);
        refers = part_refers l.layout l.program at v.this k i j o.address part_is o.refers;
        stays = λ g keeps. ap (λ z. with_some (location_behind (laid_part l.layout l.program k i) (address_in z)) location_address) (keeps.slots 0 (omega (arith, first)) ∙ o.reached);
      };
}
