-- The types that variables are declared with are those of the program.
use Rattle.std.proofs.Common.{◌≡◌, ◌∙◌, ◌+◌, ◌<◌, ℕ, true, List, [], ◌∷◌, ◌++◌, length, Some, refl, sym, ap, subst, arith}
use Rattle.std.specs.Prelude.{slice_get, unwrap_or}
use Rattle.std.proofs.lemmas.Option.{slice_get_within}
use Rattle.cxx_ast.specs.declared.name.Name.{Name}
use Rattle.cxx_ast.specs.declared.types.Ty.{Ty}
use Rattle.cxx_ast.specs.declared.types.Ty.TheVariants.{Int, Void, Object, IntRef, ObjectRef}
use Rattle.cxx_ast.specs.Plain.{Checked}
use Rattle.cxx_ast.specs.Finding.{is_sound}
use Rattle.cxx_ast.specs.Environment.{Kind, Thing, global_thing, class_thing, function_thing, Entry, Environment, Variable, Scope}
use Rattle.cxx_ast.specs.TypeNames.{class_of_name, class_found, type_kind, type_found}
use Rattle.cxx_ast.specs.Resolve.{resolve_class, resolve_type}
use Rattle.cxx_ast.specs.Grammatical.{Each}
use Rattle.meaning_forms.specs.Class.{class_type, class_named, object_type}
use Rattle.region_forms.specs.Layout.{layout_of}
use Rattle.region_forms.specs.LowerExpression.{variable_root, variable_type}
use Rattle.region_forms.specs.LowerProgram.{slot_for}
use Rattle.region_forms.specs.WellFormed.{int_place, address_place}
use Rattle.region_forms.specs.LowerStatement.{variable_slot}
use Rattle.class_layout.proofs.Named.{ThingBelow, Known, Stands, name_stands}
use Rattle.region_formed.proofs.Meant.{Typed, IsHeld, ThingMeant, Given, lowering_in, slots_in, regions_in, classes_in, VariableMeant}
use Rattle.region_formed.proofs.Slots.{in_front, behind, variable_slot_at}
use Rattle.region_formed.proofs.Inside.{some_bytes}
use Rattle.region_formed.proofs.Paths.{in_variable}

-- the classes that names stand for are there
thing_below : (p : Checked) (special : List (List ℕ)) (text : List ℕ) (t : Thing) → ThingMeant p special text t → ThingBelow (length p.classes) t
thing_below p special text (global_thing g) h = tt
thing_below p special text (class_thing k) h = h.0
thing_below p special text function_thing h = tt

pub known_of : (p : Checked) (special : List (List ℕ)) (es : List Entry) → Each (λ (e : Entry). ThingMeant p special e.text e.thing) es → Known (length p.classes) es
known_of p special [] h = tt
known_of p special (e ∷ es) h = (thing_below p special e.text e.thing h.0, known_of p special es h.1)

-- a class by its name
pub class_stands : (p : Checked) (special : List (List ℕ)) (env : Environment) (sc : Scope) (n : Name) → 0 < length p.classes →
    Each (λ (e : Entry). ThingMeant p special e.text e.thing) env.names → is_sound (class_found env sc n) ≡ true →
    Stands (length p.classes) (class_of_name env sc n) (resolve_class env sc n)
class_stands p special env sc n some names h = name_stands (length p.classes) env sc n some (known_of p special env.names names) h

pub stands_typed : (n : ℕ) (kind : Kind) (name : Name) → Stands n kind name → Typed n kind (class_type (class_named name))
stands_typed n kind name s =
    subst (λ k. Typed n k (class_type (class_named name))) (sym s.kind_is) (ap class_type s.name_is, s.below)

-- a type
pub type_typed : (p : Checked) (special : List (List ℕ)) (env : Environment) (sc : Scope) (t : Ty) → 0 < length p.classes →
    Each (λ (e : Entry). ThingMeant p special e.text e.thing) env.names → IsHeld t → is_sound (type_found env sc t) ≡ true →
    Typed (length p.classes) (type_kind env sc t) (object_type (resolve_type env sc t))
type_typed p special env sc Int some names held h = refl
type_typed p special env sc Void some names held h = absurd held
type_typed p special env sc (IntRef const) some names held h = refl
type_typed p special env sc (Object n) some names held h = stands_typed (length p.classes) _ _ (class_stands p special env sc n some names h)
type_typed p special env sc (ObjectRef const n) some names held h = stands_typed (length p.classes) _ _ (class_stands p special env sc n some names h)

pub held_same : (env : Environment) (sc : Scope) (t : Ty) → IsHeld t → IsHeld (resolve_type env sc t)
held_same env sc Int h = tt
held_same env sc Void h = h
held_same env sc (IntRef const) h = tt
held_same env sc (Object n) h = tt
held_same env sc (ObjectRef const n) h = tt

-- the types of a function's variables from the n-th on are these
pub record From (g : Given) (n : ℕ) (types : List Ty) : Type 0 where
  pub holds : (i : ℕ) (t : Ty) → slice_get types i ≡ Some t → slice_get g.variables (n + i) ≡ Some t

pub from_front : {g : Given} {n : ℕ} → (a b : List Ty) → From g n (a ++ b) → From g n a
from_front a b h = record { holds = λ i t e. h.holds i t (in_front a b i (slice_get_within a i t e) ∙ e) }

pub from_back : {g : Given} {n : ℕ} → (m : ℕ) (a b : List Ty) → m ≡ n + length a → From g n (a ++ b) → From g m b
from_back {g = g} {n = n} m a b same h = record {
  holds = λ i t e. let at : n + (length a + i) ≡ m + i = omega (arith, same) in
      subst (λ k. slice_get g.variables k ≡ Some t) at (h.holds (length a + i) t (behind a b (length a + i) i refl ∙ e));
}

pub from_first : {g : Given} {n : ℕ} {t : Ty} {types : List Ty} → From g n (t ∷ types) → slice_get g.variables n ≡ Some t
from_first {g = g} {n = n} {t = t} h = let none : n + 0 ≡ n = omega arith in subst (λ k. slice_get g.variables k ≡ Some t) none (h.holds 0 t refl)

-- a variable that is declared
pub variable_meant : (g : Given) (v : Variable) (t : Ty) → slice_get g.variables v.number ≡ Some t → Typed (classes_in g) v.kind (object_type t) → IsHeld t → VariableMeant g v
variable_meant g v t e typed held =
    let same : variable_type (lowering_in g) v.number ≡ t = ap (λ o. unwrap_or o Int) e in
    record {
      within = slice_get_within g.variables v.number t e;
      typed = subst (λ t. Typed (classes_in g) v.kind (object_type t)) (sym same) typed;
      held = subst IsHeld (sym same) held;
    }

-- its slot, and the place that is its own
pub slot_of : (g : Given) (n : ℕ) (t : Ty) → slice_get g.variables n ≡ Some t → slice_get (slots_in g) (variable_slot (lowering_in g) n) ≡ Some (slot_for (layout_of g.program) t)
slot_of g n t e =
    variable_slot_at (layout_of g.program) g.is_member g.variables g.body n (slice_get_within g.variables n t e)
    ∙ ap (λ o. Some (slot_for (layout_of g.program) (unwrap_or o Int))) e

pub place_of_variable : (g : Given) (n : ℕ) (t : Ty) (kind : Kind) → slice_get g.variables n ≡ Some t → Typed (classes_in g) kind (object_type t) → IsHeld t →
    (int_place (regions_in g) (slots_in g) (record { root = variable_root t (variable_slot (lowering_in g) n); offset = 0 }) ≡ true)
    × (address_place (regions_in g) (slots_in g) (record { root = variable_root t (variable_slot (lowering_in g) n); offset = 0 }) ≡ true)
place_of_variable g n t kind e typed held =
    let some = some_bytes g.program g.checked kind (object_type t) typed in
    in_variable g (variable_slot (lowering_in g) n) 0 t (slot_of g n t e) held (omega (arith, some))
