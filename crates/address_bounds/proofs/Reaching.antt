-- The linear code of a typed program reaches inside what its addresses begin at.
use Rattle.std.proofs.Common.{◌≡◌, refl, subst, arith, ℕ, zero, suc, ◌≤◌, List, [], ◌∷◌, Some}
use Rattle.std.specs.Prelude.{⊤, map, slice_get}
use Rattle.cxx_ast.specs.Limits.{most_class_bytes}
use Rattle.region_forms.specs.Form.{RegionFunction}
use Rattle.region_forms.specs.LowerProgram.{regions_of}
use Rattle.linear_forms.specs.Linear.{return, FunctionCode}
use Rattle.linear_forms.specs.Tables.{unpadded}
use Rattle.linear_forms.specs.Emission.{Emitting, quiet, way_place}
use Rattle.linear_forms.specs.Code.{region_code}
use Rattle.linear_forms.specs.Frame.{code_slots}
use Rattle.linear_forms.specs.Unit.{emitting, placed_code, function_code}
use Rattle.region_forms.specs.Form.{Slot}
use Rattle.address_bounds.specs.Everywhere.{holders}
use Rattle.address_bounds.specs.Rooms.{Reach, HasRoom}
use Rattle.address_bounds.specs.Reaches.{Needs, reaches, LinearReaches}
use Rattle.address_bounds.specs.Givens.{needs_of}
use Rattle.address_bounds.specs.Laws.{CodeReachesInside}
use Rattle.address_bounds.proofs.Codes.{Shows, both_placed, region_placed, ops_are}
use Rattle.address_bounds.proofs.Programs.{regions_reach_inside, pads_known}

-- what code adds reaches inside, too
reaching : (needs : Needs) (reach : Reach) (slots : List Slot) (em : Emitting) → most_class_bytes ≤ reach em.object → HasRoom reach slots (way_place em) 4 → (most : ℕ) → Shows (reaches needs reach slots) (LinearReaches needs reach slots) em ⊤ most
reaching needs reach slots em object way most = record {
  operation = λ o h. h;
  leaves = tt;
  test = λ v l h. h;
  caught = λ s w small. (refl, omega (arith, small, object));
  freed = λ s h. tt;
  way_set = λ n few w. (way, tt);
  way_test = λ n l few w. (way, tt);
  labels = λ l. tt;
  jumps = λ l. tt;
  pads = λ w. tt;
  filters = λ n l w. tt;
  resumes = λ w. tt;
  passes = λ w. tt;
}

-- a function of the unit is the code of one of the regions' functions
pub of_function : (fs : List RegionFunction) (n : ℕ) (g : FunctionCode) → slice_get (map function_code fs) n ≡ Some g → (f : RegionFunction) × (slice_get fs n ≡ Some f) × (function_code f ≡ g)
of_function [] n g e = absurd (cc e)
of_function (f ∷ fs) zero g e = (f, refl, cc e)
of_function (f ∷ fs) (suc n) g e = of_function fs n g e

pub code_reaches_inside : CodeReachesInside
code_reaches_inside p l typed small n g place o there at =
    let x = of_function (regions_of p l).functions n g there in
    let f : RegionFunction = x.0 in
    let inside = regions_reach_inside p l typed small n f x.1 in
    let pads = pads_known p l typed small n f x.1 in
    let needs : Needs = needs_of p l in
    let em : Emitting = emitting f in
    let shown = reaching needs (needs n) (code_slots f) em pads.0 pads.1 (holders f.body) in
    subst (λ h. slice_get h.ops place ≡ Some o → LinearReaches needs (needs n) h.slots o) x.2
    (λ at. ops_are (reaches needs (needs n) (code_slots f)) (LinearReaches needs (needs n) (code_slots f)) em ⊤ (holders f.body) shown (placed_code f)
    (both_placed (reaches needs (needs n) (code_slots f)) (LinearReaches needs (needs n) (code_slots f)) em ⊤ (holders f.body) shown (region_code em unpadded [] 0 0 f.body) (quiet (return f.result) ∷ [])
    (region_placed (reaches needs (needs n) (code_slots f)) (LinearReaches needs (needs n) (code_slots f)) em ⊤ (holders f.body) shown unpadded [] 0 0 f.body (λ k e. tt) (λ e. tt) (omega arith) inside) (tt, tt)) place o at) at
