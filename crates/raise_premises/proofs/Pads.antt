-- The slots of a landing pad are for help.
use Rattle.std.proofs.Common.{◌≡◌, ℕ, true, List, [], ◌∷◌, map, Some, sym, ap, subst}
use Rattle.std.specs.Prelude.{slice_get}
use Rattle.std.specs.List.{AllByRecursion}
use Rattle.std.proofs.lemmas.Bool.{and_parts}
use Rattle.region_forms.specs.Form.{RegionFunction, Regions}
use Rattle.region_forms.specs.Layout.{layout_of}
use Rattle.region_forms.specs.LowerProgram.{regions_of}
use Rattle.region_forms.specs.WellFormed.{every, function_test, is_variable}
use Rattle.region_formed.specs.WellFormed.{CheckedRegionsAreWellFormed}
use Rattle.linear_forms.specs.Linear.{FunctionCode, pad}
use Rattle.linear_forms.specs.Unit.{function_code}
use Rattle.linear_forms.specs.UnitRun.{no_code, code_at}
use Rattle.flight_homes.specs.Helps.{IsHelp, SlotsAreHelp}
use Rattle.flight_homes.proofs.Programs.{all_formed}
use Rattle.machine_simulation.specs.Plan.{Plan, function}
use Rattle.machine_raises.specs.Pads.{PlainSlot}
use Rattle.source_bounds.specs.Compiled.{unit_for}
use Rattle.source_bounds.proofs.Lists.{at_or}
use Rattle.raise_premises.specs.Premises.{CheckedPadsArePlain}

-- the slots of each pad of a function
abbrev PadsHelp : FunctionCode → Type 0
PadsHelp g = (place object selector : ℕ) → slice_get g.ops place ≡ Some (pad object selector) → IsHelp g object × IsHelp g selector

none_help : PadsHelp no_code
none_help place object selector e = absurd (cc e)

module _ (help : SlotsAreHelp) (r : Regions) where
  all_help : (fs : List RegionFunction) → every (function_test r) fs ≡ true → AllByRecursion PadsHelp (map function_code fs)
  all_help [] h = tt
  all_help (f ∷ fs) h =
      let tested = and_parts (function_test r f) (every (function_test r) fs) h in
      (λ place object selector e. help r f tested.0 place (pad object selector) e, all_help fs tested.1)

plain : (q : Plan) (n s : ℕ) → IsHelp (function q n) s → PlainSlot q n s
plain q n s h = record { inside = h.inside; plain = ap is_variable h.help }

pub pads_are_plain : SlotsAreHelp → CheckedRegionsAreWellFormed → CheckedPadsArePlain
pads_are_plain help formed p checked q e n place object selector there =
    let r = regions_of p (layout_of p) in
    let all = all_help help r r.functions (all_formed r (formed p checked)) in
    let here : (m : ℕ) → PadsHelp (code_at (unit_for p) m) = λ m. at_or PadsHelp (unit_for p).functions m no_code all none_help in
    let slots = subst (λ u. (m : ℕ) → PadsHelp (code_at u m)) (sym e) here n place object selector there in
    (plain q n object slots.0, plain q n selector slots.1)
