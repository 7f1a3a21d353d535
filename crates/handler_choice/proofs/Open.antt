-- The guards of open calls are what their tables say.
use Rattle.std.proofs.Common.{◌≡◌, ℕ, List, [], ◌∷◌, Some, refl, sym, ap, subst}
use Rattle.std.specs.Prelude.{slice_get, unwrap_or}
use Rattle.region_forms.specs.Form.{RegionFunction, Regions}
use Rattle.region_forms.specs.Guard.{Guard}
use Rattle.region_forms.specs.Layout.{layout_of}
use Rattle.region_forms.specs.LowerProgram.{regions_of}
use Rattle.linear_forms.specs.Linear.{FunctionCode}
use Rattle.linear_forms.specs.Tables.{look_up, sense_in}
use Rattle.linear_forms.specs.Stub.{Function, compiled, end_catch, terminating, call_unexpected}
use Rattle.linear_forms.specs.Activation.{Activation, look, sense}
use Rattle.linear_forms.specs.Unit.{function_code, unit_of}
use Rattle.linear_forms.specs.UnitRun.{no_code, code_at, code_of}
use Rattle.linear_forms.proofs.Lists.{mapped}
use Rattle.handler_choice.specs.Says.{Says}
use Rattle.handler_choice.specs.Own.{own_guards_at}
use Rattle.handler_choice.specs.Chosen.{AllSay}
use Rattle.handler_choice.specs.Open.{MayRaise, AllRaise, AreGuards, AreAllGuards}
use Rattle.handler_choice.specs.Laws.{AllAreGuarded, CheckedGuardsAreSaid, OwnGuardsAreSaid, TargetsAreNamed, CheckedTargetsAreNamed}

-- the guards of one call
record Guarded (r : Regions) (f : Function) (place : ℕ) : Type 0 where
  guards : List Guard
  are : AreGuards r f place guards
  say : let code = code_of (unit_of r) in Says (sense code f) guards (look code f place)

-- of all
record AllGuarded (r : Regions) (fs : List Activation) : Type 0 where
  guards : List (List Guard)
  are : AreAllGuards r fs guards
  say : AllSay (code_of (unit_of r)) fs guards

module _ (r : Regions) (said : (n : ℕ) (f : RegionFunction) → slice_get r.functions n ≡ Some f → AllAreGuarded f) (own : OwnGuardsAreSaid) where
  one_guarded : (f : Function) (place : ℕ) → MayRaise r f place → Guarded r f place
  one_guarded (compiled n) place h =
      let g = (said n h.function h.there).guarded place h.operation h.at h.out in
      let code : code_at (unit_of r) n ≡ function_code h.function = ap (λ o. unwrap_or o no_code) (mapped function_code r.functions n h.function h.there) in
      record {
        guards = g.guards;
        are = record { function = h.function; there = h.there; around = g.around };
        say = subst (λ (c : FunctionCode). Says (sense_in c.types c.lists) g.guards (look_up c.sites place)) (sym code) g.said;
      }
  one_guarded end_catch place h = record { guards = own_guards_at end_catch place; are = refl; say = own end_catch place }
  one_guarded terminating place h = record { guards = own_guards_at terminating place; are = refl; say = own terminating place }
  one_guarded call_unexpected place h = record { guards = own_guards_at call_unexpected place; are = refl; say = own call_unexpected place }

  all_guarded : (fs : List Activation) → AllRaise r fs → AllGuarded r fs
  all_guarded [] h = record { guards = []; are = tt; say = tt }
  all_guarded (a ∷ fs) h =
      let one = one_guarded a.function a.place h.0 in
      let rest = all_guarded fs h.1 in
      record { guards = one.guards ∷ rest.guards; are = (one.are, rest.are); say = (one.say, rest.say) }

pub checked_targets_are_named : CheckedGuardsAreSaid → OwnGuardsAreSaid → TargetsAreNamed → CheckedTargetsAreNamed
checked_targets_are_named said own named p checked fs raise t =
    let r = regions_of p (layout_of p) in
    let all = all_guarded r (said p checked) own fs raise in
    record { guards = all.guards; are = all.are; named = named (code_of (unit_of r)) fs all.guards t all.say }
