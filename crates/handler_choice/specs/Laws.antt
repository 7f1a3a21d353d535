-- What the calls of laws state.
use Rattle.std.specs.Prelude.{◌≡◌, ℕ, ℤ, true, false, List, length, Option, Some, find, slice_get}
use Rattle.cxx_ast.specs.Plain.{Checked}
use Rattle.cxx_ast.specs.Checked.{IsChecked}
use Rattle.region_forms.specs.Form.{TypeRow, RegionFunction, Regions}
use Rattle.region_forms.specs.Guard.{Guard, stops, dooms}
use Rattle.region_forms.specs.Layout.{layout_of}
use Rattle.region_forms.specs.LowerProgram.{regions_of}
use Rattle.region_forms.specs.WellFormed.{function_test}
use Rattle.linear_forms.specs.Linear.{LinearOp}
use Rattle.linear_forms.specs.Tables.{padded, Sense, look_up, sense_in}
use Rattle.linear_forms.specs.Verdict.{target, pad_verdict}
use Rattle.linear_forms.specs.Stub.{Function, stub_cover, stub_sense}
use Rattle.linear_forms.specs.Activation.{Code, Activation}
use Rattle.linear_forms.specs.Search.{found_above}
use Rattle.linear_forms.specs.Unit.{function_code}
use Rattle.handler_choice.specs.Around.{goes_out, guards_of}
use Rattle.handler_choice.specs.Says.{Says}
use Rattle.handler_choice.specs.Own.{own_guards_at}
use Rattle.handler_choice.specs.Open.{AllRaise, NamesTarget}
use Rattle.handler_choice.specs.Chosen.{first_stop, target_call, AllSay, IsFirst}

-- The guards around the operation at a place of a function, which its tables say. Two operations that are the same are told apart by their places.
pub record IsGuarded (f : RegionFunction) (place : ℕ) : Type 0 where
  pub guards : List Guard
  pub around : slice_get (guards_of f) place ≡ Some guards
  pub said : let g = function_code f in Says (sense_in g.types g.lists) guards (look_up g.sites place)

-- Each operation of a function has its guards beside it, and the tables say those of each operation out of which something may come.
pub record AllAreGuarded (f : RegionFunction) : Type 0 where
  pub beside : length (guards_of f) ≡ length (function_code f).ops
  pub guarded : (place : ℕ) (operation : LinearOp) → slice_get (function_code f).ops place ≡ Some operation → goes_out operation ≡ true → IsGuarded f place

abbrev pub GuardsAreSaid : Type 0
GuardsAreSaid = (r : Regions) (f : RegionFunction) → function_test r f ≡ true → AllAreGuarded f

abbrev pub CheckedGuardsAreSaid : Type 0
CheckedGuardsAreSaid = (p : Checked) → IsChecked p → (n : ℕ) (f : RegionFunction) → slice_get (regions_of p (layout_of p)).functions n ≡ Some f → AllAreGuarded f

-- so do the tables of the runtime's own functions
abbrev pub OwnGuardsAreSaid : Type 0
OwnGuardsAreSaid = (f : Function) (p : ℕ) → Says stub_sense (own_guards_at f p) (stub_cover f p)

-- the target of the search, by the guards of the open calls
abbrev pub TargetsAreNamed : Type 0
TargetsAreNamed = (code : Code) (fs : List Activation) (guards : List (List Guard)) (t : Option ℕ) → AllSay code fs guards →
    found_above code t fs ≡ target_call t (first_stop code.rows t guards)

-- so it is in each state of linear code, whatever calls are open
abbrev pub CheckedTargetsAreNamed : Type 0
CheckedTargetsAreNamed = (p : Checked) → IsChecked p → (fs : List Activation) → let r = regions_of p (layout_of p) in AllRaise r fs → (t : Option ℕ) → NamesTarget r t fs

-- the selector where it ends
abbrev pub FirstClausesMatch : Type 0
FirstClausesMatch = (rows : List TypeRow) (senses : ℤ → Sense) (gs : List Guard) (p : ℕ) (chain : List ℤ) (t : Option ℕ) (g : Guard) → Says senses gs (padded p chain) →
    find (stops rows t) gs ≡ Some g → dooms t (Some g) ≡ false → (n : ℤ) × (pad_verdict rows senses chain t ≡ target n) × IsFirst rows t g (senses n)
