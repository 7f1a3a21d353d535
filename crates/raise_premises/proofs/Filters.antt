-- The filters of a chain are ints.
use Rattle.std.proofs.Common.{◌≡◌, ℕ, ℤ, List, [], ◌∷◌, map, sym, subst, arith}
use Rattle.std.specs.List.{AllByRecursion}
use Rattle.region_forms.specs.Form.{RegionFunction}
use Rattle.region_forms.specs.Layout.{layout_of}
use Rattle.region_forms.specs.LowerProgram.{regions_of}
use Rattle.linear_forms.specs.Linear.{FunctionCode}
use Rattle.linear_forms.specs.Tables.{padded, look_up}
use Rattle.linear_forms.specs.Unit.{function_code}
use Rattle.linear_forms.specs.UnitRun.{no_code, code_at}
use Rattle.flight_homes.specs.Filters.{FiltersFit}
use Rattle.machine_pieces.specs.Numbers.{IsInt}
use Rattle.source_bounds.specs.Compiled.{unit_for}
use Rattle.source_bounds.proofs.Lists.{at_or}
use Rattle.raise_premises.specs.Premises.{HasFew, CheckedTablesAreFew, CheckedFiltersAreInts}

-- the filters of each chain of a function
abbrev ChainsAreInts : FunctionCode → Type 0
ChainsAreInts g = (place target : ℕ) (chain : List ℤ) → look_up g.sites place ≡ padded target chain → AllByRecursion IsInt chain

none_are : ChainsAreInts no_code
none_are place target chain e = absurd (cc e)

module _ (fit : FiltersFit) where
  all_are : (fs : List RegionFunction) → AllByRecursion HasFew (map function_code fs) → AllByRecursion ChainsAreInts (map function_code fs)
  all_are [] few = tt
  all_are (f ∷ fs) few = (λ place target chain e. fit f place target chain (omega (arith, few.0.types)) (omega (arith, few.0.lists)) e, all_are fs few.1)

pub filters_are_ints : FiltersFit → CheckedTablesAreFew → CheckedFiltersAreInts
filters_are_ints fit few p checked q e =
    let all = all_are fit (regions_of p (layout_of p)).functions (few p checked) in
    subst (λ u. (m : ℕ) → ChainsAreInts (code_at u m)) (sym e) (λ m. at_or ChainsAreInts (unit_for p).functions m no_code all none_are)
