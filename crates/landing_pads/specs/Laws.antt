-- Laws of the tables of all linear code.
use Rattle.std.specs.Prelude.{◌+◌, ◌≤◌, length}
use Rattle.std.specs.List.{AllByRecursion}
use Rattle.region_forms.specs.Form.{RegionFunction}
use Rattle.linear_forms.specs.Filters.{type_uses, list_uses}
use Rattle.linear_forms.specs.Laws.{AreInOrder}
use Rattle.linear_forms.specs.Unit.{function_code}
use Rattle.landing_pads.specs.Named.{FilterIsThere, TypeIsThere, PadIsThere}
use Rattle.landing_pads.specs.Size.{longest}

-- A function's call sites stand in order, one behind the other and inside its operations. Where a site has a pad, a landing pad begins
-- there, each filter of a site's chain names what is there, and so does each index of a list.
pub record TablesStand (f : RegionFunction) : Type 0 where
  pub order : AreInOrder 0 (length (function_code f).ops) (function_code f).sites
  pub few : length (function_code f).sites ≤ length (function_code f).ops
  pub pads : AllByRecursion (λ s. PadIsThere (function_code f) (length f.slots) (length f.slots + 1) s.pad) (function_code f).sites
  pub filters : AllByRecursion (λ s. AllByRecursion (FilterIsThere (function_code f)) s.filters) (function_code f).sites
  pub lists : AllByRecursion (AllByRecursion (TypeIsThere (function_code f))) (function_code f).lists

-- so of all regions
abbrev pub AllTablesStand : Type 0
AllTablesStand = (f : RegionFunction) → TablesStand f

-- A chain has at most one filter for all cleanups, beside those of the clauses and specifications that guard its place. There are at most
-- as many types and lists as the function's pads name.
pub record TablesAreShort (f : RegionFunction) : Type 0 where
  pub chains : AllByRecursion (λ s. length s.filters ≤ longest f.body + 1) (function_code f).sites
  pub types : length (function_code f).types ≤ length (type_uses f.body)
  pub lists : length (function_code f).lists ≤ length (list_uses f.body)

-- so of all regions
abbrev pub AllTablesAreShort : Type 0
AllTablesAreShort = (f : RegionFunction) → TablesAreShort f
