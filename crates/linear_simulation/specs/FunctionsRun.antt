-- That every function of a program runs.
use Rattle.std.specs.Prelude.{◌≡◌, ℕ, ◌+◌, ◌<◌, ◌≤◌, max, Bool, true, List, [], ◌∷◌, length, Option, None, Some, slice_get}
use Rattle.region_forms.specs.Form.{RegionFunction, Regions, kinds_of}
use Rattle.region_forms.specs.Mentioned.{slots_of}
use Rattle.region_forms.specs.Ending.{Running}
use Rattle.region_forms.specs.WellFormed.{every, is_well_formed}
use Rattle.linear_forms.specs.Exits.{outs_of}
use Rattle.linear_forms.specs.Unit.{unit_of}
use Rattle.linear_forms.specs.UnitRun.{code_of}
use Rattle.linear_forms.specs.Cost.{cost, is_barred}
use Rattle.linear_simulation.specs.Watched.{watched_call}
use Rattle.linear_simulation.specs.Comes.{CallsRun}
use Rattle.linear_simulation.specs.Simulates.{has_clauses, GoInside}

-- the slot of a result is one of n
abbrev pub ResultIn : ℕ → Option ℕ → Type 0
ResultIn n None = Unit {0}
ResultIn n (Some s) = s < n

-- what is asked of a function: a barrier holds one operation, what catches has a clause, exits stay inside, and slots are there
pub record IsSound (f : RegionFunction) : Type 0 where
  pub barred : is_barred f.body ≡ true
  pub clauses : has_clauses f.body ≡ true
  pub inside : GoInside 0 (outs_of f.body)
  pub slots : slots_of f.body ≤ length f.slots
  pub result : ResultIn (length f.slots) f.result

-- of every function of a program, and its cost is in bounds
pub record AreSound (p : Regions) (most : ℕ) : Type 0 where
  pub sound : (n : ℕ) (f : RegionFunction) → slice_get p.functions n ≡ Some f → IsSound f
  pub cheap : (n : ℕ) (f : RegionFunction) → slice_get p.functions n ≡ Some f → cost f.body + 2 ≤ most
  pub room : 1 ≤ most

-- what calls are, where so many may be open, with fuel
abbrev pub running_of : Regions → (limit fuel : ℕ) → Running
running_of p limit fuel = record { types = p.types; kinds = kinds_of []; limit = limit; call = watched_call p limit fuel }

-- with every fuel, calls run
abbrev pub FunctionsRun : Type 0
FunctionsRun = (p : Regions) (most limit : ℕ) → AreSound p most → (fuel : ℕ) → CallsRun (code_of (unit_of p)) most fuel (running_of p limit fuel)

-- more than what each function of a list costs
abbrev pub cost_bound : List RegionFunction → ℕ
cost_bound [] = 2
cost_bound (f ∷ fs) = max (cost f.body + 2) (cost_bound fs)

-- more than what each function of a program costs, which depends on the program alone
abbrev pub program_cost : Regions → ℕ
program_cost p = cost_bound p.functions

-- each region of a program that catches has a clause
abbrev pub catches_have_clauses : Regions → Bool
catches_have_clauses p = every (λ f. has_clauses f.body) p.functions

-- the functions of well-formed regions are sound, where each region that catches has a clause
abbrev pub SoundWhereWellFormed : Type 0
SoundWhereWellFormed = (p : Regions) → is_well_formed p ≡ true → catches_have_clauses p ≡ true → AreSound p (program_cost p)
