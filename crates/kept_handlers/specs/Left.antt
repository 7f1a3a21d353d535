-- That regions open and leave handlers in step: one that an operation opens is left at every exit of the region behind it, and nothing else leaves one.
use Rattle.std.specs.Prelude.{Bool, true, false, ◌&&◌, not}
use Rattle.region_forms.specs.Form.{Op, enter, leave, leave_handler, Region, seq, op, branch, loop, protect, catch, limit, barrier, leave_region, RegionList, no_regions, region_then, Clauses, no_clauses, clause_then, Regions}
use Rattle.region_forms.specs.WellFormed.{every}

abbrev pub is_leave : Op → Bool
is_leave leave = true
is_leave o = false

-- a region opens a handler, and leaves none
abbrev pub opens_one : Region → Bool
opens_one (op (enter s)) = true
opens_one r = false

-- a region leaves a handler that was opened in front of it, at every exit
abbrev pub leaves_one : Region → Bool
leaves_one (protect r leave_handler) = true
leaves_one r = false

-- a region opens none and leaves none
abbrev pub is_even : Region → Bool
is_even r = not (opens_one r) && not (leaves_one r)

abbrev mutual
  -- a region, which may be one that opens a handler or leaves one
  pub region_in_step : Region → Bool
  region_in_step (seq rs) = regions_in_step false rs
  region_in_step (op o) = not (is_leave o)
  region_in_step (branch v a b) = (is_even a && region_in_step a) && (is_even b && region_in_step b)
  region_in_step (loop v a) = is_even a && region_in_step a
  region_in_step (protect a c) = is_even a && region_in_step a
  region_in_step (catch a cs) = (is_even a && region_in_step a) && clauses_in_step cs
  region_in_step (limit a types) = is_even a && region_in_step a
  region_in_step (barrier a) = is_even a && region_in_step a
  region_in_step (leave_region n) = true

  -- regions in order, in front of which a handler was opened or not
  pub regions_in_step : Bool → RegionList → Bool
  regions_in_step opened no_regions = not opened
  regions_in_step true (region_then a rs) = leaves_one a && (region_in_step a && regions_in_step (opens_one a) rs)
  regions_in_step false (region_then a rs) = not (leaves_one a) && (region_in_step a && regions_in_step (opens_one a) rs)

  pub clauses_in_step : Clauses → Bool
  clauses_in_step no_clauses = true
  clauses_in_step (clause_then t s a cs) = (is_even a && region_in_step a) && clauses_in_step cs

-- the bodies of a program's functions
abbrev pub are_in_step : Regions → Bool
are_in_step r = every (λ f. is_even f.body && region_in_step f.body) r.functions
