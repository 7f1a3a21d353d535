-- Which variables of a function are kept, by its region: the first ten int variables, in order of declaration, whose address no operation of the
-- region takes. An address is taken where a reference is bound to a variable, and where an object is built or destroyed.
use Rattle.std.specs.Prelude.{◌≡◌, ℕ, ◌+◌, ◌&&◌, ◌||◌, not, Bool, false, List, [], ◌∷◌, take, if◌then◌else◌}
use Rattle.region_forms.specs.Form.{Slot, Cleanup, destroy_scope, destroy_part, free_object, leave_handler, Region, seq, op, branch, loop, protect, catch, limit, barrier, leave_region, RegionList, no_regions, region_then, Clauses, no_clauses, clause_then, RegionFunction}
use Rattle.linear_forms.specs.Unit.{function_code}
use Rattle.machine_forms.specs.Kept.{root_is, op_takes, is_one_int, kept_slots}

abbrev pub cleanup_takes : ℕ → Cleanup → Bool
cleanup_takes s (destroy_scope p n) = root_is s p.root
cleanup_takes s (destroy_part p n) = root_is s p.root
cleanup_takes s (free_object t) = false
cleanup_takes s leave_handler = false

-- something in a region takes the address of a slot
abbrev mutual
  pub region_takes : ℕ → Region → Bool
  region_takes s (seq rs) = some_take s rs
  region_takes s (op o) = op_takes s o
  region_takes s (branch v a b) = region_takes s a || region_takes s b
  region_takes s (loop v r) = region_takes s r
  region_takes s (protect r c) = cleanup_takes s c || region_takes s r
  region_takes s (catch r cs) = clauses_take s cs || region_takes s r
  region_takes s (limit r types) = region_takes s r
  region_takes s (barrier r) = region_takes s r
  region_takes s (leave_region n) = false

  pub some_take : ℕ → RegionList → Bool
  some_take s no_regions = false
  some_take s (region_then r rs) = region_takes s r || some_take s rs

  pub clauses_take : ℕ → Clauses → Bool
  clauses_take s no_clauses = false
  clauses_take s (clause_then t x r cs) = region_takes s r || clauses_take s cs

-- the int variables among slots, the first of which has a number, whose address a region does not take
abbrev pub untaken_in : Region → ℕ → List Slot → List ℕ
untaken_in r s [] = []
untaken_in r s (slot ∷ slots) = if is_one_int slot && not (region_takes s r) then s ∷ untaken_in r (s + 1) slots else untaken_in r (s + 1) slots

-- these are the kept variables of the function's code: emission, landing pads and cleanups at exits take no address more, and drop none
abbrev pub VariablesAreChosen : Type 0
VariablesAreChosen = (f : RegionFunction) → kept_slots (function_code f) ≡ take 10 (untaken_in f.body 0 f.slots)
