-- What is asked of the operations, values, cleanups, clauses and exception specifications of a region, wherever they stand in it.
use Rattle.std.specs.Prelude.{Bool, true, ◌&&◌, ◌==◌, nat_lt, length, List}
use Rattle.region_forms.specs.Form.{Slot, Region, seq, op, branch, loop, protect, catch, limit, barrier, leave_region, RegionList, no_regions, region_then, Clauses, no_clauses, clause_then, Regions, function_at}
use Rattle.region_forms.specs.WellFormed.{every, slot_test, is_help, pure_value, op_test, cleanup_test, clause_type_test}

abbrev mutual
  pub leaves_test : Regions → List Slot → Region → Bool
  leaves_test r slots (seq rs) = all_leaves_test r slots rs
  leaves_test r slots (op o) = op_test r slots o
  leaves_test r slots (branch v a b) = pure_value r slots v && (leaves_test r slots a && leaves_test r slots b)
  leaves_test r slots (loop v a) = pure_value r slots v && leaves_test r slots a
  leaves_test r slots (protect a c) = cleanup_test r slots c && leaves_test r slots a
  leaves_test r slots (catch a cs) = leaves_test r slots a && clause_leaves_test r slots cs
  leaves_test r slots (limit a types) = every (λ t. nat_lt t (length r.types)) types && leaves_test r slots a
  leaves_test r slots (barrier a) = leaves_test r slots a
  leaves_test r slots (leave_region n) = true

  pub all_leaves_test : Regions → List Slot → RegionList → Bool
  all_leaves_test r slots no_regions = true
  all_leaves_test r slots (region_then a rs) = leaves_test r slots a && all_leaves_test r slots rs

  pub clause_leaves_test : Regions → List Slot → Clauses → Bool
  clause_leaves_test r slots no_clauses = true
  clause_leaves_test r slots (clause_then t s a cs) =
      clause_type_test r t && (slot_test is_help slots s && (leaves_test r slots a && clause_leaves_test r slots cs))

-- those of a program's functions
abbrev pub program_leaves_test : Regions → Bool
program_leaves_test r = every (λ f. leaves_test r f.slots f.body) r.functions

-- main is there and has no parameters
abbrev pub main_test : Regions → Bool
main_test r = nat_lt r.main (length r.functions) && ((function_at r r.main).parameters == 0)
