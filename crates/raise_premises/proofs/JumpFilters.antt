-- The number of each jump on a filter is an int.
use Rattle.std.proofs.Common.{◌≡◌, ℕ, ◌+◌, ◌≤◌, ◌-◌, ℤ, Bool, true, false, List, [], ◌∷◌, map, length, Option, Some, sym, subst, arith}
use Rattle.std.specs.Prelude.{◌^◌, ◌==◌, pos, negsuc, slice_get, if◌then◌else◌}
use Rattle.std.specs.List.{AllByRecursion}
use Rattle.std.proofs.lemmas.Bool.Decides.{nat_tests}
use Rattle.region_forms.specs.Form.{RegionFunction}
use Rattle.region_forms.specs.Layout.{layout_of}
use Rattle.region_forms.specs.LowerProgram.{regions_of}
use Rattle.linear_forms.specs.Distinct.{same_list}
use Rattle.linear_forms.specs.Emission.{quiet}
use Rattle.linear_forms.specs.Code.{region_code}
use Rattle.linear_forms.specs.Filters.{table_type, index_of, indices_of, byte_of_list}
use Rattle.linear_forms.specs.Linear.{FunctionCode, jump_filter, return}
use Rattle.linear_forms.specs.Tables.{unpadded, list_bytes}
use Rattle.linear_forms.specs.Unit.{emitting, placed_code, function_code}
use Rattle.linear_forms.specs.UnitRun.{no_code, code_at}
use Rattle.flight_homes.specs.Filters.{bytes_of_lists}
use Rattle.machine_pieces.specs.Numbers.{IsInt}
use Rattle.source_bounds.specs.Compiled.{unit_for}
use Rattle.source_bounds.proofs.Lists.{at_or, both_all}
use Rattle.raise_premises.specs.Premises.{HasFew, CheckedTablesAreFew, CheckedJumpsAreInts}
use Rattle.raise_premises.proofs.Jumps.{JumpIs, JumpsAre, jump_at, region_is}

-- the index of a type is at most one behind the last
index_within : (n : ℕ) (ms : List ℕ) → index_of n ms ≤ length ms + 1
index_within n [] = omega arith
index_within n (m ∷ ms) = go (n == m) (index_within n ms)
  where
    go : (b : Bool) → index_of n ms ≤ length ms + 1 → (if b then 1 else index_of n ms + 1) ≤ length (m ∷ ms) + 1
    go true h = omega arith
    go false h = omega (arith, h)

-- a list begins at a byte of the lists, or at their end
byte_within : (l : List ℕ) (lists : List (List ℕ)) → byte_of_list l lists ≤ bytes_of_lists lists
byte_within l [] = omega arith
byte_within l (m ∷ ms) = go (same_list l m) (byte_within l ms)
  where
    go : (b : Bool) → byte_of_list l ms ≤ bytes_of_lists ms → (if b then 0 else list_bytes m + byte_of_list l ms) ≤ list_bytes m + bytes_of_lists ms
    go true h = omega arith
    go false h = omega (arith, h)

index_fits : (k : ℕ) → k ≤ 2 ^ 31 - 1 → IsInt (pos k)
index_fits k less = grind (arith, nat_tests, less)

byte_fits : (k : ℕ) → k ≤ 2 ^ 31 - 1 → IsInt (negsuc k)
byte_fits k less = grind (arith, nat_tests, less)

-- the jumps of a function
abbrev FunctionJumps : FunctionCode → Type 0
FunctionJumps g = (place s l : ℕ) (filter : ℤ) → slice_get g.ops place ≡ Some (jump_filter s filter l) → IsInt filter

none_jump : FunctionJumps no_code
none_jump place s l filter e = absurd (cc e)

module _ (f : RegionFunction) (few : HasFew (function_code f)) where
  clause_fits : (t : Option ℕ) → IsInt (pos (index_of (table_type t) (function_code f).types))
  clause_fits t = index_fits (index_of (table_type t) (function_code f).types) (omega (arith, index_within (table_type t) (function_code f).types, few.types))

  list_fits : (types : List ℕ) → IsInt (negsuc (byte_of_list (indices_of (function_code f).types types) (function_code f).lists))
  list_fits types = let l = indices_of (function_code f).types types in byte_fits (byte_of_list l (function_code f).lists) (omega (arith, byte_within l (function_code f).lists, few.lists))

  function_jumps : FunctionJumps (function_code f)
  function_jumps place s l filter e =
      let em = emitting f in
      let body = region_code em unpadded [] 0 0 f.body in
      let all : JumpsAre IsInt (placed_code f) = both_all (λ x. JumpIs IsInt x.op) body (quiet (return f.result) ∷ []) (region_is IsInt em clause_fits list_fits f.body unpadded [] 0 0) (tt, tt) in
      jump_at IsInt (placed_code f) place s l filter all e

all_jump : (fs : List RegionFunction) → AllByRecursion HasFew (map function_code fs) → AllByRecursion FunctionJumps (map function_code fs)
all_jump [] few = tt
all_jump (f ∷ fs) few = (function_jumps f few.0, all_jump fs few.1)

pub jumps_are_ints : CheckedTablesAreFew → CheckedJumpsAreInts
jumps_are_ints few p checked q e n place s l filter =
    let all = all_jump (regions_of p (layout_of p)).functions (few p checked) in
    let here : (m : ℕ) → FunctionJumps (code_at (unit_for p) m) = λ m. at_or FunctionJumps (unit_for p).functions m no_code all none_jump in
    subst (λ u. (m : ℕ) → FunctionJumps (code_at u m)) (sym e) here n place s l filter
