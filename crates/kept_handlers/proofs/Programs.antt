-- The linear code of each program in step goes on with no more handlers than there are.
use Rattle.std.proofs.Common.{◌≡◌, ℕ, true, Option, Some, None, refl, sym, ap, subst}
use Rattle.std.specs.Prelude.{slice_get, ◌&&◌}
use Rattle.region_forms.specs.Form.{RegionFunction, Regions}
use Rattle.linear_forms.specs.Linear.{LinearOp}
use Rattle.linear_forms.specs.Stub.{compiled, linear}
use Rattle.linear_forms.specs.Activation.{Code, fetch, compiled_op}
use Rattle.linear_forms.specs.Unit.{unit_of}
use Rattle.linear_forms.specs.UnitRun.{code_at, code_of}
use Rattle.flight_homes.proofs.Programs.{every_one, code_is}
use Rattle.linear_invariant.proofs.Starts.{empty, no_code_there}
use Rattle.kept_handlers.specs.Depths.{Depths, CodeOpens}
use Rattle.kept_handlers.specs.Left.{is_even, region_in_step, are_in_step}
use Rattle.kept_handlers.specs.Code.{ProgramsOpen}
use Rattle.kept_handlers.proofs.Scanning.{elsewhere}
use Rattle.kept_handlers.proofs.Functions.{scan_first, open_at, FunctionOpens, functions_open}

compiled_is : (x : Option LinearOp) (o : LinearOp) → compiled_op x ≡ Some (linear o) → x ≡ Some o
compiled_is None o e = absurd (cc e)
compiled_is (Some y) o e = let same : y ≡ o = cc e in ap (λ z. Some z) same

module _ (r : Regions) (step : are_in_step r ≡ true) where
  abbrev code : Code
  code = code_of (unit_of r)

  -- the function that has an operation there is open
  opens_there : (n p : ℕ) (o : LinearOp) → slice_get (code_at (unit_of r) n).ops p ≡ Some o → FunctionOpens (code_at (unit_of r) n)
  opens_there n p o e = go (slice_get r.functions n) refl
    where
      go : (f : Option RegionFunction) → slice_get r.functions n ≡ f → FunctionOpens (code_at (unit_of r) n)
      go None i = empty p o (subst (λ g. slice_get g.ops p ≡ Some o) (no_code_there r n i) e)
      go (Some f) i = subst FunctionOpens (sym (code_is r n f i)) (functions_open f (every_one (λ f. is_even f.body && region_in_step f.body) r.functions n f step i))

  abbrev depths : Depths
  depths n p = open_at (code_at (unit_of r) n) p

  is_there : (n p : ℕ) (o : LinearOp) → fetch code (compiled n) p ≡ Some (linear o) → slice_get (code_at (unit_of r) n).ops p ≡ Some o
  is_there n p o e = compiled_is (slice_get (code_at (unit_of r) n).ops p) o e

  code_opens : CodeOpens code depths
  code_opens = record {
    first = λ n. ap (λ s. s.many) (scan_first (elsewhere 0) (code_at (unit_of r) n).ops);
    next = λ n p o e. let there = is_there n p o e in (opens_there n p o there).next p o there;
    jump = λ n p l o e. let there = is_there n p o e in (opens_there n p o there).jump p l o there;
    behind = λ n p pad chain o e. let there = is_there n p o e in (opens_there n p o there).behind p pad chain o there;
  }

pub programs_open : ProgramsOpen
programs_open r step = (depths r step, code_opens r step)
