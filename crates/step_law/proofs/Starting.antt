-- The first state of a run stands.
use Rattle.std.proofs.Common.{◌≡◌, refl, sym, subst, arith, ℕ, zero, suc, ◌+◌, ◌-◌, ◌^◌, ◌≤◌, ◌<◌, inl, ℤ, Bool, true, false, List, [], ◌∷◌, Some, None, if◌then◌else◌}
use Rattle.std.specs.Prelude.{◌==◌}
use Rattle.eh_outer.specs.declared.module.Reply.{Reply}
use Rattle.cxx_ast.specs.Plain.{Checked}
use Rattle.elf_image.specs.Clean.{CleanImage}
use Rattle.image_forms.specs.Placed.{code_at}
use Rattle.cxa_runtime.specs.World as abi
use Rattle.eh_run.specs.Program.{program_of}
use Rattle.region_forms.specs.Meaning.{first_world}
use Rattle.region_forms.specs.World.{Base, of_global, of_variable, of_exception, World}
use Rattle.linear_forms.specs.Stub.{compiled}
use Rattle.linear_forms.specs.Activation.{State}
use Rattle.linear_forms.specs.UnitRun.{first_state}
use Rattle.flight_homes.specs.Keeps.{Carrying, Carried}
use Rattle.linear_invariant.specs.Forced.{forced_carried, or_else}
use Rattle.linear_invariant.proofs.Steps.{first_stands}
use Rattle.source_bounds.specs.Compiled.{unit_for, emitted_for}
use Rattle.machine_simulation.specs.Plan.{Plan, function, shape}
use Rattle.machine_simulation.specs.Beginning.{plan_before}
use Rattle.machine_simulation.specs.Calls.{stack_end}
use Rattle.machine_simulation.specs.Matches.{FrameIs, Matches}
use Rattle.machine_simulation.specs.Objects.{is_object}
use Rattle.runtime_invariant.proofs.Memory.{runs_keep_memory}
use Rattle.address_bounds.specs.Reaches.{exception_bytes}
use Rattle.address_invariant.specs.Extents.{extents_of}
use Rattle.address_invariant.specs.Reaching.{ObjectsReach, Reaches}
use Rattle.address_invariant.proofs.Plans.{plans_go_on}
use Rattle.compiled_runs.specs.Given.{IsGiven}
use Rattle.compiled_runs.specs.Starts.{plan_of_main, Started}
use Rattle.kept_selectors.proofs.Ends.{first_selectors}
use Rattle.step_law.specs.Facts.{regions_for, needs_for, Facts}
use Rattle.step_law.specs.Standing.{IsAimed, StandsBy}
use Rattle.step_law.specs.Starts.{StartsStand}
use Rattle.step_law.proofs.Handled.{first_handled}
use Rattle.step_law.proofs.Resized.{resized, resized_matches}

-- No exception has number 0, and nothing is asked of its bytes: here it has as many as every other.
abbrev sized : (Base → ℕ) → Base → ℕ
sized size b = if is_object 0 b then exception_bytes else size b

abbrev zero_bytes : Bool → ℕ
zero_bytes b = if b then exception_bytes else 4

module _ (p : Checked) (i : CleanImage) (k : Carrying) (tables : ℕ → ℕ) (input : List ℕ) (replies : List (List Reply)) (f : Facts p i k tables) (given : IsGiven input replies) (s : Started p i tables input replies) where
  abbrev first : State
  first = first_state (unit_for p) input replies

  abbrev main : ℕ
  main = (unit_for p).main

  abbrev start : Plan
  start = plan_before (unit_for p) (code_at (emitted_for p)) tables

  abbrev q : Plan
  q = resized (plan_of_main p tables) (sized (plan_of_main p tables).size)

  -- nothing of an exception is live
  live_sized : (b : Base) → (plan_of_main p tables).live b ≡ true → sized (plan_of_main p tables).size b ≡ (plan_of_main p tables).size b
  live_sized (of_global g) live = refl
  live_sized (of_variable c n) live = refl
  live_sized (of_exception e) live = absurd (cc live)

  placed : (e : ℕ) → (plan_of_main p tables).at (of_exception e) + sized (plan_of_main p tables).size (of_exception e) < 2 ^ 64
  placed e = by (0 == e)
    where
      by : (b : Bool) → 0 + (if b then 0x1000 else 4) < 2 ^ 64
      by true = omega arith
      by false = omega arith

  matches : Matches q first s.after
  matches = resized_matches (plan_of_main p tables) (sized (plan_of_main p tables).size) live_sized (λ c n. refl) first s.after refl placed s.matches

  -- main's variables
  abbrev rest : Plan
  rest = resized start (sized start.size)

  first_objects : (v : World) → v.last_number ≡ 0 → ObjectsReach (extents_of rest) v
  first_objects v none = record { globals = λ g. (refl, omega arith); exceptions = λ e less. (refl, zero_sized e (omega (arith, none, less))) }
    where
      zero_sized : (e : ℕ) → e ≤ 0 → zero_bytes (0 == e) ≡ exception_bytes
      zero_sized zero less = refl
      zero_sized (suc e) less = absurd (omega (arith, less))

  main_frame : FrameIs (function rest main)
  main_frame =
      let same : compiled s.matches.number ≡ compiled main = sym s.matches.runs in
      let one : s.matches.number ≡ main = cc same in
      subst (λ n. FrameIs (function rest n)) one (s.matches.memory.unit.frames s.matches.number s.matches.memory.top.known)

  reach : Reaches (extents_of q) (unit_for p) (needs_for p) first
  reach =
      let opens = plans_go_on.called rest main (stack_end - (shape start main).size) (first_world (unit_for p).globals input replies) first main_frame
      (first_objects (first_world (unit_for p).globals input replies) refl) refl refl in
      record {
        objects = record { globals = λ g. (refl, omega arith); exceptions = λ e less. (refl, sized_zero e less) };
        calls = (record { begun = omega arith; variables = λ n slot there is. opens.opened refl n slot there is; held = λ n b e. absurd (cc e) }, tt);
      }
    where
      sized_zero : (e : ℕ) → e ≤ 0 → zero_bytes (0 == e) ≡ exception_bytes
      sized_zero zero less = refl
      sized_zero (suc e) less = absurd (omega (arith, less))

  -- what main would carry, if it did
  abbrev carried_here : Carried
  carried_here = record { word = first.top.frame.slots (k.object main); home = k.home main 0; number = first.top.frame.slots (k.selector main); left = k.left main 0 }

  stands : StandsBy p i k tables q s.turns first s.after
  stands = record {
    unit = refl;
    base = refl;
    tables_are = refl;
    rests = inl matches;
    frozen = runs_keep_memory.turns (program_of i).image s.turns (abi.begins (program_of i).hart input replies) s.after [] s.runs;
    steps = 0;
    stands = first_stands (regions_for p) k (IsAimed q (first.top ∷ first.frames) s.after) input replies f.fits (record { bytes = given.bytes; few = given.few; fit = given.ints });
    founded = (main, refl);
    selectors = first_selectors (unit_for p) k input replies f.fits.carries;
    handlers = first_handled p input replies;
    few = omega arith;
    reaches = reach;
    hides = λ none. refl;
    hidden = omega arith;
    once = omega arith;
    forced = λ z is. none_forced z (k.carries main 0) (carried_here) (f.fits.carries.first main) is;
  }
    where
      none_forced : (z : ℤ) (b : Bool) (c : Carried) → b ≡ false → or_else (forced_carried (if b then Some c else None)) None ≡ Some z → s.after.unwinding ≡ Some z
      none_forced z true c off e = absurd (cc off)
      none_forced z false c off e = absurd (cc e)

pub starts_stand : StartsStand
starts_stand p i k tables input replies f given s = (q p i k tables input replies f given s, stands p i k tables input replies f given s)
