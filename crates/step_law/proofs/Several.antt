-- Several steps that raise nothing, in a whole run.
use Rattle.std.proofs.Common.{◌≡◌, ◌∙◌, sym, ap, subst, arith, ℕ, inl, inr, ℤ, List, ◌∷◌, Option, Some, None}
use Rattle.cxa_runtime.specs.World as abi
use Rattle.meaning_forms.specs.Outcome.{End}
use Rattle.eh_run.specs.Program.{program_of}
use Rattle.region_forms.specs.World.{Word, World}
use Rattle.linear_forms.specs.Linear.{pad}
use Rattle.linear_forms.specs.Stub.{Function, CodeOp, linear}
use Rattle.linear_forms.specs.Activation.{Activation, State, Code, goes_to, finishes, Final, by_program, fault}
use Rattle.linear_forms.specs.Machine.{step, go_on, exec}
use Rattle.linear_forms.specs.Pace.{pays_at, one_if, Leads, LeadsOn}
use Rattle.linear_forms.specs.Unwinding.{pad_entered}
use Rattle.region_forms.specs.World.{Frame}
use Rattle.linear_forms.proofs.Paces
use Rattle.linear_invariant.specs.Calls.{unmarked}
use Rattle.linear_invariant.specs.Forced.{newest_forced, ForcedStays}
use Rattle.linear_invariant.specs.Stands.{StandsIn}
use Rattle.linear_invariant.proofs.ForcedRuns.{steps_keep_forced}
use Rattle.flight_homes.specs.Lives.{known_in}
use Rattle.whole_runs.proofs.Staying.{once_stays}
use Rattle.whole_runs.specs.Steps.{Breaks}
use Rattle.step_law.specs.Facts.{regions_for, code_for, Facts}
use Rattle.step_law.specs.Rows.{Run}
use Rattle.step_law.proofs.Keeping.{IsCalm, CalmAt}

-- a pad that is none is a fault
pub no_pad_faults : (op : Option CodeOp) (x : Word) (n : ℤ) (f : Function) (p : ℕ) (frame : Frame) (outer : List Activation) (w v : World) (e : Final) → pad_entered op x n f p frame outer w ≡ finishes e v → e ≡ fault
no_pad_faults (Some (linear (pad o s))) x n f p frame outer w v e h = absurd (cc h)
no_pad_faults op x n f p frame outer w v e h = cc h

-- where one step leads to a state, it is that
pub led_to : (code : Code) (st middle between : State) → step code st ≡ goes_to middle → Leads code 1 st (goes_to between) → middle ≡ between
led_to code st middle between h leads = let there = subst (LeadsOn 0 (λ m. Leads code 0 m (goes_to between)) (goes_to between)) h leads in cc there

pub led_twice : (code : Code) (st first second between : State) → step code st ≡ goes_to first → step code first ≡ goes_to second → Leads code 2 st (goes_to between) → second ≡ between
led_twice code st first second between h i leads = let there = subst (LeadsOn 1 (λ m. Leads code 1 m (goes_to between)) (goes_to between)) h leads in led_to code first second between i there

-- the forced unwind that goes on next is that which was, or none
pub forced_behind : (x : Run) (facts : Facts x.program x.image x.carrying x.tables) (steps : ℕ) (st next : State) → StandsIn (unmarked (known_in (regions_for x.program))) (code_for x.program) x.carrying steps st → step (code_for x.program) st ≡ goes_to next →
    CalmAt (code_for x.program) st → (before : Option ℤ) → ((z : ℤ) → newest_forced x.carrying None (st.top ∷ st.frames) ≡ Some z → before ≡ Some z) → (after : Option ℤ) → after ≡ before →
    (z : ℤ) → newest_forced x.carrying None (next.top ∷ next.frames) ≡ Some z → after ≡ Some z
forced_behind x facts steps st next inv h calm before was after same z now = by (steps_keep_forced (regions_for x.program) x.carrying steps st next facts.fits inv h)
  where
    by : ForcedStays (code_for x.program) x.carrying st next → after ≡ Some z
    by (inl none) = let no : None ≡ Some z = sym none ∙ now in absurd (cc no)
    by (inr (inl stays)) = same ∙ was z (sym stays ∙ now)
    by (inr (inr (y, begins, is))) = absurd (subst IsCalm begins.begins (calm begins.op begins.runs))

-- what is not defined comes behind a step that is not paid
pub breaks_behind : (x : Run) (st middle : State) (w : abi.World) (how : Final) (v : World) → step (code_for x.program) st ≡ goes_to middle → step (code_for x.program) middle ≡ finishes how v → one_if (pays_at (code_for x.program) st) ≡ 0 →
    one_if (pays_at (code_for x.program) middle) ≡ 0 → ((why : End) → how ≡ by_program why → ⊥) → Breaks (program_of x.image).image x.pick (code_for x.program) st w
breaks_behind x st middle w how v first second free also no_end = record {
  steps = 2;
  how = how;
  world = v;
  over = ap (go_on (exec (code_for x.program) 1)) first ∙ ap (go_on (exec (code_for x.program) 0)) second;
  stays = once_stays (program_of x.image).image x.pick (code_for x.program) 2 st w (omega (arith, Paces.tally_step (code_for x.program) (pays_at (code_for x.program)) 1 st middle first, Paces.tally_once (code_for x.program) (pays_at (code_for x.program)) middle, free, also));
  no_end = no_end;
  few = (let two = Paces.tally_step (code_for x.program) (pays_at (code_for x.program)) 1 st middle first in let last = Paces.tally_once (code_for x.program) (pays_at (code_for x.program)) middle in omega (arith, two, last, free, also));
}
