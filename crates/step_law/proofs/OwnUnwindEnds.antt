-- Forced unwinds that go on from one of the runtime's own functions and come to no landing pad, in a whole run: the program exits or aborts.
use Rattle.std.proofs.Common.{◌≡◌, ◌∙◌, refl, sym, ap, subst, arith, ℕ, ◌+◌, ◌≤◌, inl, inr, ℤ, false, [], append-nil, None}
use Rattle.cxa_runtime.specs.Raising.{Image}
use Rattle.cxa_runtime.specs.World as abi
use Rattle.cxa_runtime.specs.declared.effect.End.TheVariants.{Aborted, Exit}
use Rattle.eh_run.specs.Program.{program_of}
use Rattle.meaning_forms.specs.Outcome.{End, exit, aborted}
use Rattle.meaning_forms.specs.World.{Installed}
use Rattle.region_forms.specs.World.{World}
use Rattle.linear_forms.specs.Stub.{Function, compiled, end_catch, terminating, call_unexpected}
use Rattle.linear_forms.specs.Activation.{State, Code, Next, Final, goes_to, finishes, by_program, terminated}
use Rattle.linear_forms.specs.Machine.{step, exec, go_on}
use Rattle.linear_forms.specs.Pace.{pays_at, paying}
use Rattle.linear_forms.specs.UnitRun.{code_of}
use Rattle.machine_stubs.specs.Stretches.{stub_word}
use Rattle.machine_simulation.specs.Plan.{Plan}
use Rattle.raise_ends.specs.Ends.{RunEnds, LinearEnds}
use Rattle.own_ends.specs.Resumes.{CatchFreesOnTheWay}
use Rattle.own_ends.specs.Unwinds.{last_state, last_items, last_turns, OwnUnwindsEnd}
use Rattle.whole_runs.proofs.Counts.{at_most, aborts_once}
use Rattle.whole_runs.proofs.Staying.{once_stays}
use Rattle.step_law.specs.Facts.{code_for}
use Rattle.step_law.specs.Own.{StandsAt}
use Rattle.step_law.specs.OwnUnwindEnds.{OwnUnwindsEndFollow}
use Rattle.step_law.specs.Rows.{Run, FollowsIn}
use Rattle.step_law.proofs.Facing.{runs_image}
use Rattle.step_law.proofs.ForcedEnds.{forced_terminates, finished_once}
use Rattle.step_law.proofs.GoingOff.{GoesOff, goes_off, off_forces, off_quiet}
use Rattle.step_law.proofs.OwnLeaving.{own_same}

-- few turns lead to the end of the function's last operation
last_few : (f : Function) → last_turns f ≤ 8
last_few (compiled n) = omega arith
last_few end_catch = omega arith
last_few terminating = omega arith
last_few call_unexpected = omega arith

module _ (x : Run) (q : Plan) (before : ℕ) (f : Function) (z : ℤ) (st : State) (w : abi.World) (at : StandsAt x q before st w) (g : GoesOff x q f z st w) (law : OwnUnwindsEnd) where
  abbrev code : Code
  code = code_for x.program

  abbrev own : Code
  own = code_of q.unit

  abbrev image : Image
  image = (program_of x.image).image

  abbrev last : State
  last = last_state f st

  in_own : (n : Next) → step code last ≡ n → step own last ≡ n
  in_own n e = ap (λ c. step c last) (own_same x q before st w at) ∙ e

  exits_by : (k : ℤ) (v : World) → step code last ≡ finishes (by_program (exit k)) v → (j : ℕ) → last_turns f ≤ j → (k ≡ z) × (v ≡ last.world) × RunEnds image x.pick j w (last_items f st) (Exit z)
  exits_by k v e j many = law.exits x.image x.pick j q f z k st v w g.unwinds (runs_image x q before st w at.facts at.stands) (in_own (finishes (by_program (exit k)) v) e) many

  exits : (k : ℤ) (v : World) → step code last ≡ finishes (by_program (exit k)) v → FollowsIn x before st w
  exits k v e =
      let first = exits_by k v e (last_turns f) (omega arith) in
      let few = at_most code 1 last in
      let paid = g.paid 1 in
      inr (inl (record {
        steps = g.more 1;
        why = exit k;
        world = v;
        over = g.runs_on 1 ∙ ap (go_on (exec code 0)) e;
        stays = once_stays image x.pick code (g.more 1) st w (omega (arith, few, paid));
        items = last_items f st;
        shows = ap (λ (u : World). u.items) first.1 ∙ g.shows;
        ends = record {
          turns = last_turns f;
          shows = λ j many. (exits_by k v e j many).2.0;
          ends = λ j many. (exits_by k v e j many).2.1 ∙ ap Exit (sym first.0);
        };
        few = let most = last_few f in omega (arith, most);
      }))

  -- both abort
  both_abort : (turns : ℕ) → turns ≤ 64 → paying own 3 last ≤ 1 → ((j : ℕ) → turns ≤ j → LinearEnds q 3 last [] aborted × RunEnds image x.pick j w (last_items f st) Aborted) → FollowsIn x before st w
  both_abort turns least once abort =
      let first = abort turns (omega arith) in
      let few : paying code 3 last ≤ 1 = subst (λ c. paying c 3 last ≤ 1) (own_same x q before st w at) once in
      let paid = g.paid 3 in
      inr (inl (record {
        steps = g.more 3;
        why = aborted;
        world = first.0.0;
        over = g.runs_on 3 ∙ ap (λ c. exec c 3 last) (sym (own_same x q before st w at)) ∙ first.0.1;
        stays = once_stays image x.pick code (g.more 3) st w (omega (arith, few, paid));
        items = last_items f st;
        shows = first.0.2 ∙ append-nil last.world.items ∙ g.shows;
        ends = record { turns = turns; shows = λ j many. (abort j many).1.0; ends = λ j many. (abort j many).1.1 };
        few = omega (arith, least);
      }))

  ends_by : (why : End) (v : World) → step code last ≡ finishes (by_program why) v → FollowsIn x before st w
  ends_by (exit k) v e = exits k v e
  ends_by aborted v e =
      let goes = in_own (finishes (by_program aborted) v) e in
      both_abort (last_turns f) (let few = last_few f in omega (arith, few)) (finished_once own last (by_program aborted) v goes)
      (λ j many. law.aborts_again x.image x.pick j q f z st v w g.unwinds (runs_image x q before st w at.facts at.stands) goes many)

  -- no handler is in effect
  aborts_without : (next : State) → step code last ≡ goes_to next → next.top.function ≡ terminating → last.world.installed.terminate_handler ≡ None → FollowsIn x before st w
  aborts_without next e ends none =
      let goes = in_own (goes_to next) e in
      let forces = off_forces x q before z st w at f g in
      let t = forced_terminates code z last.world next ends last.top last.frames (sym forces ∙ e) in
      let quiet : pays_at own last ≡ false = ap (λ c. pays_at c last) (own_same x q before st w at) ∙ off_quiet x q before z st w at f g in
      let named : image.places.terminate ≡ stub_word q.base terminating 0 = at.facts.named ∙ ap (λ b. stub_word b terminating 0) (sym at.stands.base) in
      both_abort (last_turns f + 7) (let few = last_few f in omega (arith, few)) (aborts_once own last last.world.installed.terminate_handler t.0 last.world quiet (in_own (terminated last.world.installed.terminate_handler t.0 last.world) (forces ∙ t.1)) (inr none))
      (λ j many. law.aborts_without x.image x.pick j q f z st next w g.unwinds (runs_image x q before st w at.facts at.stands) g.called goes ends named none many)

-- what is not defined, or a fault
module _ (x : Run) (q : Plan) (before : ℕ) (f : Function) (z : ℤ) (st : State) (w : abi.World) (at : StandsAt x q before st w) (g : GoesOff x q f z st w) where
  breaks_by : (how : Final) (v : World) → step (code_for x.program) (last_state f st) ≡ finishes how v → ((why : End) → how ≡ by_program why → ⊥) → FollowsIn x before st w
  breaks_by how v e no_end =
      let few = at_most (code_for x.program) 1 (last_state f st) in
      let paid = g.paid 1 in
      inr (inr (inr (record {
        steps = g.more 1;
        how = how;
        world = v;
        over = g.runs_on 1 ∙ ap (go_on (exec (code_for x.program) 0)) e;
        stays = once_stays (program_of x.image).image x.pick (code_for x.program) (g.more 1) st w (omega (arith, few, paid));
        no_end = no_end;
        few = omega (arith, few, paid);
      })))

-- the same handlers are in effect
pub same_handler : (f : Function) (st : State) → (last_state f st).world.installed ≡ st.world.installed
same_handler (compiled n) st = refl
same_handler end_catch st = refl
same_handler terminating st = refl
same_handler call_unexpected st = refl

pub own_unwinds_end_follow : OwnUnwindsEnd → CatchFreesOnTheWay → OwnUnwindsEndFollow
own_unwinds_end_follow law run = record {
  ends = λ x q before f z why st v w at out e. ends_by x q before f z st w at (goes_off x q before z st w at run f out) law why v e;
  aborts = λ x q before f z st next w at out e ends none.
      aborts_without x q before f z st w at (goes_off x q before z st w at run f out) law next e ends (ap (λ (i : Installed). i.terminate_handler) (same_handler f st) ∙ none);
  breaks = λ x q before f z how st v w at out e no_end. breaks_by x q before f z st w at (goes_off x q before z st w at run f out) how v e no_end;
}
