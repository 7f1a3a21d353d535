-- What the laws of raises ask is so in a state that stands.
use Rattle.std.proofs.Common.{◌≡◌, ◌∙◌, sym, ap, subst, ℕ, ◌+◌, ◌<◌, ℤ, true, List, ◌∷◌, length, Option, Some, None, if◌then◌else◌}
use Rattle.meaning_forms.specs.Class.{contains}
use Rattle.rv64_isa.specs.Step as isa
use Rattle.cxa_runtime.specs.World as abi
use Rattle.region_forms.specs.Caught.{Entry}
use Rattle.region_forms.specs.Form.{throw}
use Rattle.region_forms.specs.Lives.{is_built}
use Rattle.region_forms.specs.World.{Exception, building, native, foreign, flying, unwinding, exception_in_slot, exception_at, exception_type, type_at}
use Rattle.linear_forms.specs.Defined.{IsDefined}
use Rattle.linear_forms.specs.Linear.{LinearOp, plain, resume}
use Rattle.linear_forms.specs.Stub.{compiled}
use Rattle.linear_forms.specs.Activation.{State}
use Rattle.linear_forms.specs.Machine.{step}
use Rattle.exceptions_in_flight.specs.Targets.{HasTarget}
use Rattle.flight_homes.specs.Keeps.{Carried, carried_in}
use Rattle.flight_homes.specs.Lives.{ExceptionKnown, known_in}
use Rattle.linear_invariant.specs.Calls.{Marks, WordGoes, FlightGoes}
use Rattle.linear_invariant.proofs.Asked.{throws_are_asked, leaves_are_asked, resumes_are_asked}
use Rattle.linear_invariant.proofs.ForcedRuns.{forced_are_newest}
use Rattle.source_bounds.specs.Compiled.{unit_for}
use Rattle.machine_forms.specs.Registers.{sp}
use Rattle.machine_simulation.specs.Plan.{Plan}
use Rattle.machine_simulation.specs.Calls.{stack_end, open_bytes}
use Rattle.machine_simulation.proofs.Calling.{stack_at}
use Rattle.machine_simulation.proofs.LiveThere.{built_there}
use Rattle.machine_simulation.proofs.Matching.{stands_by}
use Rattle.table_verdicts.specs.Types.{ChainEnds}
use Rattle.image_tables.specs.Functions.{records_end}
use Rattle.image_tables.specs.Read.{IsImageOf}
use Rattle.table_verdicts.specs.Asked.{ListsNameTypes}
use Rattle.machine_exceptions.specs.Enters.{IsThrown}
use Rattle.machine_raises.specs.Forced.{ForcedAsked}
use Rattle.machine_raises.specs.Resumes.{TypeIsThere, ResumeAsked}
use Rattle.machine_raises.specs.Stacks.{table_of, IsRunning}
use Rattle.machine_raises.specs.Throws.{DestructorIsThere, MayThrow}
use Rattle.operation_premises.specs.Static.{DestructorStatic}
use Rattle.step_law.specs.Facts.{regions_for, code_for}
use Rattle.step_law.specs.Standing.{HeaderAims, aims}
use Rattle.step_law.specs.Raises.{RaisesAreAsked}
use Rattle.step_law.specs.Rows.{Run, IsAt}
use Rattle.step_law.proofs.Aiming.{aimed_at}
use Rattle.step_law.proofs.At.{in_unit, is_static, fetches, same_code}
use Rattle.step_law.proofs.Exceptions.{gone_destroyed}
use Rattle.step_law.proofs.Keeping.{unmarked_stands}

pub built_thrown : (y : Exception) → is_built y ≡ true → IsThrown y
built_thrown building h = absurd (cc h)
built_thrown (native t d kept) h = tt
built_thrown (foreign k token) h = tt

module _ (x : Run) (q : Plan) (before n : ℕ) (o : LinearOp) (st : State) (w : abi.World) (at : IsAt x q before n o st w) where
  pub is_running : IsRunning q x.image w.hart
  is_running = record {
    image = subst (λ u. IsImageOf u x.image) (sym at.stands.unit) at.facts.image;
    lists = subst ListsNameTypes (sym at.stands.unit) at.facts.lists;
    base = at.stands.base ∙ ap records_end (sym at.stands.unit);
    tables = λ m less. ap (λ t. t m) at.stands.tables_are ∙ at.facts.tables_are m (subst (λ u. m < length u.functions) at.stands.unit less) ∙ ap (λ u. table_of u x.image m) (sym at.stands.unit);
    run = at.stands.frozen;
  }

  type_there : (t : ℕ) → t < length (unit_for x.program).types → (t < length q.unit.types) × ChainEnds q.unit.types t
  type_there t less = subst (λ u. (t < length u.types) × ChainEnds u.types t) (sym at.stands.unit) (less, at.facts.chains t less)

  known_type : (y : Exception) → ExceptionKnown (known_in (regions_for x.program)) y → TypeIsThere q (exception_type y)
  known_type building h = tt
  known_type (native t d kept) h = type_there t h.0
  known_type (foreign k token) h = tt

  destructor_there : (d : Option ℕ) → DestructorStatic q.unit d → DestructorIsThere q d
  destructor_there None h = tt
  destructor_there (Some m) h = h.known

  pub stack_whole : isa.x w.hart sp + open_bytes q (st.top ∷ st.frames) ≡ stack_end
  stack_whole = stack_at q n st w at.matches.back (stands_by q n st w at.matches at.runs)

  newest_there : (y : Entry) (ys : List Entry) → st.world.caught ≡ y ∷ ys → TypeIsThere q (type_at st.world y.number)
  newest_there y ys is =
      let asked = leaves_are_asked (regions_for x.program) x.carrying at.stands.steps st y ys at.facts.fits (unmarked_stands x.program x.image x.carrying x.tables q before st w at.stands) is in
      known_type (exception_at st.world y.number) asked.exception

module _ (x : Run) (q : Plan) (before n s : ℕ) (st : State) (w : abi.World) where
  module _ (t : ℕ) (d : Option ℕ) (at : IsAt x q before n (plain (throw s t d)) st w) where
    pub may_throw : IsDefined (step (code_for x.program) st) → MayThrow q n st.top.frame s (exception_in_slot st.top.frame s) t d
    may_throw defined =
        let static = is_static x q before n (plain (throw s t d)) st w at in
        let asked = throws_are_asked (regions_for x.program) x.carrying at.stands.steps s t d st at.facts.fits
        (unmarked_stands x.program x.image x.carrying x.tables q before st w at.stands) (fetches x q before n (plain (throw s t d)) st w at) defined in
        let there = type_there x q before n (plain (throw s t d)) st w at t (subst (λ u. t < length u.types) at.stands.unit static.1) in
        record {
          holds = record { inside = static.0.inside; near = static.0.near; is = asked.has.object };
          type = there.0;
          bases = there.1;
          destructor = destructor_there x q before n (plain (throw s t d)) st w at d static.2;
        }

  module _ (at : IsAt x q before n (resume s) st w) where
    -- what the call carries there is in the slot
    carried_word : (e d : ℕ) → st.top.frame.slots s ≡ flying e d → HeaderAims q (st.top ∷ st.frames) w e d
    carried_word e d is =
        let at_resume = at.facts.fits.carries.resumes n st.top.place s (in_unit x q before n (resume s) st w at) in
        let word : st.top.frame.slots (x.carrying.object n) ≡ flying e d = ap st.top.frame.slots (sym at_resume.1) ∙ is in
        let goes : FlightGoes marks (code_for x.program) st.top st.frames (carried_in x.carrying (compiled n) st.top) st.world =
        subst (λ f. FlightGoes marks (code_for x.program) st.top st.frames (carried_in x.carrying f st.top) st.world) at.runs at.stands.stands.calls.0.carries in
        let some : FlightGoes marks (code_for x.program) st.top st.frames (Some carried_here) st.world =
        subst (λ b. FlightGoes marks (code_for x.program) st.top st.frames (if b then Some carried_here else None) st.world) at_resume.0 goes in
        (subst (λ y. WordGoes marks (code_for x.program) st.top st.frames carried_here y st.world) word some).1
      where
        marks : Marks
        marks = aims x.program q (st.top ∷ st.frames) w

        carried_here : Carried
        carried_here = record {
          word = st.top.frame.slots (x.carrying.object n);
          home = x.carrying.home n st.top.place;
          number = st.top.frame.slots (x.carrying.selector n);
          left = x.carrying.left n st.top.place;
        }

    pub resume_asked : (e d : ℕ) → st.top.frame.slots s ≡ flying e d → ResumeAsked q n st w s e d
    resume_asked e d is =
        let static = is_static x q before n (resume s) st w at in
        let goes = resumes_are_asked (regions_for x.program) x.carrying at.stands.steps s st at.facts.fits
        (unmarked_stands x.program x.image x.carrying x.tables q before st w at.stands) (fetches x q before n (resume s) st w at) in
        let asked = goes.asked e d is in
        record {
          inside = static.inside;
          near = static.near;
          is = is;
          exception = exception_at st.world e;
          travels = record {
            live = built_there st.world.live e asked.flight.can;
            thrown = built_thrown (exception_at st.world e) asked.flight.can;
            whole = ap (λ es. contains es e) (gone_destroyed st.frames) ∙ asked.flight.whole;
            type = known_type x q before n (resume s) st w at (exception_at st.world e) asked.flight.exception;
          };
          target = subst (λ c. HasTarget c (type_at st.world e) d (st.top ∷ st.frames)) (sym (same_code x q before n (resume s) st w at)) asked.target;
          aimed = aimed_at (code_for x.program) (type_at st.world e) q (st.top ∷ st.frames) w e d (isa.x w.hart sp) (carried_word e d is) asked.aims (stack_whole x q before n (resume s) st w at);
        }

    pub forced_asked : (z : ℤ) → st.top.frame.slots s ≡ unwinding z → ForcedAsked q n st w s z
    forced_asked z is =
        let static = is_static x q before n (resume s) st w at in
        record {
          inside = static.inside;
          near = static.near;
          is = is;
          on = at.stands.forced z (forced_are_newest (regions_for x.program) x.carrying at.stands.steps s z st at.facts.fits
              (unmarked_stands x.program x.image x.carrying x.tables q before st w at.stands) (fetches x q before n (resume s) st w at) is);
        }

pub raises_are_asked : RaisesAreAsked
raises_are_asked = record {
  running = λ x q before n o st w at. is_running x q before n o st w at;
  pads = λ x q before n o st w at. (at.facts.pads q at.stands.unit, at.facts.filters q at.stands.unit);
  throws = λ x q before n s t d st w at defined. may_throw x q before n s st w t d at defined;
  newest = λ x q before n o st w y ys at is. newest_there x q before n o st w at y ys is;
  resumes = λ x q before n s e d st w at is. resume_asked x q before n s st w at e d is;
  forced = λ x q before n s z st w at is. forced_asked x q before n s st w at z is;
}
