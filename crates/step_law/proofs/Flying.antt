-- What one of the runtime's own functions carries outwards is as its laws ask.
use Rattle.std.proofs.Common.{◌≡◌, ◌∙◌, arith, sym, ap, subst, ℕ, ◌+◌, inl, inr, true, ◌⊎◌, List, [], ◌∷◌, length, Some, None, if◌then◌else◌}
use Rattle.meaning_forms.specs.Class.{contains}
use Rattle.rv64_isa.specs.Step as isa
use Rattle.cxa_runtime.specs.World as abi
use Rattle.region_forms.specs.Lives.{is_built}
use Rattle.region_forms.specs.World.{flying, Exception, building, native, foreign, exception_at, type_at}
use Rattle.linear_forms.specs.Stub.{Function}
use Rattle.linear_forms.specs.Activation.{Activation, State, Code}
use Rattle.exceptions_in_flight.specs.Targets.{AimsAt, HasTarget}
use Rattle.exceptions_in_flight.proofs.Targets.{aims_have_targets}
use Rattle.flight_homes.specs.Homes.{is_one_of}
use Rattle.flight_homes.specs.Keeps.{Carried, carried_in, stub_carried, stub_carries, stub_home, is_help_in, gone}
use Rattle.linear_invariant.specs.Asked.{FlightAsked}
use Rattle.linear_invariant.specs.Calls.{IsOther, Marks, OnItsWay, WordGoes, FlightGoes}
use Rattle.linear_invariant.proofs.Asked.{both_none, flight_asked}
use Rattle.flight_homes.specs.Keeps.{destroyed_in}
use Rattle.machine_forms.specs.Registers.{sp}
use Rattle.machine_simulation.specs.Plan.{Plan}
use Rattle.machine_stubs.specs.Stretches.{frame_size}
use Rattle.machine_simulation.specs.Calls.{stack_end, frame_of, open_bytes}
use Rattle.machine_simulation.proofs.LiveThere.{built_there}
use Rattle.machine_exceptions.specs.Enters.{IsThrown}
use Rattle.stub_landings.specs.Rests.{StubMemory}
use Rattle.own_ends.specs.Flights.{FliesOn}
use Rattle.own_ends.proofs.Bytes.{waiting_end}
use Rattle.step_law.specs.Facts.{code_for, Facts}
use Rattle.step_law.specs.Standing.{HeaderAims, StandsBy, aims}
use Rattle.step_law.specs.Rows.{Run}
use Rattle.step_law.proofs.Aiming.{aimed_at}
use Rattle.step_law.proofs.Exceptions.{gone_destroyed}
use Rattle.step_law.proofs.Facing.{code_same, type_known}

pub built_thrown : (y : Exception) → is_built y ≡ true → IsThrown y
built_thrown building h = absurd (cc h)
built_thrown (native t d kept) h = tt
built_thrown (foreign k token) h = tt

-- where the frame of one of these functions begins, all frames end with the stack
pub own_whole : (q : Plan) (f : Function) (st : State) (w : abi.World) (back : ℕ) → st.top.function ≡ f → frame_of q.unit q.hidden f ≡ frame_size f → StubMemory q f st.frames st.world w.hart.memory (isa.x w.hart sp) back →
    isa.x w.hart sp + open_bytes q (st.top ∷ st.frames) ≡ stack_end
own_whole q f st w back runs size m =
    let below = waiting_end q st.frames st.world w.hart.memory (isa.x w.hart sp + frame_size f) back st.world.calls m.waiting in let top = ap (frame_of q.unit q.hidden) runs in omega (arith, below, top, size)

module _ (x : Run) (q : Plan) (before : ℕ) (st : State) (w : abi.World) (facts : Facts x.program x.image x.carrying x.tables) (stands : StandsBy x.program x.image x.carrying x.tables q before st w)
    (f : Function) (slot selector : ℕ) (runs : st.top.function ≡ f) (carried : (a : Activation) → carried_in x.carrying f a ≡ stub_carried slot selector a) (here : stub_carries f st.top.place ≡ true)
    (help : is_help_in (code_for x.program) f slot) where
  abbrev code : Code
  code = code_for x.program

  abbrev calls : List Activation
  calls = st.top ∷ st.frames

  abbrev marks : Marks
  marks = aims x.program q calls w

  abbrev carries : ℕ → Carried
  carries home = record { word = st.top.frame.slots slot; home = home; number = st.top.frame.slots selector; left = [] }

  pub own_carries : WordGoes marks code st.top st.frames (carries (stub_home f)) (st.top.frame.slots slot) st.world
  own_carries =
      let goes = subst (λ g. FlightGoes marks code st.top st.frames (carried_in x.carrying g st.top) st.world) runs stands.stands.calls.0.carries in
      let some = subst (λ y. FlightGoes marks code st.top st.frames y st.world) (carried st.top) goes in
      let known : stub_carries st.top.function st.top.place ≡ true = ap (λ g. stub_carries g st.top.place) runs ∙ here in
      let there = subst (λ b. FlightGoes marks code st.top st.frames (if b then Some (carries (stub_home st.top.function)) else None) st.world) known some in
      subst (λ g. WordGoes marks code st.top st.frames (carries (stub_home g)) (st.top.frame.slots slot) st.world) runs there

  module _ (e d : ℕ) (is : st.top.frame.slots slot ≡ flying e d) where
    flight : OnItsWay code st.top st.frames (carries (stub_home f)) e d st.world × HeaderAims q calls w e d
    flight = subst (λ y. WordGoes marks code st.top st.frames (carries (stub_home f)) y st.world) is own_carries

    asked : FlightAsked marks.known x.carrying st e d
    asked = flight_asked marks code x.carrying facts.fits stands.steps st stands.stands (carries (stub_home f)) slot e d (subst (λ g. is_help_in code g slot) (sym runs) help) is flight.0

    abbrev from_home : List Activation
    from_home = record { function = st.top.function; place = stub_home f; frame = st.top.frame } ∷ st.frames

    aims_home : AimsAt code (type_at st.world e) d from_home
    aims_home = by flight.0.goes
      where
        by : ((is_one_of flight.0.selector [] ≡ true) × (d ≡ length st.frames)) ⊎ (IsOther flight.0.selector [] × AimsAt code (type_at st.world e) d from_home) → AimsAt code (type_at st.world e) d from_home
        by (inl h) = absurd (cc h.0)
        by (inr h) = h.1

    header_home : HeaderAims q from_home w e d
    header_home = let h = flight.1 in record { inside = h.inside; slot = h.slot; header = h.header; way = h.way; number = h.number; target = h.target; table = h.table }

    pub flies_on : isa.x w.hart sp + open_bytes q calls ≡ stack_end → FliesOn q st w slot (stub_home f) e d
    flies_on whole = record {
      is = is;
      exception = exception_at st.world e;
      live = built_there st.world.live e asked.can;
      thrown = built_thrown (exception_at st.world e) asked.can;
      whole = ap (λ es. contains es e) (gone_destroyed calls) ∙ both_none (destroyed_in st.top.function st.top.frame) (gone st.frames) e asked.apart asked.whole;
      type = type_known x q before st w facts stands (exception_at st.world e) asked.exception;
      target = subst (λ c. HasTarget c (type_at st.world e) d from_home) (sym (code_same x q before st w facts stands)) (aims_have_targets code (type_at st.world e) d from_home aims_home);
      aimed = aimed_at code (type_at st.world e) q from_home w e d (isa.x w.hart sp) header_home aims_home whole;
    }
