-- Where an exception on its way is carried, its target is an open call.
use Rattle.std.proofs.Common.{◌≡◌, ◌⊎◌, inl, inr, ℕ, zero, suc, ◌≤◌, ◌<◌, true, List, [], ◌∷◌, length, Option, Some, None, arith}
use Rattle.region_forms.specs.World.{Word, nothing, number_word, address_word, flying, unwinding, Frame, World, type_at}
use Rattle.linear_forms.specs.Stub.{Function, compiled, end_catch, terminating, call_unexpected}
use Rattle.linear_forms.specs.Activation.{Code, Activation, State}
use Rattle.exceptions_in_flight.specs.Targets.{AimsAt}
use Rattle.flight_homes.specs.Homes.{is_one_of}
use Rattle.flight_homes.specs.Keeps.{Carrying, Carried}
use Rattle.flight_homes.specs.Lives.{Known}
use Rattle.linear_invariant.specs.Held.{carried_below}
use Rattle.linear_invariant.specs.Calls.{IsOther, Marks, OnItsWay, WordGoes, FlightGoes, IsStopped, StubHolds, CallsKeep}
use Rattle.linear_invariant.specs.Stands.{StandsIn}

-- the target of an exception on its way is one of so many calls
abbrev pub IsBelow : ℕ → Word → Type 0
IsBelow n (flying e d) = d < n
IsBelow n x = Unit {0}

abbrev pub bounded : ℕ → (Word → Type 0) → Word → Type 0
bounded n words = λ word. words word × IsBelow n word

pub aims_below : (code : Code) (t : Option ℕ) (d : ℕ) (fs : List Activation) → AimsAt code t d fs → d < length fs
aims_below code t d [] h = absurd h
aims_below code t d (a ∷ fs) (inl h) = omega (arith, h.0)
aims_below code t d (a ∷ fs) (inr h) = omega (arith, aims_below code t d fs h.1)

module _ (known : Known) (words : Word → Type 0) (code : Code) (k : Carrying) (w : World) (n : ℕ) where
  abbrev old : Marks
  old = record { known = known; words = words }

  abbrev new : Marks
  new = record { known = known; words = bounded n words }

  flight_below : (a : Activation) (outer : List Activation) (c : Carried) (e d : ℕ) → length outer < n → OnItsWay code a outer c e d w → d < n
  flight_below a outer c e d less h = by h.goes
    where
      by : ((is_one_of h.selector c.left ≡ true) × (d ≡ length outer)) ⊎ (IsOther h.selector c.left × AimsAt code (type_at w e) d (record { function = a.function; place = c.home; frame = a.frame } ∷ outer)) → d < n
      by (inl here) = omega (arith, less, here.1)
      by (inr aims) =
          let below = aims_below code (type_at w e) d (record { function = a.function; place = c.home; frame = a.frame } ∷ outer) aims.1 in omega (arith, less, below)

  word_bounded : (a : Activation) (outer : List Activation) (c : Carried) (word : Word) → length outer < n → WordGoes old code a outer c word w → WordGoes new code a outer c word w
  word_bounded a outer c (flying e d) less h = (h.0, (h.1, flight_below a outer c e d less h.0))
  word_bounded a outer c (unwinding z) less h = (h.0, (h.1, tt))
  word_bounded a outer c nothing less h = h
  word_bounded a outer c (number_word z) less h = h
  word_bounded a outer c (address_word q) less h = h

  flight_bounded : (a : Activation) (outer : List Activation) (o : Option Carried) → length outer < n → FlightGoes old code a outer o w → FlightGoes new code a outer o w
  flight_bounded a outer None less h = tt
  flight_bounded a outer (Some c) less h = word_bounded a outer c c.word less h

  stopped_bounded : (word x : Word) → IsStopped old word x → IsStopped new word x
  stopped_bounded (flying e d) x h = h
  stopped_bounded (unwinding z) x h = (h.0, (h.1, tt))
  stopped_bounded nothing x h = h
  stopped_bounded (number_word z) x h = h
  stopped_bounded (address_word q) x h = h

  stub_bounded : (f : Function) (p : ℕ) (x : Frame) → StubHolds old f p x → StubHolds new f p x
  stub_bounded (compiled m) p x h = tt
  stub_bounded terminating p x h = tt
  stub_bounded end_catch zero x h = tt
  stub_bounded end_catch (suc zero) x h = h
  stub_bounded end_catch (suc (suc p)) x h = tt
  stub_bounded call_unexpected zero x h = tt
  stub_bounded call_unexpected (suc zero) x h = tt
  stub_bounded call_unexpected (suc (suc zero)) x h = tt
  stub_bounded call_unexpected (suc (suc (suc zero))) x h = tt
  stub_bounded call_unexpected (suc (suc (suc (suc zero)))) x h = stopped_bounded (x.slots 4) (x.slots 5) h
  stub_bounded call_unexpected (suc (suc (suc (suc (suc p))))) x h = tt

  pub calls_bounded : (f : Option Function) (fs : List Activation) → length fs ≤ n → CallsKeep code k old f fs w → CallsKeep code k new f fs w
  calls_bounded f [] less h = tt
  calls_bounded f (a ∷ fs) less h = (
    record {
      forgets = h.0.forgets;
      carries = flight_bounded a fs (carried_below f k a) (omega (arith, less)) h.0.carries;
      gone = h.0.gone;
      slots = stub_bounded a.function a.place a.frame h.0.slots;
      waits = h.0.waits;
    },
    calls_bounded (Some a.function) fs (omega (arith, less)) h.1,
  )

pub stands_bounded : (known : Known) (words : Word → Type 0) (code : Code) (k : Carrying) (steps : ℕ) (st : State) → StandsIn (record { known = known; words = words }) code k steps st →
    StandsIn (record { known = known; words = bounded (length (st.top ∷ st.frames)) words }) code k steps st
stands_bounded known words code k steps st h = record {
  stand = h.stand;
  lives = h.lives;
  whole = h.whole;
  calls = calls_bounded known words code k st.world (length (st.top ∷ st.frames)) None (st.top ∷ st.frames) (omega arith) h.calls;
  world = h.world;
}
