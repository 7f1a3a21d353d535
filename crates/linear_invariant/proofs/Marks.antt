-- What is known of the words that calls carry may change with the world, as long as each keeps what is asked of it.
use Rattle.std.proofs.Common.{◌≡◌, ℕ, suc, zero, ℤ, true, List, [], ◌∷◌, Option, Some, None}
use Rattle.std.specs.List.{AllByRecursion}
use Rattle.region_forms.specs.Lives.{can_travel}
use Rattle.region_forms.specs.World.{Word, nothing, number_word, address_word, flying, unwinding, Frame, World}
use Rattle.linear_forms.specs.Stub.{Function, compiled, end_catch, terminating, call_unexpected}
use Rattle.linear_forms.specs.Activation.{Code, Activation, State}
use Rattle.flight_homes.specs.Keeps.{Carrying, Carried, flying_in}
use Rattle.flight_homes.specs.Lives.{Known}
use Rattle.linear_invariant.specs.Held.{carried_below}
use Rattle.linear_invariant.specs.Calls.{Marks, WordGoes, FlightGoes, IsStopped, StubHolds, CallsKeep}
use Rattle.linear_invariant.specs.Stands.{StandsIn}
use Rattle.linear_invariant.proofs.Calls.{Spared}

module _ (known : Known) (words more : Word → Type 0) (code : Code) (k : Carrying) (w : World) (P : ℕ → Type 0)
    (flies : (e d : ℕ) → P e → can_travel w e ≡ true → words (flying e d) → more (flying e d)) (forced : (z : ℤ) → words (unwinding z) → more (unwinding z)) where
  abbrev old : Marks
  old = record { known = known; words = words }

  abbrev new : Marks
  new = record { known = known; words = more }

  word_marked : (a : Activation) (outer : List Activation) (c : Carried) (word : Word) → AllByRecursion P (elim word [ flying e d ↦ e ∷ [] | _ ↦ [] ]) → WordGoes old code a outer c word w → WordGoes new code a outer c word w
  word_marked a outer c (flying e d) own h = (h.0, flies e d own.0 h.0.can h.1)
  word_marked a outer c (unwinding z) own h = (h.0, forced z h.1)
  word_marked a outer c nothing own h = h
  word_marked a outer c (number_word z) own h = h
  word_marked a outer c (address_word q) own h = h

  flight_marked : (a : Activation) (outer : List Activation) (o : Option Carried) → AllByRecursion P (flying_in o) → FlightGoes old code a outer o w → FlightGoes new code a outer o w
  flight_marked a outer None own h = tt
  flight_marked a outer (Some c) own h = word_marked a outer c c.word own h

  stopped_marked : (word x : Word) → IsStopped old word x → IsStopped new word x
  stopped_marked (flying e d) x h = h
  stopped_marked (unwinding z) x h = (h.0, forced z h.1)
  stopped_marked nothing x h = h
  stopped_marked (number_word z) x h = h
  stopped_marked (address_word q) x h = h

  stub_marked : (f : Function) (p : ℕ) (x : Frame) → StubHolds old f p x → StubHolds new f p x
  stub_marked (compiled n) p x h = tt
  stub_marked terminating p x h = tt
  stub_marked end_catch zero x h = tt
  stub_marked end_catch (suc zero) x h = h
  stub_marked end_catch (suc (suc p)) x h = tt
  stub_marked call_unexpected zero x h = tt
  stub_marked call_unexpected (suc zero) x h = tt
  stub_marked call_unexpected (suc (suc zero)) x h = tt
  stub_marked call_unexpected (suc (suc (suc zero))) x h = tt
  stub_marked call_unexpected (suc (suc (suc (suc zero)))) x h = stopped_marked (x.slots 4) (x.slots 5) h
  stub_marked call_unexpected (suc (suc (suc (suc (suc p))))) x h = tt

  calls_marked : (f : Option Function) (fs : List Activation) → Spared k P f fs → CallsKeep code k old f fs w → CallsKeep code k new f fs w
  calls_marked f [] own h = tt
  calls_marked f (a ∷ fs) own h = (
    record {
      forgets = h.0.forgets;
      carries = flight_marked a fs (carried_below f k a) own.0 h.0.carries;
      gone = h.0.gone;
      slots = stub_marked a.function a.place a.frame h.0.slots;
      waits = h.0.waits;
    },
    calls_marked (Some a.function) fs own.2 h.1,
  )

-- So it is with a state: each exception that a call has on its way is one of some, is live and built, and keeps its mark.
pub marks_change : (known : Known) (words more : Word → Type 0) (code : Code) (k : Carrying) (steps : ℕ) (st : State) (P : ℕ → Type 0) → Spared k P None (st.top ∷ st.frames) →
    ((e d : ℕ) → P e → can_travel st.world e ≡ true → words (flying e d) → more (flying e d)) → ((z : ℤ) → words (unwinding z) → more (unwinding z)) →
    StandsIn (record { known = known; words = words }) code k steps st → StandsIn (record { known = known; words = more }) code k steps st
marks_change known words more code k steps st P own flies forced h = record {
  stand = h.stand;
  lives = h.lives;
  whole = h.whole;
  calls = calls_marked known words more code k st.world P flies forced None (st.top ∷ st.frames) own h.calls;
  world = h.world;
}
