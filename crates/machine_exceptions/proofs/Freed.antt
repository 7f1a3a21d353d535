-- An exception is freed on both machines.
use Rattle.std.proofs.Common.{◌≡◌, ◌∙◌, refl, sym, ap, subst, arith, ℕ, ◌==◌, nat_eq, Bool, true, false, List, slice_set, Some, None}
use Rattle.std.proofs.lemmas.Bool.Decides.{nat_tests}
use Rattle.meaning_forms.specs.Class.{contains}
use Rattle.caught_stack.specs.declared.header.Header.{Header}
use Rattle.caught_stack.specs.declared.header.HeaderKind.TheVariants.{Building}
use Rattle.caught_stack.specs.Allocate.{freed}
use Rattle.caught_stack.specs.Slots.{is_in}
use Rattle.caught_stack.specs.Live.{header_of}
use Rattle.caught_stack.specs.Caught.{slots_of}
use Rattle.caught_stack.proofs.Headers.{header_changed, header_kept}
use Rattle.cxa_runtime.specs.Objects.{is_thrown}
use Rattle.region_forms.specs.World.{Exception}
use Rattle.machine_simulation.specs.Exceptions.{Addresses, LinearExceptions, KeptExceptions, live_in, AreDistinct, HeaderIs, SlotIs, HasHeader, IsLeft, ExceptionsMatch}
use Rattle.machine_exceptions.proofs.LiveLists.{without, kept_in, was_in, once_fewer, one_fewer}
use Rattle.machine_exceptions.proofs.Headers.{slot_below, same_slot, count_fewer, IsIdle, none_caught, all_caught, sound_kept}

-- an exception has one slot
pub slots_alike : (t : Addresses) (gone : List ℕ) (v : LinearExceptions) (w : KeptExceptions) (e a b : ℕ) → ExceptionsMatch t gone v w → HasHeader w.exceptions.live e a → HasHeader w.exceptions.live e b → a ≡ b
slots_alike t gone v w e a b m x y =
    same_slot a b (sym (m.headers a x.header x.there).object ∙ ap t.object (x.number ∙ sym y.number) ∙ (m.headers b y.header y.there).object)

-- another exception is in another slot
pub other_slot : (w : KeptExceptions) (e slot d s : ℕ) → HasHeader w.exceptions.live e slot → HasHeader w.exceptions.live d s → (e == d) ≡ false → nat_eq slot s ≡ false
other_slot w e slot d s h k other = by (nat_eq slot s) refl
  where
    by : (b : Bool) → nat_eq slot s ≡ b → nat_eq slot s ≡ false
    by false is = is
    by true is =
        let same : slot ≡ s = grind (arith, nat_tests, is) in
        let both : Some h.header ≡ Some k.header = sym h.there ∙ ap (header_of w.exceptions.live) same ∙ k.there in
        let headers : h.header ≡ k.header = cc both in
        let numbers : e ≡ d = sym h.number ∙ ap (λ (y : Header). y.number) headers ∙ k.number in
        absurd (let itself : (e == d) ≡ true = grind (arith, nat_tests, numbers) in let both : true ≡ false = sym itself ∙ other in cc both)

-- and a header in another slot is of another exception
pub other_number : (t : Addresses) (gone : List ℕ) (v : LinearExceptions) (w : KeptExceptions) (e slot s : ℕ) (k : Header) → ExceptionsMatch t gone v w → HasHeader w.exceptions.live e slot →
    header_of w.exceptions.live s ≡ Some k → nat_eq slot s ≡ false → (e == k.number) ≡ false
other_number t gone v w e slot s k m h was other = by (e == k.number) refl
  where
    by : (b : Bool) → (e == k.number) ≡ b → (e == k.number) ≡ false
    by false is = is
    by true is =
        let same : e ≡ k.number = grind (arith, nat_tests, is) in
        let slots : slot ≡ s = slots_alike t gone v w e slot s m h (record { header = k; there = was; number = sym same }) in
        absurd (let itself : nat_eq slot s ≡ true = grind (arith, nat_tests, slots) in let both : true ≡ false = sym itself ∙ other in cc both)

-- An exception that no handler has is given back. Those whose destructors run are as before, but for this one.
module _ (t : Addresses) (gone left : List ℕ) (v : LinearExceptions) (w : KeptExceptions) (e slot : ℕ) (x : Exception) (m : ExceptionsMatch t gone v w) (h : HasHeader w.exceptions.live e slot)
    (out : is_in (slots_of w.exceptions.caught) slot ≡ false) (there : live_in v.live e ≡ Some x) (once : AreDistinct left) (none : contains left e ≡ false) (others : (d : ℕ) → (e == d) ≡ false → contains left d ≡ contains gone d) where
  slot_at : (s : ℕ) (k : Header) → header_of (slice_set w.exceptions.live slot None) s ≡ Some k → SlotIs t left (without e v.live) s k
  slot_at s k is = by (nat_eq slot s) refl
    where
      by : (b : Bool) → nat_eq slot s ≡ b → SlotIs t left (without e v.live) s k
      by true same =
          let eq : slot ≡ s = grind (arith, nat_tests, same) in
          let gone_there : Some k ≡ None = sym is ∙ ap (header_of (slice_set w.exceptions.live slot None)) (sym eq) ∙ header_changed w.exceptions.live slot None (slot_below w.exceptions.live slot h.header h.there) in
          absurd (cc gone_there)
      by false other =
          let was : header_of w.exceptions.live s ≡ Some k = sym (header_kept w.exceptions.live slot s None other) ∙ is in
          let old = m.headers s k was in
          let apart : (e == k.number) ≡ false = other_number t gone v w e slot s k m h was other in
          record {
            exception = old.exception;
            live = kept_in v.live e k.number apart ∙ old.live;
            object = old.object;
            is = subst (λ b. HeaderIs t b old.exception k) (sym (others k.number apart)) old.is;
          }

  live_at : (d : ℕ) (y : Exception) → live_in (without e v.live) d ≡ Some y → (s : ℕ) × HasHeader (slice_set w.exceptions.live slot None) d s
  live_at d y is =
      let was = was_in v.live e d y is in
      let old = m.live d y was.1 in (
        old.0,
        record { header = old.1.header; there = header_kept w.exceptions.live slot old.0 None (other_slot w e slot d old.0 h old.1 was.0) ∙ old.1.there; number = old.1.number },
      )

  left_at : (d : ℕ) → contains left d ≡ true → IsLeft (without e v.live) d
  left_at d is = by (e == d) refl
    where
      by : (b : Bool) → (e == d) ≡ b → IsLeft (without e v.live) d
      by true same =
          let eq : e ≡ d = grind (arith, nat_tests, same) in
          absurd (let both : true ≡ false = sym is ∙ ap (contains left) (sym eq) ∙ none in cc both)
      by false other =
          let old = m.left d (sym (others d other) ∙ is) in
          record { type = old.type; destructor = old.destructor; kept = old.kept; live = kept_in v.live e d other ∙ old.live }

  pub freed_match : ExceptionsMatch t left (record v { live = without e v.live }) (record w { exceptions = freed slot w.exceptions })
  freed_match = record {
    sound = sound_kept w.exceptions slot None out m.sound;
    headers = slot_at;
    live = live_at;
    count = omega (arith, count_fewer w.exceptions.live slot h.header h.there, one_fewer v.live e x m.once there, m.count);
    once = once_fewer v.live e m.once;
    numbers = λ d y is. m.numbers d y (was_in v.live e d y is).1;
    caught = all_caught w.exceptions.live slot None v.caught w.exceptions.caught out m.caught;
    uncaught = m.uncaught;
    terminate_handler = m.terminate_handler;
    unexpected_handler = m.unexpected_handler;
    distinct = once;
    left = left_at;
  }

-- no handler has an exception that counts as building
pub building_out : (t : Addresses) (gone : List ℕ) (v : LinearExceptions) (w : KeptExceptions) (slot : ℕ) (h : Header) → ExceptionsMatch t gone v w → header_of w.exceptions.live slot ≡ Some h → h.kind ≡ Building →
    is_in (slots_of w.exceptions.caught) slot ≡ false
building_out t gone v w slot h m there building = none_caught w.exceptions.live slot idle v.caught w.exceptions.caught m.caught
  where
    idle : IsIdle w.exceptions.live slot
    idle k is =
        let both : Some h ≡ Some k = sym there ∙ is in
        let same : h ≡ k = cc both in
        ap (λ (y : Header). is_thrown y.kind) (sym same) ∙ ap is_thrown building
