-- What both machines have of an exception that is thrown.
use Rattle.std.proofs.Common.{◌≡◌, ◌∙◌, refl, sym, ap, subst, arith, ℕ, ◌+◌, ◌≤◌, ◌==◌, nat_eq, Bool, true, false, List, [], ◌∷◌, map, slice_set, length-set, Some}
use Rattle.std.specs.Prelude.{if◌then◌else◌, is_some}
use Rattle.std.proofs.lemmas.Bool.Decides.{nat_tests}
use Rattle.std.proofs.lemmas.List.{length-map}
use Rattle.meaning_forms.specs.Class.{contains}
use Rattle.caught_stack.specs.declared.header.Header.{Header}
use Rattle.caught_stack.specs.declared.header.HeaderKind.TheVariants.{Building}
use Rattle.caught_stack.specs.Live.{header_of}
use Rattle.caught_stack.specs.Caught.{Caught}
use Rattle.caught_stack.proofs.Headers.{header_changed, header_kept, both_counts, count_replaced}
use Rattle.cxa_runtime.specs.Objects.{is_thrown}
use Rattle.region_forms.specs.Caught.{Entry, flown}
use Rattle.region_forms.specs.World.{Exception, replaced}
use Rattle.machine_simulation.specs.Exceptions.{Addresses, LinearExceptions, KeptExceptions, live_in, HeaderIs, SlotIs, HasHeader, AreCaught, IsLeft, ExceptionsMatch}
use Rattle.machine_exceptions.proofs.Headers.{slot_below, IsIdle, none_caught, all_caught, sound_kept}
use Rattle.machine_exceptions.proofs.Freed.{slots_alike}
use Rattle.machine_raises.proofs.Replaced.{replaced_in, other_replaced, once_replaced}

-- An exception that is being built gets another header and is another exception; it travels, and no handler has it.
module _ (t : Addresses) (gone : List ℕ) (v : LinearExceptions) (w : KeptExceptions) (e slot : ℕ) (old x : Exception) (new : Header) (m : ExceptionsMatch t gone v w) (h : HasHeader w.exceptions.live e slot)
    (building : h.header.kind ≡ Building) (there : live_in v.live e ≡ Some old) (stays : contains gone e ≡ false) (number : new.number ≡ e) (is_new : HeaderIs t false x new) where
  pub idle : IsIdle w.exceptions.live slot
  idle k is =
      let both : Some h.header ≡ Some k = sym h.there ∙ is in
      let same : h.header ≡ k = cc both in
      ap (λ (y : Header). is_thrown y.kind) (sym same) ∙ ap is_thrown building

  -- another exception is in another slot
  other_slot : (d s : ℕ) → HasHeader w.exceptions.live d s → (e == d) ≡ false → nat_eq slot s ≡ false
  other_slot d s k other = by (nat_eq slot s) refl
    where
      by : (b : Bool) → nat_eq slot s ≡ b → nat_eq slot s ≡ false
      by false is = is
      by true is =
          let same : slot ≡ s = grind (arith, nat_tests, is) in
          let both : Some h.header ≡ Some k.header = sym h.there ∙ ap (header_of w.exceptions.live) same ∙ k.there in
          let headers : h.header ≡ k.header = cc both in
          let numbers : e ≡ d = sym h.number ∙ ap (λ (y : Header). y.number) headers ∙ k.number in
          absurd (let itself : (e == d) ≡ true = grind (arith, nat_tests, numbers) in let both : true ≡ false = sym itself ∙ other in cc both)

  -- no handler has it
  pub not_flown : (xs : List Entry) (ys : Caught) → AreCaught w.exceptions.live xs ys → flown e xs ≡ xs
  not_flown [] ys c = refl
  not_flown (y ∷ xs) [] c = absurd c
  not_flown (y ∷ xs) ((s, n) ∷ ys) c = by (y.number == e) refl
    where
      by : (b : Bool) → (y.number == e) ≡ b → (if b then record y { again = true } else y) ∷ xs ≡ y ∷ xs
      by false is = refl
      by true is =
          let same : y.number ≡ e = grind (arith, nat_tests, is) in
          let has = c.0.0 in
          let slots : slot ≡ s = slots_alike t gone v w e slot s m h (record { header = has.header; there = has.there; number = has.number ∙ same }) in
          let kinds : is_thrown has.header.kind ≡ false = idle has.header (ap (header_of w.exceptions.live) slots ∙ has.there) in
          absurd (let both : true ≡ false = sym c.0.1 ∙ kinds in cc both)

  there_now : header_of (slice_set w.exceptions.live slot (Some new)) slot ≡ Some new
  there_now = header_changed w.exceptions.live slot (Some new) (slot_below w.exceptions.live slot h.header h.there)

  slot_at : (s : ℕ) (k : Header) → header_of (slice_set w.exceptions.live slot (Some new)) s ≡ Some k → SlotIs t gone (map (replaced e x) v.live) s k
  slot_at s k is = by (nat_eq slot s) refl
    where
      number_apart : (b : Bool) → (e == k.number) ≡ b → header_of w.exceptions.live s ≡ Some k → nat_eq slot s ≡ false → (e == k.number) ≡ false
      number_apart false is was other = is
      number_apart true is was other =
          let same : e ≡ k.number = grind (arith, nat_tests, is) in
          let slots : slot ≡ s = slots_alike t gone v w e slot s m h (record { header = k; there = was; number = sym same }) in
          absurd (let itself : nat_eq slot s ≡ true = grind (arith, nat_tests, slots) in let both : true ≡ false = sym itself ∙ other in cc both)

      by : (b : Bool) → nat_eq slot s ≡ b → SlotIs t gone (map (replaced e x) v.live) s k
      by true same =
          let eq : slot ≡ s = grind (arith, nat_tests, same) in
          let both : Some new ≡ Some k = sym there_now ∙ ap (header_of (slice_set w.exceptions.live slot (Some new))) eq ∙ is in
          let is_k : new ≡ k = cc both in
          let whole : SlotIs t gone (map (replaced e x) v.live) slot new = record {
            exception = x;
            live = ap (live_in (map (replaced e x) v.live)) number ∙ replaced_in v.live e x old there;
            object = ap t.object (number ∙ sym h.number) ∙ (m.headers slot h.header h.there).object;
            is = subst (λ b. HeaderIs t b x new) (sym (ap (contains gone) number ∙ stays)) is_new;
          } in
          subst (λ n. SlotIs t gone (map (replaced e x) v.live) n k) eq (subst (SlotIs t gone (map (replaced e x) v.live) slot) is_k whole)
      by false other =
          let was : header_of w.exceptions.live s ≡ Some k = sym (header_kept w.exceptions.live slot s (Some new) other) ∙ is in
          let before = m.headers s k was in
          let apart : (e == k.number) ≡ false = number_apart (e == k.number) refl was other in
          record { exception = before.exception; live = other_replaced v.live e k.number x apart ∙ before.live; object = before.object; is = before.is }

  live_at : (d : ℕ) (y : Exception) → live_in (map (replaced e x) v.live) d ≡ Some y → ((s : ℕ) × HasHeader (slice_set w.exceptions.live slot (Some new)) d s) × (d ≤ v.last_number)
  live_at d y is = by (e == d) refl
    where
      by : (b : Bool) → (e == d) ≡ b → ((s : ℕ) × HasHeader (slice_set w.exceptions.live slot (Some new)) d s) × (d ≤ v.last_number)
      by true same =
          let eq : e ≡ d = grind (arith, nat_tests, same) in
          ((slot, record { header = new; there = there_now; number = number ∙ eq }), omega (arith, eq, m.numbers e old there))
      by false other =
          let was : live_in v.live d ≡ Some y = sym (other_replaced v.live e d x other) ∙ is in
          let before = m.live d y was in
          ((before.0, record { header = before.1.header; there = header_kept w.exceptions.live slot before.0 (Some new) (other_slot d before.0 before.1 other) ∙ before.1.there; number = before.1.number }), m.numbers d y was)

  left_at : (d : ℕ) → contains gone d ≡ true → IsLeft (map (replaced e x) v.live) d
  left_at d is = by (e == d) refl
    where
      by : (b : Bool) → (e == d) ≡ b → IsLeft (map (replaced e x) v.live) d
      by true same =
          let eq : e ≡ d = grind (arith, nat_tests, same) in
          absurd (let both : true ≡ false = sym is ∙ ap (contains gone) (sym eq) ∙ stays in cc both)
      by false other =
          let before = m.left d is in
          record { type = before.type; destructor = before.destructor; kept = before.kept; live = other_replaced v.live e d x other ∙ before.live }

  pub thrown_match : ExceptionsMatch t gone (record v { live = map (replaced e x) v.live; caught = flown e v.caught; uncaught = v.uncaught + 1 })
      (record w { exceptions = record w.exceptions { live = slice_set w.exceptions.live slot (Some new); uncaught = w.exceptions.uncaught + 1 } })
  thrown_match =
      let headers = w.exceptions.live in
      let low = slot_below headers slot h.header h.there in
      let out = none_caught headers slot idle v.caught w.exceptions.caught m.caught in
      let sound = sound_kept w.exceptions slot (Some new) out m.sound in
      record {
        sound = record { slots = sound.slots; live = sound.live; once = sound.once; counted = sound.counted };
        headers = slot_at;
        live = λ d y is. (live_at d y is).0;
        count = omega (
          arith,
          both_counts headers,
          both_counts (slice_set headers slot (Some new)),
          count_replaced headers slot new low (ap is_some h.there),
          length-set headers slot (Some new),
          length-map v.live (replaced e x),
          m.count,
        );
        once = once_replaced v.live e x m.once;
        numbers = λ d y is. (live_at d y is).1;
        caught = subst (λ xs. AreCaught (slice_set headers slot (Some new)) xs w.exceptions.caught) (sym (not_flown v.caught w.exceptions.caught m.caught)) (all_caught headers slot (Some new) v.caught w.exceptions.caught out m.caught);
        uncaught = ap (λ n. n + 1) m.uncaught;
        terminate_handler = m.terminate_handler;
        unexpected_handler = m.unexpected_handler;
        distinct = m.distinct;
        left = left_at;
      }
