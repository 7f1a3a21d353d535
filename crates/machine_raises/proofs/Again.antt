-- What both machines have of an exception that is thrown again.
use Rattle.std.proofs.Common.{◌≡◌, ◌∙◌, refl, sym, ap, subst, arith, ℕ, ◌+◌, ◌&&◌, ◌==◌, nat_eq, Bool, true, false, ℤ, negsuc, List, [], ◌∷◌, slice_set, length-set, Some, is_some}
use Rattle.std.specs.Prelude.{if◌then◌else◌}
use Rattle.std.specs.List.{list_all, IsDistinct}
use Rattle.std.proofs.lemmas.Bool.Decides.{nat_tests}
use Rattle.meaning_forms.specs.Class.{contains}
use Rattle.caught_stack.specs.declared.header.Header.{Header}
use Rattle.caught_stack.specs.Live.{header_of, is_live}
use Rattle.caught_stack.specs.Caught.{Caught, slots_of, is_counted}
use Rattle.caught_stack.proofs.Headers.{header_changed, header_kept, live_still, both_counts, count_replaced}
use Rattle.caught_stack.proofs.Stacks.{all_also}
use Rattle.cxa_runtime.specs.Objects.{is_thrown}
use Rattle.region_forms.specs.Caught.{Entry, flown}
use Rattle.region_forms.specs.World.{Exception, building, native, foreign}
use Rattle.machine_simulation.specs.Exceptions.{Addresses, LinearExceptions, KeptExceptions, live_in, HandlersAre, HeaderIs, SlotIs, HasHeader, IsCaught, AreCaught, ExceptionsMatch}
use Rattle.machine_exceptions.proofs.Headers.{slot_below}

-- ---- a header is aimed
header_alike : (t : Addresses) (b : Bool) (x : Exception) (h new : Header) → new.kind ≡ h.kind → new.handlers ≡ h.handlers → HeaderIs t b x h → HeaderIs t b x new
header_alike t true x h new kind handlers is = kind ∙ is
header_alike t false building h new kind handlers is = kind ∙ is
header_alike t false (native type d kept) h new kind handlers is =
    ((is.0.0, kind ∙ is.0.1, is.0.2), subst (λ k. HandlersAre t kept k) (sym handlers) is.1)
header_alike t false (foreign k token) h new kind handlers is = kind ∙ is

-- The header of an exception gets another target.
module _ (t : Addresses) (gone : List ℕ) (v : LinearExceptions) (w : KeptExceptions) (slot : ℕ) (old new : Header) (m : ExceptionsMatch t gone v w) (there : header_of w.exceptions.live slot ≡ Some old) (number : new.number ≡ old.number)
    (kind : new.kind ≡ old.kind) (handlers : new.handlers ≡ old.handlers) where
  there_now : header_of (slice_set w.exceptions.live slot (Some new)) slot ≡ Some new
  there_now = header_changed w.exceptions.live slot (Some new) (slot_below w.exceptions.live slot old there)

  slot_at : (s : ℕ) (k : Header) → header_of (slice_set w.exceptions.live slot (Some new)) s ≡ Some k → SlotIs t gone v.live s k
  slot_at s k is = by (nat_eq slot s) refl
    where
      by : (b : Bool) → nat_eq slot s ≡ b → SlotIs t gone v.live s k
      by true same =
          let eq : slot ≡ s = grind (arith, nat_tests, same) in
          let both : Some new ≡ Some k = sym there_now ∙ ap (header_of (slice_set w.exceptions.live slot (Some new))) eq ∙ is in
          let is_k : new ≡ k = cc both in
          let before = m.headers slot old there in
          let whole : SlotIs t gone v.live slot new = record {
            exception = before.exception;
            live = ap (live_in v.live) number ∙ before.live;
            object = ap t.object number ∙ before.object;
            is = header_alike t (contains gone new.number) before.exception old new kind handlers (subst (λ d. HeaderIs t (contains gone d) before.exception old) (sym number) before.is);
          } in
          subst (λ n. SlotIs t gone v.live n k) eq (subst (SlotIs t gone v.live slot) is_k whole)
      by false other = m.headers s k (sym (header_kept w.exceptions.live slot s (Some new) other) ∙ is)

  pub has_still : (d s : ℕ) (h : HasHeader w.exceptions.live d s) → (g : HasHeader (slice_set w.exceptions.live slot (Some new)) d s) × (g.header.kind ≡ h.header.kind)
  has_still d s h = by (nat_eq slot s) refl
    where
      by : (b : Bool) → nat_eq slot s ≡ b → (g : HasHeader (slice_set w.exceptions.live slot (Some new)) d s) × (g.header.kind ≡ h.header.kind)
      by true same =
          let eq : slot ≡ s = grind (arith, nat_tests, same) in
          let both : Some old ≡ Some h.header = sym there ∙ ap (header_of w.exceptions.live) eq ∙ h.there in
          let is : old ≡ h.header = cc both in
          (record { header = new; there = sym (ap (header_of (slice_set w.exceptions.live slot (Some new))) eq) ∙ there_now; number = number ∙ ap (λ (y : Header). y.number) is ∙ h.number }, kind ∙ ap (λ (y : Header). y.kind) is)
      by false other = (record { header = h.header; there = header_kept w.exceptions.live slot s (Some new) other ∙ h.there; number = h.number }, refl)

  pub caught_still : (d s : ℕ) → IsCaught w.exceptions.live d s → IsCaught (slice_set w.exceptions.live slot (Some new)) d s
  caught_still d s c = let g = has_still d s c.0 in (g.0, ap is_thrown g.1 ∙ c.1)

  all_still : (xs : List Entry) (ys : Caught) → AreCaught w.exceptions.live xs ys → AreCaught (slice_set w.exceptions.live slot (Some new)) xs ys
  all_still [] [] h = tt
  all_still (x ∷ xs) ((s, n) ∷ ys) h = (caught_still x.number s h.0, h.1, all_still xs ys h.2)
  all_still [] (y ∷ ys) h = absurd h
  all_still (x ∷ xs) [] h = absurd h

  pub aimed_match : ExceptionsMatch t gone v (record w { exceptions = record w.exceptions { live = slice_set w.exceptions.live slot (Some new) } })
  aimed_match =
      let headers = w.exceptions.live in
      let low = slot_below headers slot old there in
      record {
        sound = record {
          slots = length-set headers slot (Some new) ∙ m.sound.slots;
          live = all_also (is_live headers) (is_live (slice_set headers slot (Some new))) (slots_of w.exceptions.caught) m.sound.live (λ s is. live_still headers slot s new low is);
          once = m.sound.once;
          counted = m.sound.counted;
        };
        headers = slot_at;
        live = λ d y is. (let before = m.live d y is in (before.0, (has_still d before.0 before.1).0));
        count = omega (arith, both_counts headers, both_counts (slice_set headers slot (Some new)), count_replaced headers slot new low (ap is_some there), length-set headers slot (Some new), m.count);
        once = m.once;
        numbers = m.numbers;
        caught = all_still v.caught w.exceptions.caught m.caught;
        uncaught = m.uncaught;
        terminate_handler = m.terminate_handler;
        unexpected_handler = m.unexpected_handler;
        distinct = m.distinct;
        left = m.left;
      }

-- ---- the newest handled exception travels again
itself : (e : ℕ) → (e == e) ≡ true
itself e = grind (arith, nat_tests)

pub again_match : (t : Addresses) (gone : List ℕ) (v : LinearExceptions) (w : KeptExceptions) (e : Entry) (es : List Entry) (slot : ℕ) (n : ℤ) (more : Caught) → ExceptionsMatch t gone v w → v.caught ≡ e ∷ es → w.exceptions.caught ≡ (slot, n) ∷ more →
    ExceptionsMatch t gone (record v { caught = flown e.number v.caught; uncaught = v.uncaught + 1 }) (record w { exceptions = record w.exceptions { caught = (slot, negsuc e.more) ∷ more; uncaught = w.exceptions.uncaught + 1 } })
again_match t gone v w e es slot n more m newest top =
    let headers = w.exceptions.live in
    let are : AreCaught headers (e ∷ es) ((slot, n) ∷ more) = subst (λ xs. AreCaught headers xs ((slot, n) ∷ more)) newest (subst (AreCaught headers v.caught) top m.caught) in
    let now : flown e.number v.caught ≡ record e { again = true } ∷ es = ap (flown e.number) newest ∙ ap (λ b. (if b then record e { again = true } else e) ∷ es) (itself e.number) in
    let counted : list_all (λ entry. is_counted entry.1) ((slot, n) ∷ more) ≡ true = ap (λ (ys : Caught). list_all (λ entry. is_counted entry.1) ys) (sym top) ∙ m.sound.counted in
    record {
      sound = record {
        slots = m.sound.slots;
        live = sym (ap (λ (ys : Caught). list_all (is_live headers) (slots_of ys)) top) ∙ m.sound.live;
        once = subst (λ (ys : Caught). IsDistinct nat_eq (slots_of ys)) top m.sound.once;
        counted = behind (is_counted n) (list_all (λ entry. is_counted entry.1) more) counted;
      };
      headers = m.headers;
      live = m.live;
      count = m.count;
      once = m.once;
      numbers = m.numbers;
      caught = subst (λ xs. AreCaught headers xs ((slot, negsuc e.more) ∷ more)) (sym now) (are.0, refl, are.2);
      uncaught = ap (λ k. k + 1) m.uncaught;
      terminate_handler = m.terminate_handler;
      unexpected_handler = m.unexpected_handler;
      distinct = m.distinct;
      left = m.left;
    }
  where
    behind : (a b : Bool) → (a && b) ≡ true → b ≡ true
    behind true b h = h
    behind false b h = absurd (cc h)
