-- The newest handler is left on both machines, and an exception that no handler has any more.
use Rattle.std.proofs.Common.{◌≡◌, ◌∙◌, refl, sym, ap, subst, arith, ℕ, zero, suc, ◌-◌, ◌<◌, ◌==◌, ◌||◌, ◌&&◌, nat_eq, Bool, true, false, ℤ, pos, negsuc, List, [], ◌∷◌, length, slice_set, length-set, Option, Some, is_some, option_map}
use Rattle.std.specs.Prelude.{option_and_then, if◌then◌else◌}
use Rattle.std.specs.List.{list_all, IsDistinct}
use Rattle.std.proofs.lemmas.Bool.Decides.{nat_tests}
use Rattle.meaning_forms.specs.Class.{contains}
use Rattle.meaning_forms.specs.World.{Installed}
use Rattle.caught_stack.specs.declared.header.Header.{Header}
use Rattle.caught_stack.specs.declared.ended.Ended.{Ended}
use Rattle.caught_stack.specs.declared.ended.Ended.TheVariants.{Active, Travelling, Last}
use Rattle.caught_stack.specs.Slots.{is_in}
use Rattle.caught_stack.specs.Live.{Live as Headers, header_of, is_live}
use Rattle.caught_stack.specs.Caught.{Caught, slots_of, newest, is_counted}
use Rattle.caught_stack.specs.Allocate.{with_header}
use Rattle.caught_stack.specs.Exceptions.{Exceptions}
use Rattle.caught_stack.specs.End.{one_fewer, ended_as, with_count, ended_on, ended}
use Rattle.caught_stack.proofs.Bools.{and_true}
use Rattle.caught_stack.proofs.Stacks.{not_below_top, once_less}
use Rattle.caught_stack.proofs.Headers.{header_changed, header_kept, both_counts, count_replaced}
use Rattle.cxa_runtime.specs.Objects.{object_in}
use Rattle.cxa_runtime.specs.Leaving.{newest_object, building_again}
use Rattle.region_forms.specs.Caught.{Entry, left_count, left_of, last_count, is_last}
use Rattle.region_forms.specs.World.{Exception, native}
use Rattle.machine_simulation.specs.Exceptions.{Addresses, LinearExceptions, KeptExceptions, live_in, HeaderIs, SlotIs, HasHeader, IsCaught, AreCaught, count_of, IsLeft, ExceptionsMatch}
use Rattle.machine_exceptions.proofs.Headers.{slot_below, all_caught, sound_kept}
use Rattle.machine_exceptions.proofs.Freed.{other_slot, other_number}

-- ---- the newest caught exception

pub record Newest (headers : Headers) (x : Entry) (xs : List Entry) (caught : Caught) : Type 0 where
  pub slot : ℕ
  pub count : ℤ
  pub more : Caught
  pub is : caught ≡ (slot, count) ∷ more
  pub here : IsCaught headers x.number slot
  pub counted : count ≡ count_of x
  pub rest : AreCaught headers xs more

pub newest_caught : (headers : Headers) (x : Entry) (xs : List Entry) (caught : Caught) → AreCaught headers (x ∷ xs) caught → Newest headers x xs caught
newest_caught headers x xs [] h = absurd h
newest_caught headers x xs ((slot, n) ∷ more) h = record { slot = slot; count = n; more = more; is = refl; here = h.0; counted = h.1; rest = h.2 }

pub newest_is : (e : Exceptions) (slot : ℕ) (n : ℤ) (more : Caught) (h : Header) → e.caught ≡ (slot, n) ∷ more → header_of e.live slot ≡ Some h → newest_object e ≡ Some (record { slot = slot; header = h })
newest_is e slot n more h is there =
    ap (λ c. option_and_then (object_in e.live) (newest c)) is ∙ ap (option_map (λ (y : Header). record { slot = slot; header = y })) there

-- ---- one handler fewer

-- the counts of both machines
left_alike : (headers : Headers) (x : Entry) (xs : List Entry) (slot : ℕ) (more : Caught) → IsCaught headers x.number slot → AreCaught headers xs more →
    AreCaught headers (left_count x.again x.more x.number xs) (with_count slot (one_fewer (count_of x)) more)
left_alike headers x xs slot more here rest = by x.again x.more
  where
    by : (a : Bool) (m : ℕ) → AreCaught headers (left_count a m x.number xs) (with_count slot (one_fewer (if a then negsuc m else pos (suc m))) more)
    by true zero = rest
    by true (suc k) = (here, refl, rest)
    by false zero = rest
    by false (suc k) =
        let fewer : suc (suc k) - 1 ≡ suc k = omega arith in
        subst (λ i. AreCaught headers (record { number = x.number; more = k; again = false } ∷ xs) (with_count slot (pos i) more)) (sym fewer) (here, refl, rest)

count_live : (headers : Headers) (slot : ℕ) (c : ℤ) (more : Caught) → is_live headers slot ≡ true → list_all (is_live headers) (slots_of more) ≡ true → list_all (is_live headers) (slots_of (with_count slot c more)) ≡ true
count_live headers slot (pos zero) more one all = all
count_live headers slot (pos (suc n)) more one all = ap (λ b. b && list_all (is_live headers) (slots_of more)) one ∙ all
count_live headers slot (negsuc n) more one all = ap (λ b. b && list_all (is_live headers) (slots_of more)) one ∙ all

count_once : (slot : ℕ) (c : ℤ) (more : Caught) → IsDistinct nat_eq (slot ∷ slots_of more) → IsDistinct nat_eq (slots_of (with_count slot c more))
count_once slot (pos zero) more once = once_less slot (slots_of more) once
count_once slot (pos (suc n)) more once = once
count_once slot (negsuc n) more once = once

count_counted : (slot : ℕ) (c : ℤ) (more : Caught) → list_all (λ entry. is_counted entry.1) more ≡ true → list_all (λ entry. is_counted entry.1) (with_count slot c more) ≡ true
count_counted slot (pos zero) more all = all
count_counted slot (pos (suc n)) more all = all
count_counted slot (negsuc n) more all = all

-- what both machines have behind
pub left_match : (t : Addresses) (gone : List ℕ) (v : LinearExceptions) (w : KeptExceptions) (x : Entry) (xs : List Entry) → ExceptionsMatch t gone v w → v.caught ≡ x ∷ xs →
    ExceptionsMatch t gone (record v { caught = left_of v.caught }) (record w { exceptions = (ended w.exceptions).1 })
left_match t gone v w x xs m is =
    let new = newest_caught w.exceptions.live x xs w.exceptions.caught (subst (λ ys. AreCaught w.exceptions.live ys w.exceptions.caught) is m.caught) in
    let headers : Headers = w.exceptions.live in
    let behind : (ended_on w.exceptions.caught).1 ≡ with_count new.slot (one_fewer (count_of x)) new.more = ap (λ c. (ended_on c).1) new.is ∙ ap (λ n. with_count new.slot (one_fewer n) new.more) new.counted in
    let live = and_true (is_live headers new.slot) (list_all (is_live headers) (slots_of new.more)) (ap (λ c. list_all (is_live headers) (slots_of c)) (sym new.is) ∙ m.sound.live) in
    let counted = and_true (is_counted new.count) (list_all (λ entry. is_counted entry.1) new.more) (ap (list_all (λ entry. is_counted entry.1)) (sym new.is) ∙ m.sound.counted) in
    record {
      sound = record {
        slots = m.sound.slots;
        live = ap (λ c. list_all (is_live headers) (slots_of c)) behind ∙ count_live headers new.slot (one_fewer (count_of x)) new.more live.0 live.1;
        once = subst (λ c. IsDistinct nat_eq (slots_of c)) (sym behind) (count_once new.slot (one_fewer (count_of x)) new.more (subst (λ c. IsDistinct nat_eq (slots_of c)) new.is m.sound.once));
        counted = ap (list_all (λ entry. is_counted entry.1)) behind ∙ count_counted new.slot (one_fewer (count_of x)) new.more counted.1;
      };
      headers = m.headers;
      live = m.live;
      count = m.count;
      once = m.once;
      numbers = m.numbers;
      caught = subst (λ ys. AreCaught headers (left_of ys) (ended_on w.exceptions.caught).1) (sym is)
          (subst (AreCaught headers (left_count x.again x.more x.number xs)) (sym behind) (left_alike headers x xs new.slot new.more new.here new.rest));
      uncaught = m.uncaught;
      terminate_handler = m.terminate_handler;
      unexpected_handler = m.unexpected_handler;
      distinct = m.distinct;
      left = m.left;
    }

-- what became of the exception
pub ended_last : (x : Entry) (slot : ℕ) (n : ℤ) → n ≡ count_of x → is_last x ≡ true → ended_as slot n ≡ Last slot
ended_last x slot n counted last = ap (ended_as slot) counted ∙ by x.again x.more last
  where
    by : (a : Bool) (m : ℕ) → last_count a m ≡ true → ended_as slot (if a then negsuc m else pos (suc m)) ≡ Last slot
    by true m last = absurd (cc last)
    by false zero last = refl
    by false (suc m) last = absurd (cc last)

pub ended_still : (x : Entry) (slot : ℕ) (n : ℤ) (P : Ended → Type 0) → n ≡ count_of x → is_last x ≡ false → P (Active slot) → P (Travelling slot) → P (ended_as slot n)
ended_still x slot n P counted last active travelling = subst (λ c. P (ended_as slot c)) (sym counted) (by x.again x.more last)
  where
    by : (a : Bool) (m : ℕ) → last_count a m ≡ false → P (ended_as slot (if a then negsuc m else pos (suc m)))
    by true m last = travelling
    by false zero last = absurd (cc last)
    by false (suc m) last = active

-- no handler has the last one's exception any more
pub last_out : (headers : Headers) (x : Entry) (xs : List Entry) (e : Exceptions) → (new : Newest headers x xs e.caught) → IsDistinct nat_eq (slots_of e.caught) → is_last x ≡ true → is_in (slots_of (ended e).1.caught) new.slot ≡ false
last_out headers x xs e new once last =
    ap (λ c. is_in (slots_of (ended_on c).1) new.slot) new.is ∙ ap (λ n. is_in (slots_of (with_count new.slot (one_fewer n) new.more)) new.slot) new.counted ∙ by x.again x.more last
  where
    by : (a : Bool) (m : ℕ) → last_count a m ≡ true → is_in (slots_of (with_count new.slot (one_fewer (if a then negsuc m else pos (suc m))) new.more)) new.slot ≡ false
    by true m last = absurd (cc last)
    by false zero last = not_below_top new.slot (slots_of new.more) (subst (λ c. IsDistinct nat_eq (slots_of c)) new.is once)
    by false (suc m) last = absurd (cc last)

-- ---- a native exception that no handler has is to be destroyed

module _ (t : Addresses) (gone : List ℕ) (v : LinearExceptions) (w : KeptExceptions) (e slot type : ℕ) (destructor : Option ℕ) (kept : Installed) (m : ExceptionsMatch t gone v w) (h : HasHeader w.exceptions.live e slot)
    (out : is_in (slots_of w.exceptions.caught) slot ≡ false) (there : live_in v.live e ≡ Some (native type destructor kept)) (whole : contains gone e ≡ false) where
  abbrev again : Header
  again = building_again h.header

  low : slot < length w.exceptions.live
  low = slot_below w.exceptions.live slot h.header h.there

  itself : (e == e) ≡ true
  itself = grind (arith, nat_tests)

  slot_at : (s : ℕ) (k : Header) → header_of (slice_set w.exceptions.live slot (Some again)) s ≡ Some k → SlotIs t (e ∷ gone) v.live s k
  slot_at s k is = by (nat_eq slot s) refl
    where
      by : (b : Bool) → nat_eq slot s ≡ b → SlotIs t (e ∷ gone) v.live s k
      by true same =
          let eq : slot ≡ s = grind (arith, nat_tests, same) in
          let both : Some again ≡ Some k = sym (header_changed w.exceptions.live slot (Some again) low) ∙ ap (header_of (slice_set w.exceptions.live slot (Some again))) eq ∙ is in
          let one : again ≡ k = cc both in
          let old = m.headers slot h.header h.there in
          let flag : contains (e ∷ gone) h.header.number ≡ true = ap (contains (e ∷ gone)) h.number ∙ ap (λ b. b || contains gone e) itself in
          subst (λ a. SlotIs t (e ∷ gone) v.live a k) eq (subst (SlotIs t (e ∷ gone) v.live slot) one
          (record { exception = old.exception; live = old.live; object = old.object; is = subst (λ b. HeaderIs t b old.exception again) (sym flag) refl }))
      by false other =
          let was : header_of w.exceptions.live s ≡ Some k = sym (header_kept w.exceptions.live slot s (Some again) other) ∙ is in
          let old = m.headers s k was in
          let apart = other_number t gone v w e slot s k m h was other in
          record { exception = old.exception; live = old.live; object = old.object; is = subst (λ b. HeaderIs t b old.exception k) (sym (ap (λ b. b || contains gone k.number) apart)) old.is }

  live_at : (d : ℕ) (x : Exception) → live_in v.live d ≡ Some x → (s : ℕ) × HasHeader (slice_set w.exceptions.live slot (Some again)) d s
  live_at d x is = by (e == d) refl
    where
      by : (b : Bool) → (e == d) ≡ b → (s : ℕ) × HasHeader (slice_set w.exceptions.live slot (Some again)) d s
      by true same = let eq : e ≡ d = grind (arith, nat_tests, same) in (slot, record { header = again; there = header_changed w.exceptions.live slot (Some again) low; number = h.number ∙ eq })
      by false other =
          let old = m.live d x is in
          (old.0, record { header = old.1.header; there = header_kept w.exceptions.live slot old.0 (Some again) (other_slot w e slot d old.0 h old.1 other) ∙ old.1.there; number = old.1.number })

  left_at : (d : ℕ) → contains (e ∷ gone) d ≡ true → IsLeft v.live d
  left_at d is = by (e == d) refl is
    where
      by : (b : Bool) → (e == d) ≡ b → ((e == d) || contains gone d) ≡ true → IsLeft v.live d
      by true same is = let eq : e ≡ d = grind (arith, nat_tests, same) in record { type = type; destructor = destructor; kept = kept; live = ap (live_in v.live) (sym eq) ∙ there }
      by false other is = m.left d (sym (ap (λ b. b || contains gone d) other) ∙ is)

  pub let_go_match : ExceptionsMatch t (e ∷ gone) v (record w { exceptions = with_header slot again w.exceptions })
  let_go_match = record {
    sound = sound_kept w.exceptions slot (Some again) out m.sound;
    headers = slot_at;
    live = live_at;
    count = omega (
      arith,
      both_counts w.exceptions.live,
      both_counts (slice_set w.exceptions.live slot (Some again)),
      count_replaced w.exceptions.live slot again low (ap is_some h.there),
      length-set w.exceptions.live slot (Some again),
      m.count,
    );
    once = m.once;
    numbers = m.numbers;
    caught = all_caught w.exceptions.live slot (Some again) v.caught w.exceptions.caught out m.caught;
    uncaught = m.uncaught;
    terminate_handler = m.terminate_handler;
    unexpected_handler = m.unexpected_handler;
    distinct = (whole, m.distinct);
    left = left_at;
  }
