-- An exception is made on both machines.
use Rattle.std.proofs.Common.{◌≡◌, ◌≢◌, ◌∙◌, refl, sym, ap, subst, arith, ℕ, ◌+◌, ◌<◌, ◌≤◌, ◌==◌, ◌&&◌, nat_eq, nat_lt, Bool, true, false, not, cond, List, [], ◌∷◌, length, slice_set, count_by, Option, Some, None, is_some}
use Rattle.std.proofs.lemmas.Bool.Decides.{nat_tests}
use Rattle.std.proofs.lemmas.List.Sums.{sum_by-cons}
use Rattle.meaning_forms.specs.Class.{contains}
use Rattle.caught_stack.specs.declared.header.Header.{Header}
use Rattle.caught_stack.specs.declared.header.HeaderKind.TheVariants.{Building}
use Rattle.caught_stack.specs.Allocate.{with_header}
use Rattle.caught_stack.specs.Slots.{is_in}
use Rattle.caught_stack.specs.Caught.{slots_of}
use Rattle.caught_stack.specs.Live.{Live as Headers, slots, header_of, is_live, is_vacant, live_count}
use Rattle.caught_stack.proofs.Headers.{vacant_below, vacant_not_live, header_changed, header_kept}
use Rattle.cxa_runtime.specs.Objects.{object_of, first_vacant_from, slot_for}
use Rattle.cxa_runtime.specs.Allocate.{new_header}
use Rattle.cxa_runtime.proofs.ForeignCounts.{first_known}
use Rattle.region_forms.specs.World.{Exception, building, native, foreign}
use Rattle.machine_simulation.specs.Exceptions.{Addresses, LinearExceptions, KeptExceptions, live_in, IsFunction, HeaderIs, SlotIs, HasHeader, IsLeft, ExceptionsMatch}
use Rattle.machine_exceptions.proofs.LiveLists.{with_one, still_in, new_in, other_in, once_more, one_more}
use Rattle.machine_exceptions.proofs.Headers.{count_more, IsIdle, none_caught, all_caught, sound_kept}

-- ---- a slot that is given

some_vacant : (n : ℕ) (live : Headers) → count_by is_some live < length live → (s : ℕ) × (first_vacant_from n live ≡ Some s)
unfolding first_vacant_from
some_vacant n [] h = absurd (omega (arith, h))
some_vacant n (None ∷ more) h = (n, refl)
some_vacant n (Some y ∷ more) h =
    let first = sum_by-cons (λ (o : Option Header). cond (is_some o) 1 0) (Some y) more in
    some_vacant (n + 1) more (omega arith)

pub slot_given : (live : Headers) (wish : ℕ) → length live ≡ slots → live_count live < slots → (s : ℕ) × (slot_for live wish ≡ Some s) × (is_vacant live s ≡ true)
slot_given live wish long few = by (is_vacant live wish) refl
  where
    vacant : (s : ℕ) → s < length live → header_of live s ≡ None → is_vacant live s ≡ true
    vacant s low none =
        let less : nat_lt s slots ≡ true = grind (arith, nat_tests, low, long) in
        ap (λ b. b && not (is_live live s)) less ∙ ap (λ o. not (is_some o)) none

    by : (b : Bool) → is_vacant live wish ≡ b → (s : ℕ) × (slot_for live wish ≡ Some s) × (is_vacant live s ≡ true)
    by true is = (wish, ap (λ c. cond c (Some wish) (first_vacant_from 0 live)) is, is)
    by false is =
        let found = some_vacant 0 live (omega (arith, few, long)) in
        let known = first_known live found.0 found.1 in
        (found.0, ap (λ c. cond c (Some wish) (first_vacant_from 0 live)) is ∙ found.1, vacant found.0 known.0 known.1)

-- ---- addresses of objects are others

abbrev pub moved_to : Addresses → (ℕ → ℕ) → Addresses
moved_to t o = record { unit = t.unit; base = t.base; object = o }

function_moved : (t : Addresses) (o : ℕ → ℕ) (f : Option ℕ) (a : ℕ) → IsFunction t f a → IsFunction (moved_to t o) f a
function_moved t o None a h = h
function_moved t o (Some n) a h = h

header_moved : (t : Addresses) (o : ℕ → ℕ) (b : Bool) (x : Exception) (h : Header) → HeaderIs t b x h → HeaderIs (moved_to t o) b x h
header_moved t o true x h is = is
header_moved t o false building h is = is
header_moved t o false (native type d kept) h is =
    ((is.0.0, is.0.1, function_moved t o d is.0.0 is.0.2), (function_moved t o kept.terminate_handler h.handlers.0 is.1.0, function_moved t o kept.unexpected_handler h.handlers.1 is.1.1))
header_moved t o false (foreign k token) h is = is

-- ---- the exception

-- In a vacant slot an exception gets its header, with the next number.
module _ (t : Addresses) (o : ℕ → ℕ) (gone : List ℕ) (v : LinearExceptions) (w : KeptExceptions) (e slot : ℕ) (m : ExceptionsMatch t gone v w) (next : e ≡ v.last_number + 1) (vacant : is_vacant w.exceptions.live slot ≡ true)
    (here : o e ≡ object_of slot) (others : (d : ℕ) → d ≤ v.last_number → o d ≡ t.object d) where
  abbrev header : Header
  header = new_header e Building

  low : slot < length w.exceptions.live
  low = omega (arith, vacant_below w.exceptions.live slot vacant, m.sound.slots)

  -- no number is that one
  not_there : live_in v.live e ≡ None
  not_there = by (live_in v.live e) refl
    where
      by : (y : Option Exception) → live_in v.live e ≡ y → live_in v.live e ≡ None
      by None is = is
      by (Some x) is = absurd (omega (arith, m.numbers e x is, next))

  apart : (d : ℕ) (x : Exception) → live_in v.live d ≡ Some x → (e == d) ≡ false
  apart d x is = let less = m.numbers d x is in grind (arith, nat_tests, less, next)

  idle : IsIdle w.exceptions.live slot
  idle h is =
      let none = vacant_not_live w.exceptions.live slot vacant in
      let both : true ≡ false = sym (ap is_some is) ∙ none in
      absurd (cc both)

  out : is_in (slots_of w.exceptions.caught) slot ≡ false
  out = none_caught w.exceptions.live slot idle v.caught w.exceptions.caught m.caught

  not_gone : contains gone e ≡ false
  not_gone = by (contains gone e) refl
    where
      by : (b : Bool) → contains gone e ≡ b → contains gone e ≡ false
      by false is = is
      by true is =
          let left = m.left e is in
          let both : Some (native left.type left.destructor left.kept) ≡ None = sym left.live ∙ not_there in
          absurd (cc both)

  slot_at : (s : ℕ) (k : Header) → header_of (slice_set w.exceptions.live slot (Some header)) s ≡ Some k → SlotIs (moved_to t o) gone (with_one v.live e building) s k
  slot_at s k is = by (nat_eq slot s) refl
    where
      by : (b : Bool) → nat_eq slot s ≡ b → SlotIs (moved_to t o) gone (with_one v.live e building) s k
      by true same =
          let eq : slot ≡ s = grind (arith, nat_tests, same) in
          let both : Some header ≡ Some k = sym (header_changed w.exceptions.live slot (Some header) low) ∙ ap (header_of (slice_set w.exceptions.live slot (Some header))) eq ∙ is in
          let one : header ≡ k = cc both in
          subst (λ a. SlotIs (moved_to t o) gone (with_one v.live e building) a k) eq
          (subst (SlotIs (moved_to t o) gone (with_one v.live e building) slot) one
          (record { exception = building; live = new_in v.live e building not_there; object = here; is = subst (λ b. HeaderIs (moved_to t o) b building header) (sym not_gone) refl }))
      by false other =
          let was : header_of w.exceptions.live s ≡ Some k = sym (header_kept w.exceptions.live slot s (Some header) other) ∙ is in
          let old = m.headers s k was in
          record {
            exception = old.exception;
            live = still_in v.live _ k.number old.exception old.live;
            object = others k.number (m.numbers k.number old.exception old.live) ∙ old.object;
            is = header_moved t o (contains gone k.number) old.exception k old.is;
          }

  live_at : (d : ℕ) (x : Exception) → live_in (with_one v.live e building) d ≡ Some x → (s : ℕ) × HasHeader (slice_set w.exceptions.live slot (Some header)) d s
  live_at d x is = by (e == d) refl
    where
      by : (b : Bool) → (e == d) ≡ b → (s : ℕ) × HasHeader (slice_set w.exceptions.live slot (Some header)) d s
      by true same = let eq : e ≡ d = grind (arith, nat_tests, same) in (slot, record { header = header; there = header_changed w.exceptions.live slot (Some header) low; number = eq })
      by false other =
          let was : live_in v.live d ≡ Some x = sym (other_in v.live e d building other) ∙ is in
          let old = m.live d x was in
          let different : nat_eq slot old.0 ≡ false = slot_apart (nat_eq slot old.0) refl old.1.header (λ same. ap (header_of w.exceptions.live) same ∙ old.1.there) in
          (old.0, record { header = old.1.header; there = header_kept w.exceptions.live slot old.0 (Some header) different ∙ old.1.there; number = old.1.number })
        where
          slot_apart : {s : ℕ} (b : Bool) → nat_eq slot s ≡ b → (k : Header) → (slot ≡ s → header_of w.exceptions.live slot ≡ Some k) → nat_eq slot s ≡ false
          slot_apart false is k at = is
          slot_apart {s} true is k at =
              let same : slot ≡ s = grind (arith, nat_tests, is) in
              let both : true ≡ false = sym (ap is_some (at same)) ∙ vacant_not_live w.exceptions.live slot vacant in
              absurd (cc both)

  numbered : (d : ℕ) (x : Exception) → live_in (with_one v.live e building) d ≡ Some x → d ≤ e
  numbered d x is = by (e == d) refl
    where
      by : (b : Bool) → (e == d) ≡ b → d ≤ e
      by true same = let eq : e ≡ d = grind (arith, nat_tests, same) in omega (arith, eq)
      by false other = omega (arith, m.numbers d x (sym (other_in v.live e d building other) ∙ is), next)

  left_at : (d : ℕ) → contains gone d ≡ true → IsLeft (with_one v.live e building) d
  left_at d is = let old = m.left d is in record { type = old.type; destructor = old.destructor; kept = old.kept; live = still_in v.live _ d (native old.type old.destructor old.kept) old.live }

  pub made_match : ExceptionsMatch (moved_to t o) gone (record v { live = with_one v.live e building; last_number = e }) (record w { exceptions = with_header slot header w.exceptions })
  made_match = record {
    sound = sound_kept w.exceptions slot (Some header) out m.sound;
    headers = slot_at;
    live = live_at;
    count = omega (arith, count_more w.exceptions.live slot header low (vacant_not_live w.exceptions.live slot vacant), one_more v.live e building, m.count);
    once = once_more v.live e building m.once not_there;
    numbers = numbered;
    caught = all_caught w.exceptions.live slot (Some header) v.caught w.exceptions.caught out m.caught;
    uncaught = m.uncaught;
    terminate_handler = function_moved t o v.installed.terminate_handler w.terminate_handler m.terminate_handler;
    unexpected_handler = function_moved t o v.installed.unexpected_handler w.unexpected_handler m.unexpected_handler;
    distinct = m.distinct;
    left = left_at;
  }

-- another live exception than one in a vacant slot has another slot
pub slots_apart : (t : Addresses) (gone : List ℕ) (v : LinearExceptions) (w : KeptExceptions) (slot : ℕ) → ExceptionsMatch t gone v w → is_vacant w.exceptions.live slot ≡ true → (d : ℕ) (x : Exception) → live_in v.live d ≡ Some x →
    (s : ℕ) × (t.object d ≡ object_of s) × (s ≢ slot)
slots_apart t gone v w slot m vacant d x is =
    let old = m.live d x is in
    let at = m.headers old.0 old.1.header old.1.there in (
      old.0,
      ap t.object (sym old.1.number) ∙ at.object,
      λ same. let both : true ≡ false = sym (ap is_some (ap (header_of w.exceptions.live) (sym same) ∙ old.1.there)) ∙ vacant_not_live w.exceptions.live slot vacant in cc both,
    )
