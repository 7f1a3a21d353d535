-- The headers of exceptions, of which one is changed that no handler has.
use Rattle.std.proofs.Common.{◌≡◌, ◌∙◌, refl, sym, ap, arith, ℕ, ◌+◌, ◌<◌, ◌||◌, nat_eq, Bool, true, false, List, [], ◌∷◌, length, slice_set, length-set, Option, Some, None, is_some}
use Rattle.std.proofs.lemmas.Bool.Decides.{nat_tests}
use Rattle.caught_stack.specs.declared.header.Header.{Header}
use Rattle.caught_stack.specs.Slots.{is_in}
use Rattle.caught_stack.specs.Live.{Live as Headers, header_of, is_live, live_count}
use Rattle.caught_stack.specs.Caught.{Caught, slots_of}
use Rattle.caught_stack.specs.Exceptions.{Exceptions, IsSound}
use Rattle.caught_stack.proofs.Bools.{or_false}
use Rattle.caught_stack.proofs.Stacks.{all_but}
use Rattle.caught_stack.proofs.Headers.{live_below, header_kept, live_kept, both_counts, count_allocated, count_freed}
use Rattle.cxa_runtime.specs.Objects.{object_of, is_thrown}
use Rattle.region_forms.specs.Caught.{Entry}
use Rattle.machine_simulation.specs.Exceptions.{AreCaught}

-- a slot of which a header is known is one of the slots
pub slot_below : (headers : Headers) (slot : ℕ) (h : Header) → header_of headers slot ≡ Some h → slot < length headers
slot_below headers slot h there = live_below headers slot (ap is_some there)

pub same_slot : (a b : ℕ) → object_of a ≡ object_of b → a ≡ b
same_slot a b e = omega (arith, e)

pub thrown_or : (b : Bool) → b ≡ true → b ≡ false → ⊥
thrown_or b t f = let both : true ≡ false = sym t ∙ f in cc both

-- ---- how many there are

pub count_fewer : (headers : Headers) (slot : ℕ) (h : Header) → header_of headers slot ≡ Some h → live_count (slice_set headers slot None) + 1 ≡ live_count headers
count_fewer headers slot h there =
    let low = slot_below headers slot h there in
    omega (arith, both_counts headers, both_counts (slice_set headers slot None), count_freed headers slot low (ap is_some there), length-set headers slot None)

pub count_more : (headers : Headers) (slot : ℕ) (h : Header) → slot < length headers → is_live headers slot ≡ false → live_count (slice_set headers slot (Some h)) ≡ live_count headers + 1
count_more headers slot h low vacant =
    omega (arith, both_counts headers, both_counts (slice_set headers slot (Some h)), count_allocated headers slot h low vacant, length-set headers slot (Some h))

-- ---- a slot that no handler has gets another header

-- its header, if it has one, is not of a thrown exception
abbrev pub IsIdle : Headers → ℕ → Type 0
IsIdle headers slot = (h : Header) → header_of headers slot ≡ Some h → is_thrown h.kind ≡ false

-- so no handler has it
pub none_caught : (headers : Headers) (slot : ℕ) → IsIdle headers slot → (xs : List Entry) (ys : Caught) → AreCaught headers xs ys → is_in (slots_of ys) slot ≡ false
none_caught headers slot idle [] [] h = refl
none_caught headers slot idle (x ∷ xs) ((s, n) ∷ ys) h = ap (λ b. b || is_in (slots_of ys) slot) (by (nat_eq slot s) refl) ∙ none_caught headers slot idle xs ys h.2
  where
    by : (b : Bool) → nat_eq slot s ≡ b → nat_eq slot s ≡ false
    by false is = is
    by true is =
        let same : slot ≡ s = grind (arith, nat_tests, is) in
        absurd (thrown_or (is_thrown h.0.0.header.kind) h.0.1 (idle h.0.0.header (ap (header_of headers) same ∙ h.0.0.there)))
none_caught headers slot idle [] (y ∷ ys) h = absurd h
none_caught headers slot idle (x ∷ xs) [] h = absurd h

-- those that handlers have they have still
pub all_caught : (headers : Headers) (slot : ℕ) (new : Option Header) (xs : List Entry) (ys : Caught) → is_in (slots_of ys) slot ≡ false → AreCaught headers xs ys → AreCaught (slice_set headers slot new) xs ys
all_caught headers slot new [] [] out h = tt
all_caught headers slot new (x ∷ xs) ((s, n) ∷ ys) out h =
    let parts = or_false (nat_eq slot s) (is_in (slots_of ys) slot) out in (
      (record { header = h.0.0.header; there = header_kept headers slot s new parts.0 ∙ h.0.0.there; number = h.0.0.number }, h.0.1),
      h.1,
      all_caught headers slot new xs ys parts.1 h.2,
    )
all_caught headers slot new [] (y ∷ ys) out h = absurd h
all_caught headers slot new (x ∷ xs) [] out h = absurd h

pub sound_kept : (e : Exceptions) (slot : ℕ) (new : Option Header) → is_in (slots_of e.caught) slot ≡ false → IsSound e → IsSound (record e { live = slice_set e.live slot new })
sound_kept e slot new out h = record {
  slots = length-set e.live slot new ∙ h.slots;
  live = all_but (is_live e.live) (is_live (slice_set e.live slot new)) (slots_of e.caught) slot out (λ t other. live_kept e.live slot t new other) ∙ h.live;
  once = h.once;
  counted = h.counted;
}
