-- What is saved where a call begins, and what its registers hold then.
use Rattle.std.proofs.Common.{◌≡◌, ◌∙◌, refl, ap, arith, ℕ, zero, suc, ◌+◌, ◌-◌, ◌%◌, ◌^◌, ◌<◌, ◌≤◌, ℤ, pos, List, [], ◌∷◌, ◌++◌, drop, map, take, length, Option, Some}
use Rattle.std.specs.Prelude.{Bool, true, false, nat_lt, slice_get, slice_index, if◌then◌else◌}
use Rattle.rv64_isa.specs.State.{Part}
use Rattle.region_forms.specs.Form.{int_slot}
use Rattle.region_forms.specs.World.{Word, nothing, number_word, address_word, flying, unwinding}
use Rattle.linear_forms.specs.Linear.{FunctionCode}
use Rattle.machine_forms.specs.Kept.{untaken, kept_slots}
use Rattle.machine_forms.specs.Shape.{Shape, slot_offset}
use Rattle.machine_forms.proofs.Chosen.{Rises, above, taken_rise, untaken_rise}
use Rattle.machine_pieces.specs.Memory.{MayWrite}
use Rattle.machine_pieces.specs.Numbers.{IsInt, extended}
use Rattle.machine_pieces.specs.Frames.{IntAt}
use Rattle.machine_pieces.specs.Keeping.{AreSmall}
use Rattle.machine_pieces.specs.Saving.{AreApartFrom, MaySave, begun}
use Rattle.machine_pieces.proofs.Numbers.{extended_below}
use Rattle.machine_simulation.specs.Entering.{slot_room, WordFits}
use Rattle.machine_simulation.proofs.KeptCalls.{apart_from}

-- ---- the ints of parameters

abbrev pub chosen_word : Option Word → ℤ
chosen_word (Some (number_word z)) = z
chosen_word o = pos 0

-- the int that is passed for a slot
abbrev pub chosen : List Word → ℕ → ℤ
chosen given s = chosen_word (slice_get given s)

pub chosen_is : (given : List Word) (s : ℕ) (z : ℤ) → slice_get given s ≡ Some (number_word z) → chosen given s ≡ z
chosen_is given s z e = ap chosen_word e

-- a word that fits an int variable is a number
pub number_for : (word : Word) → WordFits int_slot word → (z : ℤ) × (word ≡ number_word z)
number_for (number_word z) h = (z, refl)
number_for nothing h = absurd h
number_for (address_word b) h = absurd h
number_for (flying d t) h = absurd h
number_for (unwinding n) h = absurd h

-- ---- slots into which registers may be saved

pub kept_rises : (g : FunctionCode) → Rises 0 (kept_slots g)
unfolding kept_slots
kept_rises g = taken_rise 10 0 (untaken g.ops 0 g.slots) (untaken_rise g.ops g.slots 0)

-- one of them
pub record SlotMay (f : Shape) (memory : List Part) (parameters stack s : ℕ) (z : ℤ) : Type 0 where
  pub near : slot_offset f s < 2 ^ 11
  pub even : (stack + slot_offset f s) % 8 ≡ 0
  pub below : stack + slot_offset f s + 8 < 2 ^ 64
  pub may : MayWrite memory (stack + slot_offset f s) 8
  pub int : nat_lt s parameters ≡ true → IntAt memory (stack + slot_offset f s) z
  pub room : slot_room f s ≡ 8
  pub under : (t : ℕ) → s < t → t < length f.slots → slot_offset f t + slot_room f t ≤ slot_offset f s

pub may_save_all : (f : Shape) (memory : List Part) (parameters stack : ℕ) (ints : ℕ → ℤ) (from : ℕ) (ks : List ℕ) → Rises from ks →
    ((j s : ℕ) → slice_get ks j ≡ Some s → SlotMay f memory parameters stack s (ints s) × (s < length f.slots)) → MaySave f memory parameters stack ks (map ints ks)
may_save_all f memory parameters stack ints from [] rise h = tt
may_save_all f memory parameters stack ints from (s ∷ ks) rise h =
    let one = (h 0 s refl).0 in (
      one.near,
      one.even,
      one.below,
      one.may,
      one.int,
      apart_from f stack (stack + slot_offset f s) 8 ks (λ j t there i k hi hk e.
          let more = above (s + 1) j t ks rise.1 there in
          let other = h (suc j) t there in
          let under = one.under t (omega (arith, more)) other.1 in
          let room = other.0.room in
          absurd (omega (arith, under, room, hi, e))),
      may_save_all f memory parameters stack ints (s + 1) ks rise.1 (λ j t e. h (suc j) t e),
    )

-- ---- what registers hold then

pub begun_at : (parameters : ℕ) (ints : ℕ → ℤ) (ks regs : List ℕ) (j s : ℕ) → slice_get ks j ≡ Some s → nat_lt s parameters ≡ true → length ks ≤ length regs → slice_index (begun parameters ks (map ints ks) regs) j ≡ extended (ints s)
begun_at parameters ints [] regs j s e less few = absurd (cc e)
begun_at parameters ints (k ∷ ks) [] j s e less few = absurd (omega (arith, few))
begun_at parameters ints (k ∷ ks) (v ∷ regs) zero s e less few =
    let same : k ≡ s = cc e in
    let test : nat_lt k parameters ≡ true = ap (λ i. nat_lt i parameters) same ∙ less in
    ap (λ b. if b then extended (ints k) else v) test ∙ ap (λ i. extended (ints i)) same
begun_at parameters ints (k ∷ ks) (v ∷ regs) (suc j) s e less few = begun_at parameters ints ks regs j s e less (omega (arith, few))

pub begun_small : (parameters : ℕ) (ints : ℕ → ℤ) (ks regs : List ℕ) → ((j s : ℕ) → slice_get ks j ≡ Some s → nat_lt s parameters ≡ true → IsInt (ints s)) → AreSmall regs → AreSmall (begun parameters ks (map ints ks) regs)
begun_small parameters ints [] regs h small = small
begun_small parameters ints (k ∷ ks) [] h small = tt
begun_small parameters ints (k ∷ ks) (v ∷ regs) h small = (by (nat_lt k parameters) refl, begun_small parameters ints ks regs (λ j s e. h (suc j) s e) small.1)
  where
    by : (b : Bool) → nat_lt k parameters ≡ b → (if b then extended (ints k) else v) < 2 ^ 64
    by true e = extended_below (ints k) (h 0 k refl e)
    by false e = small.0

pub begun_rest : (parameters : ℕ) (ints : ℕ → ℤ) (ks regs : List ℕ) → drop (length ks) (begun parameters ks (map ints ks) regs) ≡ drop (length ks) regs
begun_rest parameters ints [] regs = refl
begun_rest parameters ints (k ∷ ks) [] = refl
begun_rest parameters ints (k ∷ ks) (v ∷ regs) = begun_rest parameters ints ks regs

pub take_and_rest : (n : ℕ) (xs : List ℕ) → take n xs ++ drop n xs ≡ xs
take_and_rest zero xs = refl
take_and_rest (suc n) [] = refl
take_and_rest (suc n) (y ∷ xs) = ap (λ l. y ∷ l) (take_and_rest n xs)

pub take_small : (n : ℕ) (xs : List ℕ) → AreSmall xs → AreSmall (take n xs)
take_small zero xs h = tt
take_small (suc n) [] h = tt
take_small (suc n) (y ∷ xs) h = (h.0, take_small n xs h.1)

pub take_length : (n : ℕ) (xs : List ℕ) → n ≤ length xs → length (take n xs) ≡ n
take_length zero xs le = refl
take_length (suc n) [] le = absurd (omega (arith, le))
take_length (suc n) (y ∷ xs) le = ap suc (take_length n xs (omega (arith, le)))

-- ---- bytes inside others

pub apart_within : (f : Shape) (stack a n b k : ℕ) (ks : List ℕ) → AreApartFrom f stack a n ks → a ≤ b → b + k ≤ a + n → AreApartFrom f stack b k ks
apart_within f stack a n b k [] h from to = tt
apart_within f stack a n b k (s ∷ ks) h from to = (λ i j hi hj e. h.0 i (b - a + j) hi (omega (arith, hj, from, to)) (omega (arith, e, from)), apart_within f stack a n b k ks h.1 from to)
