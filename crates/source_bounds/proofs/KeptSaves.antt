-- Where the registers of kept variables are saved.
use Rattle.std.proofs.Common.{◌≡◌, ◌∙◌, refl, ap, arith, ℕ, zero, suc, ◌+◌, ◌*◌, ◌<◌, ◌≤◌, Bool, true, false, nat_lt, List, [], ◌∷◌, take, length, Some, if◌then◌else◌}
use Rattle.std.specs.Prelude.{slice_get, pos, ◌-ℤ◌}
use Rattle.eh_bytes.specs.declared.frames.FrameMove.{FrameMove}
use Rattle.eh_bytes.specs.declared.frames.FrameChange.TheVariants.{Saved}
use Rattle.region_forms.specs.Form.{Slot}
use Rattle.linear_forms.specs.Frame.{rounded_up, slot_bytes}
use Rattle.linear_forms.specs.Linear.{FunctionCode}
use Rattle.linear_forms.specs.Unit.{function_code}
use Rattle.landing_pads.specs.Frames.{AllFramesFit}
use Rattle.machine_forms.specs.Emitted.{shape_of}
use Rattle.machine_forms.specs.Immediate.{immediate}
use Rattle.machine_forms.specs.Kept.{untaken, kept_slots}
use Rattle.machine_forms.specs.KeptCode.{one_saved, save_moves}
use Rattle.machine_forms.specs.KeptLaws.{AllVariablesAreKept}
use Rattle.machine_forms.specs.Registers.{saved_registers}
use Rattle.machine_forms.specs.Shape.{Shape, prologue, slot_offset, move_at}
use Rattle.machine_forms.proofs.Chosen.{Rises, untaken_rise, taken_rise, above}
use Rattle.source_bounds.specs.KeptSaves.{KeptRegistersAreSaved}

-- ---- the changes of the frame

saves_count : (f : Shape) (parameters : ℕ) (rs ks : List ℕ) (n : ℕ) → length ks ≤ length rs → length (save_moves f parameters n rs ks) ≡ length ks
saves_count f parameters [] [] n h = refl
saves_count f parameters [] (s ∷ ks) n h = absurd (omega (arith, h))
saves_count f parameters (r ∷ rs) [] n h = refl
saves_count f parameters (r ∷ rs) (s ∷ ks) n h =
    let rest = saves_count f parameters rs ks (n + length (one_saved parameters (immediate (pos (slot_offset f s))) r s)) (omega (arith, h)) in omega (arith, rest)

-- the change that saves a register in a slot behind a word
abbrev saved_behind : Shape → (word s r : ℕ) → FrameMove
saved_behind f word s r = move_at (4 * word) (Saved r (pos (slot_offset f s) -ℤ pos f.size))

a_word_on : (n : ℕ) (b : Bool) → n < n + (if b then 2 else 1)
a_word_on n true = omega arith
a_word_on n false = omega arith

saves_at : (f : Shape) (parameters : ℕ) (rs ks : List ℕ) (n j s r : ℕ) → slice_get ks j ≡ Some s → slice_get rs j ≡ Some r →
    (m : ℕ) × (slice_get (save_moves f parameters n rs ks) j ≡ Some (saved_behind f m s r)) × (n < m)
saves_at f parameters [] ks n j s r e g = absurd (cc g)
saves_at f parameters (q ∷ rs) [] n j s r e g = absurd (cc e)
saves_at f parameters (q ∷ rs) (k ∷ ks) n zero s r e g =
    let slot : k ≡ s = cc e in
    let register : q ≡ r = cc g in
    let m : ℕ = n + (if nat_lt k parameters then 2 else 1) in
    (m, ap (λ t. Some (saved_behind f m t q)) slot ∙ ap (λ t. Some (saved_behind f m s t)) register, a_word_on n (nat_lt k parameters))
saves_at f parameters (q ∷ rs) (k ∷ ks) n (suc j) s r e g =
    let more = saves_at f parameters rs ks (n + length (one_saved parameters (immediate (pos (slot_offset f k))) q k)) j s r e g in
    let behind = more.2 in
    (more.0, more.1, omega (arith, behind))

-- ---- the places

-- a slot lies below those before it
next_bytes : (slots : List Slot) (n t : ℕ) (x : Slot) → n ≤ t → slice_get slots t ≡ Some x → slot_bytes (take n slots) + rounded_up 7 x.size ≤ slot_bytes (take (suc t) slots)
next_bytes [] n t x h e = absurd (cc e)
next_bytes (y ∷ slots) zero zero x h e =
    let same : y ≡ x = cc e in let size : y.size ≡ x.size = ap (λ (z : Slot). z.size) same in omega (arith, size)
next_bytes (y ∷ slots) zero (suc t) x h e = omega (arith, next_bytes slots zero t x (omega arith) e)
next_bytes (y ∷ slots) (suc n) zero x h e = absurd (omega (arith, h))
next_bytes (y ∷ slots) (suc n) (suc t) x h e = omega (arith, next_bytes slots n t x (omega (arith, h)) e)

taken_bytes : (slots : List Slot) (n : ℕ) → slot_bytes (take n slots) ≤ slot_bytes slots
taken_bytes slots zero = omega arith
taken_bytes [] (suc n) = omega arith
taken_bytes (y ∷ slots) (suc n) = omega (arith, taken_bytes slots n)

-- kept variables are in the order of their slots
kept_rise : (g : FunctionCode) → Rises 0 (kept_slots g)
unfolding kept_slots
kept_rise g = taken_rise 10 0 (untaken g.ops 0 g.slots) (untaken_rise g.ops g.slots 0)

in_order : (from : ℕ) (ks : List ℕ) (j k s t : ℕ) → Rises from ks → slice_get ks j ≡ Some s → slice_get ks k ≡ Some t → j < k → s < t
in_order from [] j k s t h e g less = absurd (cc e)
in_order from (q ∷ ks) j zero s t h e g less = absurd (omega (arith, less))
in_order from (q ∷ ks) zero (suc k) s t h e g less =
    let same : q ≡ s = cc e in let high = above (q + 1) k t ks h.1 g in omega (arith, same, high)
in_order from (q ∷ ks) (suc j) (suc k) s t h e g less = in_order (q + 1) ks j k s t h.1 e g (omega (arith, less))

two_on : (a b : FrameMove) (moves : List FrameMove) (j : ℕ) → slice_get (a ∷ b ∷ moves) (2 + j) ≡ slice_get moves j
two_on a b moves j = let at : 2 + j ≡ suc (suc j) = omega arith in ap (slice_get (a ∷ b ∷ moves)) at

pub kept_registers_are_saved : AllVariablesAreKept → AllFramesFit → KeptRegistersAreSaved
kept_registers_are_saved kept frames r =
    let g : FunctionCode = function_code r in
    let f : Shape = shape_of g in
    let fits = frames r in
    let few : length (kept_slots g) ≤ length saved_registers = (kept g).few in
    record {
      moves = omega (arith, saves_count f g.parameters saved_registers (kept_slots g) (length (prologue f)) few);
      saved = λ j s q e there.
          let at = saves_at f g.parameters saved_registers (kept_slots g) (length (prologue f)) j s q e there in
          (at.0, two_on _ _ (save_moves f g.parameters (length (prologue f)) saved_registers (kept_slots g)) j ∙ at.1, at.2);
      apart = λ j k s t e there less.
          let own = (kept g).are k t there in
          let next = next_bytes g.slots (s + 1) t own.slot (omega (arith, in_order 0 (kept_slots g) j k s t (kept_rise g) e there less)) own.there in
          let at : t + 1 ≡ suc t = omega arith in
          let one : slot_bytes (take (t + 1) g.slots) ≡ slot_bytes (take (suc t) g.slots) = ap (λ n. slot_bytes (take n g.slots)) at in
          omega (arith, next, one, own.size, taken_bytes g.slots (t + 1), fits.room);
      inside = λ j s e. omega (arith, taken_bytes g.slots (s + 1), fits.room);
    }
