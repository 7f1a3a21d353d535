-- Which variables are kept.
use Rattle.std.proofs.Common.{◌≡◌, ◌∙◌, refl, sym, ap, arith, ℕ, zero, suc, ◌+◌, ◌*◌, ◌≤◌, Bool, true, false, List, [], ◌∷◌, take, length, length-append, length-take, Some}
use Rattle.std.specs.Prelude.{slice_get, ◌==◌, ◌&&◌, not, nat_lt, pos, if◌then◌else◌}
use Rattle.std.proofs.lemmas.Bool.Decides.{nat_tests}
use Rattle.region_forms.specs.Form.{Slot}
use Rattle.linear_forms.specs.Linear.{LinearOp, FunctionCode}
use Rattle.machine_forms.specs.Immediate.{immediate}
use Rattle.machine_forms.specs.Registers.{saved_registers}
use Rattle.machine_forms.specs.Shape.{Shape, slot_offset}
use Rattle.machine_forms.specs.Kept.{is_int, is_one_int, is_taken, untaken, kept_slots}
use Rattle.machine_forms.specs.KeptCode.{register_among, one_saved, saves, restores}
use Rattle.machine_forms.specs.KeptLaws.{IsKept, AllVariablesAreKept}

-- ---- lists

taken_is : (n j t : ℕ) (xs : List ℕ) → slice_get (take n xs) j ≡ Some t → slice_get xs j ≡ Some t
taken_is zero j t xs e = absurd (cc e)
taken_is (suc n) j t [] e = e
taken_is (suc n) zero t (x ∷ xs) e = e
taken_is (suc n) (suc j) t (x ∷ xs) e = taken_is n j t xs e

-- ---- what is chosen

-- the slot at a place, counted from s on
pub record At (ops : List LinearOp) (s t : ℕ) (slots : List Slot) : Type 0 where
  pub place : ℕ
  pub is : t ≡ s + place
  pub slot : Slot
  pub there : slice_get slots place ≡ Some slot
  pub int : is_one_int slot ≡ true
  pub free : is_taken t ops ≡ false

later : (ops : List LinearOp) (s t : ℕ) (slot : Slot) (slots : List Slot) → At ops (s + 1) t slots → At ops s t (slot ∷ slots)
later ops s t slot slots h = record { place = suc h.place; is = omega (arith, h.is); slot = h.slot; there = h.there; int = h.int; free = h.free }

both : (a b : Bool) → (a && not b) ≡ true → (a ≡ true) × (b ≡ false)
both true false e = (refl, refl)
both true true e = absurd (cc e)
both false b e = absurd (cc e)

untaken_are : (ops : List LinearOp) (slots : List Slot) (s j t : ℕ) → slice_get (untaken ops s slots) j ≡ Some t → At ops s t slots
untaken_are ops [] s j t e = absurd (cc e)
untaken_are ops (slot ∷ slots) s j t e = by (λ j e. untaken_are ops slots (s + 1) j t e) (is_one_int slot && not (is_taken s ops)) refl j e
  where
    by : ((j : ℕ) → slice_get (untaken ops (s + 1) slots) j ≡ Some t → At ops (s + 1) t slots) → (b : Bool) → (is_one_int slot && not (is_taken s ops)) ≡ b → (j : ℕ) → slice_get (if b then s ∷ untaken ops (s + 1) slots else untaken ops (s + 1) slots) j ≡ Some t → At ops s t (slot ∷ slots)
    by more true is zero e =
        let same : s ≡ t = cc e in
        let parts = both (is_one_int slot) (is_taken s ops) is in
        record { place = 0; is = omega (arith, same); slot = slot; there = refl; int = parts.0; free = ap (λ k. is_taken k ops) (sym same) ∙ parts.1 }
    by more true is (suc j) e = later ops s t slot slots (more j e)
    by more false is j e = later ops s t slot slots (more j e)

one_int : (kind four : Bool) → (kind && four) ≡ true → (kind ≡ true) × (four ≡ true)
one_int true true e = (refl, refl)
one_int true false e = absurd (cc e)
one_int false four e = absurd (cc e)

kept_is : (g : FunctionCode) (j s : ℕ) → slice_get (kept_slots g) j ≡ Some s → IsKept g s
unfolding kept_slots
kept_is g j s e =
    let h = untaken_are g.ops g.slots 0 j s (taken_is 10 j s (untaken g.ops 0 g.slots) e) in
    let same : h.place ≡ s = omega (arith, h.is) in
    let parts = one_int (is_int h.slot.kind) (h.slot.size == 4) h.int in
    let four = parts.1 in
    record { slot = h.slot; there = ap (slice_get g.slots) (sym same) ∙ h.there; int = parts.0; size = grind (arith, nat_tests, four); free = h.free }

-- ---- registers

-- each stands behind those before it
abbrev pub Rises : ℕ → List ℕ → Type 0
Rises s [] = Unit {0}
Rises s (k ∷ ks) = (s ≤ k) × Rises (k + 1) ks

weaker : (s t : ℕ) (ks : List ℕ) → s ≤ t → Rises t ks → Rises s ks
weaker s t [] le h = tt
weaker s t (k ∷ ks) le h = (omega (arith, le, h.0), h.1)

pub untaken_rise : (ops : List LinearOp) (slots : List Slot) (s : ℕ) → Rises s (untaken ops s slots)
untaken_rise ops [] s = tt
untaken_rise ops (slot ∷ slots) s = by (untaken_rise ops slots (s + 1)) (is_one_int slot && not (is_taken s ops))
  where
    by : Rises (s + 1) (untaken ops (s + 1) slots) → (b : Bool) → Rises s (if b then s ∷ untaken ops (s + 1) slots else untaken ops (s + 1) slots)
    by more true = (omega arith, more)
    by more false = weaker s (s + 1) (untaken ops (s + 1) slots) (omega arith) more

pub taken_rise : (n s : ℕ) (ks : List ℕ) → Rises s ks → Rises s (take n ks)
taken_rise zero s ks h = tt
taken_rise (suc n) s [] h = tt
taken_rise (suc n) s (k ∷ ks) h = (h.0, taken_rise n (k + 1) ks h.1)

pub above : (s j t : ℕ) (ks : List ℕ) → Rises s ks → slice_get ks j ≡ Some t → s ≤ t
above s j t [] h e = absurd (cc e)
above s zero t (k ∷ ks) h e = let same : k ≡ t = cc e in omega (arith, same, h.0)
above s (suc j) t (k ∷ ks) h e = let more = above (k + 1) j t ks h.1 e in omega (arith, more, h.0)

own_register : (rs ks : List ℕ) (s j t : ℕ) → Rises s ks → slice_get ks j ≡ Some t → register_among rs ks t ≡ slice_get rs j
own_register [] ks s j t h e = refl
own_register (r ∷ rs) [] s j t h e = absurd (cc e)
own_register (r ∷ rs) (k ∷ ks) s zero t h e =
    let same : k ≡ t = cc e in
    let test : (k == t) ≡ true = grind (arith, nat_tests, same) in
    ap (λ b. if b then Some r else register_among rs ks t) test
own_register (r ∷ rs) (k ∷ ks) s (suc j) t h e =
    let more = above (k + 1) j t ks h.1 e in
    let test : (k == t) ≡ false = grind (arith, nat_tests, more) in
    ap (λ b. if b then Some r else register_among rs ks t) test ∙ own_register rs ks (k + 1) j t h.1 e

-- ---- words

one_short : (parameters offset r s : ℕ) → length (one_saved parameters offset r s) ≤ 3
one_short parameters offset r s = by (nat_lt s parameters)
  where
    by : (b : Bool) → length (if b then one_saved 1 offset r 0 else one_saved 0 offset r 0) ≤ 3
    by true = omega arith
    by false = omega arith

saves_short : (f : Shape) (parameters : ℕ) (rs ks : List ℕ) → length (saves f parameters rs ks) ≤ 3 * length rs
saves_short f parameters [] ks = omega arith
saves_short f parameters (r ∷ rs) [] = omega arith
saves_short f parameters (r ∷ rs) (k ∷ ks) =
    let first = one_saved parameters (immediate (pos (slot_offset f k))) r k in
    omega (arith, length-append first (saves f parameters rs ks), one_short parameters (immediate (pos (slot_offset f k))) r k, saves_short f parameters rs ks)

restores_short : (f : Shape) (rs ks : List ℕ) → length (restores f rs ks) ≤ length rs
restores_short f [] ks = omega arith
restores_short f (r ∷ rs) [] = omega arith
restores_short f (r ∷ rs) (k ∷ ks) = omega (arith, restores_short f rs ks)

pub variables_are_kept : AllVariablesAreKept
unfolding kept_slots
variables_are_kept g = record {
  few = omega (arith, length-take 10 (untaken g.ops 0 g.slots));
  are = kept_is g;
  registers = λ j s e. own_register saved_registers (kept_slots g) 0 j s (taken_rise 10 0 (untaken g.ops 0 g.slots) (untaken_rise g.ops g.slots 0)) e;
  saved = λ f parameters. saves_short f parameters saved_registers (kept_slots g);
  restored = λ f. restores_short f saved_registers (kept_slots g);
}
