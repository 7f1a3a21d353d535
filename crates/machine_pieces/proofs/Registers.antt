-- Registers are read and written.
use Rattle.std.proofs.Common.{◌≡◌, ◌≢◌, ◌∙◌, refl, sym, ap, ℕ, ◌<◌, ◌≤◌, ◌==◌, true, false, List, [], ◌∷◌, length, slice_set}
use Rattle.std.specs.Prelude.{slice_index, nat_lt, nat_le}
use Rattle.std.proofs.lemmas.Bool.{cond_both, eqb-true, ltb-true, leb-true, ne_eqb, agree_below_at}
use Rattle.std.proofs.lemmas.List.{length-set, get_or-set_same, get_or-set_other}
use Rattle.rv64_isa.specs.State.{reg_of, with_reg}
use Rattle.machine_forms.specs.Registers.{register}

pub set_length : (regs : List ℕ) (n v : ℕ) → length (with_reg regs n v) ≡ length regs
set_length regs n v = cond_both (n == 0) regs (slice_set regs n v) (λ r. length r ≡ length regs) (λ e. refl) (λ e. length-set regs n v)

pub read_same : (regs : List ℕ) (n v : ℕ) → n ≢ 0 → n < length regs → reg_of (with_reg regs n v) n ≡ v
read_same regs n v some inside = let test : (n == 0) ≡ false = ne_eqb n 0 some in rw test (get_or-set_same regs n v 0 inside)

read_set : (regs : List ℕ) (n m v : ℕ) → m ≢ n → reg_of (slice_set regs n v) m ≡ reg_of regs m
read_set regs n m v ne = rw (get_or-set_other regs n m v 0 ne) refl

pub read_other : (regs : List ℕ) (n m v : ℕ) → m ≢ n → reg_of (with_reg regs n v) m ≡ reg_of regs m
read_other regs n m v ne = cond_both (n == 0) regs (slice_set regs n v) (λ r. reg_of r m ≡ reg_of regs m) (λ e. refl) (λ e. read_set regs n m v ne)

-- the place of a register among those for values, or 15
unfoldable pub places : List ℕ
places = 15 ∷ 15 ∷ 15 ∷ 15 ∷ 15 ∷ 8 ∷ 9 ∷ 10 ∷ 15 ∷ 15 ∷ 0 ∷ 1 ∷ 2 ∷ 3 ∷ 4 ∷ 5 ∷ 6 ∷ 7 ∷ 15 ∷ 15 ∷ 15 ∷ 15 ∷ 15 ∷ 15 ∷ 15 ∷ 15 ∷ 15 ∷ 15 ∷ 11 ∷ 12 ∷ 13 ∷ 14 ∷ []

unfoldable pub value_place : ℕ → ℕ
value_place r = slice_index places r

pub value_found : (k : ℕ) → k < 15 → value_place (register k) ≡ k
unfolding places value_place
value_found k small = eqb-true (value_place (register k)) k (agree_below_at (λ i. value_place (register i) == i) (λ i. true) 15 k refl small)

-- they are 15 different ones, none of which is x0, ra or sp
pub register_distinct : (i j : ℕ) → i < 15 → j < 15 → i ≢ j → register i ≢ register j
register_distinct i j hi hj ne e = ne (sym (value_found i hi) ∙ ap value_place e ∙ value_found j hj)

pub register_below : (k : ℕ) → k < 15 → register k < 32
register_below k small = ltb-true (register k) 32 (agree_below_at (λ i. nat_lt (register i) 32) (λ i. true) 15 k refl small)

pub register_above : (k : ℕ) → k < 15 → 5 ≤ register k
register_above k small = leb-true 5 (register k) (agree_below_at (λ i. nat_le 5 (register i)) (λ i. true) 15 k refl small)
