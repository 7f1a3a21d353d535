-- The registers of a hart that enters a frame.
use Rattle.std.proofs.Common.{◌≡◌, ◌≢◌, ◌∙◌, refl, sym, ap, arith, ℕ, zero, suc, ◌+◌, ◌<◌, ◌≤◌, ◌==◌, Bool, true, false, List, length, slice_set, length-set, if◌then◌else◌}
use Rattle.std.specs.Prelude.{slice_index}
use Rattle.std.proofs.lemmas.List.{get_or-set_same, get_or-set_other}
use Rattle.std.proofs.lemmas.Bool.Decides.{nat_tests}
use Rattle.rv64_isa.specs.State.{reg_of, with_reg}
use Rattle.raise_core.specs.Raise.{with_registers}

with_length : (regs : List ℕ) (n v : ℕ) → length (with_reg regs n v) ≡ length regs
with_length regs n v = by (n == 0)
  where
    by : (b : Bool) → length (if b then regs else slice_set regs n v) ≡ length regs
    by true = refl
    by false = length-set regs n v

pub all_length : (k n : ℕ) (values regs : List ℕ) → length (with_registers n k values regs) ≡ length regs
unfolding with_registers
all_length zero n values regs = refl
all_length (suc k) n values regs = all_length k (n + 1) values (with_reg regs n (slice_index values n)) ∙ with_length regs n (slice_index values n)

-- register m, where register n is set
read_same : (regs : List ℕ) (m v : ℕ) → 0 < m → m < length regs → reg_of (with_reg regs m v) m ≡ v
read_same regs m v some room = by (m == 0) refl
  where
    by : (b : Bool) → (m == 0) ≡ b → (if b then 0 else slice_index (if b then regs else slice_set regs m v) m) ≡ v
    by true e = absurd (let wrong : m ≡ 0 = grind (arith, nat_tests, e) in omega (arith, some, wrong))
    by false e = get_or-set_same regs m v 0 room

read_other : (regs : List ℕ) (n m v : ℕ) → m < n → reg_of (with_reg regs n v) m ≡ reg_of regs m
read_other regs n m v below = ap (λ x. if m == 0 then 0 else x) (by (n == 0))
  where
    by : (b : Bool) → slice_index (if b then regs else slice_set regs n v) m ≡ slice_index regs m
    by true = refl
    by false = let other : m ≢ n = omega (arith, below) in get_or-set_other regs n m v 0 other

kept : (k n m : ℕ) (values regs : List ℕ) → m < n → reg_of (with_registers n k values regs) m ≡ reg_of regs m
unfolding with_registers
kept zero n m values regs below = refl
kept (suc k) n m values regs below =
    kept k (n + 1) m values (with_reg regs n (slice_index values n)) (omega (arith, below)) ∙ read_other regs n m (slice_index values n) below

here : (k m : ℕ) (values regs : List ℕ) → 0 < m → m < length regs → reg_of (with_registers m (suc k) values regs) m ≡ slice_index values m
unfolding with_registers
here k m values regs some room =
    kept k (m + 1) m values (with_reg regs m (slice_index values m)) (omega arith) ∙ read_same regs m (slice_index values m) some room

later : (k n : ℕ) (values regs : List ℕ) → with_registers n (suc k) values regs ≡ with_registers (n + 1) k values (with_reg regs n (slice_index values n))
unfolding with_registers
later k n values regs = refl

-- each register from the first on is set, but x0
pub register_set : (k n m : ℕ) (values regs : List ℕ) → n ≤ m → m < n + k → 0 < m → m < length regs → reg_of (with_registers n k values regs) m ≡ slice_index values m
register_set zero n m values regs from to some room = absurd (omega (arith, from, to))
register_set (suc k) n m values regs from to some room = by (λ next. register_set k (n + 1) m values (with_reg regs n (slice_index values n)) next (omega (arith, to)) some (omega (arith, room, with_length regs n (slice_index values n)))) (n == m) refl
  where
    by : (n + 1 ≤ m → reg_of (with_registers (n + 1) k values (with_reg regs n (slice_index values n))) m ≡ slice_index values m) → (b : Bool) → (n == m) ≡ b →
        reg_of (with_registers n (suc k) values regs) m ≡ slice_index values m
    by more true e = let same : m ≡ n = grind (arith, nat_tests, e) in ap (λ j. reg_of (with_registers j (suc k) values regs) m) (sym same) ∙ here k m values regs some room
    by more false e = let next : n + 1 ≤ m = grind (arith, nat_tests, e, from) in ap (λ l. reg_of l m) (later k n values regs) ∙ more next

-- sp, which is register 2
pub pointer_set : (values regs : List ℕ) → length regs ≡ 32 → reg_of (with_registers 0 32 values regs) 2 ≡ slice_index values 2
pointer_set values regs many = register_set 32 0 2 values regs (omega arith) (omega arith) (omega arith) (omega (arith, many))
