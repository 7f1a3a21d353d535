-- Registers read and set one after the other.
use Rattle.std.proofs.Common.{◌≡◌, ◌≢◌, ◌+◌, ◌-◌, ◌<◌, ◌≤◌, ◌==◌, ℕ, zero, suc, Bool, true, false, List, [], ◌∷◌, ◌++◌, length, slice_set, refl, ap, sym, ◌∙◌, arith, append_assoc, length-set, if◌then◌else◌}
use Rattle.std.specs.Prelude.{replicate, slice_index}
use Rattle.std.proofs.Math.Seq.{set-append_seam}
use Rattle.std.proofs.lemmas.List.{get_or-set_same, get_or-set_other}
use Rattle.std.proofs.lemmas.Bool.Decides.{nat_tests}
use Rattle.rv64_isa.specs.State.{reg_of, with_reg}
use Rattle.raise_core.specs.Stack.{registers_at}
use Rattle.raise_core.specs.Raise.{with_registers}

registers_length : (n k : ℕ) (regs : List ℕ) → length (registers_at n k regs) ≡ k
unfolding registers_at
registers_length n zero regs = refl
registers_length n (suc k) regs = ap suc (registers_length (n + 1) k regs)

-- one more
registers_more : (n k : ℕ) (regs : List ℕ) → registers_at n (suc k) regs ≡ registers_at n k regs ++ reg_of regs (n + k) ∷ []
unfolding registers_at
registers_more n zero regs = let e : n ≡ n + 0 = omega arith in ap (λ m. reg_of regs m ∷ []) e
registers_more n (suc k) regs =
    let e : n + 1 + k ≡ n + suc k = omega arith in
    ap (λ x. reg_of regs n ∷ x) (registers_more (n + 1) k regs) ∙ ap (λ m. reg_of regs n ∷ (registers_at (n + 1) k regs ++ reg_of regs m ∷ [])) e

-- those that are read so far, and zeros
abbrev pub read_so_far : ℕ → List ℕ → List ℕ
read_so_far n regs = registers_at 0 n regs ++ replicate (64 - n) 0

pub none_read : (regs : List ℕ) → replicate 64 0 ≡ read_so_far 0 regs
unfolding registers_at
none_read regs = refl

pub read_next : (n v : ℕ) (regs : List ℕ) → n < 32 → v ≡ reg_of regs n → slice_set (read_so_far n regs) n v ≡ read_so_far (n + 1) regs
read_next n v regs below is =
    let xs = registers_at 0 n regs in
    let rest : List ℕ = replicate (64 - (n + 1)) 0 in
    let left : 64 - n ≡ suc (64 - (n + 1)) = omega (arith, below) in
    let one : n + 1 ≡ suc n = omega arith in
    let place : 0 + n ≡ n = omega arith in
    ap (λ k. slice_set (xs ++ replicate k 0) n v) left ∙ ap (λ k. slice_set (xs ++ 0 ∷ rest) k v) (sym (registers_length 0 n regs)) ∙ set-append_seam xs 0 rest v ∙
    ap (λ x. xs ++ x ∷ rest) (is ∙ ap (reg_of regs) (sym place)) ∙ sym (append_assoc xs (reg_of regs (0 + n) ∷ []) rest) ∙ ap (λ x. x ++ rest) (sym (registers_more 0 n regs)) ∙
    ap (λ k. registers_at 0 k regs ++ rest) (sym one)

-- a register more is set
pub set_next : (n : ℕ) (values regs : List ℕ) → n < 32 → with_registers n (32 - n) values regs ≡ with_registers (n + 1) (32 - (n + 1)) values (with_reg regs n (slice_index values n))
unfolding with_registers
set_next n values regs below = let left : 32 - n ≡ suc (32 - (n + 1)) = omega (arith, below) in ap (λ k. with_registers n k values regs) left

pub all_set : (n : ℕ) (values regs : List ℕ) → 32 ≤ n → with_registers n (32 - n) values regs ≡ regs
unfolding with_registers
all_set n values regs ended = let left : 32 - n ≡ 0 = omega (arith, ended) in ap (λ k. with_registers n k values regs) left

with_length : (regs : List ℕ) (n v : ℕ) → length (with_reg regs n v) ≡ length regs
with_length regs n v = by (n == 0)
  where
    by : (b : Bool) → length (if b then regs else slice_set regs n v) ≡ length regs
    by true = refl
    by false = length-set regs n v

-- a register that is set, and one that is not
reg_same : (regs : List ℕ) (m v : ℕ) → 0 < m → m < length regs → reg_of (with_reg regs m v) m ≡ v
reg_same regs m v some room = by (m == 0) refl
  where
    by : (b : Bool) → (m == 0) ≡ b → (if b then 0 else slice_index (if b then regs else slice_set regs m v) m) ≡ v
    by true e = absurd (let wrong : m ≡ 0 = grind (arith, nat_tests, e) in omega (arith, some, wrong))
    by false e = get_or-set_same regs m v 0 room

reg_other : (regs : List ℕ) (n m v : ℕ) → m < n → reg_of (with_reg regs n v) m ≡ reg_of regs m
reg_other regs n m v below = ap (λ x. if m == 0 then 0 else x) (by (n == 0))
  where
    by : (b : Bool) → slice_index (if b then regs else slice_set regs n v) m ≡ slice_index regs m
    by true = refl
    by false = let other : m ≢ n = omega (arith, below) in get_or-set_other regs n m v 0 other

-- registers below the first that is set
kept : (k n m : ℕ) (values regs : List ℕ) → m < n → reg_of (with_registers n k values regs) m ≡ reg_of regs m
unfolding with_registers
kept zero n m values regs below = refl
kept (suc k) n m values regs below =
    kept k (n + 1) m values (with_reg regs n (slice_index values n)) (omega (arith, below)) ∙ reg_other regs n m (slice_index values n) below

-- each register that is set gets its value
pub values_set : (k n m : ℕ) (values regs : List ℕ) → 0 < m → n ≤ m → m < n + k → n + k ≤ length regs → reg_of (with_registers n k values regs) m ≡ slice_index values m
unfolding with_registers
values_set zero n m values regs some from below room = absurd (omega (arith, from, below))
values_set (suc k) n m values regs some from below room =
    by (values_set k (n + 1) m values next some) (n == m) refl
  where
    next : List ℕ
    next = with_reg regs n (slice_index values n)

    by : (n + 1 ≤ m → m < n + 1 + k → n + 1 + k ≤ length next → reg_of (with_registers (n + 1) k values next) m ≡ slice_index values m) →
        (b : Bool) → (n == m) ≡ b → reg_of (with_registers (n + 1) k values next) m ≡ slice_index values m
    by later true e =
        let same : n ≡ m = grind (arith, nat_tests, e) in
        let after : m < n + 1 = omega (arith, same) in
        let inside : m < length regs = omega (arith, below, room) in
        kept k (n + 1) m values next after ∙ ap (λ j. reg_of (with_reg regs j (slice_index values j)) m) same ∙ reg_same regs m (slice_index values m) some inside
    by later false e =
        let other : n ≢ m = grind (arith, nat_tests, e) in
        let many : length next ≡ length regs = with_length regs n (slice_index values n) in
        later (omega (arith, from, other)) (omega (arith, below)) (omega (arith, room, many))
