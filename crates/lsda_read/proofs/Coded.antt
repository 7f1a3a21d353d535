-- Pads that rise, and the executable segment that holds some of them.
use Rattle.std.proofs.Common.{◌≡◌, ◌≤◌, ◌<◌, ◌+◌, ◌-◌, ◌&&◌, ◌||◌, ℕ, zero, suc, Bool, true, false, List, [], ◌∷◌, length, take, drop, Some, refl, ap, sym, subst, ◌∙◌, arith, if◌then◌else◌}
use Rattle.std.specs.Prelude.{find, slice_index}
use Rattle.std.specs.List.{AllByRecursion}
use Rattle.std.proofs.lemmas.Bool.Decides.{nat_tests}
use Rattle.eh_bytes.specs.Memory.{Part, Memory, part_with, covers, is_code}
use Rattle.lsda_read.specs.Demands.{AreCode, IsRising}

-- a part that allows execution holds code
pub held_code : (memory : Memory) (a b : ℕ) (part : Part) → part_with memory a ≡ Some part → part.exec ≡ true → covers part b ≡ true → is_code memory b ≡ true
held_code [] a b part with_ exec holds = absurd cc
held_code (q ∷ memory) a b part with_ exec holds = by (covers q a) with_ (held_code memory a b part)
  where
    same : Some q ≡ Some part → q ≡ part
    same e = cc

    either : (x y : Bool) → x ≡ true → (x || y) ≡ true
    either true y e = refl
    either false y e = absurd cc

    either_last : (x y : Bool) → y ≡ true → (x || y) ≡ true
    either_last true y e = refl
    either_last false y e = e

    here : part.exec ≡ true → covers part b ≡ true → (part.exec && covers part b) ≡ true
    here e f = ap (λ x. x && covers part b) e ∙ f

    by : (t : Bool) → (if t then Some q else find (λ p. covers p a) memory) ≡ Some part →
        (part_with memory a ≡ Some part → part.exec ≡ true → covers part b ≡ true → is_code memory b ≡ true) → ((q.exec && covers q b) || is_code memory b) ≡ true
    by true e rest =
        let P : Part → Type 0 = λ p. (p.exec && covers p b) ≡ true in
        either (q.exec && covers q b) (is_code memory b) (subst P (sym (same e)) (here exec holds))
    by false e rest = either_last (q.exec && covers q b) (is_code memory b) (rest e exec holds)

-- the first so many of numbers that rise are at most the last of them
up_to : (k : ℕ) (xs : List ℕ) → IsRising xs → suc k ≤ length xs → AllByRecursion (λ y. y ≤ slice_index xs k) (take (suc k) xs)
up_to k [] rising inside = absurd (omega (arith, inside))
up_to zero (x ∷ xs) rising inside = let e : x ≤ x = omega arith in (e, tt)
up_to (suc k) (x ∷ xs) rising inside =
    let inner : suc k ≤ length xs = omega (arith, inside) in
    (first xs (slice_index xs k) inner rising.0 (at k xs inner), up_to k xs rising.1 inner)
  where
    at : (i : ℕ) (ys : List ℕ) → suc i ≤ length ys → AllByRecursion (λ y. x ≤ y) ys → x ≤ slice_index ys i
    at i [] inside all = absurd (omega (arith, inside))
    at zero (y ∷ ys) inside all = all.0
    at (suc i) (y ∷ ys) inside all = at i ys (omega (arith, inside)) all.1

    first : (ys : List ℕ) (last : ℕ) → suc k ≤ length ys → AllByRecursion (λ y. x ≤ y) ys → (AllByRecursion (λ y. x ≤ y) ys → x ≤ last) → x ≤ last
    first ys last inner all gives = gives all

-- the pads up to the last one below the end of the part lie in it, as the first one does
between : (memory : Memory) (a start x last : ℕ) (part : Part) (ys : List ℕ) → part_with memory a ≡ Some part → part.exec ≡ true → part.address ≤ start + x →
    start + last < part.address + length part.bytes → AllByRecursion (λ y. x ≤ y) ys → AllByRecursion (λ y. y ≤ last) ys → AreCode memory start ys
between memory a start x last part [] with_ exec low high least most = tt
between memory a start x last part (y ∷ ys) with_ exec low high least most =
    let lower : x ≤ y = least.0 in
    let upper : y ≤ last = most.0 in
    let holds : covers part (start + y) ≡ true = grind (arith, nat_tests, low, high, lower, upper) in
    (held_code memory a (start + y) part with_ exec holds, between memory a start x last part ys with_ exec low high least.1 most.1)

from_first : (k x : ℕ) (xs : List ℕ) → IsRising (x ∷ xs) → AllByRecursion (λ y. x ≤ y) (take k (x ∷ xs))
from_first zero x xs rising = tt
from_first (suc k) x xs rising = let e : x ≤ x = omega arith in (e, some k xs rising.0)
  where
    some : (n : ℕ) (ys : List ℕ) → AllByRecursion (λ y. x ≤ y) ys → AllByRecursion (λ y. x ≤ y) (take n ys)
    some zero ys all = tt
    some (suc n) [] all = tt
    some (suc n) (y ∷ ys) all = (all.0, some n ys all.1)

pub front_code : (memory : Memory) (start x k : ℕ) (xs : List ℕ) (part : Part) → part_with memory (start + x) ≡ Some part → part.exec ≡ true → part.address ≤ start + x →
    k ≤ length (x ∷ xs) → (0 < k → start + slice_index (x ∷ xs) (k - 1) < part.address + length part.bytes) → IsRising (x ∷ xs) → AreCode memory start (take k (x ∷ xs))
front_code memory start x zero xs part with_ exec low inside high rising = tt
front_code memory start x (suc k) xs part with_ exec low inside high rising =
    let one : suc k - 1 ≡ k = omega arith in
    let below : start + slice_index (x ∷ xs) k < part.address + length part.bytes = rw one at (high (omega arith)) in
    between memory (start + x) start x (slice_index (x ∷ xs) k) part (take (suc k) (x ∷ xs)) with_ exec low below (from_first (suc k) x xs rising) (up_to k (x ∷ xs) rising inside)

-- ---- cut in two
pub code_both : (memory : Memory) (start k : ℕ) (xs : List ℕ) → AreCode memory start (take k xs) → AreCode memory start (drop k xs) → AreCode memory start xs
code_both memory start zero xs front back = back
code_both memory start (suc k) [] front back = tt
code_both memory start (suc k) (x ∷ xs) front back = (front.0, code_both memory start k xs front.1 back)

pub drop_rises : (k : ℕ) (xs : List ℕ) → IsRising xs → IsRising (drop k xs)
drop_rises zero xs rising = rising
drop_rises (suc k) [] rising = tt
drop_rises (suc k) (x ∷ xs) rising = drop_rises k xs rising.1
