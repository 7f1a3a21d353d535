-- A walk from place to place: it comes to a place twice exactly where it never ends.
use Rattle.std.proofs.Common.{◌≡◌, ◌≢◌, ◌≤◌, ◌<◌, ◌+◌, ◌-◌, ◌*◌, ℕ, zero, suc, Bool, true, false, Option, Some, None, refl, ap, sym, ◌∙◌, arith, zero-add}
use Rattle.std.specs.Prelude.{◌==◌, option_and_then, if◌then◌else◌}
use Rattle.std.proofs.Math.Nat.{mul-le-mul_left}
use Rattle.std.proofs.lemmas.Bool.Decides.{nat_tests}
use Rattle.table_forms.specs.Walk.{walk, Returns}

-- the walk goes so far
pub record Goes (next : ℕ → Option ℕ) (n p : ℕ) : Type 0 where
  pub place : ℕ
  pub there : walk next n p ≡ Some place

-- two numbers below a bound at which a function has one value
pub record Twice (f : ℕ → ℕ) (bound : ℕ) : Type 0 where
  pub earlier : ℕ
  pub later : ℕ
  pub order : earlier < later
  pub inside : later < bound
  pub same : f earlier ≡ f later

-- where below a bound a function has a value
data Sought (f : ℕ → ℕ) (v bound : ℕ) : Type 0 where
  met : (i : ℕ) → i < bound → f i ≡ v → Sought f v bound
  missed : ((i : ℕ) → i < bound → f i ≢ v) → Sought f v bound

differs : (a b : ℕ) → (a == b) ≡ false → a ≢ b
differs a b test same = grind (arith, nat_tests)

equals : (a b : ℕ) → (a == b) ≡ true → a ≡ b
equals a b test = grind (arith, nat_tests)

sought : (f : ℕ → ℕ) (v bound : ℕ) → Sought f v bound
sought f v zero = missed (λ i below same. omega arith)
sought f v (suc bound) = here (f bound == v) refl (sought f v bound)
  where
    last : ((i : ℕ) → i < bound → f i ≢ v) → f bound ≢ v → (i : ℕ) → i < suc bound → f i ≡ v → (b : Bool) → (i == bound) ≡ b → ⊥
    last none other i below same true at = other (sym (ap f (equals i bound at)) ∙ same)
    last none other i below same false at = let ne : i ≢ bound = differs i bound at in none i (omega arith) same

    here : (b : Bool) → (f bound == v) ≡ b → Sought f v bound → Sought f v (suc bound)
    here true same rest = met bound (omega arith) (equals (f bound) v same)
    here false other (met i below same) = met i (omega arith) same
    here false other (missed none) = missed (λ i below same. last none (differs (f bound) v other) i below same (i == bound) refl)

-- more numbers than values: two have one value
pub pigeon : (n bound : ℕ) (f : ℕ → ℕ) → ((k : ℕ) → k < bound → f k < n) → n < bound → Twice f bound
pigeon zero bound f below more = absurd (omega (arith, below 0 more))
pigeon (suc n) zero f below more = absurd (omega arith)
pigeon (suc n) (suc bound) f below more = split (sought f (f bound) bound) (λ g inside. pigeon n bound g inside (omega arith))
  where
    moved : ℕ → ℕ
    moved k = if f k == n then f bound else f k

    low : ((i : ℕ) → i < bound → f i ≢ f bound) → (k : ℕ) → k < bound → (b : Bool) → (f k == n) ≡ b → (if b then f bound else f k) < n
    low none k inside true at =
        let e : f k ≡ n = equals (f k) n at in
        let ne : f k ≢ f bound = none k inside in
        let small : f bound < suc n = below bound (omega arith) in
        let other : f bound ≢ n = λ same. ne (e ∙ sym same) in
        omega arith
    low none k inside false at =
        let ne : f k ≢ n = differs (f k) n at in
        let small : f k < suc n = below k (omega arith) in
        omega arith

    back : ((i : ℕ) → i < bound → f i ≢ f bound) → (i j : ℕ) → i < bound → j < bound → (a b : Bool) → (f i == n) ≡ a → (f j == n) ≡ b →
        (if a then f bound else f i) ≡ (if b then f bound else f j) → f i ≡ f j
    back none i j low_i low_j true true at_i at_j same = equals (f i) n at_i ∙ sym (equals (f j) n at_j)
    back none i j low_i low_j true false at_i at_j same = absurd (none j low_j (sym same))
    back none i j low_i low_j false true at_i at_j same = absurd (none i low_i same)
    back none i j low_i low_j false false at_i at_j same = same

    split : Sought f (f bound) bound → ((g : ℕ → ℕ) → ((k : ℕ) → k < bound → g k < n) → Twice g bound) → Twice f (suc bound)
    split (met i inside same) fewer = record { earlier = i; later = bound; order = inside; inside = omega arith; same = same }
    split (missed none) fewer =
        let twice = fewer moved (λ k inside. low none k inside (f k == n) refl) in
        let ordered : twice.earlier < twice.later = twice.order in
        let inner : twice.later < bound = twice.inside in
        record {
          earlier = twice.earlier;
          later = twice.later;
          order = twice.order;
          inside = omega arith;
          same = back none twice.earlier twice.later (omega arith) inner (f twice.earlier == n) (f twice.later == n) refl refl twice.same;
        }

-- a walk is two walks, one behind the other
pub walk-add : (next : ℕ → Option ℕ) (i k p : ℕ) → walk next (i + k) p ≡ option_and_then (walk next k) (walk next i p)
unfolding walk
walk-add next zero k p = rw (zero-add k) refl
walk-add next (suc i) k p = (let e : suc i + k ≡ suc (i + k) = omega arith in rw e (step (next p) (walk-add next i k)))
  where
    step : (o : Option ℕ) → ((q : ℕ) → walk next (i + k) q ≡ option_and_then (walk next k) (walk next i q)) →
        option_and_then (walk next (i + k)) o ≡ option_and_then (walk next k) (option_and_then (walk next i) o)
    step None rest = refl
    step (Some q) rest = rest q

-- what goes far goes less far
pub goes_less : (next : ℕ → Option ℕ) (i k p : ℕ) → Goes next (i + k) p → Goes next i p
goes_less next i k p far = first (walk next i p) refl (sym (walk-add next i k p) ∙ far.there)
  where
    first : (o : Option ℕ) → walk next i p ≡ o → option_and_then (walk next k) o ≡ Some far.place → Goes next i p
    first None at there = cc
    first (Some q) at there = record { place = q; there = at }

-- round and round
rounds : (next : ℕ → Option ℕ) (d q m : ℕ) → walk next d q ≡ Some q → walk next (m * d) q ≡ Some q
unfolding walk
rounds next d q zero round = let e : 0 * d ≡ 0 = omega arith in rw e refl
rounds next d q (suc m) round =
    let e : suc m * d ≡ d + m * d = omega arith in
    rw e (walk-add next d (m * d) q ∙ ap (option_and_then (walk next (m * d))) round ∙ rounds next d q m round)

-- a walk that comes to a place twice goes on for ever
pub goes_on : (next : ℕ → Option ℕ) (p n : ℕ) → Returns next p → Goes next n p
goes_on next p n twice =
    let d = twice.later - twice.earlier in
    let ordered : twice.earlier < twice.later = twice.order in
    let split : twice.later ≡ twice.earlier + d = omega arith in
    let again : walk next (twice.earlier + d) p ≡ Some twice.place = rw split at twice.again in
    let round : walk next d twice.place ≡ Some twice.place =
    sym (ap (option_and_then (walk next d)) twice.first) ∙ sym (walk-add next twice.earlier d p) ∙ again in
    let far : walk next (twice.earlier + n * d) p ≡ Some twice.place =
    walk-add next twice.earlier (n * d) p ∙ ap (option_and_then (walk next (n * d))) twice.first ∙ rounds next d twice.place n round in
    let one : 1 ≤ d = omega arith in
    let more : n ≤ n * d = omega (arith, mul-le-mul_left n one) in
    let rest : twice.earlier + n * d ≡ n + (twice.earlier + n * d - n) = omega arith in
    goes_less next n (twice.earlier + n * d - n) p (record { place = twice.place; there = rw (← rest) far })

-- a walk among fewer places than its steps comes to one twice
pub returns : (next : ℕ → Option ℕ) (p bound : ℕ) → ((q r : ℕ) → next q ≡ Some r → q < bound) → Goes next (suc bound) p → Returns next p
unfolding walk
returns next p bound inside far =
    let twice = pigeon bound (suc bound) (λ k. place_or (walk next k p)) (λ k small. below k small) (omega arith) in
    let ordered : twice.earlier < twice.later = twice.order in
    let inner : twice.later < suc bound = twice.inside in
    record {
      earlier = twice.earlier;
      later = twice.later;
      place = place_or (walk next twice.earlier p);
      order = twice.order;
      first = there twice.earlier (omega arith);
      again = there twice.later (omega arith) ∙ ap Some (sym twice.same);
    }
  where
    place_or : Option ℕ → ℕ
    place_or None = 0
    place_or (Some q) = q

    so_far : (k : ℕ) → k ≤ suc bound → Goes next k p
    so_far k small = let e : suc bound ≡ k + (suc bound - k) = omega arith in goes_less next k (suc bound - k) p (record { place = far.place; there = rw (← e) far.there })

    there : (k : ℕ) → k ≤ suc bound → walk next k p ≡ Some (place_or (walk next k p))
    there k small = let goes = so_far k small in goes.there ∙ ap (λ o. Some (place_or o)) (sym goes.there)

    stepped : (o : Option ℕ) (r : ℕ) → option_and_then (walk next 0) o ≡ Some r → (q : ℕ) × (o ≡ Some q)
    stepped None r at = cc
    stepped (Some q) r at = (q, refl)

    below : (k : ℕ) → k < suc bound → place_or (walk next k p) < bound
    below k small =
        let goes = so_far k (omega arith) in
        let more = so_far (k + 1) (omega arith) in
        let step : walk next 1 goes.place ≡ Some more.place = sym (ap (option_and_then (walk next 1)) goes.there) ∙ sym (walk-add next k 1 p) ∙ more.there in
        let on = stepped (next goes.place) more.place step in
        let low : goes.place < bound = inside goes.place on.0 on.1 in
        rw goes.there low
