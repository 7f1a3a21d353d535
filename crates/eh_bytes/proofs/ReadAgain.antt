-- A number's spelling is read as the number, whatever stands behind it.
use Rattle.std.proofs.Common.{◌≡◌, ◌≤◌, ◌<◌, ◌+◌, ◌-◌, ◌*◌, ◌/◌, ◌%◌, ◌^◌, ℕ, zero, suc, ℤ, pos, negsuc, Bool, true, false, List, [], ◌∷◌, ◌++◌, length, Ok, refl, ap, sym, ◌∙◌, arith, pow-suc}
use Rattle.std.specs.Prelude.{nat_le, nat_lt, if◌then◌else◌}
use Rattle.std.proofs.lemmas.Bool.Decides.{nat_tests}
use Rattle.std.proofs.lemmas.Nat.{pow-add}
use Rattle.eh_bytes.specs.Leb128.{grouped, in_u64, uleb, sign_extended, ranged, in_i64, sleb}
use Rattle.eh_bytes.specs.Spelling.{uleb_spelling_within, uleb_spelling, low_seven, without_seven, fits_seven, sleb_spelling_within, sleb_spelling}
use Rattle.eh_bytes.proofs.Grouped.{within, grouped-within}
use Rattle.eh_bytes.proofs.Spelled.{magnitude}

-- a number of at most so many groups
uleb_within : (more n : ℕ) (rest : List ℕ) → n < 128 ^ (suc more) → within (suc more) (uleb_spelling_within (suc more) n ++ rest) ≡ Ok (n, length (uleb_spelling_within (suc more) n))
unfolding within uleb_spelling_within
uleb_within zero n rest small =
    let stops : nat_lt n 128 ≡ true = grind (arith, nat_tests) in
    let ends : nat_le 128 n ≡ false = grind (arith, nat_tests) in
    let whole : n % 128 ≡ n = omega arith in
    rw (stops, ends, whole) refl
uleb_within (suc more) n rest small = cases (nat_lt n 128) refl (uleb_within more (n / 128) rest)
  where
    cases : (last : Bool) → nat_lt n 128 ≡ last →
        (n / 128 < 128 ^ (suc more) → within (suc more) (uleb_spelling_within (suc more) (n / 128) ++ rest) ≡ Ok (n / 128, length (uleb_spelling_within (suc more) (n / 128)))) →
        within (suc (suc more)) ((if last then n ∷ [] else (n % 128 + 128) ∷ uleb_spelling_within (suc more) (n / 128)) ++ rest) ≡
        Ok (n, length (if last then n ∷ [] else (n % 128 + 128) ∷ uleb_spelling_within (suc more) (n / 128)))
    cases true stops others =
        let ends : nat_le 128 n ≡ false = grind (arith, nat_tests) in
        let whole : n % 128 ≡ n = let lt : n < 128 = grind (arith, nat_tests) in omega arith in
        rw (ends, whole) refl
    cases false stops others =
        let power : 128 ^ suc (suc more) ≡ 128 ^ suc more * 128 = pow-suc 128 (suc more) in
        let goes : nat_le 128 (n % 128 + 128) ≡ true = let le : 128 ≤ n % 128 + 128 = omega arith in grind (arith, nat_tests) in
        let below : n / 128 < 128 ^ suc more = omega arith in
        let number : (n % 128 + 128) % 128 + 128 * (n / 128) ≡ n = omega arith in
        let count : 1 + length (uleb_spelling_within (suc more) (n / 128)) ≡ suc (length (uleb_spelling_within (suc more) (n / 128))) = omega arith in
        rw (goes, others below, number) (ap (λ k. Ok (n, k)) count)

-- the shortest spelling of an unsigned number is read as the number
pub uleb-uleb_spelling : (n : ℕ) (rest : List ℕ) → n < 2 ^ 64 → uleb (uleb_spelling n ++ rest) ≡ Ok (n, length (uleb_spelling n))
unfolding uleb uleb_spelling
uleb-uleb_spelling n rest fits =
    let below : nat_lt n (2 ^ 64) ≡ true = grind (arith, nat_tests) in
    ap in_u64 (grouped-within (uleb_spelling_within 10 n ++ rest) ∙ uleb_within 9 n rest (omega arith)) ∙ (rw below refl)

-- a number of at most so many groups whose sign is the highest bit of the last one
record SignedAgain (spelling rest : List ℕ) (most : ℕ) (z : ℤ) : Type 0 where
  value : ℕ
  more : ℕ
  count : length spelling ≡ suc more
  read : within most (spelling ++ rest) ≡ Ok (value, length spelling)
  small : value < 2 ^ (7 * suc more)
  sign : sign_extended value (7 * suc more) ≡ z

-- the sign of a number of one group
sign_last : (z : ℤ) → fits_seven z ≡ true → sign_extended (low_seven z) 7 ≡ z
unfolding sign_extended
sign_last (pos n) fits =
    let below : n < 64 = grind (arith, nat_tests) in
    let whole : n % 128 ≡ n = omega arith in
    let positive : nat_lt (n % 128) 64 ≡ true = rw whole fits in
    rw positive (ap pos whole)
sign_last (negsuc n) fits =
    let below : n < 64 = grind (arith, nat_tests) in
    let whole : n % 128 ≡ n = omega arith in
    let negative : nat_lt (127 - n % 128) 64 ≡ false = let le : 64 ≤ 127 - n % 128 = omega arith in grind (arith, nat_tests) in
    let number : 127 - (127 - n % 128) ≡ n = omega arith in
    rw negative (ap negsuc number)

low_small : (z : ℤ) → low_seven z < 128
low_small (pos n) = omega arith
low_small (negsuc n) = omega arith

-- a number is positive below a half
abbrev pub halved : ℕ → ℕ → ℤ
halved value half = if nat_lt value half then pos value else negsuc (half * 2 - 1 - value)

-- one group more before a number keeps its sign
sign_joined : (half value : ℕ) (z : ℤ) → value < half * 2 → halved value half ≡ without_seven z → halved (low_seven z + 128 * value) (half * 128) ≡ z
sign_joined half value z small same = cases (nat_lt value half) refl z same
  where
    cases : (positive : Bool) → nat_lt value half ≡ positive → (z : ℤ) → (if positive then pos value else negsuc (half * 2 - 1 - value)) ≡ without_seven z →
        halved (low_seven z + 128 * value) (half * 128) ≡ z
    cases true test (pos n) same =
        let below : value < half = grind (arith, nat_tests) in
        let group : value ≡ n / 128 = cc in
        let still : nat_lt (n % 128 + 128 * value) (half * 128) ≡ true = let lt : n % 128 + 128 * value < half * 128 = omega arith in grind (arith, nat_tests) in
        let number : n % 128 + 128 * value ≡ n = omega arith in
        rw still (ap pos number)
    cases true test (negsuc n) same = cc
    cases false test (pos n) same = cc
    cases false test (negsuc n) same =
        let above : half ≤ value = grind (arith, nat_tests) in
        let group : half * 2 - 1 - value ≡ n / 128 = cc in
        let still : nat_lt (127 - n % 128 + 128 * value) (half * 128) ≡ false = let le : half * 128 ≤ 127 - n % 128 + 128 * value = omega arith in grind (arith, nat_tests) in
        let number : half * 128 * 2 - 1 - (127 - n % 128 + 128 * value) ≡ n = omega arith in
        rw still (ap negsuc number)

pub extended_halved : (value bits half : ℕ) → 2 ^ bits ≡ half * 2 → sign_extended value bits ≡ halved value half
unfolding sign_extended
extended_halved value bits half even = rw (even, let e : half * 2 / 2 ≡ half = omega arith in e) refl

sign_more : (value more : ℕ) (z : ℤ) → value < 2 ^ (7 * suc more) → sign_extended value (7 * suc more) ≡ without_seven z →
    sign_extended (low_seven z + 128 * value) (7 * suc (suc more)) ≡ z
sign_more value more z small sign =
    let half = 2 ^ (6 + 7 * more) in
    let one : 7 * suc more ≡ 6 + 7 * more + 1 = omega arith in
    let even : 2 ^ (7 * suc more) ≡ half * 2 = rw (one, pow-add 2 (6 + 7 * more) 1) refl in
    let seven : 7 * suc (suc more) ≡ 7 * suc more + 7 = omega arith in
    let longer : 2 ^ (7 * suc (suc more)) ≡ 2 ^ (7 * suc more) * 128 = rw (seven, pow-add 2 (7 * suc more) 7) refl in
    let even_too : 2 ^ (7 * suc (suc more)) ≡ half * 128 * 2 = omega (arith, longer, even) in
    extended_halved (low_seven z + 128 * value) (7 * suc (suc more)) (half * 128) even_too ∙
    sign_joined half value z (omega (arith, small, even)) (sym (extended_halved value (7 * suc more) half even) ∙ sign)

-- the spelling of a number of one group
last_again : (more : ℕ) (z : ℤ) (rest : List ℕ) → fits_seven z ≡ true → SignedAgain (low_seven z ∷ []) rest (suc more) z
unfolding within
last_again more z rest fits =
    let low : low_seven z < 128 = low_small z in
    let ends : nat_le 128 (low_seven z) ≡ false = grind (arith, nat_tests) in
    let whole : low_seven z % 128 ≡ low_seven z = omega arith in
    record { value = low_seven z; more = 0; count = refl; read = rw (ends, whole) refl; small = low; sign = sign_last z fits }

-- and of one group more than another's
more_again : (most : ℕ) (z : ℤ) (spelling rest : List ℕ) → SignedAgain spelling rest most (without_seven z) → SignedAgain ((low_seven z + 128) ∷ spelling) rest (suc most) z
unfolding within
more_again most z spelling rest others =
    let low : low_seven z < 128 = low_small z in
    let goes : nat_le 128 (low_seven z + 128) ≡ true = let le : 128 ≤ low_seven z + 128 = omega arith in grind (arith, nat_tests) in
    let whole : (low_seven z + 128) % 128 ≡ low_seven z = omega arith in
    let count : 1 + length spelling ≡ suc (length spelling) = omega arith in
    let longer : 7 * suc (suc others.more) ≡ 7 * suc others.more + 7 = omega arith in
    let small : others.value < 2 ^ (7 * suc others.more) = others.small in
    let power : 2 ^ (7 * suc (suc others.more)) ≡ 2 ^ (7 * suc others.more) * 128 = rw (longer, pow-add 2 (7 * suc others.more) 7) refl in
    record {
      value = low_seven z + 128 * others.value;
      more = suc others.more;
      count = ap suc others.count;
      read = rw (goes, others.read, whole) (ap (λ k. Ok (low_seven z + 128 * others.value, k)) count);
      small = rw power (omega arith);
      sign = sign_more others.value others.more z others.small others.sign;
    }

-- a number of less than so many groups keeps its range without the lowest
less_again : (more : ℕ) (z : ℤ) → magnitude z < 64 * 128 ^ suc more → magnitude (without_seven z) < 64 * 128 ^ more
less_again more (pos n) small = let power : 128 ^ suc more ≡ 128 ^ more * 128 = pow-suc 128 more in omega arith
less_again more (negsuc n) small = let power : 128 ^ suc more ≡ 128 ^ more * 128 = pow-suc 128 more in omega arith

fits_alone : (z : ℤ) → magnitude z < 64 → fits_seven z ≡ true
fits_alone (pos n) small = grind (arith, nat_tests)
fits_alone (negsuc n) small = grind (arith, nat_tests)

sleb_within : (more : ℕ) (z : ℤ) (rest : List ℕ) → magnitude z < 64 * 128 ^ more → SignedAgain (sleb_spelling_within (suc more) z) rest (suc more) z
unfolding sleb_spelling_within
sleb_within zero z rest small = rw (fits_alone z small) (last_again zero z rest (fits_alone z small))
sleb_within (suc more) z rest small = cases (fits_seven z) refl (sleb_within more (without_seven z) rest (less_again more z small))
  where
    cases : (last : Bool) → fits_seven z ≡ last → SignedAgain (sleb_spelling_within (suc more) (without_seven z)) rest (suc more) (without_seven z) →
        SignedAgain (if last then low_seven z ∷ [] else (low_seven z + 128) ∷ sleb_spelling_within (suc more) (without_seven z)) rest (suc (suc more)) z
    cases true fits others = last_again (suc more) z rest fits
    cases false fits others = more_again (suc more) z (sleb_spelling_within (suc more) (without_seven z)) rest others

ranged_again : (z : ℤ) → magnitude z < 2 ^ 63 → ranged z ≡ Ok z
unfolding ranged
ranged_again (pos n) fits = let below : nat_lt n (2 ^ 63) ≡ true = grind (arith, nat_tests) in rw below refl
ranged_again (negsuc n) fits = let below : nat_lt n (2 ^ 63) ≡ true = grind (arith, nat_tests) in rw below refl

-- the shortest spelling of a signed number is read as the number
pub sleb-sleb_spelling : (z : ℤ) (rest : List ℕ) → magnitude z < 2 ^ 63 → sleb (sleb_spelling z ++ rest) ≡ Ok (z, length (sleb_spelling z))
unfolding sleb sleb_spelling
sleb-sleb_spelling z rest fits =
    let again = sleb_within 9 z rest (omega arith) in
    let read : grouped (sleb_spelling_within 10 z ++ rest) ≡ Ok (again.value, length (sleb_spelling_within 10 z)) = grouped-within (sleb_spelling_within 10 z ++ rest) ∙ again.read in
    let sign : sign_extended again.value (7 * length (sleb_spelling_within 10 z)) ≡ z = ap (λ k. sign_extended again.value (7 * k)) again.count ∙ again.sign in
    ap in_i64 read ∙ (rw (sign, ranged_again z fits) refl)
