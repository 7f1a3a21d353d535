-- No spelling of a number is shorter than the one that is written.
use Rattle.std.proofs.Common.{◌≡◌, ◌≤◌, ◌<◌, ◌+◌, ◌-◌, ◌*◌, ◌/◌, ◌%◌, ◌^◌, ℕ, zero, suc, ℤ, pos, negsuc, Bool, true, false, List, [], ◌∷◌, length, Ok, Err, refl, ap, sym, ◌∙◌, arith}
use Rattle.std.specs.Prelude.{nat_lt, if◌then◌else◌}
use Rattle.std.proofs.lemmas.Bool.Decides.{nat_tests}
use Rattle.std.proofs.lemmas.Nat.{pow-add}
use Rattle.eh_bytes.specs.declared.error.ByteError.TheVariants.{LebRange}
use Rattle.eh_bytes.specs.Field.{Reading}
use Rattle.eh_bytes.specs.Leb128.{goes_on, grouped, in_u64, uleb, sign_extended, ranged, is_i64, and_taken, in_i64, sleb}
use Rattle.eh_bytes.specs.Spelling.{uleb_spelling_within, uleb_spelling, low_seven, without_seven, fits_seven, sleb_spelling_within, sleb_spelling}
use Rattle.eh_bytes.proofs.Grouped.{with_low, group_before, within, grouped-within}
use Rattle.eh_bytes.proofs.ReadAgain.{halved, extended_halved}

-- two readings that are one have one value and one length
read_same : {A : Type 0} (x y : A × ℕ) → ◌≡◌ {A = Reading A} (Ok x) (Ok y) → x ≡ y
read_same x y same = cc

-- what stands behind a group, where the whole is a number
record Behind (group : ℕ) (others : Reading ℕ) (value taken : ℕ) : Type 0 where
  high : ℕ
  count : ℕ
  read : others ≡ Ok (high, count)
  number : value ≡ group + 128 * high
  length : taken ≡ 1 + count

behind : (group : ℕ) (others : Reading ℕ) (value taken : ℕ) → with_low group others ≡ Ok (value, taken) → Behind group others value taken
behind group (Ok (high, count)) value taken read =
    let same : (value, taken) ≡ (group + 128 * high, 1 + count) = sym (read_same (group + 128 * high, 1 + count) (value, taken) read) in
    record { high = high; count = count; read = refl; number = ap (λ p. p.0) same; length = ap (λ p. p.1) same }
behind group (Err cause) value taken read = cc

uleb_least : (most : ℕ) (bytes : List ℕ) (value taken : ℕ) → within most bytes ≡ Ok (value, taken) → length (uleb_spelling_within most value) ≤ taken
unfolding within uleb_spelling_within
uleb_least zero bytes value taken read = cc
uleb_least (suc most) [] value taken read = cc
uleb_least (suc most) (b ∷ bytes) value taken read = cases (goes_on b) (nat_lt value 128) refl read (uleb_least most bytes)
  where
    cases : (on small : Bool) → nat_lt value 128 ≡ small → group_before b on (within most bytes) ≡ Ok (value, taken) →
        ((high count : ℕ) → within most bytes ≡ Ok (high, count) → length (uleb_spelling_within most high) ≤ count) →
        length (if small then value ∷ [] else (value % 128 + 128) ∷ uleb_spelling_within most (value / 128)) ≤ taken
    cases false true test said others = let one : 1 ≡ taken = ap (λ p. p.1) (read_same (b % 128, 1) (value, taken) said) in omega arith
    cases false false test said others =
        let same : b % 128 ≡ value = ap (λ p. p.0) (read_same (b % 128, 1) (value, taken) said) in
        let large : 128 ≤ value = grind (arith, nat_tests) in
        absurd (omega arith)
    cases true true test said others = let h = behind (b % 128) (within most bytes) value taken said in omega (arith, h.length)
    cases true false test said others =
        let h = behind (b % 128) (within most bytes) value taken said in
        let high : value / 128 ≡ h.high = omega (arith, h.number) in
        let least : length (uleb_spelling_within most h.high) ≤ h.count = others h.high h.count h.read in
        rw high (omega (arith, h.length, least))

in_u64_gives : (read : Reading ℕ) (value taken : ℕ) → in_u64 read ≡ Ok (value, taken) → read ≡ Ok (value, taken)
in_u64_gives (Err cause) value taken said = cc
in_u64_gives (Ok (v, t)) value taken said = cases (nat_lt v (2 ^ 64)) said
  where
    read : Reading ℕ
    read = Ok (v, t)

    cases : (fits : Bool) → (if fits then read else Err LebRange) ≡ Ok (value, taken) → read ≡ Ok (value, taken)
    cases true same = same
    cases false same = cc

-- of an unsigned number
pub uleb_shortest : (bytes : List ℕ) (value taken : ℕ) → uleb bytes ≡ Ok (value, taken) → length (uleb_spelling value) ≤ taken
unfolding uleb uleb_spelling
uleb_shortest bytes value taken read = uleb_least 10 bytes value taken (sym (grouped-within bytes) ∙ in_u64_gives (grouped bytes) value taken read)

-- the number without its lowest group keeps its sign
sign_split : (half high group : ℕ) (z : ℤ) → group < 128 → high < half * 2 → halved (group + 128 * high) (half * 128) ≡ z → halved high half ≡ without_seven z
sign_split half high group z small fits same = cases (nat_lt high half) refl
  where
    cases : (positive : Bool) → nat_lt high half ≡ positive → (if positive then pos high else negsuc (half * 2 - 1 - high)) ≡ without_seven z
    cases true test =
        let below : high < half = grind (arith, nat_tests) in
        let still : nat_lt (group + 128 * high) (half * 128) ≡ true = let lt : group + 128 * high < half * 128 = omega arith in grind (arith, nat_tests) in
        let whole : pos (group + 128 * high) ≡ z = rw still at same in
        let number : (group + 128 * high) / 128 ≡ high = omega arith in
        ap pos (sym number) ∙ ap without_seven whole
    cases false test =
        let above : half ≤ high = grind (arith, nat_tests) in
        let still : nat_lt (group + 128 * high) (half * 128) ≡ false = let le : half * 128 ≤ group + 128 * high = omega arith in grind (arith, nat_tests) in
        let whole : negsuc (half * 128 * 2 - 1 - (group + 128 * high)) ≡ z = rw still at same in
        let number : (half * 128 * 2 - 1 - (group + 128 * high)) / 128 ≡ half * 2 - 1 - high = omega arith in
        ap negsuc (sym number) ∙ ap without_seven whole

-- a number of one group fits seven bits
one_group : (group : ℕ) (z : ℤ) → group < 128 → halved group 64 ≡ z → fits_seven z ≡ true
one_group group z small same = cases (nat_lt group 64) refl
  where
    cases : (positive : Bool) → nat_lt group 64 ≡ positive → fits_seven z ≡ true
    cases true test =
        let whole : pos group ≡ z = rw test at same in
        ap fits_seven (sym whole) ∙ test
    cases false test =
        let above : 64 ≤ group = grind (arith, nat_tests) in
        let whole : negsuc (127 - group) ≡ z = rw test at same in
        let below : nat_lt (127 - group) 64 ≡ true = let lt : 127 - group < 64 = omega arith in grind (arith, nat_tests) in
        ap fits_seven (sym whole) ∙ below

-- a number of so many groups, which are not none
record SomeGroups (value taken : ℕ) : Type 0 where
  before : ℕ
  count : taken ≡ suc before
  small : value < 2 ^ (7 * taken)

small_joined : (group high count value taken : ℕ) → group < 128 → high < 2 ^ (7 * count) → value ≡ group + 128 * high → taken ≡ 1 + count → value < 2 ^ (7 * taken)
small_joined group high count value taken few small number length =
    let longer : 7 * taken ≡ 7 * count + 7 = omega arith in
    let power : 2 ^ (7 * taken) ≡ 2 ^ (7 * count) * 128 = rw (longer, pow-add 2 (7 * count) 7) refl in
    rw power (omega arith)

some_groups : (most : ℕ) (bytes : List ℕ) (value taken : ℕ) → within most bytes ≡ Ok (value, taken) → SomeGroups value taken
unfolding within
some_groups zero bytes value taken read = cc
some_groups (suc most) [] value taken read = cc
some_groups (suc most) (b ∷ bytes) value taken read = cases (goes_on b) read (some_groups most bytes)
  where
    cases : (on : Bool) → group_before b on (within most bytes) ≡ Ok (value, taken) →
        ((high count : ℕ) → within most bytes ≡ Ok (high, count) → SomeGroups high count) → SomeGroups value taken
    cases false said others =
        let same : ◌≡◌ {A = ℕ × ℕ} (b % 128, 1) (value, taken) = read_same (b % 128, 1) (value, taken) said in
        let number : b % 128 ≡ value = ap (λ p. p.0) same in
        let one : 1 ≡ taken = ap (λ p. p.1) same in
        record { before = 0; count = sym one; small = rw (← one) (omega arith) }
    cases true said others =
        let h = behind (b % 128) (within most bytes) value taken said in
        let high = others h.high h.count h.read in
        record { before = h.count; count = h.length ∙ (let e : 1 + h.count ≡ suc h.count = omega arith in e); small = small_joined (b % 128) h.high h.count value taken (omega arith) high.small h.number h.length }

sleb_least : (most : ℕ) (bytes : List ℕ) (value taken : ℕ) (z : ℤ) → within most bytes ≡ Ok (value, taken) → sign_extended value (7 * taken) ≡ z → length (sleb_spelling_within most z) ≤ taken
unfolding within sleb_spelling_within
sleb_least zero bytes value taken z read sign = cc
sleb_least (suc most) [] value taken z read sign = cc
sleb_least (suc most) (b ∷ bytes) value taken z read sign = cases (goes_on b) (fits_seven z) refl read (some_groups most bytes) (sleb_least most bytes)
  where
    cases : (on small : Bool) → fits_seven z ≡ small → group_before b on (within most bytes) ≡ Ok (value, taken) →
        ((high count : ℕ) → within most bytes ≡ Ok (high, count) → SomeGroups high count) →
        ((high count : ℕ) (y : ℤ) → within most bytes ≡ Ok (high, count) → sign_extended high (7 * count) ≡ y → length (sleb_spelling_within most y) ≤ count) →
        length (if small then low_seven z ∷ [] else (low_seven z + 128) ∷ sleb_spelling_within most (without_seven z)) ≤ taken
    cases false true test said some others = let one : 1 ≡ taken = ap (λ p. p.1) (read_same (b % 128, 1) (value, taken) said) in omega arith
    cases false false test said some others =
        let same : ◌≡◌ {A = ℕ × ℕ} (b % 128, 1) (value, taken) = read_same (b % 128, 1) (value, taken) said in
        let number : b % 128 ≡ value = ap (λ p. p.0) same in
        let one : 1 ≡ taken = ap (λ p. p.1) same in
        let first : sign_extended (b % 128) 7 ≡ z = rw (← number, ← one) at sign in
        let fits : fits_seven z ≡ true = one_group (b % 128) z (omega arith) (sym (extended_halved (b % 128) 7 64 refl) ∙ first) in
        cc
    cases true true test said some others = let h = behind (b % 128) (within most bytes) value taken said in omega (arith, h.length)
    cases true false test said some others =
        let h = behind (b % 128) (within most bytes) value taken said in
        let high = some h.high h.count h.read in
        let half = 2 ^ (6 + 7 * high.before) in
        let one : 7 * h.count ≡ 6 + 7 * high.before + 1 = omega (arith, high.count) in
        let even : 2 ^ (7 * h.count) ≡ half * 2 = rw (one, pow-add 2 (6 + 7 * high.before) 1) refl in
        let seven : 7 * taken ≡ 7 * h.count + 7 = omega (arith, h.length) in
        let longer : 2 ^ (7 * taken) ≡ 2 ^ (7 * h.count) * 128 = rw (seven, pow-add 2 (7 * h.count) 7) refl in
        let even_too : 2 ^ (7 * taken) ≡ half * 128 * 2 = omega (arith, longer, even) in
        let whole : halved (b % 128 + 128 * h.high) (half * 128) ≡ z = rw (← h.number) (sym (extended_halved value (7 * taken) (half * 128) even_too) ∙ sign) in
        let split : halved h.high half ≡ without_seven z = sign_split half h.high (b % 128) z (omega arith) (omega (arith, high.small, even)) whole in
        let least : length (sleb_spelling_within most (without_seven z)) ≤ h.count = others h.high h.count (without_seven z) h.read (extended_halved h.high (7 * h.count) half even ∙ split) in
        omega (arith, h.length, least)

in_i64_gives : (read : Reading ℕ) (z : ℤ) (taken : ℕ) → in_i64 read ≡ Ok (z, taken) → (value : ℕ) × (read ≡ Ok (value, taken)) × (sign_extended value (7 * taken) ≡ z)
unfolding ranged
in_i64_gives (Err cause) z taken said = cc
in_i64_gives (Ok (v, t)) z taken said = cases (is_i64 (sign_extended v (7 * t))) said
  where
    cases : (fits : Bool) → and_taken t (if fits then Ok (sign_extended v (7 * t)) else Err LebRange) ≡ Ok (z, taken) →
        (value : ℕ) × (◌≡◌ {A = Reading ℕ} (Ok (v, t)) (Ok (value, taken))) × (sign_extended value (7 * taken) ≡ z)
    cases true same =
        let both : (sign_extended v (7 * t), t) ≡ (z, taken) = read_same (sign_extended v (7 * t), t) (z, taken) same in
        let count : t ≡ taken = ap (λ p. p.1) both in
        let sign : sign_extended v (7 * t) ≡ z = ap (λ p. p.0) both in
        (v, ap (λ k. Ok (v, k)) count, ap (λ k. sign_extended v (7 * k)) (sym count) ∙ sign)
    cases false same = cc

-- of a signed number
pub sleb_shortest : (bytes : List ℕ) (z : ℤ) (taken : ℕ) → sleb bytes ≡ Ok (z, taken) → length (sleb_spelling z) ≤ taken
unfolding sleb sleb_spelling
sleb_shortest bytes z taken read =
    let said = in_i64_gives (grouped bytes) z taken read in
    sleb_least 10 bytes said.0 taken z (sym (grouped-within bytes) ∙ said.1) said.2
