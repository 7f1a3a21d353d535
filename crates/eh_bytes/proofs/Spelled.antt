-- The shortest spellings, written one byte after the other into a buffer.
use Rattle.std.proofs.Common.{◌≡◌, ◌≤◌, ◌<◌, ◌+◌, ◌-◌, ◌*◌, ◌/◌, ◌%◌, ◌^◌, ℕ, suc, ℤ, pos, negsuc, Bool, true, false, Result, Ok, Err, List, [], ◌∷◌, ◌++◌, length, take, slice_set, refl, ap, sym, ◌∙◌, arith, append_assoc, pow-suc}
use Rattle.std.proofs.lemmas.Int.{ints}
use Rattle.std.specs.Prelude.{OnOk, is_ok}
use Rattle.std.specs.declared.alloc.AllocError.{AllocError}
use Rattle.std.specs.Prelude.{nat_lt, if◌then◌else◌}
use Rattle.std.proofs.lemmas.Bool.Decides.{nat_tests}
use Rattle.std.proofs.lemmas.List.{take_more_set}
use mir.Val.{SFits}
use mir.Syntax.{w64}
use Rattle.eh_bytes.specs.Spelling.{uleb_spelling_within, sleb_spelling_within, low_seven, without_seven, fits_seven}

-- a byte that goes on, behind those that are done
pub uleb_more : (total buffer : List ℕ) (done rest : ℕ) → done ≤ 9 → 128 ≤ rest → done < length buffer →
    total ≡ take done buffer ++ uleb_spelling_within (10 - done) rest →
    total ≡ take (done + 1) (slice_set buffer done (rest % 128 + 128)) ++ uleb_spelling_within (9 - done) (rest / 128)
unfolding uleb_spelling_within
uleb_more total buffer done rest few large inside before =
    let left : 10 - done ≡ suc (9 - done) = omega arith in
    let goes : nat_lt rest 128 ≡ false = grind (arith, nat_tests) in
    before ∙ (rw (left, goes) (append_back (take done buffer) (rest % 128 + 128) (uleb_spelling_within (9 - done) (rest / 128)))) ∙
    ap (λ xs. xs ++ uleb_spelling_within (9 - done) (rest / 128)) (sym (take_more_set buffer done (rest % 128 + 128) inside))
  where
    append_back : (xs : List ℕ) (y : ℕ) (zs : List ℕ) → xs ++ y ∷ zs ≡ (xs ++ y ∷ []) ++ zs
    append_back xs y zs = sym (append_assoc xs (y ∷ []) zs)

-- the last byte
pub uleb_last : (total buffer : List ℕ) (done rest : ℕ) → done ≤ 9 → rest < 128 → done < length buffer →
    total ≡ take done buffer ++ uleb_spelling_within (10 - done) rest → total ≡ take (done + 1) (slice_set buffer done rest)
unfolding uleb_spelling_within
uleb_last total buffer done rest few small inside before =
    let left : 10 - done ≡ suc (9 - done) = omega arith in
    let stops : nat_lt rest 128 ≡ true = grind (arith, nat_tests) in
    before ∙ (rw (left, stops) (sym (take_more_set buffer done rest inside)))

-- seven bits of a number that needs so many more
pub less_seven : (rest done : ℕ) → done ≤ 9 → rest < 128 ^ (10 - done) → rest / 128 < 128 ^ (9 - done)
less_seven rest done few small =
    let left : 10 - done ≡ suc (9 - done) = omega arith in
    let power : 128 ^ (10 - done) ≡ 128 ^ (9 - done) * 128 = rw left (pow-suc 128 (9 - done)) in
    omega arith

-- of a number that goes on, not all ten bytes are done
pub not_last : (rest done : ℕ) → done ≤ 9 → 128 ≤ rest → rest < 128 ^ (10 - done) → done + 1 ≤ 9
not_last rest done few large small = cases (nat_lt done 9) refl
  where
    cases : (b : Bool) → nat_lt done 9 ≡ b → done + 1 ≤ 9
    cases true before = grind (arith, nat_tests)
    cases false at_end =
        let nine : done ≡ 9 = grind (arith, nat_tests) in
        let one : 10 - done ≡ 1 = omega arith in
        let bound : rest < 128 = rw one at small in
        absurd (omega arith)

-- how far a number is from 0, or from -1
abbrev pub magnitude : ℤ → ℕ
magnitude (pos n) = n
magnitude (negsuc n) = n

-- a byte of a signed number that goes on, behind those that are done
pub sleb_more : (total buffer : List ℕ) (done : ℕ) (rest : ℤ) → done ≤ 9 → fits_seven rest ≡ false → done < length buffer →
    total ≡ take done buffer ++ sleb_spelling_within (10 - done) rest →
    total ≡ take (done + 1) (slice_set buffer done (low_seven rest + 128)) ++ sleb_spelling_within (9 - done) (without_seven rest)
unfolding sleb_spelling_within
sleb_more total buffer done rest few goes inside before =
    let left : 10 - done ≡ suc (9 - done) = omega arith in
    before ∙ (rw (left, goes) (append_back (take done buffer) (low_seven rest + 128) (sleb_spelling_within (9 - done) (without_seven rest)))) ∙
    ap (λ xs. xs ++ sleb_spelling_within (9 - done) (without_seven rest)) (sym (take_more_set buffer done (low_seven rest + 128) inside))
  where
    append_back : (xs : List ℕ) (y : ℕ) (zs : List ℕ) → xs ++ y ∷ zs ≡ (xs ++ y ∷ []) ++ zs
    append_back xs y zs = sym (append_assoc xs (y ∷ []) zs)

-- its last byte
pub sleb_last : (total buffer : List ℕ) (done : ℕ) (rest : ℤ) → done ≤ 9 → fits_seven rest ≡ true → done < length buffer →
    total ≡ take done buffer ++ sleb_spelling_within (10 - done) rest → total ≡ take (done + 1) (slice_set buffer done (low_seven rest))
unfolding sleb_spelling_within
sleb_last total buffer done rest few stops inside before =
    let left : 10 - done ≡ suc (9 - done) = omega arith in
    before ∙ (rw (left, stops) (sym (take_more_set buffer done (low_seven rest) inside)))

-- seven bits less
pub magnitude_less : (rest : ℤ) (done : ℕ) → done + 1 ≤ 9 → magnitude rest < 64 * 128 ^ (9 - done) → magnitude (without_seven rest) < 64 * 128 ^ (9 - (done + 1))
magnitude_less rest done few small = cases rest small
  where
    left : 9 - done ≡ suc (9 - (done + 1))
    left = omega arith

    power : 128 ^ (9 - done) ≡ 128 ^ (9 - (done + 1)) * 128
    power = rw left (pow-suc 128 (9 - (done + 1)))

    cases : (z : ℤ) → magnitude z < 64 * 128 ^ (9 - done) → magnitude (without_seven z) < 64 * 128 ^ (9 - (done + 1))
    cases (pos n) h = let e = power in omega arith
    cases (negsuc n) h = let e = power in omega arith

-- of a number that goes on, not all ten bytes are done
pub not_last_signed : (rest : ℤ) (done : ℕ) → done ≤ 9 → 64 ≤ magnitude rest → magnitude rest < 64 * 128 ^ (9 - done) → done + 1 ≤ 9
not_last_signed rest done few large small = cases (nat_lt done 9) refl
  where
    cases : (b : Bool) → nat_lt done 9 ≡ b → done + 1 ≤ 9
    cases true before = grind (arith, nat_tests)
    cases false at_end =
        let nine : done ≡ 9 = grind (arith, nat_tests) in
        let none : 9 - done ≡ 0 = omega arith in
        let bound : magnitude rest < 64 = rw none at small in
        absurd (omega arith)

-- what is appended is the spelling
pub appended : (put : Result (Unit {0}) AllocError) (new old bytes spelling : List ℕ) → new ≡ (if is_ok put then old ++ bytes else old) → spelling ≡ bytes →
    OnOk put (new ≡ old ++ spelling)
appended (Ok _) new old bytes spelling after same = after ∙ ap (λ xs. old ++ xs) (sym same)
appended (Err _) new old bytes spelling after same = tt

-- a number of 64 bits
pub magnitude_in_range : (value : ℤ) → SFits w64 value → magnitude value < 2 ^ 63
magnitude_in_range (pos n) fits = omega (arith, ints, fits)
magnitude_in_range (negsuc n) fits = omega (arith, ints, fits)

-- a number that seven bits don't hold
pub magnitude_large : (rest : ℤ) → fits_seven rest ≡ false → 64 ≤ magnitude rest
magnitude_large (pos n) goes = grind (arith, nat_tests)
magnitude_large (negsuc n) goes = grind (arith, nat_tests)
