-- What the instructions make of ints.
use Rattle.std.proofs.Common.{◌≡◌, ◌∙◌, refl, sym, ap, subst, arith, ℕ, zero, suc, ◌*◌, ◌%◌, ◌^◌, ◌<◌, ◌≤◌, ◌==◌, ℤ, pos, negsuc, Bool, true, false}
use Rattle.std.specs.Prelude.{◌+ℤ◌, ◌-ℤ◌, ◌*ℤ◌, neg_ℤ, int_lt, int_le, int_div, int_rem, not, nat_lt, unsigned_abs}
use Rattle.std.specs.Int.{w64, cast_unsigned, int_wrap}
use Rattle.std.specs.Int.RustNames.{FitsSigned}
use Rattle.std.proofs.lemmas.Bool.Decides.{nat_tests}
use Rattle.std.proofs.lemmas.Int.{ints, to_z-of_z, of_z-to_z, int_wrap_fits, wrapping_add-bits, wrapping_sub-bits, wrapping_mul-bits, rem_below}
use Rattle.meaning_forms.specs.Arithmetic.{is_zero, truth, int_equal}
use Rattle.rv64_isa.specs.Arithmetic.{sign_extended, word, signed, is_less, add, sub, mul, xor, addw, subw, mulw, divw, remw}
use Rattle.machine_forms.specs.Immediate.{immediate, is_small, upper, lower}
use Rattle.machine_pieces.specs.Numbers.{IsInt, extended, int_bits}

pub small_pos : (n : ℕ) → IsInt (pos n) → n < 2 ^ 31
small_pos n h = grind (arith, nat_tests, h)

pub small_neg : (n : ℕ) → IsInt (negsuc n) → n < 2 ^ 31
small_neg n h = grind (arith, nat_tests, h)

pub int_fits : (z : ℤ) → IsInt z → FitsSigned w64 z
int_fits (pos n) h = let small = small_pos n h in record { sfits = omega (arith, small) }
int_fits (negsuc n) h = let small = small_neg n h in record { sfits = omega (arith, small) }

-- ---- an int in a register and in four bytes

pub word_extended : (z : ℤ) → IsInt z → word (extended z) ≡ extended z
word_extended (pos n) h = let small = small_pos n h in grind (arith, nat_tests)
word_extended (negsuc n) h = let small = small_neg n h in grind (arith, nat_tests)

pub int_loaded : (z : ℤ) → IsInt z → sign_extended 32 (int_bits z) ≡ extended z
int_loaded (pos n) h = let small = small_pos n h in grind (arith, nat_tests)
int_loaded (negsuc n) h = let small = small_neg n h in grind (arith, nat_tests)

pub int_stored : (z : ℤ) → IsInt z → extended z % 2 ^ 32 ≡ int_bits z
int_stored (pos n) h = let small = small_pos n h in omega arith
int_stored (negsuc n) h = let small = small_neg n h in omega arith

pub extended_below : (z : ℤ) → IsInt z → extended z < 2 ^ 64
extended_below (pos n) h = let small = small_pos n h in omega arith
extended_below (negsuc n) h = omega arith

-- ---- a number is set

pub set_small : (z : ℤ) → is_small z ≡ true → add 0 (sign_extended 12 (immediate z)) ≡ extended z
set_small (pos n) h = grind (arith, nat_tests, h)
set_small (negsuc n) h = grind (arith, nat_tests, h)

pub set_large : (z : ℤ) → IsInt z → addw (sign_extended 32 (2 ^ 12 * upper z)) (sign_extended 12 (lower z)) ≡ extended z
set_large (pos n) h = let small = small_pos n h in grind (arith, nat_tests)
set_large (negsuc n) h = let small = small_neg n h in grind (arith, nat_tests)

-- a small number is an int, and so it is in an instruction
pub small_int : (z : ℤ) → is_small z ≡ true → IsInt z
small_int (pos n) h = grind (arith, nat_tests, h)
small_int (negsuc n) h = grind (arith, nat_tests, h)

pub small_field : (z : ℤ) → is_small z ≡ true → sign_extended 12 (immediate z) ≡ extended z
small_field (pos n) h = grind (arith, nat_tests, h)
small_field (negsuc n) h = grind (arith, nat_tests, h)

-- ---- order

pub signed_extended : (z : ℤ) → IsInt z → signed (extended z) ≡ z
signed_extended z h = to_z-of_z w64 z (int_fits z h)

pub less_extended : (x y : ℤ) → IsInt x → IsInt y → is_less (extended x) (extended y) ≡ int_lt x y
less_extended x y hx hy = rw (signed_extended x hx, signed_extended y hy) refl

pub zero_extended : (z : ℤ) → IsInt z → (extended z == 0) ≡ is_zero z
zero_extended (pos zero) h = refl
zero_extended (pos (suc n)) h = grind (arith, nat_tests)
zero_extended (negsuc n) h = let small = small_neg n h in grind (arith, nat_tests)

pub below_zero : (z : ℤ) → IsInt z → nat_lt 0 (extended z) ≡ not (is_zero z)
below_zero (pos zero) h = refl
below_zero (pos (suc n)) h = grind (arith, nat_tests)
below_zero (negsuc n) h = let small = small_neg n h in grind (arith, nat_tests)

pub below_one : (z : ℤ) → IsInt z → nat_lt (extended z) (sign_extended 12 1) ≡ is_zero z
below_one (pos zero) h = refl
below_one (pos (suc n)) h = grind (arith, nat_tests)
below_one (negsuc n) h = let small = small_neg n h in grind (arith, nat_tests)

pub other_truth : (b : Bool) → xor (extended (truth b)) (sign_extended 12 1) ≡ extended (truth (not b))
other_truth true = refl
other_truth false = refl

pub not_less : (x y : ℤ) → not (int_lt y x) ≡ int_le x y
not_less x y = grind (arith, ints)

-- ---- sums, differences and products

add_64 : (x y : ℤ) → IsInt x → IsInt y → IsInt (x +ℤ y) → add (extended x) (extended y) ≡ extended (x +ℤ y)
add_64 x y hx hy h =
    let sum : ℕ = add (extended x) (extended y) in
    let as_int : signed sum ≡ x +ℤ y =
    wrapping_add-bits w64 (extended x) (extended y) (extended_below x hx) (extended_below y hy)
    ∙ ap (λ a. int_wrap w64 (a +ℤ signed (extended y))) (signed_extended x hx) ∙ ap (λ b. int_wrap w64 (x +ℤ b)) (signed_extended y hy)
    ∙ int_wrap_fits w64 (x +ℤ y) (int_fits (x +ℤ y) h) in
    sym (of_z-to_z w64 sum (omega arith)) ∙ ap (cast_unsigned w64) as_int

sub_64 : (x y : ℤ) → IsInt x → IsInt y → IsInt (x -ℤ y) → sub (extended x) (extended y) ≡ extended (x -ℤ y)
sub_64 x y hx hy h =
    let difference : ℕ = sub (extended x) (extended y) in
    let as_int : signed difference ≡ x -ℤ y =
    wrapping_sub-bits w64 (extended x) (extended y) (extended_below x hx) (extended_below y hy)
    ∙ ap (λ a. int_wrap w64 (a -ℤ signed (extended y))) (signed_extended x hx) ∙ ap (λ b. int_wrap w64 (x -ℤ b)) (signed_extended y hy)
    ∙ int_wrap_fits w64 (x -ℤ y) (int_fits (x -ℤ y) h) in
    sym (of_z-to_z w64 difference (omega arith)) ∙ ap (cast_unsigned w64) as_int

mul_64 : (x y : ℤ) → IsInt x → IsInt y → IsInt (x *ℤ y) → mul (extended x) (extended y) ≡ extended (x *ℤ y)
mul_64 x y hx hy h =
    let product : ℕ = mul (extended x) (extended y) in
    let as_int : signed product ≡ x *ℤ y =
    wrapping_mul-bits w64 (extended x) (extended y) (extended_below x hx) (extended_below y hy)
    ∙ ap (λ a. int_wrap w64 (a *ℤ signed (extended y))) (signed_extended x hx) ∙ ap (λ b. int_wrap w64 (x *ℤ b)) (signed_extended y hy)
    ∙ int_wrap_fits w64 (x *ℤ y) (int_fits (x *ℤ y) h) in
    sym (of_z-to_z w64 product (omega arith)) ∙ ap (cast_unsigned w64) as_int

pub add_ints : (x y : ℤ) → IsInt x → IsInt y → IsInt (x +ℤ y) → addw (extended x) (extended y) ≡ extended (x +ℤ y)
add_ints x y hx hy h = ap word (add_64 x y hx hy h) ∙ word_extended (x +ℤ y) h

pub sub_ints : (x y : ℤ) → IsInt x → IsInt y → IsInt (x -ℤ y) → subw (extended x) (extended y) ≡ extended (x -ℤ y)
sub_ints x y hx hy h = ap word (sub_64 x y hx hy h) ∙ word_extended (x -ℤ y) h

pub mul_ints : (x y : ℤ) → IsInt x → IsInt y → IsInt (x *ℤ y) → mulw (extended x) (extended y) ≡ extended (x *ℤ y)
mul_ints x y hx hy h = ap word (mul_64 x y hx hy h) ∙ word_extended (x *ℤ y) h

pub minus_int : (x : ℤ) → IsInt x → IsInt (neg_ℤ x) → subw 0 (extended x) ≡ extended (neg_ℤ x)
minus_int x hx h =
    let same : pos 0 -ℤ x ≡ neg_ℤ x = omega (arith, ints) in
    sub_ints (pos 0) x refl hx (subst IsInt (sym same) h) ∙ ap extended same

-- ---- quotients

divisor : (y : ℤ) (b : Bool) → (extended y == 0) ≡ b → is_zero y ≡ false → IsInt y → b ≡ false
divisor y b e some h = sym e ∙ zero_extended y h ∙ some

pub div_ints : (x y : ℤ) → IsInt x → IsInt y → is_zero y ≡ false → IsInt (int_div x y) → divw (extended x) (extended y) ≡ extended (int_div x y)
div_ints x y hx hy some h =
    let wx = word_extended x hx in
    let wy = word_extended y hy in
    let test : (extended y == 0) ≡ false = zero_extended y hy ∙ some in
    rw (wx, wy, test, signed_extended x hx, signed_extended y hy) (word_extended (int_div x y) h)

pub rem_ints : (x y : ℤ) → IsInt x → IsInt y → is_zero y ≡ false → IsInt (int_rem x y) → remw (extended x) (extended y) ≡ extended (int_rem x y)
rem_ints x y hx hy some h =
    let wx = word_extended x hx in
    let wy = word_extended y hy in
    let test : (extended y == 0) ≡ false = zero_extended y hy ∙ some in
    rw (wx, wy, test, signed_extended x hx, signed_extended y hy) (word_extended (int_rem x y) h)

-- ---- sameness

pub same_extended : (x y : ℤ) → IsInt x → IsInt y → (extended x == extended y) ≡ int_equal x y
same_extended (pos m) (pos n) hx hy = grind (arith, nat_tests)
same_extended (pos m) (negsuc n) hx hy = let small = small_pos m hx in let other = small_neg n hy in grind (arith, nat_tests)
same_extended (negsuc m) (pos n) hx hy = let small = small_neg m hx in let other = small_pos n hy in grind (arith, nat_tests)
same_extended (negsuc m) (negsuc n) hx hy = let small = small_neg m hx in let other = small_neg n hy in grind (arith, nat_tests)

-- a difference of 32 bits is 0 where the ints are the same, also where the difference is no int
pub same_difference : (x y : ℤ) → IsInt x → IsInt y → nat_lt (subw (extended x) (extended y)) (sign_extended 12 1) ≡ int_equal x y
same_difference (pos m) (pos n) hx hy = let small = small_pos m hx in let other = small_pos n hy in grind (arith, nat_tests)
same_difference (pos m) (negsuc n) hx hy = let small = small_pos m hx in let other = small_neg n hy in grind (arith, nat_tests)
same_difference (negsuc m) (pos n) hx hy = let small = small_neg m hx in let other = small_pos n hy in grind (arith, nat_tests)
same_difference (negsuc m) (negsuc n) hx hy = let small = small_neg m hx in let other = small_neg n hy in grind (arith, nat_tests)

pub other_difference : (x y : ℤ) → IsInt x → IsInt y → nat_lt 0 (subw (extended x) (extended y)) ≡ not (int_equal x y)
other_difference (pos m) (pos n) hx hy = let small = small_pos m hx in let other = small_pos n hy in grind (arith, nat_tests)
other_difference (pos m) (negsuc n) hx hy = let small = small_pos m hx in let other = small_neg n hy in grind (arith, nat_tests)
other_difference (negsuc m) (pos n) hx hy = let small = small_neg m hx in let other = small_pos n hy in grind (arith, nat_tests)
other_difference (negsuc m) (negsuc n) hx hy = let small = small_neg m hx in let other = small_neg n hy in grind (arith, nat_tests)

pub truth_is_int : (b : Bool) → IsInt (truth b)
truth_is_int true = refl
truth_is_int false = refl

int_below : (z : ℤ) → unsigned_abs z < 2 ^ 31 → IsInt z
int_below (pos n) small = grind (arith, nat_tests, small)
int_below (negsuc n) small = grind (arith, nat_tests, small)

abs_of_int : (z : ℤ) → IsInt z → unsigned_abs z ≤ 2 ^ 31
abs_of_int (pos n) h = let small = small_pos n h in omega arith
abs_of_int (negsuc n) h = let small = small_neg n h in omega arith

abs_some : (z : ℤ) → is_zero z ≡ false → 0 < unsigned_abs z
abs_some (pos zero) h = absurd (cc h)
abs_some (pos (suc n)) h = omega arith
abs_some (negsuc n) h = omega arith

pub rem_is_int : (x y : ℤ) → IsInt y → is_zero y ≡ false → IsInt (int_rem x y)
rem_is_int x y h some = int_below (int_rem x y) (omega (arith, rem_below x y (abs_some y some), abs_of_int y h))
