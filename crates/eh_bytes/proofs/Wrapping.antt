-- Sums modulo 2^64.
use Rattle.std.proofs.Common.{◌≡◌, ◌+◌, ◌*◌, ◌/◌, ◌%◌, ◌^◌, ◌==◌, ℕ, ap, sym, ◌∙◌, add_assoc}
use Rattle.std.specs.Prelude.{if◌then◌else◌, false}
use Rattle.std.proofs.Math.Nat.{mod-add-div', add-mul-mod_self_right}
use Rattle.eh_bytes.specs.declared.encoded.Pointer.{Pointer}
use Rattle.eh_bytes.specs.Encoded.{applied, is_relative, is_indirect}

pub add-mod : (n a m : ℕ) → (n + a) % m ≡ (n + a % m) % m
add-mod n a m =
    let parts : n + a ≡ n + a % m + a / m * m = ap (λ x. n + x) (sym (mod-add-div' a m)) ∙ sym (add_assoc n (a % m) (a / m * m)) in
    ap (λ x. x % m) parts ∙ add-mul-mod_self_right (n + a % m) (a / m) m

-- only the address modulo 2^64 counts
pub applied_wrapped : (encoding a n : ℕ) → applied encoding a n ≡ applied encoding (a % 2 ^ 64) n
applied_wrapped encoding a n =
    let said : ℕ → Pointer = λ x. if n == 0 then record { value = 0; indirect = false }
    else record { value = (if is_relative encoding then x else n); indirect = is_indirect encoding } in
    ap said (add-mod n a (2 ^ 64))
