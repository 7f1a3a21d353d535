-- Steps of the search for an offset.
use Rattle.std.proofs.Common.{◌≡◌, ◌+◌, ℕ, suc, true, false, ap, if◌then◌else◌}
use Rattle.eh_write.specs.Written.{is_aligned, offset_from}

pub offset_found : (n o : ℕ) → is_aligned o ≡ true → offset_from (suc n) o ≡ o
offset_found n o aligned = ap (λ b. if b then o else offset_from n (o + 1)) aligned

pub offset_later : (n o : ℕ) → is_aligned o ≡ false → offset_from (suc n) o ≡ offset_from n (o + 1)
offset_later n o other = ap (λ b. if b then o else offset_from n (o + 1)) other
