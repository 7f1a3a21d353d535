-- What is remembered of words that were decoded.
use Rattle.std.proofs.Common.{◌≡◌, ℕ, zero, suc, Some, subst}
use Rattle.std.specs.Prelude.{replicate}
use Rattle.rv64_machine.specs.declared.decoder.Entry.{Entry}
use Rattle.rv64_machine.specs.Decoder.{IsDecoded, AreDecoded}

some_same : {A : Type 0} {x y : A} → Some x ≡ Some y → x ≡ y
some_same e = cc e

-- the same entry at each place
pub all_same : (n : ℕ) (x : Entry) → IsDecoded x → AreDecoded (replicate n x)
all_same zero x h k e is = absurd (cc is)
all_same (suc n) x h zero e is = subst IsDecoded (some_same is) h
all_same (suc n) x h (suc k) e is = all_same n x h k e is
