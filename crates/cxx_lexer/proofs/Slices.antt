-- Parts of a slice.
use Rattle.std.proofs.Common.{◌≡◌, ℕ, ◌-◌, List, length, take, drop, sym, ap, ◌∙◌}
use Rattle.std.proofs.Math.Seq.{take-length}
use Rattle.std.proofs.lemmas.List.{length-drop}

-- what stands behind a place, as a slice to the end
pub rest_slice : {A : Type 0} (xs : List A) (i : ℕ) → take (length xs - i) (drop i xs) ≡ drop i xs
rest_slice xs i = ap (λ k. take k (drop i xs)) (sym (length-drop i xs)) ∙ take-length (drop i xs)
