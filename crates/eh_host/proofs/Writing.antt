-- What a writer took, write by write, is a prefix of the piece.
use Rattle.std.proofs.Common.{◌≡◌, ℕ, ◌-◌, List, ◌++◌, length, take, drop, sym, ap, ◌∙◌, subst, append_assoc, take-append-drop}
use Rattle.std.specs.Prelude.{Option}
use Rattle.std.proofs.lemmas.List.{take_rest}
use Rattle.std.specs.Io.KnownBytes.{Appends}
use lib.Seq.{take-append_seam}

-- one more write takes a prefix of the rest
pub moved : (piece done rest : List ℕ) (n : ℕ) → piece ≡ done ++ rest → piece ≡ (done ++ take n rest) ++ drop n rest
moved piece done rest n split =
    split ∙ ap (λ l. done ++ l) (sym (take-append-drop n rest)) ∙ sym (append_assoc done (take n rest) (drop n rest))

-- so also where what is left is written as a slice is
pub moved_slice : (piece done rest : List ℕ) (n : ℕ) → piece ≡ done ++ rest → piece ≡ (done ++ take n rest) ++ take (length rest - n) (drop n rest)
moved_slice piece done rest n split = moved piece done rest n split ∙ ap (λ l. (done ++ take n rest) ++ l) (sym (take_rest rest n))

module _ (old new : Option (List ℕ)) (piece done rest : List ℕ) where
  pub prefix_taken : piece ≡ done ++ rest → Appends old new done → (k : ℕ) × Appends old new (take k piece)
  prefix_taken split appended =
      (length done, subst (Appends old new) (sym (ap (take (length done)) split ∙ take-append_seam done rest)) appended)
