-- What holds of each item of a list.
use Rattle.std.proofs.Common.{ℕ, List, [], ◌∷◌, refl, inl, inr}
use Rattle.std.specs.List.{AllByRecursion}
use Rattle.table_forms.proofs.Kept.{IsIn}

pub all_more : {X : Type 0} (P Q : X → Type 0) → ((x : X) → P x → Q x) → (xs : List X) → AllByRecursion P xs → AllByRecursion Q xs
all_more P Q more [] holds = tt
all_more P Q more (x ∷ xs) holds = (more x holds.0, all_more P Q more xs holds.1)

-- each number of a list is in it
pub all_members : (ns : List ℕ) → AllByRecursion (λ n. IsIn n ns) ns
all_members [] = tt
all_members (n ∷ ns) = (inl refl, all_more (λ k. IsIn k ns) (λ k. IsIn k (n ∷ ns)) (λ k is. inr is) ns (all_members ns))
