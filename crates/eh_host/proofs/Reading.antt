-- What the bytes that a reader gave say of all that it had.
use Rattle.std.proofs.Common.{◌≡◌, ℕ, ◌<◌, min, length, take, List, None, Some, IfSome, ◌∙◌, ap, subst}
use native.Mathlib.Omega.{arith}
use Rattle.std.specs.Prelude.{Option}
use Rattle.std.specs.Option.{option_map}
use Rattle.std.specs.Io.Take.{take_inner, take_limit, take_remaining}
use Rattle.std.specs.declared.io.traits.Take.{Take}
use Rattle.std.proofs.lemmas.List.{length-take, take_all}

-- fewer bytes than were asked for are all of them
abbrev pub all_of_few : (most : ℕ) (known : Option (List ℕ)) (bytes : List ℕ) → IfSome (option_map (take most) known) (λ front. bytes ≡ front) → length bytes < most → IfSome known (λ all. bytes ≡ all)
all_of_few most None bytes same few = tt
all_of_few most (Some all) bytes same few =
    let count : length bytes ≡ min most (length all) = ap length same ∙ length-take most all in
    same ∙ take_all most all (omega arith)

module _ {R : Type 0} (remaining : R → Option (List ℕ)) (t : Take R) (reader : R) (bytes : List ℕ) where
  abbrev pub all_read : take_inner t ≡ reader → IfSome (take_remaining remaining t) (λ front. bytes ≡ front) → length bytes < take_limit t → IfSome (remaining reader) (λ all. bytes ≡ all)
  all_read inner same few = subst (λ r. IfSome (remaining r) (λ all. bytes ≡ all)) inner (all_of_few (take_limit t) (remaining (take_inner t)) bytes same few)
