-- The numbers of the registers that have a rule.
use Rattle.std.specs.Prelude.{◌≡◌, ◌==◌, ◌||◌, ◌<◌, ℕ, Bool, true, false, List, [], ◌∷◌, slice_index_or}
use Rattle.table_forms.specs.declared.found.Rule.{Rule}
use Rattle.table_forms.specs.declared.found.Rule.TheVariants as rules

abbrev pub is_unspecified : Rule → Bool
is_unspecified rules.Unspecified = true
is_unspecified _ = false

abbrev pub is_listed : ℕ → List ℕ → Bool
is_listed n [] = false
is_listed n (x ∷ xs) = n == x || is_listed n xs

-- each register that has a rule is listed
pub record HasRulesIn (all : List Rule) (changed : List ℕ) : Type 0 where
  pub small : (n : ℕ) → is_listed n changed ≡ true → n < 64
  pub others : (n : ℕ) → n < 64 → is_unspecified (slice_index_or all n rules.Unspecified) || is_listed n changed ≡ true
