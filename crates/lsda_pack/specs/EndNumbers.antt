-- The ends of chains by numbers: equal ends have one number, and different ones have different numbers.
use Rattle.std.specs.Prelude.{◌≡◌, ◌<◌, ◌≤◌, ℕ, ℤ, List, [], ◌∷◌, ◌++◌, map, Option, Some, option_and_then}
use Rattle.std.specs.List.{AllByRecursion}
use Rattle.std.specs.declared.cmp.Ordering.{Ordering}
use Rattle.std.specs.Ordering.{int_cmp, nat_cmp, ordering_then}
use Rattle.std.specs.BTreeMap.{BTreeMap, btree_map_len, get}
use Rattle.lsda_pack.specs.declared.numbers.NumberedChain.{NumberedChain}

-- an end by its first filter and the number of the end behind it
abbrev pub end_cmp : ℤ × ℕ → ℤ × ℕ → Ordering
end_cmp d e = ordering_then (int_cmp d.0 e.0) (nat_cmp d.1 e.1)

-- the number of an end, where it has one; that of no filters is 0
abbrev pub end_number : (ℤ × ℕ → Option ℕ) → List ℤ → Option ℕ
end_number known [] = Some 0
end_number known (f ∷ fs) = option_and_then (λ n. known (f, n)) (end_number known fs)

-- a number above 0 is that of one end
pub record TellsApart (known : ℤ × ℕ → Option ℕ) : Type 0 where
  pub above : (e : ℤ × ℕ) (n : ℕ) → known e ≡ Some n → 0 < n
  pub apart : (d e : ℤ × ℕ) (n : ℕ) → known d ≡ Some n → known e ≡ Some n → d ≡ e

-- numbers are given in turn
pub record AreNumbers (known : BTreeMap (ℤ × ℕ) ℕ) : Type 0 where
  pub apart : TellsApart (get end_cmp known)
  pub few : (e : ℤ × ℕ) (n : ℕ) → get end_cmp known e ≡ Some n → n ≤ btree_map_len known

-- what has a number keeps it
abbrev pub Keeps : (ℤ × ℕ → Option ℕ) → (ℤ × ℕ → Option ℕ) → Type 0
Keeps known more = (e : ℤ × ℕ) (n : ℕ) → known e ≡ Some n → more e ≡ Some n

-- the numbers of the ends of a chain that are not empty, the shortest end's first
abbrev pub HaveNumbers : (ℤ × ℕ → Option ℕ) → List ℤ → List ℕ → Type 0
HaveNumbers known [] ns = ns ≡ []
HaveNumbers known (f ∷ fs) ns = (shorter : List ℕ) × (n : ℕ) × (ns ≡ shorter ++ n ∷ []) × (end_number known (f ∷ fs) ≡ Some n) × HaveNumbers known fs shorter

abbrev pub IsNumbered : (ℤ × ℕ → Option ℕ) → NumberedChain → Type 0
IsNumbered known c = HaveNumbers known c.filters.now c.ends.items

abbrev pub filters_of : List NumberedChain → List (List ℤ)
filters_of chains = map (λ c. c.filters.now) chains

pub record AreNumbered (known : ℤ × ℕ → Option ℕ) (chains : List NumberedChain) : Type 0 where
  pub apart : TellsApart known
  pub each : AllByRecursion (IsNumbered known) chains
