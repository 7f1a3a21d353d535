-- Filters are ints.
use Rattle.std.proofs.Common.{◌≡◌, zero, suc, ◌<◌, ◌≤◌, ◌-◌, ℤ, true, List, [], ◌∷◌, length, refl, arith}
use Rattle.std.specs.Prelude.{◌^◌, pos, negsuc}
use Rattle.std.specs.List.{AllByRecursion}
use Rattle.std.proofs.lemmas.Bool.Decides.{nat_tests}
use Rattle.meaning_forms.specs.Arithmetic.{fits_int}
use Rattle.linear_forms.specs.Linear.{FunctionCode}
use Rattle.linear_forms.specs.Unit.{function_code}
use Rattle.flight_homes.specs.Filters.{bytes_of_lists, IsFilter, FiltersFit}
use Rattle.flight_homes.proofs.Filters.{filters_are_named}

module _ (g : FunctionCode) (types : length g.types < 2 ^ 31) (lists : bytes_of_lists g.lists ≤ 2 ^ 31) where
  one_fits : (z : ℤ) → IsFilter g z → fits_int z ≡ true
  one_fits (pos zero) h = refl
  one_fits (pos (suc i)) h = let less : suc i ≤ 2 ^ 31 - 1 = omega (arith, h, types) in grind (arith, nat_tests, less)
  one_fits (negsuc b) h = let less : b ≤ 2 ^ 31 - 1 = omega (arith, h, lists) in grind (arith, nat_tests, less)

  all_fit : (chain : List ℤ) → AllByRecursion (IsFilter g) chain → AllByRecursion (λ z. fits_int z ≡ true) chain
  all_fit [] h = tt
  all_fit (z ∷ chain) h = (one_fits z h.0, all_fit chain h.1)

pub filters_fit : FiltersFit
filters_fit f p q chain types lists e = all_fit (function_code f) types lists chain (filters_are_named f p q chain e)
