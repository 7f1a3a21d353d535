-- A refusal as a pair of number and place.
use Rattle.std.specs.Prelude.{ℕ}
use Rattle.cxx_rules.specs.declared.found.Refusal.{Refusal}

abbrev pub pair_of : Refusal → ℕ × ℕ
pair_of r = (r.number, r.place)
