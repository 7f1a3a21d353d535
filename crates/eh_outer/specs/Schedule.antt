-- Which calls of an object in memory fail.
use Rattle.std.specs.Prelude.{◌==◌, ℕ, ◌+◌, ◌-◌, ◌^◌, min, Bool, List}
use Rattle.std.specs.List.{list_any}

-- one more, where that is a u64
abbrev pub one_more : ℕ → ℕ
one_more n = min (n + 1) (2 ^ 64 - 1)

-- after so many calls, the number of the next one stands in the list of those that fail
abbrev pub next_fails : List ℕ → ℕ → Bool
next_fails fails calls = list_any (λ number. number == one_more calls) fails
