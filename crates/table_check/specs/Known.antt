-- Tables that were read for one function, and may be named by others.
use Rattle.std.specs.Prelude.{◌≡◌, ℕ, Option, Some, IfSome}
use Rattle.eh_bytes.specs.Memory.{Memory}
use Rattle.lsda_read.specs.Demands.{AreDemands}
use Rattle.table_check.specs.declared.known.KnownTable.{KnownTable}

-- each has so many sites for a function whose region suits it, where it was noted what it asks
abbrev pub AreKnown : Memory → (ℕ → Option KnownTable) → Type 0
AreKnown memory known = (a : ℕ) (k : KnownTable) → known a ≡ Some k → IfSome k.demands (λ d. AreDemands memory a k.sites d)
