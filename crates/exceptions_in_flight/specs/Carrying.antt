-- What stands between a landing pad and what ends its cleanup.
use Rattle.std.specs.Prelude.{◌≡◌, ◌⊎◌, ℕ, ◌+◌, true, Some}
use Rattle.region_forms.specs.Form.{destroy, leave}
use Rattle.linear_forms.specs.Linear.{LinearOp, plain, label, jump_filter, free, resume, unexpected, FunctionCode}
use Rattle.linear_forms.specs.Emission.{Emitting}
use Rattle.cost_paths.specs.Control.{goes_on, label_of, place_of}

-- cleanups, tests of the selector, and what goes on outwards with the object of the pad
abbrev pub CarriesOn : Emitting → LinearOp → Type 0
CarriesOn em (plain (destroy p n)) = Unit {0}
CarriesOn em (plain leave) = Unit {0}
CarriesOn em (free s) = Unit {0}
CarriesOn em (jump_filter s n l) = s ≡ em.selector
CarriesOn em (label l) = Unit {0}
CarriesOn em (resume s) = s ≡ em.object
CarriesOn em (unexpected o s) = (o ≡ em.object) × (s ≡ em.selector)
CarriesOn em o = ⊥

-- a step of control inside a call without an exception: to the next operation, or to the label of a jump
abbrev pub Steps : FunctionCode → ℕ → LinearOp → ℕ → Type 0
Steps g p o q = ((goes_on o ≡ true) × (q ≡ p + 1)) ⊎ ((l : ℕ) × (label_of o ≡ Some l) × (q ≡ place_of g l))
