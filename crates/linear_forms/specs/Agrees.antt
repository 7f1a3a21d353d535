-- What it is that the search by tables does what the guards do.
use Rattle.std.specs.Prelude.{◌≡◌, ℕ, List, Option, is_none}
use Rattle.region_forms.specs.Guard.{Guard, is_doomed}
use Rattle.linear_forms.specs.Tables.{Cover, bare, unpadded, padded}
use Rattle.linear_forms.specs.Stub.{Function}
use Rattle.linear_forms.specs.Activation.{Code, Activation}
use Rattle.linear_forms.specs.Search.{found}

-- the search finds no target exactly where the guards doom the exception, for each type and for a foreign one
pub record Agrees (code : Code) (f : Function) (guards : List Guard) (cover : Cover) (fs : List Activation) : Type 0 where
  pub same : (t : Option ℕ) → is_doomed code.rows guards t ≡ is_none (found code f cover t fs)

-- a cover that lets something out
abbrev pub IsSited : Cover → Type 0
IsSited bare = ⊥
IsSited unpadded = Unit {0}
IsSited (padded p chain) = Unit {0}
