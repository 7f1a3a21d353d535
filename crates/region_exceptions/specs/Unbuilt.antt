-- An exception that is not yet built.
use Rattle.std.specs.Prelude.{◌≡◌, ℕ, true, Some, slice_get}
use Rattle.meaning_forms.specs.Class.{ObjectType}
use Rattle.meaning_forms.specs.World.{World, Installed, building, native, exception_at}
use Rattle.region_simulation.specs.Lives.{is_live}

-- no exception of this number is kept as native
abbrev pub IsNotNative : ℕ → World → Type 0
IsNotNative e w = (i o : ℕ) (t : ObjectType) (kept : Installed) → slice_get w.live i ≡ Some (record { number = e; exception = native t o kept }) → ⊥

-- an exception is being built: it is live, and kept as nothing else
abbrev pub IsUnbuilt : ℕ → World → Type 0
IsUnbuilt e w = (is_live w.live e ≡ true) × (exception_at w e ≡ building) × IsNotNative e w
