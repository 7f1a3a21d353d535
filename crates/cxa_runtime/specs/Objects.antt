-- Exception objects by their addresses: one of 4 KiB for each slot (profile).
use Rattle.std.specs.Prelude.{ℕ, ◌+◌, ◌-◌, ◌*◌, ◌/◌, ◌%◌, ◌==◌, ◌&&◌, nat_le, nat_lt, not, Bool, true, false, [], ◌∷◌, Option, Some, None, option_and_then, option_map, if◌then◌else◌}
use Rattle.caught_stack.specs.declared.header.HeaderKind.{HeaderKind}
use Rattle.caught_stack.specs.declared.header.HeaderKind.TheVariants.{Building, Native, Foreign}
use Rattle.caught_stack.specs.Live.{Live, header_of, is_vacant}
use Rattle.cxa_runtime.specs.declared.object.Object.{Object}

abbrev pub object_of : ℕ → ℕ
object_of slot = 0x6000_0000 + 0x1000 * slot

-- the slot of which this is the object's address
abbrev pub slot_of : ℕ → Option ℕ
slot_of a =
    if nat_le 0x6000_0000 a && nat_lt a 0x6040_0000 && (a % 0x1000 == 0) then Some ((a - 0x6000_0000) / 0x1000) else None

-- the live object of a slot
abbrev pub object_in : Live → ℕ → Option Object
object_in live slot = option_map (λ h. record { slot = slot; header = h }) (header_of live slot)

-- the live object at an address
abbrev pub object_at : Live → ℕ → Option Object
object_at live a = option_and_then (object_in live) (slot_of a)

abbrev pub is_building : HeaderKind → Bool
is_building Building = true
is_building _ = false

abbrev pub is_thrown : HeaderKind → Bool
is_thrown kind = not (is_building kind)

abbrev pub is_native : HeaderKind → Bool
is_native (Native type destructor) = true
is_native _ = false

abbrev pub is_foreign : HeaderKind → Bool
is_foreign (Foreign k token) = true
is_foreign _ = false

abbrev pub passing : (HeaderKind → Bool) → Option Object → Option Object
passing test None = None
passing test (Some o) = if test o.header.kind then Some o else None

-- the live object at an address, where its kind passes a test
abbrev pub object_where : (HeaderKind → Bool) → Live → ℕ → Option Object
object_where test live a = passing test (object_at live a)

-- the first slot from a number on that is vacant
unfoldable pub first_vacant_from : ℕ → Live → Option ℕ
first_vacant_from n [] = None
first_vacant_from n (None ∷ more) = Some n
first_vacant_from n (Some h ∷ more) = first_vacant_from (n + 1) more

-- the slot that an allocation gives: the one that is wished for, where it is vacant, else the first that is; none where all are live
abbrev pub slot_for : Live → ℕ → Option ℕ
slot_for live wish = if is_vacant live wish then Some wish else first_vacant_from 0 live
