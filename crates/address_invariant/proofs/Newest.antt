-- The newest exception that is handled was made.
use Rattle.std.proofs.Common.{arith, ℕ, ◌≤◌, List, [], ◌∷◌}
use Rattle.region_forms.specs.Caught.{Entry}
use Rattle.region_forms.specs.Effect.{newest_of}
use Rattle.caught_stack.specs.Caught.{Caught}
use Rattle.machine_simulation.specs.Exceptions.{Addresses, LinearExceptions, KeptExceptions, AreCaught, ExceptionsMatch}
use Rattle.address_invariant.specs.Plans.{NewestWasMade}

newest_made : (t : Addresses) (gone : List ℕ) (v : LinearExceptions) (w : KeptExceptions) → ExceptionsMatch t gone v w → (xs : List Entry) (ys : Caught) → AreCaught w.exceptions.live xs ys → newest_of xs ≤ v.last_number
newest_made t gone v w h [] ys caught = omega arith
newest_made t gone v w h (x ∷ xs) [] caught = absurd caught
newest_made t gone v w h (x ∷ xs) ((slot, n) ∷ ys) caught =
    let has = caught.0.0 in
    let at = h.headers slot has.header has.there in
    omega (arith, h.numbers has.header.number at.exception at.live, has.number)

pub newest_was_made : NewestWasMade
newest_was_made p st w m =
    let h = m.runtime.exceptions in newest_made _ _ _ _ h st.world.caught w.exceptions.caught h.caught
