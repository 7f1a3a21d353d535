-- What open calls keep for themselves of exceptions: those that they carry on their way, and those for whose destructors they wait.
use Rattle.std.specs.Prelude.{⊤, ◌≡◌, ℕ, Bool, true, false, List, [], ◌∷◌, Option, Some, None, if◌then◌else◌}
use Rattle.meaning_forms.specs.Class.{contains}
use Rattle.linear_forms.specs.Stub.{Function, compiled, end_catch, terminating, call_unexpected}
use Rattle.linear_forms.specs.Activation.{Activation}
use Rattle.flight_homes.specs.Keeps.{Carrying, Carried, carried, flying_in, destroyed_in}

-- what a specification stopped is left to the runtime's function for it, which takes over what its caller carried
abbrev pub takes_over : Option Function → Bool
takes_over None = false
takes_over (Some (compiled n)) = false
takes_over (Some end_catch) = false
takes_over (Some terminating) = false
takes_over (Some call_unexpected) = true

-- what an open call carries below a call of a function, or as the newest
abbrev pub carried_below : Option Function → Carrying → Activation → Option Carried
carried_below f k a = if takes_over f then None else carried k a

-- none of the open calls below a function carries the exception, and none waits for its destructor
abbrev pub NoneHolds : Carrying → Option Function → List Activation → ℕ → Type 0
NoneHolds k f [] e = ⊤
NoneHolds k f (a ∷ fs) e = (contains (flying_in (carried_below f k a)) e ≡ false) × (contains (destroyed_in a.function a.frame) e ≡ false) × NoneHolds k (Some a.function) fs e
