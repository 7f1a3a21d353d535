-- What a step that goes on says: an int is stored only where what it belongs to is there, and what is defined only where a test holds was defined.
use Rattle.std.proofs.Common.{◌≡◌, ℤ, Bool, true, false, List, refl}
use Rattle.region_forms.specs.World.{Address, Frame, World, written}
use Rattle.region_forms.specs.Lives.{is_there}
use Rattle.region_forms.specs.Evaluation.{in_memory}
use Rattle.region_forms.specs.Effect.{Effect, goes, only_where, stored_at}
use Rattle.linear_forms.specs.Activation.{Code, Activation, State, Next, goes_to, next_if}
use Rattle.linear_forms.specs.Operation.{performed}

-- what follows upon a store, and that its place was there
pub stored_there : (a : Address) (z : ℤ) (frame new_frame : Frame) (v u : World) → stored_at (in_memory a) z frame v ≡ goes new_frame u
    → (is_there v a.base ≡ true) × (frame ≡ new_frame) × (written a z v ≡ u)
stored_there a z frame new_frame v u e = go (is_there v a.base) refl e
  where
    go : (b : Bool) → is_there v a.base ≡ b → only_where b (goes frame (written a z v)) ≡ goes new_frame u
        → (is_there v a.base ≡ true) × (frame ≡ new_frame) × (written a z v ≡ u)
    go true is e = (is, cc e, cc e)
    go false is e = absurd (cc e)

-- a step that goes on was defined
pub next_there : (b : Bool) (w : World) (x : Next) (next : State) → next_if b w x ≡ goes_to next → x ≡ goes_to next
next_there true w x next e = e
next_there false w x next e = absurd (cc e)

pub next_where : (code : Code) (b : Bool) (x : Effect) (a : Activation) (fs : List Activation) (w : World) (next : State) → performed code (only_where b x) a fs w ≡ goes_to next
    → performed code x a fs w ≡ goes_to next
next_where code true x a fs w next e = e
next_where code false x a fs w next e = absurd (cc e)
