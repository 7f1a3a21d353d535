-- The places at which a call carries an exception or a forced unwind that a landing pad caught on its way.
use Rattle.std.specs.Prelude.{◌≡◌, ◌⊎◌, ℕ, ◌+◌, ℤ, Bool, true, false, List, Some, slice_get}
use Rattle.region_forms.specs.Form.{RegionFunction}
use Rattle.linear_forms.specs.Linear.{LinearOp, pad, resume, unexpected}
use Rattle.linear_forms.specs.Tables.{padded, look_up}
use Rattle.linear_forms.specs.Unit.{emitting, function_code}
use Rattle.exceptions_in_flight.specs.Carrying.{CarriesOn, Steps}

-- Such places of a function. A call does not begin at one, and control comes to one from another or from the pad in front of it. What goes
-- on outwards stands at one, with the slots that the pads of the function use. Where a site names a pad, one stands.
pub record AreFlights (f : RegionFunction) (carries : ℕ → Bool) : Type 0 where
  pub first : carries 0 ≡ false
  pub form : (p : ℕ) (o : LinearOp) → slice_get (function_code f).ops p ≡ Some o → carries p ≡ true → CarriesOn (emitting f) o
  pub resumes : (p s : ℕ) → slice_get (function_code f).ops p ≡ Some (resume s) → (carries p ≡ true) × (s ≡ (emitting f).object)
  pub passes : (p o s : ℕ) → slice_get (function_code f).ops p ≡ Some (unexpected o s) → (carries p ≡ true) × (o ≡ (emitting f).object) × (s ≡ (emitting f).selector)
  pub comes : (p q : ℕ) (o : LinearOp) → slice_get (function_code f).ops p ≡ Some o → Steps (function_code f) p o q → carries q ≡ true →
      (carries p ≡ true) ⊎ ((o ≡ pad (emitting f).object (emitting f).selector) × (q ≡ p + 1))
  pub pads : (p o s : ℕ) → slice_get (function_code f).ops p ≡ Some (pad o s) → (o ≡ (emitting f).object) × (s ≡ (emitting f).selector)
  pub entered : (p q : ℕ) (chain : List ℤ) → look_up (function_code f).sites p ≡ padded q chain → slice_get (function_code f).ops q ≡ Some (pad (emitting f).object (emitting f).selector)

-- every function has such places
abbrev pub FlightsAreCarried : Type 0
FlightsAreCarried = (f : RegionFunction) → (carries : ℕ → Bool) × AreFlights f carries
