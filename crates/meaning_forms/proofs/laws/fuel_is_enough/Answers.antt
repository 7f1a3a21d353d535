use Rattle.meaning_forms.proofs.Fuel.{call_with-enough}
use Rattle.meaning_forms.proofs.laws.fuel_is_enough.Goals as goal

pub returns : goal.returns
returns c = call_with-enough
