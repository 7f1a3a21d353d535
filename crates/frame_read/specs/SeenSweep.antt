-- A sweep, as the definition has it.
use Rattle.std.specs.Prelude.{option_map}
use Rattle.frame_read.specs.SeenParts.{placed_seen}
use Rattle.frame_read.specs.Sweep as forms
use Rattle.frame_read.specs.declared.sweep.Sweep.{Sweep}

abbrev pub sweep_seen : Sweep → forms.Sweep
sweep_seen s = record { kept = option_map placed_seen s.kept; least = s.least }
