-- How many steps a run counts.
use Rattle.std.specs.Prelude.{ℕ, ◌+◌}
use Rattle.cxa_runtime.specs.declared.effect.End.{End}
use Rattle.cxa_runtime.specs.declared.effect.End.TheVariants.{Fault, WriteFault}

-- behind so many, the turn that ends the run is one more, but for a fault and for one that could not be written
abbrev pub steps_at : ℕ → End → ℕ
steps_at turns (Fault kind place) = turns
steps_at turns WriteFault = turns
steps_at turns _ = turns + 1
