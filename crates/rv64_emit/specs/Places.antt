-- Where the functions of a unit stand.
use Rattle.std.specs.Prelude.{◌≡◌, ◌+◌, length, map}
use Rattle.eh_bytes.specs.Listed.{listed_function}
use Rattle.linear_forms.specs.Linear.{UnitCode}
use Rattle.machine_forms.specs.Routine.{all_words, listed_routines}
use Rattle.machine_forms.specs.Emitted.{unit_routines}
use Rattle.rv64_emit.specs.declared.places.Targets.{Targets}

-- what a unit's code reaches outside its functions
pub record HasTargets (targets : Targets) (u : UnitCode) : Type 0 where
  pub functions : map listed_function targets.functions.now ≡ listed_routines 2 (unit_routines u)
  pub end : targets.end ≡ 2 + all_words (unit_routines u)
  pub types : targets.types ≡ length u.types
