-- Memory whose tables no program writes.
use Rattle.std.specs.Prelude.{Bool, not, drop}
use Rattle.std.specs.List.{list_all}
use Rattle.rv64_isa.specs.State.{State}

-- no segment that the machine was given can be written
abbrev pub is_constant : State → Bool
is_constant s = list_all (λ part. not part.write) (drop 2 s.memory)
