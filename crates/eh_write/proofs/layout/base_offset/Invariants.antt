use Rattle.std.proofs.Common.{◌≡◌, ◌+◌, ◌-◌}
use Rattle.eh_write.specs.Written.{offset_from}
use Rattle.eh_write.proofs.layout.base_offset.Given as goal

abbrev pub invariant-tries : goal.invariant-tries
invariant-tries l = (offset_from 8 l.least ≡ offset_from (8 - l.counter) l.offset) × (l.offset ≡ l.least + l.counter)
