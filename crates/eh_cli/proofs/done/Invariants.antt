use Rattle.std.proofs.Common.{◌+◌, ◌≤◌, length}
use Rattle.std.specs.Vec.Iter.{into_iter_items}
use Rattle.eh_cli.proofs.done.Given as goal

-- with those of the scripts that are left there are at most 64 modules
abbrev pub invariant-loop-script : goal.invariant-loop-script
invariant-loop-script g l = length l.modules.items + length (into_iter_items l.script-iterator) ≤ 64
