use Rattle.std.proofs.Common.{◌≡◌, ◌+◌, length}
use Rattle.std.specs.Vec.Iter.{into_iter_items}
use Rattle.eh_cli.proofs.modules.each_script.Given as goal

-- with those that are left there are as many as there were
abbrev pub invariant-loop-runs : goal.invariant-loop-runs
invariant-loop-runs l = length l.found.items + length (into_iter_items l.runs-iterator) ≡ length l.fn.scripts.items
