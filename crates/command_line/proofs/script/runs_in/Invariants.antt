use Rattle.std.proofs.Common.{◌≡◌, map, drop}
use Rattle.command_line.specs.Script.{runs_within}
use Rattle.command_line.proofs.Lists.{with_front}
use Rattle.command_line.proofs.script.runs_in.Given as goal

-- the runs so far and those that what is left of the items gives are those of all
abbrev pub invariant-loop-item : goal.invariant-loop-item
invariant-loop-item l =
    with_front l.runs.items (runs_within l.left (map (λ x. x.now) (drop l.item-index l.items))) ≡ runs_within 1000000 (map (λ x. x.now) l.items)
