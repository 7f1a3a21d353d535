use Rattle.std.proofs.Common.{◌≡◌, map, take}
use Rattle.rv64_emit.proofs.table.lists_of.Given as goal

abbrev pub invariant-loop-list : goal.invariant-loop-list
invariant-loop-list l = map (λ x. x.items) l.copied.items ≡ map (λ x. x.items) (take l.list-index l.lists)
