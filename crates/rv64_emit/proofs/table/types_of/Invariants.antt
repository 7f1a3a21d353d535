use Rattle.std.proofs.Common.{◌≡◌, take}
use Rattle.rv64_emit.proofs.table.types_of.Given as goal

abbrev pub invariant-loop-ty : goal.invariant-loop-ty
invariant-loop-ty l = l.copied.items ≡ take l.ty-index l.types
