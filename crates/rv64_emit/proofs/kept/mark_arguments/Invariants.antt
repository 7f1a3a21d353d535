use Rattle.std.proofs.Common.{◌≡◌, drop}
use Rattle.region_ir.specs.View.{arguments_of}
use Rattle.rv64_emit.specs.Marks.{arguments_marked}
use Rattle.rv64_emit.proofs.kept.mark_arguments.Given as goal

-- the marks so far, and those of what is left
abbrev pub invariant-loop-argument : goal.invariant-loop-argument
invariant-loop-argument l = arguments_marked (arguments_of (drop l.argument-index l.arguments)) l.taken ≡ arguments_marked (arguments_of l.arguments) l.initial.taken
