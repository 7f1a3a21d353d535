use Rattle.std.proofs.Common.{◌≡◌, ◌++◌, drop}
use Rattle.region_ir.specs.View.{arguments_of}
use Rattle.machine_forms.specs.CallCode.{arguments_passed}
use Rattle.rv64_emit.proofs.call.put_passed.Given as goal

-- the code so far, and that of what is left
abbrev pub invariant-loop-argument : goal.invariant-loop-argument
invariant-loop-argument l =
    l.code ++ arguments_passed l.frame l.next (arguments_of (drop l.argument-index l.arguments))
    ≡ l.initial.code ++ arguments_passed l.frame l.i (arguments_of l.arguments)
