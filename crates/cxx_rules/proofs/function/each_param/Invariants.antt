use Rattle.std.proofs.Common.{◌≡◌, drop}
use Rattle.cxx_rules.specs.Parts.{params_behind}
use Rattle.cxx_rules.proofs.function.each_param.Given as goal

abbrev pub invariant-loop-param : goal.invariant-loop-param
invariant-loop-param l =
    params_behind l.env l.found l.before (drop l.param-index l.params) ≡ params_behind l.env l.initial.found l.initial.before l.params
