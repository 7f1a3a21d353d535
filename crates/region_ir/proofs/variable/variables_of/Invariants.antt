use Rattle.std.proofs.Common.{◌≡◌, map, take}
use Rattle.region_ir.specs.Variables.{type_in}
use Rattle.region_ir.proofs.variable.variables_of.Given as goal

abbrev pub invariant-loop-parameter : goal.invariant-loop-parameter
invariant-loop-parameter l =
    map type_in l.variables.items ≡ map (λ x. x.ty) (take l.parameter-index l.parameter-items)
