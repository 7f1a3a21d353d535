use Rattle.std.proofs.Common.{◌≤◌, length, arith}
use Rattle.cxx_ast.specs.TypeNames.{type_found}
use Rattle.cxx_rules.proofs.ListLaws.{each_ended}
use Rattle.cxx_rules.proofs.types.types_found.Goals as goal

pub returns : goal.returns
returns c =
    let over : length c.args.types.now ≤ c.loop-ty.ty-index = omega arith in
    each_ended c.args.env.now (type_found c.args.env.now c.args.scope.now) _ _ _ _ over c.nothing-found.ensures c.loop-ty.invariant
