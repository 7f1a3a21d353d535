use Rattle.std.proofs.Common.{map, refl}
use Rattle.cxx_ast.specs.View.{expressions_of}
use Rattle.scope_flow.specs.Asked.{constructor_of, parameter_types_of}
use Rattle.region_ir.specs.Given.{lowering_of}
use Rattle.region_ir.specs.View.{place_of, region_of}
use Rattle.region_ir.proofs.Callees.{constructed_so}
use Rattle.region_ir.proofs.lower.lower_construct.Goals as goal

pub returns : goal.returns
returns c =
    rw c.in_ok-put.ensures (constructed_so (lowering_of c.args.l.now) c.args.class (expressions_of c.args.arguments.now) (place_of c.args.place) c.args.slot
    (constructor_of c.constructor_chosen-which.result) (parameter_types_of c.constructor_parameters-parameters.result) c.in_ok-function.function
    (map region_of c.args.before.now.items) c.lower_arguments.new.before.items c.new-given.result.items c.lower_arguments.new.given.items _
    c.constructor_chosen-which.ensures c.constructor_parameters-parameters.ensures c.in_ok-function.ensures c.new-given.ensures.items
    c.in_ok-lower_arguments.ensures refl)
