use Rattle.std.proofs.Common.{map}
use Rattle.cxx_ast.specs.View.{checked_of, option_of}
use Rattle.meaning_forms.specs.Class.{object_type}
use Rattle.scope_world.specs.Objects.{type_of}
use Rattle.scope_world.specs.Seen.{exception_of, world_of}
use Rattle.scope_flow.specs.Always.{always}
use Rattle.scope_flow.proofs.Unexpected.{allowed_as}
use Rattle.scope_flow.proofs.specification.is_allowed.Goals as goal

pub returns : goal.returns
returns g c = λ d.
    allowed_as (always (checked_of c.args.c.now.program.now)) (map object_type c.args.types.now) (world_of g.G.Outside.told d c.args.w.now) c.args.number (exception_of c.exception.result) (option_of type_of c.ty.result) c.allows.result (c.exception.ensures d) c.ty.ensures c.allows.ensures
