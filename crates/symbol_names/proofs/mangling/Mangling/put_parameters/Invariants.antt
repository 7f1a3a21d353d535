use Rattle.std.proofs.Common.{◌≡◌, length}
use Rattle.symbol_names.specs.Mangled.{put_types}
use Rattle.symbol_names.proofs.mangling.Mangling.put_parameters.Given as goal

abbrev pub invariant-params : goal.invariant-params
invariant-params l = put_types l.params l.initial.self ≡ put_types l.rest l.self

abbrev pub decreases-params : goal.decreases-params
decreases-params l = length l.rest
