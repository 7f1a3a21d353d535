use Rattle.std.specs.Prelude.{◌+◌, ◌-◌}
use Rattle.std.proofs.Common.{refl}
use Rattle.region_statements.proofs.Testing.{does_break}
use Rattle.region_statements.proofs.laws.breaks_leave.Goals as goal

pub returns : goal.returns
returns c = λ l own gives b v c n i d. does_break l own gives b v c n i d (d - i + 1) refl
