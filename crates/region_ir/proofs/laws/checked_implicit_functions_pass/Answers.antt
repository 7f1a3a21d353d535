use Rattle.region_ir.proofs.ImplicitLeaves.{implicit_pass}
use Rattle.region_ir.proofs.laws.checked_implicit_functions_pass.Goals as goal

pub returns : goal.returns
returns c = record { pass = implicit_pass }
