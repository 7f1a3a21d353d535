use Rattle.cxx_ast.specs.declared.standard.Std.TheVariants.{Cxx03}
use Rattle.compiler_trials.proofs.Fitting.{fitting}
use Rattle.compiler_trials.proofs.lowered.lowered.Goals as goal

pub layout-requires : goal.layout-requires
layout-requires c = fitting Cxx03 c.as_bytes.result.now c.in-Ok.program c.in-Ok.ensures
