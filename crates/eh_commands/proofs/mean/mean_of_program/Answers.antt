use Rattle.std.proofs.Common.{map}
use Rattle.cxx_ast.specs.View.{checked_of}
use Rattle.scope_meaning.specs.Mean.{meant}
use Rattle.eh_commands.proofs.mean.mean_of_program.Goals as goal

pub returns-in-Ok : goal.returns-in-Ok
returns-in-Ok g c = c.print.ensures (meant (checked_of c.args.program.now) c.args.input.now (map g.M.Module.view c.args.modules.now.items) c.args.question.now.turns) c.in-Ok.ensures.meaning
