use Rattle.std.proofs.Common.{map}
use Rattle.cxx_ast.specs.View.{checked_of}
use Rattle.eh_commands.specs.Question.{asked_by}
use Rattle.eh_commands.proofs.RunCauses.{compiled_runs}
use Rattle.eh_commands.proofs.run_source.run_program.Goals as goal

pub returns-in-Ok : goal.returns-in-Ok
returns-in-Ok g c =
    compiled_runs (asked_by c.args.question.now (map g.M.Module.view c.args.modules.items)) (checked_of c.args.program.now) c.args.input.now c.in-Ok.loaded (g.Out.Sink.view c.args.out.now)
    (g.Out.Sink.view c.run_loaded.new.out) c.in-Ok.ensures c.run_loaded.result c.run_loaded.ensures
