use Rattle.cxx_ast.specs.View.{checked_of}
use Rattle.eh_commands.specs.Generate.{ReadyRuns, CheckedRuns}
use Rattle.eh_commands.proofs.GenCauses.{counts_gen, ready_runs}
use Rattle.eh_commands.proofs.generate.count_program.Goals as goal

pub returns-in-Ok : goal.returns-in-Ok
returns-in-Ok g c =
    let p = checked_of c.args.program.now in
    counts_gen (ReadyRuns c.args.turns c.in-Ok.loaded p.program.tokens) (CheckedRuns c.args.turns p) (ready_runs c.args.turns p c.in-Ok.loaded c.in-Ok.ensures)
    (g.Out.Sink.view c.args.out.now) (g.Out.Sink.view c.count_loaded.new.out) c.count_loaded.result c.count_loaded.ensures
