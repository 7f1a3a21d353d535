use Rattle.std.proofs.Common.{map, subst, sym}
use Rattle.eh_commands.specs.Question.{asked_by}
use Rattle.eh_commands.specs.RunSource.{CompiledRuns, SourceRuns}
use Rattle.eh_commands.proofs.CompileCauses.{is_checked}
use Rattle.eh_commands.proofs.RunCauses.{refused_source, source_runs}
use Rattle.eh_commands.proofs.run_source.run_source.Goals as goal

pub returns-in-Err : goal.returns-in-Err
returns-in-Err g c =
    let a = asked_by c.args.question.now (map g.M.Module.view c.args.modules.items) in
    subst (SourceRuns a c.args.source.now c.args.input.now (g.Out.Sink.view c.args.out.now) (g.Out.Sink.view c.args.out.now)) (sym c.into.ensures)
    (refused_source a c.args.source.now c.args.input.now (g.Out.Sink.view c.args.out.now) c.in-Err.error c.in-Err.ensures)

pub run_program-requires : goal.run_program-requires
run_program-requires g c =
    record { turns = c.requires.turns; program = is_checked c.args.question.now.std c.args.source.now c.in-Ok.program c.in-Ok.ensures }

pub returns-in-Ok : goal.returns-in-Ok
returns-in-Ok g c =
    let a = asked_by c.args.question.now (map g.M.Module.view c.args.modules.items) in
    let (p, only, resolved) = c.in-Ok.ensures in
    source_runs a c.args.source.now c.args.input.now p only (g.Out.Sink.view c.args.out.now) (g.Out.Sink.view c.run_program.new.out) c.run_program.result
    (subst (λ x. CompiledRuns a x c.args.input.now (g.Out.Sink.view c.args.out.now) (g.Out.Sink.view c.run_program.new.out) c.run_program.result) resolved c.run_program.ensures)
