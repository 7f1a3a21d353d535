use Rattle.std.proofs.Common.{[]}
use Rattle.eh_commands.specs.Generate.{GeneratedRuns, SizeRuns}
use Rattle.eh_commands.specs.Question.{asked_by}
use Rattle.eh_commands.proofs.GenCauses.{gen_more, size_runs}
use Rattle.eh_commands.proofs.generate.generate_and_count.Goals as goal

pub returns : goal.returns
returns g c =
    let a = asked_by c.args.question [] in
    gen_more (SizeRuns c.args.question.turns c.in-Some.size) (GeneratedRuns a) (size_runs a c.in-Some.size c.in-Some.ensures.value)
    (g.Out.Sink.view c.args.out.now) (g.Out.Sink.view c.count_size.new.out) c.count_size.result c.count_size.ensures
