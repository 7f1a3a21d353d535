use Rattle.std.proofs.Common.{map}
use Rattle.eh_commands.specs.Question.{asked_by}
use Rattle.eh_commands.proofs.MeanCauses.{source_means}
use Rattle.eh_commands.proofs.mean.mean_file.Goals as goal

pub returns-in-Ok-clause-cause : goal.returns-in-Ok-clause-cause
returns-in-Ok-clause-cause g c =
    let a = asked_by c.args.question (map g.M.Module.view c.args.modules.now.items) in
    let means = rw (c.as_slice.ensures.value, c.as_slice-in-Ok.ensures.value) at c.mean_of_source.ensures in
    source_means a c.in-Ok.source.items c.in-Ok.input.items (g.St.Store.view c.args.store.now) (g.St.Store.view c.read_both.new.store) (g.Out.Sink.view c.args.out.now) (g.Out.Sink.view c.mean_of_source.new.out)
    c.in-Ok.ensures.read.0 c.in-Ok.ensures.read.1 c.mean_of_source.result means
