use Rattle.std.proofs.Common.{[]}
use Rattle.eh_commands.specs.Question.{asked_by}
use Rattle.eh_commands.proofs.CompileCauses.{source_compiled}
use Rattle.eh_commands.proofs.compile.compile_file.Goals as goal

pub returns-in-Ok-clause-cause : goal.returns-in-Ok-clause-cause
returns-in-Ok-clause-cause g c =
    let compiles = rw c.as_slice.ensures.value at c.compile_source.ensures in
    source_compiled (asked_by c.args.question []) c.in-Ok.source.items (g.St.Store.view c.args.store.now) (g.St.Store.view c.read.new.store) (g.St.Store.view c.compile_source.new.store)
    c.in-Ok.ensures.read.0 c.in-Ok.ensures.read.1 c.in-Ok.ensures.later c.in-Ok.ensures.files c.compile_source.result compiles
