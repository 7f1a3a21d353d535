use Rattle.eh_commands.proofs.CompileCauses.{stored_compiles}
use Rattle.eh_commands.proofs.compile.compile_source.Goals as goal

pub returns-in-Ok : goal.returns-in-Ok
returns-in-Ok g c =
    stored_compiles c.args.standard c.args.name.now c.args.source.now c.in-Ok.program c.in-Ok.ensures (g.St.Store.view c.args.store.now) (g.St.Store.view c.store_image.new.store)
    c.store_image.result c.store_image.ensures
