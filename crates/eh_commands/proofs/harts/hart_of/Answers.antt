use Rattle.hart_sched.specs.declared.hart.Hart.{Hart}
use Rattle.eh_commands.proofs.HartsCauses.{hart_is_ready}
use Rattle.eh_commands.proofs.harts.hart_of.Goals as goal

pub returns-in-Ok : goal.returns-in-Ok
returns-in-Ok c =
    let (header, ready, is) = c.into_runtime.ensures in
    let hart : Hart = record { runtime = c.into_runtime.result; input = c.args.input } in
    hart_is_ready c.loaded_harts_are_ready.ensures.loaded c.args.image.now c.in-Ok.loaded hart header c.in-Ok.ensures.loads ready is
