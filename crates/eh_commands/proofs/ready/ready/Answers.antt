use Rattle.std.proofs.Common.{subst, Ok}
use Rattle.cxx_ast.specs.View.{checked_of}
use Rattle.elf_image.specs.Runnable.{runnable}
use Rattle.eh_run.specs.Loads.{Loads}
use Rattle.image_link.specs.Runs.{RunsUnit}
use Rattle.source_bounds.specs.Compiled.{emitted_for}
use Rattle.eh_commands.proofs.ready.ready.Goals as goal

pub returns : goal.returns
returns c =
    let p = checked_of c.args.program.now in (
      subst (RunsUnit (emitted_for p)) c.in_ok-image.ensures.bytes c.in_ok-image.ensures.runs,
      subst (λ bytes. Loads (Ok c.in-Ok.loaded) (runnable bytes)) c.in_ok-image.ensures.bytes (rw c.as_slice.ensures.value at c.in-Ok.ensures.loads),
    )
