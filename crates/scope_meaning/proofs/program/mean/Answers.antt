use Rattle.scope_meaning.proofs.Ran.{globals_so}
use Rattle.scope_meaning.proofs.program.mean.Goals as goal

pub returns-in-Some-clause-meaning : goal.returns-in-Some-clause-meaning
returns-in-Some-clause-meaning g c =
    let objects = globals_so c.args.program.now.globals.items c.in_ok-objects.objects.items (rw c.as_slice.ensures.value at c.in_ok-objects.ensures) in
    let run = rw (c.replace-outside.ensures.value, c.in_ok-input.ensures.items, c.in-Some.is) at (c.run-ran.ensures objects) in
    record { items = run.items_are; end = run.end_is; deepest = run.deepest_is }

pub returns-in-Some-clause-replies : goal.returns-in-Some-clause-replies
returns-in-Some-clause-replies g c =
    let objects = globals_so c.args.program.now.globals.items c.in_ok-objects.objects.items (rw c.as_slice.ensures.value at c.in_ok-objects.ensures) in
    let run = rw (c.replace-outside.ensures.value, c.in_ok-input.ensures.items, c.in-Some.is) at (c.run-ran.ensures objects) in
    run.replies

pub returns-in-Some-clause-cleaned : goal.returns-in-Some-clause-cleaned
returns-in-Some-clause-cleaned g c =
    let objects = globals_so c.args.program.now.globals.items c.in_ok-objects.objects.items (rw c.as_slice.ensures.value at c.in_ok-objects.ensures) in
    let run = rw (c.replace-outside.ensures.value, c.in_ok-input.ensures.items, c.in-Some.is) at (c.run-ran.ensures objects) in
    run.kept
