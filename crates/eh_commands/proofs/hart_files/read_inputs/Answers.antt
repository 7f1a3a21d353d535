use Rattle.std.proofs.Common.{◌≡◌, ◌∷◌, ap, map, string_bytes}
use Rattle.eh_commands.proofs.HartReading.{inputs_next, inputs_fail}
use Rattle.eh_commands.proofs.hart_files.read_inputs.Goals as goal

pub returns-in-Err-clause-read : goal.returns-in-Err-clause-read
returns-in-Err-clause-read g c =
    let is : c.loop-name.rest.now ≡ c.in-Some.name.now ∷ c.in-Some.others.now = (c.in-Some.ensures {u = tt}).cases.0 in
    let why = rw c.as_str.ensures.value at c.in-Err.ensures.read in
    inputs_fail (map string_bytes c.args.names.now) (map string_bytes c.loop-name.rest.now) (map string_bytes c.in-Some.others.now) (string_bytes c.in-Some.name.now) (g.St.Store.view c.args.store.now)
    (g.St.Store.view c.loop-name.store) (g.St.Store.view c.read_one.new.store) c.loop-name.inputs.items c.in-Err.ended.status (ap (map string_bytes) is) c.loop-name.invariant why

pub loop-name-preserved : goal.loop-name-preserved
loop-name-preserved g c =
    let is : c.loop-name.rest.now ≡ c.in-Some.name.now ∷ c.in-Some.others.now = (c.in-Some.ensures {u = tt}).cases.0 in
    let (input, file, pushed) = rw c.as_str.ensures.value at c.in-Ok.ensures.read in
    inputs_next (map string_bytes c.args.names.now) (map string_bytes c.loop-name.rest.now) (map string_bytes c.in-Some.others.now) (string_bytes c.in-Some.name.now) (g.St.Store.view c.args.store.now)
    (g.St.Store.view c.loop-name.store) (g.St.Store.view c.read_one.new.store) c.loop-name.inputs.items c.read_one.new.inputs.items input (ap (map string_bytes) is) c.loop-name.invariant file pushed c.in-Ok.ensures.files
    c.in-Ok.ensures.later
