use Rattle.std.proofs.Common.{◌∙◌, ap, sym, [], option_and_then}
use Rattle.cxa_runtime.specs.Kept.{world_of}
use Rattle.cxa_runtime.specs.Objects.{is_native, object_where}
use Rattle.cxa_runtime.specs.Unexpected.{answer_for}
use Rattle.cxa_runtime.proofs.runtime.Runtime.answer_in.Goals as goal

pub returns-in-None : goal.returns-in-None
returns-in-None c =
    let old = c.args.self.now in
    let found = c.native_at.ensures ∙ ap (object_where is_native old.exceptions.live) c.argument.ensures in
    ap (option_and_then (answer_for (world_of old [] []) old.places.bad_exception c.args.list c.args.table.now)) (sym c.in-None.is ∙ found)

pub returns-in-Some : goal.returns-in-Some
returns-in-Some c =
    let old = c.args.self.now in
    let found = c.native_at.ensures ∙ ap (object_where is_native old.exceptions.live) c.argument.ensures in
    c.answer_for.ensures
    ∙ ap (option_and_then (answer_for (world_of old [] []) old.places.bad_exception c.args.list c.args.table.now)) (sym c.in-Some.is ∙ found)
