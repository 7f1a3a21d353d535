use Rattle.std.proofs.Common.{◌∙◌, ap, sym, ℕ, [], find, option_and_then}
use Rattle.frame_walk.specs.Outward.{tables_of}
use Rattle.cxa_runtime.specs.Kept.{world_of}
use Rattle.cxa_runtime.specs.Unexpected.{answer_in, has_list, readings}
use Rattle.cxa_runtime.proofs.runtime.Runtime.answer_with.Goals as goal

pub returns-in-None : goal.returns-in-None
returns-in-None c = λ t.
    let old = c.args.self.now in
    let found = c.reading_with.ensures.reading t ∙ ap (λ (a : ℕ). find (has_list c.args.list) (readings (tables_of old.hart) t.read.fdes a)) c.argument.ensures in
    ap (option_and_then (answer_in (world_of old [] []) old.places.bad_exception c.args.list)) (sym c.in-None.is ∙ found)

pub returns-in-Some : goal.returns-in-Some
returns-in-Some c = λ t.
    let old = c.args.self.now in
    let found = c.reading_with.ensures.reading t ∙ ap (λ (a : ℕ). find (has_list c.args.list) (readings (tables_of old.hart) t.read.fdes a)) c.argument.ensures in
    c.answer_in.ensures
    ∙ ap (option_and_then (answer_in (world_of old [] []) old.places.bad_exception c.args.list)) (sym c.in-Some.is ∙ found)
