use Rattle.std.proofs.Common.{◌∙◌, ◌+◌, ap, sym, Some, option_map}
use Rattle.table_forms.specs.Verdict.{Thrown}
use Rattle.personality.specs.Seen.{thrown_of}
use Rattle.cxa_runtime.specs.Unexpected.{checked}
use Rattle.cxa_runtime.proofs.runtime.Runtime.answer_for.Goals as goal

pub returns-in-None : goal.returns-in-None
returns-in-None c =
    ap (option_map (λ (x : Thrown). checked c.args.table.now x (c.args.list + 1) c.args.self.now.places.bad_exception))
    (sym (ap (option_map thrown_of) c.in-None.is) ∙ c.thrown_by.ensures)

pub returns-in-Some : goal.returns-in-Some
returns-in-Some c =
    ap Some c.check.ensures
    ∙ ap (option_map (λ (x : Thrown). checked c.args.table.now x (c.args.list + 1) c.args.self.now.places.bad_exception))
    (sym (ap (option_map thrown_of) c.in-Some.is) ∙ c.thrown_by.ensures)
