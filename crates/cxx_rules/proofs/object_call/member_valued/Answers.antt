use Rattle.std.proofs.Common.{ap, ◌∙◌, sym}
use Rattle.cxx_ast.specs.Calls.{member_valued}
use Rattle.cxx_rules.specs.MeaningOf.{meaning_of}
use Rattle.cxx_rules.specs.Seen.{value_seen}
use Rattle.cxx_rules.proofs.object_call.member_valued.Goals as goal

pub returns-in-Method : goal.returns-in-Method
returns-in-Method c js e =
    c.method_valued.ensures js c.in-Method.field-0 c.in-Method.field-1 e
    ∙ ap (λ m. value_seen c.args.env.now (member_valued c.args.env.now c.args.through_const c.args.first c.args.name.now js (meaning_of m))) (sym c.in-Method.is)
