use Rattle.std.proofs.Common.{ap, ◌∙◌, sym}
use Rattle.cxx_ast.specs.Calls.{meant_valued}
use Rattle.cxx_rules.specs.MeaningOf.{meaning_of}
use Rattle.cxx_rules.specs.Seen.{value_seen}
use Rattle.cxx_rules.proofs.call.meant_valued.Goals as goal

pub returns-in-Function : goal.returns-in-Function
returns-in-Function c js e =
    c.function_valued.ensures js c.args.scope.now c.args.thrown e
    ∙ ap (λ m. value_seen c.args.env.now (meant_valued c.args.env.now c.args.scope.now c.args.thrown c.args.name.now js (meaning_of m))) (sym c.in-Function.is)
