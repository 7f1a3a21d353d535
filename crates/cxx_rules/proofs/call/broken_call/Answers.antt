use Rattle.std.proofs.Common.{◌∙◌, sym, [], ◌∷◌}
use Rattle.cxx_ast.specs.Finding.{breaks}
use Rattle.cxx_rules.specs.Numbered.{number_of}
use Rattle.cxx_rules.proofs.FoundLaws.{summary_one}
use Rattle.cxx_rules.proofs.call.broken_call.Goals as goal

pub returns : goal.returns
returns c js e =
    c.broken_behind.ensures (breaks (number_of c.args.rule) c.args.place ∷ []) js
    (c.broken.ensures ∙ sym (summary_one c.args.env.now.definitions (number_of c.args.rule) c.args.place)) e
