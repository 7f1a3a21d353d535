use Rattle.std.proofs.Common.{◌<◌, ap, ◌∙◌, sym, [], length, arith}
use Rattle.cxx_ast.specs.Calls.{names_valued}
use Rattle.cxx_rules.specs.Seen.{value_seen}
use Rattle.cxx_rules.proofs.FoundLaws.{summary_none}
use Rattle.cxx_rules.proofs.PathLaws.{no_names, several}
use Rattle.cxx_rules.proofs.object_call.names_valued.Goals as goal

pub returns-in-empty : goal.returns-in-empty
returns-in-empty c js e =
    let none : length c.args.names.now < 1 = omega arith in
    c.broken_behind.ensures [] js (c.nothing.ensures ∙ sym (summary_none c.args.env.now.definitions)) e
    ∙ ap (λ names. value_seen c.args.env.now (names_valued c.args.env.now c.args.scope.now c.args.thrown names js)) (sym (no_names c.args.names.now none))

pub returns-in-len2-up : goal.returns-in-len2-up
returns-in-len2-up c js e =
    let more : 1 < length c.args.names.now = omega arith in
    let s = several c.args.names.now c.name-item-2.result more c.name-item-2.is in
    c.object_valued.ensures js s.first s.second s.others e s.is s.ends
