use Rattle.std.proofs.Common.{◌≤◌, ◌^◌, [], subst, sym, map}
use Rattle.command_line.specs.Command.{AreHarts, command_of, command_seen}
use Rattle.eh_commands.specs.Answer.{Reports}
use Rattle.eh_commands.specs.File.{Asked, refused_name}
use Rattle.eh_commands.specs.Words.{texts}
use Rattle.command_line.proofs.Inputs.{harts_are_few}
use Rattle.command_line.proofs.Sizes.{operands_are_sized}
use Rattle.command_line.proofs.Turns.{turns_are_bounded}
use Rattle.eh_commands.specs.Generate.{IsSized}
use Rattle.eh_commands.proofs.GenCauses.{is_sized}
use Rattle.eh_commands.proofs.Named.{text_named}
use Rattle.eh_commands.proofs.Words.{no_name, unread}
use Rattle.eh_commands.proofs.commands.answer.Goals as goal

pub returns-in-Ok-clause-report : goal.returns-in-Ok-clause-report
returns-in-Ok-clause-report g c =
    let ended = c.execute-ended in
    subst (λ text. Reports text (g.Er.Sink.view c.args.err.now) (g.Er.Sink.view c.report-in-Ok.new.err))
    (text_named ended.result.status ended.result.file.now (g.St.Store.view ended.new.store) ended.ensures.name) c.report-in-Ok.ensures

pub returns-in-Err-clause-report : goal.returns-in-Err-clause-report
returns-in-Err-clause-report g c =
    let name = refused_name (g.St.Store.view c.args.store.now) in
    let report = rw c.from-status.ensures at c.report.ensures in
    rw c.from-status.ensures (rw (no_name c.in-Err.error name) at report)

pub returns-in-Ok-clause-cause : goal.returns-in-Ok-clause-cause
returns-in-Ok-clause-cause g c =
    let cause = rw (c.question_of-question.ensures (map g.M.Module.view c.args.modules.items)) at c.execute-ended.ensures.cause in
    rw c.in-Ok.ensures cause

pub returns-in-Err-clause-cause : goal.returns-in-Err-clause-cause
returns-in-Err-clause-cause g c =
    rw c.from-status.ensures
    (unread (map g.M.Module.view c.args.modules.items) (command_of (texts c.args.words.now.items)) c.in-Err.error (g.St.Store.view c.args.store.now) (g.Out.Sink.view c.args.out.now) c.in-Err.ensures)

pub execute-ended-requires : goal.execute-ended-requires
execute-ended-requires g c =
    let command = command_seen c.in-Ok.command in
    let few = (turns_are_bounded (texts c.args.words.now.items) command c.in-Ok.ensures).most in
    let sized = is_sized command (operands_are_sized (texts c.args.words.now.items) command c.in-Ok.ensures) in
    let few_harts = harts_are_few (texts c.args.words.now.items) command c.in-Ok.ensures in
    let is = sym (c.question_of-question.ensures []) in
    record { turns = subst (λ (a : Asked). a.turns ≤ 2 ^ 40) is few; size = subst (λ (a : Asked). IsSized command.verb a.source) is sized; harts = subst (λ (a : Asked). AreHarts command.verb a.inputs) is few_harts }
