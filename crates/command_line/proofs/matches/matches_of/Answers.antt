use Rattle.std.proofs.Common.{◌∙◌}
use Rattle.command_line.proofs.Parses.{parse_fails, parse_finds}
use Rattle.command_line.proofs.matches.matches_of.Goals as goal

pub returns-in-Ok : goal.returns-in-Ok
returns-in-Ok c = parse_finds c.args.settings.now c.args.words.now _ c.in-Ok.matches c.in_ok-app.ensures c.in-Ok.ensures.kinds c.in-Ok.ensures.matches

pub returns : goal.returns
returns c = parse_fails c.args.settings.now c.args.words.now _ c.in-Err.error c.in_ok-app.ensures c.in-Err.ensures.kinds (λ memory. c.in_default.not-OutOfMemory (c.kind.ensures ∙ memory))
