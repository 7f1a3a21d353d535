use Rattle.plain_text.proofs.FirstLine.{line_ended, line_unended}
use Rattle.plain_text.proofs.lines.line_length.Goals as goal

pub returns-in-Some : goal.returns-in-Some
returns-in-Some c = line_ended c.args.text.now c.in-Some.end c.in-Some.ensures

pub returns-in-None : goal.returns-in-None
returns-in-None c = line_unended c.args.text.now c.requires c.in-None.ensures
