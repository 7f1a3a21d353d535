use Rattle.std.proofs.Common.{map, string_bytes, None}
use Rattle.command_line.specs.Pieces.{pieces_of}
use Rattle.command_line.proofs.Sorted.{of_pieces}
use Rattle.command_line.proofs.reader.read_behind.Goals as goal

pub returns : goal.returns
returns c = of_pieces _ c.args.verb c.args.takes.operands (pieces_of c.args.takes.settings.now (map string_bytes c.args.words.now) None) _ _ c.in_ok-matches.ensures c.in_ok-of.ensures c.command.ensures
