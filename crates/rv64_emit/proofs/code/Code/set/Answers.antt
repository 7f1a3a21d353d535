use Rattle.std.proofs.Common.{◌∙◌, ap, set}
use Rattle.std.proofs.lemmas.List.{map-set}
use Rattle.rv64_emit.specs.View.{piece_of}
use Rattle.rv64_emit.proofs.code.Code.set.Goals as goal

pub returns : goal.returns
returns c = map-set piece_of c.self.inside.pieces.items c.args.place c.args.piece ∙ ap (λ l. set l c.args.place (piece_of c.args.piece)) c.self.view_is
