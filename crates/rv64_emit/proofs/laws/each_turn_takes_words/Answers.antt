use Rattle.rv64_emit.proofs.Turns.{each_turn_takes_words}
use Rattle.rv64_emit.proofs.laws.each_turn_takes_words.Goals as goal

pub returns : goal.returns
returns c = each_turn_takes_words
