-- What the texts of a report come to.
use Rattle.std.proofs.Common.{◌++◌, Bool, true, false, List, ℕ, inl, inr, arith}
use Rattle.eh_outer.specs.Sink.{SinkView}
use Rattle.eh_commands.specs.Answer.{Reports}
use Rattle.eh_commands.specs.Report.{Says}
use Rattle.run_items.proofs.Puts.{gains_more}

pub said : (text : List ℕ) (old new : SinkView) (b : Bool) → Says text old new b → Reports text old new
said text old new true h = inr h.0
said text old new false h = inl h

-- a text, and then another
pub says_then : (first second : List ℕ) (old mid new : SinkView) (b : Bool) → Says first old mid true → Says second mid new b → Says (first ++ second) old new b
says_then first second old mid new true (gains, later) (more, latest) = (gains_more first second old mid new gains more, omega (arith, later, latest))
says_then first second old mid new false (gains, later) rose = omega (arith, later, rose)
