-- What a part of a report does to its sink.
use Rattle.std.specs.Prelude.{◌≤◌, Bool, true, false, ℕ, List}
use Rattle.eh_outer.specs.Store.{Rose}
use Rattle.eh_outer.specs.Sink.{SinkView, Gains}

-- the text went out, or the sink failed
abbrev pub Says : List ℕ → SinkView → SinkView → Bool → Type 0
Says text old new true = Gains text old new × (old.faults ≤ new.faults)
Says text old new false = Rose old.faults new.faults
