-- What is told of a stream: its faults, and the bytes that its writer holds, where the library knows them.
use Rattle.std.specs.Prelude.{ℕ, List, Option}
use Rattle.eh_outer.specs.Sink.{SinkView}

abbrev pub seen : Option (List ℕ) → ℕ → ℕ → SinkView
seen held faults wanted = record { taken = held; faults = faults; wanted = wanted }
