-- A sink in memory as a clause sees it, and when a put gives each of its answers.
use Rattle.std.specs.Prelude.{◌≡◌, ◌⊎◌, ◌<◌, ◌≤◌, ℕ, ◌+◌, ◌++◌, Bool, true, false, List, length, Some, Result, Ok, Err}
use Rattle.eh_outer.specs.declared.sink.SinkError.{SinkError}
use Rattle.eh_outer.specs.declared.sink.SinkError.TheVariants.{Failed}
use Rattle.eh_outer.specs.Schedule.{one_more, next_fails}
use Rattle.eh_outer.specs.Sink.{SinkView}

-- the bytes that it took, how many it can take, the numbers of the puts that fail, how many were made, how many failed, and the length of the last piece that failed
pub record MemSinkView : Type 0 where
  pub bytes : List ℕ
  pub room : ℕ
  pub fails : List ℕ
  pub calls : ℕ
  pub faults : ℕ
  pub wanted : ℕ

-- what it tells as a sink
abbrev pub sink_of : MemSinkView → SinkView
sink_of sink = record { taken = Some sink.bytes; faults = sink.faults; wanted = sink.wanted }

-- the next put fails by its number
abbrev pub fails_next : MemSinkView → Bool
fails_next sink = next_fails sink.fails sink.calls

-- when a put gives each of its answers, and the sink that it leaves: a failed one takes nothing
abbrev pub MemPuts : List ℕ → MemSinkView → MemSinkView → Result Unit SinkError → Type 0
MemPuts piece old new (Ok done) =
    (fails_next old ≡ false) × (length old.bytes + length piece ≤ old.room) × (new ≡ record old { bytes = old.bytes ++ piece; calls = one_more old.calls })
MemPuts piece old new (Err Failed) =
    ((fails_next old ≡ true) ⊎ (old.room < length old.bytes + length piece))
    × (new ≡ record old { calls = one_more old.calls; faults = one_more old.faults; wanted = length piece })
