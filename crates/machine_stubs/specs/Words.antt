-- The runtime's own functions stand where their words do.
use Rattle.std.specs.Prelude.{ℕ, List, ◌++◌}
use Rattle.rv64_isa.specs.State.{Part}
use Rattle.linear_forms.specs.Linear.{UnitCode}
use Rattle.linear_forms.specs.Stub.{terminating, end_catch, call_unexpected}
use Rattle.machine_forms.specs.Emitted.{emitted_stubs, unit_words}
use Rattle.machine_pieces.specs.Standing.{WordsAt}
use Rattle.machine_stubs.specs.Stretches.{StubAt}
use Rattle.machine_stubs.specs.Start.{StartAt}

-- the pieces of each of them stand in memory
pub record AllStand (u : UnitCode) (base : ℕ) (memory : List Part) : Type 0 where
  pub start : StartAt u base memory
  pub terminate : StubAt u base terminating memory
  pub end_catch : StubAt u base end_catch memory
  pub call_unexpected : StubAt u base call_unexpected memory

-- Where the words of a unit stand, with those of the runtime's own functions in front of them, so do the pieces of each of those.
abbrev pub StubsStand : Type 0
StubsStand = (u : UnitCode) (base : ℕ) (memory : List Part) → WordsAt memory base (emitted_stubs.code ++ unit_words u) → AllStand u base memory
