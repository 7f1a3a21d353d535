-- Rows and folds, as the definitions have them.
use Rattle.std.specs.Prelude.{ℕ, ◌<◌, ⊤, map, reverse}
use Rattle.table_forms.specs.declared.found.Row.{Row}
use Rattle.table_forms.specs.Row as forms
use Rattle.frame_read.specs.declared.folding.State.{State}
use Rattle.frame_read.specs.declared.folding.Folding.{Folding}
use Rattle.frame_read.specs.declared.instruction.Instruction.{Instruction}
use Rattle.frame_read.specs.declared.instruction.Instruction.TheVariants as found

abbrev pub state_seen : State → Row
state_seen s = record { cfa_register = s.cfa_register; cfa_offset = s.cfa_offset; rules = s.rules }

-- the state that was remembered last is restored first
abbrev pub folding_seen : Folding → forms.Folding
folding_seen f = record {
  location = f.location;
  row = state_seen f.row;
  states = reverse (map state_seen f.states.items);
  initial = f.initial;
  stopped = f.stopped;
}

-- where so many states are remembered, one more may be
abbrev pub HasRoom : Instruction → ℕ → Type 0
HasRoom found.RememberState n = n < 16
HasRoom _ n = ⊤
